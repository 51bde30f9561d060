use Rattle.std.proofs.Common.{◌≡◌, ◌+◌, ◌-◌, ◌<◌, ◌≤◌, min, ◌++◌, length, get_or, take, drop, reverse, ⊎_elim, sym, ap, ◌∙◌, arith}
use Rattle.std.proofs.lemmas.Bool.{cases_lt}
use Rattle.std.proofs.Math.Nat.{min_comm}
use Rattle.std.proofs.lemmas.Option.{same_Some, none-some}
use Rattle.std.proofs.lemmas.List.{set-get_or, drop_min, reverse-append, reverse-reverse}
use Rattle.keeps.specs.Kept.{holding}
use Rattle.keeps.proofs.Pulls.{pulled_more, filled_more, pulled_past}
use Rattle.keeps.proofs.lines.pull_line.Given.{Over}
use Rattle.keeps.proofs.lines.pull_line.Goals as goal
use Rattle.keeps.proofs.lines.pull_line.Goals.{in-Some, in_default}

abbrev Now : (g : Over) → goal.Joined-take g → Type 0
Now g c =
    let k = g.K.Keep.store c.args.keep.now in
    let m = length k.cells - (c.loop-place.place-index + 1) in
    (g.K.Keep.store c.take.new.self ≡ holding (take m k.cells) k) × (c.match-take.memory ≡ reverse (drop m k.cells) ++ drop (min (c.loop-place.place-index + 1) (length k.cells)) c.args.memory.now)

pub loop-place-preserved : goal.loop-place-preserved
loop-place-preserved g c =
    let t = c.take.ensures in
    let l = c.loop-place in
    record {
      pulled = λ o.
          let k = g.K.Keep.store c.args.keep.now in
          let k₁ = g.K.Keep.store l.keep in
          let k₂ = g.K.Keep.store c.take.new.self in
          let ys = k.cells in
          let i = l.place-index in
          let m = length ys - (i + 1) in
          let p = l.invariant.pulled o in
          let here : i < length c.args.memory.now = omega (arith, c.loop-place-test.true) in
          let some : i < length ys → Now g c = λ h.
          let left : length ys - i ≡ m + 1 = omega arith in
          let size : length ys ≡ m + 1 + i = omega arith in
          let upto : min i (length ys) ≡ i = omega arith in
          let more : i + 1 ≡ min (i + 1) (length ys) = omega arith in
          let low : m < length ys = omega arith in
          let before : k₁ ≡ holding (take (m + 1) ys) k = p.1 ∙ ap (λ n. holding (take n ys) k) left in
          let filled : l.memory ≡ reverse (drop (m + 1) ys) ++ drop i c.args.memory.now = p.2 ∙ (λ j. reverse (drop (left j) ys) ++ drop (upto j) c.args.memory.now) in
          let q = pulled_more k k₁ k₂ ys m c.take.result c.place-item.result low before (t.effect p.0) (t.answer p.0) in
          elim c.match-take.branch [
            | in-Some w ↦
                let x = w.in-Some.x in
                let e = pulled_more k k₁ k₂ ys m c.take.result x low before (t.effect p.0) (t.answer p.0) in
                (q.0, w.memory-is ∙ filled_more c.args.memory.now l.memory ys i m x here size filled (same_Some x (get_or ys m x) (sym w.in-Some.is ∙ e.1)) ∙ ap (λ n. reverse (drop m ys) ++ drop n c.args.memory.now) more)
            | in_default w ↦ absurd (w.in_default.not-Some _ q.1)
          ] in
          let none : length ys ≤ i → Now g c = λ h.
          let none_left : length ys - i ≡ 0 = omega arith in
          let m_is : 0 ≡ m = omega arith in
          let zero : length ys - i ≡ m = omega arith in
          let upto : min i (length ys) ≡ min (i + 1) (length ys) = omega arith in
          let q = pulled_past k k₁ k₂ ys (length ys - i) c.take.result none_left p.1 (t.effect p.0) (t.answer p.0) in
          elim c.match-take.branch [
            | in-Some w ↦ absurd (none-some w.in-Some.x (sym q.1 ∙ w.in-Some.is))
            | in_default w ↦
                (q.0 ∙ ap (λ n. holding (take n ys) k) m_is, w.memory-is ∙ set-get_or l.memory i _ ∙ p.2 ∙ (λ j. reverse (drop (zero j) ys) ++ drop (upto j) c.args.memory.now))
          ] in
          let both = ⊎_elim some none (cases_lt i (length ys)) in
          (t.ordered p.0, both.0, both.1);
      most = t.limit ∙ l.invariant.most;
    }

pub returns : goal.returns
returns g c =
    let ys = (g.K.Keep.store c.args.keep.now).cells in
    let memory = c.args.memory.now in
    let l = c.loop-place in
    let all : l.place-index ≡ length memory = omega (arith, c.loop-place-test.false, l.auto.place-index-end) in
    let left : length ys - l.place-index ≡ length ys - length memory = ap (λ n. length ys - n) all in
    let rest : drop (min l.place-index (length ys)) memory ≡ drop (length ys) memory = ap (λ n. drop (min n (length ys)) memory) all ∙ ap (λ n. drop n memory) (min_comm (length memory) (length ys)) ∙ drop_min (length ys) memory in
    record {
      effect = λ o. (l.invariant.pulled o).1 ∙ ap (λ n. holding (take n ys) (g.K.Keep.store c.args.keep.now)) left;
      memory = λ o. c.reverse.ensures.after ∙ ap reverse (l.invariant.pulled o).2 ∙ reverse-append (reverse (drop (length ys - l.place-index) ys)) _ ∙ ap (λ z. reverse z ++ reverse (reverse (drop (length ys - l.place-index) ys))) rest
          ∙ ap (λ z. reverse (drop (length ys) memory) ++ z) (reverse-reverse (drop (length ys - l.place-index) ys)) ∙ ap (λ n. reverse (drop (length ys) memory) ++ drop n ys) left;
      ordered = λ o. (l.invariant.pulled o).0;
      limit = l.invariant.most;
    }
