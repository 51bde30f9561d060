use Rattle.std.proofs.Common.{◌≡◌, ℕ, ◌+◌, min, length, get_or, take, sym, refl, ap, ◌∙◌, arith}
use Rattle.std.proofs.lemmas.List.{take_more}
use Rattle.matrix.specs.Rules.{cell_limit}
use Rattle.keeps.specs.Kept.{newest, older}
use Rattle.keeps.proofs.Newest.{newest_last, older_last, stack_left}
use Rattle.keeps.proofs.stack.calls.StackKeepKeep.take.Goals as goal

pub returns : goal.returns
returns g c =
    let xs = c.args.self.now.cells.now in
    let n : ℕ = c.in_ok-n.n in
    let at = c.used_now.ensures.answer in
    let few = c.used_now.ensures.few in
    let one : c.used_now.result ≡ n + 1 = grind arith in
    let d = c.index-self-n.result in
    let split = ap (λ j. take j xs) (sym at ∙ one) ∙ take_more xs n d (omega arith) in
    record {
      answer = sym (ap newest split ∙ newest_last (take n xs) (get_or xs n d));
      effect = λ i. record { cells = (stack_left xs n (omega arith) ∙ sym (older_last (take n xs) (get_or xs n d)) ∙ ap older (sym split)) i; most = min (length xs) cell_limit };
      limit = refl;
      memory = refl;
    }
