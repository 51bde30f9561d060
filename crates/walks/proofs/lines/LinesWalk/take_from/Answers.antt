use Rattle.std.proofs.Common.{length, refl, ap, ◌∙◌, arith}
use Rattle.std.proofs.lemmas.List.{set-get_or}
use Rattle.std.proofs.lemmas.Option.{slice_get_read}
use Rattle.grid.specs.Grids.{matrix}
use Rattle.walks.specs.Ends.{ahead}
use Rattle.walks.proofs.Takings.{taken_more, taken_past, taken_once}
use Rattle.walks.proofs.lines.LinesWalk.take_from.Goals as goal
use Rattle.walks.proofs.lines.LinesWalk.take_from.Goals.{in-Some, in_default}

pub loop-k-preserved : goal.loop-k-preserved
loop-k-preserved g c =
    let a = c.args in
    let l = c.loop-k in
    let m = matrix a.grid.now in
    elim c.match-get.branch [
      | in-Some w ↦
          let e = w.next_from.ensures in
          let end = w.in-Some.end.now in
          let found = w.in-Some.ensures.lookup in
          let p = taken_more m a.ends.now a.self.now l.self a.lines.now l.lines l.k l.invariant w.next_from.new.self end w.next_from.result
          (slice_get_read a.ends.now (length a.ends.now) l.k end refl found.3.0 found.1) found.3.0 c.loop-k-test.true e.answer e.effect e.rest in
          record { effect = w.self-is ∙ p.effect; rest = ap (λ z. ahead z m) w.self-is ∙ p.rest; said = w.lines-is ∙ p.said }
      | in_default w ↦
          let p = taken_past m a.ends.now a.self.now l.self a.lines.now l.lines l.k l.invariant w.in_default.ensures.lookup.3 in
          record { effect = w.self-is ∙ p.effect; rest = ap (λ z. ahead z m) w.self-is ∙ p.rest; said = w.lines-is ∙ set-get_or l.lines l.k _ ∙ p.said }
    ]

pub returns-clause-once : goal.returns-clause-once
returns-clause-once g c =
    let a = c.args in
    let l = c.loop-k in
    taken_once (matrix a.grid.now) a.ends.now a.self.now l.self a.lines.now l.lines l.k l.invariant (length a.lines.now) (omega (arith, c.loop-k-test.false, l.auto.k-end))
