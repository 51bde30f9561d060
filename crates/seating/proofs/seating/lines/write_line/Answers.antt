use Rattle.std.proofs.Common.{ℕ, ◌+◌, ◌<◌, length, set, sym, refl, subst, arith}
use Rattle.std.proofs.lemmas.Option.{slice_get_read}
use Rattle.seating.specs.Lines.{Written, line_spots}
use Rattle.seating.proofs.Spots.{written_more, lines_apart}
use Rattle.seating.proofs.seating.lines.write_line.Goals as goal

pub loop-c-preserved : goal.loop-c-preserved
loop-c-preserved g c =
    let a = c.args in
    let x = c.index-line-c.result in
    let k = c.spot_along.ensures in
    let seats = a.seats.now in
    let n : ℕ = c.loop-c.c in
    let at : ℕ → ℕ = line_spots a.axis a.i seats in
    subst (λ (p : ℕ). Written at a.line.now (n + 1) a.s.now (set c.loop-c.s p x)) (sym k.answer)
    (written_more at a.line.now n a.s.now c.loop-c.s x (λ d h z. (lines_apart a.axis seats a.i d a.i n (omega arith) (omega arith) (omega arith) (omega arith) z).1) (subst (λ (p : ℕ). p < length a.s.now) k.answer (omega arith)) (slice_get_read a.line.now _ n _ refl (omega arith) c.index-line-c.is) c.loop-c.invariant)
