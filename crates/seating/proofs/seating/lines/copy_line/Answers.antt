use Rattle.std.proofs.Common.{◌≡◌, ℕ, ◌≤◌, length, length-take-le, take, sym, refl, ap, subst, ◌∙◌, arith}
use Rattle.std.specs.List.{slice_get}
use Rattle.std.proofs.lemmas.Option.{slice_get_read}
use Rattle.matrix.specs.Axes.{other}
use Rattle.matrix.proofs.Gather.{Gathered, gathered_more}
use Rattle.seating.specs.Seats.{bench_of}
use Rattle.seating.specs.Lines.{line_spots}
use Rattle.seating.proofs.Copies.{copied_line}
use Rattle.seating.proofs.Fits.{across_counted}
use Rattle.seating.proofs.seating.lines.copy_line.Goals as goal

pub loop-c-preserved : goal.loop-c-preserved
loop-c-preserved g c =
    let a = c.args in
    let l = c.loop-c in
    let k = c.spot_along.ensures in
    let read = ap (slice_get a.s.now) (sym k.answer) ∙ slice_get_read a.s.now _ c.spot_along.result _ refl (omega (arith, k.inside, c.requires.room)) c.index-s-spot_along.is in
    gathered_more a.s.now _ l.x-items (line_spots a.axis a.i a.seats.now) l.c c.index-s-spot_along.result read (omega (arith, l.invariant.len)) l.invariant

pub returns : goal.returns
returns g c =
    let a = c.args in
    let s = a.seats.now in
    let mem = a.memory.now in
    let line = c.loop-c.x-items in
    let n : ℕ = c.lines-across.result.1 in
    let count : n ≡ (bench_of (other a.axis) s).count = across_counted a.axis s (length a.s.now) c.lines-across.result c.lines-across.ensures.answer c.requires.room in
    let long : n ≤ length mem = let h = c.requires.long in omega (arith, count) in
    let all : length line ≡ n = c.loop-c.invariant.len ∙ length-take-le n mem long in
    record {
      line = copied_line a.axis s a.i n a.s.now mem line count c.requires.at long
          (subst (λ (o : ℕ). Gathered a.s.now (take n mem) line (line_spots a.axis a.i s) o) (let z : c.loop-c.c ≡ n = omega (arith, all) in z) c.loop-c.invariant);
    }
