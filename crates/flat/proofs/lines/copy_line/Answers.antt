use Rattle.std.proofs.Common.{◌≡◌, ℕ, ◌+◌, ◌*◌, ◌<◌, take, length, length-take-le, mul_comm, refl, subst, ◌∙◌, arith}
use Rattle.std.proofs.lemmas.Option.{slice_get_read}
use Rattle.matrix.specs.Shapes.{form}
use Rattle.matrix.proofs.Gather.{Gathered, gathered_more}
use Rattle.matrix.proofs.Products.{line_ends}
use Rattle.flat.proofs.Deletes.{copied_outer, gathered_inner}
use Rattle.flat.proofs.Orders.{copied_row_major, copied_column_major}
use Rattle.flat.proofs.lines.copy_line.Goals as goal

pub returns-in-RowMajor : goal.returns-in-RowMajor
returns-in-RowMajor g c =
    let s = c.args.shape in
    record { line = copied_row_major (form s) c.args.i c.args.s.now _ _ c.in-RowMajor.is (copied_outer c.args.s.now _ _ s.rows s.cols c.args.i c.requires.at c.requires.room c.requires.long c.copy.ensures.effect) }

-- one more line gives its cell
pub loop-c-preserved : goal.loop-c-preserved
loop-c-preserved g c =
    let a = c.args in
    let l = c.loop-c in
    let s = a.shape in
    let below : l.c < s.cols = omega (arith, length-take-le s.cols a.memory.now c.requires.long, c.loop-c-test.true) in
    let within : l.c * s.rows + a.i < length a.s.now = omega (arith, line_ends l.c s.cols s.rows below, mul_comm s.cols s.rows, c.requires.at, c.requires.room) in
    gathered_more a.s.now _ l.x-items _ l.c _ (slice_get_read a.s.now _ _ _ refl within c.index-s-c.is) (omega (arith, l.invariant.len, c.loop-c-test.true)) l.invariant

pub returns-after-loop-c : goal.returns-after-loop-c
returns-after-loop-c g c =
    let s = c.args.shape in
    let mem = c.args.memory.now in
    let line = c.loop-c.x-items in
    let all : length line ≡ s.cols = c.loop-c.invariant.len ∙ length-take-le s.cols mem c.requires.long in
    record {
      line = copied_column_major (form s) c.args.i c.args.s.now _ _ c.in-ColumnMajor.is
          (gathered_inner c.args.s.now mem line s.cols s.rows c.args.i (omega arith) c.requires.long (subst (λ (k : ℕ). Gathered c.args.s.now (take s.cols mem) line (λ k. k * s.rows + c.args.i) k) (let z : c.loop-c.c ≡ s.cols = omega (arith, all) in z) c.loop-c.invariant));
    }
