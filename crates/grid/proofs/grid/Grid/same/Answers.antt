use Rattle.std.proofs.Common.{◌≡◌, ℕ, sym, ap, ◌∙◌, subst, arith}
use Rattle.matrix.specs.Matrix.{Matrix}
use Rattle.grid.specs.Grids.{matrix}
use Rattle.grid.proofs.Sames.{all_more, SameRow, SameRows, same_grids}
use Rattle.grid.proofs.grid.Grid.same.Goals as goal

pub loop-r-init : goal.loop-r-init
loop-r-init g c = λ k h. absurd (omega arith)

pub loop-c-init : goal.loop-c-init
loop-c-init g c = λ k h. absurd (omega arith)

pub returns-then-not-same_cells-clause-all : goal.returns-then-not-same_cells-clause-all
returns-then-not-same_cells-clause-all g c = λ e. sym c.if-not-same_cells.true ∙ c.same_cells.ensures.all (c.get-mine.ensures.answer ∙ ap (λ (m : Matrix _). m.cell c.loop-r.r c.loop-c.c) e ∙ sym c.get-theirs.ensures.answer)

pub loop-c-preserved : goal.loop-c-preserved
loop-c-preserved g c =
    let m = matrix c.args.self.now in
    let n = matrix c.args.other.now in
    all_more (λ k. m.cell c.loop-r.r k ≡ n.cell c.loop-r.r k) c.loop-c.c c.loop-c.invariant (sym c.get-mine.ensures.answer ∙ c.same_cells.ensures.only c.if-not-same_cells.false ∙ c.get-theirs.ensures.answer)

pub loop-r-preserved : goal.loop-r-preserved
loop-r-preserved g c =
    let m = matrix c.args.self.now in
    let n = matrix c.args.other.now in
    let cols = c.size-rows.result.1 in
    let all : c.loop-c.c ≡ cols = omega arith in
    all_more (SameRow m n cols) c.loop-r.r c.loop-r.invariant (subst (λ k. SameRow m n k c.loop-r.r) all c.loop-c.invariant)

pub returns-clause-only : goal.returns-clause-only
returns-clause-only g c =
    let m = matrix c.args.self.now in
    let n = matrix c.args.other.now in
    let size : c.size-rows.result ≡ (m.rows, m.cols) = c.size-rows.ensures.answer in
    let rows : c.size-rows.result.0 ≡ m.rows = ap (λ (p : ℕ × ℕ). p.0) {y = (m.rows, m.cols)} size in
    let cols : c.size-rows.result.1 ≡ m.cols = ap (λ (p : ℕ × ℕ). p.1) {y = (m.rows, m.cols)} size in
    let all : c.loop-r.r ≡ m.rows = omega (arith, rows) in
    λ _. same_grids c.args.self.now c.args.other.now (sym rows ∙ sym c.if-rows.false ∙ c.rows.ensures.answer) (sym cols ∙ sym c.if-cols.false ∙ c.cols.ensures.answer)
    (subst (λ k. SameRows m n m.cols k) all (subst (λ k. SameRows m n k c.loop-r.r) cols c.loop-r.invariant))
