-- A line that went in comes out again.
use Rattle.std.proofs.Common.{◌≡◌, ℕ, ◌+◌, ◌≤◌, ltb, List, length, Ok, Result, sym, ap, ◌∙◌, arith}
use Rattle.std.proofs.lemmas.Bool.Decides.{nat_tests}
use Rattle.cells.specs.declared.refusal.Refusal.{Refusal}
use Rattle.cells.specs.Refusals.{answered, refused}
use Rattle.matrix.specs.declared.limits.Limits.{Limits}
use Rattle.matrix.specs.Matrix.{Matrix, insert_row, remove_row, row, over}
use Rattle.matrix.specs.Rules.{Within, insert_row_answer, remove_row_answer}
use Rattle.matrix.specs.declared.axis.Axis.{Axis}
use Rattle.matrix.specs.Axes.{along, inserted, removed, line_of, insert_along, remove_along}
use Rattle.matrix.proofs.Goes.{met_at, met_fits, goes_out}
use Rattle.matrix.proofs.Along.{along_twice, within_along}
use Rattle.matrix.proofs.Undo.{remove_insert, row_insert}

-- r is the insertion's answer and m₁ what it left, q the removal's answer and m₂ what that left, with the lines along an axis
module _ {T : Type 0} (ax : Axis) (l : Limits) (i : ℕ) (line mem zs : List T) (m m₁ m₂ : Matrix T) (r q : Result Unit Refusal)
    (w : Within l m) (long : length line ≤ length mem) (ok : r ≡ Ok tt) (ra : r ≡ insert_along l ax i line m) (re : m₁ ≡ answered r (inserted ax i line m) m)
    (qa : q ≡ remove_along ax i mem m₁) (qe : m₂ ≡ answered q (removed ax i m₁) m₁) (ql : zs ≡ answered q (over (line_of ax i m₁) mem) mem) where
  accepted : Ok tt ≡ insert_row_answer l i line (along ax m)
  accepted = sym ok ∙ ra

  -- what stands, along the axis, is the row inserted
  there : along ax m₁ ≡ insert_row i line (along ax m)
  there = ap (along ax) (re ∙ ap (λ a. answered a (inserted ax i line m) m) ok) ∙ along_twice ax (insert_row i line (along ax m))

  out : q ≡ Ok tt
  out = qa ∙ ap (remove_row_answer i mem) there ∙ sym (goes_out i (length mem) ((along ax m).rows + 1) (length line) (let h = met_at l i (length line) (along ax m).rows (along ax m).cols accepted in omega arith) long)

  pub back_answer : q ≡ refused 9 (ltb (length mem) (length line)) (insert_along l ax i line m)
  back_answer = out ∙ accepted ∙ first (insert_along l ax i line m)
    where
      first : (a : Result Unit Refusal) → a ≡ refused 9 (ltb (length mem) (length line)) a
      first a = grind (arith, nat_tests)

  pub back_effect : m₂ ≡ m
  back_effect = qe ∙ ap (λ a. answered a (removed ax i m₁) m₁) out ∙ ap (λ n. along ax (remove_row i n)) there
      ∙ ap (along ax) (remove_insert i line (along ax m) (within_along ax w).shaped (met_fits l i (length line) (along ax m).rows (along ax m).cols accepted))
      ∙ along_twice ax m

  pub back_line : zs ≡ answered q (over line mem) mem
  back_line = ql ∙ ap (λ n. answered q (over (row i n) mem) mem) there ∙ ap (λ xs. answered q (over xs mem) mem) (row_insert i line (along ax m))
