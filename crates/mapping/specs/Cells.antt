-- What two rules make of a cell.
use Rattle.std.specs.Prelude.{suc, ◌/◌, cond, ℤ, pos, negsuc, neg_ℤ, ◌==◌}
use Rattle.cells.specs.declared.kinds.Passage.{Passage}
use Rattle.cells.specs.declared.kinds.Penalty.{Penalty}

-- a time's thousandths divided by ten, the rest dropped; blanks and marks stay
abbrev pub hundredths : Passage → Passage
hundredths Passage.Blank = Passage.Blank
hundredths (Passage.Time thousandths) = Passage.Time (thousandths / 10)
hundredths (Passage.Mark mark) = Passage.Mark mark

-- the other sign, and the highest number where the lowest has none
abbrev pub opposite : ℤ → ℤ
opposite (pos n) = neg_ℤ (pos n)
opposite (negsuc n) = cond (n == 2147483647) (pos 2147483647) (pos (suc n))

abbrev pub negated : Penalty → Penalty
negated p = record { 0 = opposite p.0 }
