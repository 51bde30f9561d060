-- What an accepted insertion has met, and what lets a line go out.
use Rattle.std.proofs.Common.{◌≡◌, ℕ, ◌<◌, ◌≤◌, Ok, arith}
use Rattle.std.proofs.lemmas.Bool.Decides.{nat_tests}
use Rattle.matrix.specs.declared.limits.Limits.{Limits}
use Rattle.matrix.specs.Rules.{insert_answer, remove_answer}

pub met_fits : (l : Limits) (i n count across : ℕ) → Ok tt ≡ insert_answer l i n count across → 0 < count → n ≡ across
met_fits l i n count across e h = grind (arith, nat_tests)

pub met_at : (l : Limits) (i n count across : ℕ) → Ok tt ≡ insert_answer l i n count across → i ≤ count
met_at l i n count across e = grind (arith, nat_tests)

pub met_wide : (l : Limits) (i n count across : ℕ) → Ok tt ≡ insert_answer l i n count across → n ≤ l.side
met_wide l i n count across e = grind (arith, nat_tests)

-- a line that is there goes out into memory that is long enough
pub goes_out : (i n count across : ℕ) → i < count → across ≤ n → Ok tt ≡ remove_answer i n count across
goes_out i n count across h k = grind (arith, nat_tests)
