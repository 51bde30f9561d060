-- The word that spells each cell, and which cell a word spells.
use Rattle.std.specs.Prelude.{◌≡◌, ℕ, ◌^◌, ◌<◌, List, Some, None, codes, decimal, Option, FitsSigned}
use Rattle.std.specs.Int.{w32}
use Rattle.std.specs.Str.Parse.{IsNumeral, digits_value, without_leading_sign, signed_digits_value}
use Rattle.std.specs.Fmt.{signed_decimal}
use Rattle.cells.specs.declared.kinds.Mark.{Mark}
use Rattle.cells.specs.declared.kinds.Mark.TheVariants.{DidNotStart, DidNotFinish, Disqualified, OffCourse}
use Rattle.cells.specs.declared.kinds.Passage.{Passage}
use Rattle.cells.specs.declared.kinds.Penalty.{Penalty}

abbrev pub mark_word : Mark → List ℕ
mark_word DidNotStart = codes "DNS"
mark_word DidNotFinish = codes "DNF"
mark_word Disqualified = codes "DSQ"
mark_word OffCourse = codes "OFF"

abbrev pub passage_word : Passage → List ℕ
passage_word Passage.Blank = codes "-"
passage_word (Passage.Time n) = decimal n
passage_word (Passage.Mark m) = mark_word m

abbrev pub penalty_word : Penalty → List ℕ
penalty_word p = signed_decimal p.0

-- Nothing has it.
abbrev pub Nothing : {A : Type 0} → (A → Type 0) → Type 0
Nothing P = (x : _) → P x → ⊥

-- A word, or words, are read as what they say, and as nothing just where they say nothing.
abbrev pub Read : {W A : Type 0} → (W → A → Type 0) → W → Option A → Type 0
Read says w None = Nothing (says w)
Read says w (Some x) = says w x

-- decimal digits alone write n, which has at most k bits
abbrev pub Number : ℕ → List ℕ → ℕ → Type 0
Number k w n = IsNumeral 10 w × (digits_value 10 w < 2 ^ k) × (n ≡ digits_value 10 w)

abbrev pub Marks : List ℕ → Mark → Type 0
Marks w m = w ≡ mark_word m

abbrev pub Passes : List ℕ → Passage → Type 0
Passes w Passage.Blank = w ≡ codes "-"
Passes w (Passage.Time n) = Number 32 w n
Passes w (Passage.Mark m) = Marks w m

-- decimal digits, after a sign or none, write a number of 32 bits
abbrev pub Adds : List ℕ → Penalty → Type 0
Adds w p = IsNumeral 10 (without_leading_sign w) × FitsSigned w32 (signed_digits_value 10 w) × (p.0 ≡ signed_digits_value 10 w)
