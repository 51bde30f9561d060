-- The words of a list's lines, and what they say.
use Rattle.std.specs.Prelude.{◌≡◌, ℕ, ◌+◌, List, [], ◌∷◌, ◌==◌, ◌++◌, ◌||◌, Bool, not, length, map, take, filter, flat_map, Option, Result, Some, None, Ok, Err}
use Rattle.std.specs.List.{before_first, slice_split}
use Rattle.listing.specs.declared.call.Call.{Call}
use Rattle.listing.specs.declared.call.Fresh.{Fresh}
use Rattle.listing.specs.declared.wrong.Wrong.{Wrong}
use Rattle.listing.specs.Calls.{Reads}
use Rattle.scoresheet.specs.declared.lines.Line.{Line}

-- the text of a line up to its comment
abbrev pub uncommented : List ℕ → List ℕ
uncommented line = before_first (λ b. b == 35) line

-- a space or a tab
abbrev pub gap : ℕ → Bool
gap b = (b == 32) || (b == 9)

-- the words of a text: spaces and tabs separate them, and an empty part is none
abbrev pub parted : List ℕ → List (List ℕ)
parted text = filter (λ word. not (length word == 0)) (flat_map (λ part. slice_split (λ b. b == 9) part) (slice_split (λ b. b == 32) text))

-- the words of a line up to its comment
abbrev pub words : List ℕ → List (List ℕ)
words line = parted (uncommented line)

-- what a line that has a word says
abbrev pub Says : List (List ℕ) → Result Call Wrong → Type 0
Says ws (Ok call) = Reads ws (Ok (Some call))
Says ws (Err wrong) = Reads ws (Err wrong)

-- the lines from line n on that have a word, each with its number and what it says
abbrev pub AreLines : ℕ → List (List (List ℕ)) → List Line → Type 0
AreLines n [] ls = ls ≡ []
AreLines n ([] ∷ more) ls = AreLines (n + 1) more ls
AreLines n ((w ∷ ws) ∷ more) [] = ⊥
AreLines n ((w ∷ ws) ∷ more) (l ∷ ls) = (l.number ≡ n) × Says (w ∷ ws) l.call × AreLines (n + 1) more ls

-- the words of the first n lines of a list
abbrev pub first_words : ℕ → List (List ℕ) → List (List (List ℕ))
first_words n list = map words (take n list)

-- what a list says in its lines after the first n, up to the first m: after what the first n say, it is what the first m say
abbrev pub Between : List (List ℕ) → ℕ → ℕ → List Line → Type 0
Between list n m us = (ls : List Line) → AreLines 1 (first_words n list) ls → AreLines 1 (first_words m list) (ls ++ us)

-- the sheet that a line makes, if it makes one
abbrev pub sheet_made : Result Call Wrong → Option Fresh
sheet_made (Ok (Call.New fresh)) = Some fresh
sheet_made call = None
