-- The words of a text, one after another.
use Rattle.std.proofs.Common.{◌≡◌, ℕ, suc, ◌+◌, ◌<◌, ◌≤◌, List, [], ◌∷◌, ◌++◌, length, drop, get_or, Bool, true, false, cond, ◌||◌, not, ◌==◌, filter, flat_map, refl, sym, ap, ◌∙◌, subst, true≢false, arith}
use Rattle.std.specs.List.{All, slice_split, slice_range, onto_first}
use Rattle.std.proofs.Math.Seq.{drop-cons}
use Rattle.std.proofs.lemmas.Bool.{cases_lt, eqb-true}
use Rattle.std.proofs.lemmas.Grind.{common_steps}
use Rattle.std.proofs.lemmas.List.{drop_all}
use Rattle.std.proofs.lemmas.List.Folds.{drop_split}
use Rattle.std.proofs.lemmas.List.Splits.{slice_split_none, slice_split_at, slice_split-cons_yes, slice_split-cons_no, length-slice_split}
use Rattle.listing.specs.Calls.{texts}
use Rattle.scoresheet.specs.Lists.{gap, parted}
use borrow.Author.Tests.{ne_eqb}
use denote.Ref.{Bor}
use mathlib.Core.Logic.{⊎_elim}

abbrev spaced : List ℕ → List (List ℕ)
spaced text = slice_split (λ b. b == 32) text

abbrev tabbed : List ℕ → List (List ℕ)
tabbed part = slice_split (λ b. b == 9) part

-- a byte that is no tab goes before the first part, whether each part is parted at its tabs before or after
onto : (x : ℕ) (ps : List (List ℕ)) → 0 < length ps → (x == 9) ≡ false → flat_map tabbed (onto_first x ps) ≡ onto_first x (flat_map tabbed ps)
onto x [] l e = absurd (omega arith)
onto x (p ∷ ps) l e = ap (λ z. z ++ flat_map tabbed ps) (slice_split-cons_no (λ b. b == 9) x p e) ∙ go (tabbed p) (omega (arith, length-slice_split (λ b. b == 9) p))
  where
    go : (qs : List (List ℕ)) → 0 < length qs → onto_first x qs ++ flat_map tabbed ps ≡ onto_first x (qs ++ flat_map tabbed ps)
    go [] l = absurd (omega arith)
    go (q ∷ qs) l = refl

-- a tab before the first part makes an empty one of its own
tab : (x : ℕ) (ps : List (List ℕ)) → 0 < length ps → (x == 9) ≡ true → flat_map tabbed (onto_first x ps) ≡ [] ∷ flat_map tabbed ps
tab x [] l e = absurd (omega arith)
tab x (p ∷ ps) l e = ap (λ z. z ++ flat_map tabbed ps) (slice_split-cons_yes (λ b. b == 9) x p e)

-- parted at spaces, and each part at tabs, a text is parted at both
both : (xs : List ℕ) → flat_map tabbed (spaced xs) ≡ slice_split gap xs
both [] = refl
both (x ∷ xs) = go (x == 32) (x == 9) refl refl (both xs)
  where
    some : 0 < length (spaced xs)
    some = omega (arith, length-slice_split (λ b. b == 32) xs)

    go : (s t : Bool) → (x == 32) ≡ s → (x == 9) ≡ t → flat_map tabbed (spaced xs) ≡ slice_split gap xs → flat_map tabbed (spaced (x ∷ xs)) ≡ slice_split gap (x ∷ xs)
    go true t e f more = ap (flat_map tabbed) (slice_split-cons_yes (λ b. b == 32) x xs e) ∙ ap (λ z. [] ∷ z) more ∙ sym (slice_split-cons_yes gap x xs (ap (λ b. b || (x == 9)) e))
    go false true e f more =
        ap (flat_map tabbed) (slice_split-cons_no (λ b. b == 32) x xs e) ∙ tab x (spaced xs) some f ∙ ap (λ z. [] ∷ z) more ∙ sym (slice_split-cons_yes gap x xs (ap (λ b. b || (x == 9)) e ∙ f))
    go false false e f more =
        ap (flat_map tabbed) (slice_split-cons_no (λ b. b == 32) x xs e) ∙ onto x (spaced xs) some f ∙ ap (onto_first x) more ∙ sym (slice_split-cons_no gap x xs (ap (λ b. b || (x == 9)) e ∙ f))

-- a gap is a character of one byte
pub gap_low : (b : ℕ) → gap b ≡ true → b < 128
gap_low b e = go (b == 32) (b == 9) refl refl
  where
    go : (s t : Bool) → (b == 32) ≡ s → (b == 9) ≡ t → b < 128
    go true t f g = let n : b ≡ 32 = eqb-true b 32 f in omega arith
    go false true f g = let n : b ≡ 9 = eqb-true b 9 g in omega arith
    go false false f g = absurd (true≢false (sym e ∙ ap (λ c. c || (b == 9)) f ∙ g))

-- from one place up to another no byte is a gap
abbrev pub NoGap : List ℕ → ℕ → ℕ → Type 0
NoGap bs from at = (k : ℕ) → from ≤ k → k < at → gap (get_or bs k 0) ≡ false

-- nor is the next
pub no_gap_more : (bs : List ℕ) (from at : ℕ) → NoGap bs from at → gap (get_or bs at 0) ≡ false → NoGap bs from (at + 1)
no_gap_more bs from at h e k l m = ⊎_elim (λ n. h k l n) (λ n. let same : at ≡ k = omega arith in subst (λ j. gap (get_or bs j 0) ≡ false) same e) (cases_lt k at)

in_part : (bs : List ℕ) (from at : ℕ) → from ≤ at → at ≤ length bs → NoGap bs from at → All (λ b. gap b ≡ false) (slice_range bs from at)
in_part bs from at l m h k d b = let at_k = h (from + k) (omega arith) (grind (arith, common_steps)) in grind (arith, common_steps)

next : (bs : List ℕ) (at : ℕ) → at < length bs → drop at bs ≡ get_or bs at 0 ∷ drop (at + 1) bs
next bs at m = let e : suc at ≡ at + 1 = omega arith in drop-cons bs at 0 m ∙ ap (λ n. get_or bs at 0 ∷ drop n bs) e

-- the words among parts
abbrev pub wordy : List (List ℕ) → List (List ℕ)
wordy parts = filter (λ word. not (length word == 0)) parts

-- the words of a text from a place on
abbrev pub left : List ℕ → ℕ → List (List ℕ)
left bs from = wordy (slice_split gap (drop from bs))

some_word : (w : List ℕ) (ps : List (List ℕ)) → 0 < length w → wordy (w ∷ ps) ≡ w ∷ wordy ps
some_word [] ps l = absurd (omega arith)
some_word (b ∷ bs) ps l = ap (λ e. cond (not e) ((b ∷ bs) ∷ wordy ps) (wordy ps)) (ne_eqb (length (b ∷ bs)) 0 (λ z. omega arith))

-- a gap ends a word
pub word_at : (bs : List ℕ) (from at : ℕ) → from < at → at < length bs → NoGap bs from at → gap (get_or bs at 0) ≡ true → left bs from ≡ slice_range bs from at ∷ left bs (at + 1)
word_at bs from at l m h e =
    ap (λ xs. wordy (slice_split gap xs)) (drop_split bs from at (omega arith) ∙ ap (λ z. slice_range bs from at ++ z) (next bs at m))
    ∙ ap wordy (slice_split_at gap (slice_range bs from at) (get_or bs at 0) (drop (at + 1) bs) (in_part bs from at (omega arith) (omega arith) h) e)
    ∙ some_word (slice_range bs from at) (slice_split gap (drop (at + 1) bs)) (grind (arith, common_steps))

-- or, where none has begun, nothing
pub none_at : (bs : List ℕ) (at : ℕ) → at < length bs → gap (get_or bs at 0) ≡ true → left bs at ≡ left bs (at + 1)
none_at bs at m e = ap (λ xs. wordy (slice_split gap xs)) (next bs at m) ∙ ap wordy (slice_split-cons_yes gap (get_or bs at 0) (drop (at + 1) bs) e)

-- and so does the end of the text
pub word_end : (bs : List ℕ) (from : ℕ) → from < length bs → NoGap bs from (length bs) → left bs from ≡ drop from bs ∷ []
word_end bs from l h =
    ap wordy (slice_split_none gap (drop from bs) (λ k d b. let at_k = h (from + k) (omega arith) (grind (arith, common_steps)) in grind (arith, common_steps)))
    ∙ some_word (drop from bs) [] (grind (arith, common_steps))

pub none_end : (bs : List ℕ) (from : ℕ) → length bs ≤ from → left bs from ≡ []
none_end bs from l = ap (λ xs. wordy (slice_split gap xs)) (drop_all from bs l)

-- the words of a text are those from its front on
pub whole : (bs : List ℕ) → left bs 0 ≡ parted bs
whole bs = ap wordy (sym (both bs))

-- the word that was taken last is the first that was left
pub pushed : (ws : List (Bor (List ℕ))) (w : Bor (List ℕ)) (rest : List (List ℕ)) → texts (ws ++ w ∷ []) ++ rest ≡ texts ws ++ w.now ∷ rest
pushed [] w rest = refl
pushed (v ∷ ws) w rest = ap (λ z. v.now ∷ z) (pushed ws w rest)
