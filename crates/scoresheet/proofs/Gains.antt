-- Cells that words spell, one after another.
use Rattle.std.proofs.Common.{◌≡◌, ℕ, ◌+◌, ◌<◌, List, [], ◌∷◌, ◌++◌, length, take, get_or, Option, Some, None, Result, Ok, Err, refl, sym, ap, ◌∙◌, subst, Bor, arith}
use Rattle.std.specs.Result.{IsErrAnd}
use Rattle.std.specs.List.{AllZip}
use Rattle.std.proofs.lemmas.List.{append_assoc, take_more, get_or-map, length-map}
use Rattle.std.proofs.lemmas.Slice.Zip.{all_zipped_more}
use Rattle.listing.specs.declared.call.SheetKind.{SheetKind}
use Rattle.listing.specs.declared.wrong.Wrong.{Wrong}
use Rattle.listing.specs.declared.wrong.Failure.{Failure}
use Rattle.listing.specs.Calls.{texts}
use Rattle.listing.specs.Spellings.{Nothing, Read}
use Rattle.listing.specs.Texts.{IsNoMemory}
use Rattle.scoresheet.specs.Cells.{Gained, ReadCells}

module _ {A : Type 0} (spells : List ℕ → A → Type 0) where
  module _ (ws : List (Bor (List ℕ))) (i : ℕ) (l : i < length ws) (d : Bor (List ℕ)) where
    count : i < length (texts ws)
    count = omega (arith, length-map ws (λ w. w.now), l)

    word : get_or (texts ws) i [] ≡ (get_or ws i d).now
    word = get_or-map (λ w. w.now) ws i d [] l

    -- one word more, and its cell
    pub gained_more : (old xs ys : List A) (o : Option A) (x : A) → Gained spells (take i (texts ws)) old xs → Read spells (get_or ws i d).now o
        → o ≡ Some x → ys ≡ xs ++ (x ∷ []) → Gained spells (take (i + 1) (texts ws)) old ys
    gained_more old xs ys o x g read e cells =
        let said : spells (get_or ws i d).now x = subst (λ o. Read spells (get_or ws i d).now o) e read in
        let more : take (i + 1) (texts ws) ≡ take i (texts ws) ++ ((get_or ws i d).now ∷ []) = take_more (texts ws) i [] count ∙ ap (λ w. take i (texts ws) ++ (w ∷ [])) word in (
          g.0 ++ (x ∷ []),
          cells ∙ ap (λ zs. zs ++ (x ∷ [])) g.1 ∙ append_assoc old g.0 (x ∷ []),
          subst (λ vs. AllZip spells vs (g.0 ++ (x ∷ []))) (sym more) (all_zipped_more spells (take i (texts ws)) g.0 (get_or ws i d).now x g.2 said),
        )

    -- a word that spells no cell
    pub cells_none : (kind : SheetKind) (old xs : List A) (o : Option A) (r : Result Unit Failure) → Gained spells (take i (texts ws)) old xs → Read spells (get_or ws i d).now o
        → o ≡ None → r ≡ Err (Failure.Wrong (Wrong.NoCell kind (i + 1))) → ReadCells spells kind (texts ws) old xs r
    cells_none kind old xs o r g read e is =
        let none : Nothing (spells (get_or ws i d).now) = subst (λ o. Read spells (get_or ws i d).now o) e read in
        rw is (i, refl, count, subst (λ w. Nothing (spells w)) (sym word) none, g)

  -- there is no memory
  pub cells_short : (kind : SheetKind) (ws : List (List ℕ)) (i : ℕ) (old xs ys : List A) (r : Result Unit Failure) → Gained spells (take i ws) old xs
      → ys ≡ xs → IsErrAnd r IsNoMemory → ReadCells spells kind ws old ys r
  cells_short kind ws i old xs ys (Ok done) g e none = absurd none
  cells_short kind ws i old xs ys (Err (Failure.Wrong wrong)) g e none = absurd none
  cells_short kind ws i old xs ys (Err (Failure.NoMemory error)) g e none = (i, rw e g)
