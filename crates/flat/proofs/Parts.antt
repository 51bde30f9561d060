-- Two parts of a slice that change places, and a front that is filled.
use Rattle.std.proofs.Common.{◌≡◌, ℕ, ◌+◌, ◌<◌, ◌≤◌, List, [], ◌∷◌, ◌++◌, zero, suc, length, take, drop, Some, subst, ap, ◌∙◌, arith, rules}
use borrow.Rule.Slice.PartMut.{put_mid}
use Rattle.std.specs.List.{slice_get, FoldsTo}
use Rattle.std.proofs.lemmas.List.{places}
use Rattle.matrix.proofs.Cells.{nth_same, nth_kept}
use Rattle.flat.specs.Moves.{Exchanged, Filled}

-- the two parts of one slice that change places
pub crossed : {X : Type 0} (xs front back mid last : List X) (p q w n : ℕ) → w ≡ n → p + n ≤ q → q + n ≤ length xs → front ≡ take q xs → back ≡ drop q xs → mid ≡ take n back → last ≡ take w (drop p front) → Exchanged xs (put_mid p w front mid ++ (last ++ drop n back)) p q n
crossed {X} xs front back mid last p q w n ew hp hq ef eb em el = record {
  len = all;
  first = λ k h. nth_same ys xs (p + k) (q + k) (omega (arith, all)) (omega arith) (λ d. search (rules, places));
  second = λ k h. nth_same ys xs (q + k) (p + k) (omega (arith, all)) (omega arith) (λ d. search (rules, places));
  below = λ k h. nth_kept xs ys k all (λ d. search (rules, places));
  amid = λ k h g. nth_kept xs ys k all (λ d. search (rules, places));
  above = λ k h. nth_kept xs ys k all (λ d. search (rules, places));
}
  where
    ys : List X
    ys = put_mid p w front mid ++ (last ++ drop n back)

    all : length ys ≡ length xs
    all = search (rules, places)

-- what `fill_with` leaves, where each call gives x
module _ {X F : Type 0} (R : F → X → F → Type 0) (f : F) (x : X) (each : (y : X) (h : F) → R f y h → (y ≡ x) × (h ≡ f)) where
  filled_all : (ys : List X) (last : F) → FoldsTo R f ys last → (k : ℕ) → k < length ys → slice_get ys k ≡ Some x
  filled_all [] last r k h = absurd (omega arith)
  filled_all (y ∷ ys) last r zero h = ap Some (each y r.0 r.1).0
  filled_all (y ∷ ys) last r (suc k) h = filled_all ys last (subst (λ g. FoldsTo R g ys last) (each y r.0 r.1).1 r.2) k (omega arith)

  pub filled_part : (xs ys : List X) (p n w : ℕ) → w ≡ n → p + n ≤ length xs → length ys ≡ n → (last : F) × FoldsTo R f ys last → Filled xs (put_mid p w xs ys) p n x
  filled_part xs ys p n w e h l r = record {
    len = all;
    filled = λ k b. nth_same (put_mid p w xs ys) ys (p + k) k (omega (arith, all)) (omega arith) (λ d. search (rules, places)) ∙ filled_all ys r.0 r.1 k (omega arith);
    below = λ k b. nth_kept xs (put_mid p w xs ys) k all (λ d. search (rules, places));
    above = λ k b. nth_kept xs (put_mid p w xs ys) k all (λ d. search (rules, places));
  }
    where
      all : length (put_mid p w xs ys) ≡ length xs
      all = search (rules, places)
