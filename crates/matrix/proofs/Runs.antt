-- Lists of calls that follow one another.
use Rattle.std.proofs.Common.{◌≡◌, suc, List, [], ◌∷◌, ◌++◌, length, refl, ap}
use Rattle.matrix.specs.Runs.{after, replies}

module _ {C S A : Type 0} (next : C → S → S) (reply : C → S → A) where
  pub after_append : (cs ds : List C) (s : S) → after next (cs ++ ds) s ≡ after next ds (after next cs s)
  after_append [] ds s = refl
  after_append (c ∷ cs) ds s = after_append cs ds (next c s)

  pub replies_append : (cs ds : List C) (s : S) → replies next reply (cs ++ ds) s ≡ replies next reply cs s ++ replies next reply ds (after next cs s)
  replies_append [] ds s = refl
  replies_append (c ∷ cs) ds s = ap (λ rs. reply c s ∷ rs) (replies_append cs ds (next c s))

  pub replies_length : (cs : List C) (s : S) → length (replies next reply cs s) ≡ length cs
  replies_length [] s = refl
  replies_length (c ∷ cs) s = ap suc (replies_length cs (next c s))
