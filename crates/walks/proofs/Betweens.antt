-- What is still to come between two places, one step on.
use Rattle.std.proofs.Common.{◌≡◌, ℕ, suc, ◌+◌, ◌-◌, ◌<◌, ◌≤◌, min, [], length, drop, Some, None, Option, sym, ap, ◌∙◌, ⊎_elim, arith}
use Rattle.std.specs.List.{slice_get}
use Rattle.std.proofs.lemmas.Bool.{cases_lt}
use Rattle.matrix.specs.Matrix.{before, listed}
use Rattle.matrix.proofs.Undo.{listed_within}
use Rattle.walks.specs.Walks.{between}

-- a step has given o, and what is still to come begins at `next`
pub record Step {X : Type 0} (at next end : ℕ) (f : ℕ → Option X) (o : Option X) : Type 0 where
  pub answer : o ≡ slice_get (between at end f) 0
  pub place : next ≡ at + min 1 (length (between at end f))
  pub rest : between next end f ≡ drop 1 (between at end f)

module _ {X : Type 0} (at end : ℕ) (f : ℕ → Option X) where
  none_left : end ≤ at → between at end f ≡ []
  none_left h = let e : end - at ≡ 0 = omega arith in ap (λ n. listed n (λ k. f (at + k))) e

  -- from the first place on, where at least one is left
  opened : at < end → (o : Option X) → f at ≡ o → between at end f ≡ before o (between (at + 1) end f)
  opened h o e =
      let n : end - at ≡ suc (end - (at + 1)) = omega arith in
      let z : at + 0 ≡ at = omega arith in
      ap (λ n. listed n (λ k. f (at + k))) n
      ∙ ap (λ o. before o (listed (end - (at + 1)) (λ k. f (at + suc k)))) (ap f z ∙ e)
      ∙ ap (before o) (listed_within (end - (at + 1)) (λ k. f (at + suc k)) (λ k. f (at + 1 + k)) (λ k l. ap f (omega arith)))

  pub step_some : (x : X) → at < end → f at ≡ Some x → Step at (at + 1) end f (Some x)
  step_some x h e =
      let all = opened h (Some x) e in
      record { answer = ap (λ xs. slice_get xs 0) (sym all); place = omega (arith, ap length all); rest = ap (drop 1) (sym all) }

  pub step_none : (at < end → f at ≡ None) → Step at at end f None
  step_none e =
      let all = ⊎_elim (λ (h : at < end). opened h None (e h)) (λ (h : end ≤ at). none_left h) (cases_lt at end) in
      record { answer = ap (λ xs. slice_get xs 0) (sym all); place = omega (arith, ap length all); rest = all ∙ ap (drop 1) (sym all) }

-- from the first place on
pub all_between : {X : Type 0} (n : ℕ) (f : ℕ → Option X) → listed n f ≡ between 0 n f
all_between n f =
    let e : n ≡ n - 0 = omega arith in
    ap (λ j. listed j f) e ∙ listed_within (n - 0) f (λ k. f (0 + k)) (λ k l. ap f (omega arith))
