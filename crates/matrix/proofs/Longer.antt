-- A list of calls of which one more is made.
use Rattle.std.proofs.Common.{◌≡◌, ℕ, ◌+◌, ◌<◌, ◌≤◌, List, [], ◌∷◌, length, take, set, Some, sym, ap, ◌∙◌, arith, length-take-le, take_all}
use Rattle.std.specs.List.{slice_get}
use Rattle.matrix.specs.Matrix.{over}
use Rattle.matrix.specs.Runs.{after, replies}
use Rattle.matrix.proofs.Runs.{after_append, replies_append, replies_length}
use Rattle.matrix.proofs.Stretches.{take_one_more, over_one_more}

-- what is left, and the answers written over a memory for them
module _ {C S A : Type 0} (next : C → S → S) (reply : C → S → A) (cs : List C) (k : ℕ) (c : C) (e : slice_get cs k ≡ Some c) (s : S) where
  pub after_one_more : next c (after next (take k cs) s) ≡ after next (take (k + 1) cs) s
  after_one_more = sym (ap (λ xs. after next xs s) (take_one_more cs k c e) ∙ after_append next reply (take k cs) (c ∷ []) s)

  pub said_one_more : (before : List A) → k < length cs → k < length before
      → set (over (replies next reply (take k cs) s) before) k (reply c (after next (take k cs) s)) ≡ over (replies next reply (take (k + 1) cs) s) before
  said_one_more before hk hb =
      over_one_more (replies next reply (take k cs) s) before k _ (sym (replies_length next reply (take k cs) s ∙ length-take-le k cs (omega arith))) hb
      ∙ ap (λ rs. over rs before) (sym (ap (λ xs. replies next reply xs s) (take_one_more cs k c e) ∙ replies_append next reply (take k cs) (c ∷ []) s))

-- and where none is left
pub take_past : {X : Type 0} (xs : List X) (k : ℕ) → length xs ≤ k → take k xs ≡ take (k + 1) xs
take_past xs k h = take_all k xs h ∙ sym (take_all (k + 1) xs (omega arith))

-- the first k calls have been made within the limits l, which are m now: what is left, and the answers said over those before
pub record SoFar {L C S A : Type 0} (next : L → C → S → S) (reply : L → C → S → A) (l m : L) (cs : List C) (start now : S) (before answers : List A) (k : ℕ) : Type 0 where
  pub limits : m ≡ l
  pub state : now ≡ after (next l) (take k cs) start
  pub said : answers ≡ over (replies (next l) (reply l) (take k cs) start) before

module _ {L C S A : Type 0} (next : L → C → S → S) (reply : L → C → S → A) (l m : L) (cs : List C) (start now : S) (before answers : List A) (k : ℕ) where
  pub one_more : (m' : L) (now' : S) (c : C) (a : A) → slice_get cs k ≡ Some c → k < length cs → k < length before → a ≡ reply m c now → now' ≡ next m c now → m' ≡ m
      → SoFar next reply l m cs start now before answers k → SoFar next reply l m' cs start now' before (set answers k a) (k + 1)
  one_more m' now' c a e hk hb ea en em p = record {
    limits = em ∙ p.limits;
    state = en ∙ ap (λ z. next z c now) p.limits ∙ ap (next l c) p.state ∙ after_one_more (next l) (reply l) cs k c e start;
    said = ap (λ z. set answers k z) (ea ∙ ap (λ z. reply z c now) p.limits ∙ ap (reply l c) p.state)
        ∙ ap (λ z. set z k (reply l c (after (next l) (take k cs) start))) p.said
        ∙ said_one_more (next l) (reply l) cs k c e start before hk hb;
  }

  -- no calls are left
  pub none_more : length cs ≤ k → SoFar next reply l m cs start now before answers k → SoFar next reply l m cs start now before answers (k + 1)
  none_more h p = record {
    limits = p.limits;
    state = p.state ∙ ap (λ xs. after (next l) xs start) (take_past cs k h);
    said = p.said ∙ ap (λ xs. over (replies (next l) (reply l) xs start) before) (take_past cs k h);
  }
