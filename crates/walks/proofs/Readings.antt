-- A walk that is read into memory, one item more.
use Rattle.std.proofs.Common.{◌≡◌, ℕ, zero, suc, ◌+◌, ◌<◌, ◌≤◌, min, List, [], ◌∷◌, length, take, drop, set, Some, None, Option, sym, refl, ap, ◌∙◌, ⊎_elim, take_all, arith, rules, length-drop, length-take-le}
use Rattle.std.specs.List.{slice_get}
use Rattle.std.proofs.lemmas.List.{drop-drop, drop_all}
use Rattle.std.proofs.lemmas.Option.{slice_get_within, slice_get_cases}
use Rattle.matrix.specs.Matrix.{over}
use Rattle.matrix.proofs.Stretches.{take_one_more, over_one_more}

pub front_drop : {X : Type 0} (k : ℕ) (xs : List X) → slice_get (drop k xs) 0 ≡ slice_get xs k
front_drop zero xs = refl
front_drop (suc k) [] = refl
front_drop (suc k) (x ∷ xs) = front_drop k xs

-- after k steps: all was still to come, of which `left` is
pub record Read {S X : Type 0} (moved : ℕ → S → S) (start now : S) (all left before memory : List X) (k : ℕ) : Type 0 where
  pub state : now ≡ moved k start
  pub enough : k ≤ length all
  pub rest : left ≡ drop k all
  pub taken : memory ≡ over (take k all) before

-- after k steps nothing more comes
pub record Ended {S X : Type 0} (moved : ℕ → S → S) (start now : S) (all left before memory : List X) (k : ℕ) : Type 0 where
  pub count : k ≡ min (length before) (length all)
  pub state : now ≡ moved k start
  pub rest : left ≡ drop (length before) all
  pub taken : memory ≡ over (take (length before) all) before

module _ {S X : Type 0} (moved : ℕ → S → S) (further : (w : S) (j k : ℕ) → moved k (moved j w) ≡ moved (j + k) w) (start : S) (all before : List X) where
  module _ (k : ℕ) (now next : S) (left left' memory : List X) (p : Read moved start now all left before memory k) (step : next ≡ moved (min 1 (length left)) now) (on : left' ≡ drop 1 left) where
    rest_on : left' ≡ drop (k + 1) all
    rest_on = on ∙ ap (drop 1) p.rest ∙ drop-drop 1 k all

    pub read_more : (o : Option X) (x : X) → o ≡ Some x → o ≡ slice_get left 0 → k < length before → Read moved start next all left' before (set memory k x) (k + 1)
    read_more o x i e h =
        let found : slice_get all k ≡ Some x = sym (sym i ∙ e ∙ ap (λ ys. slice_get ys 0) p.rest ∙ front_drop k all) in
        let inside : k < length all = slice_get_within all k x found in
        let one : min 1 (length left) ≡ 1 = omega (arith, ap length p.rest, length-drop k all) in
        record {
          state = step ∙ ap (λ n. moved n now) one ∙ ap (moved 1) p.state ∙ further start k 1;
          enough = omega arith;
          rest = rest_on;
          taken = ap (λ ys. set ys k x) p.taken ∙ over_one_more (take k all) before k x (sym (length-take-le k all (omega arith))) h ∙ ap (λ ys. over ys before) (sym (take_one_more all k x found));
        }

    -- the walk is at its end
    pub read_end : (o : Option X) → o ≡ None → o ≡ slice_get left 0 → k < length before → Ended moved start next all left' before memory k
    read_end o i e h =
        let none : slice_get all k ≡ None = sym (sym i ∙ e ∙ ap (λ ys. slice_get ys 0) p.rest ∙ front_drop k all) in
        let past : length all ≤ k = ⊎_elim (λ found. search (rules, sym none ∙ found.2)) (λ past. past.0) (slice_get_cases all k).1 in
        let still : min 1 (length left) ≡ 0 = omega (arith, ap length p.rest, length-drop k all) in
        let same : k + 0 ≡ k = omega arith in
        record {
          count = omega (arith, p.enough);
          state = step ∙ ap (λ n. moved n now) still ∙ ap (moved 0) p.state ∙ further start k 0 ∙ ap (λ n. moved n start) same;
          rest = rest_on ∙ drop_all (k + 1) all (omega arith) ∙ sym (drop_all (length before) all (omega arith));
          taken = p.taken ∙ ap (λ ys. over ys before) (take_all k all past ∙ sym (take_all (length before) all (omega arith)));
        }
