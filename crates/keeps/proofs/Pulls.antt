-- A line pushed onto a keep, and pulled off it again.
use Rattle.std.proofs.Common.{◌≡◌, ℕ, ◌+◌, ◌-◌, ◌<◌, List, [], ◌∷◌, ◌++◌, length, get_or, take, drop, set, reverse, Some, None, Option, sym, ap, ◌∙◌, arith, length-append, length-drop, take_at, drop_at}
use Rattle.std.proofs.lemmas.List.{append_assoc, take_more, drop_more, drop_all, set_at, length-reverse, reverse-append}
use Rattle.keeps.specs.Kept.{Store, holding, newest, older, taken}
use Rattle.keeps.proofs.Newest.{newest_last, older_last}

-- one cell less
pub pulled_more : {T : Type 0} (k k₁ k₂ : Store T) (ys : List T) (m : ℕ) (o : Option T) (d : T) → m < length ys → k₁ ≡ holding (take (m + 1) ys) k → k₂ ≡ taken k₁ → o ≡ newest k₁.cells → (k₂ ≡ holding (take m ys) k) × (o ≡ Some (get_or ys m d))
pulled_more k k₁ k₂ ys m o d l is k₂-is o_is =
    let c₂ : k₁.cells ≡ take m ys ++ (get_or ys m d ∷ []) = ap (λ z. z.cells) is ∙ take_more ys m d l in
    let r : older k₁.cells ≡ take m ys = ap older c₂ ∙ older_last (take m ys) (get_or ys m d) in
    let m₁ : k₁.most ≡ k.most = ap (λ z. z.most) is in
    (k₂-is ∙ (λ j. record { cells = r j; most = m₁ j }), o_is ∙ ap newest c₂ ∙ newest_last (take m ys) (get_or ys m d))

pub filled_more : {T : Type 0} (old memory ys : List T) (i m : ℕ) (x : T) → i < length old → length ys ≡ m + 1 + i → memory ≡ reverse (drop (m + 1) ys) ++ drop i old → x ≡ get_or ys m x → set memory i x ≡ reverse (drop m ys) ++ drop (i + 1) old
filled_more old memory ys i m x l size is x_is =
    let p = reverse (drop (m + 1) ys) in
    let rest = drop (i + 1) old in
    let long : length p ≡ i = length-reverse (drop (m + 1) ys) ∙ omega (arith, length-drop (m + 1) ys) in
    let more : p ++ (x ∷ []) ≡ reverse (drop m ys) = sym (reverse-append (x ∷ []) (drop (m + 1) ys)) ∙ ap (λ z. reverse (z ∷ drop (m + 1) ys)) x_is ∙ ap reverse (sym (drop_more ys m x (omega arith))) in
    ap (λ z. set z i x) (is ∙ ap (λ z. p ++ z) (drop_more old i x l)) ∙ set_at p (get_or old i x) rest x i long ∙ sym (append_assoc p (x ∷ []) rest) ∙ ap (λ z. z ++ rest) more

-- nothing is left to come off
pub pulled_past : {T : Type 0} (k k₁ k₂ : Store T) (ys : List T) (n : ℕ) (o : Option T) → n ≡ 0 → k₁ ≡ holding (take n ys) k → k₂ ≡ taken k₁ → o ≡ newest k₁.cells → (k₂ ≡ holding [] k) × (o ≡ None)
pulled_past k k₁ k₂ ys n o z is k₂-is o_is =
    let e : k₁ ≡ holding [] k = is ∙ ap (λ j. holding (take j ys) k) z in
    (k₂-is ∙ ap taken e, o_is ∙ ap (λ s. newest s.cells) e)

-- where the keep ends with as many cells as the memory has, these come off
pub pulled_back : {T : Type 0} (k : Store T) (xs ys memory : List T) → k.cells ≡ xs ++ ys → length ys ≡ length memory
    → (holding (take (length k.cells - length memory) k.cells) k ≡ holding xs k) × (reverse (drop (length k.cells) memory) ++ drop (length k.cells - length memory) k.cells ≡ ys)
pulled_back k xs ys memory is same =
    let long = length-append xs ys in
    let n : length xs ≡ length k.cells - length memory = omega (arith, ap length is, long) in (
      ap (λ z. holding z k) (ap (take (length k.cells - length memory)) is ∙ take_at xs ys (length k.cells - length memory) n),
      ap (λ z. reverse z ++ drop (length k.cells - length memory) k.cells) (drop_all (length k.cells) memory (omega (arith, ap length is, long)))
          ∙ ap (drop (length k.cells - length memory)) is ∙ drop_at xs ys (length k.cells - length memory) n,
    )
