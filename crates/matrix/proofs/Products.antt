-- Lines of equal length, one after the other: where each begins and ends.
use Rattle.std.proofs.Common.{◌≡◌, ℕ, ◌+◌, ◌-◌, ◌*◌, ◌<◌, ◌≤◌, ap, ◌∙◌, ⊎_elim, mul-le-mul_right, add-mul, mul-le-mul, one-mul, mul-one, mul-add, arith}
use Rattle.std.proofs.lemmas.Bool.{cases_order}

-- a line more
pub line_more : (a w : ℕ) → (a + 1) * w ≡ a * w + w
line_more a w = add-mul a 1 w ∙ ap (λ x. a * w + x) (one-mul w)

-- lines that are a cell wider
pub line_wider : (a w : ℕ) → a * (w + 1) ≡ a * w + a
line_wider a w = mul-add a w 1 ∙ ap (λ x. a * w + x) (mul-one a)

-- an earlier line ends where the later one begins, or before
pub line_ends : (a b w : ℕ) → a < b → a * w + w ≤ b * w
line_ends a b w h = let p : (a + 1) * w ≤ b * w = mul-le-mul_right w (omega arith) in omega (arith, line_more a w)

pub line_back : (a w : ℕ) → 0 < a → a * w ≡ (a - 1) * w + w
line_back a w h = let e : a ≡ a - 1 + 1 = omega arith in ap (λ j. j * w) e ∙ line_more (a - 1) w

pub line_narrower : (a w : ℕ) → 0 < w → a * w ≡ a * (w - 1) + a
line_narrower a w h = let e : w ≡ w - 1 + 1 = omega arith in ap (λ j. a * j) e ∙ line_wider a (w - 1)

-- a line's number and a place in it tell where a cell lies
pub line_apart : (w a b c d : ℕ) → b < w → d < w → a * w + b ≡ c * w + d → (a ≡ c) × (b ≡ d)
line_apart w a b c d hb hd e = ⊎_elim
    (λ (q : a ≡ c). (q, omega (arith, ap (λ j. j * w) q)))
    (⊎_elim (λ (l : a < c). absurd (omega (arith, line_ends a c w l))) (λ (l : c < a). absurd (omega (arith, line_ends c a w l))))
    (cases_order a c)

-- sides within 256 make at most 65,536 cells
pub sides_within : (R C : ℕ) → R ≤ 256 → C ≤ 256 → R * C ≤ 65536
sides_within R C h k = let p : R * C ≤ 256 * 256 = mul-le-mul h k in omega arith
