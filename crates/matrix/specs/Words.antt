-- A value that is read from its word.
use Rattle.std.specs.Prelude.{◌≡◌, ℕ, List, Ok, Err, Result}

-- A value is read from its own word, and from no other.
abbrev pub Named : {X E : Type 0} → (X → List ℕ) → List ℕ → Result X E → Type 0
Named word w (Ok x) = w ≡ word x
Named {X} word w (Err e) = (x : X) → w ≡ word x → ⊥
