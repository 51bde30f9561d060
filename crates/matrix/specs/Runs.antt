-- A list of calls made one after another, on whatever answers them.
use Rattle.std.specs.Prelude.{List, [], ◌∷◌}

-- what is left, where a call c leaves `next c s` of s
abbrev pub after : {C S : Type 0} → (C → S → S) → List C → S → S
after next [] s = s
after next (c ∷ cs) s = after next cs (next c s)

-- the answers in their order, where a call c is answered `reply c s`
abbrev pub replies : {C S A : Type 0} → (C → S → S) → (C → S → A) → List C → S → List A
replies next reply [] s = []
replies next reply (c ∷ cs) s = reply c s ∷ replies next reply cs (next c s)
