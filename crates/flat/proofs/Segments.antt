-- Segments of a list, found by numbers that stay within it.
use Rattle.std.proofs.Common.{◌≡◌, ℕ, ◌+◌, ◌-◌, min, List, ◌++◌, length, take, drop, ap, ◌∙◌, arith}
use Rattle.matrix.proofs.Stretches.{take_clipped, clipped, past_clipped}
use Rattle.flat.specs.declared.segment.Segment.{Segment}
use Rattle.flat.specs.Segments.{part, patched}

module _ {T : Type 0} (xs : List T) (g : Segment) (a e : ℕ) (a_is : a ≡ min g.start (length xs)) (e_is : e ≡ a + min g.len (length xs - a)) where
  long : e - a ≡ min g.len (length xs - a)
  long = omega arith

  pub part_is : take (e - a) (drop a xs) ≡ part xs g
  part_is = clipped xs g.start g.len a (e - a) a_is long

  pub patched_is : (ys : List T) → take a xs ++ (ys ++ drop (e - a) (drop a xs)) ≡ patched xs g ys
  patched_is ys = ap (λ z. z ++ (ys ++ drop (e - a) (drop a xs))) (take_clipped xs g.start a a_is) ∙ ap (λ z. take g.start xs ++ (ys ++ z)) (past_clipped xs g.start g.len a (e - a) a_is long)
