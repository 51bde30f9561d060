-- Memory for a keep, no more than a keep may hold.
use Rattle.std.proofs.Common.{◌≡◌, ℕ, min, ap, arith}
use Rattle.matrix.specs.Rules.{cell_limit}
use Rattle.keeps.specs.Kept.{Store}

-- M of a stack over k cells of memory, which are n, or 65,536 where those are fewer
pub stack_limit : {T : Type 0} (s e : Store T) (k n : ℕ) → s ≡ e → e.most ≡ min k cell_limit → k ≡ min n cell_limit → s.most ≡ min n cell_limit
stack_limit s e k n es em ek = omega (arith, ap (λ (z : Store _). z.most) es, em, ek)
