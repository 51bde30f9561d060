-- What a keep means: a list of cells, and a limit.
use Rattle.std.specs.Prelude.{ℕ, ◌≤◌, List, [], ◌∷◌, ◌++◌, length, Some, None, Option, Result, nat_le}
use Rattle.cells.specs.declared.refusal.Refusal.{Refusal}
use Rattle.cells.specs.Refusals.{refused, accepted}
use Rattle.matrix.specs.Rules.{cell_limit}

-- the cells, the oldest first, and the most cells
pub record Store (T : Type 0) : Type 0 where
  pub cells : List T
  pub most : ℕ

-- What every keep owes: a limit of at most 65,536, and no more cells than that where it is in order.
pub record Small {T : Type 0} (s : Store T) : Type 0 where
  pub most : s.most ≤ cell_limit

pub record Within {T : Type 0} (s : Store T) : Type 0 where
  pub cells : length s.cells ≤ s.most

abbrev pub holding : {T : Type 0} → List T → Store T → Store T
holding xs s = record { cells = xs; most = s.most }

abbrev pub push_answer : {T : Type 0} → Store T → Result Unit Refusal
push_answer s = refused 11 (nat_le s.most (length s.cells)) accepted

abbrev pub pushed : {T : Type 0} → T → Store T → Store T
pushed x s = holding (s.cells ++ (x ∷ [])) s

-- the newest cell, and the cells without it
abbrev pub newest : {T : Type 0} → List T → Option T
newest [] = None
newest (x ∷ []) = Some x
newest (x ∷ (y ∷ xs)) = newest (y ∷ xs)

abbrev pub older : {T : Type 0} → List T → List T
older [] = []
older (x ∷ []) = []
older (x ∷ (y ∷ xs)) = x ∷ older (y ∷ xs)

abbrev pub taken : {T : Type 0} → Store T → Store T
taken s = holding (older s.cells) s
