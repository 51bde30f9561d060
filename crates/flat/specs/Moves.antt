-- What the moves of a stretch of flat cells leave: ys is what xs has become.
use Rattle.std.specs.Prelude.{◌≡◌, ℕ, ◌+◌, ◌-◌, ◌<◌, ◌≤◌, List, length, Some}
use Rattle.std.specs.List.{slice_get}
use Rattle.matrix.specs.Matrix.{gapped}

-- n cells of src, from `from` on, copied to `to`
pub record Copied {X : Type 0} (xs ys src : List X) (from to n : ℕ) : Type 0 where
  pub len : length ys ≡ length xs
  pub moved : (k : ℕ) → k < n → slice_get ys (to + k) ≡ slice_get src (from + k)
  pub below : (k : ℕ) → k < to → slice_get ys k ≡ slice_get xs k
  pub above : (k : ℕ) → to + n ≤ k → slice_get ys k ≡ slice_get xs k

-- two lines of n cells, at p and further on at q, exchanged
pub record Exchanged {X : Type 0} (xs ys : List X) (p q n : ℕ) : Type 0 where
  pub len : length ys ≡ length xs
  pub first : (k : ℕ) → k < n → slice_get ys (p + k) ≡ slice_get xs (q + k)
  pub second : (k : ℕ) → k < n → slice_get ys (q + k) ≡ slice_get xs (p + k)
  pub below : (k : ℕ) → k < p → slice_get ys k ≡ slice_get xs k
  pub amid : (k : ℕ) → p + n ≤ k → k < q → slice_get ys k ≡ slice_get xs k
  pub above : (k : ℕ) → q + n ≤ k → slice_get ys k ≡ slice_get xs k

-- the n cells at p turned round
pub record Reversed {X : Type 0} (xs ys : List X) (p n : ℕ) : Type 0 where
  pub len : length ys ≡ length xs
  pub turned : (k : ℕ) → k < n → slice_get ys (p + k) ≡ slice_get xs (p + (n - 1 - k))
  pub below : (k : ℕ) → k < p → slice_get ys k ≡ slice_get xs k
  pub above : (k : ℕ) → p + n ≤ k → slice_get ys k ≡ slice_get xs k

-- the n cells at p and those at q, further on, have changed places, the first with the last
pub record Facing {X : Type 0} (xs ys : List X) (p q n : ℕ) : Type 0 where
  pub len : length ys ≡ length xs
  pub first : (k : ℕ) → k < n → slice_get ys (p + k) ≡ slice_get xs (q + (n - 1 - k))
  pub second : (k : ℕ) → k < n → slice_get ys (q + k) ≡ slice_get xs (p + (n - 1 - k))
  pub below : (k : ℕ) → k < p → slice_get ys k ≡ slice_get xs k
  pub amid : (k : ℕ) → p + n ≤ k → k < q → slice_get ys k ≡ slice_get xs k
  pub above : (k : ℕ) → q + n ≤ k → slice_get ys k ≡ slice_get xs k

-- x in the n cells at p
pub record Filled {X : Type 0} (xs ys : List X) (p n : ℕ) (x : X) : Type 0 where
  pub len : length ys ≡ length xs
  pub filled : (k : ℕ) → k < n → slice_get ys (p + k) ≡ Some x
  pub below : (k : ℕ) → k < p → slice_get ys k ≡ slice_get xs k
  pub above : (k : ℕ) → p + n ≤ k → slice_get ys k ≡ slice_get xs k

-- one line of n cells moved up, with x put in g times at `at`
pub record Parted {X : Type 0} (xs ys : List X) (from to n at g : ℕ) (x : X) : Type 0 where
  pub len : length ys ≡ length xs
  pub moved : (k : ℕ) → k < n + g → slice_get ys (to + k) ≡ gapped at g (Some x) (λ b. slice_get xs (from + b)) k
  pub below : (k : ℕ) → k < to → slice_get ys k ≡ slice_get xs k
  pub above : (k : ℕ) → to + n + g ≤ k → slice_get ys k ≡ slice_get xs k
