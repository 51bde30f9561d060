-- What every board owes, shown of cells on seats.
use Rattle.std.proofs.Common.{◌≡◌, ℕ, ◌+◌, ◌*◌, ◌<◌, ◌≤◌, List, length, get_or, Some, sym, ◌∙◌, ⊎_elim, mul-le-mul, arith}
use Rattle.std.specs.List.{slice_get}
use Rattle.std.proofs.lemmas.Option.{slice_get-get_or}
use Rattle.std.proofs.lemmas.Bool.{cases_lt}
use Rattle.std.proofs.lemmas.Bool.Decides.{nat_tests}
use Rattle.matrix.specs.declared.axis.Axis.{Axis}
use Rattle.matrix.specs.Axes.{along}
use Rattle.matrix.specs.Rules.{Within}
use Rattle.matrix.proofs.Cells.{present}
use Rattle.matrix.proofs.Along.{within_along}
use Rattle.matrix.proofs.Products.{line_ends, sides_within}
use Rattle.matrix.proofs.Whole.{inside_in, inside_below, inside_right}
use Rattle.seating.specs.declared.seating.Seating.{Seating}
use Rattle.seating.specs.Benches.{seat}
use Rattle.seating.specs.Seats.{counted, seated, seated_limits, spot_of}
use Rattle.seating.proofs.Fits.{counted_in, counted_out}

pub spot_within : (side a b : ℕ) → a < side → b < side → a * side + b < side * side
spot_within side a b ha hb = omega (arith, line_ends a side side ha)

-- the flat place of a row and a column that are there, in n cells of memory
pub spot_in : (s : Seating) (n r c : ℕ) → r < counted s n s.down.count → c < counted s n s.across.count → spot_of s r c < n
spot_in s n r c hr hc = ⊎_elim
    (λ (h : n < s.down.side * s.down.side). absurd (omega (arith, counted_out s n s.down.count h)))
    (λ (h : s.down.side * s.down.side ≤ n).
    let er = counted_in s n s.down.count h in
    let ec = counted_in s n s.across.count h in
    let q = s.square in
    let rs = s.down.small.1 in
    let cs = s.across.small.1 in
    let a = s.down.below r (omega arith) in
    let b = s.across.below c (omega arith) in
    omega (arith, spot_within s.down.side (seat s.down r) (seat s.across c) a (omega arith)))
    (cases_lt n (s.down.side * s.down.side))

module _ {T : Type 0} (s : Seating) (xs : List T) where
  abbrev R : ℕ
  R = counted s (length xs) s.down.count

  abbrev C : ℕ
  C = counted s (length xs) s.across.count

  full : (r c : ℕ) → r < R → c < C → (x : T) × ((seated s xs).cell r c ≡ Some x)
  full r c hr hc =
      let l = spot_in s (length xs) r c hr hc in
      let d = present xs (spot_of s r c) l in
      (get_or xs (spot_of s r c) d, inside_in R C r c (slice_get xs (spot_of s r c)) hr hc ∙ slice_get-get_or xs (spot_of s r c) d l)

  none_down : R ≡ 0 → C ≡ 0
  none_down e = ⊎_elim
      (λ (h : length xs < s.down.side * s.down.side). counted_out s (length xs) s.across.count h)
      (λ (h : s.down.side * s.down.side ≤ length xs). counted_in s (length xs) s.across.count h ∙ s.no_rows (sym (counted_in s (length xs) s.down.count h) ∙ e))
      (cases_lt (length xs) (s.down.side * s.down.side))

  none_across : C ≡ 0 → R ≡ 0
  none_across e = ⊎_elim
      (λ (h : length xs < s.down.side * s.down.side). counted_out s (length xs) s.down.count h)
      (λ (h : s.down.side * s.down.side ≤ length xs). counted_in s (length xs) s.down.count h ∙ s.no_cols (sym (counted_in s (length xs) s.across.count h) ∙ e))
      (cases_lt (length xs) (s.down.side * s.down.side))

  -- no more lines than seats, whether the memory is enough or not
  lines_within : (k : ℕ) → k ≤ s.down.side → counted s (length xs) k ≤ counted s (length xs) s.down.side
  lines_within k h = grind (arith, nat_tests)

  pub seated_within : Within (seated_limits s (length xs)) (seated s xs)
  seated_within =
      let small : s.down.side ≤ 256 = s.down.small.0 in
      let side : counted s (length xs) s.down.side ≤ 256 = grind (arith, nat_tests) in
      let tall = lines_within s.down.count s.down.small.1 in
      let wide = lines_within s.across.count (let q = s.square in let z = s.across.small.1 in omega arith) in
      record {
        shaped = record {
          no_rows = none_down;
          no_cols = none_across;
          below = λ r c h. inside_below R C r c (slice_get xs (spot_of s r c)) h;
          right = λ r c h. inside_right R C r c (slice_get xs (spot_of s r c)) h;
          full = full;
        };
        side = side;
        most = sides_within _ _ side side;
        tall = tall;
        wide = wide;
        room = mul-le-mul tall wide;
      }

pub along_within : {T : Type 0} (ax : Axis) (s : Seating) (xs : List T) → Within (seated_limits s (length xs)) (along ax (seated s xs))
along_within ax s xs = within_along ax (seated_within s xs)
