-- Places of seats, and lines written to them.
use Rattle.std.proofs.Common.{◌≡◌, ℕ, ◌+◌, ◌<◌, List, length, set, Some, sym, ap, ◌∙◌, ⊎_elim, arith, length-set}
use Rattle.std.specs.List.{slice_get}
use Rattle.std.proofs.lemmas.Bool.{cases_eq}
use Rattle.matrix.specs.declared.axis.Axis.{Axis}
use Rattle.matrix.specs.declared.axis.Axis.TheVariants.{Row, Col}
use Rattle.matrix.proofs.Cells.{nth_set_same, nth_set_other}
use Rattle.matrix.proofs.Products.{line_apart}
use Rattle.seating.specs.declared.seating.Seating.{Seating}
use Rattle.seating.specs.Benches.{seat}
use Rattle.seating.specs.Seats.{spot_of}
use Rattle.seating.specs.Lines.{line_spots, Written}

-- two lines' places are one only where row and column are
pub seats_apart : (s : Seating) (r c i j : ℕ) → r < s.down.side → c < s.down.side → i < s.down.side → j < s.down.side → spot_of s r c ≡ spot_of s i j → (r ≡ i) × (c ≡ j)
seats_apart s r c i j hr hc hi hj e =
    let q = s.square in
    let b = s.across.below c (omega arith) in
    let d = s.across.below j (omega arith) in
    let p = line_apart s.down.side (seat s.down r) (seat s.across c) (seat s.down i) (seat s.across j) (omega arith) (omega arith) e in
    (s.down.once r i (hr, hi, p.0), s.across.once c j (omega arith, omega arith, p.1))

-- two lines along an axis have no place in common
pub lines_apart : (ax : Axis) (s : Seating) (r c i j : ℕ) → r < s.down.side → c < s.down.side → i < s.down.side → j < s.down.side → line_spots ax r s c ≡ line_spots ax i s j → (r ≡ i) × (c ≡ j)
lines_apart Row s r c i j hr hc hi hj e = seats_apart s r c i j hr hc hi hj e
lines_apart Col s r c i j hr hc hi hj e = let p = seats_apart s c r j i hc hr hj hi e in (p.1, p.0)

-- one more cell of a line, at a flat place of its own
pub written_more : {T : Type 0} (at : ℕ → ℕ) (line : List T) (n : ℕ) (xs ys : List T) (x : T) → ((c : ℕ) → c < n + 1 → at c ≡ at n → c ≡ n) → at n < length xs → slice_get line n ≡ Some x → Written at line n xs ys → Written at line (n + 1) xs (set ys (at n) x)
written_more at line n xs ys x apart hk e w = record {
  len = length-set ys (at n) x ∙ w.len;
  put = λ c h. ⊎_elim
      (λ (q : c ≡ n). ap (λ j. slice_get (set ys (at n) x) (at j)) q ∙ nth_set_same ys (at n) x (omega (arith, w.len)) ∙ sym e ∙ ap (slice_get line) (sym q))
      (λ (q : c ≡ n → ⊥). nth_set_other ys (at n) (at c) x (λ z. q (apart c h z)) ∙ w.put c (omega arith))
      (cases_eq c n);
  rest = λ p h. nth_set_other ys (at n) p x (h n (omega arith)) ∙ w.rest p (λ c l. h c (omega arith));
}
