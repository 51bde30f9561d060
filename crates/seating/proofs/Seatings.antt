-- What the tables pick out of the cells when a line along an axis comes and when one goes.
use Rattle.std.proofs.Common.{◌≡◌, ℕ, ◌+◌, ◌-◌, ◌*◌, ◌<◌, ◌≤◌, List, length, refl, sym, ap, ◌∙◌, ⊎_elim, arith}
use Rattle.std.specs.List.{slice_get}
use Rattle.std.proofs.lemmas.Bool.{cases_order}
use Rattle.matrix.specs.declared.axis.Axis.{Axis}
use Rattle.matrix.specs.declared.axis.Axis.TheVariants.{Row, Col}
use Rattle.matrix.specs.Axes.{other, along, inserted, removed}
use Rattle.matrix.specs.Matrix.{Matrix, insert_row, remove_row, skipped}
use Rattle.matrix.proofs.Cells.{spliced_below, spliced_at, spliced_above, skipped_within}
use Rattle.matrix.proofs.Held.{placed}
use Rattle.matrix.proofs.Whole.{Whole, same_inside, inside_in, whole_inside, whole_insert_row, whole_remove_row, across_stays}
use Rattle.seating.specs.declared.seating.Seating.{Seating}
use Rattle.seating.specs.Benches.{seat}
use Rattle.seating.specs.Seats.{seen, seated, bench_of, Opened, Closed}
use Rattle.seating.specs.Lines.{line_spots, Written}
use Rattle.seating.proofs.Spots.{lines_apart}
use Rattle.seating.proofs.Along.{lines_seen, changed, same_side, same_spot}
use Rattle.seating.proofs.Fits.{carried}

-- the lines along an axis as rows
abbrev lines : {T : Type 0} → Axis → Seating → List T → Matrix T
lines ax s xs = placed (bench_of ax s).count (bench_of (other ax) s).count (λ i. line_spots ax i s) xs

whole_lines : {T : Type 0} (ax : Axis) (s : Seating) (xs : List T) → Whole (lines ax s xs)
whole_lines ax s xs = whole_inside (bench_of ax s).count (bench_of (other ax) s).count (λ i c. slice_get xs (line_spots ax i s c))

line_in : {T : Type 0} (ax : Axis) (s : Seating) (xs : List T) (i c : ℕ) → i < (bench_of ax s).count → c < (bench_of (other ax) s).count → (lines ax s xs).cell i c ≡ slice_get xs (line_spots ax i s c)
line_in ax s xs i c hi hc = inside_in (bench_of ax s).count (bench_of (other ax) s).count i c (slice_get xs (line_spots ax i s c)) hi hc

-- a line along an axis that is there
pub seen_along : {T : Type 0} (ax : Axis) (s : Seating) (xs : List T) (i c : ℕ) → i < (bench_of ax s).count → c < (bench_of (other ax) s).count → (along ax (seen s xs)).cell i c ≡ slice_get xs (line_spots ax i s c)
seen_along ax s xs i c hi hc = ap (λ (m : Matrix _). m.cell i c) (sym (lines_seen ax s xs)) ∙ line_in ax s xs i c hi hc

pub seen_across : {T : Type 0} (ax : Axis) (s : Seating) (xs : List T) → (along ax (seen s xs)).cols ≡ (bench_of (other ax) s).count
seen_across Row s xs = refl
seen_across Col s xs = refl

module _ {T : Type 0} (ax : Axis) (old new : Seating) (i : ℕ) (line xs ys : List T) (o : Opened ax old new i (length line)) (w : Written (line_spots ax i new) line (length line) xs ys)
    (hi : i ≤ (bench_of ax old).count) (fits : 0 < (bench_of ax old).count → length line ≡ (bench_of (other ax) old).count) (tall : (bench_of ax old).count + 1 ≤ old.down.side) (wide : length line ≤ old.down.side) where
  side : new.down.side ≡ old.down.side
  side = same_side ax old new o.side

  moved : (r k c : ℕ) → r < (bench_of ax new).count → k < (bench_of ax old).count → c < length line → (r ≡ i → ⊥) → seat (bench_of ax new) r ≡ seat (bench_of ax old) k → slice_get ys (line_spots ax r new c) ≡ (lines ax old xs).cell k c
  moved r k c hr hk hc ne e =
      let rows = o.lines in
      let same = side in
      let f = fits (omega arith) in
      w.rest (line_spots ax r new c) (λ j l z. ne (lines_apart ax new r c i j (omega arith) (omega arith) (omega arith) (omega arith) z).0)
      ∙ ap (slice_get xs) (same_spot ax old new r k c side o.across e) ∙ sym (line_in ax old xs k c hk (omega arith))

  opened_lines : lines ax new ys ≡ insert_row i line (lines ax old xs)
  opened_lines = same_inside (lines ax new ys) (insert_row i line m) (whole_lines ax new ys) (whole_insert_row i line m hi fits (whole_lines ax old xs)) o.lines o.cells
      (λ r c hr hc.
      let rows = o.lines in
      let cols = o.cells in
      line_in ax new ys r c hr hc ∙ ⊎_elim
      (λ (e : r ≡ i). ap (λ k. slice_get ys (line_spots ax k new c)) e ∙ w.put c (omega arith) ∙ sym (spliced_at i (slice_get line c) (λ k. m.cell k c) r e))
      (⊎_elim
      (λ (l : r < i). moved r r c hr (omega arith) (omega arith) (omega arith) (o.seats r (omega arith) ∙ spliced_below i _ (λ j. seat (bench_of ax old) j) r l) ∙ sym (spliced_below i (slice_get line c) (λ k. m.cell k c) r l))
      (λ (l : i < r). moved r (r - 1) c hr (omega arith) (omega arith) (omega arith) (o.seats r (omega arith) ∙ spliced_above i _ (λ j. seat (bench_of ax old) j) r l) ∙ sym (spliced_above i (slice_get line c) (λ k. m.cell k c) r l)))
      (cases_order r i))
    where
      m : Matrix T
      m = lines ax old xs

  pub opened_seated : old.down.side * old.down.side ≤ length xs → seated new ys ≡ inserted ax i line (seated old xs)
  opened_seated room = carried (inserted ax i line) old new xs ys room side w.len
      (changed (insert_row i line) ax (seen old xs) (seen new ys) (lines ax old xs) (lines ax new ys) (lines_seen ax old xs) (lines_seen ax new ys) opened_lines)

module _ {T : Type 0} (ax : Axis) (old new : Seating) (i : ℕ) (xs : List T) (o : Closed ax old new i) (hi : i < (bench_of ax old).count) where
  closed_lines : lines ax new xs ≡ remove_row i (lines ax old xs)
  closed_lines = same_inside (lines ax new xs) (remove_row i m) (whole_lines ax new xs) (whole_remove_row i m hi (whole_lines ax old xs)) o.lines o.cells
      (λ r c hr hc.
      let rows = o.lines in
      let cols = o.cells in
      let stays = across_stays (bench_of ax old).count (bench_of (other ax) old).count (omega arith) in
      line_in ax new xs r c hr hc ∙ ap (slice_get xs) (same_spot ax old new r (skipped i r) c (same_side ax old new o.side) o.across (o.seats r (omega arith))) ∙ sym (line_in ax old xs (skipped i r) c (skipped_within i r (bench_of ax old).count (omega arith)) (omega arith)))
    where
      m : Matrix T
      m = lines ax old xs

  pub closed_seated : old.down.side * old.down.side ≤ length xs → seated new xs ≡ removed ax i (seated old xs)
  closed_seated room = carried (removed ax i) old new xs xs room (same_side ax old new o.side) refl
      (changed (remove_row i) ax (seen old xs) (seen new xs) (lines ax old xs) (lines ax new xs) (lines_seen ax old xs) (lines_seen ax new xs) closed_lines)
