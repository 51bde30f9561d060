-- The cells of a matrix with their places, in flat order.
use Rattle.std.proofs.Common.{◌≡◌, ℕ, zero, suc, ◌+◌, ◌*◌, ◌/◌, ◌%◌, ◌<◌, ◌≤◌, List, ◌∷◌, length, map, Some, None, Option, refl, ap, ◌∙◌, ⊎_elim, mul_comm, mul-zero, arith}
use Rattle.std.specs.List.{range_with_len}
use Rattle.std.proofs.lemmas.Nat.{div-add-mod', div_below, mod_below}
use Rattle.std.proofs.lemmas.Bool.{cases_lt}
use Rattle.matrix.specs.declared.shape.Order.{Order}
use Rattle.matrix.specs.declared.shape.Order.TheVariants.{RowMajor, ColumnMajor}
use Rattle.matrix.specs.Matrix.{Matrix, Shaped, before, listed}
use Rattle.matrix.specs.Shapes.{place, flat}
use Rattle.matrix.proofs.Undo.{listed_length}
use Rattle.walks.specs.Indexed.{at_place, spot, flat_item, all_items, InFlatOrder}

-- what stands at the places p, each with its place
module _ {T : Type 0} (m : Matrix T) where
  abbrev found : (ℕ → ℕ × ℕ) → ℕ → Option ((ℕ × ℕ) × T)
  found p k = at_place (p k) (m.cell (p k).0 (p k).1)

  stand_more : (p : ℕ × ℕ) (o : Option T) (rest : List ((ℕ × ℕ) × T)) → m.cell p.0 p.1 ≡ o → map (λ i. m.cell i.0.0 i.0.1) rest ≡ map (λ i. Some i.1) rest → map (λ i. m.cell i.0.0 i.0.1) (before (at_place p o) rest) ≡ map (λ i. Some i.1) (before (at_place p o) rest)
  stand_more p (Some x) rest e h = ap (λ o. o ∷ map (λ i. m.cell i.0.0 i.0.1) rest) e ∙ ap (λ xs. Some x ∷ xs) h
  stand_more p None rest e h = refl

  items_stand : (n : ℕ) (p : ℕ → ℕ × ℕ) → map (λ i. m.cell i.0.0 i.0.1) (listed n (found p)) ≡ map (λ i. Some i.1) (listed n (found p))
  items_stand zero p = refl
  items_stand (suc n) p = stand_more (p 0) (m.cell (p 0).0 (p 0).1) (listed n (found (λ k. p (suc k)))) refl (items_stand n (λ k. p (suc k)))

  cells_more : (p : ℕ × ℕ) (o : Option T) (rest : List ((ℕ × ℕ) × T)) (xs : List T) → map (λ i. i.1) rest ≡ xs → map (λ i. i.1) (before (at_place p o) rest) ≡ before o xs
  cells_more p (Some x) rest xs h = ap (λ ys. x ∷ ys) h
  cells_more p None rest xs h = refl

  item_cells : (n : ℕ) (p : ℕ → ℕ × ℕ) → map (λ i. i.1) (listed n (found p)) ≡ listed n (λ k. m.cell (p k).0 (p k).1)
  item_cells zero p = refl
  item_cells (suc n) p = cells_more (p 0) (m.cell (p 0).0 (p 0).1) (listed n (found (λ k. p (suc k)))) (listed n (λ k. m.cell (p (suc k)).0 (p (suc k)).1)) (item_cells n (λ k. p (suc k)))

  -- g makes of the places p the numbers from a on, as long as each has a cell
  item_numbers : (n a : ℕ) (p : ℕ → ℕ × ℕ) (g : ℕ × ℕ → ℕ) → ((k : ℕ) → k < n → (g (p k) ≡ a + k) × (x : T) × (m.cell (p k).0 (p k).1 ≡ Some x)) → map (λ i. g i.0) (listed n (found p)) ≡ range_with_len a n
  item_numbers zero a p g h = refl
  item_numbers (suc n) a p g h =
      let here = h 0 (omega arith) in
      ap (λ o. map (λ i. g i.0) (before (at_place (p 0) o) (listed n (found (λ k. p (suc k)))))) here.2
      ∙ ap (λ z. z ∷ map (λ i. g i.0) (listed n (found (λ k. p (suc k))))) (let z : g (p 0) ≡ a = omega (arith, here.0) in z)
      ∙ ap (λ xs. a ∷ xs) (item_numbers n (a + 1) (λ k. p (suc k)) g (λ k l. let there = h (suc k) (omega arith) in (omega (arith, there.0), there.1, there.2)))

some_right : (R C k : ℕ) → k < R * C → 0 < C
some_right R C k h = ⊎_elim
    (λ (l : 0 < C). l)
    (λ (l : C ≤ 0). let z : C ≡ 0 = omega arith in absurd (omega (arith, ap (λ j. R * j) z, mul-zero R)))
    (cases_lt 0 C)

in_order : {T : Type 0} (o : Order) (m : Matrix T) → Shaped m → (k : ℕ) → k < m.rows * m.cols → (place o m.rows m.cols (spot o m k).0 (spot o m k).1 ≡ 0 + k) × (x : T) × (m.cell (spot o m k).0 (spot o m k).1 ≡ Some x)
in_order RowMajor m s k l =
    let w : 0 < m.cols = some_right m.rows m.cols k l in
    let there = s.full (k / m.cols) (k % m.cols) (div_below k m.cols m.rows w l) (mod_below k m.cols w) in
    (omega (arith, div-add-mod' k m.cols), there.0, there.1)
in_order ColumnMajor m s k l =
    let l' : k < m.cols * m.rows = omega (arith, mul_comm m.rows m.cols) in
    let w : 0 < m.rows = some_right m.cols m.rows k l' in
    let there = s.full (k % m.rows) (k / m.rows) (mod_below k m.rows w) (div_below k m.rows m.cols w l') in
    (omega (arith, div-add-mod' k m.rows), there.0, there.1)

pub in_flat_order : {T : Type 0} (o : Order) (m : Matrix T) → Shaped m → InFlatOrder o m (all_items o m)
in_flat_order o m s = record {
  places = item_numbers m (m.rows * m.cols) 0 (spot o m) (λ p. place o m.rows m.cols p.0 p.1) (in_order o m s);
  stands = items_stand m (m.rows * m.cols) (spot o m);
  cells = item_cells m (m.rows * m.cols) (spot o m) ∙ as_flat o m;
}
  where
    as_flat : {T : Type 0} (o : Order) (m : Matrix T) → listed (m.rows * m.cols) (λ k. m.cell (spot o m k).0 (spot o m k).1) ≡ flat o m
    as_flat RowMajor m = refl
    as_flat ColumnMajor m = refl

-- as many as there are cells
pub count_items : {T : Type 0} (o : Order) (m : Matrix T) → Shaped m → length (all_items o m) ≡ m.rows * m.cols
count_items o m s = listed_length (m.rows * m.cols) (flat_item o m) (λ k l. let there = in_order o m s k l in ((spot o m k, there.1), ap (at_place (spot o m k)) there.2))
