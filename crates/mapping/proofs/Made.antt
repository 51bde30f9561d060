-- A grid that is made of as many cells as its sides say.
use Rattle.std.proofs.Common.{◌≡◌, ℕ, ◌*◌, ◌/◌, ◌%◌, ◌<◌, ◌≤◌, cond, eqb, List, length, Ok, Err, Result, is_err, true, false, sym, refl, ap, ◌∙◌, ⊎_elim, arith}
use Rattle.std.proofs.Math.Nat.{mul-div_cancel, mul-mod_left}
use Rattle.std.proofs.lemmas.Bool.Decides.{nat_tests}
use Rattle.std.proofs.lemmas.Bool.{cases_lt}
use Rattle.cells.specs.declared.refusal.Refusal.{Refusal}
use Rattle.cells.specs.Refusals.{answered}
use Rattle.matrix.specs.declared.shape.Order.{Order}
use Rattle.matrix.specs.Matrix.{Matrix, empty}
use Rattle.matrix.specs.Shapes.{laid}
use Rattle.matrix.specs.Rules.{from_vec, from_vec_answer}
use Rattle.matrix.proofs.Makes.{laid_vacant}
use Rattle.mapping.specs.Maps.{map_answer}

-- what an accepted mapping has met
pub record Room (N n : ℕ) : Type 0 where
  pub small : N ≤ 65536
  pub room : n ≤ N

pub met : {T : Type 0} (N : ℕ) (m : Matrix T) → map_answer N m ≡ Ok tt → Room N (m.rows * m.cols)
met N m e = record { small = grind (arith, nat_tests); room = grind (arith, nat_tests) }

pub accepts : (r : Result Unit Refusal) → is_err r ≡ false → r ≡ Ok tt
accepts (Ok tt) e = refl
accepts (Err d) e = let z : true ≡ false = e in absurd (cc)

-- sides within 256, no rows exactly without columns, and room for them
module _ {T : Type 0} (o : Order) (R C : ℕ) (ys : List T) (small : length ys ≤ 65536) (room : R * C ≤ length ys) (tall : R ≤ 256) (wide : C ≤ 256) (no_rows : R ≡ 0 → C ≡ 0) (no_cols : C ≡ 0 → R ≡ 0) where
  some : 0 < C → from_vec o (R * C) C ys ≡ laid (record { rows = R; cols = C; order = o }) ys
  some h =
      let q : R * C / C ≡ R = mul-div_cancel R h in
      let z : R * C % C ≡ 0 = mul-mod_left R C in
      ap (λ a. answered a (cond (eqb (R * C) 0) empty (laid (record { rows = R * C / C; cols = C; order = o }) ys)) empty) (yes q z)
      ∙ full q
    where
      above : 0 < R
      above = ⊎_elim (λ (p : 0 < R). p) (λ (p : R ≤ 0). let e : R ≡ 0 = omega arith in omega (arith, no_rows e)) (cases_lt 0 R)

      yes : R * C / C ≡ R → R * C % C ≡ 0 → from_vec_answer (length ys) (R * C) C ≡ Ok tt
      yes q z = grind (arith, nat_tests)

      full : R * C / C ≡ R → cond (eqb (R * C) 0) empty (laid (record { rows = R * C / C; cols = C; order = o }) ys) ≡ laid (record { rows = R; cols = C; order = o }) ys
      full q = ap (λ k. cond (eqb (R * C) 0) empty (laid (record { rows = k; cols = C; order = o }) ys)) q ∙ grind (arith, nat_tests)

  none : C ≡ 0 → from_vec o (R * C) C ys ≡ laid (record { rows = R; cols = C; order = o }) ys
  none e =
      ap (λ a. from_vec o (a * C) C ys) (no_cols e)
      ∙ ap (λ a. answered a (cond (eqb (0 * C) 0) empty (laid (record { rows = 0 * C / C; cols = C; order = o }) ys)) empty) yes
      ∙ nothing ∙ sym (laid_vacant o ys)
      ∙ ap (λ k. laid (record { rows = 0; cols = k; order = o }) ys) (sym e)
      ∙ ap (λ k. laid (record { rows = k; cols = C; order = o }) ys) (sym (no_cols e))
    where
      yes : from_vec_answer (length ys) (0 * C) C ≡ Ok tt
      yes = grind (arith, nat_tests)

      nothing : cond (eqb (0 * C) 0) (empty {T = T}) (laid (record { rows = 0 * C / C; cols = C; order = o }) ys) ≡ empty
      nothing = grind (arith, nat_tests)

  pub made_flat : from_vec o (R * C) C ys ≡ laid (record { rows = R; cols = C; order = o }) ys
  made_flat = ⊎_elim some (λ (h : C ≤ 0). none (omega arith)) (cases_lt 0 C)
