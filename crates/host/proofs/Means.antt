-- Cells that hold a matrix under a shape mean that matrix to a host that gives its size.
use Rattle.std.proofs.Common.{◌≡◌, ℕ, ◌*◌, ◌≤◌, List, length, Ok, Err, Result, sym, refl, ap, ◌∙◌, subst, arith}
use Rattle.std.proofs.lemmas.Bool.Decides.{nat_tests}
use Rattle.cells.specs.declared.refusal.Refusal.{Refusal}
use Rattle.cells.specs.declared.refusal.Refusal.TheVariants.{Memory, Ragged, NothingOwed, Empty, Length, Place, Side, Full, Short, Journal, Keep}
use Rattle.cells.specs.Refusals.{answered, stands}
use Rattle.matrix.specs.declared.shape.Order.{Order}
use Rattle.matrix.specs.declared.shape.Shape.{Shape}
use Rattle.matrix.specs.Matrix.{Matrix}
use Rattle.matrix.specs.Shapes.{Form, form, held, fitted}
use Rattle.matrix.specs.Makings.{new_form}
use Rattle.matrix.specs.Rules.{new_answer}
use Rattle.matrix.proofs.Held.{held_in, held_within, fitted_room}
use Rattle.host.specs.Hosts.{ordered, hosted, Means, code, coded}

-- the number of an answer says what stands as the answer does
coded_code : {A X : Type 0} (r : Result A Refusal) (a b : X) → coded (code r) a b ≡ answered r a b
coded_code (Ok _) a b = refl
coded_code (Err Memory) a b = refl
coded_code (Err Ragged) a b = refl
coded_code (Err NothingOwed) a b = refl
coded_code (Err Empty) a b = refl
coded_code (Err Length) a b = refl
coded_code (Err Place) a b = refl
coded_code (Err Side) a b = refl
coded_code (Err Full) a b = refl
coded_code (Err Short) a b = refl
coded_code (Err Journal) a b = refl
coded_code (Err Keep) a b = refl

-- no memory above the limit is accepted
small : (n rows cols : ℕ) → Ok tt ≡ new_answer n rows cols → n ≤ 65536
small n rows cols e = grind (arith, nat_tests)

-- a form that a grid may have is made of its own numbers
new_form_own : (n R C : ℕ) (o : Order) → n ≤ 65536 → R ≤ 256 → C ≤ 256 → (R ≡ 0 → C ≡ 0) → (C ≡ 0 → R ≡ 0) → R * C ≤ n → new_form n R C o ≡ record { rows = R; cols = C; order = o }
new_form_own n R C o small tall wide no_rows no_cols room = grind (arith, nat_tests)

fitted_order : (n : ℕ) (f : Form) → (fitted n f).order ≡ f.order
fitted_order n f = grind (arith, nat_tests)

means_held : {T : Type 0} (o : ℕ) (s : Shape) (xs : List T) → s.order ≡ ordered o → length xs ≤ 65536 → Means o xs (held (form s) xs)
means_held o s xs eo small =
    let f = fitted (length xs) (form s) in
    let w = held_within s xs in
    let room = fitted_room (length xs) (form s) in
    ap (λ z. held z xs) (ap (new_form (length xs) f.rows f.cols) (sym (fitted_order (length xs) (form s) ∙ eo)) ∙ new_form_own (length xs) f.rows f.cols f.order small w.tall w.wide w.shaped.no_rows w.shaped.no_cols room) ∙ held_in f xs room

new_form_order : (n rows cols : ℕ) (o : Order) → (new_form n rows cols o).order ≡ o
new_form_order n rows cols o = grind (arith, nat_tests)

-- What a call leaves that was answered by r over the shape s of a host's numbers is meant by the number of its answer.
pub means_coded : {T : Type 0} (F : Matrix T → Matrix T) (rows cols o n : ℕ) (r : Result Shape Refusal) (s : Shape) (xs ys : List T) → Ok tt ≡ new_answer (length xs) rows cols → form s ≡ new_form (length xs) rows cols (ordered o) → length ys ≡ length xs → n ≡ code r → held (form (stands r s)) ys ≡ answered r (F (held (form s) xs)) (held (form s) xs) → (stands r s).order ≡ s.order → Means o ys (coded n (F (hosted rows cols o xs)) (hosted rows cols o xs))
means_coded F rows cols o n r s xs ys ok made len en e stays =
    let m = hosted rows cols o xs in
    let order : (stands r s).order ≡ ordered o = stays ∙ ap (λ (f : Form). f.order) made ∙ new_form_order (length xs) rows cols (ordered o) in
    let whole : held (form (stands r s)) ys ≡ coded n (F m) m = e ∙ ap (λ z. answered r (F (held z xs)) (held z xs)) made ∙ sym (coded_code r (F m) m) ∙ ap (λ k. coded k (F m) m) (sym en) in
    subst (Means o ys) whole (means_held o (stands r s) ys order (omega (arith, small (length xs) rows cols ok)))
