-- The agreement after a removal.
use Rattle.std.proofs.Common.{◌≡◌, ℕ, ◌-◌, ◌<◌, ◌≤◌, leb, List, [], ◌∷◌, ◌++◌, length, Ok, Err, Result, sym, refl, ap, ◌∙◌, arith, le-ltb, lt-ltb}
use Rattle.std.proofs.lemmas.Bool.Decides.{nat_tests}
use Rattle.cells.specs.declared.refusal.Refusal.{Refusal}
use Rattle.cells.specs.declared.refusal.Refusal.TheVariants.{Keep}
use Rattle.cells.specs.Refusals.{answered, refused, accepted}
use Rattle.matrix.specs.declared.limits.Limits.{Limits}
use Rattle.matrix.specs.Matrix.{Matrix, over}
use Rattle.matrix.specs.Rules.{Within, remove_answer}
use Rattle.matrix.proofs.Along.{within_along}
use Rattle.matrix.proofs.Undo.{row_length}
use Rattle.keeps.specs.Kept.{Store, holding}
use Rattle.matrix.specs.declared.axis.Axis.{Axis}
use Rattle.sheet.specs.declared.edit.Edit.{Edit}
use Rattle.sheet.specs.declared.edit.Edit.TheVariants.{Remove}
use Rattle.matrix.specs.Axes.{along, removed, line_of, remove_along}
use Rattle.sheet.specs.Book.{Book, owed_limit, kept, full, lacks, entered, then, remove_said, remove_book, remove_memory}
use Rattle.sheet.specs.Stands.{Agrees}
use Rattle.sheet.proofs.Undoes.{remove_undone, back_again}
use Rattle.sheet.proofs.Agreements.{no_room, is_full, not_full, enter, accept, refuse, book_within}

pub checked_out : {T : Type 0} (q : Result Unit Refusal) (i n : ℕ) (p : ℕ × ℕ) (m : Matrix T) → q ≡ remove_answer i n p.0 p.1 → q ≡ Ok tt → p ≡ (m.rows, m.cols) → Ok tt ≡ remove_answer i n m.rows m.cols
checked_out q i n p m e ok ep = sym ok ∙ e ∙ ap (λ (z : ℕ × ℕ). remove_answer i n z.0 z.1) ep

pub met_in : (i n count across : ℕ) → Ok tt ≡ remove_answer i n count across → i < count
met_in i n count across e = grind (arith, nat_tests)

module _ {T : Type 0} {ko : Type 0} {m : Matrix T} {l : Limits} {k : Store T} {js : List Edit} {b : Book T} (h : Agrees ko m l k js b) (w : Within l m) (ax : Axis) (i : ℕ) (memory : List T) (ok : Ok tt ≡ remove_along ax i memory m) where
  booked : Ok tt ≡ remove_along ax i memory b.matrix
  booked = ok ∙ ap (remove_along ax i memory) h.matrix

  past_board : remove_said ax i memory b ≡ refused 10 (full b) (refused 11 (lacks b (along ax b.matrix).cols) accepted)
  past_board = ap (λ q. then q (refused 10 (full b) (refused 11 (lacks b (along ax b.matrix).cols) accepted))) (sym booked)

  same_memory : (d : Refusal) → remove_said ax i memory b ≡ Err d → memory ≡ remove_memory ax i memory b
  same_memory d e = sym (ap (λ q. answered q (over (line_of ax i b.matrix) memory) memory) e)

  full_said : (e : Refusal) → Err e ≡ refused 10 (leb owed_limit (length js)) accepted → remove_said ax i memory b ≡ Err e
  full_said e p =
      let no = no_room (length js) e p in
      past_board ∙ ap (λ t. refused 10 t (refused 11 (lacks b (along ax b.matrix).cols) accepted)) (is_full h no.0) ∙ ap Err (sym no.1)

  pub remove_no_journal : (r : Result Unit Refusal) (e : Refusal) → Err e ≡ refused 10 (leb owed_limit (length js)) accepted → r ≡ Err e → (r ≡ remove_said ax i memory b) × Agrees ko m l k js (remove_book ax i memory b)
  remove_no_journal r e p is = refuse b _ (remove_said ax i memory b) r e is (full_said e p) h

  pub no_journal_memory : (e : Refusal) → Err e ≡ refused 10 (leb owed_limit (length js)) accepted → memory ≡ remove_memory ax i memory b
  no_journal_memory e p = same_memory e (full_said e p)

  lacks_said : length js < owed_limit → k.most - length k.cells < (along ax m).cols → remove_said ax i memory b ≡ Err Keep
  lacks_said p q =
      let e = ap (λ z. (along ax z).cols) h.matrix in
      past_board ∙ ap (λ t. refused 10 t (refused 11 (lacks b (along ax b.matrix).cols) accepted)) (not_full h p)
      ∙ ap (λ t. refused 11 t accepted) (lt-ltb (b.most - length (kept b.entries)) (along ax b.matrix).cols (omega (arith, h.most, ap length h.cells)))

  pub remove_no_keep : length js < owed_limit → k.most - length k.cells < (along ax m).cols → (Err Keep ≡ remove_said ax i memory b) × Agrees ko m l k js (remove_book ax i memory b)
  remove_no_keep p q = refuse b _ (remove_said ax i memory b) (Err Keep) Keep refl (lacks_said p q) h

  pub no_keep_memory : length js < owed_limit → k.most - length k.cells < (along ax m).cols → memory ≡ remove_memory ax i memory b
  no_keep_memory p q = same_memory Keep (lacks_said p q)

  taken_said : length js < owed_limit → (along ax m).cols ≤ k.most - length k.cells → remove_said ax i memory b ≡ Ok tt
  taken_said p q =
      let e = ap (λ z. (along ax z).cols) h.matrix in
      past_board ∙ ap (λ t. refused 10 t (refused 11 (lacks b (along ax b.matrix).cols) accepted)) (not_full h p)
      ∙ ap (λ t. refused 11 t accepted) (le-ltb (b.most - length (kept b.entries)) (along ax b.matrix).cols (omega (arith, h.most, ap length h.cells)))

  pub remove_accepted : {ko' : Type 0} {m' : Matrix T} {l' : Limits} {k' : Store T} {js' : List Edit} (n : ℕ) → length js < owed_limit → (along ax m).cols ≤ k.most - length k.cells → ko' → m' ≡ removed ax i m → l' ≡ l → k' ≡ holding (k.cells ++ line_of ax i m) k → n ≡ (along ax m).cols → js' ≡ js ++ (Remove ax i n ∷ []) → (Ok tt ≡ remove_said ax i memory b) × Agrees ko' m' l' k' js' (remove_book ax i memory b)
  remove_accepted n p q ko' em el ek en ej =
      let v = book_within h w in
      let u = within_along ax v in
      let at = met_in i (length memory) (along ax b.matrix).rows (along ax b.matrix).cols booked in
      let cols = ap (λ z. (along ax z).cols) h.matrix in
      accept b (entered (Remove ax i (along ax b.matrix).cols) (removed ax i b.matrix) (line_of ax i b.matrix) b) (remove_said ax i memory b) (taken_said p q)
      (enter h (Remove ax i (along ax b.matrix).cols) (removed ax i b.matrix) (line_of ax i b.matrix) ko' (em ∙ ap (removed ax i) h.matrix) el (ek ∙ ap (λ z. holding (k.cells ++ line_of ax i z) k) h.matrix) (ej ∙ ap (λ z. js ++ (Remove ax i z ∷ [])) (en ∙ cols))
      (back_again ax i b.limits b.matrix v at, row_length i (along ax b.matrix) u.shaped at, omega (arith, u.wide, u.side))
      (remove_undone ax i b.limits b.matrix v at))

  pub accepted_memory : {memory' : List T} → length js < owed_limit → (along ax m).cols ≤ k.most - length k.cells → memory' ≡ over (line_of ax i m) memory → memory' ≡ remove_memory ax i memory b
  accepted_memory p q e = e ∙ ap (λ z. over (line_of ax i z) memory) h.matrix ∙ sym (ap (λ z. answered z (over (line_of ax i b.matrix) memory) memory) (taken_said p q))
