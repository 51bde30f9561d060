-- The agreement after an insertion and after a put.
use Rattle.std.proofs.Common.{◌≡◌, ℕ, ◌-◌, ◌<◌, ◌≤◌, leb, true, false, List, [], ◌∷◌, ◌++◌, length, Some, None, Ok, Err, Option, Result, sym, refl, ap, ◌∙◌, subst, ⊎_elim, arith, le-ltb, lt-ltb}
use Rattle.std.proofs.lemmas.Bool.{cases_lt}
use Rattle.std.proofs.lemmas.Bool.Decides.{nat_tests}
use Rattle.std.proofs.lemmas.Option.{none-some}
use Rattle.cells.specs.declared.refusal.Refusal.{Refusal}
use Rattle.cells.specs.declared.refusal.Refusal.TheVariants.{Keep, Place}
use Rattle.cells.specs.Refusals.{answered, refused, accepted}
use Rattle.matrix.specs.declared.limits.Limits.{Limits}
use Rattle.matrix.specs.Matrix.{Matrix, Shaped, insert_row, put_cell}
use Rattle.matrix.specs.Rules.{Within, put_answer, insert_answer}
use Rattle.matrix.proofs.Along.{along_twice}
use Rattle.keeps.specs.Kept.{Store, pushed, push_answer}
use Rattle.matrix.specs.declared.axis.Axis.{Axis}
use Rattle.sheet.specs.declared.edit.Edit.{Edit}
use Rattle.sheet.specs.declared.edit.Edit.TheVariants.{Put, Insert}
use Rattle.matrix.specs.Axes.{along, inserted, insert_along}
use Rattle.sheet.specs.Book.{Book, owed_limit, kept, full, lacks, entered, then, insert_said, insert_book, put_said, put_book, alone}
use Rattle.sheet.specs.Stands.{Agrees}
use Rattle.matrix.proofs.Goes.{met_at, met_wide}
use Rattle.sheet.proofs.Undoes.{insert_undone, put_undone}
use Rattle.sheet.proofs.Agreements.{no_room, is_full, not_full, enter, accept, refuse, same_store, book_within}

-- a check on numbers that are the board's
pub checked : {T : Type 0} (q : Result Unit Refusal) (L l : Limits) (i n : ℕ) (p : ℕ × ℕ) (m : Matrix T) → q ≡ insert_answer L i n p.0 p.1 → q ≡ Ok tt → L ≡ l → p ≡ (m.rows, m.cols) → Ok tt ≡ insert_answer l i n m.rows m.cols
checked q L l i n p m e ok el ep = sym ok ∙ e ∙ ap (λ z. insert_answer z i n p.0 p.1) el ∙ ap (λ (z : ℕ × ℕ). insert_answer l i n z.0 z.1) ep

module _ {T : Type 0} {ko : Type 0} {m : Matrix T} {l : Limits} {k : Store T} {js : List Edit} {b : Book T} (h : Agrees ko m l k js b) (w : Within l m) (ax : Axis) (i : ℕ) (line : List T) (ok : Ok tt ≡ insert_along l ax i line m) where
  booked : Ok tt ≡ insert_along b.limits ax i line b.matrix
  booked = ok ∙ ap (λ z. insert_along z ax i line m) h.limits ∙ ap (insert_along b.limits ax i line) h.matrix

  pub insert_refused : (r : Result Unit Refusal) (e : Refusal) → Err e ≡ refused 10 (leb owed_limit (length js)) accepted → r ≡ Err e → (r ≡ insert_said ax i line b) × Agrees ko m l k js (insert_book ax i line b)
  insert_refused r e p is =
      let no = no_room (length js) e p in
      refuse b _ (insert_said ax i line b) r e is (ap (λ q. then q (refused 10 (full b) accepted)) (sym booked) ∙ ap (λ t. refused 10 t accepted) (is_full h no.0) ∙ ap Err (sym no.1)) h

  pub insert_accepted : {m' : Matrix T} {l' : Limits} {js' : List Edit} → length js < owed_limit → m' ≡ inserted ax i line m → l' ≡ l → js' ≡ js ++ (Insert ax i (length line) ∷ []) → (Ok tt ≡ insert_said ax i line b) × Agrees ko m' l' k js' (insert_book ax i line b)
  insert_accepted p em el ej =
      let v = book_within h w in
      let n = inserted ax i line b.matrix in
      accept b (entered (Insert ax i (length line)) n [] b) (insert_said ax i line b)
      (ap (λ q. then q (refused 10 (full b) accepted)) (sym booked) ∙ ap (λ t. refused 10 t accepted) (not_full h p))
      (enter h (Insert ax i (length line)) n [] h.ordered (em ∙ ap (inserted ax i line) h.matrix) el (same_store k) ej
      (rows, cols, omega (arith, met_wide b.limits i (length line) (along ax b.matrix).rows (along ax b.matrix).cols booked, v.side), refl)
      (insert_undone ax i line b.limits b.matrix v booked))
    where
      rows : i < (along ax (inserted ax i line b.matrix)).rows
      rows = let e = ap (λ (z : Matrix T). z.rows) (along_twice ax (insert_row i line (along ax b.matrix))) in let a = met_at b.limits i (length line) (along ax b.matrix).rows (along ax b.matrix).cols booked in omega arith

      cols : (along ax (inserted ax i line b.matrix)).cols ≡ length line
      cols = ap (λ (z : Matrix T). z.cols) (along_twice ax (insert_row i line (along ax b.matrix)))

-- a place inside, and one outside, by what is read there
inside_row : {T : Type 0} (m : Matrix T) (s : Shaped m) (r c : ℕ) (x : T) → m.cell r c ≡ Some x → r < m.rows
inside_row m s r c x e = ⊎_elim (λ (h : r < m.rows). h) (λ (h : m.rows ≤ r). absurd (none-some x (sym (s.below r c h) ∙ e))) (cases_lt r m.rows)

inside_col : {T : Type 0} (m : Matrix T) (s : Shaped m) (r c : ℕ) (x : T) → m.cell r c ≡ Some x → c < m.cols
inside_col m s r c x e = ⊎_elim (λ (h : c < m.cols). h) (λ (h : m.cols ≤ c). absurd (none-some x (sym (s.right r c h) ∙ e))) (cases_lt c m.cols)

put_in : {T : Type 0} (m : Matrix T) (r c : ℕ) → r < m.rows → c < m.cols → put_answer r c m ≡ Ok tt
put_in m r c hr hc = grind (arith, nat_tests)

put_out : {T : Type 0} (m : Matrix T) (r c : ℕ) → (r < m.rows → c < m.cols → ⊥) → put_answer r c m ≡ Err Place
put_out m r c ne = ⊎_elim
    (λ (hr : r < m.rows). ⊎_elim (λ (hc : c < m.cols). absurd (ne hr hc)) (λ (hc : m.cols ≤ c). grind (arith, nat_tests)) (cases_lt c m.cols))
    (λ (hr : m.rows ≤ r). grind (arith, nat_tests))
    (cases_lt r m.rows)

outside : {T : Type 0} (m : Matrix T) (s : Shaped m) (r c : ℕ) → m.cell r c ≡ None → r < m.rows → c < m.cols → ⊥
outside m s r c e hr hc = let q = s.full r c hr hc in none-some q.0 (sym e ∙ q.1)

-- what a push answers, read on the count
push_stops : {T : Type 0} (k : Store T) (e : Refusal) → Err e ≡ push_answer k → (k.most ≤ length k.cells) × (e ≡ Keep)
push_stops k e p = (grind (arith, nat_tests), grind (arith, nat_tests))

push_goes : {T : Type 0} (k : Store T) → Ok tt ≡ push_answer k → length k.cells < k.most
push_goes k p = grind (arith, nat_tests)

module _ {T : Type 0} {ko : Type 0} {m : Matrix T} {l : Limits} {k : Store T} {js : List Edit} {b : Book T} (h : Agrees ko m l k js b) (w : Within l m) (r c : ℕ) (x : T) where
  pub put_nowhere : m.cell r c ≡ None → (Err Place ≡ put_said r c b) × Agrees ko m l k js (put_book r c x b)
  put_nowhere e = refuse b _ (put_said r c b) (Err Place) Place refl
      (ap (λ q. then q (refused 10 (full b) (refused 11 (lacks b 1) accepted))) (sym (ap (put_answer r c) h.matrix) ∙ put_out m r c (outside m w.shaped r c e))) h

  module _ (old : T) (e : m.cell r c ≡ Some old) where
    there : put_answer r c b.matrix ≡ Ok tt
    there = sym (ap (put_answer r c) h.matrix) ∙ put_in m r c (inside_row m w.shaped r c old e) (inside_col m w.shaped r c old e)

    on_to_journal : put_said r c b ≡ refused 10 (full b) (refused 11 (lacks b 1) accepted)
    on_to_journal = ap (λ q. then q (refused 10 (full b) (refused 11 (lacks b 1) accepted))) there

    pub put_no_journal : (s : Result Unit Refusal) (d : Refusal) → Err d ≡ refused 10 (leb owed_limit (length js)) accepted → s ≡ Err d → (s ≡ put_said r c b) × Agrees ko m l k js (put_book r c x b)
    put_no_journal s d p is =
        let no = no_room (length js) d p in
        refuse b _ (put_said r c b) s d is (on_to_journal ∙ ap (λ t. refused 10 t (refused 11 (lacks b 1) accepted)) (is_full h no.0) ∙ ap Err (sym no.1)) h

    pub put_no_keep : {ko' : Type 0} {k' : Store T} (s q : Result Unit Refusal) (d : Refusal) → length js < owed_limit → ko' → q ≡ Err d → q ≡ push_answer k → k' ≡ answered q (pushed old k) k → s ≡ Err d → (s ≡ put_said r c b) × Agrees ko' m l k' js (put_book r c x b)
    put_no_keep s q d p ko' qd qa qe is =
        let stop = push_stops k d (sym qd ∙ qa) in
        let same : _ ≡ k = qe ∙ ap (λ z. answered z (pushed old k) k) qd in
        let lack : lacks b 1 ≡ true = lt-ltb (b.most - length (kept b.entries)) 1 (omega (arith, stop.0, h.most, ap length h.cells)) in
        refuse b _ (put_said r c b) s d is (on_to_journal ∙ ap (λ t. refused 10 t (refused 11 (lacks b 1) accepted)) (not_full h p) ∙ ap (λ t. refused 11 t accepted) lack ∙ ap Err (sym stop.1))
        (record { ordered = ko'; matrix = h.matrix; limits = h.limits; cells = ap (λ z. z.cells) same ∙ h.cells; most = ap (λ z. z.most) same ∙ h.most; notes = h.notes; past = h.past; count = h.count })

    pub put_accepted : {ko' : Type 0} {m' : Matrix T} {l' : Limits} {k' : Store T} {js' : List Edit} (q s : Result Unit Refusal) → length js < owed_limit → ko' → q ≡ Ok tt → q ≡ push_answer k → k' ≡ answered q (pushed old k) k → s ≡ put_answer r c m → m' ≡ answered s (put_cell r c x m) m → l' ≡ l → js' ≡ js ++ (Put r c ∷ []) → (Ok tt ≡ put_said r c b) × Agrees ko' m' l' k' js' (put_book r c x b)
    put_accepted {ko'} {m'} {l'} {k'} {js'} q s p ko'' qok qa qe sa me el ej =
        let go = push_goes k (sym qok ∙ qa) in
        let lack : lacks b 1 ≡ false = le-ltb (b.most - length (kept b.entries)) 1 (omega (arith, go, h.most, ap length h.cells)) in
        let v = book_within h w in
        let eb : b.matrix.cell r c ≡ Some old = sym (ap (λ z. z.cell r c) h.matrix) ∙ e in
        let sok : s ≡ Ok tt = sa ∙ put_in m r c (inside_row m w.shaped r c old e) (inside_col m w.shaped r c old e) in
        let n = put_cell r c x b.matrix in
        let said : put_said r c b ≡ Ok tt = on_to_journal ∙ ap (λ t. refused 10 t (refused 11 (lacks b 1) accepted)) (not_full h p) ∙ ap (λ t. refused 11 t accepted) lack in
        let a = enter h (Put r c) n (old ∷ []) ko'' (me ∙ ap (λ z. answered z (put_cell r c x m) m) sok ∙ ap (put_cell r c x) h.matrix) el (qe ∙ ap (λ z. answered z (pushed old k) k) qok) ej (there, refl) (put_undone r c x old b.matrix eb) in
        accept b (entered (Put r c) n (alone (b.matrix.cell r c)) b) (put_said r c b) said
        (subst (λ (o : Option T). Agrees ko' m' l' k' js' (entered (Put r c) n (alone o) b)) (sym eb) a)
