-- The agreement after a step back.
use Rattle.std.proofs.Common.{◌≡◌, ℕ, ◌<◌, ◌≤◌, ltb, List, [], ◌∷◌, ◌++◌, length, Some, None, Ok, Err, Option, Result, sym, refl, ap, ◌∙◌, subst, arith, le-ltb, lt-ltb}
use Rattle.std.proofs.lemmas.List.{append-nil}
use Rattle.cells.specs.declared.refusal.Refusal.{Refusal}
use Rattle.cells.specs.declared.refusal.Refusal.TheVariants.{NothingOwed, Short}
use Rattle.cells.specs.Refusals.{answered, refused, accepted}
use Rattle.matrix.specs.declared.limits.Limits.{Limits}
use Rattle.matrix.specs.Matrix.{Matrix, put_cell, over}
use Rattle.keeps.specs.Kept.{Store, holding, newest, older, taken}
use Rattle.keeps.proofs.Newest.{newest_last, older_last}
use Rattle.std.proofs.lemmas.Option.{none-some, same_Some}
use Rattle.matrix.specs.Rules.{put_answer}
use Rattle.matrix.proofs.Goes.{goes_out}
use Rattle.matrix.specs.declared.axis.Axis.{Axis}
use Rattle.sheet.specs.declared.edit.Edit.{Edit}
use Rattle.sheet.specs.declared.edit.Edit.TheVariants.{Put, Insert, Remove}
use Rattle.matrix.specs.Axes.{along, inserted, removed, line_of, insert_along, remove_along}
use Rattle.boards.specs.declared.board.Board.{Ghosts as Board}
use Rattle.keeps.specs.declared.keep.Keep.{Ghosts as Keep}
use Rattle.sheet.specs.declared.sheets.OpenSheet.{OpenSheet}
use Rattle.sheet.specs.Book.{Book, Entry, kept, edits, span, struck, by_newest, handed_back, back_said, back_book, back_memory}
use Rattle.sheet.specs.Stands.{Agrees, Undoable, undone, Past}

-- a sheet that stands by this book, and what its newest entry is
pub record Newest {T : Type 0} (b : Book T) (e : Edit) : Type 0 where
  pub entry : Entry T
  pub rest : List (Entry T)
  pub entries : b.entries ≡ entry ∷ rest
  pub edit : entry.edit ≡ e

newest_entry : {T : Type 0} (es : List (Entry T)) (e : Edit) → Some e ≡ newest (edits es) → (x : Entry T) × ((xs : List (Entry T)) × ((es ≡ x ∷ xs) × (x.edit ≡ e)))
newest_entry [] e p = absurd (none-some e (sym p))
newest_entry (x ∷ xs) e p = (x, (xs, (refl, sym (same_Some e x.edit (p ∙ newest_last (edits xs) x.edit)))))

module _ {T : Type 0} {ko : Type 0} {m : Matrix T} {l : Limits} {k : Store T} {js : List Edit} {b : Book T} (h : Agrees ko m l k js b) where
  pub is_newest : (e : Edit) → Some e ≡ newest js → Newest b e
  is_newest e p =
      let q = newest_entry b.entries e (p ∙ ap newest h.notes) in
      record { entry = q.0; rest = q.1.0; entries = q.1.1.0; edit = q.1.1.1 }

  none_owed : (es : List (Entry T)) → None ≡ newest (edits es) → es ≡ []
  none_owed [] p = refl
  none_owed (x ∷ xs) p = absurd (none-some x.edit (p ∙ newest_last (edits xs) x.edit))

  pub back_nothing : (memory : List T) → None ≡ newest js → ((Err NothingOwed ≡ back_said memory b) × Agrees ko m l k js (back_book memory b)) × (memory ≡ back_memory memory b)
  back_nothing memory p =
      let z : b.entries ≡ [] = none_owed b.entries (p ∙ ap newest h.notes) in
      let s : back_said memory b ≡ Err NothingOwed = ap (λ es. by_newest es (Err NothingOwed) (λ e rest. refused 9 (ltb (length memory) (span e.edit)) accepted)) z in (
        (sym s, subst (λ (q : Result Unit Refusal). Agrees ko m l k js (answered q (by_newest b.entries b (λ e es. struck e es b)) b)) (sym s) h),
        sym (ap (λ q. answered q (by_newest b.entries memory (λ e es. over (handed_back e.edit e.taken b.matrix) memory)) memory) s),
      )

-- the newest entry x, the rest xs, and the edit e that x is
module _ {T : Type 0} {ko : Type 0} {m : Matrix T} {l : Limits} {k : Store T} {js : List Edit} {b : Book T} (h : Agrees ko m l k js b) (e : Edit) (nw : Newest b e) (memory : List T) where
  abbrev x : Entry T
  x = nw.entry

  abbrev xs : List (Entry T)
  xs = nw.rest

  there : Undoable x.edit x.taken b.limits b.matrix × (undone x.edit x.taken b.matrix ≡ x.before) × Past b.limits x.before xs
  there = subst (λ (es : List (Entry T)). Past b.limits b.matrix es) nw.entries h.past

  pub can_undo : Undoable e x.taken b.limits b.matrix
  can_undo = subst (λ (d : Edit). Undoable d x.taken b.limits b.matrix) nw.edit there.0

  pub undone_is : undone e x.taken b.matrix ≡ x.before
  undone_is = ap (λ d. undone d x.taken b.matrix) (sym nw.edit) ∙ there.1

  pub keep_ends : k.cells ≡ kept xs ++ x.taken
  keep_ends = h.cells ∙ ap kept nw.entries

  said_is : back_said memory b ≡ refused 9 (ltb (length memory) (span e)) accepted
  said_is = ap (λ es. by_newest es (Err NothingOwed) (λ d rest. refused 9 (ltb (length memory) (span d.edit)) accepted)) nw.entries ∙ ap (λ d. refused 9 (ltb (length memory) (span d)) accepted) nw.edit

  pub back_short : length memory < span e → ((Err Short ≡ back_said memory b) × Agrees ko m l k js (back_book memory b)) × (memory ≡ back_memory memory b)
  back_short p =
      let s : back_said memory b ≡ Err Short = said_is ∙ ap (λ t. refused 9 t accepted) (lt-ltb (length memory) (span e) p) in (
        (sym s, subst (λ (q : Result Unit Refusal). Agrees ko m l k js (answered q (by_newest b.entries b (λ d es. struck d es b)) b)) (sym s) h),
        sym (ap (λ q. answered q (by_newest b.entries memory (λ d es. over (handed_back d.edit d.taken b.matrix) memory)) memory) s),
      )

  struck_agrees : {ko' : Type 0} {m' : Matrix T} {l' : Limits} {k' : Store T} {js' : List Edit} → ko' → m' ≡ x.before → l' ≡ l → k' ≡ holding (kept xs) k → js' ≡ older js → Agrees ko' m' l' k' js' (struck x xs b)
  struck_agrees ko' em el ek ej = record {
    ordered = ko';
    matrix = em;
    limits = el ∙ h.limits;
    cells = ap (λ z. z.cells) ek;
    most = ap (λ z. z.most) ek ∙ h.most;
    notes = ej ∙ ap older (h.notes ∙ ap edits nw.entries) ∙ older_last (edits xs) x.edit;
    past = there.2;
    count = omega (arith, h.count, ap length nw.entries);
  }

  -- the edit is undone: the board has the matrix before it, the keep is without what it took off
  pub back_done : {ko' : Type 0} {m' : Matrix T} {l' : Limits} {k' : Store T} {js' : List Edit} {memory' : List T} → span e ≤ length memory → ko' → m' ≡ undone e x.taken b.matrix → l' ≡ l → k' ≡ holding (kept xs) k → js' ≡ older js → memory' ≡ over (handed_back e x.taken b.matrix) memory → ((Ok tt ≡ back_said memory b) × Agrees ko' m' l' k' js' (back_book memory b)) × (memory' ≡ back_memory memory b)
  back_done {ko'} {m'} {l'} {k'} {js'} {memory'} p o em el ek ej left =
      let s : back_said memory b ≡ Ok tt = said_is ∙ ap (λ t. refused 9 t accepted) (le-ltb (length memory) (span e) p) in
      let book : back_book memory b ≡ struck x xs b = ap (λ q. answered q (by_newest b.entries b (λ d es. struck d es b)) b) s ∙ ap (λ es. by_newest es b (λ d rest. struck d rest b)) nw.entries in
      let mem : back_memory memory b ≡ over (handed_back e x.taken b.matrix) memory = ap (λ q. answered q (by_newest b.entries memory (λ d es. over (handed_back d.edit d.taken b.matrix) memory)) memory) s ∙ ap (λ es. by_newest es memory (λ d rest. over (handed_back d.edit d.taken b.matrix) memory)) nw.entries ∙ ap (λ d. over (handed_back d x.taken b.matrix) memory) nw.edit in
      ((sym s, subst (λ (z : Book T). Agrees ko' m' l' k' js' z) (sym book) (struck_agrees o (em ∙ undone_is) el ek ej)), left ∙ sym mem)

  -- nothing was taken off, so the keep stays
  pub same_keep : x.taken ≡ [] → k ≡ holding (kept xs) k
  same_keep z = λ i. record { cells = (keep_ends ∙ ap (λ ys. kept xs ++ ys) z ∙ append-nil (kept xs)) i; most = k.most }

-- one cell
pub one_cell : {X : Type 0} (xs : List X) → length xs ≡ 1 → (x : X) × (xs ≡ x ∷ [])
one_cell [] e = absurd (omega arith)
one_cell (x ∷ []) e = (x, refl)
one_cell (x ∷ (y ∷ ys)) e = absurd (omega arith)

-- the board's call that undoes each kind of edit
module _ {T : Type 0} {ko : Type 0} {m : Matrix T} {l : Limits} {k : Store T} {js : List Edit} {b : Book T} (h : Agrees ko m l k js b) (memory : List T) where
  pub undo_insert : {m' : Matrix T} {l' : Limits} {js' : List Edit} {memory' : List T} (ax : Axis) (i n : ℕ) (nw : Newest b (Insert ax i n)) (r : Result Unit Refusal) → n ≤ length memory → r ≡ remove_along ax i memory m → m' ≡ answered r (removed ax i m) m → memory' ≡ answered r (over (line_of ax i m) memory) memory → l' ≡ l → js' ≡ older js → ((Ok tt ≡ back_said memory b) × Agrees ko m' l' k js' (back_book memory b)) × (memory' ≡ back_memory memory b)
  undo_insert ax i n nw r p ra re rl el ej =
      let can = can_undo h (Insert ax i n) nw memory in
      let yes : r ≡ Ok tt = ra ∙ ap (remove_along ax i memory) h.matrix ∙ sym (goes_out i (length memory) (along ax b.matrix).rows (along ax b.matrix).cols can.0 (omega (arith, can.1))) in
      back_done h (Insert ax i n) nw memory p h.ordered
      (re ∙ ap (λ q. answered q (removed ax i m) m) yes ∙ ap (removed ax i) h.matrix) el (same_keep h (Insert ax i n) nw memory can.3) ej
      (rl ∙ ap (λ q. answered q (over (line_of ax i m) memory) memory) yes ∙ ap (λ z. over (line_of ax i z) memory) h.matrix)

  pub undo_remove : {ko' : Type 0} {m' : Matrix T} {l' : Limits} {k' : Store T} {js' : List Edit} {memory' : List T} (ax : Axis) (i n : ℕ) (nw : Newest b (Remove ax i n)) (r : Result Unit Refusal) (off : List T) → n ≤ length memory → ko' → off ≡ nw.entry.taken → k' ≡ holding (kept nw.rest) k → r ≡ insert_along l ax i off m → m' ≡ answered r (inserted ax i off m) m → memory' ≡ over off memory → l' ≡ l → js' ≡ older js → ((Ok tt ≡ back_said memory b) × Agrees ko' m' l' k' js' (back_book memory b)) × (memory' ≡ back_memory memory b)
  undo_remove ax i n nw r off p o eo ek ra re rl el ej =
      let can = can_undo h (Remove ax i n) nw memory in
      let yes : r ≡ Ok tt = ra ∙ ap (λ z. insert_along z ax i off m) h.limits ∙ ap (insert_along b.limits ax i off) h.matrix ∙ ap (λ z. insert_along b.limits ax i z b.matrix) eo ∙ can.0 in
      back_done h (Remove ax i n) nw memory p o
      (re ∙ ap (λ q. answered q (inserted ax i off m) m) yes ∙ ap (inserted ax i off) h.matrix ∙ ap (λ z. inserted ax i z b.matrix) eo) el ek ej
      (rl ∙ ap (λ z. over z memory) eo)

  -- the keep's newest cell is the one that the put took off
  pub put_cell_back : (r c : ℕ) (nw : Newest b (Put r c)) (o : Option T) → o ≡ newest k.cells → (old : T) × ((o ≡ Some old) × ((nw.entry.taken ≡ old ∷ []) × (older k.cells ≡ kept nw.rest)))
  put_cell_back r c nw o oa =
      let can = can_undo h (Put r c) nw memory in
      let one = one_cell nw.entry.taken can.1 in
      let ends = keep_ends h (Put r c) nw memory ∙ ap (λ ys. kept nw.rest ++ ys) one.1 in
      (one.0, (oa ∙ ap newest ends ∙ newest_last (kept nw.rest) one.0, (one.1, ap older ends ∙ older_last (kept nw.rest) one.0)))

  pub undo_put : {ko' : Type 0} {m' : Matrix T} {l' : Limits} {k' : Store T} {js' : List Edit} (r c : ℕ) (nw : Newest b (Put r c)) (q : Result Unit Refusal) (old : T) → ko' → Some old ≡ newest k.cells → k' ≡ taken k → q ≡ put_answer r c m → m' ≡ answered q (put_cell r c old m) m → l' ≡ l → js' ≡ older js → ((Ok tt ≡ back_said memory b) × Agrees ko' m' l' k' js' (back_book memory b)) × (memory ≡ back_memory memory b)
  undo_put r c nw q old o oa ek qa qe el ej =
      let can = can_undo h (Put r c) nw memory in
      let was = put_cell_back r c nw (Some old) oa in
      let same : old ≡ was.0 = same_Some old was.0 was.1.0 in
      let yes : q ≡ Ok tt = qa ∙ ap (put_answer r c) h.matrix ∙ can.0 in
      back_done h (Put r c) nw memory (omega arith) o
      (qe ∙ ap (λ z. answered z (put_cell r c old m) m) yes ∙ ap (put_cell r c old) h.matrix ∙ ap (λ z. put_cell r c z b.matrix) same ∙ ap (λ ys. undone (Put r c) ys b.matrix) (sym was.1.1.0))
      el (ek ∙ (λ i. record { cells = was.1.1.1 i; most = k.most })) ej refl

-- a sheet after a step back, and the memory, as the book says
abbrev pub Back : {B K T : Type 0} → Board B T → Keep K T → OpenSheet B K → List Edit → List T → List T → Book T → Type 0
Back board keep s js memory' memory b = ((Ok tt ≡ back_said memory b) × Agrees (keep.ordered s.keep) (board.matrix s.board) (board.limits s.board) (keep.store s.keep) js (back_book memory b)) × (memory' ≡ back_memory memory b)

pub back_by : {B K T : Type 0} (board : Board B T) (keep : Keep K T) (memory : List T) (b : Book T) {s s' : OpenSheet B K} {js : List Edit} {m m' : List T} → s' ≡ s → m' ≡ m → Back board keep s js m memory b → Back board keep s' js m' memory b
back_by board keep memory b {s} {s'} {js} {m} {m'} es em h = subst (λ z. Back board keep z js m' memory b) (sym es) (subst (λ z. Back board keep s js z memory b) (sym em) h)
