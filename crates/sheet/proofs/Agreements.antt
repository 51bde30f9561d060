-- What an accepted edit and a refused one leave of the agreement of a sheet with a book.
use Rattle.std.proofs.Common.{◌≡◌, ℕ, ◌<◌, ◌≤◌, leb, true, false, List, [], ◌∷◌, ◌++◌, length, Ok, Err, Result, sym, refl, ap, ◌∙◌, subst, arith, length-append, le-leb}
use Rattle.std.proofs.lemmas.Bool.Decides.{nat_tests}
use borrow.Author.Tests.{lt-leb}
use Rattle.cells.specs.declared.refusal.Refusal.{Refusal}
use Rattle.cells.specs.declared.refusal.Refusal.TheVariants.{Journal}
use Rattle.cells.specs.Refusals.{answered, refused, accepted}
use Rattle.matrix.specs.declared.limits.Limits.{Limits}
use Rattle.matrix.specs.Matrix.{Matrix}
use Rattle.matrix.specs.Rules.{Within}
use Rattle.std.proofs.lemmas.List.{append-nil}
use Rattle.keeps.specs.Kept.{Store, holding}
use Rattle.sheet.specs.declared.edit.Edit.{Edit}
use Rattle.sheet.specs.Book.{Book, Entry, owed_limit, edits, full, entered, plain_said, settle}
use Rattle.sheet.specs.Stands.{Agrees, Undoable, undone}

pub length_edits : {T : Type 0} (es : List (Entry T)) → length (edits es) ≡ length es
length_edits [] = refl
length_edits (e ∷ es) = length-append (edits es) (e.edit ∷ []) ∙ omega (arith, length_edits es)

-- what the journal answers of its room
pub no_room : (n : ℕ) (e : Refusal) → Err e ≡ refused 10 (leb owed_limit n) accepted → (owed_limit ≤ n) × (e ≡ Journal)
no_room n e p = (grind (arith, nat_tests), grind (arith, nat_tests))

pub has_room : (n : ℕ) → Ok tt ≡ refused 10 (leb owed_limit n) accepted → n < owed_limit
has_room n p = grind (arith, nat_tests)

module _ {T : Type 0} {ko : Type 0} {m : Matrix T} {l : Limits} {k : Store T} {js : List Edit} {b : Book T} (h : Agrees ko m l k js b) where
  pub is_full : owed_limit ≤ length js → full b ≡ true
  is_full p = le-leb owed_limit (length b.entries) (omega (arith, ap length h.notes, length_edits b.entries))

  pub not_full : length js < owed_limit → full b ≡ false
  not_full p = lt-leb owed_limit (length b.entries) (omega (arith, ap length h.notes, length_edits b.entries))

  -- an edit is written down
  pub enter : {ko' : Type 0} {m' : Matrix T} {l' : Limits} {k' : Store T} {js' : List Edit} (e : Edit) (n : Matrix T) (off : List T) → ko' → m' ≡ n → l' ≡ l → k' ≡ holding (k.cells ++ off) k → js' ≡ js ++ (e ∷ []) → Undoable e off b.limits n → undone e off n ≡ b.matrix → Agrees ko' m' l' k' js' (entered e n off b)
  enter e n off ko' em el ek ej can back = record {
    ordered = ko';
    matrix = em;
    limits = el ∙ h.limits;
    cells = ap (λ z. z.cells) ek ∙ ap (λ xs. xs ++ off) h.cells;
    most = ap (λ z. z.most) ek ∙ h.most;
    notes = ej ∙ ap (λ es. es ++ (e ∷ [])) h.notes;
    past = (can, back, h.past);
    count = omega (arith, h.count);
  }

-- an answer that is yes leaves the new book, one that is no the old
pub accept : {T : Type 0} {ko : Type 0} {m : Matrix T} {l : Limits} {k : Store T} {js : List Edit} (b new : Book T) (said : Result Unit Refusal) → said ≡ Ok tt → Agrees ko m l k js new → (Ok tt ≡ said) × Agrees ko m l k js (answered said new b)
accept {ko = ko} {m = m} {l = l} {k = k} {js = js} b new said e h = (sym e, subst (λ (q : Result Unit Refusal). Agrees ko m l k js (answered q new b)) (sym e) h)

pub refuse : {T : Type 0} {ko : Type 0} {m : Matrix T} {l : Limits} {k : Store T} {js : List Edit} (b new : Book T) (said : Result Unit Refusal) (r : Result Unit Refusal) (d : Refusal) → r ≡ Err d → said ≡ Err d → Agrees ko m l k js b → (r ≡ said) × Agrees ko m l k js (answered said new b)
refuse {ko = ko} {m = m} {l = l} {k = k} {js = js} b new said r d is e h = (is ∙ sym e, subst (λ (q : Result Unit Refusal). Agrees ko m l k js (answered q new b)) (sym e) h)

-- an edit that asks the board nothing: refused where the journal is full, and else written down
module _ {T : Type 0} {ko : Type 0} {m : Matrix T} {l : Limits} {k : Store T} {js : List Edit} {b : Book T} (h : Agrees ko m l k js b) where
  pub plain_refused : (new : Book T) (r : Result Unit Refusal) (e : Refusal) → Err e ≡ refused 10 (leb owed_limit (length js)) accepted → r ≡ Err e → (r ≡ plain_said b) × Agrees ko m l k js (answered (plain_said b) new b)
  plain_refused new r e p is = let no = no_room (length js) e p in refuse b new (plain_said b) r e is (ap (λ t. refused 10 t accepted) (is_full h no.0) ∙ ap Err (sym no.1)) h

  pub plain_accepted : {ko' : Type 0} {m' : Matrix T} {l' : Limits} {k' : Store T} {js' : List Edit} (new : Book T) → length js < owed_limit → Agrees ko' m' l' k' js' new → (Ok tt ≡ plain_said b) × Agrees ko' m' l' k' js' (answered (plain_said b) new b)
  plain_accepted new p a = accept b new (plain_said b) (ap (λ t. refused 10 t accepted) (not_full h p)) a

-- nothing taken off
pub same_store : {T : Type 0} (k : Store T) → k ≡ holding (k.cells ++ []) k
same_store k = λ i. record { cells = sym (append-nil k.cells) i; most = k.most }

-- an edit that asks the board nothing, takes nothing off, and was written down
pub plain_done : {T : Type 0} {ko : Type 0} {m m' : Matrix T} {l l' : Limits} {k : Store T} {js js' : List Edit} {b : Book T} → Agrees ko m l k js b → (x : Edit) (n : Matrix T) → length js < owed_limit → m' ≡ n → l' ≡ l → js' ≡ js ++ (x ∷ []) → Undoable x [] b.limits n → undone x [] n ≡ b.matrix
    → (Ok tt ≡ plain_said b) × Agrees ko m' l' k js' (answered (plain_said b) (entered x n [] b) b)
plain_done {k = k} {b = b} h x n p em el ej can back = plain_accepted h (entered x n [] b) p (enter h x n [] h.ordered em el (same_store k) ej can back)

-- what the board owes, of the book's matrix
pub book_within : {T : Type 0} {ko : Type 0} {m : Matrix T} {l : Limits} {k : Store T} {js : List Edit} {b : Book T} → Agrees ko m l k js b → Within l m → Within b.limits b.matrix
book_within {T} {m = m} {l = l} {b = b} h w = subst (λ (z : Limits). Within z b.matrix) h.limits (subst (λ (n : Matrix T). Within l n) h.matrix w)

-- the owed edits are settled, and the keep is emptied
pub settled : {T : Type 0} {ko ko' : Type 0} {m : Matrix T} {l : Limits} {k k' : Store T} {js : List Edit} {b : Book T} {n : ℕ} → Agrees ko m l k js b → ko' → k'.cells ≡ [] → k'.most ≡ k.most → n ≡ length js → Agrees ko' m l k' [] (settle b) × (n ≡ length b.entries)
settled {b = b} h o empty most count = (
  record {
    ordered = o;
    matrix = h.matrix;
    limits = h.limits;
    cells = empty;
    most = most ∙ h.most;
    notes = refl;
    past = tt;
    count = omega (arith, h.count);
  },
  count ∙ ap length h.notes ∙ length_edits b.entries,
)
