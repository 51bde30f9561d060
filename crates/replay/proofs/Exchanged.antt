-- A list and its exchange, on a book and on the book turned.
use Rattle.std.proofs.Common.{◌≡◌, ℕ, suc, ◌+◌, ◌-◌, Bool, true, false, ◌||◌, ltb, leb, List, [], ◌∷◌, ◌++◌, map, length, Some, None, Ok, Err, Option, Result, sym, refl, ap, ◌∙◌}
use Rattle.cells.specs.declared.refusal.Refusal.{Refusal}
use Rattle.cells.specs.Refusals.{answered, refused, accepted, numbered}
use Rattle.matrix.specs.Matrix.{Matrix, turned, put_cell, over}
use Rattle.matrix.specs.Rules.{put_answer}
use Rattle.matrix.proofs.Held.{turns}
use Rattle.matrix.specs.declared.axis.Axis.{Axis}
use Rattle.matrix.specs.declared.axis.Axis.TheVariants.{Row, Col}
use Rattle.sheet.specs.declared.edit.Edit.{Edit}
use Rattle.sheet.specs.declared.edit.Edit.TheVariants as edit
use Rattle.matrix.specs.Axes.{other, inserted, removed, line_of, flipped, insert_along, remove_along}
use Rattle.sheet.specs.Book.{Book, Entry, owed_limit, kept, then, full, lacks, entered, alone, by_newest, span, handed_back, struck, settle, put_said, put_book, insert_said, insert_book, remove_said, remove_book, remove_memory, plain_said, transpose_book, flip_book, back_said, back_book, back_memory}
use Rattle.flat.specs.Segments.{part, patched}
use Rattle.replay.specs.declared.call.Call.{Call}
use Rattle.replay.specs.declared.call.Call.TheVariants.{Put, Insert, Remove, Transpose, Flip, StepBack, Publish, Reopen, Get, Size, Owed, Kept, Settled}
use Rattle.replay.specs.declared.call.Answer.{Answer}
use Rattle.replay.specs.declared.call.Answer.TheVariants.{Said, Count, Moved, Lacking}
use Rattle.replay.specs.World.{World, by_stage, edited, open_only, next, reply, after, replies}
use Rattle.replay.specs.Laws.{exchange, exchanged, other_edit, turned_entry, turned_entries, turned_book, turned_world}

or_comm : (x y : Bool) → (x || y) ≡ (y || x)
or_comm true true = refl
or_comm true false = refl
or_comm false true = refl
or_comm false false = refl

through : {A E X : Type 0} (f : X → X) (r : Result A E) (x y : X) → answered r (f x) (f y) ≡ f (answered r x y)
through f (Ok a) x y = refl
through f (Err e) x y = refl

pub kept_turned : {T : Type 0} (es : List (Entry T)) → kept (turned_entries es) ≡ kept es
kept_turned [] = refl
kept_turned (e ∷ es) = ap (λ l. l ++ e.taken) (kept_turned es)

pub length_turned : {T : Type 0} (es : List (Entry T)) → length (turned_entries es) ≡ length es
length_turned [] = refl
length_turned (e ∷ es) = ap suc (length_turned es)

-- the tests that edits share
full_turned : {T : Type 0} (b : Book T) → full (turned_book b) ≡ full b
full_turned b = ap (leb owed_limit) (length_turned b.entries)

plain_turned : {T : Type 0} (b : Book T) → plain_said (turned_book b) ≡ plain_said b
plain_turned b = ap (λ t. refused 10 t accepted) (full_turned b)

room_turned : {T : Type 0} (b : Book T) (n : ℕ) → refused 10 (full (turned_book b)) (refused 11 (lacks (turned_book b) n) accepted) ≡ refused 10 (full b) (refused 11 (lacks b n) accepted)
room_turned b n = ap (λ t. refused 10 t (refused 11 (lacks (turned_book b) n) accepted)) (full_turned b) ∙ ap (λ l. refused 10 (full b) (refused 11 (ltb (b.most - length l) n) accepted)) (kept_turned b.entries)

-- an edit whose answer is the same, and whose matrix is turned
entered_turned : {T : Type 0} (b : Book T) (r r' : Result Unit Refusal) (x : Edit) (m m' : Matrix T) (off : List T) → r' ≡ r → m' ≡ turned m → answered r' (entered (other_edit x) m' off (turned_book b)) (turned_book b) ≡ turned_book (answered r (entered x m off b) b)
entered_turned b r r' x m m' off p q = ap (λ z. answered z (entered (other_edit x) m' off (turned_book b)) (turned_book b)) p ∙ ap (λ z. answered r (entered (other_edit x) z off (turned_book b)) (turned_book b)) q ∙ through turned_book r (entered x m off b) b

-- put
put_said_turned : {T : Type 0} (b : Book T) (r c : ℕ) → put_said c r (turned_book b) ≡ put_said r c b
put_said_turned b r c =
    ap (λ t. then (refused 6 t accepted) (refused 10 (full (turned_book b)) (refused 11 (lacks (turned_book b) 1) accepted))) (or_comm (leb b.matrix.cols c) (leb b.matrix.rows r))
    ∙ ap (then (put_answer r c b.matrix)) (room_turned b 1)

put_turned : {T : Type 0} (b : Book T) (r c : ℕ) (x : T) → put_book c r x (turned_book b) ≡ turned_book (put_book r c x b)
put_turned {T} b r c x = entered_turned b (put_said r c b) (put_said c r (turned_book b)) (edit.Put r c) (put_cell r c x b.matrix) (put_cell c r x (turned b.matrix)) (alone (b.matrix.cell r c)) (put_said_turned b r c) (sym ((turns T).put r c x b.matrix))

-- lines
insert_said_turned : {T : Type 0} (b : Book T) (ax : Axis) (i : ℕ) (xs : List T) → insert_said (other ax) i xs (turned_book b) ≡ insert_said ax i xs b
insert_said_turned b Row i xs = ap (then (insert_along b.limits Row i xs b.matrix)) (plain_turned b)
insert_said_turned b Col i xs = ap (then (insert_along b.limits Col i xs b.matrix)) (plain_turned b)

insert_turned : {T : Type 0} (b : Book T) (ax : Axis) (i : ℕ) (xs : List T) → insert_book (other ax) i xs (turned_book b) ≡ turned_book (insert_book ax i xs b)
insert_turned b Row i xs = entered_turned b (insert_said Row i xs b) (insert_said Col i xs (turned_book b)) (edit.Insert Row i (length xs)) (inserted Row i xs b.matrix) (inserted Col i xs (turned b.matrix)) [] (insert_said_turned b Row i xs) refl
insert_turned b Col i xs = entered_turned b (insert_said Col i xs b) (insert_said Row i xs (turned_book b)) (edit.Insert Col i (length xs)) (inserted Col i xs b.matrix) (inserted Row i xs (turned b.matrix)) [] (insert_said_turned b Col i xs) refl

remove_said_turned : {T : Type 0} (b : Book T) (ax : Axis) (i : ℕ) (memory : List T) → remove_said (other ax) i memory (turned_book b) ≡ remove_said ax i memory b
remove_said_turned b Row i memory = ap (then (remove_along Row i memory b.matrix)) (room_turned b b.matrix.cols)
remove_said_turned b Col i memory = ap (then (remove_along Col i memory b.matrix)) (room_turned b b.matrix.rows)

remove_turned : {T : Type 0} (b : Book T) (ax : Axis) (i : ℕ) (memory : List T) → remove_book (other ax) i memory (turned_book b) ≡ turned_book (remove_book ax i memory b)
remove_turned b Row i memory = entered_turned b (remove_said Row i memory b) (remove_said Col i memory (turned_book b)) (edit.Remove Row i b.matrix.cols) (removed Row i b.matrix) (removed Col i (turned b.matrix)) (line_of Row i b.matrix) (remove_said_turned b Row i memory) refl
remove_turned b Col i memory = entered_turned b (remove_said Col i memory b) (remove_said Row i memory (turned_book b)) (edit.Remove Col i b.matrix.rows) (removed Col i b.matrix) (removed Row i (turned b.matrix)) (line_of Col i b.matrix) (remove_said_turned b Col i memory) refl

line_turned : {T : Type 0} (m : Matrix T) (ax : Axis) (i : ℕ) → line_of (other ax) i (turned m) ≡ line_of ax i m
line_turned m Row i = refl
line_turned m Col i = refl

remove_memory_turned : {T : Type 0} (b : Book T) (ax : Axis) (i : ℕ) (memory : List T) → remove_memory (other ax) i memory (turned_book b) ≡ remove_memory ax i memory b
remove_memory_turned b ax i memory = ap (λ z. answered z (over (line_of (other ax) i (turned b.matrix)) memory) memory) (remove_said_turned b ax i memory) ∙ ap (λ z. answered (remove_said ax i memory b) (over z memory) memory) (line_turned b.matrix ax i)

-- transpositions and flips
transpose_turned : {T : Type 0} (b : Book T) → transpose_book (turned_book b) ≡ turned_book (transpose_book b)
transpose_turned b = entered_turned b (plain_said b) (plain_said (turned_book b)) edit.Transpose (turned b.matrix) (turned (turned b.matrix)) [] (plain_turned b) refl

flip_turned : {T : Type 0} (b : Book T) (ax : Axis) → flip_book (other ax) (turned_book b) ≡ turned_book (flip_book ax b)
flip_turned b Row = entered_turned b (plain_said b) (plain_said (turned_book b)) (edit.Flip Row) (flipped Row b.matrix) (flipped Col (turned b.matrix)) [] (plain_turned b) refl
flip_turned b Col = entered_turned b (plain_said b) (plain_said (turned_book b)) (edit.Flip Col) (flipped Col b.matrix) (flipped Row (turned b.matrix)) [] (plain_turned b) refl

-- steps back
span_turned : (x : Edit) → span (other_edit x) ≡ span x
span_turned (edit.Put r c) = refl
span_turned (edit.Insert ax i n) = refl
span_turned (edit.Remove ax i n) = refl
span_turned edit.Transpose = refl
span_turned (edit.Flip ax) = refl

handed_turned : {T : Type 0} (x : Edit) (off : List T) (m : Matrix T) → handed_back (other_edit x) off (turned m) ≡ handed_back x off m
handed_turned (edit.Put r c) off m = refl
handed_turned (edit.Insert ax i n) off m = line_turned m ax i
handed_turned (edit.Remove ax i n) off m = refl
handed_turned edit.Transpose off m = refl
handed_turned (edit.Flip ax) off m = refl

newest_turned : {T A : Type 0} (es : List (Entry T)) (none : A) (some some' : Entry T → List (Entry T) → A) → ((e : Entry T) (es : List (Entry T)) → some' (turned_entry e) (turned_entries es) ≡ some e es) → by_newest (turned_entries es) none some' ≡ by_newest es none some
newest_turned [] none some some' p = refl
newest_turned (e ∷ es) none some some' p = p e es

module _ {T : Type 0} (b : Book T) (memory : List T) where
  back_said_turned : back_said memory (turned_book b) ≡ back_said memory b
  back_said_turned = newest_turned b.entries (Err (numbered 3)) (λ e es. refused 9 (ltb (length memory) (span e.edit)) accepted) (λ e es. refused 9 (ltb (length memory) (span e.edit)) accepted) (λ e es. ap (λ n. refused 9 (ltb (length memory) n) accepted) (span_turned e.edit))

  struck_turned : (es : List (Entry T)) → by_newest (turned_entries es) (turned_book b) (λ e es. struck e es (turned_book b)) ≡ turned_book (by_newest es b (λ e es. struck e es b))
  struck_turned [] = refl
  struck_turned (e ∷ es) = refl

  back_book_turned : back_book memory (turned_book b) ≡ turned_book (back_book memory b)
  back_book_turned =
      ap (λ z. answered z (by_newest (turned_entries b.entries) (turned_book b) (λ e es. struck e es (turned_book b))) (turned_book b)) back_said_turned
      ∙ ap (λ z. answered (back_said memory b) z (turned_book b)) (struck_turned b.entries)
      ∙ through turned_book (back_said memory b) (by_newest b.entries b (λ e es. struck e es b)) b

  back_memory_turned : back_memory memory (turned_book b) ≡ back_memory memory b
  back_memory_turned =
      ap (λ z. answered z (by_newest (turned_entries b.entries) memory (λ e es. over (handed_back e.edit e.taken (turned b.matrix)) memory)) memory) back_said_turned
      ∙ ap (λ z. answered (back_said memory b) z memory) (newest_turned b.entries memory (λ e es. over (handed_back e.edit e.taken b.matrix) memory) (λ e es. over (handed_back e.edit e.taken (turned b.matrix)) memory) (λ e es. ap (λ z. over z memory) (handed_turned e.edit e.taken b.matrix)))

-- worlds
stage_turned : {T : Type 0} (o : Option ℕ) (w v : World T) → by_stage o (turned_world v) (λ n. turned_world w) ≡ turned_world (by_stage o v (λ n. w))
stage_turned None w v = refl
stage_turned (Some n) w v = refl

edited_turned : {T : Type 0} (w : World T) (b b' : Book T) (memory memory' : List T) → b' ≡ turned_book b → memory' ≡ memory → edited (turned_world w) b' memory' ≡ turned_world (edited w b memory)
edited_turned w b b' memory memory' p q = ap (λ z. edited (turned_world w) z memory') p ∙ ap (λ z. edited (turned_world w) (turned_book b) z) q ∙ stage_turned w.stage w (record { book = b; stage = None; memory = memory })

next_turned : {T : Type 0} (pool : List T) (c : Call T) (w : World T) → next pool (exchange c) (turned_world w) ≡ turned_world (next pool c w)
next_turned pool (Put r c x) w = edited_turned w _ _ _ _ (put_turned w.book r c x) refl
next_turned pool (Insert ax i g) w = edited_turned w _ _ _ _ (insert_turned w.book ax i (part pool g)) refl
next_turned pool (Remove ax i g) w = edited_turned w _ _ _ _ (remove_turned w.book ax i (part w.memory g)) (ap (patched w.memory g) (remove_memory_turned w.book ax i (part w.memory g)))
next_turned pool Transpose w = edited_turned w _ _ _ _ (transpose_turned w.book) refl
next_turned pool (Flip ax) w = edited_turned w _ _ _ _ (flip_turned w.book ax) refl
next_turned pool (StepBack g) w = edited_turned w _ _ _ _ (back_book_turned w.book (part w.memory g)) (ap (patched w.memory g) (back_memory_turned w.book (part w.memory g)))
next_turned {T} pool Publish w =
    ap (λ n. by_stage {A = World T} w.stage (record { book = record { matrix = turned w.book.matrix; limits = w.book.limits; most = w.book.most; entries = []; accepted = w.book.accepted; back = w.book.back; settled = w.book.settled + n }; stage = Some n; memory = w.memory }) (λ k. turned_world w)) (length_turned w.book.entries)
    ∙ stage_turned w.stage w (record { book = settle w.book; stage = Some (length w.book.entries); memory = w.memory })
next_turned pool Reopen w = refl
next_turned pool (Get r c) w = refl
next_turned pool Size w = refl
next_turned pool Owed w = refl
next_turned pool Kept w = refl
next_turned pool Settled w = refl

-- answers that have no size in them
open_turned : {T : Type 0} (w : World T) (a a' : Answer T) → a' ≡ a → exchanged a ≡ a → open_only (turned_world w) a' ≡ exchanged (open_only w a)
open_turned w a a' p q = ap (open_only w) p ∙ by w.stage
  where
    by : (o : Option ℕ) → by_stage o a (λ n. Lacking) ≡ exchanged (by_stage o a (λ n. Lacking))
    by None = sym q
    by (Some n) = refl

late_turned : {T : Type 0} (o : Option ℕ) (f : ℕ → Answer T) → ((n : ℕ) → exchanged (f n) ≡ f n) → by_stage o Lacking f ≡ exchanged (by_stage o Lacking f)
late_turned None f p = refl
late_turned (Some n) f p = sym (p n)

reply_turned : {T : Type 0} (pool : List T) (c : Call T) (w : World T) → reply pool (exchange c) (turned_world w) ≡ exchanged (reply pool c w)
reply_turned pool (Put r c x) w = open_turned w _ _ (ap Said (put_said_turned w.book r c)) refl
reply_turned pool (Insert ax i g) w = open_turned w _ _ (ap Said (insert_said_turned w.book ax i (part pool g))) refl
reply_turned pool (Remove ax i g) w = open_turned w _ _ (ap Said (remove_said_turned w.book ax i (part w.memory g))) refl
reply_turned pool Transpose w = open_turned w _ _ (ap Said (plain_turned w.book)) refl
reply_turned pool (Flip ax) w = open_turned w _ _ (ap Said (plain_turned w.book)) refl
reply_turned pool (StepBack g) w = open_turned w _ _ (ap Said (back_said_turned w.book (part w.memory g))) refl
reply_turned pool Publish w = open_turned w _ _ (ap Count (length_turned w.book.entries)) refl
reply_turned pool Reopen w = late_turned w.stage (λ n. Moved) (λ n. refl)
reply_turned pool (Get r c) w = refl
reply_turned pool Size w = refl
reply_turned pool Owed w = open_turned w _ _ (ap Count (length_turned w.book.entries)) refl
reply_turned pool Kept w = open_turned w _ _ (ap (λ l. Count (length l)) (kept_turned w.book.entries)) refl
reply_turned pool Settled w = late_turned w.stage (λ n. Count n) (λ n. refl)

pub list_turned : {T : Type 0} (pool : List T) (cs : List (Call T)) (w : World T) → (after pool (map exchange cs) (turned_world w) ≡ turned_world (after pool cs w)) × (replies pool (map exchange cs) (turned_world w) ≡ map exchanged (replies pool cs w))
list_turned pool [] w = (refl, refl)
list_turned pool (c ∷ cs) w =
    let e = next_turned pool c w in
    let rest = list_turned pool cs (next pool c w) in (
      ap (λ z. after pool (map exchange cs) z) e ∙ rest.0,
      ap (λ z. reply pool (exchange c) (turned_world w) ∷ replies pool (map exchange cs) z) e ∙ ap (λ z. z ∷ replies pool (map exchange cs) (turned_world (next pool c w))) (reply_turned pool c w) ∙ ap (λ z. exchanged (reply pool c w) ∷ z) rest.1,
    )
