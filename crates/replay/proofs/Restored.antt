-- Steps back restore what stood before.
use Rattle.std.proofs.Common.{◌≡◌, ℕ, zero, suc, ◌+◌, ◌≤◌, ltb, List, [], ◌∷◌, ◌++◌, length, take, drop, Some, None, Ok, Err, Option, sym, refl, ap, ◌∙◌, subst, ⊎_elim, arith, length-append, length-drop, le-ltb}
use Rattle.std.proofs.lemmas.List.{length-take-le}
use Rattle.cells.specs.Refusals.{answered, refused, accepted, numbered}
use Rattle.matrix.specs.declared.limits.Limits.{Limits}
use Rattle.matrix.specs.Matrix.{Matrix, over, before, listed}
use Rattle.sheet.specs.declared.edit.Edit.{Edit}
use Rattle.sheet.specs.declared.edit.Edit.TheVariants.{Put, Insert, Remove, Transpose, Flip}
use Rattle.matrix.specs.Axes.{along}
use Rattle.sheet.specs.Book.{Entry, by_newest, struck, span, handed_back, back_said, back_book, back_memory}
use Rattle.sheet.specs.Stands.{Undoable, Past}
use Rattle.flat.specs.declared.segment.Segment.{Segment}
use Rattle.flat.specs.Segments.{part, patched}
use Rattle.replay.specs.declared.call.Call.TheVariants.{StepBack}
use Rattle.replay.specs.declared.call.Answer.TheVariants.{Said}
use Rattle.replay.specs.World.{World, Firm, next, reply, after, replies}
use Rattle.replay.specs.Laws.{earlier, Ample, steps, all_done}
use Rattle.replay.proofs.Worlds.{edited_is, said_open}

span_small : {T : Type 0} (x : Edit) (off : List T) (l : Limits) (m : Matrix T) → Undoable x off l m → span x ≤ 256
span_small (Put r c) off l m h = omega arith
span_small (Insert ax i n) off l m h = h.2
span_small (Remove ax i n) off l m h = h.2
span_small Transpose off l m h = omega arith
span_small (Flip ax) off l m h = omega arith

before_short : {T : Type 0} (o : Option T) (xs : List T) (n : ℕ) → length xs ≤ n → length (before o xs) ≤ suc n
before_short None xs n h = omega arith
before_short (Some x) xs n h = omega arith

listed_short : {T : Type 0} (n : ℕ) (f : ℕ → Option T) → length (listed n f) ≤ n
listed_short zero f = omega arith
listed_short (suc n) f = before_short (f 0) _ n (listed_short n (λ k. f (suc k)))

handed_small : {T : Type 0} (x : Edit) (off : List T) (l : Limits) (m : Matrix T) → Undoable x off l m → length (handed_back x off m) ≤ 256
handed_small (Put r c) off l m h = omega arith
handed_small (Insert ax i n) off l m h = omega (arith, listed_short (along ax m).cols ((along ax m).cell i), h.1, h.2)
handed_small (Remove ax i n) off l m h = omega (arith, h.1, h.2)
handed_small Transpose off l m h = omega arith
handed_small (Flip ax) off l m h = omega arith

length_over : {T : Type 0} (xs memory : List T) → length xs ≤ length memory → length (over xs memory) ≡ length memory
length_over xs memory p = omega (arith, length-append xs (drop (length xs) memory), length-drop (length xs) memory)

module _ {T : Type 0} (memory : List T) (g : Segment) (l : g.len ≡ 256) (f : g.start + 256 ≤ length memory) where
  length_part : length (part memory g) ≡ 256
  length_part =
      let le : g.len ≤ length (drop g.start memory) = omega (arith, length-drop g.start memory) in
      length-take-le g.len (drop g.start memory) le ∙ l

  length_patched : (ys : List T) → length ys ≡ 256 → length (patched memory g ys) ≡ length memory
  length_patched ys p =
      let le : g.start ≤ length memory = omega arith in
      omega (arith, length-append (take g.start memory) (ys ++ drop (g.start + g.len) memory), length-append ys (drop (g.start + g.len) memory), length-take-le g.start memory le, length-drop (g.start + g.len) memory)

-- one step back with 256 cells, where e is the newest entry
module _ {T : Type 0} (pool : List T) (g : Segment) (w : World T) (e : Entry T) (es : List (Entry T)) (st : w.stage ≡ None) (is : w.book.entries ≡ e ∷ es) (can : Undoable e.edit e.taken w.book.limits w.book.matrix) (l : g.len ≡ 256) (f : g.start + 256 ≤ length w.memory) where
  -- the cells of the segment, and what they are left as
  abbrev lent : List T
  lent = part w.memory g

  abbrev left : List T
  left = over (handed_back e.edit e.taken w.book.matrix) lent

  abbrev stepped : World T
  stepped = record { book = struck e es w.book; stage = None; memory = patched w.memory g left }

  granted : back_said lent w.book ≡ Ok tt
  granted =
      let le : span e.edit ≤ length lent = omega (arith, span_small e.edit e.taken w.book.limits w.book.matrix can, length_part w.memory g l f) in
      ap (λ z. by_newest z (Err (numbered 3)) (λ e es. refused 9 (ltb (length lent) (span e.edit)) accepted)) is ∙ ap (λ z. refused 9 z accepted) (le-ltb _ _ le)

  book_is : back_book lent w.book ≡ struck e es w.book
  book_is = ap (λ z. answered z (by_newest w.book.entries w.book (λ e es. struck e es w.book)) w.book) granted ∙ ap (λ z. by_newest z w.book (λ e es. struck e es w.book)) is

  left_is : back_memory lent w.book ≡ left
  left_is = ap (λ z. answered z (by_newest w.book.entries lent (λ e es. over (handed_back e.edit e.taken w.book.matrix) lent)) lent) granted ∙ ap (λ z. by_newest z lent (λ e es. over (handed_back e.edit e.taken w.book.matrix) lent)) is

  world_is : next pool (StepBack g) w ≡ stepped
  world_is = edited_is w st (back_book lent w.book) (patched w.memory g (back_memory lent w.book)) ∙ ap (λ z. record { book = z; stage = None; memory = patched w.memory g (back_memory lent w.book) }) book_is ∙ ap (λ z. record { book = struck e es w.book; stage = None; memory = patched w.memory g z }) left_is

  answer_is : reply pool (StepBack g) w ≡ Said (Ok tt)
  answer_is = sym (said_open w st (Said (back_said lent w.book))) ∙ ap Said granted

  as_long : length (patched w.memory g left) ≡ length w.memory
  as_long = length_patched w.memory g l f left (length_over (handed_back e.edit e.taken w.book.matrix) lent (omega (arith, handed_small e.edit e.taken w.book.limits w.book.matrix can, length_part w.memory g l f)) ∙ length_part w.memory g l f)

-- Steps back over the newest entries, as many as there are at most.
back_all : {T : Type 0} (pool : List T) (gs : List Segment) (w : World T) (es : List (Entry T)) → w.stage ≡ None → w.book.entries ≡ es → Past w.book.limits w.book.matrix es → length gs ≤ length es → Ample (length w.memory) gs
    → (replies pool (steps gs) w ≡ all_done gs) × ((after pool (steps gs) w).book.matrix ≡ earlier (length gs) w.book.matrix es)
back_all pool [] w es st is past le a = (refl, refl)
back_all pool (g ∷ gs) w [] st is past le a = absurd (omega arith)
back_all pool (g ∷ gs) w (e ∷ es) st is past le a =
    let world = world_is pool g w e es st is past.0 a.0 a.1 in
    let new = stepped pool g w e es st is past.0 a.0 a.1 in
    let rest = back_all pool gs new es refl refl past.2 (omega arith) (subst (λ z. Ample z gs) (sym (as_long pool g w e es st is past.0 a.0 a.1)) a.2) in (
      ap (λ z. reply pool (StepBack g) w ∷ replies pool (steps gs) z) world ∙ ap (λ z. z ∷ replies pool (steps gs) new) (answer_is pool g w e es st is past.0 a.0 a.1) ∙ ap (λ z. Said (Ok tt) ∷ z) rest.0,
      ap (λ z. (after pool (steps gs) z).book.matrix) world ∙ rest.1,
    )

pub restored : {T : Type 0} (pool : List T) (gs : List Segment) (w : World T) → (n : ℕ) → Firm n w → length gs ≤ length w.book.entries → Ample n gs
    → (replies pool (steps gs) w ≡ all_done gs) × ((after pool (steps gs) w).book.matrix ≡ earlier (length gs) w.book.matrix w.book.entries)
restored pool [] w n firm le a = (refl, refl)
restored pool (g ∷ gs) w n firm le a = ⊎_elim
    (λ st. back_all pool (g ∷ gs) w w.book.entries st refl firm.past le (subst (λ z. Ample z (g ∷ gs)) (sym firm.room) a))
    (λ none. absurd (omega (arith, ap length none)))
    firm.owing
