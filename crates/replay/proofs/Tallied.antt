-- What the answers of a list add up to is what the book counts.
use Rattle.std.proofs.Common.{◌≡◌, ℕ, ◌+◌, List, [], ◌∷◌, length, Some, None, Ok, Err, Option, Result, refl, ◌∙◌, arith}
use Rattle.cells.specs.declared.refusal.Refusal.{Refusal}
use Rattle.cells.specs.Refusals.{answered, numbered}
use Rattle.matrix.specs.Matrix.{Matrix}
use Rattle.sheet.specs.declared.edit.Edit.{Edit}
use Rattle.sheet.specs.Book.{Book, Entry, entered, by_newest, struck, settle}
use Rattle.replay.specs.declared.call.Call.{Call}
use Rattle.replay.specs.declared.call.Call.TheVariants.{Put, Insert, Remove, Transpose, Flip, StepBack, Publish, Reopen, Get, Size, Owed, Kept, Settled}
use Rattle.replay.specs.declared.call.Answer.{Answer}
use Rattle.replay.specs.declared.call.Answer.TheVariants.{Said, Count, Lacking}
use Rattle.replay.specs.World.{World, by_stage, next, reply, after, replies}
use Rattle.replay.specs.declared.tally.Aim.{Aim}
use Rattle.replay.specs.declared.tally.Aim.TheVariants.{Editing, Undoing, Settling, Asking}
use Rattle.replay.specs.Tallies.{aim, accepts, backs, settles, total}

-- what an answer adds to the counters of a book; its limits stay
record Adds {T : Type 0} (b b' : Book T) (m : Aim) (a : Answer T) : Type 0 where
  limits : b'.limits ≡ b.limits
  most : b'.most ≡ b.most
  accepted : b'.accepted ≡ b.accepted + accepts m a
  back : b'.back ≡ b.back + backs m a
  settled : b'.settled ≡ b.settled + settles m a

-- a question adds nothing, and so does a call that the state lacks
asked : {T : Type 0} (b : Book T) (a : Answer T) → Adds b b Asking a
asked b a = record { limits = refl; most = refl; accepted = omega arith; back = omega arith; settled = omega arith }

lacking : {T : Type 0} (b : Book T) (m : Aim) → Adds b b m Lacking
lacking b Editing = record { limits = refl; most = refl; accepted = omega arith; back = omega arith; settled = omega arith }
lacking b Undoing = record { limits = refl; most = refl; accepted = omega arith; back = omega arith; settled = omega arith }
lacking b Settling = record { limits = refl; most = refl; accepted = omega arith; back = omega arith; settled = omega arith }
lacking b Asking = record { limits = refl; most = refl; accepted = omega arith; back = omega arith; settled = omega arith }

edit_adds : {T : Type 0} (b : Book T) (x : Edit) (m : Matrix T) (off : List T) (r : Result Unit Refusal) → Adds b (answered r (entered x m off b) b) Editing (Said r)
edit_adds b x m off (Ok u) = record { limits = refl; most = refl; accepted = refl; back = omega arith; settled = omega arith }
edit_adds b x m off (Err e) = record { limits = refl; most = refl; accepted = omega arith; back = omega arith; settled = omega arith }

struck_adds : {T : Type 0} (b : Book T) (e : Entry T) (es : List (Entry T)) (r : Result Unit Refusal) → Adds b (answered r (struck e es b) b) Undoing (Said r)
struck_adds b e es (Ok u) = record { limits = refl; most = refl; accepted = omega arith; back = refl; settled = omega arith }
struck_adds b e es (Err d) = record { limits = refl; most = refl; accepted = omega arith; back = omega arith; settled = omega arith }

back_adds : {T : Type 0} (b : Book T) (es : List (Entry T)) (r : Entry T → List (Entry T) → Result Unit Refusal) → Adds b (answered (by_newest es (Err (numbered 3)) r) (by_newest es b (λ e es. struck e es b)) b) Undoing (Said (by_newest es (Err (numbered 3)) r))
back_adds b [] r = record { limits = refl; most = refl; accepted = omega arith; back = omega arith; settled = omega arith }
back_adds b (e ∷ es) r = struck_adds b e es (r e es)

-- on an open sheet the call is made, on a published one it is lacking
module _ {T : Type 0} (w v : World T) (m : Aim) (a : Answer T) (done : Adds w.book v.book m a) where
  at_stage : (o : Option ℕ) → Adds w.book (by_stage o v (λ n. w)).book m (by_stage o a (λ n. Lacking))
  at_stage None = done
  at_stage (Some n) = lacking w.book m

adds : {T : Type 0} (pool : List T) (c : Call T) (w : World T) → Adds w.book (next pool c w).book (aim c) (reply pool c w)
adds pool (Put r c x) w = at_stage w _ Editing _ (edit_adds w.book _ _ _ _) w.stage
adds pool (Insert ax i g) w = at_stage w _ Editing _ (edit_adds w.book _ _ _ _) w.stage
adds pool (Remove ax i g) w = at_stage w _ Editing _ (edit_adds w.book _ _ _ _) w.stage
adds pool Transpose w = at_stage w _ Editing _ (edit_adds w.book _ _ _ _) w.stage
adds pool (Flip ax) w = at_stage w _ Editing _ (edit_adds w.book _ _ _ _) w.stage
adds pool (StepBack g) w = at_stage w _ Undoing _ (back_adds w.book w.book.entries _) w.stage
adds pool Publish w = at_stage w (record { book = settle w.book; stage = Some (length w.book.entries); memory = w.memory }) Settling (Count (length w.book.entries)) (record { limits = refl; most = refl; accepted = omega arith; back = omega arith; settled = refl }) w.stage
adds pool Reopen w = asked w.book _
adds pool (Get r c) w = asked w.book _
adds pool Size w = asked w.book _
adds pool Owed w = asked w.book _
adds pool Kept w = asked w.book _
adds pool Settled w = asked w.book _

pub record Tallied {T : Type 0} (b b' : Book T) (cs : List (Call T)) (answers : List (Answer T)) : Type 0 where
  pub limits : b'.limits ≡ b.limits
  pub most : b'.most ≡ b.most
  pub accepted : b'.accepted ≡ b.accepted + total accepts cs answers
  pub back : b'.back ≡ b.back + total backs cs answers
  pub settled : b'.settled ≡ b.settled + total settles cs answers

pub tallied : {T : Type 0} (pool : List T) (cs : List (Call T)) (w : World T) → Tallied w.book (after pool cs w).book cs (replies pool cs w)
tallied pool [] w = record { limits = refl; most = refl; accepted = omega arith; back = omega arith; settled = omega arith }
tallied pool (c ∷ cs) w =
    let one = adds pool c w in
    let rest = tallied pool cs (next pool c w) in
    record { limits = rest.limits ∙ one.limits; most = rest.most ∙ one.most; accepted = omega (arith, one.accepted, rest.accepted); back = omega (arith, one.back, rest.back); settled = omega (arith, one.settled, rest.settled) }
