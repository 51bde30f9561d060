-- What a list leaves keeps to the law.
use Rattle.std.proofs.Common.{◌≡◌, ℕ, ◌+◌, min, List, map, length, take, drop, sym, refl, ap, ◌∙◌, subst, arith, length-take, take_at, drop_at}
use Rattle.matrix.specs.declared.limits.Limits.{Limits}
use Rattle.matrix.specs.Matrix.{Matrix}
use Rattle.matrix.proofs.Stretches.{over_front, over_rest}
use Rattle.matrix.proofs.Runs.{after_append, replies_append, replies_length}
use Rattle.boards.specs.declared.board.Board.{Ghosts as Board}
use Rattle.keeps.specs.declared.keep.Keep.{Ghosts as Keep}
use Rattle.sheet.specs.Book.{Book, kept}
use Rattle.replay.specs.declared.call.Call.{Call}
use Rattle.replay.specs.declared.call.Answer.{Answer}
use Rattle.replay.specs.declared.call.State.{State}
use Rattle.replay.specs.declared.call.State.TheVariants.{Open, Published}
use Rattle.replay.specs.declared.lists.Left.{Left}
use Rattle.replay.specs.World.{World, Holds, Firm, Ran, board_of, keep_of, begun, next, reply, after, replies}
use Rattle.replay.specs.Tallies.{accepts, backs, settles, total}
use Rattle.replay.specs.Laws.{Law, exchanged, steps}
use Rattle.replay.proofs.Exchanged.{list_turned}
use Rattle.replay.proofs.Tallied.{tallied}
use Rattle.replay.proofs.Restored.{restored}

-- what a sheet, open or published, agrees with
record Agreed {B K T : Type 0} (as_board : Board B T) (as_keep : Keep K T) (board : B) (keep : K) (b : Book T) : Type 0 where
  in_order : as_keep.ordered keep
  cells : as_board.matrix board ≡ b.matrix
  bounds : as_board.limits board ≡ b.limits
  keeps : (as_keep.store keep).cells ≡ kept b.entries
  most : (as_keep.store keep).most ≡ b.most
  count : b.accepted ≡ length b.entries + b.back + b.settled

module _ {B K T : Type 0} (as_board : Board B T) (as_keep : Keep K T) where
  agreed : (state : State B K) (w : World T) → Holds as_board as_keep state w → Agreed as_board as_keep (board_of state) (keep_of state) w.book
  agreed (Open s) w h = let a = h.1 in record { in_order = a.ordered; cells = a.matrix; bounds = a.limits; keeps = a.cells; most = a.most; count = a.count }
  agreed (Published p) w h = let a = h.1.0 in record { in_order = a.ordered; cells = a.matrix; bounds = a.limits; keeps = a.cells; most = a.most; count = a.count }

  module _ (state : State B K) (end : Left B K) (memory : List T) (before answers : List (Answer T)) (pool : List T) (calls : List (Call T)) (m : Matrix T) (l : Limits) (most : ℕ) (mem : List T) where
    abbrev start : World T
    start = begun m l most mem

    abbrev made : List (Call T)
    made = take (length before) calls

    long : length (replies pool made start) ≡ min (length before) (length calls)
    long = replies_length (next pool) (reply pool) made start ∙ length-take (length before) calls

    module _ (b : end.board ≡ board_of state) (k : end.keep ≡ keep_of state) (o : (w : World T) → Holds as_board as_keep state w → end.owed ≡ length w.book.entries) (ran : Ran as_board as_keep state memory before answers pool made start) where
      said : take (length calls) answers ≡ replies pool made start
      said = ap (take (length calls)) ran.answers_are ∙ over_front (replies pool made start) before (length calls) long

      rest_stays : drop (length calls) answers ≡ drop (length calls) before
      rest_stays = ap (drop (length calls)) ran.answers_are ∙ over_rest (replies pool made start) before (length calls) long

      lawful : Law as_board as_keep end memory (take (length calls) answers) pool made start
      lawful =
          let has = agreed state (after pool made start) ran.stands in
          let sums = tallied pool made start in
          let owes = o (after pool made start) ran.stands in
          record {
            said = said;
            left = ran.memory_is;
            cells = ap as_board.matrix b ∙ has.cells;
            owes = owes;
            count = subst (λ z. total accepts made z ≡ end.owed + total backs made z + total settles made z) (sym said) (omega (arith, owes, has.count, sums.accepted, sums.back, sums.settled));
            accepted = subst (λ z. (after pool made start).book.accepted ≡ start.book.accepted + total accepts made z) (sym said) sums.accepted;
            back = subst (λ z. (after pool made start).book.back ≡ start.book.back + total backs made z) (sym said) sums.back;
            settled = subst (λ z. (after pool made start).book.settled ≡ start.book.settled + total settles made z) (sym said) sums.settled;
            keeps = ap (λ z. (as_keep.store z).cells) k ∙ has.keeps;
            in_order = subst as_keep.ordered (sym k) has.in_order;
            bounds = ap as_board.limits b ∙ has.bounds ∙ sums.limits;
            most = ap (λ z. (as_keep.store z).most) k ∙ has.most ∙ sums.most;
            restores = λ cs gs e le a.
                let firm : Firm (length mem) (after pool cs start) = subst (λ z. Firm (length mem) (after pool z start)) (ap (take (length cs)) e ∙ take_at cs (steps gs) (length cs) refl) (ran.firm (length cs)) in
                let back = restored pool gs (after pool cs start) (length mem) firm le a in (
                  ap (drop (length cs)) (said ∙ ap (λ z. replies pool z start) e ∙ replies_append (next pool) (reply pool) cs (steps gs) start) ∙ drop_at (replies pool cs start) _ (length cs) (replies_length (next pool) (reply pool) cs start) ∙ back.0,
                  ap as_board.matrix b ∙ has.cells ∙ ap (λ z. (after pool z start).book.matrix) e ∙ ap (λ z. z.book.matrix) (after_append (next pool) (reply pool) cs (steps gs) start) ∙ back.1,
                );
            turns = ((list_turned pool made start).0, (list_turned pool made start).1 ∙ ap (map exchanged) (sym said));
          }

      -- the law, and the answers past the list as they were
      pub ended : Law as_board as_keep end memory (take (length calls) answers) pool made start × (drop (length calls) answers ≡ drop (length calls) before)
      ended = (lawful, rest_stays)
