-- A list on one sheet and its exchange on another.
use Rattle.std.proofs.Common.{◌≡◌, ℕ, ◌≤◌, List, ◌++◌, map, length, take, sym, ap, ◌∙◌, subst, arith, length-take, take_all, take_at}
use lib.Seq.{take-append-le}
use Rattle.std.proofs.lemmas.List.{length-map, take-map, take-take}
use Rattle.matrix.specs.declared.limits.Limits.{Limits}
use Rattle.matrix.specs.Matrix.{Matrix, turned, over}
use Rattle.boards.specs.declared.board.Board.{Ghosts as Board}
use Rattle.keeps.specs.declared.keep.Keep.{Ghosts as Keep}
use Rattle.sheet.specs.Book.{kept}
use Rattle.replay.specs.declared.call.Call.{Call}
use Rattle.replay.specs.declared.call.Answer.{Answer}
use Rattle.replay.specs.declared.lists.Left.{Left}
use Rattle.replay.specs.World.{World, begun, after, replies}
use Rattle.replay.specs.Laws.{Law, Mirrored, exchange, turned_world}
use Rattle.replay.proofs.Exchanged.{kept_turned, length_turned}

-- the first n of a list that was mapped, and then written over another
pub take_mapped : {X Y : Type 0} (f : X → Y) (n : ℕ) (xs : List X) (ys : List Y) → n ≤ length xs → n ≤ length ys → take n (over (map f (take (length ys) xs)) ys) ≡ map f (take n xs)
take_mapped f n xs ys h k =
    take-append-le n (map f (take (length ys) xs)) _ (omega (arith, length-map (take (length ys) xs) f, length-take (length ys) xs))
    ∙ take-map f n (take (length ys) xs) ∙ ap (map f) (take-take n (length ys) xs k)

-- a law of lists, said of lists that are the same
module _ {B K T : Type 0} (as_board : Board B T) (as_keep : Keep K T) (end : Left B K) (memory : List T) (pool : List T) (w : World T) where
  pub law_of : {answers answers' : List (Answer T)} {calls calls' : List (Call T)} → answers ≡ answers' → calls ≡ calls' → Law as_board as_keep end memory answers pool calls w → Law as_board as_keep end memory answers' pool calls' w
  law_of {answers} {answers'} {calls} {calls'} p q h = subst (λ z. Law as_board as_keep end memory answers' pool z w) q (subst (λ z. Law as_board as_keep end memory z pool calls w) p h)

-- the front of a memory for answers, of which n cells were lent and came back as xs
module _ {X : Type 0} (n m : ℕ) (xs ys : List X) (len : length xs ≡ n) (le : n ≤ m) where
  pub front_is : take m xs ≡ take n (xs ++ ys)
  front_is = take_all m xs (omega arith) ∙ sym (take_at xs ys n len)

module _ {B K C L T : Type 0} (as_board : Board B T) (as_keep : Keep K T) (as_board' : Board C T) (as_keep' : Keep L T)
    (end : Left B K) (end' : Left C L) (memory memory' : List T) (answers answers' : List (Answer T)) (pool : List T) (calls : List (Call T)) (m m' : Matrix T) (l l' : Limits) (most most' : ℕ) (mem mem' : List T) where
  pub mirrored : Law as_board as_keep end memory answers pool calls (begun m l most mem) → Law as_board' as_keep' end' memory' answers' pool (map exchange calls) (begun m' l' most' mem')
      → m' ≡ turned m → l' ≡ l → most' ≡ most → mem' ≡ mem → Mirrored as_board as_keep as_board' as_keep' end end' memory memory' answers answers'
  mirrored a b m_is l_is most_is mem_is =
      let w : World T = begun m l most mem in
      let begins : begun m' l' most' mem' ≡ turned_world w = ap (λ z. begun z l' most' mem') m_is ∙ ap (λ z. begun (turned m) z most' mem') l_is ∙ ap (λ z. begun (turned m) l z mem') most_is ∙ ap (begun (turned m) l most) mem_is in
      let ends : after pool (map exchange calls) (begun m' l' most' mem') ≡ turned_world (after pool calls w) = ap (after pool (map exchange calls)) begins ∙ a.turns.0 in
      record {
        said = b.said ∙ ap (replies pool (map exchange calls)) begins ∙ a.turns.1;
        left = b.left ∙ ap (λ z. z.memory) ends ∙ sym a.left;
        cells = b.cells ∙ ap (λ z. z.book.matrix) ends ∙ ap turned (sym a.cells);
        owes = b.owes ∙ ap (λ z. length z.book.entries) ends ∙ length_turned (after pool calls w).book.entries ∙ sym a.owes;
        keeps = b.keeps ∙ ap (λ z. kept z.book.entries) ends ∙ kept_turned (after pool calls w).book.entries ∙ sym a.keeps;
      }
