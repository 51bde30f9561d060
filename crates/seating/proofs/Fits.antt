-- Cells under a seating that they are enough for.
use Rattle.std.proofs.Common.{◌≡◌, ℕ, ◌*◌, ◌<◌, ◌≤◌, List, length, set, sym, ap, ◌∙◌, arith, length-set}
use Rattle.std.proofs.lemmas.Bool.Decides.{nat_tests}
use Rattle.matrix.specs.declared.axis.Axis.{Axis}
use Rattle.matrix.specs.Axes.{other}
use Rattle.matrix.specs.Matrix.{Matrix, put_cell}
use Rattle.matrix.proofs.Held.{placed, put_placed}
use Rattle.seating.specs.declared.seating.Seating.{Seating}
use Rattle.seating.specs.Seats.{seen, seated, counted, bench_of, spot_of}
use Rattle.seating.proofs.Spots.{seats_apart}

pub counted_in : (s : Seating) (n k : ℕ) → s.down.side * s.down.side ≤ n → counted s n k ≡ k
counted_in s n k h = grind (arith, nat_tests)

pub counted_out : (s : Seating) (n k : ℕ) → n < s.down.side * s.down.side → counted s n k ≡ 0
counted_out s n k h = grind (arith, nat_tests)

-- the lines across an axis, of those that are counted
pub across_counted : (ax : Axis) (s : Seating) (n : ℕ) (lines : ℕ × ℕ) → lines ≡ (counted s n (bench_of ax s).count, counted s n (bench_of (other ax) s).count) → s.down.side * s.down.side ≤ n → lines.1 ≡ (bench_of (other ax) s).count
across_counted ax s n lines e h = ap (λ (p : ℕ × ℕ). p.1) e ∙ counted_in s n (bench_of (other ax) s).count h

pub seated_in : {T : Type 0} (s : Seating) (xs : List T) → s.down.side * s.down.side ≤ length xs → seated s xs ≡ seen s xs
seated_in s xs h =
    ap (λ R. placed R (counted s (length xs) s.across.count) (spot_of s) xs) (counted_in s (length xs) s.down.count h)
    ∙ ap (λ C. placed s.down.count C (spot_of s) xs) (counted_in s (length xs) s.across.count h)

-- as long a memory under a seating of as many seats
pub room_stays : (s t : Seating) (m n : ℕ) → t.down.side ≡ s.down.side → n ≡ m → s.down.side * s.down.side ≤ m → t.down.side * t.down.side ≤ n
room_stays s t m n e l h = rw (e, l) h

pub carried : {T : Type 0} (F : Matrix T → Matrix T) (s t : Seating) (xs ys : List T) → s.down.side * s.down.side ≤ length xs → t.down.side ≡ s.down.side → length ys ≡ length xs → seen t ys ≡ F (seen s xs) → seated t ys ≡ F (seated s xs)
carried F s t xs ys h e l p = seated_in t ys (room_stays s t (length xs) (length ys) e l h) ∙ p ∙ ap F (sym (seated_in s xs h))

-- a count of lines is within the seats
counted_within : (s : Seating) (n k r : ℕ) → k ≤ s.down.side → r < counted s n k → r < s.down.side
counted_within s n k r h l = grind (arith, nat_tests)

-- a cell written on its seats
pub put_seated : {T : Type 0} (s : Seating) (xs ys : List T) (r c k : ℕ) (x : T) → r < counted s (length xs) s.down.count → c < counted s (length xs) s.across.count → k ≡ spot_of s r c → k < length xs → ys ≡ set xs k x → seated s ys ≡ put_cell r c x (seated s xs)
put_seated s xs ys r c k x hr hc e l w =
    ap (λ n. placed (counted s n s.down.count) (counted s n s.across.count) (spot_of s) ys) (ap length w ∙ length-set xs k x)
    ∙ ap (placed R C (spot_of s)) w
    ∙ put_placed R C (spot_of s) xs r c k x hr hc
    (λ a b ha hb z. seats_apart s a b r c (tall a ha) (wide b hb) (tall r hr) (wide c hc) z) e l
  where
    R : ℕ
    R = counted s (length xs) s.down.count

    C : ℕ
    C = counted s (length xs) s.across.count

    tall : (a : ℕ) → a < counted s (length xs) s.down.count → a < s.down.side
    tall a h = counted_within s (length xs) s.down.count a s.down.small.1 h

    wide : (b : ℕ) → b < counted s (length xs) s.across.count → b < s.down.side
    wide b h = counted_within s (length xs) s.across.count b (let q = s.square in let z = s.across.small.1 in omega arith) h
