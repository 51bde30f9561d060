-- Lines taken from the ends that a list names, one more.
use Rattle.std.proofs.Common.{◌≡◌, ℕ, ◌+◌, ◌<◌, ◌≤◌, List, length, take, set, Some, Option, ap, ◌∙◌}
use Rattle.std.specs.List.{slice_get}
use Rattle.matrix.specs.Matrix.{Matrix, over}
use Rattle.matrix.specs.Runs.{after}
use Rattle.matrix.proofs.Longer.{after_one_more, said_one_more, take_past}
use Rattle.walks.specs.declared.line.LineWalk.{LineWalk}
use Rattle.walks.specs.declared.lines.End.{End}
use Rattle.walks.specs.declared.lines.LinesWalk.{LinesWalk}
use Rattle.walks.specs.Ends.{reply, next, given, left, Once, ahead, stepped}
use Rattle.walks.proofs.Onces.{once}

-- the first k ends have been served
pub record Taken {T : Type 0} (m : Matrix T) (ends : List End) (start now : LinesWalk) (before lines : List (Option LineWalk)) (k : ℕ) : Type 0 where
  pub effect : now ≡ after (stepped m) (take k ends) start
  pub rest : ahead now m ≡ left (take k ends) (ahead start m)
  pub said : lines ≡ over (given (take k ends) (ahead start m)) before

module _ {T : Type 0} (m : Matrix T) (ends : List End) (start now : LinesWalk) (before lines : List (Option LineWalk)) (k : ℕ) (p : Taken m ends start now before lines k) where
  pub taken_more : (then : LinesWalk) (end : End) (o : Option LineWalk) → slice_get ends k ≡ Some end → k < length ends → k < length before → o ≡ reply end (ahead now m) → then ≡ stepped m end now → ahead then m ≡ next end (ahead now m) → Taken m ends start then before (set lines k o) (k + 1)
  taken_more then end o e hk hb eo et er = record {
    effect = et ∙ ap (stepped m end) p.effect ∙ after_one_more (stepped m) (λ c s. s) ends k end e start;
    rest = er ∙ ap (next end) p.rest ∙ after_one_more next reply ends k end e (ahead start m);
    said = ap (λ z. set lines k z) (eo ∙ ap (reply end) p.rest)
        ∙ ap (λ z. set z k (reply end (left (take k ends) (ahead start m)))) p.said
        ∙ said_one_more next reply ends k end e (ahead start m) before hk hb;
  }

  -- no end is left
  pub taken_past : length ends ≤ k → Taken m ends start now before lines (k + 1)
  taken_past h = record {
    effect = p.effect ∙ ap (λ es. after (stepped m) es start) (take_past ends k h);
    rest = p.rest ∙ ap (λ es. left es (ahead start m)) (take_past ends k h);
    said = p.said ∙ ap (λ es. over (given es (ahead start m)) before) (take_past ends k h);
  }

  -- each once, at the end
  pub taken_once : (n : ℕ) → k ≡ n → Once (take n ends) (ahead start m) (ahead now m)
  taken_once n e = once (take n ends) (ahead start m) (ahead now m) (p.rest ∙ ap (λ j. left (take j ends) (ahead start m)) e)
