-- A list on two boards.
use Rattle.std.proofs.Common.{◌≡◌, List, length, take, sym, ◌∙◌}
use Rattle.matrix.specs.declared.limits.Limits.{Limits}
use Rattle.matrix.specs.Matrix.{over}
use Rattle.uses.specs.declared.lists.Call.{Call}
use Rattle.uses.specs.declared.lists.Answer.{Answer}
use Rattle.uses.specs.Lists.{State, after, replies, Alike}

-- two boards that were alike, each with its memory, limits and answers: a list leaves them alike
module _ {T : Type 0} (lines : List T) (cs : List (Call T)) (s t s' t' : State T) (l k l' k' : Limits) (us vs us' vs' : List (Answer T))
    (answer : us' ≡ over (replies l lines (take (length us) cs) s) us) (effect : s' ≡ after l lines (take (length us) cs) s) (limits : l' ≡ l)
    (other_answer : vs' ≡ over (replies k lines (take (length vs) cs) t) vs) (other_effect : t' ≡ after k lines (take (length vs) cs) t) (other_limits : k' ≡ k)
    (same : Alike s.matrix t.matrix l k s.memory t.memory us vs) where
  began : s ≡ t
  began = λ i. record { matrix = same.matrix i; memory = same.memory i }

  left : s' ≡ t'
  left = effect ∙ (λ i. after (same.limits i) lines (take (length (same.answers i)) cs) (began i)) ∙ sym other_effect

  pub alike_after : Alike s'.matrix t'.matrix l' k' s'.memory t'.memory us' vs'
  alike_after = record {
    matrix = λ i. (left i).matrix;
    limits = limits ∙ same.limits ∙ sym other_limits;
    memory = λ i. (left i).memory;
    answers = answer ∙ (λ i. over (replies (same.limits i) lines (take (length (same.answers i)) cs) (began i)) (same.answers i)) ∙ sym other_answer;
  }
