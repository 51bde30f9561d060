-- One line more of a plan once more.
use Rattle.std.proofs.Common.{◌≡◌, ℕ, ◌+◌, ◌-◌, ◌<◌, ◌≤◌, List, [], ◌∷◌, ◌++◌, length, map, take, get_or, sym, ap, ◌∙◌, append_assoc, take_all}
use Rattle.std.proofs.lemmas.List.{take_more}
use Rattle.matrix.proofs.Runs.{after_append}
use Rattle.flat.specs.Segments.{part}
use Rattle.replay.specs.declared.call.Call.{Call}
use Rattle.replay.specs.declared.call.Answer.{Answer}
use Rattle.scoresheet.specs.declared.script.Item.{Item}
use Rattle.scoresheet.specs.declared.script.Plan.{Plan}
use Rattle.scoresheet.specs.Asks.{moved_to, since}
use Rattle.scoresheet.specs.Unrolls.{Stand, stand, asked_again, pool_after, calls_again, line_again, unrolled}

module _ {T : Type 0} (calls : List (Call T)) (said : List (Answer T)) where
  grown : (item : Item) (old : Stand T) (own made : List (Call T)) (answers : List (Answer T)) (items : List Item) (pool : ℕ) → own ≡ part calls item.part → answers ≡ part said item.part
      → made ≡ (old.calls ++ map (moved_to old.pool) own) ++ asked_again item.ask answers → pool ≡ pool_after item.ask answers old.pool
      → items ≡ old.items ++ (record { number = item.number; ask = item.ask; part = since old.calls made } ∷ []) → record { items = items; calls = made; pool = pool } ≡ line_again calls said item old
  grown item old own made answers items pool eo ea em ep ei =
      let all : made ≡ old.calls ++ calls_again calls said old.pool item =
      em ∙ append_assoc old.calls (map (moved_to old.pool) own) (asked_again item.ask answers) ∙ (λ i. old.calls ++ (map (moved_to old.pool) (eo i) ++ asked_again item.ask (ea i))) in
      let lines = ei ∙ ap (λ z. old.items ++ (record { number = item.number; ask = item.ask; part = since old.calls z } ∷ [])) all in
      let memory = ep ∙ ap (λ z. pool_after item.ask z old.pool) ea in
      λ i. record { items = lines i; calls = all i; pool = memory i }

  -- its own calls moved (mid), then what is asked once more (out), and then the line (new)
  pub line_more : (items : List Item) (k j first : ℕ) (d : Item) (old mid out new : Plan T) (all own : List (Call T)) (answers : List (Answer T)) → k < length items → stand old ≡ unrolled calls said (take k items)
      → all ≡ calls → own ≡ part all (get_or items k d).part → answers ≡ part said (get_or items k d).part → first ≡ length old.calls.items → length own ≤ j
      → (mid.items ≡ old.items) × (mid.pool ≡ old.pool) × (mid.calls.items ≡ old.calls.items ++ map (moved_to old.pool) (take j own))
      → out.items ≡ mid.items → out.calls.items ≡ mid.calls.items ++ asked_again (get_or items k d).ask answers → out.pool ≡ pool_after (get_or items k d).ask answers mid.pool
      → new.items.items ≡ out.items.items ++ (record { number = (get_or items k d).number; ask = (get_or items k d).ask; part = record { start = first; len = length out.calls.items - first } } ∷ [])
      → new.calls ≡ out.calls → new.pool ≡ out.pool → stand new ≡ unrolled calls said (take (k + 1) items)
  line_more items k j first d old mid out new all own answers h e ea eo es ef hj em out_items out_calls out_pool new_items new_calls new_pool =
      let item = get_or items k d in
      let made = ap (λ v. v.items) new_calls in
      let own_calls = em.2 ∙ ap (λ z. old.calls.items ++ map (moved_to old.pool) z) (take_all j own hj) in
      let more = made ∙ out_calls ∙ ap (λ z. z ++ asked_again item.ask answers) own_calls in
      let pool = new_pool ∙ out_pool ∙ ap (pool_after item.ask answers) em.1 in
      let noted = new_items ∙ (λ i. ((out_items ∙ em.0) i).items ++ (record { number = item.number; ask = item.ask; part = record { start = ef i; len = length (sym made i) - ef i } } ∷ [])) in
      grown item (stand old) own new.calls.items answers new.items.items new.pool (eo ∙ ap (λ z. part z item.part) ea) es more pool noted ∙ ap (line_again calls said item) e
      ∙ sym (ap (λ xs. unrolled calls said xs) (take_more items k d h) ∙ after_append (line_again calls said) (λ item s. s) (take k items) (item ∷ []) (record { items = []; calls = []; pool = 0 }))
