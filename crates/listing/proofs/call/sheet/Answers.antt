use Rattle.std.proofs.Common.{rules}
use Rattle.listing.specs.Calls.{kind_word}
use Rattle.listing.proofs.Calls.{texts_cons, told, no_ground, no_keep}
use Rattle.listing.proofs.call.sheet.Goals as goal

-- no ground comes after the kind and the turns
pub returns-in_err-ground : goal.returns-in_err-ground
returns-in_err-ground c =
    record {
      sheet = rw c.from_residual-in_err-ground.ensures (no_ground _ _ _ _ _ (texts_cons c.args.words.now _ _ c.in-len1-up.len_at_least (told kind_word _ c.parse.result c.in_ok-kind.kind c.parse.ensures.value (search rules)))
          c.read_turns-turns.ensures.turned c.read_turns-turns.ensures.all c.in_err-ground.ensures.ground);
    }

-- no keep comes after the ground
pub returns-in_err-keeping : goal.returns-in_err-keeping
returns-in_err-keeping c =
    record {
      sheet = rw c.from_residual-in_err-keeping.ensures (no_keep _ _ _ _ _ _ c.in_ok-ground.ground (texts_cons c.args.words.now _ _ c.in-len1-up.len_at_least (told kind_word _ c.parse.result c.in_ok-kind.kind c.parse.ensures.value (search rules)))
          c.read_turns-turns.ensures.turned c.read_turns-turns.ensures.all c.in_ok-ground.ensures.ground c.in_err-keeping.ensures.keep);
    }
