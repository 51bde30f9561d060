use Rattle.std.proofs.Common.{◌≡◌, Err, rules}
use Rattle.listing.specs.Names.{name_word}
use Rattle.listing.specs.Calls.{SaysCall}
use Rattle.listing.specs.declared.wrong.Wrong.{Wrong}
use Rattle.listing.proofs.Calls.{texts_cons, told, nothing_read}
use Rattle.listing.proofs.call.Call.read.Goals as goal

-- the name stands first, and the words after it say no call
pub returns-in_err-call-clause-read : goal.returns-in_err-call-clause-read
returns-in_err-call-clause-read c =
    let is : c.from_residual-in_err-call.result ≡ Err (Wrong.Usage c.in_ok-name.name) = search rules in
    rw is (_, texts_cons c.args.words.now _ _ c.in-len1-up.len_at_least (told name_word _ c.parse.result c.in_ok-name.name c.parse.ensures.value (search rules)), nothing_read (SaysCall c.in_ok-name.name) _ c.named.result c.in_err-call.ensures.ok_part c.named.ensures.call)
