use Rattle.std.proofs.Common.{◌≡◌, ◌<◌, min, [], ◌∷◌, map, length, take, set, sym, refl, ap, ◌∙◌, arith, get_or-take, length-take, length-take-le}
use Rattle.std.proofs.lemmas.Option.{slice_get_read}
use Rattle.std.proofs.lemmas.List.{length-map, map-append}
use Rattle.matrix.specs.Matrix.{over}
use Rattle.matrix.proofs.Stretches.{take_clipped, take_one_more, over_one_more}
use Rattle.replay.specs.Laws.{exchange}
use Rattle.replay.proofs.call.exchange.exchange_all.Goals as goal

pub loop-k-preserved : goal.loop-k-preserved
loop-k-preserved g c =
    let a = c.args in
    let l = c.loop-k in
    let n = c.min-n.result in
    let call = c.call-item.result in
    let was = take l.k a.calls.now in
    let short : length (take n a.calls.now) ≡ n = length-take-le n a.calls.now (omega (arith, c.min-n.ensures)) in
    let inside : l.k < n = omega (arith, c.loop-k-test.true, short) in
    let more = take_one_more a.calls.now l.k call (slice_get_read a.calls.now _ l.k _ refl (omega (arith, inside, c.min-n.ensures)) (c.call-item.is ∙ get_or-take n a.calls.now l.k call inside)) in
    let long : length (map exchange was) ≡ l.k = length-map was exchange ∙ length-take-le l.k a.calls.now (omega (arith, inside, c.min-n.ensures)) in
    c.poke.ensures.effect ∙ ap (λ z. set z l.k c.exchanged.result) l.invariant ∙ ap (λ z. set (over (map exchange was) a.exchanged.now) l.k z) c.exchanged.ensures.answer
    ∙ over_one_more (map exchange was) a.exchanged.now l.k (exchange call) (sym long) (omega (arith, inside, c.min-n.ensures))
    ∙ ap (λ z. over z a.exchanged.now) (sym (map-append exchange was (call ∷ [])) ∙ ap (map exchange) (sym more))

pub returns : goal.returns
returns g c =
    let a = c.args in
    let all : c.loop-k.k ≡ min (length a.exchanged.now) (length a.calls.now) = omega (arith, c.min-n.ensures, length-take c.min-n.result a.calls.now) in
    record { effect = c.loop-k.invariant ∙ ap (λ z. over (map exchange z) a.exchanged.now) (take_clipped a.calls.now (length a.exchanged.now) c.loop-k.k all) }
