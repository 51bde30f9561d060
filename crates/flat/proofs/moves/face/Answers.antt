use Rattle.std.proofs.Common.{refl, ◌∙◌, arith}
use Rattle.std.proofs.lemmas.List.{length-replicate}
use Rattle.std.proofs.lemmas.Option.{slice_get_read}
use Rattle.flat.proofs.Stretches.{copied_more, turned_read}
use Rattle.flat.proofs.moves.face.Goals as goal

-- one cell more is read into each array
pub loop-k-preserved : goal.loop-k-preserved
loop-k-preserved g c =
    let k = c.loop-k.k in (
      copied_more _ _ _ c.args.p 0 k k _ (omega arith) (simp length-replicate c.loop-k-test.true) (slice_get_read c.args.s.now _ _ _ refl (omega arith) c.index-s-p-in-loop-k.is) c.loop-k.invariant.0,
      copied_more _ _ _ c.args.q 0 k k _ (omega arith) (simp length-replicate c.loop-k-test.true) (slice_get_read c.args.s.now _ _ _ refl (omega arith) c.index-s-q-in-loop-k.is) c.loop-k.invariant.1,
    )

-- one cell more is written, the last of them first
pub loop-k-2-preserved : goal.loop-k-2-preserved
loop-k-2-preserved g c = copied_more _ _ _ 0 c.args.p c.loop-k-2.k _ _ refl (omega arith) (turned_read c.loop-k.second g.row.N c.loop-k-2.k _ (c.loop-k.invariant.1.len ∙ length-replicate g.row.N _) c.loop-k-2-test.true) c.loop-k-2.invariant

pub loop-k-3-preserved : goal.loop-k-3-preserved
loop-k-3-preserved g c = copied_more _ _ _ 0 c.args.q c.loop-k-3.k _ _ refl (omega arith) (turned_read c.loop-k.first g.row.N c.loop-k-3.k _ (c.loop-k.invariant.0.len ∙ length-replicate g.row.N _) c.loop-k-3-test.true) c.loop-k-3.invariant
