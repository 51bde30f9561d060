use Rattle.std.proofs.Common.{◌∙◌, arith}
use Rattle.uses.proofs.Backs.{back_answer, back_effect, back_line}
use Rattle.uses.proofs.undo.there_and_back.Goals as goal

pub returns : goal.returns
returns g c =
    let a = c.args in
    let into = c.insert.ensures in
    let out = c.remove.ensures in
    let l = g.B.Board.limits a.b.now in
    let m = g.B.Board.matrix a.b.now in
    let m₁ = g.B.Board.matrix c.insert.new.self in
    let m₂ = g.B.Board.matrix c.remove.new.self in
    let w = g.met.B.Board.within a.b.now in
    let ok = c.in_ok-insert.was in
    record {
      answer = back_answer a.axis l a.i a.line.now a.memory.now _ m m₁ m₂ _ _ w (omega arith) ok into.answer into.effect out.answer out.effect out.line;
      effect = back_effect a.axis l a.i a.line.now a.memory.now _ m m₁ m₂ _ _ w (omega arith) ok into.answer into.effect out.answer out.effect out.line;
      line = back_line a.axis l a.i a.line.now a.memory.now _ m m₁ m₂ _ _ w (omega arith) ok into.answer into.effect out.answer out.effect out.line;
      limits = out.limits ∙ into.limits;
    }
