use Rattle.std.proofs.Common.{◌≡◌, length, sym, ap, ◌∙◌, arith}
use Rattle.std.proofs.lemmas.Result.{IfOk-weaker}
use Rattle.layouts.specs.Layouts.{ground_limits}
use Rattle.scoresheet.proofs.Planned.{planned}
use Rattle.scoresheet.proofs.sheets.play.Goals as goal

pub returns : goal.returns
returns g c =
    let starts : length c.in_ok-vec.field-0.items ≡ length c.args.supply.now.starts.items = omega (arith, c.in_ok-vec.field-0.ok.0, c.in_ok-vec.ensures.len, c.len.ensures, c.args.supply.now.starts.ok.0) in
    let answers : length c.in_ok-vec-2.field-0.items ≡ length c.args.plan.now.calls.items = omega (arith, c.in_ok-vec-2.field-0.ok.0, c.in_ok-vec-2.ensures.len, c.len-2.ensures, c.args.plan.now.calls.ok.0) in
    let limits = ap (λ n. ground_limits n c.args.fresh.layout.ground) (c.as_mut_slice.ensures.len ∙ c.in_ok-ground.ensures.len ∙ c.cells_under.ensures.answer) in
    record {
      plays = IfOk-weaker c.over.result _ _
          (λ played. planned c.args.fresh.keeping _ _ c.args.plan.now _ played c.as_slice.ensures.value starts answers (sym c.in_ok-vec-3.field-0.ok.0 ∙ c.in_ok-vec-3.ensures.len) limits)
          c.over.ensures.made;
    }
