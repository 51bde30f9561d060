use Rattle.std.proofs.Common.{◌≡◌, ◌++◌, take, map}
use Rattle.scoresheet.specs.Plans.{AllAsked}
use Rattle.scoresheet.specs.Asks.{moved_to}
use Rattle.scoresheet.specs.Unrolls.{stand, unrolled}
use Rattle.scoresheet.proofs.script.Plan.unrolled.Given as goal

-- the line's calls so far
abbrev pub invariant-loop-call : goal.invariant-loop-call
invariant-loop-call g l =
    (l.plan.items ≡ l.initial.plan.items) × (l.plan.pool ≡ l.initial.plan.pool)
    × (l.plan.calls.items ≡ l.initial.plan.calls.items ++ map (moved_to l.initial.plan.pool) (take l.call-index l.call-items))

-- the lines so far are those of the plan
abbrev pub invariant-loop-item : goal.invariant-loop-item
invariant-loop-item g l =
    (AllAsked l.plan.items.items → AllAsked (take l.item-index l.item-items))
    × (stand l.plan ≡ unrolled l.self.calls.items l.said (take l.item-index l.item-items))
