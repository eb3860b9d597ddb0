use Rattle.std.proofs.Common.{◌≡◌, ◌++◌, drop, map}
use Rattle.system.specs.Expression.{constant}
use Rattle.process_tree.specs.Code.{sending, may_be_held}
use Rattle.process_tree.specs.View.{code_view}
use Rattle.process_tree.proofs.environment.sends_of.Given as goal

abbrev pub invariant-loop-value : goal.invariant-loop-value
invariant-loop-value l =
    map code_view l.sends ++ map (λ v. may_be_held (sending l.channel l.width (constant v))) (drop l.value-index l.values)
    ≡ map (λ v. may_be_held (sending l.channel l.width (constant v))) l.values
