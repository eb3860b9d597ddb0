use Rattle.std.proofs.Common.{◌≡◌, drop, map}
use Rattle.types.specs.Calls.{judged_argument, judged_arguments}
use Rattle.types.specs.internal.Scopes.{entries}
use Rattle.types.specs.Findings.{with_all}
use Rattle.types.specs.internal.Least.{least}
use Rattle.types.proofs.call.settled_arguments.Given as goal

-- with the arguments that are left, those so far are all
abbrev pub invariant-loop-argument : goal.invariant-loop-argument
invariant-loop-argument l =
    with_all least l.channels (map (judged_argument (entries l.names) l.opened) (drop l.argument-index l.arguments))
    ≡ judged_arguments least (entries l.names) l.opened l.arguments
