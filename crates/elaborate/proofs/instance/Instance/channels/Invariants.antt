use Rattle.std.proofs.Common.{◌≡◌, ◌++◌, drop}
use Rattle.elaborate.specs.internal.Instances.{channels_of}
use Rattle.elaborate.proofs.instance.Instance.channels.Given as goal

abbrev pub invariant-loop-argument : goal.invariant-loop-argument
invariant-loop-argument l = l.channels ++ channels_of l.self (drop l.argument-index l.arguments) ≡ channels_of l.self l.arguments
