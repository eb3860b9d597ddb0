use Rattle.std.proofs.Common.{◌≡◌, drop, length}
use Rattle.types.specs.Calls.{all_fit}
use Rattle.types.specs.internal.Scopes.{entries}
use Rattle.types.proofs.call.all_fit.Given as goal

-- all fit exactly where those that are left do
abbrev pub invariant-loop-index : goal.invariant-loop-index
invariant-loop-index l = record {
  same : all_fit (entries l.names) (drop l.index l.ports) (drop l.index l.arguments) ≡ all_fit (entries l.names) l.ports l.arguments;
  many : length l.ports ≡ length l.arguments;
}
