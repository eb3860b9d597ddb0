use Rattle.std.proofs.Common.{◌≡◌, take}
use Rattle.viable_tokens.specs.Viable.{AreViable}
use Rattle.viable_tokens.proofs.trial.viable_among.Given as goal

abbrev pub invariant-loop-kind : goal.invariant-loop-kind
invariant-loop-kind l = record {
  same : l.tokens.items ≡ l.fn.tokens.items;
  viable : AreViable l.fn.tokens.items (take l.kind-index l.kinds) l.viable.items;
}
