use Rattle.std.proofs.Common.{◌≡◌, ◌++◌, drop, map}
use Rattle.types.proofs.declaration.signature_of.Given as goal

-- the kinds so far are those of the ports that are passed
abbrev pub invariant-loop-port : goal.invariant-loop-port
invariant-loop-port l = l.signature ++ map (λ q. q.kind) (drop l.port-index l.ports) ≡ map (λ q. q.kind) l.ports
