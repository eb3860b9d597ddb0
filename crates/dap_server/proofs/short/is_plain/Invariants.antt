use Rattle.std.proofs.Common.{◌≡◌, drop}
use Rattle.dap_server.specs.Short.{is_plain}
use Rattle.dap_server.proofs.short.is_plain.Given as goal

abbrev pub invariant-loop-byte : goal.invariant-loop-byte
invariant-loop-byte l = is_plain (drop l.byte-index l.name) ≡ is_plain l.name
