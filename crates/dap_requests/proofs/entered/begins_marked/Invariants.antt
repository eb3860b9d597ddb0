-- Before the bytes that are left stand blanks alone.
use Rattle.std.proofs.Common.{◌≡◌, drop}
use Rattle.dap_requests.specs.Typed.{begins_marked}
use Rattle.dap_requests.proofs.entered.begins_marked.Given as goal

abbrev pub invariant-loop-byte : goal.invariant-loop-byte
invariant-loop-byte l = begins_marked (drop l.byte-index l.text) ≡ begins_marked l.text
