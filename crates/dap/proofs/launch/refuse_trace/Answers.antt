use Rattle.std.proofs.Common.{ℕ, ◌≡◌, inr}
use Rattle.trace_file.specs.FaultNumbers.{fault_number}
use Rattle.dap.specs.Unlaunched.{IsOfTrace}
use Rattle.dap.proofs.Refusing.{not_done_on}
use Rattle.dap.proofs.launch.refuse_trace.Goals as goal

pub returns-in_default : goal.returns-in_default
returns-in_default c =
    not_done_on (λ (n : ℕ). n ≡ fault_number c.args.fault) (IsOfTrace c.args.fault) c.refuse_at.new.answer c.tell_words.new.answer
    c.tell_words.ensures.outcome c.tell_words.ensures.lacks (λ n is. (c.in_default.not-Memory, is))
    (inr (c.number.result, c.refuse_at.ensures, c.number.ensures))
