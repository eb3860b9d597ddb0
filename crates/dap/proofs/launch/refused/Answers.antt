use Rattle.std.proofs.Common.{ℕ, ◌≡◌}
use Rattle.front_end.specs.FaultNumbers.{fault_number}
use Rattle.dap.specs.Unlaunched.{IsOfTexts}
use Rattle.dap.proofs.Refusing.{not_done_on}
use Rattle.dap.proofs.launch.refused.Goals as goal

pub returns-in_default : goal.returns-in_default
returns-in_default c =
    not_done_on (λ (n : ℕ). n ≡ fault_number c.args.fault) (IsOfTexts c.args.fault) c.refuse_texts.new.answer c.tell_words.new.answer
    c.tell_words.ensures.outcome c.tell_words.ensures.lacks (λ n is. (c.in_default.not-Memory, is)) c.refuse_texts.ensures
