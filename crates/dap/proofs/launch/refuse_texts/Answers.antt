use Rattle.std.proofs.Common.{ℕ, ◌≡◌, ◌∙◌}
use Rattle.front_end.specs.FaultNumbers.{fault_number}
use Rattle.dap.proofs.Refusing.{not_done_weaker}
use Rattle.dap.proofs.launch.refuse_texts.Goals as goal

pub returns-in-None : goal.returns-in-None
returns-in-None c =
    not_done_weaker (λ (n : ℕ). n ≡ c.number-number.result) (λ (n : ℕ). n ≡ fault_number c.args.fault) c.refuse_beside.new.answer
    (λ n is. is ∙ c.number-number.ensures) c.refuse_beside.ensures
