-- Whether more in the stimulus is all that a run lacks. (Own. A loop that reads its input for ever waits for more of it
-- in the end: no fault of the circuit, as a deadlock is.)
use Rattle.std.specs.Prelude.{◌≡◌, true, false}
use Rattle.runs.specs.Steps.{State}
use Rattle.machine.specs.AtMachine.{AtMachine}
use Rattle.local_actions.specs.declared.action.LocalAction.{LocalAction}
use Rattle.rings.specs.Partners.{partner_in}
use Rattle.rings.specs.declared.partner.Partner.TheVariants.{Gone, Open}
use Rattle.waiting.specs.Input.{takes_input}
use Rattle.waiting.specs.Progress.{StandsLike, is_idle, is_outlet}
use Rattle.waiting.specs.Rings.{IsDeadlockedIn}
use Rattle.waiting.specs.Waits.{Waits}
use Rattle.waiting.specs.declared.progress.Progress.TheVariants.{Stuck}

-- in the state S nothing is missing but more input
pub record LacksInput (m : AtMachine) (S : State) : Type 0 where
  pub stuck : StandsLike S Stuck
  -- nothing that waits in the body, or that it holds, is deadlocked: each waits for the environment in the end, by
  -- whichever of its arms. (What the environment has left over, and nobody takes, waits for ever, and keeps nobody.)
  pub free : (x : LocalAction) → Waits S x → is_idle x ≡ false → IsDeadlockedIn m S x.place → ⊥
  -- one that waits in the body takes what the environment has no more of
  pub starved : (x : LocalAction) × Waits S x × (takes_input m x ≡ true) × (partner_in S.residual x ≡ Gone)
  -- of each that waits, but at an output port, it is known where its partner stands
  pub settled : (x : LocalAction) → Waits S x → is_outlet x.action ≡ false → partner_in S.residual x ≡ Open → ⊥
