-- Which of the actions are helped from elsewhere, as the code tells it.
-- No reader has to believe it: the contract of `who_waits` speaks of `helped_in`.
use Rattle.std.specs.Prelude.{ℕ, ◌+◌, List, [], ◌∷◌, Bool, slice_get}
use Rattle.machine.specs.AtMachine.{AtMachine}
use Rattle.local_actions.specs.declared.action.LocalAction.{LocalAction}
use Rattle.rings.specs.declared.partner.Partner.{Partner}
use Rattle.waiting.specs.Input.{is_helped}

-- for each of these actions, of which the first has the partner of number n
abbrev pub helps : AtMachine → List Partner → ℕ → List LocalAction → List Bool
helps m partners n [] = []
helps m partners n (x ∷ xs) = is_helped m x (slice_get partners n) ∷ helps m partners (n + 1) xs
