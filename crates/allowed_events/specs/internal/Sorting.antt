-- Events put in order, as functions.
-- No reader has to believe it: `proofs/Sooner.antt` ties it to `Sooner` of `runs`.
use Rattle.std.specs.Prelude.{ℕ, suc, ◌==◌, List, [], ◌∷◌, Bool, true, false, cond, nat_lt}
use Rattle.std.specs.Ordering.{is_lt}
use Rattle.std.specs.declared.cmp.Ordering.{Ordering}
use Rattle.std.specs.declared.cmp.Ordering.TheVariants.{Less, Equal, Greater}
use Rattle.address.specs.Order.{order_of}
use Rattle.runs.specs.Events.{acting}
use Rattle.runs.specs.Choices.{choice_of}
use Rattle.runs.specs.Ready.{other}
use Rattle.runs.specs.declared.event.Event.{Event}
use Rattle.runs.specs.Tests.{same_event}

-- by the acting addresses, then the arms, then the other addresses
abbrev pub sooner_by : Ordering → ℕ → ℕ → Ordering → Bool
sooner_by Less m n others = true
sooner_by Greater m n others = false
sooner_by Equal m n others = cond (nat_lt m n) true (cond (m == n) (is_lt others) false)

-- whether e comes before f
abbrev pub is_sooner : Event → Event → Bool
is_sooner e f =
    sooner_by (order_of (acting e) (acting f)) (choice_of e).arm (choice_of f).arm (order_of (other e) (other f))

-- how many of the first events come before e, up to one that doesn't
abbrev pub sooner_count : Event → List Event → ℕ
sooner_count e [] = 0
sooner_count e (f ∷ fs) = cond (is_sooner f e) (suc (sooner_count e fs)) 0

-- es with e behind all that come before it, unless it stands there
abbrev pub inserted : Event → List Event → List Event
inserted e [] = e ∷ []
inserted e (f ∷ fs) = cond (is_sooner f e) (f ∷ inserted e fs) (cond (same_event f e) (f ∷ fs) (e ∷ f ∷ fs))
