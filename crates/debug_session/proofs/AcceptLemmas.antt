-- How a refusal of source and stimulus becomes one of a session.
use Rattle.std.proofs.Common.{◌≡◌, ℕ, List, Result, Ok, Err, sym, subst}
use Rattle.std.specs.Result.{IfErr, IsErrAnd}
use Rattle.front_end.specs.Accepting as front_end
use Rattle.front_end.specs.declared.fault.Fault as refusal
use Rattle.front_end.specs.declared.fault.Fault.TheVariants as not_accepted
use Rattle.debug_session.specs.Accepting.{IsRefused}
use Rattle.debug_session.specs.Wrapping.{of_front_end}
use Rattle.debug_session.specs.declared.fault.Fault.{Fault}

-- source and stimulus are refused
pub unaccepted : (source stimulus : List ℕ) (fault : refusal.Fault) → front_end.IsRefused source stimulus fault
    → IsRefused source stimulus (of_front_end fault)
unaccepted source stimulus not_accepted.Memory h = tt
unaccepted source stimulus (not_accepted.Source fault) h = (λ e. cc, h)
unaccepted source stimulus (not_accepted.Elaborate fault) h = (λ e. cc, h)
unaccepted source stimulus (not_accepted.Sharing fault) h = (λ e. cc, h)

-- a fault that was handed on is what it was made of
pub told : {A : Type 0} (r : Result A Fault) (fault : Fault) (P : Fault → Type 0) → IsErrAnd r (λ given. given ≡ fault)
    → P fault → IfErr r P
told (Ok a) fault P e p = tt
told (Err given) fault P e p = subst P (sym e) p
