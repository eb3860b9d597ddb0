-- The state of an object: it is one, and every order that respects dependence gives it.
use Rattle.std.proofs.Common.{◌≡◌, ◌↔◌, List, subst}
use Rattle.runs.specs.Steps.{State, Run}
use Rattle.runs.specs.Dependence.{Respecting}
use Rattle.runs.specs.Live.{events}
use Rattle.runs.specs.Object.{Object, Reaches}
use Rattle.runs.specs.Sound.{Sound}
use Rattle.runs.specs.declared.event.Event.{Event}
use Rattle.runs.proofs.public.Respecting.{respecting-runs}
use Rattle.runs.proofs.public.StepOf.{run-determined}
use Rattle.runs.proofs.public.Effects.{sound-formed}

pub one-state : (o : Object) → Sound o → (T : State) × Reaches o T × ((U : State) → Reaches o U → U ≡ T)
one-state o s = (s.runs.0, s.runs.1, λ U r. run-determined o.opening (events o.live) U s.runs.0 (sound-formed o s) r s.runs.1)

pub reaches-one : (o : Object) (T U : State) → Sound o → Reaches o T → Reaches o U → T ≡ U
reaches-one o T U s r q = run-determined o.opening (events o.live) T U (sound-formed o s) r q

pub in-every-order : (o : Object) → Sound o → (g : List Event) (U : State) → Respecting (events o.live) g → (Run o.opening g U ↔ Reaches o U)
in-every-order o s g U order =
    let given = respecting-runs o.opening s.runs.0 (events o.live) g (sound-formed o s) s.runs.1 order in (
      (λ r. subst (λ (T : State). Run o.opening (events o.live) T) (run-determined o.opening g s.runs.0 U (sound-formed o s) given r) s.runs.1),
      (λ r. subst (λ (T : State). Run o.opening g T) (reaches-one o s.runs.0 U s s.runs.1 r) given),
    )
