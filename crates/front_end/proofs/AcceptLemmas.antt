-- How the words of the passes become a refusal of source and stimulus.
use Rattle.std.proofs.Common.{◌≡◌, ◌⊎◌, inl, inr, ℕ, List, Result, Ok, Err, sym, subst}
use Rattle.std.specs.Result.{IfErr, IsErrAnd}
use Rattle.refusals.specs.declared.elaborate.Fault as elaborate
use Rattle.refusals.specs.declared.elaborate.Fault.TheVariants as no_system
use Rattle.system.specs.declared.system.System.{System}
use Rattle.sharing_check.specs.Refusal as sharing
use Rattle.refusals.specs.declared.sharing_check.Fault as sharing_check
use Rattle.refusals.specs.declared.sharing_check.Fault.TheVariants as not_shared
use Rattle.types.specs.declared.tree.Procedure.{Procedure}
use Rattle.typed_source.specs.Source as typed_source
use Rattle.typed_source.specs.Source.{IsTyped}
use Rattle.typed_source.specs.declared.fault.Fault as typed_source_fault
use Rattle.typed_source.specs.declared.fault.Fault.TheVariants as not_typed
use Rattle.front_end.specs.Accepting.{Makes, MakesNone, IsRefused}
use Rattle.front_end.specs.Wrapping.{of_source, of_elaborate, of_sharing}
use Rattle.front_end.specs.declared.fault.Fault.{Fault}

-- what is not the first is the second
second : {A B : Type 0} → (A → ⊥) → A ⊎ B → B
second never h = elim h [ inl a ↦ absurd (never a) | inr b ↦ b ]

-- the source refuses
pub untyped : (source stimulus : List ℕ) (fault : typed_source_fault.Fault) → typed_source.IsRefused source fault → IsRefused source stimulus (of_source fault)
untyped source stimulus not_typed.Memory h = tt
untyped source stimulus (not_typed.Lexer fault) h = (λ e. cc, h)
untyped source stimulus (not_typed.Parser fault) h = (λ e. cc, h)
untyped source stimulus (not_typed.Types fault) h = (λ e. cc, h)

-- procedures and stimulus make no system
pub unmakable : (source stimulus : List ℕ) (procedures : List Procedure) (fault : elaborate.Fault) → IsTyped source procedures
    → (fault ≡ no_system.Memory) ⊎ MakesNone procedures stimulus fault → IsRefused source stimulus (of_elaborate fault)
unmakable source stimulus procedures no_system.Memory typed h = tt
unmakable source stimulus procedures no_system.TooManyNodes typed h = (procedures, typed, second (λ e. cc) h)
unmakable source stimulus procedures (no_system.BadStimulus line) typed h = (procedures, typed, second (λ e. cc) h)

-- the rule on sharing refuses
pub unshared : (source stimulus : List ℕ) (system : System) (fault : sharing_check.Fault) → Makes source stimulus system
    → sharing.Refuses system fault → IsRefused source stimulus (of_sharing fault)
unshared source stimulus system not_shared.Memory made refused = tt
unshared source stimulus system (not_shared.SharedVariable offset) made refused = (λ e. cc, (system, made, refused))
unshared source stimulus system (not_shared.SharedChannel offset) made refused = (λ e. cc, (system, made, refused))

-- a fault that was handed on is what it was made of
pub told : {A : Type 0} (r : Result A Fault) (fault : Fault) (P : Fault → Type 0) → IsErrAnd r (λ given. given ≡ fault) → P fault → IfErr r P
told (Ok a) fault P e p = tt
told (Err given) fault P e p = subst P (sym e) p
