-- What is told of the other use is that of the system that the source makes.
use Rattle.std.proofs.Common.{◌≡◌, ◌≢◌, ◌⊎◌, inl, inr, ℕ, List, [], Option, None, Some, sym, subst}
use Rattle.clash_places.specs.Others.{TellsOther}
use Rattle.clash_places.specs.declared.pairs.OtherUse.{OtherUse}
use Rattle.elaborate.specs.Elaboration as elaboration
use Rattle.refusals.specs.declared.elaborate.Fault as elaborate
use Rattle.refusals.specs.declared.elaborate.Fault.TheVariants as no_system
use Rattle.elaborate.specs.declared.stimulus.Entry.{Entry}
use Rattle.system.specs.declared.system.System.{System}
use Rattle.types.specs.declared.tree.Procedure.{Procedure}
use Rattle.typed_source.specs.Source as typed_source
use Rattle.typed_source.specs.Source.{IsTyped}
use Rattle.typed_source.specs.declared.fault.Fault as typing
use Rattle.typed_source.specs.declared.fault.Fault.TheVariants as not_typed
use Rattle.diagnosis.specs.Clashes.{Makes, TellsClash, TellsUse}

pub tells_clash : (source : List ℕ) (offset : ℕ) (typed : List Procedure) (found : Option OtherUse) → IsTyped source typed
    → TellsUse typed offset found → TellsClash source offset found
tells_clash source offset typed None t h = inr (typed, t, h)
tells_clash source offset typed (Some other) t h = (typed, t, h)

pub none_told : (source : List ℕ) (offset : ℕ) (found : Option OtherUse) (fault : typing.Fault) → found ≡ None
    → fault ≢ not_typed.Memory → typed_source.IsRefused source fault → TellsClash source offset found
none_told source offset found fault none other refused =
    subst (λ (o : Option OtherUse). TellsClash source offset o) (sym none) (inl (fault, other, refused))

pub told_in : (system : System) (procedures : List Procedure) (offset : ℕ) (found : Option OtherUse)
    → system ≡ elaboration.system_of procedures [] → TellsOther system offset found → TellsUse procedures offset found
told_in system procedures offset None e h = inr (subst (λ (z : System). TellsOther z offset None) e h)
told_in system procedures offset (Some other) e h = subst (λ (z : System). TellsOther z offset (Some other)) e h

pub none_made : (procedures : List Procedure) (entries : List Entry) (made : Option System) (fault : elaborate.Fault)
    → entries ≡ [] → made ≡ None → fault ≢ no_system.Memory
    → (fault ≡ no_system.Memory) ⊎ elaboration.IsRefused procedures entries fault → Makes procedures made
none_made procedures entries made fault empty none other (inl memory) = absurd (other memory)
none_made procedures entries made fault empty none other (inr refused) =
    subst (λ (o : Option System). Makes procedures o) (sym none)
    (fault, subst (λ (es : List Entry). elaboration.IsRefused procedures es fault) empty refused)
