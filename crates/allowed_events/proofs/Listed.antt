-- The events of an action with those of a list.
use Rattle.std.proofs.Common.{◌≡◌, ◌⊎◌, inl, inr, List, [], ◌∷◌, Option, Some, None, refl, sym, ap, subst}
use Rattle.syntax.specs.Lists.{In}
use Rattle.runs.specs.internal.AllowedEvents.{those}
use Rattle.runs.specs.declared.event.Event.{Event}
use Rattle.local_actions.specs.declared.action.LocalAction.{LocalAction}
use Rattle.allowed_events.specs.internal.Meeting.{met, met_with}

-- what there is, is in the list
pub in-those-first : (o : Option Event) (e : Event) (rest : List Event) → o ≡ Some e → In e (those o rest)
in-those-first None e rest h = cc
in-those-first (Some f) e rest h = inl (let same : e ≡ f = cc in same)

in-those-rest : (o : Option Event) (e : Event) (rest : List Event) → In e rest → In e (those o rest)
in-those-rest None e rest h = h
in-those-rest (Some f) e rest h = inr h

pub those-in : (o : Option Event) (e : Event) (rest : List Event) → In e (those o rest) → (o ≡ Some e) ⊎ In e rest
those-in None e rest h = inr h
those-in (Some f) e rest h = elim h [ inl u ↦ inl (ap (λ (x : Event). Some x) (sym u)) | inr u ↦ inr u ]

-- the event of l with one of the list
pub in-met : (l k : LocalAction) (ks : List LocalAction) (e : Event) → In k ks → met l.place l.action k.place k.action ≡ Some e → In e (met_with l ks)
in-met l k [] e i h = absurd i
in-met l k (o ∷ ks) e i h =
    elim i [
      | inl u ↦ in-those-first _ e (met_with l ks) (subst (λ (x : LocalAction). met l.place l.action x.place x.action ≡ Some e) u h)
      | inr u ↦ in-those-rest _ e (met_with l ks) (in-met l k ks e u h)
    ]

-- an event of l with one of the list
pub record Met (l : LocalAction) (ks : List LocalAction) (e : Event) : Type 0 where
  pub partner : LocalAction
  pub there : In partner ks
  pub made : met l.place l.action partner.place partner.action ≡ Some e

pub met-in : (l : LocalAction) (ks : List LocalAction) (e : Event) → In e (met_with l ks) → Met l ks e
met-in l [] e i = absurd i
met-in l (k ∷ ks) e i =
    elim (those-in _ e (met_with l ks) i) [
      | inl u ↦ record { partner = k; there = inl refl; made = u }
      | inr u ↦ let later = met-in l ks e u in record { partner = later.partner; there = inr later.there; made = later.made }
    ]
