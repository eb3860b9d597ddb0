-- Two lists that run and have the same events are respecting orders of each other.
use Rattle.std.proofs.Common.{◌≡◌, ◌⊎◌, ◌↔◌, inl, inr, ℕ, List, Bool, true, false, refl}
use Rattle.syntax.specs.Lists.{In}
use Rattle.runs.specs.Moves.{Place}
use Rattle.runs.specs.Events.{places}
use Rattle.runs.specs.Steps.{State, Run}
use Rattle.runs.specs.Dependence.{Directly, SomeBefore, OnOneChannel, OnOneVariable, WritesFor, Earlier, Causes, itself, onwards, Rearranged, Respecting}
use Rattle.runs.proofs.public.SharingWidths.{KeepsSharing}
use Rattle.runs.proofs.OrderingLaw.{ordered}
use Rattle.runs.proofs.public.Respecting.{run-distinct}
use Rattle.runs.proofs.public.Elements.{Distinct, rearranged-turned, rearranged-distinct, one-order, either-order}
use Rattle.runs.specs.Related.{WritesOwn, Related, WritesShared, OnOneShared}
use Rattle.runs.specs.declared.event.Event.{Event}
use Rattle.runs.proofs.public.WellFormed.{WellFormed}
use Rattle.runs.proofs.Clear.{Clear, clear-not-before}
use Rattle.runs.proofs.public.Once.{clear-of}

-- the variable written is shared or not
own-or-shared : (is_shared : ℕ → Bool) (e f : Event) → WritesFor e f → WritesOwn is_shared e f ⊎ WritesShared is_shared e f
own-or-shared is_shared e f h = pick (is_shared h.0) refl
  where
    pick : (b : Bool) → is_shared h.0 ≡ b → WritesOwn is_shared e f ⊎ WritesShared is_shared e f
    pick true same = inr (h.0, same, h.1, h.2)
    pick false same = inl (h.0, same, h.1, h.2)

module _ (is_shared : ℕ → Bool) where
  -- what depends directly has an address before, is related, or is on one shared variable
  sorted : (e f : Event) → Directly e f → SomeBefore e f ⊎ Related is_shared e f ⊎ OnOneShared is_shared e f
  sorted e f d =
      elim d [
        | inl u ↦ inl u
        | inr (inl u) ↦ inr (inl (inl u))
        | inr (inr (inl u)) ↦ elim (own-or-shared is_shared e f u) [ inl v ↦ inr (inl (inr (inl v))) | inr v ↦ inr (inr (inl v)) ]
        | inr (inr (inr u)) ↦ elim (own-or-shared is_shared f e u) [ inl v ↦ inr (inl (inr (inr v))) | inr v ↦ inr (inr (inr v)) ]
      ]

  -- what is known of two lists with the same events, h and g
  abbrev Ordered : List Event → Type 0
  Ordered h = (e f : Event) → Earlier h e f → Related is_shared e f → SomeBefore e f

  -- each address of an event is clear of each address of a later one
  abbrev AllClear : List Event → Type 0
  AllClear g = (e f : Event) → Earlier g e f → (a b : Place) → In a (places e) → In b (places f) → Clear a b

  -- what is on one shared variable is not in the other order
  abbrev SharedAlike : List Event → List Event → Type 0
  SharedAlike h g = (e f : Event) → Earlier h e f → OnOneShared is_shared e f → Earlier g f e → ⊥

  -- a later event has no address before one of an earlier
  not-before : (g : List Event) (e f : Event) → AllClear g → Earlier g f e → SomeBefore e f → ⊥
  not-before g e f clear i (a, b, ia, ib, early) = clear-not-before b a (clear f e i b a ib ia) early

  -- directly dependent events stay in their order
  keeps-order : (h g : List Event) → Rearranged h g → Ordered h → AllClear g → SharedAlike h g →
      (e f : Event) → Earlier h e f → Directly e f → Earlier g e f
  keeps-order h g r o c s e f i d =
      elim (either-order h g r e f i) [
        | inl u ↦ u
        | inr u ↦ absurd (elim (sorted e f d) [
          | inl v ↦ not-before g e f c u v
          | inr (inl v) ↦ not-before g e f c u (o e f i v)
          | inr (inr v) ↦ s e f i v u
        ])
      ]

-- of two lists that run from S and have the same events, with any two that are on one shared variable in the same order,
-- the second is a respecting order of the first
pub same-events : (is_sync is_shared : ℕ → Bool) (S T U : State) (h g : List Event) →
    KeepsSharing is_sync is_shared S.residual → WellFormed S.residual → Run S h T → Run S g U → Rearranged h g →
    ((e f : Event) → Earlier h e f → OnOneShared is_shared e f → Earlier g e f) → Respecting h g
same-events is_sync is_shared S T U h g k w r q again alike = record {
  rearranged = again;
  keeps = keeps-order is_shared h g again
      (λ e f i related. ordered is_sync is_shared S T h e f k w r i related)
      (λ e f i a b ia ib. clear-of S U e f g w q i a b ia ib)
      (λ e f i shared back. one-order g e f (rearranged-distinct h g again (run-distinct S T h w r)) (alike e f i shared) back);
}

-- one order of events on one shared variable, the other way round
alike-turned : (is_shared : ℕ → Bool) (h g : List Event) → Distinct g → Rearranged g h →
    ((e f : Event) → Earlier h e f → OnOneShared is_shared e f → Earlier g e f) →
    (e f : Event) → Earlier g e f → OnOneShared is_shared e f → Earlier h e f
alike-turned is_shared h g d r alike e f i shared =
    elim (either-order g h r e f i) [
      | inl u ↦ u
      | inr u ↦ absurd (one-order g e f d i (alike f e u (elim shared [ inl v ↦ inr v | inr v ↦ inl v ])))
    ]

-- and the first is one of the second
pub same-events-both : (is_sync is_shared : ℕ → Bool) (S T U : State) (h g : List Event) →
    KeepsSharing is_sync is_shared S.residual → WellFormed S.residual → Run S h T → Run S g U → Rearranged h g →
    ((e f : Event) → Earlier h e f → OnOneShared is_shared e f → Earlier g e f) → Respecting h g × Respecting g h
same-events-both is_sync is_shared S T U h g k w r q again alike =
    let back = rearranged-turned h g again in (
      same-events is_sync is_shared S T U h g k w r q again alike,
      same-events is_sync is_shared S U T g h k w q r back (alike-turned is_shared h g (run-distinct S U g w q) back alike),
    )

-- what is on one channel or one variable depends directly in either order
turned : (e f : Event) → OnOneChannel e f ⊎ OnOneVariable e f → Directly f e
turned e f d =
    elim d [
      | inl u ↦ inr (inl (u.0, u.2, u.1))
      | inr (inl u) ↦ inr (inr (inr u))
      | inr (inr u) ↦ inr (inr (inl u))
    ]

-- directly dependent events of a respecting order stand in the run as they stand there
earlier-back : (S T : State) (h g : List Event) → WellFormed S.residual → Run S h T → Respecting h g →
    (e f : Event) → Earlier g e f → Directly e f → Earlier h e f
earlier-back S T h g w r o e f i d =
    elim (either-order g h (rearranged-turned h g o.rearranged) e f i) [
      | inl u ↦ u
      | inr u ↦ absurd (elim d [
        | inl v ↦ clear-not-before v.1 v.0 (clear-of S T f e h w r u v.1 v.0 v.3 v.2) v.4
        | inr v ↦ one-order g e f (rearranged-distinct h g o.rearranged (run-distinct S T h w r)) i (o.keeps f e u (turned e f v))
      ])
    ]

-- what depends in one list depends in another that keeps the directly dependent pairs
causes-on : (h g : List Event) → ((x y : Event) → Earlier h x y → Directly x y → Earlier g x y) → (e f : Event) → Causes h e f → Causes g e f
causes-on h g keeps e f itself = itself
causes-on h g keeps e f (onwards {f = m} c i d) = onwards (causes-on h g keeps e m c) (keeps m f i d) d

-- a list that runs and its respecting orders have the same dependents
pub depend-alike : (S T : State) (h g : List Event) (e f : Event) → WellFormed S.residual → Run S h T → Respecting h g → (Causes h e f ↔ Causes g e f)
depend-alike S T h g e f w r o = (
  causes-on h g o.keeps e f,
  causes-on g h (earlier-back S T h g w r o) e f,
)
