-- The actions where a walk down along a place ends are those that are offered there.
use Rattle.std.proofs.Common.{◌≡◌, ◌↔◌, inl, inr, ℕ, List, [], ◌∷◌, ◌++◌, Bool, true, false, ◌&&◌, cond, Option, Some, None, IsSome, refl, sym, ap, ap₂, ◌∙◌, subst, eqb-true, eq-eqb, arith}
use Rattle.std.proofs.lemmas.Bool.{and_parts, and_from}
use Rattle.std.specs.Prelude.{◌==◌}
use Rattle.address.specs.internal.OrderLaws.{less-not-equal}
use Rattle.address.proofs.public.Total.{order-itself}
use Rattle.address.specs.Order.{order_of}
use Rattle.syntax.specs.Lists.{In}
use Rattle.system.specs.Expression.{Store}
use Rattle.runs.specs.InOrder.{InOrder}
use Rattle.runs.specs.Moves.{Place}
use Rattle.runs.specs.Tests.{same_place}
use Rattle.runs.proofs.public.Lists.{every-in}
use Rattle.runs.proofs.public.Options.{none-some, some-injective}
use Rattle.process_tree.specs.Proc.{Proc}
use Rattle.process_tree.specs.Remaining.{Received, remaining}
use Rattle.process_tree.specs.Tidy.{Tidy}
use Rattle.local_actions.specs.Actions.{Offered, Precedes, Under, opened_arm}
use Rattle.local_actions.specs.Walk.{Walk, action_at, added, below}
use Rattle.local_actions.specs.internal.At.{Leads, at_site, chosen, is_under, under}
use Rattle.local_actions.specs.internal.Listed.{listed}
use Rattle.local_actions.specs.declared.action.ActionKind.{ActionKind}
use Rattle.local_actions.specs.declared.action.LocalAction.{LocalAction}
use Rattle.local_actions.specs.declared.site.Site.{Site}
use Rattle.local_actions.proofs.public.Exactly.{state}
use Rattle.local_actions.proofs.public.PlacedActions.{entry-itself, place-true, place-itself, under-told, under-itself, in-under}
use Rattle.local_actions.proofs.public.Walked.{offers-exactly, offers-in-order}

-- what is at a place is below it
not-same : (a b : Place) → is_under a b ≡ false → same_place a b ≡ false
not-same a b h = pick (same_place a b) refl
  where
    pick : (t : Bool) → same_place a b ≡ t → t ≡ false
    pick true e = let told : is_under a b ≡ true = under-told a b (subst (λ (c : Place). Under a c) (place-true a b e) (under-itself a)) in cc
    pick false e = refl

chosen-under : (a : Place) (k : ℕ) (rs : List LocalAction) → chosen a k rs ≡ chosen a k (under a rs)
chosen-under a k [] = refl
chosen-under a k (r ∷ rs) = pick (is_under a r.place) refl (chosen-under a k rs)
  where
    pick : (b : Bool) → is_under a r.place ≡ b → chosen a k rs ≡ chosen a k (under a rs)
        → cond (same_place a r.place && (opened_arm r.action == k)) (Some r.action) (chosen a k rs) ≡ chosen a k (cond b (r ∷ under a rs) (under a rs))
    pick true e h = ap (λ o. cond (same_place a r.place && (opened_arm r.action == k)) (Some r.action) o) h
    pick false e h = ap (λ b. cond (b && (opened_arm r.action == k)) (Some r.action) (chosen a k rs)) (not-same a r.place e) ∙ h

same-own : (a b : Place) → same_place a (a ++ b) ≡ same_place [] b
same-own [] b = refl
same-own (x ∷ a) b = ap (λ c. c && same_place a (a ++ b)) (entry-itself x) ∙ same-own a b

chosen-below : (a : Place) (k : ℕ) (rs : List LocalAction) → chosen a k (below a rs) ≡ chosen [] k rs
chosen-below a k [] = refl
chosen-below a k (r ∷ rs) = ap₂ (λ b o. cond (b && (opened_arm r.action == k)) (Some r.action) o) (same-own a r.place) (chosen-below a k rs)

-- the one that is chosen is there
chosen-in : (a : Place) (k : ℕ) (x : ActionKind) (rs : List LocalAction) → chosen a k rs ≡ Some x → In (action_at a x) rs × (opened_arm x ≡ k)
chosen-in a k x [] e = none-some x e
chosen-in a k x (r ∷ rs) e = pick (same_place a r.place && (opened_arm r.action == k)) refl e (chosen-in a k x rs)
  where
    pick : (b : Bool) → (same_place a r.place && (opened_arm r.action == k)) ≡ b → cond b (Some r.action) (chosen a k rs) ≡ Some x → (chosen a k rs ≡ Some x → In (action_at a x) rs × (opened_arm x ≡ k))
        → In (action_at a x) (r ∷ rs) × (opened_arm x ≡ k)
    pick true t h later =
        let both = and_parts (same_place a r.place) (opened_arm r.action == k) t in
        let kind : x ≡ r.action = sym (some-injective r.action x h) in
        let place = place-true a r.place both.0 in
        (inl (λ i. record { place = place i; action = kind i }), ap opened_arm kind ∙ eqb-true (opened_arm r.action) k both.1)
    pick false t h later = let rest = later h in (inr rest.0, rest.1)

-- and there is one at most
no-other : (x y : LocalAction) → x.place ≡ y.place → opened_arm x.action ≡ opened_arm y.action → Precedes x y → ⊥
no-other x y p q h = elim h [
  | inl u ↦ less-not-equal (sym (ap (order_of x.place) p ∙ u) ∙ order-itself x.place)
  | inr u ↦ omega (arith, q, u.1)
]

chosen-one : (a : Place) (k : ℕ) (x : ActionKind) (rs : List LocalAction) → InOrder Precedes rs → In (action_at a x) rs → opened_arm x ≡ k → chosen a k rs ≡ Some x
chosen-one a k x [] ord i e = absurd i
chosen-one a k x (r ∷ rs) ord i e = pick (same_place a r.place && (opened_arm r.action == k)) refl i (λ u. chosen-one a k x rs ord.1 u e)
  where
    pick : (b : Bool) → (same_place a r.place && (opened_arm r.action == k)) ≡ b → In (action_at a x) (r ∷ rs) → (In (action_at a x) rs → chosen a k rs ≡ Some x) → cond b (Some r.action) (chosen a k rs) ≡ Some x
    pick true t j later = elim j [
      | inl u ↦ ap (λ (y : LocalAction). Some y.action) (sym u)
      | inr u ↦
          let both = and_parts (same_place a r.place) (opened_arm r.action == k) t in
          absurd (no-other r (action_at a x) (sym (place-true a r.place both.0)) (eqb-true (opened_arm r.action) k both.1 ∙ sym e) (every-in (Precedes r) rs (action_at a x) ord.0 u))
    ]
    pick false t j later = elim j [
      | inl u ↦
          let there : (same_place a r.place && (opened_arm r.action == k)) ≡ true =
          and_from (same_place a r.place) (opened_arm r.action == k) (ap (same_place a) (ap (λ (y : LocalAction). y.place) (sym u)) ∙ place-itself a)
          (eq-eqb (opened_arm r.action) k (ap (λ (y : LocalAction). opened_arm y.action) (sym u) ∙ e)) in
          cc
      | inr u ↦ later u
    ]

module _ (s t : Store) (p q : Proc) (a : Place) (old new : Received) (y : Site) (tidy : Tidy p) (values : t ≡ s) (tree : q ≡ p) (start : old ≡ []) (leads : Leads q a old new y) where
  -- the whole list, as far as it is there
  whole : under a (listed s [] p).actions ≡ below a (at_site t new y)
  whole = (λ i. under a (listed (sym values i) (sym start i) (sym tree i)).actions) ∙ leads t

  -- what a walk to a place comes to is offered there
  pub offered-there : (k : ℕ) (found : Option ActionKind) → found ≡ chosen [] k (at_site t new y) → (x : ActionKind) → (found ≡ Some x) ↔ (Offered (state (remaining [] p) s) (action_at a x) × (opened_arm x ≡ k))
  offered-there k found is x =
      let all = offers-exactly s p (listed s [] p).actions tidy refl in
      let same : found ≡ chosen a k (listed s [] p).actions = is ∙ sym (chosen-under a k (listed s [] p).actions ∙ ap (chosen a k) whole ∙ chosen-below a k (at_site t new y)) in (
        λ e. let got = chosen-in a k x (listed s [] p).actions (sym same ∙ e) in ((all.exactly (action_at a x)).0 got.0, got.1),
        λ h. same ∙ chosen-one a k x (listed s [] p).actions (offers-in-order s p (listed s [] p).actions tidy refl) ((all.exactly (action_at a x)).1 h.0) h.1,
      )

  -- and all that is listed there is offered there and below it
  pub offered-below : (w v : Walk) (rs : List LocalAction) → w ≡ record { place = a; received = new; actions = [] } → v ≡ added (at_site t w.received y) w → rs ≡ v.actions
      → (x : LocalAction) → In x rs ↔ (Offered (state (remaining [] p) s) x × Under a x.place)
  offered-below w v rs e h is x =
      let all = offers-exactly s p (listed s [] p).actions tidy refl in
      let list : rs ≡ under a (listed s [] p).actions =
      is ∙ ap (λ (z : Walk). z.actions) h ∙ (λ i. (added (at_site t (e i).received y) (e i)).actions) ∙ sym whole in (
        λ i. let both = (in-under a x (listed s [] p).actions).0 (subst (λ (l : List LocalAction). In x l) list i) in ((all.exactly x).0 both.0, both.1),
        λ h. subst (λ (l : List LocalAction). In x l) (sym list) ((in-under a x (listed s [] p).actions).1 ((all.exactly x).1 h.0, h.1)),
      )

  -- so where one is chosen, it is offered
  pub offered-some : (k : ℕ) → IsSome (chosen [] k (at_site t new y)) → (x : ActionKind) × Offered (state (remaining [] p) s) (action_at a x) × (opened_arm x ≡ k)
  offered-some k h = pick (chosen [] k (at_site t new y)) refl h
    where
      pick : (o : Option ActionKind) → chosen [] k (at_site t new y) ≡ o → IsSome o → (x : ActionKind) × Offered (state (remaining [] p) s) (action_at a x) × (opened_arm x ≡ k)
      pick None e h = cc
      pick (Some x) e h = let there = (offered-there k (Some x) (sym e) x).0 refl in (x, there.0, there.1)
