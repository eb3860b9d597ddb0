-- What a walk from the root finds on a channel is exactly what is offered there.
use Rattle.std.proofs.Common.{◌≡◌, inl, inr, ℕ, List, [], ◌∷◌, Bool, true, false, cond, refl, sym, ap, ◌∙◌, subst, ◌↔◌}
use Rattle.syntax.specs.Lists.{In}
use Rattle.system.specs.Expression.{Store}
use Rattle.process_tree.specs.Remaining.{remaining}
use Rattle.process_tree.specs.Proc.{Proc}
use Rattle.process_tree.specs.Tidy.{Tidy}
use Rattle.local_actions.specs.Actions.{Offered}
use Rattle.local_actions.specs.internal.Listed.{listed}
use Rattle.local_actions.specs.Walk.{Walk}
use Rattle.local_actions.specs.declared.action.LocalAction.{LocalAction}
use Rattle.local_actions.proofs.public.Exactly.{state}
use Rattle.local_actions.proofs.public.Walked.{below-root, offers-exactly}
use Rattle.channel_uses.specs.OnChannel.{is_partner_on, on}
use Rattle.channel_uses.specs.internal.Located.{finds}

on-in : (e : ℕ) (x : LocalAction) (rs : List LocalAction) → In x (on e rs) → In x rs × (is_partner_on e x.action ≡ true)
on-in e x [] i = absurd i
on-in e x (r ∷ rs) i = pick (is_partner_on e r.action) refl (on-in e x rs) i
  where
    pick : (b : Bool) → is_partner_on e r.action ≡ b → (In x (on e rs) → In x rs × (is_partner_on e x.action ≡ true)) → In x (cond b (r ∷ on e rs) (on e rs)) → In x (r ∷ rs) × (is_partner_on e x.action ≡ true)
    pick true t later j = elim j [
      | inl u ↦ (inl u, ap (λ (y : LocalAction). is_partner_on e y.action) u ∙ t)
      | inr u ↦ let rest = later u in (inr rest.0, rest.1)
    ]
    pick false t later j = let rest = later j in (inr rest.0, rest.1)

in-on : (e : ℕ) (x : LocalAction) (rs : List LocalAction) → In x rs → is_partner_on e x.action ≡ true → In x (on e rs)
in-on e x [] i t = absurd i
in-on e x (r ∷ rs) i t = pick (is_partner_on e r.action) refl (λ u. in-on e x rs u t) i
  where
    pick : (b : Bool) → is_partner_on e r.action ≡ b → (In x rs → In x (on e rs)) → In x (r ∷ rs) → In x (cond b (r ∷ on e rs) (on e rs))
    pick true f later j = elim j [ inl u ↦ inl u | inr u ↦ inr (later u) ]
    pick false f later j = elim j [
      | inl u ↦ let told : is_partner_on e r.action ≡ true = sym (ap (λ (y : LocalAction). is_partner_on e y.action) u) ∙ t in cc
      | inr u ↦ later u
    ]

-- a walk from the root for one channel
pub offered-on : (e : ℕ) (s t : Store) (p q : Proc) (w v : Walk) (rs : List LocalAction) → Tidy p → w ≡ record { place = []; received = []; actions = [] } → v ≡ finds e t q w → t ≡ s → q ≡ p → rs ≡ v.actions
    → (x : LocalAction) → In x rs ↔ (Offered (state (remaining [] p) s) x × (is_partner_on e x.action ≡ true))
offered-on e s t p q w v rs tidy start found st qp is x =
    let all = offers-exactly s p (listed s [] p).actions tidy refl in
    let list : rs ≡ on e (listed s [] p).actions =
    is ∙ ap (λ (z : Walk). z.actions) (found ∙ (λ i. finds e (st i) (qp i) (start i))) ∙ below-root (on e (listed s [] p).actions) in (
      λ i. let both = on-in e x (listed s [] p).actions (subst (λ (l : List LocalAction). In x l) list i) in ((all.exactly x).0 both.0, both.1),
      λ h. subst (λ (l : List LocalAction). In x l) (sym list) (in-on e x (listed s [] p).actions ((all.exactly x).1 h.0) h.1),
    )
