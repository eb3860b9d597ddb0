-- Of one state one ring is told.
use Rattle.std.proofs.Common.{◌≡◌, ◌↔◌, ℕ, zero, suc, List, [], ◌∷◌, map, length, Bool, true, false, Some, slice_get, refl, sym, ◌∙◌, ap, subst, arith}
use Rattle.std.proofs.Math.Path.{fun_ext}
use Rattle.runs.proofs.public.Options.{some-injective}
use Rattle.local_actions.specs.declared.action.LocalAction.{LocalAction}
use Rattle.rings.specs.FirstRing.{IsFirstRing, OneFirstRing}
use Rattle.rings.specs.Partners.{partner_in}
use Rattle.rings.specs.Rings.{Helped, IsDeadlocked}
use Rattle.rings.specs.declared.partner.Partner.{Partner}
use Rattle.waiting.specs.Input.{helped_in}
use Rattle.waiting.specs.Told.{OneRing}
use Rattle.waiting.specs.Waits.{Waits}
use Rattle.waiting.proofs.InOneOrder.{one-list}

-- for each of the actions a mark that is set exactly where this holds of it
abbrev Marks : (LocalAction → Type 0) → List LocalAction → List Bool → Type 0
Marks D xs marks = (length marks ≡ length xs) × ((i : ℕ) (x : LocalAction) → slice_get xs i ≡ Some x → (slice_get marks i ≡ Some true) ↔ D x)

one-mark : (D : Type 0) (a b : Bool) → (Some a ≡ Some true) ↔ D → (Some b ≡ Some true) ↔ D → a ≡ b
one-mark D true true h g = refl
one-mark D true false h g = sym (some-injective false true (g.1 (h.0 refl)))
one-mark D false true h g = some-injective false true (h.1 (g.0 refl))
one-mark D false false h g = refl

one-marks : (D : LocalAction → Type 0) (xs : List LocalAction) (ms ns : List Bool) → Marks D xs ms → Marks D xs ns → ms ≡ ns
one-marks D [] [] [] h g = refl
one-marks D [] (a ∷ ms) ns h g = let size : length (a ∷ ms) ≡ 0 = h.0 in absurd (omega (arith, size))
one-marks D [] [] (b ∷ ns) h g = let size : length (b ∷ ns) ≡ 0 = g.0 in absurd (omega (arith, size))
one-marks D (x ∷ xs) [] ns h g = let size : 0 ≡ length (x ∷ xs) = h.0 in absurd (omega (arith, size))
one-marks D (x ∷ xs) (a ∷ ms) [] h g = let size : 0 ≡ length (x ∷ xs) = g.0 in absurd (omega (arith, size))
one-marks D (x ∷ xs) (a ∷ ms) (b ∷ ns) h g =
    let size : length (a ∷ ms) ≡ length (x ∷ xs) = h.0 in
    let other : length (b ∷ ns) ≡ length (x ∷ xs) = g.0 in
    let rest : ms ≡ ns =
    one-marks D xs ms ns (omega (arith, size), λ i y got. h.1 (suc i) y got) (omega (arith, other), λ i y got. g.1 (suc i) y got) in
    ap (λ (c : Bool). c ∷ ms) (one-mark (D x) a b (h.1 zero x refl) (g.1 zero x refl)) ∙ ap (λ (cs : List Bool). b ∷ cs) rest

pub one-ring : OneFirstRing → OneRing
one-ring first m n S v w same here there =
    let dead : Helped → LocalAction → Type 0 = λ h x. IsDeadlocked (Waits S) h S.residual x.place in
    let actions : v.actions ≡ w.actions = one-list S v.actions w.actions here.actions there.actions in
    let partners : v.partners.items ≡ w.partners.items =
    here.partners ∙ ap (λ (xs : List LocalAction). map (partner_in S.residual) xs) actions ∙ sym there.partners in
    let others : Marks (dead (helped_in m S)) v.actions w.deadlocked.items =
    subst (λ (xs : List LocalAction). Marks (dead (helped_in m S)) xs w.deadlocked.items) (sym actions)
    (subst (λ (h : Helped). Marks (dead h) w.actions w.deadlocked.items) (sym (fun_ext same)) there.deadlocked) in
    let marks : v.deadlocked.items ≡ w.deadlocked.items = one-marks (dead (helped_in m S)) v.actions v.deadlocked.items w.deadlocked.items here.deadlocked others in
    first w.actions w.partners.items w.deadlocked.items v.ring.items w.ring.items
    (subst (λ (xs : List LocalAction). IsFirstRing xs w.partners.items w.deadlocked.items v.ring.items) actions
    (subst (λ (ps : List Partner). IsFirstRing v.actions ps w.deadlocked.items v.ring.items) partners
    (subst (λ (bs : List Bool). IsFirstRing v.actions v.partners.items bs v.ring.items) marks here.first)))
    there.first
