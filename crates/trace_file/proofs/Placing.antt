-- One event more in a canonical order, and so a canonical order of each list that runs.
use Rattle.std.proofs.Common.{◌≡◌, ◌⊎◌, inl, inr, List, [], ◌∷◌, ◌++◌, refl, sym, ap, ◌∙◌, subst, append_assoc, append-nil}
use Rattle.std.specs.declared.cmp.Ordering.TheVariants.{Less}
use Rattle.address.proofs.public.Total.{order-itself, order-total, order-transitive}
use Rattle.address.specs.Order.{order_of}
use Rattle.syntax.specs.Lists.{In}
use Rattle.runs.specs.Dependence.{Directly, Earlier, Rearranged}
use Rattle.runs.specs.Events.{acting}
use Rattle.runs.specs.Moves.{Place}
use Rattle.runs.specs.declared.event.Event.{Event}
use Rattle.runs.proofs.public.Decisions.{Or, search-list, directly?}
use Rattle.runs.proofs.public.Elements.{earlier-before, earlier-first, rearranged-in, in-rearranged}
use Rattle.runs.proofs.public.FromOpening.{acting_once}
use Rattle.runs.proofs.public.Lists.{in-left, in-right, in-parts}
use Rattle.trace_file.specs.Canonical.{Free, LeastFree, IsCanonicalOrder}
use Rattle.trace_file.specs.CanonicalLaws.{SomeCanonicalOrder}
use Rattle.trace_file.proofs.public.Canonicals.{canonical-rearranged}
use Rattle.trace_file.proofs.Orders.{ActsOnce, once-less, earlier-left, earlier-parts}

-- none of g is a direct cause of e
abbrev pub NoCause : List Event → Event → Type 0
NoCause g e = (f : Event) → In f g → Directly f e → ⊥

-- one of g is a direct cause of e
abbrev pub SomeCause : List Event → Event → Type 0
SomeCause g e = (f : Event) × In f g × Directly f e

-- the acting address of e is less than that of f
abbrev pub ActsBelow : Event → Event → Type 0
ActsBelow e f = order_of (acting e) (acting f) ≡ Less

-- e, on which none of g depends, is put into g behind its direct causes, in front of the first event there of a greater acting address
abbrev pub Placed : Event → List Event → List Event → Type 0
Placed e [] out = out ≡ e ∷ []
Placed e (f ∷ g) out =
    ((out ≡ e ∷ f ∷ g) × NoCause (f ∷ g) e × ActsBelow e f)
    ⊎ ((rest : List Event) × (out ≡ f ∷ rest) × (SomeCause (f ∷ g) e ⊎ (ActsBelow e f → ⊥)) × Placed e g rest)

-- what acts below another is not the other
below-itself : (e : Event) → ActsBelow e e → ⊥
below-itself e below =
    let same = order-itself (acting e) in
    cc

-- the list with one event behind it: two that stand in order are both before it, or the second is the event
with-last : (e x y : Event) (h : List Event) → Earlier (h ++ e ∷ []) x y → Earlier h x y ⊎ ((y ≡ e) × In x h)
with-last e x y h i =
    elim (earlier-parts e x y h [] i) [
      | inl u ↦ inl (subst (λ (l : List Event). Earlier l x y) (append-nil h) u)
      | inr (inl u) ↦ absurd u.1
      | inr (inr u) ↦ inr u
    ]

-- an event of the list that is free with one event behind is free without it
free-before : (e f : Event) (h : List Event) → In f h → Free (h ++ e ∷ []) f → Free h f
free-before e f h i free = record {
  inside = i;
  no_cause = λ x before direct. free.no_cause x (earlier-left x f h (e ∷ []) before) direct;
}

-- the new event comes first
comes-first : (h g : List Event) (e x : Event) → IsCanonicalOrder h (x ∷ g) → NoCause (x ∷ g) e → ActsBelow e x → LeastFree (h ++ e ∷ []) e
comes-first h g e x c none below =
    let same : Rearranged (x ∷ g) h = canonical-rearranged h (x ∷ g) c in
    let uncaused : (f : Event) → In f h → Directly f e → ⊥ = λ f i. none f (rearranged-in (x ∷ g) h f same i) in
    record {
      free = record {
        inside = in-right e h (e ∷ []) (inl refl);
        no_cause = λ f i direct. elim (with-last e f e h i) [
          | inl u ↦ uncaused f (earlier-first h f e u) direct
          | inr u ↦ uncaused f u.1 direct
        ];
      };
      least = λ f free less. elim (in-parts f h (e ∷ []) free.inside) [
        | inl u ↦ c.3.least f (free-before e f h u free) (order-transitive (acting f) (acting e) (acting x) less below)
        | inr (inl u) ↦ below-itself e (subst (λ (z : Event). ActsBelow z e) u less)
        | inr (inr u) ↦ absurd u
      ];
    }

-- the event that came first stays first
stays-first : (h g : List Event) (e x : Event) → ActsOnce (h ++ e ∷ []) → IsCanonicalOrder h (x ∷ g) → SomeCause (x ∷ g) e ⊎ (ActsBelow e x → ⊥)
    → LeastFree (h ++ e ∷ []) x
stays-first h g e x once c behind =
    let same : Rearranged (x ∷ g) h = canonical-rearranged h (x ∷ g) c in
    record {
      free = record {
        inside = in-left x h (e ∷ []) c.3.free.inside;
        no_cause = λ f i direct. elim (with-last e f x h i) [
          | inl u ↦ c.3.free.no_cause f u direct
          | inr u ↦ once x e (earlier-before e x h [] c.3.free.inside) (ap acting u.0)
        ];
      };
      least = λ f free less. elim (in-parts f h (e ∷ []) free.inside) [
        | inl u ↦ c.3.least f (free-before e f h u free) less
        | inr (inl u) ↦ elim behind [
          | inl cause ↦ free.no_cause cause.0
              (subst (λ (z : Event). Earlier (h ++ e ∷ []) cause.0 z) (sym u) (earlier-before e cause.0 h [] (in-rearranged (x ∷ g) h cause.0 same cause.1)))
              (subst (λ (z : Event). Directly cause.0 z) (sym u) cause.2)
          | inr not ↦ not (subst (λ (z : Event). ActsBelow z x) u less)
        ]
        | inr (inr u) ↦ absurd u
      ];
    }

-- the canonical order with one event more
pub placed-canonical : (h g out : List Event) (e : Event) → ActsOnce (h ++ e ∷ []) → IsCanonicalOrder h g → Placed e g out → IsCanonicalOrder (h ++ e ∷ []) out
placed-canonical h [] out e once c placed =
    let alone : LeastFree (e ∷ []) e = record {
      free = record { inside = inl refl; no_cause = λ f i direct. elim i [ inl u ↦ u.1 | inr u ↦ u ] };
      least = λ f free less. elim free.inside [ inl u ↦ below-itself e (subst (λ (z : Event). ActsBelow z e) u less) | inr u ↦ u ];
    } in
    let single : IsCanonicalOrder (e ∷ []) (e ∷ []) = ([], [], refl, alone, refl) in
    subst (λ (l : List Event). IsCanonicalOrder (h ++ e ∷ []) l) (sym placed)
    (subst (λ (l : List Event). IsCanonicalOrder (l ++ e ∷ []) (e ∷ [])) (sym c) single)
placed-canonical h (x ∷ g) out e once c (inl front) =
    let first : IsCanonicalOrder (h ++ e ∷ []) (e ∷ x ∷ g) = (
      h,
      [],
      refl,
      comes-first h g e x c front.1 front.2,
      subst (λ (l : List Event). IsCanonicalOrder l (x ∷ g)) (sym (append-nil h)) c,
    ) in
    subst (λ (l : List Event). IsCanonicalOrder (h ++ e ∷ []) l) (sym front.0) first
placed-canonical h (x ∷ g) out e once c (inr (rest, is, behind, placed)) =
    let parts : h ++ e ∷ [] ≡ c.0 ++ x ∷ (c.1 ++ e ∷ []) =
    ap (λ (l : List Event). l ++ e ∷ []) c.2 ∙ append_assoc c.0 (x ∷ c.1) (e ∷ []) in
    let less : ActsOnce ((c.0 ++ c.1) ++ e ∷ []) =
    subst ActsOnce (sym (append_assoc c.0 c.1 (e ∷ []))) (once-less x c.0 (c.1 ++ e ∷ []) (subst ActsOnce parts once)) in
    let whole : IsCanonicalOrder (h ++ e ∷ []) (x ∷ rest) = (
      c.0,
      c.1 ++ e ∷ [],
      parts,
      stays-first h g e x once c behind,
      subst (λ (l : List Event). IsCanonicalOrder l rest) (append_assoc c.0 c.1 (e ∷ []))
          (placed-canonical (c.0 ++ c.1) g rest e less c.4 placed),
    ) in
    subst (λ (l : List Event). IsCanonicalOrder (h ++ e ∷ []) l) (sym is) whole

-- an event acts below another, or it does not
below? : (e f : Event) → Or (ActsBelow e f)
below? e f =
    elim (order-total (acting e) (acting f)) [
      | inl u ↦ inl u
      | inr (inl u) ↦ inr (λ below. below-itself e (order-transitive (acting e) (acting f) (acting e) below u))
      | inr (inr u) ↦ inr (λ below. below-itself e (subst (λ (a : Place). order_of (acting e) a ≡ Less) (sym u) below))
    ]

-- there is an index for each event
placed-some : (e : Event) (g : List Event) → (out : List Event) × Placed e g out
placed-some e [] = (e ∷ [], refl)
placed-some e (f ∷ g) =
    let rest = placed-some e g in
    elim (search-list (λ (x : Event). Directly x e) (f ∷ g) (λ x i. directly? x e)) [
      | inl cause ↦ (f ∷ rest.0, inr (rest.0, refl, inl cause, rest.1))
      | inr none ↦ elim (below? e f) [
        | inl below ↦ (e ∷ f ∷ g, inl (refl, none, below))
        | inr above ↦ (f ∷ rest.0, inr (rest.0, refl, inr above, rest.1))
      ]
    ]

-- the events of k, put one after another into the canonical order of those before them
all-placed : (h k g : List Event) → ActsOnce (h ++ k) → IsCanonicalOrder h g → (out : List Event) × IsCanonicalOrder (h ++ k) out
all-placed h [] g once c = (g, subst (λ (l : List Event). IsCanonicalOrder l g) (sym (append-nil h)) c)
all-placed h (e ∷ k) g once c =
    let placed = placed-some e g in
    let next : (h ++ e ∷ []) ++ k ≡ h ++ e ∷ k = append_assoc h (e ∷ []) k in
    let all : ActsOnce ((h ++ e ∷ []) ++ k) = subst ActsOnce (sym next) once in
    let first : ActsOnce (h ++ e ∷ []) = λ x y i. all x y (earlier-left x y (h ++ e ∷ []) k i) in
    let rest = all-placed (h ++ e ∷ []) k placed.0 all (placed-canonical h g placed.0 e first c placed.1) in
    (rest.0, subst (λ (l : List Event). IsCanonicalOrder l rest.0) next rest.1)

-- a list that runs has a canonical order
pub some-canonical-order : SomeCanonicalOrder
some-canonical-order system h T r = all-placed [] h [] (λ e f i. acting_once system h T e f r i) refl
