-- Which elements a list has, and which stand before which.
use Rattle.runs.proofs.public.Lists.{in-left, in-right, in-parts}
use Rattle.std.proofs.Common.{◌≡◌, ◌⊎◌, inl, inr, List, [], ◌∷◌, ◌++◌, refl, sym, ap, subst}
use Rattle.syntax.specs.Lists.{In}
use Rattle.runs.specs.Dependence.{Earlier, Rearranged}
use Rattle.runs.specs.declared.event.Event.{Event}

-- a rearrangement has the same elements
pub rearranged-in : (h g : List Event) (f : Event) → Rearranged h g → In f g → In f h
rearranged-in [] g f r i = subst (λ (l : List Event). In f l) r i
rearranged-in (e ∷ h) g f r i =
    elim (in-parts f r.0 (e ∷ r.1) (subst (λ (l : List Event). In f l) r.2 i)) [
      | inl u ↦ inr (rearranged-in h (r.0 ++ r.1) f r.3 (in-left f r.0 r.1 u))
      | inr (inl u) ↦ inl u
      | inr (inr u) ↦ inr (rearranged-in h (r.0 ++ r.1) f r.3 (in-right f r.0 r.1 u))
    ]

-- two elements of the shorter list stand in the longer one as before
pub earlier-more : (e x y : Event) (h k : List Event) → Earlier (h ++ k) x y → Earlier (h ++ e ∷ k) x y
earlier-more e x y [] k i = inr i
earlier-more e x y (z ∷ h) k i =
    elim i [
      | inl u ↦ inl (u.0, elim (in-parts y h k u.1) [ inl v ↦ in-left y h (e ∷ k) v | inr v ↦ in-right y h (e ∷ k) (inr v) ])
      | inr u ↦ inr (earlier-more e x y h k u)
    ]

-- what is in front of an element stands before it
pub earlier-before : (e f : Event) (h k : List Event) → In f h → Earlier (h ++ e ∷ k) f e
earlier-before e f [] k i = absurd i
earlier-before e f (x ∷ h) k i =
    elim i [ inl u ↦ inl (sym u, in-right e h (e ∷ k) (inl refl)) | inr u ↦ inr (earlier-before e f h k u) ]

-- no event of a list equals a later one
abbrev pub Distinct : List Event → Type 0
Distinct h = (f : Event) → Earlier h f f → ⊥

-- the first of two that stand in order is an element
pub earlier-first : (h : List Event) (e f : Event) → Earlier h e f → In e h
earlier-first [] e f i = absurd i
earlier-first (x ∷ h) e f i = elim i [ inl u ↦ inl (sym u.0) | inr u ↦ inr (earlier-first h e f u) ]

-- and so is the second
pub earlier-second : (h : List Event) (e f : Event) → Earlier h e f → In f h
earlier-second [] e f i = absurd i
earlier-second (x ∷ h) e f i = elim i [ inl u ↦ inr u.1 | inr u ↦ inr (earlier-second h e f u) ]

-- where no event stands twice, two events stand in one order
pub one-order : (h : List Event) (e f : Event) → Distinct h → Earlier h e f → Earlier h f e → ⊥
one-order [] e f d i j = absurd i
one-order (x ∷ h) e f d i j =
    elim i [
      | inl u ↦ elim j [
        | inl v ↦ d e (inl (u.0, v.1))
        | inr v ↦ d e (inl (u.0, earlier-second h f e v))
      ]
      | inr u ↦ elim j [
        | inl v ↦ d f (inl (v.0, earlier-second h e f u))
        | inr v ↦ one-order h e f (λ y k. d y (inr k)) u v
      ]
    ]

-- an element that stands twice in a list with one more
twice-without : (x f : Event) (h k : List Event) → Earlier (h ++ x ∷ k) f f → Earlier (h ++ k) f f ⊎ ((x ≡ f) × In f (h ++ k))
twice-without x f [] k i = elim i [ inl u ↦ inr u | inr u ↦ inl u ]
twice-without x f (y ∷ h) k i =
    elim i [
      | inl u ↦ elim (in-parts f h (x ∷ k) u.1) [
        | inl v ↦ inl (inl (u.0, in-left f h k v))
        | inr (inl v) ↦ inr (sym v, inl (sym u.0))
        | inr (inr v) ↦ inl (inl (u.0, in-right f h k v))
      ]
      | inr u ↦ elim (twice-without x f h k u) [ inl v ↦ inl (inr v) | inr v ↦ inr (v.0, inr v.1) ]
    ]

-- a rearrangement has no element twice that the list has once
pub twice-before : (h g : List Event) (f : Event) → Rearranged h g → Earlier g f f → Earlier h f f
twice-before [] g f r i = subst (λ (l : List Event). Earlier l f f) r i
twice-before (e ∷ h) g f r i =
    elim (twice-without e f r.0 r.1 (subst (λ (l : List Event). Earlier l f f) r.2 i)) [
      | inl u ↦ inr (twice-before h (r.0 ++ r.1) f r.3 u)
      | inr u ↦ inl (u.0, rearranged-in h (r.0 ++ r.1) f r.3 u.1)
    ]

-- a rearrangement of distinct events has distinct events
pub rearranged-distinct : (h g : List Event) → Rearranged h g → Distinct h → Distinct g
rearranged-distinct h g r d f i = d f (twice-before h g f r i)

-- an element stands before what is behind it
earlier-after : (e f : Event) (h k : List Event) → In f k → Earlier (h ++ e ∷ k) e f
earlier-after e f [] k i = inl (refl, i)
earlier-after e f (x ∷ h) k i = inr (earlier-after e f h k i)

-- an element stands before the one that was put in, or after it
either-side : (e f : Event) (h k : List Event) → In f (h ++ k) → Earlier (h ++ e ∷ k) e f ⊎ Earlier (h ++ e ∷ k) f e
either-side e f h k i =
    elim (in-parts f h k i) [ inl u ↦ inr (earlier-before e f h k u) | inr u ↦ inl (earlier-after e f h k u) ]

-- an element is one of the list with one more
in-more : (e f : Event) (h k : List Event) → In f (h ++ k) → In f (h ++ e ∷ k)
in-more e f h k i = elim (in-parts f h k i) [ inl u ↦ in-left f h (e ∷ k) u | inr u ↦ in-right f h (e ∷ k) (inr u) ]

-- an element of a list is one of each rearrangement
pub in-rearranged : (h g : List Event) (f : Event) → Rearranged h g → In f h → In f g
in-rearranged [] g f r i = absurd i
in-rearranged (e ∷ h) g f r i =
    subst (λ (l : List Event). In f l) (sym r.2)
    (elim i [
      | inl u ↦ in-right f r.0 (e ∷ r.1) (inl u)
      | inr u ↦ in-more e f r.0 r.1 (in-rearranged h (r.0 ++ r.1) f r.3 u)
    ])

-- two elements of a list stand in one of the two orders in each rearrangement
pub either-order : (h g : List Event) → Rearranged h g → (e f : Event) → Earlier h e f → Earlier g e f ⊎ Earlier g f e
either-order [] g r e f i = absurd i
either-order (x ∷ h) g r e f i =
    subst (λ (l : List Event). Earlier l e f ⊎ Earlier l f e) (sym r.2)
    (elim i [
      | inl u ↦ subst (λ (y : Event). Earlier (r.0 ++ x ∷ r.1) y f ⊎ Earlier (r.0 ++ x ∷ r.1) f y) u.0
          (either-side x f r.0 r.1 (in-rearranged h (r.0 ++ r.1) f r.3 u.1))
      | inr u ↦ elim (either-order h (r.0 ++ r.1) r.3 e f u) [
        | inl v ↦ inl (earlier-more x e f r.0 r.1 v)
        | inr v ↦ inr (earlier-more x f e r.0 r.1 v)
      ]
    ])

-- an element that is put in at one place of a list and in front of another
put-in : (e : Event) (b a h : List Event) → Rearranged (b ++ a) h → Rearranged (b ++ e ∷ a) (e ∷ h)
put-in e [] a h r = ([], h, refl, r)
put-in e (x ∷ b) a h r = (e ∷ r.0, r.1, ap (λ l. e ∷ l) r.2, put-in e b a (r.0 ++ r.1) r.3)

-- a list is a rearrangement of each of its rearrangements
pub rearranged-turned : (h g : List Event) → Rearranged h g → Rearranged g h
rearranged-turned [] g r = subst (λ (l : List Event). Rearranged l []) (sym r) refl
rearranged-turned (e ∷ h) g r =
    subst (λ (l : List Event). Rearranged l (e ∷ h)) (sym r.2) (put-in e r.0 r.1 h (rearranged-turned h (r.0 ++ r.1) r.3))
