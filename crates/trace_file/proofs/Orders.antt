-- Which elements of a list stand before which, and lists in which each event acts at an index of its own.
use Rattle.std.proofs.Common.{◌≡◌, ◌⊎◌, inl, inr, List, [], ◌∷◌, ◌++◌, refl, sym, ◌∙◌, subst}
use Rattle.syntax.specs.Lists.{In}
use Rattle.runs.specs.Dependence.{Earlier}
use Rattle.runs.specs.Events.{acting}
use Rattle.runs.specs.declared.event.Event.{Event}
use Rattle.runs.proofs.public.Elements.{Distinct, earlier-more, earlier-before}
use Rattle.runs.proofs.public.Lists.{in-left, in-right, in-parts}

-- no event acts where a later one does
abbrev pub ActsOnce : List Event → Type 0
ActsOnce h = (e f : Event) → Earlier h e f → acting e ≡ acting f → ⊥

-- no event is there twice
pub once-distinct : (h : List Event) → ActsOnce h → Distinct h
once-distinct h d f i = d f f i refl

-- the same holds without one of them
pub once-less : (x : Event) (b a : List Event) → ActsOnce (b ++ x ∷ a) → ActsOnce (b ++ a)
once-less x b a d e f i = d e f (earlier-more x e f b a i)

-- an element stands before what is behind it
pub earlier-after : (e f : Event) (h k : List Event) → In f k → Earlier (h ++ e ∷ k) e f
earlier-after e f [] k i = inl (refl, i)
earlier-after e f (x ∷ h) k i = inr (earlier-after e f h k i)

-- two that stand in order in a list do so in one that goes on from it
pub earlier-left : (x y : Event) (h k : List Event) → Earlier h x y → Earlier (h ++ k) x y
earlier-left x y [] k i = absurd i
earlier-left x y (z ∷ h) k i = elim i [ inl u ↦ inl (u.0, in-left y h k u.1) | inr u ↦ inr (earlier-left x y h k u) ]

-- two that stand in order: both are others than one element, or the first is that one, or the second is
pub earlier-parts : (e x y : Event) (b a : List Event) → Earlier (b ++ e ∷ a) x y →
    Earlier (b ++ a) x y ⊎ ((e ≡ x) × In y a) ⊎ ((y ≡ e) × In x b)
earlier-parts e x y [] a i = elim i [ inl u ↦ inr (inl u) | inr u ↦ inl u ]
earlier-parts e x y (z ∷ b) a i =
    elim i [
      | inl u ↦ elim (in-parts y b (e ∷ a) u.1) [
        | inl v ↦ inl (inl (u.0, in-left y b a v))
        | inr (inl v) ↦ inr (inr (v, inl (sym u.0)))
        | inr (inr v) ↦ inl (inl (u.0, in-right y b a v))
      ]
      | inr u ↦ elim (earlier-parts e x y b a u) [
        | inl v ↦ inl (inr v)
        | inr (inl v) ↦ inr (inl v)
        | inr (inr v) ↦ inr (inr (v.0, inr v.1))
      ]
    ]

-- two others than one element stand in order without it
pub earlier-less : (e x y : Event) (b a : List Event) → (x ≡ e → ⊥) → (y ≡ e → ⊥) → Earlier (b ++ e ∷ a) x y → Earlier (b ++ a) x y
earlier-less e x y b a n m i =
    elim (earlier-parts e x y b a i) [ inl u ↦ u | inr (inl u) ↦ absurd (n (sym u.0)) | inr (inr u) ↦ absurd (m u.0) ]

-- another element is there without one
pub in-less : (e x : Event) (b a : List Event) → (x ≡ e → ⊥) → In x (b ++ e ∷ a) → In x (b ++ a)
in-less e x b a n i =
    elim (in-parts x b (e ∷ a) i) [ inl u ↦ in-left x b a u | inr (inl u) ↦ absurd (n u) | inr (inr u) ↦ in-right x b a u ]

-- an element is one of the list with one more
pub in-more : (e x : Event) (b a : List Event) → In x (b ++ a) → In x (b ++ e ∷ a)
in-more e x b a i = elim (in-parts x b a i) [ inl u ↦ in-left x b (e ∷ a) u | inr u ↦ in-right x b (e ∷ a) (inr u) ]

-- where no event is there twice, those beside one are others
pub other-than : (e x : Event) (b a : List Event) → Distinct (b ++ e ∷ a) → In x (b ++ a) → x ≡ e → ⊥
other-than e x b a d i is =
    elim (in-parts x b a i) [
      | inl u ↦ d e (earlier-before e e b a (subst (λ (z : Event). In z b) is u))
      | inr u ↦ d e (earlier-after e e b a (subst (λ (z : Event). In z a) is u))
    ]

-- events of one acting address are one
pub same-acting : (h : List Event) (e f : Event) → ActsOnce h → In e h → In f h → acting e ≡ acting f → e ≡ f
same-acting [] e f d i j s = absurd i
same-acting (x ∷ h) e f d i j s =
    elim i [
      | inl u ↦ elim j [
        | inl v ↦ u ∙ sym v
        | inr v ↦ absurd (d e f (inl (sym u, v)) s)
      ]
      | inr u ↦ elim j [
        | inl v ↦ absurd (d f e (inl (sym v, u)) (sym s))
        | inr v ↦ same-acting h e f (λ p q k. d p q (inr k)) u v s
      ]
    ]
