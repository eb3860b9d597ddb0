-- The order in which faults are answered.
use Rattle.std.proofs.Common.{◌≡◌, ℕ, Bool, true, false, Option, Some, None, if◌then◌else◌, ◌⊎◌, inl, inr, refl, sym, ◌∙◌, arith}
use Rattle.std.proofs.lemmas.Bool.Decides.{nat_tests}
use Rattle.refusals.specs.Numbers.{types_number}
use Rattle.refusals.specs.Places.{types_offset}
use Rattle.types.specs.Refusal.{is_earlier, goes_before, lesser}
use Rattle.refusals.specs.declared.types.Fault.{Fault}
use Rattle.refusals.specs.declared.types.Fault.TheVariants.{Memory, UnknownName, NameTwice, WrongKind, TooWide, GuardNotOneBit, BadArm, PortMismatch, EnclosedTwice}

earlier_twice : (a : Option ℕ) (m : ℕ) (b : Option ℕ) (n : ℕ) (c : Option ℕ) (k : ℕ)
    → is_earlier a m b n ≡ true → is_earlier b n c k ≡ true → is_earlier a m c k ≡ true
earlier_twice None m b n c k h g = refl
earlier_twice (Some a) m None n c k h g = cc
earlier_twice (Some a) m (Some b) n None k h g = cc
earlier_twice (Some a) m (Some b) n (Some c) k h g = grind (arith, nat_tests)

later_twice : (a : Option ℕ) (m : ℕ) (b : Option ℕ) (n : ℕ) (c : Option ℕ) (k : ℕ)
    → is_earlier a m b n ≡ false → is_earlier b n c k ≡ false → is_earlier a m c k ≡ false
later_twice None m b n c k h g = cc
later_twice (Some a) m None n c k h g = cc
later_twice (Some a) m (Some b) n None k h g = refl
later_twice (Some a) m (Some b) n (Some c) k h g = grind (arith, nat_tests)

-- what goes before what goes before the fault goes before it
pub before_twice : (f g h : Fault) → goes_before f g ≡ true → goes_before g h ≡ true → goes_before f h ≡ true
unfolding goes_before
before_twice f g h = earlier_twice (types_offset f) (types_number f) (types_offset g) (types_number g) (types_offset h) (types_number h)

pub not_before_twice : (f g h : Fault) → goes_before f g ≡ false → goes_before g h ≡ false → goes_before f h ≡ false
unfolding goes_before
not_before_twice f g h = later_twice (types_offset f) (types_number f) (types_offset g) (types_number g) (types_offset h) (types_number h)

-- of three faults it does not matter which two are compared first
pub lesser-lesser : (f g h : Fault) → lesser (lesser f g) h ≡ lesser f (lesser g h)
unfolding lesser
lesser-lesser f g h = by (goes_before g f) (goes_before h g) (goes_before h f) refl refl refl
  where
    by : (x y z : Bool) → goes_before g f ≡ x → goes_before h g ≡ y → goes_before h f ≡ z → lesser (lesser f g) h ≡ lesser f (lesser g h)
    by true true true a b c = simp (a, b, c)
    by true true false a b c = let d = before_twice h g f b a in cc
    by true false true a b c = simp (a, b)
    by true false false a b c = simp (a, b)
    by false true true a b c = simp (a, b, c)
    by false true false a b c = simp (a, b, c)
    by false false true a b c = let d = not_before_twice h g f b a in cc
    by false false false a b c = simp (a, b, c)

both_none : (a : Option ℕ) (m : ℕ) (b : Option ℕ) (n : ℕ) → is_earlier a m b n ≡ true → is_earlier b n a m ≡ true → (a ≡ None) × (b ≡ None)
both_none None m None n h g = (refl, refl)
both_none None m (Some b) n h g = cc
both_none (Some a) m None n h g = cc
both_none (Some a) m (Some b) n h g = absurd (not_both a m b n h g)
  where
    not_both : (a m b n : ℕ) → is_earlier (Some a) m (Some b) n ≡ true → is_earlier (Some b) n (Some a) m ≡ true → ⊥
    not_both a m b n h g = grind (arith, nat_tests)

-- only want of memory has no place
memory_alone : (f : Fault) → types_offset f ≡ None → f ≡ Memory
memory_alone Memory e = refl
memory_alone (UnknownName o) e = cc
memory_alone (NameTwice o) e = cc
memory_alone (WrongKind o) e = cc
memory_alone (TooWide o) e = cc
memory_alone (GuardNotOneBit o) e = cc
memory_alone (BadArm o) e = cc
memory_alone (PortMismatch o) e = cc
memory_alone (EnclosedTwice o) e = cc

before_each_other : (f g : Fault) → goes_before f g ≡ true → goes_before g f ≡ true → f ≡ g
unfolding goes_before
before_each_other f g h k =
    let e = both_none (types_offset f) (types_number f) (types_offset g) (types_number g) h k in
    memory_alone f e.0 ∙ sym (memory_alone g e.1)

pub lesser-same : (f : Fault) → lesser f f ≡ f
unfolding lesser
lesser-same f = elim (goes_before f f) as (λ b. (if b then f else f) ≡ f) [ true ↦ refl | false ↦ refl ]

-- what is answered of two is answered again beside the first
pub lesser-again : (f g : Fault) → lesser (lesser f g) f ≡ lesser f g
unfolding lesser
lesser-again f g = by (goes_before g f) (goes_before f g) refl refl
  where
    by : (x y : Bool) → goes_before g f ≡ x → goes_before f g ≡ y → lesser (lesser f g) f ≡ lesser f g
    by true true a b = let e = before_each_other f g b a in cc
    by true false a b = simp (a, b)
    by false y a b = let e = lesser-same f in simp a e

-- one of two is answered
pub lesser-one : (f g : Fault) → (lesser f g ≡ f) ⊎ (lesser f g ≡ g)
unfolding lesser
lesser-one f g = elim (goes_before g f) as (λ b. ((if b then g else f) ≡ f) ⊎ ((if b then g else f) ≡ g)) [ true ↦ inr refl | false ↦ inl refl ]

-- want of memory is answered before all
pub lesser-memory : (f : Fault) → lesser Memory f ≡ Memory
unfolding lesser goes_before
lesser-memory Memory = refl
lesser-memory (UnknownName o) = refl
lesser-memory (NameTwice o) = refl
lesser-memory (WrongKind o) = refl
lesser-memory (TooWide o) = refl
lesser-memory (GuardNotOneBit o) = refl
lesser-memory (BadArm o) = refl
lesser-memory (PortMismatch o) = refl
lesser-memory (EnclosedTwice o) = refl
