-- Lists of kinds: which stand in which.
use Rattle.std.proofs.Common.{◌≡◌, Bool, true, false, not, ◌&&◌, ◌||◌, List, [], ◌∷◌, ◌++◌, refl, sym, ◌∙◌, ap, inl, inr, ◌⊎◌}
use Rattle.std.proofs.lemmas.Bool.{false≢true}
use denote.Enum.Bare.{same_true}
use Rattle.lexer.specs.contracts.token.Kind.{the_type}
use Rattle.lexer.specs.declared.token.Kind.{Kind}
use Rattle.parser.specs.Input.{same_kind, is_one_of}

-- each of the first kinds is one of the others
abbrev pub all_in : List Kind → List Kind → Bool
all_in [] others = true
all_in (kind ∷ kinds) others = is_one_of others kind && all_in kinds others

-- none of the first kinds is one of the others
abbrev pub none_in : List Kind → List Kind → Bool
none_in [] others = true
none_in (kind ∷ kinds) others = not (is_one_of others kind) && none_in kinds others

pub same : (a b : Kind) → same_kind a b ≡ true → a ≡ b
unfolding same_kind
same a b e = same_true the_type tt a b e

and_true : (a b : Bool) → a && b ≡ true → (a ≡ true) × (b ≡ true)
and_true true b e = (refl, e)
and_true false b e = absurd (false≢true e)

or_true : (a b : Bool) → a || b ≡ true → (a ≡ true) ⊎ (b ≡ true)
or_true true b e = inl refl
or_true false b e = inr e

or_false : (a b : Bool) → a || b ≡ false → (a ≡ false) × (b ≡ false)
or_false true b e = absurd (false≢true (sym e))
or_false false b e = (refl, e)

not_true : (a : Bool) → not a ≡ true → a ≡ false
not_true true e = absurd (false≢true e)
not_true false e = refl

from_false : (a : Bool) → (a ≡ true → ⊥) → a ≡ false
from_false true no_way = absurd (no_way refl)
from_false false no_way = refl

pub member : (kinds others : List Kind) (kind : Kind) → all_in kinds others ≡ true → is_one_of kinds kind ≡ true → is_one_of others kind ≡ true
member [] others kind all e = absurd (false≢true e)
member (first ∷ kinds) others kind all e =
    let parts = and_true (is_one_of others first) (all_in kinds others) all in
    elim (or_true (same_kind kind first) (is_one_of kinds kind) e) [
      | inl is ↦ ap (is_one_of others) (same kind first is) ∙ parts.0
      | inr rest ↦ member kinds others kind parts.1 rest
    ]

pub no_member : (kinds others : List Kind) (kind : Kind) → all_in kinds others ≡ true → is_one_of others kind ≡ false → is_one_of kinds kind ≡ false
no_member kinds others kind all e =
    from_false (is_one_of kinds kind) (λ is. false≢true (sym e ∙ member kinds others kind all is))

pub stranger : (kinds others : List Kind) (kind : Kind) → none_in kinds others ≡ true → is_one_of kinds kind ≡ true → is_one_of others kind ≡ false
stranger [] others kind none e = absurd (false≢true e)
stranger (first ∷ kinds) others kind none e =
    let parts = and_true (not (is_one_of others first)) (none_in kinds others) none in
    elim (or_true (same_kind kind first) (is_one_of kinds kind) e) [
      | inl is ↦ ap (is_one_of others) (same kind first is) ∙ not_true (is_one_of others first) parts.0
      | inr rest ↦ stranger kinds others kind parts.1 rest
    ]

pub in_first : (kinds others : List Kind) (kind : Kind) → is_one_of kinds kind ≡ true → is_one_of (kinds ++ others) kind ≡ true
in_first [] others kind e = absurd (false≢true e)
in_first (first ∷ kinds) others kind e = elim (or_true (same_kind kind first) (is_one_of kinds kind) e) [
  | inl is ↦ ap (λ b. b || is_one_of (kinds ++ others) kind) is
  | inr rest ↦ ap (λ b. same_kind kind first || b) (in_first kinds others kind rest) ∙ or_is_true (same_kind kind first)
]
  where
    or_is_true : (a : Bool) → a || true ≡ true
    or_is_true true = refl
    or_is_true false = refl

pub in_second : (kinds others : List Kind) (kind : Kind) → is_one_of others kind ≡ true → is_one_of (kinds ++ others) kind ≡ true
in_second [] others kind e = e
in_second (first ∷ kinds) others kind e = ap (λ b. same_kind kind first || b) (in_second kinds others kind e) ∙ or_is_true (same_kind kind first)
  where
    or_is_true : (a : Bool) → a || true ≡ true
    or_is_true true = refl
    or_is_true false = refl

pub in_neither : (kinds others : List Kind) (kind : Kind) → is_one_of (kinds ++ others) kind ≡ false → (is_one_of kinds kind ≡ false) × (is_one_of others kind ≡ false)
in_neither [] others kind e = (refl, e)
in_neither (first ∷ kinds) others kind e =
    let parts = or_false (same_kind kind first) (is_one_of (kinds ++ others) kind) e in
    let rest = in_neither kinds others kind parts.1 in
    (ap (λ b. b || is_one_of kinds kind) parts.0 ∙ rest.0, rest.1)

pub apart_nothing : (kinds : List Kind) → none_in kinds [] ≡ true
apart_nothing [] = refl
apart_nothing (kind ∷ kinds) = apart_nothing kinds
