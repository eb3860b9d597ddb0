-- Kinds that are tried one by one.
use Rattle.std.proofs.Common.{◌≡◌, ◌⊎◌, inl, inr, List, [], ◌∷◌, ◌++◌, refl, sym, subst}
use Rattle.syntax.specs.Lists.{Every, In}
use Rattle.lexer.specs.declared.token.Kind.{Kind}
use Rattle.lexer.specs.declared.token.Token.{Token}
use Rattle.viable_tokens.specs.Viable.{AreSomeOf, AreViable, CanStand}

-- behind others
in_front : {X : Type 0} (x : X) (xs ys : List X) → In x xs → In x (xs ++ ys)
in_front x [] ys is = absurd is
in_front x (y ∷ xs) ys (inl same) = inl same
in_front x (y ∷ xs) ys (inr is) = inr (in_front x xs ys is)

in_last : {X : Type 0} (x : X) (xs : List X) → In x (xs ++ x ∷ [])
in_last x [] = inl refl
in_last x (y ∷ xs) = inr (in_last x xs)

in_two : {X : Type 0} (x : X) (xs : List X) (y : X) → In x (xs ++ y ∷ []) → In x xs ⊎ (x ≡ y)
in_two x [] y (inl same) = inr same
in_two x [] y (inr none) = absurd none
in_two x (z ∷ xs) y (inl same) = inl (inl same)
in_two x (z ∷ xs) y (inr is) = elim (in_two x xs y is) [ inl front ↦ inl (inr front) | inr same ↦ inr same ]

every_push : {X : Type 0} (P : X → Type 0) (xs : List X) (y : X) → Every P xs → P y → Every P (xs ++ y ∷ [])
every_push P [] y all last = (last, tt)
every_push P (x ∷ xs) y (first, all) last = (first, every_push P xs y all last)

-- some of others, with one more behind both
some_both : (kinds others : List Kind) (last : Kind) → AreSomeOf kinds others
    → AreSomeOf (kinds ++ last ∷ []) (others ++ last ∷ [])
some_both [] [] last some = inl (refl, tt)
some_both [] (other ∷ others) last some = inr (some_both [] others last tt)
some_both (kind ∷ kinds) [] last some = absurd some
some_both (kind ∷ kinds) (other ∷ others) last (inl here) = inl (here.0, some_both kinds others last here.1)
some_both (kind ∷ kinds) (other ∷ others) last (inr later) = inr (some_both (kind ∷ kinds) others last later)

-- with one more behind the others alone
some_past : (kinds others : List Kind) (last : Kind) → AreSomeOf kinds others → AreSomeOf kinds (others ++ last ∷ [])
some_past [] others last some = tt
some_past (kind ∷ kinds) [] last some = absurd some
some_past (kind ∷ kinds) (other ∷ others) last (inl here) = inl (here.0, some_past kinds others last here.1)
some_past (kind ∷ kinds) (other ∷ others) last (inr later) = inr (some_past (kind ∷ kinds) others last later)

-- one more that can stand
viable_with : (front : List Token) (among viable : List Kind) (kind : Kind) → AreViable front among viable
    → CanStand front kind → AreViable front (among ++ kind ∷ []) (viable ++ kind ∷ [])
viable_with front among viable kind sifted can = record {
  right = every_push (CanStand front) viable kind sifted.right can;
  every = λ other is stands. elim (in_two other among kind is) [
    | inl before ↦ in_front other viable (kind ∷ []) (sifted.every other before stands)
    | inr same ↦ subst (λ k. In k (viable ++ kind ∷ [])) (sym same) (in_last kind viable)
  ];
  in_order = some_both viable among kind sifted.in_order;
}

pub viable_on : (front : List Token) (kind : Kind) (viable : List Kind) → CanStand front kind
    → (among next : List Kind) → next ≡ among ++ kind ∷ [] → AreViable front among viable
    → AreViable front next (viable ++ kind ∷ [])
viable_on front kind viable can among next is sifted =
    subst (λ all. AreViable front all (viable ++ kind ∷ [])) (sym is) (viable_with front among viable kind sifted can)

-- one more that cannot
viable_without : (front : List Token) (among viable : List Kind) (kind : Kind) → AreViable front among viable
    → (CanStand front kind → ⊥) → AreViable front (among ++ kind ∷ []) viable
viable_without front among viable kind sifted cannot = record {
  right = sifted.right;
  every = λ other is stands. elim (in_two other among kind is) [
    | inl before ↦ sifted.every other before stands
    | inr same ↦ absurd (cannot (subst (CanStand front) same stands))
  ];
  in_order = some_past viable among kind sifted.in_order;
}

pub viable_past : (front : List Token) (kind : Kind) (viable : List Kind) → (CanStand front kind → ⊥)
    → (among next : List Kind) → next ≡ among ++ kind ∷ [] → AreViable front among viable → AreViable front next viable
viable_past front kind viable cannot among next is sifted =
    subst (λ all. AreViable front all viable) (sym is) (viable_without front among viable kind sifted cannot)
