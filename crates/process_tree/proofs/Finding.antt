-- A finder: one down, what is listed there, and up again.
use Rattle.std.proofs.Common.{◌≡◌, List, [], ◌∷◌, ◌++◌, Option, Some, None, MatchOption, refl, sym, ap, ap₂, ◌∙◌}
use Rattle.std.proofs.lemmas.List.{append-nil, append_assoc}
use Rattle.address.specs.declared.Entry.{Entry}
use Rattle.runs.specs.Moves.{Place}
use Rattle.process_tree.specs.declared.finder.Finder.{Finder}
use Rattle.process_tree.specs.declared.offer.Offer.{Offer}
use Rattle.process_tree.specs.internal.Listed.{offer_at, behind, below, added, down, up, without_last}

-- finders with the same parts
pub finder-is : (a b : Place) (xs ys : List Offer) → a ≡ b → xs ≡ ys → ◌≡◌ {A = Finder} (record { entries = a; found = xs }) (record { entries = b; found = ys })
finder-is a b xs ys e f = λ i. record { entries = e i; found = f i }

-- the last is the last
pub last-gone : {X : Type 0} (xs : List X) (x : X) → without_last (xs ++ x ∷ []) ≡ xs
last-gone [] x = refl
last-gone (y ∷ []) x = refl
last-gone (y ∷ z ∷ xs) x = ap (λ l. y ∷ l) (last-gone (z ∷ xs) x)

-- below a place and an entry
pub below-behind : (p : Place) (x : Entry) (rs : List Offer) → below (p ++ x ∷ []) rs ≡ below p (behind x rs)
below-behind p x [] = refl
below-behind p x (r ∷ rs) = ap₂ (λ (a : Place) (l : List Offer). offer_at a r.kind ∷ l) (append_assoc p (x ∷ []) r.place) (below-behind p x rs)

pub below-both : (p : Place) (xs ys : List Offer) → below p (xs ++ ys) ≡ below p xs ++ below p ys
below-both p [] ys = refl
below-both p (x ∷ xs) ys = ap (λ l. offer_at (p ++ x.place) x.kind ∷ l) (below-both p xs ys)

-- down, with more offers, and up again
pub through : (x : Entry) (rs : List Offer) (w : Finder) → up (added rs (down x w)) ≡ added (behind x rs) w
through x rs w = finder-is (without_last (w.entries ++ x ∷ [])) w.entries _ _ (last-gone w.entries x) (ap (λ l. w.found ++ l) (below-behind w.entries x rs))

-- nothing more
pub added-none : (w : Finder) → added [] w ≡ w
added-none w = finder-is w.entries w.entries (w.found ++ []) w.found refl (append-nil w.found)

-- more, and more again
pub added-both : (xs ys : List Offer) (w : Finder) → added ys (added xs w) ≡ added (xs ++ ys) w
added-both xs ys w =
    finder-is w.entries w.entries _ _ refl
    (append_assoc w.found (below w.entries xs) (below w.entries ys) ∙ ap (λ l. w.found ++ l) (sym (below-both w.entries xs ys)))

-- what is left behind the last
pub gone : {X : Type 0} (xs ys : List X) (o : Option X) → MatchOption o ((xs ≡ []) × (ys ≡ [])) (λ last. xs ≡ ys ++ last ∷ []) → ys ≡ without_last xs
gone xs ys None h = h.1 ∙ sym (ap without_last h.0)
gone xs ys (Some x) h = sym (ap without_last h ∙ last-gone ys x)

-- below the root offers stand where they are
pub below-root : (rs : List Offer) → below [] rs ≡ rs
below-root [] = refl
below-root (r ∷ rs) = ap (λ l. r ∷ l) (below-root rs)
