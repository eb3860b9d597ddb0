-- Moves below a place, and what the forms of a tree offer there.
use Rattle.std.proofs.Common.{◌≡◌, ℕ, List, [], ◌∷◌, ◌++◌, refl, sym, ◌∙◌, ap, append_assoc, map, Result}
use Rattle.std.specs.Prelude.{IfOk}
use Rattle.std.proofs.lemmas.Result.{IfOk-weaker}
use Rattle.address.specs.declared.Entry.{Entry}
use Rattle.address.specs.declared.Entry.TheVariants.{Ordered, Branch}
use Rattle.system.specs.Expression.{Store}
use Rattle.system.specs.Residual.{Residual}
use Rattle.runs.specs.Moves.{Place}
use Rattle.runs.specs.Events.{Located, at}
use Rattle.runs.specs.internal.AllowedEvents.{behind, offers, events_among, allowed_events}
use Rattle.calculus.specs.ResidualTree.{residual_of_tree, state_of}
use Rattle.calculus.specs.internal.Walk.{located_of, below}
use Rattle.calculus.specs.declared.plain.Plain.{Plain}
use Rattle.calculus.specs.declared.walk.Offer.{Offer}
use Rattle.calculus.specs.declared.residual_tree.ResidualTree.{ResidualTree}
use Rattle.calculus.specs.declared.residual_tree.ResidualTree.TheVariants.{Inside, Beside}
use Rattle.calculus.proofs.TreeAnswers.{left_inside, left_beside}

pub below_root : (ls : List Located) → below [] ls ≡ ls
below_root [] = refl
below_root (l ∷ ls) = ap (λ (ks : List Located). l ∷ ks) (below_root ls)

pub below_join : (p : Place) (ls ks : List Located) → below p (ls ++ ks) ≡ below p ls ++ below p ks
below_join p [] ks = refl
below_join p (l ∷ ls) ks = ap (λ (os : List Located). at (p ++ l.place) l.move ∷ os) (below_join p ls ks)

place_join : (p : Place) (x : Entry) (a : Place) → (p ++ x ∷ []) ++ a ≡ p ++ x ∷ a
place_join [] x a = refl
place_join (y ∷ p) x a = ap (λ (b : Place). y ∷ b) (place_join p x a)

pub below_entry : (p : Place) (x : Entry) (ls : List Located) → below (p ++ x ∷ []) ls ≡ below p (behind x ls)
below_entry p x [] = refl
below_entry p x (l ∷ ls) = λ i. at (place_join p x l.place i) l.move ∷ below_entry p x ls i

-- what a child in order offers
pub inside_offers : (s : Store) (left child next given : ResidualTree) (n : ℕ) (p inner : Place) (old : List Located)
    → left ≡ Inside n child next → given ≡ child → inner ≡ p ++ Ordered n ∷ []
    → old ++ below inner (offers s (residual_of_tree given)) ≡ old ++ below p (offers s (residual_of_tree left))
inside_offers s left child next given n p inner old es eg ei =
    let f : ResidualTree → Residual = residual_of_tree in
    ap (λ ls. old ++ ls)
    (ap (λ z. below inner (offers s (f z))) eg
    ∙ ap (λ q. below q (offers s (f child))) ei
    ∙ below_entry p (Ordered n) (offers s (f child))
    ∙ ap (λ r. below p (offers s r)) (sym (left_inside n child next))
    ∙ ap (λ z. below p (offers s (f z))) (sym es))

-- what a child in a branch and the other branches offer
pub beside_offers : (s : Store) (left child rest given other : ResidualTree) (n : ℕ) (p inner : Place) (old between : List Located)
    → left ≡ Beside n child rest → given ≡ child → other ≡ rest → inner ≡ p ++ Branch n ∷ []
    → between ≡ old ++ below inner (offers s (residual_of_tree given))
    → between ++ below p (offers s (residual_of_tree other)) ≡ old ++ below p (offers s (residual_of_tree left))
beside_offers s left child rest given other n p inner old between es eg eh ei eb =
    let f : ResidualTree → Residual = residual_of_tree in
    let a : List Located = below p (behind (Branch n) (offers s (f child))) in
    let first : below inner (offers s (f given)) ≡ a =
    ap (λ z. below inner (offers s (f z))) eg
    ∙ ap (λ q. below q (offers s (f child))) ei
    ∙ below_entry p (Branch n) (offers s (f child)) in
    ap (λ ls. ls ++ below p (offers s (f other))) (eb ∙ ap (λ ls. old ++ ls) first)
    ∙ ap (λ z. (old ++ a) ++ below p (offers s (f z))) eh
    ∙ append_assoc old a (below p (offers s (f rest)))
    ∙ ap (λ ls. old ++ ls)
    (sym (below_join p (behind (Branch n) (offers s (f child))) (offers s (f rest)))
    ∙ ap (λ r. below p (offers s r)) (sym (left_beside n child rest))
    ∙ ap (λ z. below p (offers s (f z))) (sym es))

-- what is found below the root are the offers of the whole
pub found_all : (p : Plain) (values : Store) (given : ResidualTree) (root : Place) (none found slice : List Offer)
    → values ≡ p.values.items → given ≡ p.left → root ≡ [] → none ≡ []
    → map located_of found ≡ map located_of none ++ below root (offers values (residual_of_tree given)) → slice ≡ found
    → events_among values (map located_of slice) ≡ allowed_events (state_of p)
found_all p values given root none found slice ev eg er en ef es =
    let all : map located_of slice ≡ offers (state_of p).store (state_of p).residual =
    ap (map located_of) es ∙ ef
    ∙ ap (λ o. map located_of o ++ below root (offers values (residual_of_tree given))) en
    ∙ ap (λ q. below q (offers values (residual_of_tree given))) er
    ∙ below_root (offers values (residual_of_tree given))
    ∙ (λ i. offers (ev i) (residual_of_tree (eg i))) in
    λ i. events_among (ev i) (all i)

-- a result that is one list is an equal one
pub answered_equal : {X E : Type 0} (r : Result X E) (a b : X) → a ≡ b → IfOk r (λ x. x ≡ a) → IfOk r (λ x. x ≡ b)
answered_equal r a b h i = IfOk-weaker r (λ x. x ≡ a) (λ x. x ≡ b) (λ x g. g ∙ h) i
