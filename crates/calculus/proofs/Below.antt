-- What a part of a place says of the answer there.
use Rattle.std.proofs.Common.{◌≡◌, ℕ, ◌*◌, ◌/◌, ◌%◌, ◌==◌, ◌&&◌, [], ◌∷◌, true, false, cond, Option, Some, None, refl, ap, ◌∙◌, arith}
use Rattle.std.proofs.lemmas.Bool.Decides.{Decides-eqb, Decides-and, Decides-like}
use Rattle.address.specs.declared.Entry.TheVariants.{Ordered, Branch}
use Rattle.runs.specs.Moves.{Place}
use Rattle.runs.specs.internal.EventLaws.{decided}
use Rattle.runs.specs.ByPlace.{if_here, if_act, if_child, if_branch}
use Rattle.runs.specs.internal.After.{Answer}
use Rattle.runs.specs.internal.Below.{below_child, below_branch, is_act, is_here}

-- an answer at the command's own place
pub if_here_is : (a : Place) (answer : Answer) → if_here a answer ≡ cond (is_here a) answer None
if_here_is [] answer = refl
if_here_is (x ∷ a) answer = refl

-- an answer at an act
pub if_act_is : (n : ℕ) (a : Place) (answer : Answer) → if_act n a answer ≡ cond (is_act n a) answer None
if_act_is n [] answer = refl
if_act_is n (Ordered i ∷ []) answer = refl
if_act_is n (Ordered i ∷ x ∷ a) answer = refl
if_act_is n (Branch i ∷ a) answer = refl

-- the child's answer at a place below it
below : (Place → Answer) → Option Place → Answer → Answer
below child None rest = rest
below child (Some b) rest = child b

if_child_is : (n : ℕ) (a : Place) (child : Place → Answer) → if_child n a child ≡ below child (below_child n a) None
unfolding below
if_child_is n [] child = refl
if_child_is n (Ordered i ∷ a) child =
    elim (i == n) as (λ b. cond b (child a) None ≡ below child (cond b (Some a) None) None) [ true ↦ refl | false ↦ refl ]
if_child_is n (Branch i ∷ a) child = refl

pub if_child_found : (n : ℕ) (a b : Place) (child : Place → Answer) → below_child n a ≡ Some b → if_child n a child ≡ child b
unfolding below
if_child_found n a b child h = if_child_is n a child ∙ ap (λ o. below child o None) h

pub if_child_none : (n : ℕ) (a : Place) (child : Place → Answer) → below_child n a ≡ None → if_child n a child ≡ None
unfolding below
if_child_none n a child h = if_child_is n a child ∙ ap (λ o. below child o None) h

if_branch_is : (n : ℕ) (a : Place) (child : Place → Answer) (rest : Answer) → if_branch n a child rest ≡ below child (below_branch n a) rest
unfolding below
if_branch_is n [] child rest = refl
if_branch_is n (Ordered i ∷ a) child rest = refl
if_branch_is n (Branch i ∷ a) child rest =
    elim (i == n) as (λ b. cond b (child a) rest ≡ below child (cond b (Some a) None) rest) [ true ↦ refl | false ↦ refl ]

pub if_branch_found : (n : ℕ) (a b : Place) (child : Place → Answer) (rest : Answer) → below_branch n a ≡ Some b → if_branch n a child rest ≡ child b
unfolding below
if_branch_found n a b child rest h = if_branch_is n a child rest ∙ ap (λ o. below child o rest) h

pub if_branch_none : (n : ℕ) (a : Place) (child : Place → Answer) (rest : Answer) → below_branch n a ≡ None → if_branch n a child rest ≡ rest
unfolding below
if_branch_none n a child rest h = if_branch_is n a child rest ∙ ap (λ o. below child o rest) h

-- an even number is twice its half
pub even_half : (i k : ℕ) → ((i % 2 == 0) && (i / 2 == k)) ≡ (i == 2 * k)
even_half i k =
    decided ((i % 2 == 0) && (i / 2 == k)) (i == 2 * k) (i ≡ 2 * k)
    (Decides-like ((i % 2 == 0) && (i / 2 == k)) (λ h. let p = h.0 in let q = h.1 in omega arith) (λ (h : i ≡ 2 * k). (omega arith, omega arith))
    (Decides-and (i % 2 == 0) (i / 2 == k) (Decides-eqb (i % 2) 0) (Decides-eqb (i / 2) k)))
    (Decides-eqb i (2 * k))
