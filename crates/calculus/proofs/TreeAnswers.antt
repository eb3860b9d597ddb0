-- What a tree in memory answers, from the answers of its children.
use Rattle.std.proofs.Common.{◌≡◌, ℕ, List, map, slice_get, Option, Some, None, Result, Ok, Err, sym, ap, ◌∙◌}
use Rattle.std.specs.Prelude.{IfOk, MatchResult}
use Rattle.std.proofs.lemmas.Result.{IfOk-weaker}
use Rattle.system.specs.Residual.{Residual, done, inside, beside, within, along, arm_at}
use Rattle.system.specs.Translation.{arms_of}
use Rattle.runs.specs.Moves.{Place}
use Rattle.runs.specs.internal.After.{around, after}
use Rattle.runs.specs.declared.ask.Ask.{Ask}
use Rattle.runs.specs.internal.Below.{below_child, below_branch}
use Rattle.calculus.specs.internal.Meanings.{answer_of}
use Rattle.calculus.specs.declared.residual_tree.ResidualTree.{ResidualTree}
use Rattle.calculus.specs.declared.residual_tree.ResidualTree.TheVariants.{Inside, Beside, rolls-Inside, rolls-Beside}
use Rattle.calculus.specs.declared.residual_tree.ResidualTree.TheOpen.{ResidualTree-F}
use Rattle.calculus.specs.declared.residual_tree.ResidualTree.TheFolds.{fold-roll-ResidualTree}
use Rattle.calculus.specs.declared.moves.Moved.{Moved}
use Rattle.calculus.specs.ResidualTree.{residual_layer, residual_of_tree}
use Rattle.calculus.proofs.Below.{if_child_found, if_branch_found}
use Rattle.calculus.proofs.Lefts.{arm_found, arm_past}

-- what a child in order is to do
pub left_inside : (n : ℕ) (child next : ResidualTree) → residual_of_tree (Inside n child next) ≡ inside n (residual_of_tree child) (residual_of_tree next)
left_inside n child next = ap residual_of_tree (sym (rolls-Inside n child next)) ∙ fold-roll-ResidualTree Residual residual_layer (ResidualTree-F.Inside n child next)

-- what a child in a branch is to do
pub left_beside : (n : ℕ) (child rest : ResidualTree) → residual_of_tree (Beside n child rest) ≡ beside n (residual_of_tree child) (residual_of_tree rest)
left_beside n child rest = ap residual_of_tree (sym (rolls-Beside n child rest)) ∙ fold-roll-ResidualTree Residual residual_layer (ResidualTree-F.Beside n child rest)

-- at a place below a child in order the child answers
pub inside_answers : {E : Type 0} (r : Result (Option Moved) E) (k : Ask) (self child next g h : ResidualTree) (n : ℕ) (a b : Place) (answer : Option Moved)
    → self ≡ Inside n child next → g ≡ child → h ≡ next → Some b ≡ below_child n a → answer_of answer ≡ after k (residual_of_tree g) b
    → IfOk r (λ x. answer_of x ≡ around (λ t. within n t (residual_of_tree h)) (answer_of answer))
    → IfOk r (λ x. answer_of x ≡ after k (residual_of_tree self) a)
inside_answers r k self child next g h n a b answer es eg eh eb ea i =
    let f : ResidualTree → Residual = residual_of_tree in
    let w : Residual → Residual = λ t. within n t (f next) in
    let e : around (λ t. within n t (f h)) (answer_of answer) ≡ after k (f self) a =
    ap (λ z. around (λ t. within n t (f z)) (answer_of answer)) eh
    ∙ ap (around w) (ea ∙ ap (λ z. after k (f z) b) eg)
    ∙ sym (if_child_found n a b (λ c. around w (after k (f child) c)) (sym eb))
    ∙ sym (ap (λ z. after k z a) (left_inside n child next))
    ∙ sym (ap (λ z. after k (f z) a) es) in
    IfOk-weaker r (λ x. answer_of x ≡ around (λ t. within n t (f h)) (answer_of answer)) (λ x. answer_of x ≡ after k (f self) a) (λ x p. p ∙ e) i

-- at a place below a branch the branch answers
pub branch_answers : {E : Type 0} (r : Result (Option Moved) E) (k : Ask) (self child rest g h : ResidualTree) (n : ℕ) (a b : Place) (answer : Option Moved)
    → self ≡ Beside n child rest → g ≡ child → h ≡ rest → Some b ≡ below_branch n a → answer_of answer ≡ after k (residual_of_tree g) b
    → IfOk r (λ x. answer_of x ≡ around (λ t. along n t (residual_of_tree h)) (answer_of answer))
    → IfOk r (λ x. answer_of x ≡ after k (residual_of_tree self) a)
branch_answers r k self child rest g h n a b answer es eg eh eb ea i =
    let f : ResidualTree → Residual = residual_of_tree in
    let w : Residual → Residual = λ t. along n t (f rest) in
    let e : around (λ t. along n t (f h)) (answer_of answer) ≡ after k (f self) a =
    ap (λ z. around (λ t. along n t (f z)) (answer_of answer)) eh
    ∙ ap (around w) (ea ∙ ap (λ z. after k (f z) b) eg)
    ∙ sym (if_branch_found n a b (λ c. around w (after k (f child) c)) (around (λ t. along n (f child) t) (after k (f rest) a)) (sym eb))
    ∙ sym (ap (λ z. after k z a) (left_beside n child rest))
    ∙ sym (ap (λ z. after k (f z) a) es) in
    IfOk-weaker r (λ x. answer_of x ≡ around (λ t. along n t (f h)) (answer_of answer)) (λ x. answer_of x ≡ after k (f self) a) (λ x p. p ∙ e) i

-- a clone of an arm that there is
pub arm_copied : {E : Type 0} (r : Result ResidualTree E) (xs : List ResidualTree) (k : ℕ) (x : ResidualTree) (Q : E → Type 0) → slice_get xs k ≡ Some x
    → MatchResult r (λ made. made ≡ x) Q → IfOk r (λ made. residual_of_tree made ≡ arm_at (arms_of (map residual_of_tree xs) None) k)
arm_copied (Ok made) xs k x Q h e = ap residual_of_tree e ∙ sym (arm_found xs k x h)
arm_copied (Err none) xs k x Q h e = tt

-- nothing past the last arm
pub arm_missed : {E : Type 0} (r : Result ResidualTree E) (xs : List ResidualTree) (k : ℕ) → slice_get xs k ≡ None
    → IfOk r (λ made. residual_of_tree made ≡ done) → IfOk r (λ made. residual_of_tree made ≡ arm_at (arms_of (map residual_of_tree xs) None) k)
arm_missed r xs k h i =
    IfOk-weaker r (λ made. residual_of_tree made ≡ done) (λ made. residual_of_tree made ≡ arm_at (arms_of (map residual_of_tree xs) None) k)
    (λ made p. p ∙ sym (arm_past xs k h)) i
