-- What was passed on the way, with one more.
use Rattle.std.proofs.Common.{◌≡◌, ◌≤◌, ℕ, List, [], ◌∷◌, ◌++◌, false, true≢false, Some, None, arith, refl, sym, ap, ◌∙◌}
use Rattle.value.specs.Word.{Word}
use Rattle.system.specs.Residual.{Residual, inside, beside, along, put_residual}
use Rattle.runs.specs.Moves.{Place}
use Rattle.runs.specs.internal.After.{Answer, around, after}
use Rattle.runs.specs.declared.ask.Ask.{Ask}
use Rattle.runs.specs.internal.Below.{below_branch}
use Rattle.calculus.specs.ResidualTree.{residual_layer, residual_of_tree}
use Rattle.calculus.specs.declared.residual_tree.ResidualTree.{ResidualTree}
use Rattle.calculus.specs.declared.residual_tree.ResidualTree.TheVariants.{Inside, Beside, rolls-Inside, rolls-Beside}
use Rattle.calculus.specs.declared.residual_tree.ResidualTree.TheViews.{out-ResidualTree, roll-ResidualTree, roll-out-ResidualTree, sized-Inside, sized-Beside}
use Rattle.calculus.specs.declared.residual_tree.ResidualTree.TheOpen.{ResidualTree-F}
use Rattle.calculus.specs.declared.residual_tree.ResidualTree.TheFolds.{fold-roll-ResidualTree}
use Rattle.calculus.specs.declared.residual_tree.Passed.{Passed}
use Rattle.calculus.specs.declared.residual_tree.Passed.TheVariants.{InOrder, InBranch}
use Rattle.calculus.specs.internal.Passed.{before, behind, goes_on, along_all}
use Rattle.calculus.proofs.residual_tree.ResidualTree.TheLaws.{the_size}
use Rattle.calculus.proofs.Below.{if_branch_none}
use Rattle.calculus.proofs.TreeAnswers.{left_inside, left_beside}

-- the last that was passed stands right before the rest
pub behind_last : (ps : List Passed) (p : Passed) (r : Residual) → behind (ps ++ p ∷ []) r ≡ behind ps (before p r)
behind_last [] p r = refl
behind_last (q ∷ ps) p r = ap (before q) (behind_last ps p r)

-- one step along a sequence: the child is passed with the value put
pub passes_inside : (c : ℕ) (v : Word) (whole : Residual) (old new : List Passed) (left child next got made other : ResidualTree) (n : ℕ)
    → left ≡ Inside n child next → got ≡ next → other ≡ child → residual_of_tree made ≡ put_residual c v (residual_of_tree other) → new ≡ old ++ InOrder n made ∷ []
    → behind old (put_residual c v (residual_of_tree left)) ≡ whole → behind new (put_residual c v (residual_of_tree got)) ≡ whole
passes_inside c v whole old new left child next got made other n es eg eo em en w =
    let f : ResidualTree → Residual = residual_of_tree in
    let put : Residual → Residual = put_residual c v in
    ap (λ z. behind new (put (f z))) eg
    ∙ ap (λ ps. behind ps (put (f next))) en
    ∙ behind_last old (InOrder n made) (put (f next))
    ∙ ap (λ r. behind old (inside n r (put (f next)))) (em ∙ ap (λ z. put (f z)) eo)
    ∙ sym (ap (λ r. behind old (put r)) (left_inside n child next))
    ∙ sym (ap (λ z. behind old (put (f z))) es)
    ∙ w

-- one step along branches
pub passes_beside : (c : ℕ) (v : Word) (whole : Residual) (old new : List Passed) (left child rest got made other : ResidualTree) (n : ℕ)
    → left ≡ Beside n child rest → got ≡ rest → other ≡ child → residual_of_tree made ≡ put_residual c v (residual_of_tree other) → new ≡ old ++ InBranch n made ∷ []
    → behind old (put_residual c v (residual_of_tree left)) ≡ whole → behind new (put_residual c v (residual_of_tree got)) ≡ whole
passes_beside c v whole old new left child rest got made other n es eg eo em en w =
    let f : ResidualTree → Residual = residual_of_tree in
    let put : Residual → Residual = put_residual c v in
    ap (λ z. behind new (put (f z))) eg
    ∙ ap (λ ps. behind ps (put (f rest))) en
    ∙ behind_last old (InBranch n made) (put (f rest))
    ∙ ap (λ r. behind old (beside n r (put (f rest)))) (em ∙ ap (λ z. put (f z)) eo)
    ∙ sym (ap (λ r. behind old (put r)) (left_beside n child rest))
    ∙ sym (ap (λ z. behind old (put (f z))) es)
    ∙ w

-- what comes next is no larger than the whole
pub next_fits : (k : ℕ) (left child next got : ResidualTree) (n : ℕ) → left ≡ Inside n child next → got ≡ next → the_size left ≤ k → the_size got ≤ k
next_fits k left child next got n es eg h =
    let whole : the_size left ≡ the_size (Inside n child next) = ap the_size es in
    let part : the_size got ≡ the_size next = ap the_size eg in
    let size = sized-Inside n child next in
    omega arith

-- nor are the other branches
pub rest_fits : (k : ℕ) (left child rest got : ResidualTree) (n : ℕ) → left ≡ Beside n child rest → got ≡ rest → the_size left ≤ k → the_size got ≤ k
rest_fits k left child rest got n es eg h =
    let whole : the_size left ≡ the_size (Beside n child rest) = ap the_size es in
    let part : the_size got ≡ the_size rest = ap the_size eg in
    let size = sized-Beside n child rest in
    omega arith

-- a sequence goes on behind its child
pub inside_goes_on : (left child next : ResidualTree) (n : ℕ) → left ≡ Inside n child next → goes_on (residual_of_tree left) ≡ false → ⊥
inside_goes_on left child next n e h =
    true≢false (sym (ap (λ z. goes_on (residual_of_tree z)) e ∙ ap goes_on (left_inside n child next)) ∙ h)

-- so do branches
pub beside_goes_on : (left child rest : ResidualTree) (n : ℕ) → left ≡ Beside n child rest → goes_on (residual_of_tree left) ≡ false → ⊥
beside_goes_on left child rest n e h =
    true≢false (sym (ap (λ z. goes_on (residual_of_tree z)) e ∙ ap goes_on (left_beside n child rest)) ∙ h)

-- one layer that is neither
layer_ends : (layer : ResidualTree-F ResidualTree) (left : ResidualTree) → left ≡ roll-ResidualTree layer
    → ((n : ℕ) (child next : ResidualTree) → left ≡ Inside n child next → ⊥) → ((n : ℕ) (child rest : ResidualTree) → left ≡ Beside n child rest → ⊥)
    → goes_on (residual_of_tree (roll-ResidualTree layer)) ≡ false
layer_ends ResidualTree-F.Done left e p q = ap goes_on (fold-roll-ResidualTree Residual residual_layer ResidualTree-F.Done)
layer_ends ResidualTree-F.Halted left e p q = ap goes_on (fold-roll-ResidualTree Residual residual_layer ResidualTree-F.Halted)
layer_ends (ResidualTree-F.Inside n child next) left e p q = absurd (p n child next (e ∙ rolls-Inside n child next))
layer_ends (ResidualTree-F.Beside n child rest) left e p q = absurd (q n child rest (e ∙ rolls-Beside n child rest))
layer_ends (ResidualTree-F.Assign x w a) left e p q = ap goes_on (fold-roll-ResidualTree Residual residual_layer (ResidualTree-F.Assign x w a))
layer_ends (ResidualTree-F.Send x w a) left e p q = ap goes_on (fold-roll-ResidualTree Residual residual_layer (ResidualTree-F.Send x w a))
layer_ends (ResidualTree-F.Receive x y) left e p q = ap goes_on (fold-roll-ResidualTree Residual residual_layer (ResidualTree-F.Receive x y))
layer_ends (ResidualTree-F.Sync x) left e p q = ap goes_on (fold-roll-ResidualTree Residual residual_layer (ResidualTree-F.Sync x))
layer_ends (ResidualTree-F.Held x) left e p q = ap goes_on (fold-roll-ResidualTree Residual residual_layer (ResidualTree-F.Held x))
layer_ends (ResidualTree-F.Loop k body) left e p q = ap goes_on (fold-roll-ResidualTree Residual residual_layer (ResidualTree-F.Loop k body))
layer_ends (ResidualTree-F.While k a body) left e p q = ap goes_on (fold-roll-ResidualTree Residual residual_layer (ResidualTree-F.While k a body))
layer_ends (ResidualTree-F.Test d arms) left e p q = ap goes_on (fold-roll-ResidualTree Residual residual_layer (ResidualTree-F.Test d arms))
layer_ends (ResidualTree-F.Choose xs arms) left e p q = ap goes_on (fold-roll-ResidualTree Residual residual_layer (ResidualTree-F.Choose xs arms))
layer_ends (ResidualTree-F.Closing x) left e p q = ap goes_on (fold-roll-ResidualTree Residual residual_layer (ResidualTree-F.Closing x))
layer_ends (ResidualTree-F.Drain x k) left e p q = ap goes_on (fold-roll-ResidualTree Residual residual_layer (ResidualTree-F.Drain x k))

-- what is neither has nothing behind it
pub ends : (left : ResidualTree) → ((n : ℕ) (child next : ResidualTree) → left ≡ Inside n child next → ⊥) → ((n : ℕ) (child rest : ResidualTree) → left ≡ Beside n child rest → ⊥)
    → goes_on (residual_of_tree left) ≡ false
ends left p q =
    let e : left ≡ roll-ResidualTree (out-ResidualTree left) = sym (roll-out-ResidualTree left) in
    ap (λ z. goes_on (residual_of_tree z)) e ∙ layer_ends (out-ResidualTree left) left e p q

-- the last branch that was passed stands right beside the rest
pub along_last : (ps : List (ℕ × ResidualTree)) (p : ℕ × ResidualTree) (r : Residual) → along_all (ps ++ p ∷ []) r ≡ along_all ps (along p.0 (residual_of_tree p.1) r)
along_last [] p r = refl
along_last (q ∷ ps) p r = ap (along q.0 (residual_of_tree q.1)) (along_last ps p r)

-- an answer beside one that was passed, and then beside those before it
around_twice : (f g : Residual → Residual) (x : Answer) → around f (around g x) ≡ around (λ r. f (g r)) x
around_twice f g None = refl
around_twice f g (Some x) = refl

-- one step along branches, past one in which the place is not
pub passes_branch : (k : Ask) (a : Place) (whole : Answer) (old new : List (ℕ × ResidualTree)) (left child rest got made : ResidualTree) (n : ℕ)
    → left ≡ Beside n child rest → got ≡ rest → made ≡ child → new ≡ old ++ (n, made) ∷ [] → below_branch n a ≡ None
    → around (along_all old) (after k (residual_of_tree left) a) ≡ whole → around (along_all new) (after k (residual_of_tree got) a) ≡ whole
passes_branch k a whole old new left child rest got made n es eg em en h w =
    let f : ResidualTree → Residual = residual_of_tree in
    let others : Answer = after k (f rest) a in
    ap (λ z. around (along_all new) (after k (f z) a)) eg
    ∙ ap (λ ps. around (along_all ps) others) (en ∙ ap (λ z. old ++ (n, z) ∷ []) em)
    ∙ (λ i. around (λ r. along_last old (n, child) r i) others)
    ∙ sym (around_twice (along_all old) (λ r. along n (f child) r) others)
    ∙ sym (ap (around (along_all old))
    (if_branch_none n a (λ b. around (λ t. along n t (f rest)) (after k (f child) b)) (around (λ t. along n (f child) t) others) h))
    ∙ sym (ap (λ r. around (along_all old) (after k r a)) (left_beside n child rest))
    ∙ sym (ap (λ z. around (along_all old) (after k (f z) a)) es)
    ∙ w
