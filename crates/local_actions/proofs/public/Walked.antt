-- What is listed of a tidy process is what is left of it offers.
use Rattle.std.proofs.Common.{◌≡◌, ◌↔◌, ℕ, zero, suc, ◌+◌, ◌*◌, List, [], ◌∷◌, ◌++◌, Bool, true, false, ◌&&◌, cond, Option, Some, None, refl, sym, ap, ap₂, ◌∙◌, subst, true≢false}
use Rattle.address.specs.declared.Entry.TheVariants.{Ordered, Branch}
use Rattle.syntax.specs.Lists.{In}
use Rattle.system.specs.Expression.{Store, Expression}
use Rattle.system.specs.Residual.{Residual, done, closing, within, along}
use Rattle.runs.specs.InOrder.{InOrder}
use Rattle.runs.specs.internal.After.{is_done}
use Rattle.process_tree.specs.Code.{Code}
use Rattle.process_tree.specs.Remaining.{Received, with_value, puts, again, residual, residual_arms, remaining, remaining_sequence, remaining_parallel}
use Rattle.process_tree.specs.Proc.{waiting, holding, past, Proc, idle, stopped, once, sender, fresh, turn, ended_at_once, ended, untested, skipped, took, unopened, entered, closed, sequence, parallel, drained, Procs, no_procs, proc, finished, all_finished}
use Rattle.process_tree.specs.Tidy.{any_moved, last_moved, Tidy, TidyInTurn, TidySideBySide}
use Rattle.process_tree.specs.internal.Received.{puts_guard}
use Rattle.process_tree.proofs.public.Formed.{finished-left, left-formed}
use Rattle.process_tree.proofs.public.Puts.{puts-once, puts-sender, puts-again, puts-test, puts-choose}
use Rattle.local_actions.specs.Actions.{Offered, OffersExactly, Precedes}
use Rattle.local_actions.specs.internal.Listed.{behind, again_at, actions_of_residual, Listing, nothing, at_work, one_after, both, listed, listed_sequence, listed_parallel}
use Rattle.local_actions.specs.Walk.{Walk, below}
use Rattle.local_actions.specs.internal.Walk.{lists}
use Rattle.local_actions.specs.declared.action.LocalAction.{LocalAction}
use Rattle.local_actions.proofs.public.Exactly.{state, exactly}
use Rattle.local_actions.proofs.PlaceOrder.{in-order}

-- what is listed, and whether it is over
abbrev listing : List LocalAction → Bool → Listing
listing rs b = record { actions = rs; over = b }

-- a sequence offers what its child does, or the rest where that is done
within-actions_of_residual : (s : Store) (i : ℕ) (r rest : Residual) → actions_of_residual s (within i r rest) ≡ cond (is_done r) (actions_of_residual s rest) (behind (Ordered i) (actions_of_residual s r))
within-actions_of_residual s i done rest = refl
within-actions_of_residual s i r rest = refl

-- a parallel what its branch does, and the rest
along-actions_of_residual : (s : Store) (k : ℕ) (r rest : Residual) → actions_of_residual s (along k r rest) ≡ behind (Branch k) (actions_of_residual s r) ++ actions_of_residual s rest
along-actions_of_residual s k done rest = refl
along-actions_of_residual s k r rest = refl

-- so they are listed
after-is : (s : Store) (i : ℕ) (r rest : Residual) (b c : Bool) → is_done r ≡ b
    → one_after i (listing (actions_of_residual s r) b) (listing (actions_of_residual s rest) c) ≡ listing (actions_of_residual s (within i r rest)) (b && c)
after-is s i r rest true c e =
    ap (λ l. listing l c) (sym (within-actions_of_residual s i r rest ∙ ap (λ b. cond b (actions_of_residual s rest) (behind (Ordered i) (actions_of_residual s r))) e))
after-is s i r rest false c e =
    ap (λ l. listing l false) (sym (within-actions_of_residual s i r rest ∙ ap (λ b. cond b (actions_of_residual s rest) (behind (Ordered i) (actions_of_residual s r))) e))

and-false : (b : Bool) → (b && false) ≡ false
and-false true = refl
and-false false = refl

and-true : (b : Bool) → (b && true) ≡ b
and-true true = refl
and-true false = refl

-- a loop
again-actions_of_residual : (s : Store) (n : ℕ) (g : Option Expression) (r : Residual) → actions_of_residual s (again n g r) ≡ again_at s n g
again-actions_of_residual s n None r = refl
again-actions_of_residual s n (Some e) r = refl

puts-again-actions_of_residual : (s : Store) (env : Received) (n : ℕ) (g : Option Expression) (c : Code) → again_at s n (puts_guard env g) ≡ actions_of_residual s (puts env (again n g (residual c)))
puts-again-actions_of_residual s env n g c = sym (ap (actions_of_residual s) (puts-again env n g (residual c)) ∙ again-actions_of_residual s n (puts_guard env g) (puts env (residual c)))

-- what is listed of a child that is finished only where it is over
over-is : (b c : Bool) → (b ≡ false → c ≡ false) → c ≡ true → b ≡ true
over-is true c h e = refl
over-is false c h e = absurd (true≢false (sym e ∙ h refl))

module _ (s : Store) where
  mutual
    pub walked : (p : Proc) → Tidy p → (env : Received) → listed s env p ≡ listing (actions_of_residual s (remaining env p)) (finished p)
    walked idle t env = refl
    walked stopped t env = refl
    walked (once o true) t env = refl
    walked (once o false) t env = ap at_work (sym (ap (actions_of_residual s) (puts-once env o)))
    walked (sender x waiting) t env = ap at_work (sym (ap (actions_of_residual s) (puts-sender env x)))
    walked (sender x holding) t env = refl
    walked (sender x past) t env = refl
    walked (fresh g c) t env = ap at_work (puts-again-actions_of_residual s env 0 g c)
    walked (turn g c n q) t env =
        ap₂ (λ (x y : Listing). one_after (2 * n + 1) x y) (walked q t env) (ap at_work (puts-again-actions_of_residual s env (n + 1) g c))
        ∙ after-is s (2 * n + 1) (remaining env q) (puts env (again (n + 1) g (residual c))) (finished q) false (finished-left q env)
        ∙ ap (listing (actions_of_residual s (remaining env (turn g c n q)))) (and-false (finished q))
    walked (ended_at_once g c) t env = refl
    walked (ended g c n q) t env = refl
    walked (untested d cs) t env = ap at_work (sym (ap (actions_of_residual s) (puts-test env d (residual_arms cs))))
    walked (skipped d cs) t env = refl
    walked (took d cs j q) t env =
        ap (λ (x : Listing). one_after 1 x nothing) (walked q t env)
        ∙ after-is s 1 (remaining env q) done (finished q) true (finished-left q env)
        ∙ ap (listing (actions_of_residual s (remaining env (took d cs j q)))) (and-true (finished q))
    walked (unopened ds cs) t env = ap at_work (sym (ap (actions_of_residual s) (puts-choose env ds (residual_arms cs))))
    walked (entered ds cs c v q) t env =
        ap (λ (x : Listing). one_after 1 x (at_work (actions_of_residual s (closing c)))) (walked q t (with_value c v env))
        ∙ after-is s 1 (remaining (with_value c v env) q) (closing c) (finished q) false (finished-left q (with_value c v env))
        ∙ ap (listing (actions_of_residual s (remaining env (entered ds cs c v q)))) (and-false (finished q))
    walked (closed ds cs c v q) t env = refl
    walked (sequence ps) t env = skipping ps t env 0 ∙ walked-sequence ps t env 0
    walked (parallel ps) t env = walked-parallel ps t env 0
    walked (drained c n) t env = refl

    -- all before the last that has moved are finished
    skipping : (ps : Procs) → TidyInTurn ps → (env : Received) (n : ℕ) → listed_sequence s env (last_moved ps) n ps ≡ listed_sequence s env zero n ps
    skipping no_procs t env n = refl
    skipping (proc p ps) t env n =
        elim (any_moved ps) as (λ b. any_moved ps ≡ b → listed_sequence s env (cond b (suc (last_moved ps)) zero) n (proc p ps) ≡ listed_sequence s env zero n (proc p ps)) [
          | true ↦ λ e. skipping ps t.1 env (n + 1)
              ∙ sym (ap (λ b. cond b (listed_sequence s env zero (n + 1) ps) (at_work (behind (Ordered n) (listed s env p).actions)))
              (ap (λ (x : Listing). x.over) (walked p t.0 env) ∙ over-is (finished p) (any_moved ps) t.2 e))
          | false ↦ λ e. refl
        ] refl

    walked-sequence : (ps : Procs) → TidyInTurn ps → (env : Received) (n : ℕ) → listed_sequence s env zero n ps ≡ listing (actions_of_residual s (remaining_sequence env n ps)) (all_finished ps)
    walked-sequence no_procs t env n = refl
    walked-sequence (proc p ps) t env n =
        ap₂ (λ (x y : Listing). one_after n x y) (walked p t.0 env) (walked-sequence ps t.1 env (n + 1))
        ∙ after-is s n (remaining env p) (remaining_sequence env (n + 1) ps) (finished p) (all_finished ps) (finished-left p env)

    walked-parallel : (ps : Procs) → TidySideBySide ps → (env : Received) (n : ℕ) → listed_parallel s env n ps ≡ listing (actions_of_residual s (remaining_parallel env n ps)) (all_finished ps)
    walked-parallel no_procs t env n = refl
    walked-parallel (proc p ps) t env n =
        ap₂ (λ (x y : Listing). both n x y) (walked p t.0 env) (walked-parallel ps t.1 env (n + 1))
        ∙ ap (λ l. listing l (finished p && all_finished ps)) (sym (along-actions_of_residual s n (remaining env p) (remaining_parallel env (n + 1) ps)))

  -- of a tidy process that stands alone exactly what is left of it offers is listed
  pub offers-exactly : (p : Proc) (rs : List LocalAction) → Tidy p → rs ≡ (listed s [] p).actions → OffersExactly (state (remaining [] p) s) rs
  offers-exactly p rs t e =
      let same : rs ≡ actions_of_residual s (remaining [] p) = e ∙ ap (λ (x : Listing). x.actions) (walked p t []) in
      record {
        formed = left-formed p [];
        exactly = λ x. subst (λ (l : List LocalAction). In x l ↔ Offered (state (remaining [] p) s) x) (sym same) (exactly s (remaining [] p) x);
      }

  -- in the order of their places and arms
  pub offers-in-order : (p : Proc) (rs : List LocalAction) → Tidy p → rs ≡ (listed s [] p).actions → InOrder Precedes rs
  offers-in-order p rs t e =
      subst (λ (l : List LocalAction). InOrder Precedes l) (sym (e ∙ ap (λ (x : Listing). x.actions) (walked p t []))) (in-order s (remaining [] p) (left-formed p []))

-- below the root actions stand where they are
pub below-root : (rs : List LocalAction) → below [] rs ≡ rs
below-root [] = refl
below-root (r ∷ rs) = ap (λ l. r ∷ l) (below-root rs)

-- a walk from the root finds what is listed
pub found-is : (s t : Store) (p q : Proc) (w v : Walk) (rs : List LocalAction) → w ≡ record { place = []; received = []; actions = [] } → v ≡ lists t q w → t ≡ s → q ≡ p → rs ≡ v.actions
    → rs ≡ (listed s [] p).actions
found-is s t p q w v rs e h f g is =
    is ∙ ap (λ (x : Walk). x.actions) (h ∙ (λ i. lists (f i) (g i) (e i))) ∙ below-root (listed s [] p).actions
