-- What is listed of commands that have made no move, and of children one by one.
use Rattle.std.proofs.Common.{◌≡◌, ℕ, zero, suc, ◌+◌, ◌*◌, ◌<◌, ◌≤◌, List, [], ◌∷◌, ◌++◌, map, length, Bool, true, false, cond, Some, slice_index_or, refl, sym, ap, ap₂, ◌∙◌, arith}
use Rattle.std.proofs.lemmas.Bool.{and_parts}
use Rattle.address.specs.declared.Entry.TheVariants.{Ordered, Branch}
use Rattle.system.specs.Expression.{Store}
use Rattle.runs.proofs.public.Options.{none-some, some-injective}
use Rattle.process_tree.specs.Code.{Codes, no_code, code}
use Rattle.process_tree.specs.Children.{proc_at}
use Rattle.process_tree.specs.Remaining.{Received, with_value}
use Rattle.process_tree.specs.Proc.{waiting, holding, past, Proc, idle, stopped, once, sender, fresh, turn, ended_at_once, ended, untested, skipped, took, unopened, entered, closed, sequence, parallel, drained, Procs, no_procs, proc, started, all_started}
use Rattle.process_tree.specs.Tidy.{last_moved}
use Rattle.process_tree.specs.Translation.{row_of}
use Rattle.process_tree.specs.View.{code_view}
use Rattle.process_tree.specs.declared.code.Code.{Code}
use Rattle.process_tree.proofs.public.Tidy.{all-unmoved}
use Rattle.local_actions.specs.internal.Listed.{behind, Listing, nothing, at_work, one_after, both, listed, listed_sequence, listed_parallel}
use Rattle.local_actions.specs.declared.action.LocalAction.{LocalAction}

-- what is not finished is not finished
not-over : {A : Type 0} → false ≡ true → A
not-over e = cc

after-nothing : (i : ℕ) (x rest : Listing) → (rest.over ≡ true → rest.actions ≡ []) → (one_after i x rest).over ≡ true → (one_after i x rest).actions ≡ []
after-nothing i x rest h e = pick x.over h e
  where
    pick : (b : Bool) → (rest.over ≡ true → rest.actions ≡ []) → (cond b rest (at_work (behind (Ordered i) x.actions))).over ≡ true
        → (cond b rest (at_work (behind (Ordered i) x.actions))).actions ≡ []
    pick true h e = h e
    pick false h e = not-over e

both-nothing : (k : ℕ) (x rest : Listing) → (x.over ≡ true → x.actions ≡ []) → (rest.over ≡ true → rest.actions ≡ []) → (both k x rest).over ≡ true → (both k x rest).actions ≡ []
both-nothing k x rest h g e =
    let parts = and_parts x.over rest.over e in
    ap₂ (λ (a b : List LocalAction). behind (Branch k) a ++ b) (h parts.0) (g parts.1)

mutual
  -- nothing is listed of what is finished
  pub over-nothing : (s : Store) (env : Received) (p : Proc) → (listed s env p).over ≡ true → (listed s env p).actions ≡ []
  over-nothing s env idle e = refl
  over-nothing s env stopped e = not-over e
  over-nothing s env (once o true) e = refl
  over-nothing s env (once o false) e = not-over e
  over-nothing s env (sender x waiting) e = not-over e
  over-nothing s env (sender x holding) e = not-over e
  over-nothing s env (sender x past) e = refl
  over-nothing s env (fresh g c) e = not-over e
  over-nothing s env (turn g c n q) e = after-nothing (2 * n + 1) (listed s env q) _ (λ h. not-over h) e
  over-nothing s env (ended_at_once g c) e = refl
  over-nothing s env (ended g c n q) e = refl
  over-nothing s env (untested d cs) e = not-over e
  over-nothing s env (skipped d cs) e = refl
  over-nothing s env (took d cs j q) e = after-nothing 1 (listed s env q) nothing (λ h. refl) e
  over-nothing s env (unopened ds cs) e = not-over e
  over-nothing s env (entered ds cs c v q) e = after-nothing 1 (listed s (with_value c v env) q) _ (λ h. not-over h) e
  over-nothing s env (closed ds cs c v q) e = refl
  over-nothing s env (sequence ps) e = sequence-nothing s env ps (last_moved ps) 0 e
  over-nothing s env (parallel ps) e = parallel-nothing s env ps 0 e
  over-nothing s env (drained c n) e = not-over e

  sequence-nothing : (s : Store) (env : Received) (ps : Procs) (k n : ℕ) → (listed_sequence s env k n ps).over ≡ true → (listed_sequence s env k n ps).actions ≡ []
  sequence-nothing s env no_procs zero n e = refl
  sequence-nothing s env no_procs (suc k) n e = refl
  sequence-nothing s env (proc p ps) zero n e =
      after-nothing n (listed s env p) (listed_sequence s env zero (n + 1) ps) (λ h. sequence-nothing s env ps zero (n + 1) h) e
  sequence-nothing s env (proc p ps) (suc k) n e = sequence-nothing s env ps k (n + 1) e

  parallel-nothing : (s : Store) (env : Received) (ps : Procs) (n : ℕ) → (listed_parallel s env n ps).over ≡ true → (listed_parallel s env n ps).actions ≡ []
  parallel-nothing s env no_procs n e = refl
  parallel-nothing s env (proc p ps) n e =
      both-nothing n (listed s env p) (listed_parallel s env (n + 1) ps) (over-nothing s env p) (parallel-nothing s env ps (n + 1)) e

-- child k of a sequence, or what comes after it
pub listed-step : (s : Store) (env : Received) (ps : Procs) (k n m : ℕ) (p : Proc) → proc_at ps k ≡ Some p → m ≡ n + k
    → listed_sequence s env k n ps ≡ one_after m (listed s env p) (listed_sequence s env (suc k) n ps)
listed-step s env no_procs k n m p h e = none-some p h
listed-step s env (proc q ps) zero n m p h e =
    ap₂ (λ j (x : Proc). one_after j (listed s env x) (listed_sequence s env zero (n + 1) ps)) (sym (let i : m ≡ n = omega arith in i)) (some-injective q p h)
listed-step s env (proc q ps) (suc k) n m p h e = listed-step s env ps k (n + 1) m p h (omega arith)

-- a child that is finished is passed
pub step-over : (s : Store) (env : Received) (ps : Procs) (k m : ℕ) (p : Proc) → proc_at ps k ≡ Some p → m ≡ suc k → (listed s env p).over ≡ true
    → listed_sequence s env m 0 ps ≡ listed_sequence s env k 0 ps
step-over s env ps k m p h n e =
    ap (λ j. listed_sequence s env j 0 ps) n
    ∙ sym (listed-step s env ps k 0 k p h (omega arith)
    ∙ ap (λ b. cond b (listed_sequence s env (suc k) 0 ps) (at_work (behind (Ordered k) (listed s env p).actions))) e)

-- one that is not is at work
pub step-here : (s : Store) (env : Received) (ps : Procs) (k : ℕ) (p : Proc) → proc_at ps k ≡ Some p → (listed s env p).over ≡ false
    → listed_sequence s env k 0 ps ≡ at_work (behind (Ordered k) (listed s env p).actions)
step-here s env ps k p h e =
    listed-step s env ps k 0 k p h (omega arith)
    ∙ ap (λ b. cond b (listed_sequence s env (suc k) 0 ps) (at_work (behind (Ordered k) (listed s env p).actions))) e

-- of commands before their first move none has made one
pub none-last : (cs : Codes) → last_moved (all_started cs) ≡ 0
none-last no_code = refl
none-last (code c cs) = ap (λ b. cond b (suc (last_moved (all_started cs))) 0) (all-unmoved cs)

-- the child of a row of commands
pub fresh-at : (cs : List Code) (i : ℕ) (c : Code) → i < length cs → c ≡ slice_index_or cs i c → proc_at (all_started (row_of (map code_view cs))) i ≡ Some (started (code_view c))
fresh-at [] i c l e = absurd (omega (arith, l))
fresh-at (d ∷ cs) zero c l e = ap (λ (x : Code). Some (started (code_view x))) (sym e)
fresh-at (d ∷ cs) (suc i) c l e = fresh-at cs i c (omega (arith, l)) e

-- there is none past the last
pub fresh-past : (s : Store) (env : Received) (cs : List Code) (k n : ℕ) → length cs ≤ k → listed_sequence s env k n (all_started (row_of (map code_view cs))) ≡ nothing
fresh-past s env [] zero n l = refl
fresh-past s env [] (suc k) n l = refl
fresh-past s env (c ∷ cs) zero n l = absurd (omega (arith, l))
fresh-past s env (c ∷ cs) (suc k) n l = fresh-past s env cs k (n + 1) (omega (arith, l))
