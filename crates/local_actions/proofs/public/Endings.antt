-- What is finished, by the forms of processes and child by child.
use Rattle.std.proofs.Common.{◌≡◌, ℕ, zero, suc, ◌+◌, ◌*◌, ◌<◌, ◌≤◌, min, List, [], ◌∷◌, length, map, Bool, true, false, ◌&&◌, cond, Option, Some, None, slice_get, slice_index_or, refl, sym, ap, ◌∙◌, subst, true≢false, arith, rules}
use Rattle.std.specs.Global.{Box, Vec}
use Rattle.address.specs.declared.Entry.TheVariants.{Ordered}
use Rattle.value.specs.Word.{Word}
use Rattle.system.specs.Expression.{Store, Expression, Decision}
use Rattle.runs.specs.Moves.{Place}
use Rattle.runs.proofs.public.Options.{none-some, some-injective}
use Rattle.process_tree.specs.Children.{proc_at}
use Rattle.process_tree.specs.Code.{Once, Code as MCode, Codes}
use Rattle.process_tree.specs.Remaining.{Received}
use Rattle.process_tree.specs.Proc.{Proc, Procs, no_procs, proc, once, sequence, parallel, took, started, all_started}
use Rattle.process_tree.specs.Tidy.{last_moved}
use Rattle.process_tree.specs.Translation.{row_of}
use Rattle.process_tree.specs.View.{code_view, once_view, proc_view, procs_of, begun_of, turn_of, opened_of}
use Rattle.process_tree.specs.internal.Parts.{turns_view, tested_view, gate_view}
use Rattle.process_tree.specs.declared.code.Code.{Code}
use Rattle.process_tree.specs.declared.code.Once as memory_once
use Rattle.process_tree.specs.declared.code.Row.{Row}
use Rattle.process_tree.specs.declared.proc.Proc as made
use Rattle.process_tree.specs.declared.proc.Gate as made_gate
use Rattle.process_tree.specs.declared.proc.Gate.{Gate}
use Rattle.process_tree.specs.declared.proc.Gate.TheFolds.{the_lemmas}
use Rattle.process_tree.specs.declared.proc.Tested as made_tested
use Rattle.process_tree.specs.declared.proc.Tested.{Tested}
use Rattle.process_tree.specs.declared.proc.Turns as made_turns
use Rattle.process_tree.specs.declared.proc.Turns.{Turns}
use Rattle.local_actions.specs.internal.At.{under}
use Rattle.local_actions.specs.internal.Listed.{behind, Listing, nothing, at_work, one_after, listed, listed_sequence, listed_parallel}
use Rattle.local_actions.specs.internal.Over.{AllOver, HasOver, HasNoneOver, IsReached}
use Rattle.local_actions.proofs.public.Begun.{begun-row, row-is, row-at}
use Rattle.local_actions.proofs.public.OneByOne.{step-here, step-over, fresh-at}
use Rattle.local_actions.proofs.public.PlacedActions.{under-later, under-number, past-all}

-- ---- the forms
once-over : (s : Store) (env : Received) (o : Once) (b : Bool) → b ≡ (listed s env (once o b)).over
once-over s env o true = refl
once-over s env o false = refl

-- behind a child that is finished a loop or an arm goes on
goes-on : (i : ℕ) (x rest : Listing) → rest.over ≡ false → false ≡ (one_after i x rest).over
goes-on i x rest h = pick x.over
  where
    pick : (b : Bool) → false ≡ (cond b rest (at_work (behind (Ordered i) x.actions))).over
    pick true = sym h
    pick false = refl

turn-over : (s : Store) (env : Received) (over : Bool) (g : Option Expression) (c : MCode) (n : ℕ) (q : Proc) → over ≡ (listed s env (turn_of over g c n q)).over
turn-over s env true g c n q = refl
turn-over s env false g c n q = goes-on (2 * n + 1) (listed s env q) _ refl

arm-over : (s : Store) (env : Received) (over : Bool) (ds : List ℕ) (cs : Codes) (c : ℕ) (v : Option Word) (q : Proc) → over ≡ (listed s env (opened_of over ds cs c v q)).over
arm-over s env true ds cs c v q = refl
arm-over s env false ds cs c v q = goes-on 1 _ _ refl

took-over : (x : Listing) → x.over ≡ (one_after 1 x nothing).over
took-over x = pick x.over
  where
    pick : (b : Bool) → b ≡ (cond b nothing (at_work (behind (Ordered 1) x.actions))).over
    pick true = refl
    pick false = refl

-- the same in memory
pub proc-once-over : (s : Store) (env : Received) (p : made.Proc) (o : memory_once.Once) (b : Bool) → p ≡ made.Once o b → b ≡ (listed s env (proc_view p)).over
proc-once-over s env p o b is = once-over s env (once_view o) b ∙ sym (ap (λ (x : Proc). (listed s env x).over) (ap proc_view is ∙ view))
  where
    view : proc_view (made.Once o b) ≡ once (once_view o) b
    view = search (rules, the_lemmas)

pub loop-is-over : (s : Store) (env : Received) (g : Option Expression) (c : MCode) (t : Turns) (n : ℕ) (over : Bool) (q : Box made.Proc) → t ≡ made_turns.Turn n over q
    → over ≡ (listed s env (turns_view t g c)).over
loop-is-over s env g c t n over q is = turn-over s env over g c n (proc_view q.value) ∙ sym (ap (λ (x : Proc). (listed s env x).over) (ap (λ (z : Turns). turns_view z g c) is ∙ view))
  where
    view : turns_view (made_turns.Turn n over q) g c ≡ turn_of over g c n (proc_view q.value)
    view = search (rules, the_lemmas)

pub arms-are-over : (s : Store) (env : Received) (ds : List ℕ) (cs : Codes) (t : Gate) (e : ℕ) (v : Option Word) (over : Bool) (q : Box made.Proc) → t ≡ made_gate.Opened e v over q
    → over ≡ (listed s env (gate_view t ds cs)).over
arms-are-over s env ds cs t e v over q is = arm-over s env over ds cs e v (proc_view q.value) ∙ sym (ap (λ (x : Proc). (listed s env x).over) (ap (λ (z : Gate). gate_view z ds cs) is ∙ view))
  where
    view : gate_view (made_gate.Opened e v over q) ds cs ≡ opened_of over ds cs e v (proc_view q.value)
    view = search (rules, the_lemmas)

pub test-is-over : (s : Store) (env : Received) (d : Decision) (cs : Codes) (t : Tested) (j : ℕ) (q : Box made.Proc) (p : made.Proc) (b : Bool) → t ≡ made_tested.Took j q → p ≡ q.value
    → b ≡ (listed s env (proc_view p)).over → b ≡ (listed s env (tested_view t d cs)).over
test-is-over s env d cs t j q p b is here e =
    e ∙ ap (λ (x : made.Proc). (listed s env (proc_view x)).over) here ∙ took-over (listed s env (proc_view q.value))
    ∙ sym (ap (λ (x : Proc). (listed s env x).over) (ap (λ (z : Tested). tested_view z d cs) is ∙ view))
  where
    view : tested_view (made_tested.Took j q) d cs ≡ took d cs j (proc_view q.value)
    view = search (rules, the_lemmas)

pub parallel-over : (s : Store) (env : Received) (p : made.Proc) (ps : Vec made.Proc) → p ≡ made.Parallel ps → (listed_parallel s env 0 (procs_of (map proc_view ps.items))).over ≡ (listed s env (proc_view p)).over
parallel-over s env p ps is = sym (ap (λ (x : Proc). (listed s env x).over) (ap proc_view is ∙ view))
  where
    view : proc_view (made.Parallel ps) ≡ parallel (procs_of (map proc_view ps.items))
    view = search (rules, the_lemmas)

-- ---- all of them
pub over-none : AllOver true no_procs
over-none s env n = refl

pub over-more : (b : Bool) (p : Proc) (ps : Procs) → ((s : Store) (env : Received) → (listed s env p).over ≡ true) → AllOver b ps → AllOver b (proc p ps)
over-more b p ps h all s env n = all s env (n + 1) ∙ sym (ap (λ o. o && (listed_parallel s env (n + 1) ps).over) (h s env))

pub over-not : (p : Proc) (ps : Procs) → ((s : Store) (env : Received) → (listed s env p).over ≡ false) → AllOver false (proc p ps)
over-not p ps h s env n = sym (ap (λ o. o && (listed_parallel s env (n + 1) ps).over) (h s env))

both-ways : (b : Bool) (rest : Listing) (i : ℕ) (x : Listing) → (cond b rest (at_work (behind (Ordered i) x.actions))).over ≡ (b && rest.over)
both-ways true rest i x = refl
both-ways false rest i x = refl

-- one after another, as side by side
pub over-alike : (s : Store) (env : Received) (n : ℕ) (ps : Procs) → (listed_sequence s env zero n ps).over ≡ (listed_parallel s env n ps).over
over-alike s env n no_procs = refl
over-alike s env n (proc p ps) =
    both-ways (listed s env p).over (listed_sequence s env zero (n + 1) ps) n (listed s env p) ∙ ap (λ b. (listed s env p).over && b) (over-alike s env (n + 1) ps)

-- ---- children by their numbers
pub fresh-got : (cs : List Code) (i : ℕ) (c : Code) → slice_get cs i ≡ Some c → proc_at (all_started (row_of (map code_view cs))) i ≡ Some (started (code_view c))
fresh-got [] i c h = none-some c h
fresh-got (d ∷ cs) zero c h = ap (λ (x : Code). Some (started (code_view x))) (some-injective d c h)
fresh-got (d ∷ cs) (suc i) c h = fresh-got cs i c h

pub fresh-none : (cs : List Code) (i : ℕ) → slice_get cs i ≡ None → proc_at (all_started (row_of (map code_view cs))) i ≡ None
fresh-none [] i h = refl
fresh-none (d ∷ cs) zero h = none-some d (sym h)
fresh-none (d ∷ cs) (suc i) h = fresh-none cs i h

pub fresh-end : (cs : List Code) (i : ℕ) → length cs ≤ i → proc_at (all_started (row_of (map code_view cs))) i ≡ None
fresh-end [] i l = refl
fresh-end (d ∷ cs) zero l = absurd (omega (arith, l))
fresh-end (d ∷ cs) (suc i) l = fresh-end cs i (omega (arith, l))

pub fresh-has : (cs : List Code) (i : ℕ) (c : Code) (b : Bool) → i < length cs → c ≡ slice_index_or cs i c → ((s : Store) (env : Received) → b ≡ (listed s env (started (code_view c))).over) → b ≡ true
    → HasOver (all_started (row_of (map code_view cs))) i
fresh-has cs i c b l e o t = record { child = started (code_view c); is = fresh-at cs i c l e; over = λ s env. sym (o s env) ∙ t }

pub fresh-has-none : (cs : List Code) (i : ℕ) (c : Code) (b : Bool) → i < length cs → c ≡ slice_index_or cs i c → ((s : Store) (env : Received) → b ≡ (listed s env (started (code_view c))).over) → b ≡ false
    → HasNoneOver (all_started (row_of (map code_view cs))) i
fresh-has-none cs i c b l e o f p is s env =
    ap (λ (x : Proc). (listed s env x).over) (some-injective p (started (code_view c)) (sym is ∙ fresh-at cs i c l e)) ∙ sym (o s env) ∙ f

pub fresh-past-all : (cs : List Code) (i : ℕ) → length cs ≤ i → HasNoneOver (all_started (row_of (map code_view cs))) i
fresh-past-all cs i l p is s env = none-some p (sym (fresh-end cs i l) ∙ is)

-- of children that have begun
pub begun-has : (xs : List made.Proc) (row : Row) (i : ℕ) (x : made.Proc) (b : Bool) → i < length xs → i < length row.codes → x ≡ slice_index_or xs i x
    → ((s : Store) (env : Received) → b ≡ (listed s env (proc_view x)).over) → b ≡ true → HasOver (begun-row xs row) i
begun-has xs row i x b l m e o t = record { child = proc_view x; is = row-at xs row i x l m e; over = λ s env. sym (o s env) ∙ t }

pub begun-has-none : (xs : List made.Proc) (row : Row) (i : ℕ) (x : made.Proc) (b : Bool) → i < length xs → i < length row.codes → x ≡ slice_index_or xs i x
    → ((s : Store) (env : Received) → b ≡ (listed s env (proc_view x)).over) → b ≡ false → HasNoneOver (begun-row xs row) i
begun-has-none xs row i x b l m e o f p is s env =
    ap (λ (y : Proc). (listed s env y).over) (some-injective p (proc_view x) (sym is ∙ row-at xs row i x l m e)) ∙ sym (o s env) ∙ f

-- behind them stand commands that have not begun
past-begun-at : (xs : List made.Proc) (cs : List Code) (i : ℕ) → min (length xs) (length cs) ≤ i
    → proc_at (begun_of (map proc_view xs) (row_of (map code_view cs))) i ≡ proc_at (all_started (row_of (map code_view cs))) i
past-begun-at [] cs i l = refl
past-begun-at (x ∷ xs) [] i l = refl
past-begun-at (x ∷ xs) (c ∷ cs) zero l = absurd (omega (arith, l))
past-begun-at (x ∷ xs) (c ∷ cs) (suc i) l = past-begun-at xs cs i (omega (arith, l))

pub row-past-at : (xs : List made.Proc) (row : Row) (i : ℕ) → min (length xs) (length row.codes) ≤ i
    → proc_at (begun-row xs row) i ≡ proc_at (all_started (row_of (map code_view row.codes))) i
row-past-at xs row i l = ap (λ ps. proc_at ps i) (sym (row-is xs row)) ∙ past-begun-at xs row.codes i l

pub row-has : (xs : List made.Proc) (row : Row) (cs : List Code) (i : ℕ) → min (length xs) (length row.codes) ≤ i → cs ≡ row.codes
    → HasOver (all_started (row_of (map code_view cs))) i → HasOver (begun-row xs row) i
row-has xs row cs i l e h = record {
  child = h.child;
  is = row-past-at xs row i l ∙ ap (λ (k : List Code). proc_at (all_started (row_of (map code_view k))) i) (sym e) ∙ h.is;
  over = h.over;
}

pub row-has-none : (xs : List made.Proc) (row : Row) (cs : List Code) (i : ℕ) → min (length xs) (length row.codes) ≤ i → cs ≡ row.codes
    → HasNoneOver (all_started (row_of (map code_view cs))) i → HasNoneOver (begun-row xs row) i
row-has-none xs row cs i l e h p is =
    h p (ap (λ (k : List Code). proc_at (all_started (row_of (map code_view k))) i) e ∙ sym (row-past-at xs row i l) ∙ is)

-- there are as many as there are commands
begun-some : (xs : List made.Proc) (cs : List Code) (i : ℕ) → i < length cs → (p : Proc) × (proc_at (begun_of (map proc_view xs) (row_of (map code_view cs))) i ≡ Some p)
begun-some [] [] i l = absurd (omega (arith, l))
begun-some [] (c ∷ cs) zero l = (started (code_view c), refl)
begun-some [] (c ∷ cs) (suc i) l = begun-some [] cs i (omega (arith, l))
begun-some (x ∷ xs) [] i l = absurd (omega (arith, l))
begun-some (x ∷ xs) (c ∷ cs) zero l = (proc_view x, refl)
begun-some (x ∷ xs) (c ∷ cs) (suc i) l = begun-some xs cs i (omega (arith, l))

begun-end : (xs : List made.Proc) (cs : List Code) (i : ℕ) → length cs ≤ i → proc_at (begun_of (map proc_view xs) (row_of (map code_view cs))) i ≡ None
begun-end [] [] i l = refl
begun-end [] (c ∷ cs) zero l = absurd (omega (arith, l))
begun-end [] (c ∷ cs) (suc i) l = begun-end [] cs i (omega (arith, l))
begun-end (x ∷ xs) [] i l = refl
begun-end (x ∷ xs) (c ∷ cs) zero l = absurd (omega (arith, l))
begun-end (x ∷ xs) (c ∷ cs) (suc i) l = begun-end xs cs i (omega (arith, l))

pub row-some : (xs : List made.Proc) (row : Row) (i : ℕ) → i < length row.codes → (p : Proc) × (proc_at (begun-row xs row) i ≡ Some p)
row-some xs row i l = let at = begun-some xs row.codes i l in (at.0, ap (λ ps. proc_at ps i) (sym (row-is xs row)) ∙ at.1)

pub row-end : (xs : List made.Proc) (row : Row) (i : ℕ) → length row.codes ≤ i → proc_at (begun-row xs row) i ≡ None
row-end xs row i l = ap (λ ps. proc_at ps i) (sym (row-is xs row)) ∙ begun-end xs row.codes i l

-- ---- how far a sequence has come
abbrev pub CameTo : ℕ → Procs → Type 0
CameTo i ps = (s : Store) (env : Received) → listed_sequence s env i 0 ps ≡ listed_sequence s env (last_moved ps) 0 ps

pub came-more : (i j : ℕ) (ps : Procs) → j ≡ suc i → HasOver ps i → CameTo i ps → CameTo j ps
came-more i j ps e h before s env = step-over s env ps i j h.child h.is e (h.over s env) ∙ before s env

-- it is in an earlier child
pub not-come : (i j : ℕ) (ps : Procs) → i < j → HasNoneOver ps i → CameTo i ps → (s : Store) (env : Received) (a : Place) → under (Ordered j ∷ a) (listed_sequence s env (last_moved ps) 0 ps).actions ≡ []
not-come i j ps l h before s env a = ap (λ (x : Listing). under (Ordered j ∷ a) x.actions) (sym (before s env)) ∙ pick (proc_at ps i) refl
  where
    pick : (o : Option Proc) → proc_at ps i ≡ o → under (Ordered j ∷ a) (listed_sequence s env i 0 ps).actions ≡ []
    pick None e = ap (λ (x : Listing). under (Ordered j ∷ a) x.actions) (past-all s env ps i 0 e)
    pick (Some p) e =
        ap (λ (x : Listing). under (Ordered j ∷ a) x.actions) (step-here s env ps i p e (h p e s env)) ∙ under-number j i a (listed s env p).actions (λ same. omega (arith, l, same))

-- one that has gone past it
pub gone-past : (j : ℕ) (ps : Procs) → j < last_moved ps → (s : Store) (env : Received) (a : Place) → under (Ordered j ∷ a) (listed_sequence s env (last_moved ps) 0 ps).actions ≡ []
gone-past j ps l s env a = under-later s env ps (last_moved ps) 0 j a (omega (arith, l))

pub is-come : (i j : ℕ) (ps : Procs) (b : Bool) → b ≡ true → i ≡ j → CameTo i ps → IsReached b j ps
is-come i j ps b t e h = record { reached = λ u. subst (λ k. CameTo k ps) e h; elsewhere = λ f. absurd (true≢false (sym t ∙ f)) }

pub is-elsewhere : (j : ℕ) (ps : Procs) (b : Bool) → b ≡ false → ((s : Store) (env : Received) (a : Place) → under (Ordered j ∷ a) (listed_sequence s env (last_moved ps) 0 ps).actions ≡ [])
    → IsReached b j ps
is-elsewhere j ps b f h = record { reached = λ t. absurd (true≢false (sym t ∙ f)); elsewhere = λ u. h }

-- a sequence is over where it has come past its last child
pub all-passed : (s : Store) (env : Received) (ps : Procs) (i : ℕ) → proc_at ps i ≡ None → CameTo i ps → true ≡ (listed s env (sequence ps)).over
all-passed s env ps i h before = sym (ap (λ (x : Listing). x.over) (sym (before s env) ∙ past-all s env ps i 0 h))

-- and not where one is not finished
pub one-left : (s : Store) (env : Received) (ps : Procs) (i : ℕ) (p : Proc) → proc_at ps i ≡ Some p → HasNoneOver ps i → CameTo i ps → false ≡ (listed s env (sequence ps)).over
one-left s env ps i p is h before = sym (ap (λ (x : Listing). x.over) (sym (before s env) ∙ step-here s env ps i p is (h p is s env)))
