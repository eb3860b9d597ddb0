-- A walk past the children of a row.
use Rattle.std.proofs.Common.{◌≡◌, ℕ, suc, ◌+◌, ◌*◌, ◌<◌, List, [], ◌∷◌, map, length, drop, Bool, true, false, ◌&&◌, cond, Option, Some, option_map, slice_index_or, refl, sym, ap, ◌∙◌, subst, rules}
use Rattle.std.specs.Global.{Box}
use Rattle.std.proofs.lemmas.List.{drop_more}
use Rattle.address.specs.declared.Entry.TheVariants.{Ordered, Branch}
use Rattle.value.specs.Word.{Word}
use Rattle.system.specs.Expression.{Store, Expression, Decision}
use Rattle.process_tree.specs.Code.{Code as MCode, Codes}
use Rattle.process_tree.specs.Children.{proc_at}
use Rattle.process_tree.specs.Remaining.{Received, with_value}
use Rattle.process_tree.specs.Proc.{Proc, Procs, proc, took, all_started, started}
use Rattle.process_tree.specs.Translation.{row_of}
use Rattle.process_tree.specs.View.{code_view, repeat_view, proc_view, procs_of, turn_of, opened_of}
use Rattle.process_tree.specs.internal.Parts.{tested_view, gate_view}
use Rattle.process_tree.specs.internal.Received.{puts_guard}
use Rattle.process_tree.specs.declared.code.Code as made_code
use Rattle.process_tree.specs.declared.code.Code.{Code}
use Rattle.process_tree.specs.declared.code.Code.TheFolds.{the_lemmas as code_lemmas}
use Rattle.process_tree.specs.declared.code.Repeat.{Repeat}
use Rattle.process_tree.specs.declared.code.Row.{Row}
use Rattle.system.specs.Translation.{expression_of}
use Rattle.process_tree.specs.declared.proc.Proc as made
use Rattle.process_tree.specs.declared.proc.Gate as made_gate
use Rattle.process_tree.specs.declared.proc.Gate.{Gate}
use Rattle.process_tree.specs.declared.proc.Tested as made_tested
use Rattle.process_tree.specs.declared.proc.Tested.{Tested}
use Rattle.process_tree.specs.declared.proc.Gate.TheFolds.{the_lemmas}
use Rattle.process_tree.proofs.public.Views.{code_in_turn}
use Rattle.local_actions.specs.Walk.{Walk, action_at, added}
use Rattle.local_actions.specs.internal.Listed.{behind, again_at, Listing, nothing, at_work, one_after, listed, listed_sequence, listed_parallel}
use Rattle.local_actions.specs.internal.Walk.{lists, lists_at}
use Rattle.local_actions.specs.declared.action.LocalAction.{LocalAction}
use Rattle.local_actions.specs.declared.action.ActionKind.TheVariants.{Closes}
use Rattle.local_actions.proofs.public.Walks.{added-none, added-both}
use Rattle.local_actions.proofs.public.OneByOne.{over-nothing, step-over, step-here, none-last}

-- a child that is finished leaves the walk as it was
pub passed : (s : Store) (p : Proc) (j : ℕ) (w v : Walk) (b : Bool) → v ≡ lists_at (Ordered j) s p w → b ≡ (listed s w.received p).over → b ≡ true → v ≡ w
passed s p j w v b e o t =
    e ∙ ap (λ (l : List LocalAction). added (behind (Ordered j) l) w) (over-nothing s w.received p (sym o ∙ t)) ∙ added-none w

-- what is left of a sequence after one of its children
pub record Onwards (s : Store) (start v : Walk) (m from : ℕ) (ps : Procs) : Type 0 where
  pub as_it_was : v ≡ start
  pub rest : listed_sequence s start.received m 0 ps ≡ listed_sequence s start.received from 0 ps

pub onwards : (s : Store) (start w v : Walk) (k m from : ℕ) (ps : Procs) (p : Proc) (b : Bool) → w ≡ start
    → listed_sequence s start.received k 0 ps ≡ listed_sequence s start.received from 0 ps → proc_at ps k ≡ Some p → v ≡ lists_at (Ordered k) s p w
    → b ≡ (listed s w.received p).over → b ≡ true → m ≡ suc k → Onwards s start v m from ps
onwards s start w v k m from ps p b e f h i o t n = record {
  as_it_was = passed s p k w v b i o t ∙ e;
  rest = step-over s start.received ps k m p h n (sym (ap (λ (u : Walk). (listed s u.received p).over) e) ∙ sym o ∙ t) ∙ f;
}

-- the child at work is all that is listed
pub record AtWork (s : Store) (start v : Walk) (from : ℕ) (ps : Procs) : Type 0 where
  pub actions : v ≡ added (listed_sequence s start.received from 0 ps).actions start
  pub over : false ≡ (listed_sequence s start.received from 0 ps).over

pub at-work : (s : Store) (start w v : Walk) (k from : ℕ) (ps : Procs) (p : Proc) (b : Bool) → w ≡ start
    → listed_sequence s start.received k 0 ps ≡ listed_sequence s start.received from 0 ps → proc_at ps k ≡ Some p → v ≡ lists_at (Ordered k) s p w
    → b ≡ (listed s w.received p).over → b ≡ false → AtWork s start v from ps
at-work s start w v k from ps p b e f h i o t =
    let here = step-here s start.received ps k p h (sym (ap (λ (u : Walk). (listed s u.received p).over) e) ∙ sym o ∙ t) in
    let all : at_work (behind (Ordered k) (listed s start.received p).actions) ≡ listed_sequence s start.received from 0 ps = sym here ∙ f in
    record {
      actions = i ∙ ap (λ (u : Walk). lists_at (Ordered k) s p u) e ∙ ap (λ (l : Listing). added l.actions start) all;
      over = ap (λ (l : Listing). l.over) all;
    }

-- the end of a row
pub at-end : (s : Store) (start w : Walk) (L : Listing) → w ≡ start → L ≡ nothing → (w ≡ added L.actions start) × (true ≡ L.over)
at-end s start w L e n = (e ∙ sym (added-none start) ∙ sym (ap (λ (l : Listing). added l.actions start) n), sym (ap (λ (l : Listing). l.over) n))

-- one branch more
and-moves : (a b c d : Bool) → c ≡ (a && b) → (c && d) ≡ (a && (b && d))
and-moves true b c d e = ap (λ x. x && d) e
and-moves false b c d e = ap (λ x. x && d) e

pub one-open : (a b c : Bool) → b ≡ false → c ≡ false → c ≡ (a && b)
one-open true b c e f = f ∙ sym e
one-open false b c e f = f

pub one-over : (a b c : Bool) → b ≡ true → c ≡ a → c ≡ (a && b)
one-over true b c e f = f ∙ sym e
one-over false b c e f = f

abbrev pub Beside : Store → Walk → Walk → Bool → ℕ → Procs → Listing → Type 0
Beside s start w over n ps all =
    (w.received ≡ start.received) × (added (listed_parallel s start.received n ps).actions w ≡ added all.actions start) × ((over && (listed_parallel s start.received n ps).over) ≡ all.over)

pub beside : (s : Store) (start w v : Walk) (over next b : Bool) (n m : ℕ) (p : Proc) (ps rest : Procs) (all : Listing) → Beside s start w over n ps all → m ≡ n + 1
    → ps ≡ proc p rest → v ≡ lists_at (Branch n) s p w → b ≡ (listed s w.received p).over → next ≡ (over && b) → Beside s start v next m rest all
beside s start w v over next b n m p ps rest all inv num is e o k =
    let r = start.received in
    let x = listed s r p in
    let later = listed_parallel s r (n + 1) rest in
    let here : v ≡ added (behind (Branch n) x.actions) w = e ∙ ap (λ q. added (behind (Branch n) (listed s q p).actions) w) inv.0 in
    let told : b ≡ x.over = o ∙ ap (λ q. (listed s q p).over) inv.0 in
    subst (λ j. Beside s start v next j rest all) (sym num) (
      ap (λ (u : Walk). u.received) e ∙ inv.0,
      ap (added later.actions) here ∙ added-both (behind (Branch n) x.actions) later.actions w ∙ sym (ap (λ (q : Procs). added (listed_parallel s r n q).actions w) is) ∙ inv.1,
      and-moves over x.over next later.over (k ∙ ap (λ c. over && c) told) ∙ sym (ap (λ (q : Procs). over && (listed_parallel s r n q).over) is) ∙ inv.2,
    )

-- the next of the commands and processes in memory
pub fresh-next : (cs : List Code) (i : ℕ) (c : Code) → i < length cs → c ≡ slice_index_or cs i c
    → all_started (row_of (map code_view (drop i cs))) ≡ proc (started (code_view c)) (all_started (row_of (map code_view (drop (i + 1) cs))))
fresh-next cs i c l e =
    ap (λ (xs : List Code). all_started (row_of (map code_view xs))) (drop_more cs i c l ∙ ap (λ (x : Code). x ∷ drop (i + 1) cs) (sym e))

pub proc-next : (ps : List made.Proc) (i : ℕ) (p : made.Proc) → i < length ps → p ≡ slice_index_or ps i p
    → procs_of (map proc_view (drop i ps)) ≡ proc (proc_view p) (procs_of (map proc_view (drop (i + 1) ps)))
proc-next ps i p l e =
    ap (λ (xs : List made.Proc). procs_of (map proc_view xs)) (drop_more ps i p l ∙ ap (λ (x : made.Proc). x ∷ drop (i + 1) ps) (sym e))

-- a sequence before its first move
pub fresh-in-turn : (s : Store) (env : Received) (c : Code) (row : Row) (cs : List Code) → c ≡ made_code.InTurn row → cs ≡ row.codes
    → listed_sequence s env 0 0 (all_started (row_of (map code_view cs))) ≡ listed s env (started (code_view c))
fresh-in-turn s env c row cs is e =
    ap (λ (xs : List Code). listed_sequence s env 0 0 (all_started (row_of (map code_view xs)))) e
    ∙ sym (ap (λ k. listed_sequence s env k 0 (all_started (row_of (map code_view row.codes)))) (none-last (row_of (map code_view row.codes))))
    ∙ sym (ap (λ (x : MCode). listed s env (started x)) (ap code_view is ∙ code_in_turn row))

-- an arm that was taken, as it stands in memory
took-view : (d : Decision) (cs : Codes) (j : ℕ) (q : Box made.Proc) → tested_view (made_tested.Took j q) d cs ≡ took d cs j (proc_view q.value)
took-view d cs j q = search (rules, the_lemmas)

opened-view : (ds : List ℕ) (cs : Codes) (c : ℕ) (v : Option Word) (over : Bool) (q : Box made.Proc) → gate_view (made_gate.Opened c v over q) ds cs ≡ opened_of over ds cs c v (proc_view q.value)
opened-view ds cs c v over q = search (rules, the_lemmas)

-- the body of an arm that was taken is all that is listed of it
pub taken-actions : (s : Store) (d : Decision) (cs : Codes) (j : ℕ) (t : Tested) (q : Box made.Proc) (p : made.Proc) (w v : Walk) → t ≡ made_tested.Took j q → p ≡ q.value
    → v ≡ lists_at (Ordered 1) s (proc_view p) w → v ≡ lists s (tested_view t d cs) w
taken-actions s d cs j t q p w v is here e =
    e ∙ ap (λ (l : List LocalAction). added l w) (only (listed s w.received (proc_view p)) (over-nothing s w.received (proc_view p)))
    ∙ sym (ap (λ (x : Proc). lists s x w) (ap (λ (z : Tested). tested_view z d cs) is ∙ took-view d cs j q ∙ ap (λ (z : made.Proc). took d cs j (proc_view z)) (sym here)))
  where
    pick : (b : Bool) (l : List LocalAction) → (b ≡ true → l ≡ []) → behind (Ordered 1) l ≡ (cond b nothing (at_work (behind (Ordered 1) l))).actions
    pick true l h = ap (behind (Ordered 1)) (h refl)
    pick false l h = refl

    only : (x : Listing) → (x.over ≡ true → x.actions ≡ []) → behind (Ordered 1) x.actions ≡ (one_after 1 x nothing).actions
    only x h = pick x.over x.actions h

-- an arm that opened, as it stands in memory, tells whether it is closed
pub opened-over : (s : Store) (env : Received) (ds : List ℕ) (cs : Codes) (c : ℕ) (v : Option Word) (over o : Bool) (g : Gate) (q : Box made.Proc) (p : made.Proc)
    → g ≡ made_gate.Opened c v over q → p ≡ q.value → o ≡ (listed s env (opened_of over ds cs c v (proc_view p))).over → o ≡ (listed s env (gate_view g ds cs)).over
opened-over s env ds cs c v over o g q p is here e =
    e ∙ sym (ap (λ (x : Proc). (listed s env x).over)
    (ap (λ (z : Gate). gate_view z ds cs) is ∙ opened-view ds cs c v over q ∙ ap (λ (z : made.Proc). opened_of over ds cs c v (proc_view z)) (sym here)))

-- the guard of a loop in memory
pub repeat-guard : (r : Repeat) → (repeat_view r).0 ≡ option_map expression_of r.guard
repeat-guard r = search (rules, code_lemmas)

-- a loop whose body is finished goes on
pub turn-again : (s : Store) (w v u : Walk) (n m j : ℕ) (g : Option Expression) (c : MCode) (q : Proc) (over b : Bool) → over ≡ false → v ≡ lists_at (Ordered j) s q w
    → j ≡ 2 * n + 1 → b ≡ (listed s w.received q).over → b ≡ true → u ≡ added (again_at s m (puts_guard v.received g)) v → m ≡ n + 1 → u ≡ lists s (turn_of over g c n q) w
turn-again s w v u n m j g c q over b f e k o t a next =
    a ∙ ap (λ (x : Walk). added (again_at s m (puts_guard x.received g)) x) (passed s q j w v b e o t)
    ∙ ap (λ i. added (again_at s i (puts_guard w.received g)) w) next
    ∙ sym (ap (λ b. added (cond b (at_work (again_at s (n + 1) (puts_guard w.received g))) (at_work (behind (Ordered (2 * n + 1)) (listed s w.received q).actions))).actions w) (sym o ∙ t))
    ∙ sym (ap (λ z. lists s (turn_of z g c n q) w) f)

-- an arm whose body is finished is closed
pub arm-close : (s : Store) (w v u : Walk) (ds : List ℕ) (cs : Codes) (c : ℕ) (x : Option Word) (q : Proc) (over b : Bool) → over ≡ false
    → v ≡ added (behind (Ordered 1) (listed s (with_value c x w.received) q).actions) w → b ≡ (listed s (with_value c x w.received) q).over → b ≡ true
    → u ≡ added (action_at (Ordered 2 ∷ []) (Closes c) ∷ []) v → u ≡ lists s (opened_of over ds cs c x q) w
arm-close s w v u ds cs c x q over b f e o t a =
    a ∙ ap (added (action_at (Ordered 2 ∷ []) (Closes c) ∷ []))
    (e ∙ ap (λ (l : List LocalAction). added (behind (Ordered 1) l) w) (over-nothing s (with_value c x w.received) q (sym o ∙ t)) ∙ added-none w)
    ∙ sym (ap (λ b. added (cond b (at_work (action_at (Ordered 2 ∷ []) (Closes c) ∷ [])) (at_work (behind (Ordered 1) (listed s (with_value c x w.received) q).actions))).actions w) (sym o ∙ t))
    ∙ sym (ap (λ z. lists s (opened_of z ds cs c x q) w) f)
