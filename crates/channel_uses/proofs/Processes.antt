-- What processes offer on a channel, form by form, and child by child.
use Rattle.std.proofs.Common.{◌≡◌, ℕ, zero, suc, ◌+◌, ◌*◌, ◌<◌, ◌≤◌, min, List, [], ◌∷◌, length, map, Bool, true, false, cond, Option, Some, None, IfSome, slice_get, Bor, refl, sym, ap, ap₂, ◌∙◌, subst, arith, rules}
use Rattle.std.specs.Global.{Box}
use Rattle.address.specs.declared.Entry.TheVariants.{Ordered}
use Rattle.value.specs.Word.{Word}
use Rattle.system.specs.Expression.{Store, Expression, Decision}
use Rattle.runs.proofs.public.Options.{none-some, some-injective}
use Rattle.dependence.specs.declared.uses.UseTable.{UseTable}
use Rattle.process_tree.specs.Children.{proc_at}
use Rattle.process_tree.specs.Code.{Code, continues, halts, moves_once, may_be_held, repeats, decides, awaits, in_turn, side_by_side, drains, Codes, no_code, code, code_at}
use Rattle.process_tree.specs.Remaining.{Received, with_value}
use Rattle.process_tree.specs.Proc.{Proc, turn, took, unopened, entered, sequence, parallel, Procs, no_procs, proc, started, all_started}
use Rattle.process_tree.specs.Translation.{row_of}
use Rattle.process_tree.specs.View.{code_view, await_view, proc_view, begun_of, turn_of, opened_of}
use Rattle.process_tree.specs.internal.Parts.{tested_view, gate_view}
use Rattle.process_tree.specs.internal.Received.{puts_guard}
use Rattle.process_tree.specs.declared.code.Code as made_code
use Rattle.process_tree.specs.declared.code.Await.{Await}
use Rattle.process_tree.specs.declared.code.Code.TheFolds.{the_lemmas as code_lemmas}
use Rattle.process_tree.specs.declared.code.Row.{Row}
use Rattle.process_tree.specs.declared.proc.Proc as made
use Rattle.process_tree.specs.declared.proc.Gate as made_gate
use Rattle.process_tree.specs.declared.proc.Gate.{Gate}
use Rattle.process_tree.specs.declared.proc.Gate.TheFolds.{the_lemmas}
use Rattle.process_tree.specs.declared.proc.Tested as made_tested
use Rattle.process_tree.specs.declared.proc.Tested.{Tested}
use Rattle.local_actions.specs.Walk.{Walk, action_at, added}
use Rattle.local_actions.specs.internal.Listed.{behind, again_at, Listing, nothing, at_work, one_after, listed, listed_sequence}
use Rattle.local_actions.specs.declared.action.ActionKind.TheVariants.{Closes}
use Rattle.local_actions.proofs.public.Begun.{begun-row, row-is, row-past}
use Rattle.local_actions.proofs.public.OneByOne.{over-nothing, listed-step}
use Rattle.local_actions.proofs.public.Walks.{added-none}
use Rattle.channel_uses.specs.OnChannel.{on}
use Rattle.channel_uses.specs.StemsFrom.{StemsFrom, AllStemFrom}
use Rattle.channel_uses.specs.internal.Located.{LocatedCode, LocatedRow, LocatedProc, LocatedProcs, AgreeFrom, finds, finds_at}
use Rattle.channel_uses.specs.internal.Parts.{UnusedBetween}
use Rattle.channel_uses.specs.declared.part.Part.{Part}
use Rattle.channel_uses.proofs.Finding.{after-none, listed-none}
use Rattle.channel_uses.proofs.OnChannel.{on-behind, opens_none}

-- ---- what a process stems from, part by part
-- a loop has the part of its body
pub body-located : (table : UseTable) (part : Option (Bor Part)) (g : Option Expression) (b : Code) (n : ℕ) (q : Proc) → LocatedProc table part (turn g b n q) → LocatedProc table part q
body-located table part g b n q h =
    let at = subst (LocatedCode table part) h.stems.0 h.located in
    record { code = b; located = loop-part part at; stems = h.stems.1 }
  where
    loop-part : (part : Option (Bor Part)) → LocatedCode table part (repeats g b) → LocatedCode table part b
    loop-part None l = record { number = l.number; told = l.told; is = tt }
    loop-part (Some p) l = record { number = l.number; told = l.told; is = l.is }

-- the arms of a test
row-decides : (table : UseTable) (part : Option (Bor Part)) (d : Decision) (cs : Codes) → LocatedCode table part (decides d cs) → LocatedRow table part cs
row-decides table None d cs h = record { number = h.number; told = h.told; are = tt }
row-decides table (Some q) d cs h = record { number = h.number; told = h.told; are = (h.is.1, h.is.0.1) }

pub took-located : (table : UseTable) (part own : Option (Bor Part)) (d : Decision) (cs : Codes) (j : ℕ) (q : Proc)
    → ((table : UseTable) (cs : Codes) → LocatedRow table part cs → LocatedCode table own (code_at cs j)) → LocatedProc table part (took d cs j q) → LocatedProc table own q
took-located table part own d cs j q known h = record {
  code = code_at cs j;
  located = known table cs (row-decides table part d cs (subst (LocatedCode table part) h.stems.0 h.located));
  stems = h.stems.1;
}

-- arms that wait
row-awaits : (table : UseTable) (part : Option (Bor Part)) (ds : List ℕ) (cs : Codes) → LocatedCode table part (awaits ds cs) → LocatedRow table part cs
row-awaits table None ds cs h = record { number = h.number; told = h.told; are = tt }
row-awaits table (Some q) ds cs h = record { number = h.number; told = h.told; are = (h.is.1, h.is.0.1) }

pub opened-located : (table : UseTable) (part own : Option (Bor Part)) (only : Option ℕ) (ds : List ℕ) (cs : Codes) (e : ℕ) (v : Option Word) (q : Proc)
    → ((table : UseTable) (cs : Codes) (j : ℕ) → LocatedRow table part cs → IfSome only (λ k. j ≡ k) → LocatedCode table own (code_at cs j))
    → IfSome only (λ k. (j : ℕ) → slice_get ds j ≡ Some e → j ≡ k) → LocatedProc table part (entered ds cs e v q) → LocatedProc table own q
opened-located table part own only ds cs e v q known one h =
    let arm = h.stems.1 in
    record {
      code = code_at cs arm;
      located = known table cs arm (row-awaits table part ds cs (subst (LocatedCode table part) h.stems.0 h.located)) (which only one);
      stems = h.stems.3;
    }
  where
    which : (only : Option ℕ) → IfSome only (λ k. (j : ℕ) → slice_get ds j ≡ Some e → j ≡ k) → IfSome only (λ k. h.stems.1 ≡ k)
    which None one = tt
    which (Some k) one = one h.stems.1 h.stems.2

-- the same of an arm that may be closed
pub gate-located : (table : UseTable) (part own : Option (Bor Part)) (only : Option ℕ) (ds : List ℕ) (cs : Codes) (e : ℕ) (v : Option Word) (q : Proc) (over : Bool)
    → ((table : UseTable) (cs : Codes) (j : ℕ) → LocatedRow table part cs → IfSome only (λ k. j ≡ k) → LocatedCode table own (code_at cs j))
    → IfSome only (λ k. (j : ℕ) → slice_get ds j ≡ Some e → j ≡ k) → LocatedProc table part (opened_of over ds cs e v q) → LocatedProc table own q
gate-located table part own only ds cs e v q true known one h = opened-located table part own only ds cs e v q known one (record { code = h.code; located = h.located; stems = h.stems })
gate-located table part own only ds cs e v q false known one h = opened-located table part own only ds cs e v q known one h

-- the channels of arms in memory
pub await-channels : (a : Await) → (await_view a).0 ≡ a.channels
await-channels a = search (rules, code_lemmas)

-- children of a sequence and of a parallel
pub in-turn-located : (table : UseTable) (part : Option (Bor Part)) (ps : Procs) → LocatedProc table part (sequence ps) → LocatedProcs table part ps
in-turn-located table part ps h = record { codes = h.stems.0; located = row part (subst (LocatedCode table part) h.stems.1 h.located); stem = h.stems.2 }
  where
    row : (part : Option (Bor Part)) → LocatedCode table part (in_turn h.stems.0) → LocatedRow table part h.stems.0
    row None l = record { number = l.number; told = l.told; are = tt }
    row (Some q) l = record { number = l.number; told = l.told; are = (l.is.1, l.is.0.1) }

pub side-by-side-located : (table : UseTable) (part : Option (Bor Part)) (ps : Procs) → LocatedProc table part (parallel ps) → LocatedProcs table part ps
side-by-side-located table part ps h = record { codes = h.stems.0; located = row part (subst (LocatedCode table part) h.stems.1 h.located); stem = h.stems.2 }
  where
    row : (part : Option (Bor Part)) → LocatedCode table part (side_by_side h.stems.0) → LocatedRow table part h.stems.0
    row None l = record { number = l.number; told = l.told; are = tt }
    row (Some q) l = record { number = l.number; told = l.told; are = (l.is.1, l.is.0.1) }

stem-at : (ps : Procs) (cs : Codes) (k : ℕ) (p : Proc) → AllStemFrom ps cs → proc_at ps k ≡ Some p → StemsFrom p (code_at cs k)
stem-at no_procs cs k p t h = none-some p h
stem-at (proc q ps) no_code k p t h = absurd t
stem-at (proc q ps) (code c cs) zero p t h = subst (λ (x : Proc). StemsFrom x c) (some-injective q p h) t.0
stem-at (proc q ps) (code c cs) (suc k) p t h = stem-at ps cs k p t.1 h

pub child-located : (table : UseTable) (part own : Option (Bor Part)) (ps : Procs) (k : ℕ) (p : Proc)
    → ((table : UseTable) (cs : Codes) → LocatedRow table part cs → LocatedCode table own (code_at cs k)) → proc_at ps k ≡ Some p → LocatedProcs table part ps → LocatedProc table own p
child-located table part own ps k p known is h = record {
  code = code_at h.codes k;
  located = known table h.codes h.located;
  stems = stem-at ps h.codes k p h.stem is;
}

-- ---- commands that have not begun are those of the row
mutual
  started-origin : (d c : Code) → StemsFrom (started d) c → c ≡ d
  started-origin continues c t = t
  started-origin halts c t = t
  started-origin (moves_once o) c t = t
  started-origin (may_be_held s) c t = t
  started-origin (repeats g b) c t = t
  started-origin (decides d cs) c t = t
  started-origin (awaits ds cs) c t = t
  started-origin (in_turn ds) c t = t.1 ∙ ap in_turn (all-origin ds t.0 t.2)
  started-origin (side_by_side ds) c t = t.1 ∙ ap side_by_side (all-origin ds t.0 t.2)
  started-origin (drains e) c t = t

  all-origin : (ds cs : Codes) → AllStemFrom (all_started ds) cs → cs ≡ ds
  all-origin no_code cs t = t
  all-origin (code d ds) no_code t = absurd t
  all-origin (code d ds) (code c cs) t = ap₂ code (started-origin d c t.0) (all-origin ds cs t.1)

agree-begun : (xs : List made.Proc) (rs : List made_code.Code) (cs : Codes) (i : ℕ) → AllStemFrom (begun_of (map proc_view xs) (row_of (map code_view rs))) cs → min (length xs) (length rs) ≤ i
    → code_at cs i ≡ code_at (row_of (map code_view rs)) i
agree-begun [] rs cs i t l = ap (λ ds. code_at ds i) (all-origin (row_of (map code_view rs)) cs t)
agree-begun (x ∷ xs) [] cs i t l = ap (λ ds. code_at ds i) t
agree-begun (x ∷ xs) (r ∷ rs) no_code i t l = absurd t
agree-begun (x ∷ xs) (r ∷ rs) (code c cs) zero t l = absurd (omega (arith, l))
agree-begun (x ∷ xs) (r ∷ rs) (code c cs) (suc i) t l = agree-begun xs rs cs i t.1 (omega (arith, l))

pub agree-row : (xs : List made.Proc) (row : Row) (cs : Codes) (rs : List made_code.Code) (k : ℕ) → AllStemFrom (begun-row xs row) cs → min (length xs) (length row.codes) ≤ k → rs ≡ row.codes
    → AgreeFrom k cs (row_of (map code_view rs))
agree-row xs row cs rs k t l e i m =
    agree-begun xs row.codes cs i (subst (λ ps. AllStemFrom ps cs) (sym (row-is xs row)) t) (omega (arith, l, m))
    ∙ ap (λ (ys : List made_code.Code). code_at (row_of (map code_view ys)) i) (sym e)

-- ---- where none of the others uses the channel
pub sequence-rest : (e : ℕ) (s : Store) (env : Received) (ps : Procs) (cs : Codes) (k m n : ℕ) → AllStemFrom ps cs → UnusedBetween e cs k m → proc_at ps m ≡ None → on e (listed_sequence s env k n ps).actions ≡ []
sequence-rest e s env no_procs cs zero m n t h none = refl
sequence-rest e s env no_procs cs (suc k) m n t h none = refl
sequence-rest e s env (proc p ps) no_code k m n t h none = absurd t
sequence-rest e s env (proc p ps) (code c cs) k zero n t h none = none-some p (sym none)
sequence-rest e s env (proc p ps) (code c cs) zero (suc m) n t h none =
    after-none e n (listed s env p) (listed_sequence s env zero (n + 1) ps) (listed-none s p env c e t.0 (h 0 (omega arith) (omega arith)))
    (sequence-rest e s env ps cs zero m (n + 1) t.1 (λ i low high u. h (suc i) (omega arith) (omega (arith, high)) u) none)
sequence-rest e s env (proc p ps) (code c cs) (suc k) (suc m) n t h none =
    sequence-rest e s env ps cs k m (n + 1) t.1 (λ i low high u. h (suc i) (omega (arith, low)) (omega (arith, high)) u) none

-- ---- what is found of the forms
-- a child, where what comes after it offers nothing on the channel
child-only : (e i : ℕ) (x rest : Listing) → (x.over ≡ true → x.actions ≡ []) → on e rest.actions ≡ [] → on e (one_after i x rest).actions ≡ behind (Ordered i) (on e x.actions)
child-only e i x rest h k = pick x.over h
  where
    pick : (b : Bool) → (b ≡ true → x.actions ≡ []) → on e (cond b rest (at_work (behind (Ordered i) x.actions))).actions ≡ behind (Ordered i) (on e x.actions)
    pick true h = k ∙ sym (ap (λ l. behind (Ordered i) (on e l)) (h refl))
    pick false h = on-behind e (Ordered i) x.actions

again-none : (e : ℕ) (s : Store) (n : ℕ) (g : Option Expression) → on e (again_at s n g) ≡ []
again-none e s n None = refl
again-none e s n (Some x) = refl

-- of a turn the body is all that is on a channel
pub turn-found : (e : ℕ) (s : Store) (g : Option Expression) (c : Code) (n j : ℕ) (q : Proc) (over : Bool) (w v : Walk) → over ≡ false → j ≡ 2 * n + 1 → v ≡ finds_at (Ordered j) e s q w
    → v ≡ finds e s (turn_of over g c n q) w
turn-found e s g c n j q over w v f k h =
    h ∙ ap (λ i. finds_at (Ordered i) e s q w) k
    ∙ ap (λ l. added l w) (sym (child-only e (2 * n + 1) (listed s w.received q) (at_work (again_at s (n + 1) (puts_guard w.received g))) (over-nothing s w.received q) (again-none e s (n + 1) (puts_guard w.received g))))
    ∙ sym (ap (λ o. finds e s (turn_of o g c n q) w) f)

pub turn-located : (table : UseTable) (part : Option (Bor Part)) (g : Option Expression) (c : Code) (n : ℕ) (q : Proc) (over : Bool) → over ≡ false → LocatedProc table part (turn_of over g c n q) → LocatedProc table part q
turn-located table part g c n q over f h = body-located table part g c n q (subst (λ o. LocatedProc table part (turn_of o g c n q)) f h)

-- ---- tests
pub took-view : (d : Decision) (cs : Codes) (j : ℕ) (t : Tested) (q : Box made.Proc) (p : made.Proc) → t ≡ made_tested.Took j q → p ≡ q.value → tested_view t d cs ≡ took d cs j (proc_view p)
took-view d cs j t q p is here = ap (λ (z : Tested). tested_view z d cs) is ∙ view ∙ ap (λ (z : made.Proc). took d cs j (proc_view z)) (sym here)
  where
    view : tested_view (made_tested.Took j q) d cs ≡ took d cs j (proc_view q.value)
    view = search (rules, the_lemmas)

pub took-found : (e : ℕ) (s : Store) (d : Decision) (cs : Codes) (j : ℕ) (q p : Proc) (w v : Walk) → p ≡ took d cs j q → v ≡ finds_at (Ordered 1) e s q w → v ≡ finds e s p w
took-found e s d cs j q p w v is h =
    h ∙ ap (λ l. added l w) (sym (child-only e 1 (listed s w.received q) nothing (over-nothing s w.received q) refl)) ∙ sym (ap (λ x. finds e s x w) is)

-- ---- arms
pub gate-view : (ds : List ℕ) (cs : Codes) (e : ℕ) (v : Option Word) (over : Bool) (t : Gate) (q : Box made.Proc) (p : made.Proc) → t ≡ made_gate.Opened e v over q → p ≡ q.value
    → gate_view t ds cs ≡ opened_of over ds cs e v (proc_view p)
gate-view ds cs e v over t q p is here = ap (λ (z : Gate). gate_view z ds cs) is ∙ view ∙ ap (λ (z : made.Proc). opened_of over ds cs e v (proc_view z)) (sym here)
  where
    view : gate_view (made_gate.Opened e v over q) ds cs ≡ opened_of over ds cs e v (proc_view q.value)
    view = search (rules, the_lemmas)

-- arms that have not opened offer none
pub unopened-none : (e : ℕ) (s : Store) (env : Received) (g : Gate) (ds : List ℕ) (cs : Codes) → g ≡ made_gate.Unopened → on e (listed s env (gate_view g ds cs)).actions ≡ []
unopened-none e s env g ds cs is =
    ap (λ (z : Gate). on e (listed s env (gate_view z ds cs)).actions) is ∙ ap (λ (p : Proc). on e (listed s env p).actions) view ∙ opens_none e 0 ds
  where
    view : gate_view made_gate.Unopened ds cs ≡ unopened ds cs
    view = search (rules, the_lemmas)

-- of an arm the body is all that is on a channel
pub arm-found : (e d : ℕ) (s : Store) (ds : List ℕ) (cs : Codes) (x : Option Word) (q : Proc) (over : Bool) (w u : Walk) → over ≡ false
    → u ≡ added (behind (Ordered 1) (on e (listed s (with_value d x w.received) q).actions)) w → u ≡ finds e s (opened_of over ds cs d x q) w
arm-found e d s ds cs x q over w u f h =
    let env = with_value d x w.received in
    h ∙ ap (λ l. added l w) (sym (child-only e 1 (listed s env q) (at_work (action_at (Ordered 2 ∷ []) (Closes d) ∷ [])) (over-nothing s env q) refl))
    ∙ sym (ap (λ o. finds e s (opened_of o ds cs d x q) w) f)

-- ---- children of a sequence
-- one that is over has left the walk as it was
pub passed-on : (e : ℕ) (s : Store) (p : Proc) (j : ℕ) (w v : Walk) → (listed s w.received p).over ≡ true → v ≡ finds_at (Ordered j) e s p w → v ≡ w
passed-on e s p j w v o h = h ∙ ap (λ l. added (behind (Ordered j) (on e l)) w) (over-nothing s w.received p o) ∙ added-none w

-- one that was found is not over
pub found-open : (e : ℕ) (s : Store) (p : Proc) (j : ℕ) (w v : Walk) → v ≡ finds_at (Ordered j) e s p w → length w.actions < length v.actions → (listed s w.received p).over ≡ false
found-open e s p j w v h less = pick (listed s w.received p).over refl
  where
    pick : (b : Bool) → (listed s w.received p).over ≡ b → b ≡ false
    pick true o = let same : length v.actions ≡ length w.actions = ap (λ (x : Walk). length x.actions) (passed-on e s p j w v o h) in absurd (omega (arith, less, same))
    pick false o = refl

-- where no later one uses the channel the child is all
pub child-last : (e : ℕ) (s : Store) (w u v : Walk) (ps : Procs) (k from : ℕ) (p : Proc) → u ≡ w → listed_sequence s w.received k 0 ps ≡ listed_sequence s w.received from 0 ps → proc_at ps k ≡ Some p
    → on e (listed_sequence s w.received (suc k) 0 ps).actions ≡ [] → v ≡ finds_at (Ordered k) e s p u → v ≡ added (on e (listed_sequence s w.received from 0 ps).actions) w
child-last e s w u v ps k from p same rest at none h =
    h ∙ ap (finds_at (Ordered k) e s p) same
    ∙ ap (λ l. added l w) (sym (child-only e k (listed s w.received p) (listed_sequence s w.received (suc k) 0 ps) (over-nothing s w.received p) none)
    ∙ ap (λ (l : Listing). on e l.actions) (sym (listed-step s w.received ps k 0 k p at (omega arith)) ∙ rest))

-- the children that have not begun
pub rest-found : (e : ℕ) (s : Store) (xs : List made.Proc) (row : Row) (rs : List made_code.Code) (w u v : Walk) (k from : ℕ) → min (length xs) (length row.codes) ≤ k → rs ≡ row.codes → u ≡ w
    → listed_sequence s w.received k 0 (begun-row xs row) ≡ listed_sequence s w.received from 0 (begun-row xs row)
    → v ≡ added (on e (listed_sequence s u.received k 0 (all_started (row_of (map code_view rs)))).actions) u → v ≡ added (on e (listed_sequence s w.received from 0 (begun-row xs row)).actions) w
rest-found e s xs row rs w u v k from l is same rest h =
    h ∙ ap (λ (z : Walk). added (on e (listed_sequence s z.received k 0 (all_started (row_of (map code_view rs)))).actions) z) same
    ∙ ap (λ (ys : List made_code.Code). added (on e (listed_sequence s w.received k 0 (all_started (row_of (map code_view ys)))).actions) w) is
    ∙ ap (λ (x : Listing). added (on e x.actions) w) (sym (row-past s w.received xs row k l) ∙ rest)

-- ---- the whole tree
pub tree-located : (table : UseTable) (part : Option (Bor Part)) (c : Code) (p q : Proc) → LocatedCode table part c → q ≡ p → StemsFrom p c → LocatedProc table part q
tree-located table part c p q h e t = record { code = c; located = h; stems = subst (λ (x : Proc). StemsFrom x c) (sym e) t }
