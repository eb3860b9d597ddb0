-- What is offered where a walk down along a place ends.
use Rattle.std.proofs.Common.{◌≡◌, ℕ, zero, suc, ◌+◌, ◌*◌, ◌<◌, List, [], ◌∷◌, ◌++◌, length, Bool, true, false, cond, Option, Some, None, slice_get, option_map, refl, sym, ap, ap₂, ◌∙◌, subst, eq-eqb, ne_eqb, eqb-true, arith, rules}
use Rattle.std.specs.Prelude.{◌==◌}
use Rattle.std.proofs.lemmas.List.{append-nil}
use Rattle.address.specs.declared.Entry.{Entry}
use Rattle.address.specs.declared.Entry.TheVariants.{Ordered, Branch}
use Rattle.system.specs.Expression.{Store, Expression, Decision}
use Rattle.runs.specs.Moves.{Place}
use Rattle.runs.specs.Tests.{same_place}
use Rattle.process_tree.specs.Code.{Once, assigning, receiving, Sender, sending, syncing, Code, continues, halts, moves_once, may_be_held, repeats, decides, awaits, in_turn, side_by_side, drains, Codes}
use Rattle.process_tree.specs.Remaining.{Received, with_value, residual_once, residual_sender}
use Rattle.process_tree.specs.Proc.{waiting, holding, past, Proc, idle, stopped, once, sender, fresh, turn, ended_at_once, ended, untested, skipped, took, unopened, entered, closed, sequence, parallel, drained, Procs, no_procs, proc, started}
use Rattle.process_tree.specs.Tidy.{last_moved}
use Rattle.process_tree.specs.View.{code_view, once_view, sender_view, proc_view, repeat_view, Awaiting, Testing, Looping, code_layer, await_layer, decide_layer, repeat_layer, row_layer, OfArms, OfTest, OfLoop, gate_layer, proc_layer, tested_layer, turns_layer}
use Rattle.process_tree.specs.internal.Parts.{turns_view, tested_view, gate_view}
use Rattle.process_tree.specs.internal.Received.{puts_once, puts_sender, puts_guard}
use Rattle.process_tree.specs.declared.code.Code as made_code
use Rattle.process_tree.specs.declared.code.Code.TheFolds.{the_lemmas as code_lemmas}
use Rattle.process_tree.specs.declared.code.Once as memory_once
use Rattle.process_tree.specs.declared.code.Code.TheOpen.{Code-F}
use Rattle.process_tree.specs.declared.code.Code.TheFolds.{fold-roll-Code}
use Rattle.process_tree.specs.declared.code.Code.TheVariants.{rolls-Once as rolls-code-Once}
use Rattle.process_tree.specs.declared.code.Code.TheViews.{out-Code, roll-Code, roll-out-Code}
use Rattle.process_tree.specs.declared.code.Await.{Await}
use Rattle.process_tree.specs.declared.code.Decide.{Decide}
use Rattle.process_tree.specs.declared.code.Repeat.{Repeat}
use Rattle.process_tree.specs.declared.code.Row.{Row}
use Rattle.process_tree.specs.declared.proc.Gate.{Gate}
use Rattle.process_tree.specs.declared.proc.Gate.TheOpen.{Gate-F, Proc-F, Tested-F, Turns-F}
use Rattle.process_tree.specs.declared.proc.Gate.TheFolds.{fold-roll-Gate, fold-roll-Proc, fold-roll-Tested, fold-roll-Turns}
use Rattle.process_tree.specs.declared.proc.Gate.TheViews.{out-Gate, out-Proc, out-Tested, out-Turns, roll-Gate, roll-Proc, roll-Tested, roll-Turns, roll-out-Gate, roll-out-Proc, roll-out-Tested, roll-out-Turns}
use Rattle.process_tree.specs.declared.proc.Proc as made
use Rattle.process_tree.specs.declared.proc.Proc.TheVariants.{rolls-Once}
use Rattle.process_tree.specs.declared.proc.Tested.{Tested}
use Rattle.process_tree.specs.declared.proc.Turns.{Turns}
use Rattle.process_tree.proofs.public.Forms.{once-seen}
use Rattle.local_actions.specs.Actions.{opened_arm}
use Rattle.local_actions.specs.Walk.{action_at, below}
use Rattle.local_actions.specs.internal.At.{is_under, under, chosen, once_kind, sender_kind, again_kind, only_kind, opens_here}
use Rattle.local_actions.specs.internal.Listed.{behind, open_actions, again_at, actions_of_residual, Listing, nothing, at_work, one_after, listed, listed_sequence, listed_parallel}
use Rattle.local_actions.specs.declared.action.LocalAction.{LocalAction}
use Rattle.local_actions.specs.declared.action.ActionKind.{ActionKind}
use Rattle.local_actions.specs.declared.action.ActionKind.TheVariants.{Opens}
use Rattle.local_actions.specs.declared.site.Only.{Only}
use Rattle.local_actions.specs.declared.site.Only.TheVariants.{Waiting, Holding, Again, Test, Close, Drain}
use Rattle.local_actions.proofs.public.PlacedActions.{place-true}

-- one action alone
pub once_alone : (s : Store) (o : Once) → actions_of_residual s (residual_once o) ≡ action_at [] (once_kind s o) ∷ []
once_alone s (assigning x w e) = refl
once_alone s (receiving c x) = refl

pub sender_alone : (s : Store) (x : Sender) → actions_of_residual s (residual_sender x) ≡ action_at (Ordered 0 ∷ []) (sender_kind s x) ∷ []
sender_alone s (sending c w e) = refl
sender_alone s (syncing c) = refl

pub again_alone : (s : Store) (n : ℕ) (g : Option Expression) → again_at s n g ≡ action_at (Ordered (2 * n) ∷ []) (again_kind s g) ∷ []
again_alone s n None = refl
again_alone s n (Some e) = refl

-- the opens of arms
pub opens_behind : (k : ℕ) (cs : List ℕ) → behind (Ordered 0) (opens_here k cs) ≡ open_actions k cs
opens_behind k [] = refl
opens_behind k (c ∷ cs) = ap (λ l. action_at (Ordered 0 ∷ []) (Opens c k) ∷ l) (opens_behind (suc k) cs)

-- ---- what is at an act
-- the place is that of the act, or something else
at-one : (a : Place) (n : ℕ) (r : LocalAction) (b : Bool) → r.place ≡ Ordered n ∷ [] → 0 < length a → b ≡ same_place a (Ordered n ∷ []) → is_under a r.place ≡ b
at-one [] n r b e l h = absurd (omega (arith, l))
at-one (x ∷ []) n r b e l h = ap (is_under (x ∷ [])) e ∙ sym h
at-one (x ∷ y ∷ a) n r b e l h = ap (is_under (x ∷ y ∷ a)) e ∙ sym h

pub act-here : (a : Place) (n : ℕ) (k : ActionKind) (b : Bool) → 0 < length a → b ≡ same_place a (Ordered n ∷ []) → b ≡ true
    → under a (action_at (Ordered n ∷ []) k ∷ []) ≡ below a (action_at [] k ∷ [])
act-here a n k b l h t =
    ap (λ c. cond c (action_at (Ordered n ∷ []) k ∷ []) []) (at-one a n (action_at (Ordered n ∷ []) k) b refl l h ∙ t)
    ∙ ap (λ (c : Place). action_at c k ∷ []) (sym (append-nil a ∙ place-true a (Ordered n ∷ []) (sym h ∙ t)))

pub act-elsewhere : (a : Place) (n : ℕ) (k : ActionKind) (b : Bool) → 0 < length a → b ≡ same_place a (Ordered n ∷ []) → b ≡ false
    → under a (action_at (Ordered n ∷ []) k ∷ []) ≡ []
act-elsewhere a n k b l h f =
    ap (λ c. cond c (action_at (Ordered n ∷ []) k ∷ []) []) (at-one a n (action_at (Ordered n ∷ []) k) b refl l h ∙ f)

pub opens-here : (a : Place) (j : ℕ) (cs : List ℕ) (b : Bool) → 0 < length a → b ≡ same_place a (Ordered 0 ∷ []) → b ≡ true
    → under a (open_actions j cs) ≡ below a (opens_here j cs)
opens-here a j [] b l h t = refl
opens-here a j (c ∷ cs) b l h t =
    ap₂ (λ d rs. cond d (action_at (Ordered 0 ∷ []) (Opens c j) ∷ rs) rs) (at-one a 0 (action_at (Ordered 0 ∷ []) (Opens c j)) b refl l h ∙ t) (opens-here a (suc j) cs b l h t)
    ∙ ap (λ (d : Place). action_at d (Opens c j) ∷ below a (opens_here (suc j) cs)) (sym (append-nil a ∙ place-true a (Ordered 0 ∷ []) (sym h ∙ t)))

pub opens-elsewhere : (a : Place) (j : ℕ) (cs : List ℕ) (b : Bool) → 0 < length a → b ≡ same_place a (Ordered 0 ∷ []) → b ≡ false
    → under a (open_actions j cs) ≡ []
opens-elsewhere a j [] b l h f = refl
opens-elsewhere a j (c ∷ cs) b l h f =
    ap₂ (λ d rs. cond d (action_at (Ordered 0 ∷ []) (Opens c j) ∷ rs) rs) (at-one a 0 (action_at (Ordered 0 ∷ []) (Opens c j)) b refl l h ∙ f) (opens-elsewhere a (suc j) cs b l h f)

pub not-act : (a : Place) (n : ℕ) → ((b : Place) → a ≡ Ordered n ∷ b → ⊥) → false ≡ same_place a (Ordered n ∷ [])
not-act a n h = pick (same_place a (Ordered n ∷ [])) refl
  where
    pick : (b : Bool) → same_place a (Ordered n ∷ []) ≡ b → false ≡ b
    pick true e = absurd (h [] (place-true a (Ordered n ∷ []) e))
    pick false e = refl

-- at the place of a process is what the process offers
below-none : (rs : List LocalAction) → under [] rs ≡ below [] rs
below-none [] = refl
below-none (r ∷ rs) = ap (λ l. r ∷ l) (below-none rs)

pub whole-here : (a : Place) (rs : List LocalAction) (b : Bool) → b ≡ (length a == 0) → b ≡ true → under a rs ≡ below a rs
whole-here [] rs b told is = below-none rs
whole-here (x ∷ a) rs b told is = let none : length (x ∷ a) ≡ 0 = eqb-true (length (x ∷ a)) 0 (sym told ∙ is) in absurd (omega arith)

-- ---- what is at the root of a process
behind-none : (k : ℕ) (x : Entry) (rs : List LocalAction) → chosen [] k (behind x rs) ≡ None
behind-none k x [] = refl
behind-none k x (r ∷ rs) = behind-none k x rs

after-none : (k i : ℕ) (x rest : Listing) → chosen [] k rest.actions ≡ None → chosen [] k (one_after i x rest).actions ≡ None
after-none k i x rest h = pick x.over
  where
    pick : (b : Bool) → chosen [] k (cond b rest (at_work (behind (Ordered i) x.actions))).actions ≡ None
    pick true = h
    pick false = behind-none k (Ordered i) x.actions

both-none : (k : ℕ) (x : Entry) (rs ys : List LocalAction) → chosen [] k (behind x rs ++ ys) ≡ chosen [] k ys
both-none k x [] ys = refl
both-none k x (r ∷ rs) ys = both-none k x rs ys

again-none : (k : ℕ) (s : Store) (n : ℕ) (g : Option Expression) → chosen [] k (again_at s n g) ≡ None
again-none k s n None = refl
again-none k s n (Some e) = refl

sender-none : (k : ℕ) (s : Store) (x : Sender) → chosen [] k (actions_of_residual s (residual_sender x)) ≡ None
sender-none k s (sending c w e) = refl
sender-none k s (syncing c) = refl

opens-none : (k j : ℕ) (cs : List ℕ) → chosen [] k (open_actions j cs) ≡ None
opens-none k j [] = refl
opens-none k j (c ∷ cs) = opens-none k (suc j) cs

sequence-none : (k : ℕ) (s : Store) (env : Received) (ps : Procs) (m n : ℕ) → chosen [] k (listed_sequence s env m n ps).actions ≡ None
sequence-none k s env no_procs zero n = refl
sequence-none k s env no_procs (suc m) n = refl
sequence-none k s env (proc p ps) zero n = after-none k n (listed s env p) _ (sequence-none k s env ps zero (n + 1))
sequence-none k s env (proc p ps) (suc m) n = sequence-none k s env ps m (n + 1)

parallel-none : (k : ℕ) (s : Store) (env : Received) (ps : Procs) (n : ℕ) → chosen [] k (listed_parallel s env n ps).actions ≡ None
parallel-none k s env no_procs n = refl
parallel-none k s env (proc p ps) n = both-none k (Branch n) (listed s env p).actions _ ∙ parallel-none k s env ps (n + 1)

-- only what makes one move offers anything there
abbrev is_once : Proc → Bool
is_once (once o m) = true
is_once _ = false

none-here : (k : ℕ) (s : Store) (env : Received) (q : Proc) → is_once q ≡ false → chosen [] k (listed s env q).actions ≡ None
none-here k s env idle h = refl
none-here k s env stopped h = refl
none-here k s env (once o m) h = cc
none-here k s env (sender x waiting) h = sender-none k s (puts_sender env x)
none-here k s env (sender x holding) h = refl
none-here k s env (sender x past) h = refl
none-here k s env (fresh g c) h = again-none k s 0 (puts_guard env g)
none-here k s env (turn g c n q) h = after-none k (2 * n + 1) (listed s env q) _ (again-none k s (n + 1) (puts_guard env g))
none-here k s env (ended_at_once g c) h = refl
none-here k s env (ended g c n q) h = refl
none-here k s env (untested d cs) h = refl
none-here k s env (skipped d cs) h = refl
none-here k s env (took d cs j q) h = after-none k 1 (listed s env q) nothing refl
none-here k s env (unopened ds cs) h = opens-none k 0 ds
none-here k s env (entered ds cs c v q) h = after-none k 1 (listed s (with_value c v env) q) _ refl
none-here k s env (closed ds cs c v q) h = refl
none-here k s env (sequence ps) h = sequence-none k s env ps (last_moved ps) 0
none-here k s env (parallel ps) h = parallel-none k s env ps 0
none-here k s env (drained c n) h = refl

-- the tree in memory is seen so
cond-more : (b : Bool) (p q : Proc) → is_once p ≡ false → is_once q ≡ false → is_once (cond b p q) ≡ false
cond-more true p q h k = h
cond-more false p q h k = k

turns-more : (l : Turns-F Gate made.Proc Tested Turns) (g : Option Expression) (c : Code) → is_once (turns_view (roll-Turns l) g c) ≡ false
turns-more Turns-F.Fresh g c = ap (λ (f : OfLoop). is_once (f g c)) (fold-roll-Turns OfArms Proc OfTest OfLoop gate_layer proc_layer tested_layer turns_layer Turns-F.Fresh)
turns-more Turns-F.EndedAtOnce g c = ap (λ (f : OfLoop). is_once (f g c)) (fold-roll-Turns OfArms Proc OfTest OfLoop gate_layer proc_layer tested_layer turns_layer Turns-F.EndedAtOnce)
turns-more (Turns-F.Turn n over q) g c =
    ap (λ (f : OfLoop). is_once (f g c)) (fold-roll-Turns OfArms Proc OfTest OfLoop gate_layer proc_layer tested_layer turns_layer (Turns-F.Turn n over q)) ∙ cond-more over _ _ refl refl

tested-more : (l : Tested-F Gate made.Proc Tested Turns) (d : Decision) (cs : Codes) → is_once (tested_view (roll-Tested l) d cs) ≡ false
tested-more Tested-F.Untested d cs = ap (λ (f : OfTest). is_once (f d cs)) (fold-roll-Tested OfArms Proc OfTest OfLoop gate_layer proc_layer tested_layer turns_layer Tested-F.Untested)
tested-more Tested-F.Skipped d cs = ap (λ (f : OfTest). is_once (f d cs)) (fold-roll-Tested OfArms Proc OfTest OfLoop gate_layer proc_layer tested_layer turns_layer Tested-F.Skipped)
tested-more (Tested-F.Took j q) d cs = ap (λ (f : OfTest). is_once (f d cs)) (fold-roll-Tested OfArms Proc OfTest OfLoop gate_layer proc_layer tested_layer turns_layer (Tested-F.Took j q))

gate-more : (l : Gate-F Gate made.Proc Tested Turns) (ds : List ℕ) (cs : Codes) → is_once (gate_view (roll-Gate l) ds cs) ≡ false
gate-more Gate-F.Unopened ds cs = ap (λ (f : OfArms). is_once (f ds cs)) (fold-roll-Gate OfArms Proc OfTest OfLoop gate_layer proc_layer tested_layer turns_layer Gate-F.Unopened)
gate-more (Gate-F.Opened c v over q) ds cs =
    ap (λ (f : OfArms). is_once (f ds cs)) (fold-roll-Gate OfArms Proc OfTest OfLoop gate_layer proc_layer tested_layer turns_layer (Gate-F.Opened c v over q)) ∙ cond-more over _ _ refl refl

all-turns : (t : Turns) (g : Option Expression) (c : Code) → is_once (turns_view t g c) ≡ false
all-turns t g c = subst (λ (u : Turns). is_once (turns_view u g c) ≡ false) (roll-out-Turns t) (turns-more (out-Turns t) g c)

all-tested : (t : Tested) (d : Decision) (cs : Codes) → is_once (tested_view t d cs) ≡ false
all-tested t d cs = subst (λ (u : Tested). is_once (tested_view u d cs) ≡ false) (roll-out-Tested t) (tested-more (out-Tested t) d cs)

all-gates : (t : Gate) (ds : List ℕ) (cs : Codes) → is_once (gate_view t ds cs) ≡ false
all-gates t ds cs = subst (λ (u : Gate). is_once (gate_view u ds cs) ≡ false) (roll-out-Gate t) (gate-more (out-Gate t) ds cs)

layer-more : (l : Proc-F Gate made.Proc Tested Turns) (p : made.Proc) → p ≡ roll-Proc l → ((x : memory_once.Once) (m : Bool) → p ≡ made.Once x m → ⊥) → is_once (proc_view (roll-Proc l)) ≡ false
layer-more (Proc-F.Once o m) p e n = absurd (n o m (e ∙ rolls-Once o m))
layer-more (Proc-F.Loop r t) p e n =
    ap is_once (fold-roll-Proc OfArms Proc OfTest OfLoop gate_layer proc_layer tested_layer turns_layer (Proc-F.Loop r t)) ∙ all-turns t _ _
layer-more (Proc-F.Test d t) p e n =
    ap is_once (fold-roll-Proc OfArms Proc OfTest OfLoop gate_layer proc_layer tested_layer turns_layer (Proc-F.Test d t)) ∙ all-tested t _ _
layer-more (Proc-F.Arms a g) p e n =
    ap is_once (fold-roll-Proc OfArms Proc OfTest OfLoop gate_layer proc_layer tested_layer turns_layer (Proc-F.Arms a g)) ∙ all-gates g _ _
layer-more Proc-F.Idle p e n = ap is_once (fold-roll-Proc OfArms Proc OfTest OfLoop gate_layer proc_layer tested_layer turns_layer Proc-F.Idle)
layer-more Proc-F.Stopped p e n = ap is_once (fold-roll-Proc OfArms Proc OfTest OfLoop gate_layer proc_layer tested_layer turns_layer Proc-F.Stopped)
layer-more (Proc-F.Sender s x) p e n = ap is_once (fold-roll-Proc OfArms Proc OfTest OfLoop gate_layer proc_layer tested_layer turns_layer (Proc-F.Sender s x))
layer-more (Proc-F.Sequence r ps) p e n = ap is_once (fold-roll-Proc OfArms Proc OfTest OfLoop gate_layer proc_layer tested_layer turns_layer (Proc-F.Sequence r ps))
layer-more (Proc-F.Parallel ps) p e n = ap is_once (fold-roll-Proc OfArms Proc OfTest OfLoop gate_layer proc_layer tested_layer turns_layer (Proc-F.Parallel ps))
layer-more (Proc-F.Drained c k) p e n = ap is_once (fold-roll-Proc OfArms Proc OfTest OfLoop gate_layer proc_layer tested_layer turns_layer (Proc-F.Drained c k))

pub no_once : (k : ℕ) (s : Store) (env : Received) (p : made.Proc) → ((x : memory_once.Once) (m : Bool) → p ≡ made.Once x m → ⊥) → chosen [] k (listed s env (proc_view p)).actions ≡ None
no_once k s env p h = none-here k s env (proc_view p) (subst (λ (q : made.Proc). is_once (proc_view q) ≡ false) (roll-out-Proc p) (layer-more (out-Proc p) p (sym (roll-out-Proc p)) h))

-- nor before a first move
abbrev is_move : Code → Bool
is_move (moves_once o) = true
is_move _ = false

started-more : (c : Code) → is_move c ≡ false → is_once (started c) ≡ false
started-more (moves_once x) h = cc
started-more continues h = refl
started-more halts h = refl
started-more (may_be_held x) h = refl
started-more (repeats g b) h = refl
started-more (decides d cs) h = refl
started-more (awaits ds cs) h = refl
started-more (in_turn cs) h = refl
started-more (side_by_side cs) h = refl
started-more (drains c) h = refl

fresh-more : (l : Code-F made_code.Code Await Decide Repeat Row) (c : made_code.Code) → c ≡ roll-Code l → ((x : memory_once.Once) → c ≡ made_code.Once x → ⊥) → is_move (code_view (roll-Code l)) ≡ false
fresh-more (Code-F.Once o) c e n = absurd (n o (e ∙ rolls-code-Once o))
fresh-more Code-F.Continue c e n = ap is_move (fold-roll-Code Code Awaiting Testing Looping Codes code_layer await_layer decide_layer repeat_layer row_layer Code-F.Continue)
fresh-more Code-F.Halt c e n = ap is_move (fold-roll-Code Code Awaiting Testing Looping Codes code_layer await_layer decide_layer repeat_layer row_layer Code-F.Halt)
fresh-more (Code-F.Sender s) c e n = ap is_move (fold-roll-Code Code Awaiting Testing Looping Codes code_layer await_layer decide_layer repeat_layer row_layer (Code-F.Sender s))
fresh-more (Code-F.Repeat r) c e n = ap is_move (fold-roll-Code Code Awaiting Testing Looping Codes code_layer await_layer decide_layer repeat_layer row_layer (Code-F.Repeat r))
fresh-more (Code-F.Decide d) c e n = ap is_move (fold-roll-Code Code Awaiting Testing Looping Codes code_layer await_layer decide_layer repeat_layer row_layer (Code-F.Decide d))
fresh-more (Code-F.Await a) c e n = ap is_move (fold-roll-Code Code Awaiting Testing Looping Codes code_layer await_layer decide_layer repeat_layer row_layer (Code-F.Await a))
fresh-more (Code-F.InTurn r) c e n = ap is_move (fold-roll-Code Code Awaiting Testing Looping Codes code_layer await_layer decide_layer repeat_layer row_layer (Code-F.InTurn r))
fresh-more (Code-F.SideBySide r) c e n = ap is_move (fold-roll-Code Code Awaiting Testing Looping Codes code_layer await_layer decide_layer repeat_layer row_layer (Code-F.SideBySide r))
fresh-more (Code-F.Drain d) c e n = ap is_move (fold-roll-Code Code Awaiting Testing Looping Codes code_layer await_layer decide_layer repeat_layer row_layer (Code-F.Drain d))

pub no_fresh : (k : ℕ) (s : Store) (env : Received) (c : made_code.Code) → ((x : memory_once.Once) → c ≡ made_code.Once x → ⊥) → chosen [] k (listed s env (started (code_view c))).actions ≡ None
no_fresh k s env c h =
    none-here k s env (started (code_view c))
    (started-more (code_view c) (subst (λ (d : made_code.Code). is_move (code_view d) ≡ false) (roll-out-Code c) (fresh-more (out-Code c) c (sym (roll-out-Code c)) h)))

-- what makes one move, before it has made it
pub once_here : (k : ℕ) (s : Store) (env : Received) (p : made.Proc) (o x : memory_once.Once) (m : Bool) → p ≡ made.Once o m → x ≡ o → m ≡ false
    → chosen [] k (listed s env (proc_view p)).actions ≡ chosen [] k (action_at [] (once_kind s (puts_once env (once_view x))) ∷ [])
once_here k s env p o x m is same f =
    ap (λ q. chosen [] k (listed s env q).actions) (once-seen p o x m is same ∙ ap (once (once_view x)) f)
    ∙ ap (chosen [] k) (once_alone s (puts_once env (once_view x)))

pub once_gone : (k : ℕ) (s : Store) (env : Received) (p : made.Proc) (o x : memory_once.Once) (m : Bool) → p ≡ made.Once o m → m ≡ true → chosen [] k (listed s env (proc_view p)).actions ≡ None
once_gone k s env p o x m is t = ap (λ q. chosen [] k (listed s env q).actions) (once-seen p o o m is refl ∙ ap (once (once_view o)) t)

pub fresh_here : (k : ℕ) (s : Store) (env : Received) (c : made_code.Code) (o x : memory_once.Once) → c ≡ made_code.Once o → x ≡ o
    → chosen [] k (listed s env (started (code_view c))).actions ≡ chosen [] k (action_at [] (once_kind s (puts_once env (once_view x))) ∷ [])
fresh_here k s env c o x is same =
    ap (λ q. chosen [] k (listed s env (started (code_view q))).actions) is
    ∙ ap (λ q. chosen [] k (listed s env (started q)).actions) view
    ∙ ap (λ (y : memory_once.Once). chosen [] k (actions_of_residual s (residual_once (puts_once env (once_view y))))) (sym same)
    ∙ ap (chosen [] k) (once_alone s (puts_once env (once_view x)))
  where
    view : code_view (made_code.Once o) ≡ moves_once (once_view o)
    view = search (rules, code_lemmas)

-- the open of one arm
open-at : (j i : ℕ) (cs : List ℕ) → chosen [] (j + i) (opens_here j cs) ≡ option_map (λ c. Opens c (j + i)) (slice_get cs i)
open-at j i [] = refl
open-at j zero (c ∷ cs) =
    let same : j + 0 ≡ j = omega arith in
    ap (λ b. cond b (Some (Opens c j)) (chosen [] (j + 0) (opens_here (suc j) cs))) (eq-eqb j (j + 0) (sym same)) ∙ ap (λ k. Some (Opens c k)) (sym same)
open-at j (suc i) (c ∷ cs) =
    let next : suc j + i ≡ j + suc i = omega arith in
    ap (λ b. cond b (Some (Opens c j)) (chosen [] (j + suc i) (opens_here (suc j) cs))) (ne_eqb j (j + suc i) (λ e. omega (arith, e)))
    ∙ subst (λ k. chosen [] k (opens_here (suc j) cs) ≡ option_map (λ d. Opens d k) (slice_get cs i)) next (open-at (suc j) i cs)

pub open_is : (k : ℕ) (cs : List ℕ) → chosen [] k (opens_here 0 cs) ≡ option_map (λ c. Opens c k) (slice_get cs k)
open_is k cs = let same : 0 + k ≡ k = omega arith in subst (λ i. chosen [] i (opens_here 0 cs) ≡ option_map (λ c. Opens c i) (slice_get cs k)) same (open-at 0 k cs)

-- what acts alone opens no arm
sender-arm : (s : Store) (x : Sender) → opened_arm (sender_kind s x) ≡ 0
sender-arm s (sending c w e) = refl
sender-arm s (syncing c) = refl

again-arm : (s : Store) (g : Option Expression) → opened_arm (again_kind s g) ≡ 0
again-arm s None = refl
again-arm s (Some e) = refl

once-arm : (s : Store) (o : Once) → opened_arm (once_kind s o) ≡ 0
once-arm s (assigning x w e) = refl
once-arm s (receiving c x) = refl

only-arm : (s : Store) (env : Received) (x : Only) → opened_arm (only_kind s env x) ≡ 0
only-arm s env (Waiting x) = sender-arm s (puts_sender env (sender_view x.now))
only-arm s env (Holding x) = refl
only-arm s env (Again r) = again-arm s (puts_guard env (repeat_view r.now).0)
only-arm s env (Test d) = refl
only-arm s env (Close c) = refl
only-arm s env (Drain c) = refl

chosen-one : (k : ℕ) (x : ActionKind) → opened_arm x ≡ 0 → (k ≡ 0 → Some x ≡ chosen [] k (action_at [] x ∷ [])) × (0 < k → None ≡ chosen [] k (action_at [] x ∷ []))
chosen-one k x e = (
  λ z. sym (ap (λ b. cond b (Some x) None) (eq-eqb (opened_arm x) k (e ∙ sym z))),
  λ l. sym (ap (λ b. cond b (Some x) None) (ne_eqb (opened_arm x) k (λ f. omega (arith, l, e, f)))),
)

pub only_chosen : (s : Store) (env : Received) (k : ℕ) (x : Only) → k ≡ 0 → Some (only_kind s env x) ≡ chosen [] k (action_at [] (only_kind s env x) ∷ [])
only_chosen s env k x z = (chosen-one k (only_kind s env x) (only-arm s env x)).0 z

pub only_not : (s : Store) (env : Received) (k : ℕ) (x : Only) → 0 < k → None ≡ chosen [] k (action_at [] (only_kind s env x) ∷ [])
only_not s env k x l = (chosen-one k (only_kind s env x) (only-arm s env x)).1 l

pub once_is_chosen : (s : Store) (k : ℕ) (o : Once) → k ≡ 0 → Some (once_kind s o) ≡ chosen [] k (action_at [] (once_kind s o) ∷ [])
once_is_chosen s k o z = (chosen-one k (once_kind s o) (once-arm s o)).0 z

pub once_not : (s : Store) (k : ℕ) (o : Once) → 0 < k → None ≡ chosen [] k (action_at [] (once_kind s o) ∷ [])
once_not s k o l = (chosen-one k (once_kind s o) (once-arm s o)).1 l

-- what makes one move offers nothing below its place
pub once-below : (a : Place) (s : Store) (env : Received) (o : Once) (m : Bool) → 0 < length a → under a (listed s env (once o m)).actions ≡ []
once-below a s env o true l = refl
once-below a s env o false l = ap (under a) (once_alone s (puts_once env o)) ∙ pick a l
  where
    pick : (a : Place) → 0 < length a → under a (action_at [] (once_kind s (puts_once env o)) ∷ []) ≡ []
    pick [] l = absurd (omega (arith, l))
    pick (x ∷ a) l = refl

pub proc-once-below : (a : Place) (s : Store) (env : Received) (p : made.Proc) (o : memory_once.Once) (m : Bool) → p ≡ made.Once o m → 0 < length a → under a (listed s env (proc_view p)).actions ≡ []
proc-once-below a s env p o m is l = ap (λ q. under a (listed s env q).actions) (once-seen p o o m is refl) ∙ once-below a s env (once_view o) m l

pub code-once-below : (a : Place) (s : Store) (env : Received) (c : made_code.Code) (o : memory_once.Once) → c ≡ made_code.Once o → 0 < length a → under a (listed s env (started (code_view c))).actions ≡ []
code-once-below a s env c o is l = ap (λ q. under a (listed s env (started (code_view q))).actions) is ∙ ap (λ q. under a (listed s env (started q)).actions) view ∙ once-below a s env (once_view o) false l
  where
    view : code_view (made_code.Once o) ≡ moves_once (once_view o)
    view = search (rules, code_lemmas)
