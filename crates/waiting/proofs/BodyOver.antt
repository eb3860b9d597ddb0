-- Nothing of the body is left exactly where the first branch of the tree is finished.
use Rattle.std.proofs.Common.{◌≡◌, ℕ, zero, suc, ◌+◌, ◌*◌, ◌<◌, List, [], map, Bool, true, false, cond, Option, Some, None, refl, sym, ◌∙◌, ap, subst, arith, rules}
use Rattle.std.specs.Global.{Vec}
use Rattle.system.specs.Expression.{Expression, Decision}
use Rattle.system.specs.Residual.{Residual, done, beside, closing, within, along}
use Rattle.process_tree.specs.Code.{Once, assigning, receiving, Sender, sending, syncing, Code, Codes}
use Rattle.process_tree.specs.Proc.{waiting, holding, past, Proc, idle, stopped, once, sender, fresh, turn, ended_at_once, ended, untested, skipped, took, unopened, entered, closed, sequence, parallel, drained, Procs, no_procs, proc, finished}
use Rattle.process_tree.specs.Remaining.{Received, with_value, puts, residual_once, residual_sender, again, residual, residual_arms, remaining, remaining_sequence, remaining_parallel}
use Rattle.process_tree.specs.Tidy.{Tidy, TidySideBySide}
use Rattle.process_tree.specs.View.{proc_view, procs_of, OfArms, OfTest, OfLoop, gate_layer, proc_layer, tested_layer, turns_layer}
use Rattle.process_tree.specs.internal.Parts.{turns_view, tested_view, gate_view}
use Rattle.process_tree.specs.internal.Received.{puts_once, puts_sender, puts_guard}
use Rattle.process_tree.specs.declared.proc.Gate.{Gate}
use Rattle.process_tree.specs.declared.proc.Proc as made
use Rattle.process_tree.specs.declared.proc.Proc.TheVariants.{rolls-Parallel}
use Rattle.process_tree.specs.declared.proc.Tested.{Tested}
use Rattle.process_tree.specs.declared.proc.Turns.{Turns}
use Rattle.process_tree.specs.declared.proc.Gate.TheOpen.{Gate-F, Proc-F, Tested-F, Turns-F}
use Rattle.process_tree.specs.declared.proc.Gate.TheFolds.{the_lemmas, fold-roll-Gate, fold-roll-Proc, fold-roll-Tested, fold-roll-Turns}
use Rattle.process_tree.specs.declared.proc.Gate.TheViews.{out-Gate, out-Proc, out-Tested, out-Turns, roll-Gate, roll-Proc, roll-Tested, roll-Turns, roll-out-Gate, roll-out-Proc, roll-out-Tested, roll-out-Turns}
use Rattle.process_tree.proofs.public.Puts.{puts-once, puts-sender, puts-again, puts-test, puts-choose}
use Rattle.process_tree.proofs.public.Formed.{finished-done}
use Rattle.waiting.specs.Progress.{body_is_over}
use Rattle.waiting.specs.internal.Body.{first_finished}

-- ---- what is none of branches leaves no branches
abbrev is_fork : Residual → Bool
is_fork (beside k child rest) = true
is_fork _ = false

once-plain : (o : Once) → is_fork (residual_once o) ≡ false
once-plain (assigning x w e) = refl
once-plain (receiving c x) = refl

sender-plain : (s : Sender) → is_fork (residual_sender s) ≡ false
sender-plain (sending c w e) = refl
sender-plain (syncing c) = refl

again-plain : (n : ℕ) (g : Option Expression) (r : Residual) → is_fork (again n g r) ≡ false
again-plain n None r = refl
again-plain n (Some e) r = refl

within-plain : (n : ℕ) (r q : Residual) → is_fork q ≡ false → is_fork (within n r q) ≡ false
within-plain n done q h = h
within-plain n r q h = refl

looping-plain : (env : Received) (n : ℕ) (g : Option Expression) (r : Residual) → is_fork (puts env (again n g r)) ≡ false
looping-plain env n g r = ap is_fork (puts-again env n g r) ∙ again-plain n (puts_guard env g) (puts env r)

sequence-plain : (ps : Procs) (env : Received) (n : ℕ) → is_fork (remaining_sequence env n ps) ≡ false
sequence-plain no_procs env n = refl
sequence-plain (proc p ps) env n =
    within-plain n (remaining env p) (remaining_sequence env (n + 1) ps) (sequence-plain ps env (n + 1))

abbrev is_plain : Proc → Bool
is_plain (parallel ps) = false
is_plain _ = true

plain : (p : Proc) (env : Received) → is_plain p ≡ true → is_fork (remaining env p) ≡ false
plain idle env h = refl
plain stopped env h = refl
plain (once o true) env h = refl
plain (once o false) env h = ap is_fork (puts-once env o) ∙ once-plain (puts_once env o)
plain (sender s waiting) env h = ap is_fork (puts-sender env s) ∙ sender-plain (puts_sender env s)
plain (sender s holding) env h = refl
plain (sender s past) env h = refl
plain (fresh g c) env h = looping-plain env 0 g (residual c)
plain (turn g c n q) env h =
    within-plain (2 * n + 1) (remaining env q) (puts env (again (n + 1) g (residual c))) (looping-plain env (n + 1) g (residual c))
plain (ended_at_once g c) env h = refl
plain (ended g c n q) env h = refl
plain (untested d cs) env h = ap is_fork (puts-test env d (residual_arms cs))
plain (skipped d cs) env h = refl
plain (took d cs j q) env h = within-plain 1 (remaining env q) done refl
plain (unopened ds cs) env h = ap is_fork (puts-choose env ds (residual_arms cs))
plain (entered ds cs c v q) env h = within-plain 1 (remaining (with_value c v env) q) (closing c) refl
plain (closed ds cs c v q) env h = refl
plain (sequence ps) env h = sequence-plain ps env 0
plain (parallel ps) env h = cc
plain (drained c n) env h = refl

-- ---- where nothing is left, the process is finished, and else it is not
abbrev is_nothing : Residual → Bool
is_nothing done = true
is_nothing _ = false

nothing-done : (r : Residual) → is_nothing r ≡ true → r ≡ done
nothing-done done e = refl
nothing-done r e = cc

same-truth : (a b : Bool) → (a ≡ true → b ≡ true) → (b ≡ true → a ≡ true) → a ≡ b
same-truth true b f g = sym (f refl)
same-truth false true f g = g refl
same-truth false false f g = refl

nothing-finished : (p : Proc) (env : Received) → is_nothing (remaining env p) ≡ finished p
nothing-finished p env =
    same-truth (is_nothing (remaining env p)) (finished p)
    (λ e. (finished-done p env).1 (nothing-done (remaining env p) e)) (λ e. ap is_nothing ((finished-done p env).0 e))

plain-over : (r : Residual) → is_fork r ≡ false → body_is_over r ≡ is_nothing r
plain-over done h = refl
plain-over (beside k child rest) h = cc
plain-over r h = refl

-- ---- branches side by side
along-later : (n : ℕ) (r rest : Residual) → 0 < n → body_is_over rest ≡ true → body_is_over (along n r rest) ≡ true
along-later zero r rest l h = absurd (omega (arith, l))
along-later (suc n) done rest l h = h
along-later (suc n) r rest l h = refl

later-over : (ps : Procs) (env : Received) (n : ℕ) → 0 < n → body_is_over (remaining_parallel env n ps) ≡ true
later-over no_procs env n l = refl
later-over (proc p ps) env n l =
    along-later n (remaining env p) (remaining_parallel env (n + 1) ps) l (later-over ps env (n + 1) (omega (arith, l)))

along-first : (r rest : Residual) → body_is_over rest ≡ true → body_is_over (along 0 r rest) ≡ is_nothing r
along-first done rest h = h
along-first r rest h = refl

first-over : (ps : Procs) (env : Received) → body_is_over (remaining_parallel env 0 ps) ≡ first_finished ps
first-over no_procs env = refl
first-over (proc p ps) env =
    along-first (remaining env p) (remaining_parallel env 1 ps) (later-over ps env 1 (omega arith)) ∙ nothing-finished p env

-- ---- the tree in memory is seen so
cond-plain : (b : Bool) (p q : Proc) → is_plain p ≡ true → is_plain q ≡ true → is_plain (cond b p q) ≡ true
cond-plain true p q h k = h
cond-plain false p q h k = k

turns-layer-plain : (l : Turns-F Gate made.Proc Tested Turns) (g : Option Expression) (c : Code) → is_plain (turns_view (roll-Turns l) g c) ≡ true
turns-layer-plain Turns-F.Fresh g c =
    ap (λ (f : OfLoop). is_plain (f g c)) (fold-roll-Turns OfArms Proc OfTest OfLoop gate_layer proc_layer tested_layer turns_layer Turns-F.Fresh)
turns-layer-plain Turns-F.EndedAtOnce g c =
    ap (λ (f : OfLoop). is_plain (f g c)) (fold-roll-Turns OfArms Proc OfTest OfLoop gate_layer proc_layer tested_layer turns_layer Turns-F.EndedAtOnce)
turns-layer-plain (Turns-F.Turn n over q) g c =
    ap (λ (f : OfLoop). is_plain (f g c)) (fold-roll-Turns OfArms Proc OfTest OfLoop gate_layer proc_layer tested_layer turns_layer (Turns-F.Turn n over q))
    ∙ cond-plain over _ _ refl refl

turns-plain : (t : Turns) (g : Option Expression) (c : Code) → is_plain (turns_view t g c) ≡ true
turns-plain t g c = subst (λ (u : Turns). is_plain (turns_view u g c) ≡ true) (roll-out-Turns t) (turns-layer-plain (out-Turns t) g c)

tested-layer-plain : (l : Tested-F Gate made.Proc Tested Turns) (d : Decision) (cs : Codes) → is_plain (tested_view (roll-Tested l) d cs) ≡ true
tested-layer-plain Tested-F.Untested d cs =
    ap (λ (f : OfTest). is_plain (f d cs)) (fold-roll-Tested OfArms Proc OfTest OfLoop gate_layer proc_layer tested_layer turns_layer Tested-F.Untested)
tested-layer-plain Tested-F.Skipped d cs =
    ap (λ (f : OfTest). is_plain (f d cs)) (fold-roll-Tested OfArms Proc OfTest OfLoop gate_layer proc_layer tested_layer turns_layer Tested-F.Skipped)
tested-layer-plain (Tested-F.Took j q) d cs =
    ap (λ (f : OfTest). is_plain (f d cs)) (fold-roll-Tested OfArms Proc OfTest OfLoop gate_layer proc_layer tested_layer turns_layer (Tested-F.Took j q))

tested-plain : (t : Tested) (d : Decision) (cs : Codes) → is_plain (tested_view t d cs) ≡ true
tested-plain t d cs = subst (λ (u : Tested). is_plain (tested_view u d cs) ≡ true) (roll-out-Tested t) (tested-layer-plain (out-Tested t) d cs)

gate-layer-plain : (l : Gate-F Gate made.Proc Tested Turns) (ds : List ℕ) (cs : Codes) → is_plain (gate_view (roll-Gate l) ds cs) ≡ true
gate-layer-plain Gate-F.Unopened ds cs =
    ap (λ (f : OfArms). is_plain (f ds cs)) (fold-roll-Gate OfArms Proc OfTest OfLoop gate_layer proc_layer tested_layer turns_layer Gate-F.Unopened)
gate-layer-plain (Gate-F.Opened c v over q) ds cs =
    ap (λ (f : OfArms). is_plain (f ds cs)) (fold-roll-Gate OfArms Proc OfTest OfLoop gate_layer proc_layer tested_layer turns_layer (Gate-F.Opened c v over q))
    ∙ cond-plain over _ _ refl refl

gate-plain : (t : Gate) (ds : List ℕ) (cs : Codes) → is_plain (gate_view t ds cs) ≡ true
gate-plain t ds cs = subst (λ (u : Gate). is_plain (gate_view u ds cs) ≡ true) (roll-out-Gate t) (gate-layer-plain (out-Gate t) ds cs)

layer-plain : (l : Proc-F Gate made.Proc Tested Turns) (p : made.Proc) → p ≡ roll-Proc l → ((ps : Vec made.Proc) → p ≡ made.Parallel ps → ⊥) → is_plain (proc_view (roll-Proc l)) ≡ true
layer-plain Proc-F.Idle p e n = ap is_plain (fold-roll-Proc OfArms Proc OfTest OfLoop gate_layer proc_layer tested_layer turns_layer Proc-F.Idle)
layer-plain Proc-F.Stopped p e n = ap is_plain (fold-roll-Proc OfArms Proc OfTest OfLoop gate_layer proc_layer tested_layer turns_layer Proc-F.Stopped)
layer-plain (Proc-F.Once o b) p e n = ap is_plain (fold-roll-Proc OfArms Proc OfTest OfLoop gate_layer proc_layer tested_layer turns_layer (Proc-F.Once o b))
layer-plain (Proc-F.Sender s x) p e n = ap is_plain (fold-roll-Proc OfArms Proc OfTest OfLoop gate_layer proc_layer tested_layer turns_layer (Proc-F.Sender s x))
layer-plain (Proc-F.Loop r t) p e n =
    ap is_plain (fold-roll-Proc OfArms Proc OfTest OfLoop gate_layer proc_layer tested_layer turns_layer (Proc-F.Loop r t)) ∙ turns-plain t _ _
layer-plain (Proc-F.Test d t) p e n =
    ap is_plain (fold-roll-Proc OfArms Proc OfTest OfLoop gate_layer proc_layer tested_layer turns_layer (Proc-F.Test d t)) ∙ tested-plain t _ _
layer-plain (Proc-F.Arms a g) p e n =
    ap is_plain (fold-roll-Proc OfArms Proc OfTest OfLoop gate_layer proc_layer tested_layer turns_layer (Proc-F.Arms a g)) ∙ gate-plain g _ _
layer-plain (Proc-F.Sequence r ps) p e n = ap is_plain (fold-roll-Proc OfArms Proc OfTest OfLoop gate_layer proc_layer tested_layer turns_layer (Proc-F.Sequence r ps))
layer-plain (Proc-F.Parallel ps) p e n = absurd (n ps (e ∙ rolls-Parallel ps))
layer-plain (Proc-F.Drained c k) p e n = ap is_plain (fold-roll-Proc OfArms Proc OfTest OfLoop gate_layer proc_layer tested_layer turns_layer (Proc-F.Drained c k))

seen-plain : (p : made.Proc) → ((ps : Vec made.Proc) → p ≡ made.Parallel ps → ⊥) → is_plain (proc_view p) ≡ true
seen-plain p n =
    subst (λ (q : made.Proc). is_plain (proc_view q) ≡ true) (roll-out-Proc p) (layer-plain (out-Proc p) p (sym (roll-out-Proc p)) n)

-- ---- what the code finds
pub other-over : (p : made.Proc) (P : Proc) (b : Bool) → ((ps : Vec made.Proc) → p ≡ made.Parallel ps → ⊥) → proc_view p ≡ P → b ≡ finished P
    → b ≡ body_is_over (remaining [] P)
other-over p P b n seen found =
    let shape : is_plain P ≡ true = ap is_plain (sym seen) ∙ seen-plain p n in
    found ∙ sym (plain-over (remaining [] P) (plain P [] shape) ∙ nothing-finished P [])

pub fork-over : (p : made.Proc) (ps : Vec made.Proc) (P : Proc) (xs : List made.Proc) (b : Bool) → p ≡ made.Parallel ps → proc_view p ≡ P → xs ≡ ps.items
    → (TidySideBySide (procs_of (map proc_view xs)) → b ≡ first_finished (procs_of (map proc_view xs))) → Tidy P → b ≡ body_is_over (remaining [] P)
fork-over p ps P xs b is seen same found tidy =
    let shape : P ≡ parallel (procs_of (map proc_view xs)) =
    sym seen ∙ ap proc_view is ∙ view ∙ ap (λ (ys : List made.Proc). parallel (procs_of (map proc_view ys))) (sym same) in
    found (subst Tidy shape tidy) ∙ sym (first-over (procs_of (map proc_view xs)) []) ∙ ap (λ (q : Proc). body_is_over (remaining [] q)) (sym shape)
  where
    view : proc_view (made.Parallel ps) ≡ parallel (procs_of (map proc_view ps.items))
    view = search (rules, the_lemmas)
