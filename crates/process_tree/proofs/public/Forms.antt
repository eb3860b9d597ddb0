-- What a process in memory is seen as, by its form; and so a move of its part is a move of the process.
use Rattle.std.proofs.Common.{◌≡◌, ℕ, List, map, Bool, true, false, cond, Option, Some, Result, IsSome, IfOk, OnOk, OnErr, sym, ap, ◌∙◌, subst, rules}
use Rattle.std.specs.Global.{Box, Vec}
use Rattle.std.proofs.lemmas.Result.{IfOk-weaker, on_ok_weaker, on_err_weaker}
use Rattle.value.specs.Word.{Word}
use Rattle.system.specs.Expression.{Expression, Decision}
use Rattle.runs.specs.Moves.{Place}
use Rattle.runs.specs.declared.ask.Ask.{Ask}
use Rattle.process_tree.specs.Advanced.{advanced}
use Rattle.process_tree.specs.Code.{Code, Codes}
use Rattle.process_tree.specs.Proc.{Proc, once, sender, fresh, untested, took, unopened, sequence, parallel}
use Rattle.process_tree.specs.Retreated.{retreated}
use Rattle.process_tree.specs.View.{once_view, sender_view, phase_view, repeat_view, decide_view, await_view, row_view, proc_view, procs_of, begun_of, turn_of, opened_of, out_view}
use Rattle.process_tree.specs.declared.code.Await.{Await}
use Rattle.process_tree.specs.declared.code.Decide.{Decide}
use Rattle.process_tree.specs.declared.code.Once.{Once}
use Rattle.process_tree.specs.declared.code.Repeat.{Repeat}
use Rattle.process_tree.specs.declared.code.Row.{Row}
use Rattle.process_tree.specs.declared.code.Sender.{Sender}
use Rattle.process_tree.specs.declared.proc.Gate as made_gate
use Rattle.process_tree.specs.declared.proc.Gate.{Gate}
use Rattle.process_tree.specs.declared.proc.Gate.TheFolds.{the_lemmas}
use Rattle.process_tree.specs.declared.proc.Phase.{Phase}
use Rattle.process_tree.specs.declared.proc.Proc as made
use Rattle.process_tree.specs.declared.proc.Tested as made_tested
use Rattle.process_tree.specs.declared.proc.Tested.{Tested}
use Rattle.process_tree.specs.declared.proc.Turns as made_turns
use Rattle.process_tree.specs.declared.proc.Turns.{Turns}
use Rattle.process_tree.specs.internal.Parts.{turns_view, tested_view, gate_view}

-- each form as it is made
once-is : (o : Once) (m : Bool) → proc_view (made.Once o m) ≡ once (once_view o) m
once-is o m = search (rules, the_lemmas)

sender-is : (s : Sender) (f : Phase) → proc_view (made.Sender s f) ≡ sender (sender_view s) (phase_view f)
sender-is s f = search (rules, the_lemmas)

loop-is : (r : Repeat) (t : Turns) → proc_view (made.Loop r t) ≡ turns_view t (repeat_view r).0 (repeat_view r).1
loop-is r t = search (rules, the_lemmas)

test-is : (d : Decide) (t : Tested) → proc_view (made.Test d t) ≡ tested_view t (decide_view d).0 (decide_view d).1
test-is d t = search (rules, the_lemmas)

arms-is : (w : Await) (g : Gate) → proc_view (made.Arms w g) ≡ gate_view g (await_view w).0 (await_view w).1
arms-is w g = search (rules, the_lemmas)

sequence-is : (r : Row) (begun : Vec made.Proc) → proc_view (made.Sequence r begun) ≡ sequence (begun_of (map proc_view begun.items) (row_view r))
sequence-is r begun = search (rules, the_lemmas)

parallel-is : (procs : Vec made.Proc) → proc_view (made.Parallel procs) ≡ parallel (procs_of (map proc_view procs.items))
parallel-is procs = search (rules, the_lemmas)

turn-is : (g : Option Expression) (c : Code) (n : ℕ) (over : Bool) (q : Box made.Proc) → turns_view (made_turns.Turn n over q) g c ≡ turn_of over g c n (proc_view q.value)
turn-is g c n over q = search (rules, the_lemmas)

took-is : (d : Decision) (cs : Codes) (j : ℕ) (q : Box made.Proc) → tested_view (made_tested.Took j q) d cs ≡ took d cs j (proc_view q.value)
took-is d cs j q = search (rules, the_lemmas)

opened-is : (ds : List ℕ) (cs : Codes) (c : ℕ) (v : Option Word) (over : Bool) (q : Box made.Proc) → gate_view (made_gate.Opened c v over q) ds cs ≡ opened_of over ds cs c v (proc_view q.value)
opened-is ds cs c v over q = search (rules, the_lemmas)

-- before their first move
pub fresh-is : (g : Option Expression) (c : Code) → turns_view made_turns.Fresh g c ≡ fresh g c
fresh-is g c = search (rules, the_lemmas)

pub untested-is : (d : Decision) (cs : Codes) → tested_view made_tested.Untested d cs ≡ untested d cs
untested-is d cs = search (rules, the_lemmas)

pub unopened-is : (ds : List ℕ) (cs : Codes) → gate_view made_gate.Unopened ds cs ≡ unopened ds cs
unopened-is ds cs = search (rules, the_lemmas)

-- and as the code takes it apart: by parts that are equal to its own
pub loop-seen : (p : made.Proc) (r s : Repeat) (t u : Turns) → p ≡ made.Loop r t → s ≡ r → u ≡ t → proc_view p ≡ turns_view u (repeat_view s).0 (repeat_view s).1
loop-seen p r s t u is same also =
    ap proc_view is ∙ loop-is r t ∙ sym (λ i. turns_view (also i) (repeat_view (same i)).0 (repeat_view (same i)).1)

pub test-seen : (p : made.Proc) (d e : Decide) (t u : Tested) → p ≡ made.Test d t → e ≡ d → u ≡ t → proc_view p ≡ tested_view u (decide_view e).0 (decide_view e).1
test-seen p d e t u is same also =
    ap proc_view is ∙ test-is d t ∙ sym (λ i. tested_view (also i) (decide_view (same i)).0 (decide_view (same i)).1)

pub arms-seen : (p : made.Proc) (w v : Await) (g h : Gate) → p ≡ made.Arms w g → v ≡ w → h ≡ g → proc_view p ≡ gate_view h (await_view v).0 (await_view v).1
arms-seen p w v g h is same also =
    ap proc_view is ∙ arms-is w g ∙ sym (λ i. gate_view (also i) (await_view (same i)).0 (await_view (same i)).1)

pub sequence-seen : (p : made.Proc) (r s : Row) (begun : Vec made.Proc) (xs : List made.Proc) → p ≡ made.Sequence r begun → s ≡ r → xs ≡ begun.items
    → proc_view p ≡ sequence (begun_of (map proc_view xs) (row_view s))
sequence-seen p r s begun xs is same also =
    ap proc_view is ∙ sequence-is r begun ∙ sym (λ i. sequence (begun_of (map proc_view (also i)) (row_view (same i))))

pub parallel-seen : (p : made.Proc) (procs : Vec made.Proc) (xs : List made.Proc) → p ≡ made.Parallel procs → xs ≡ procs.items
    → proc_view p ≡ parallel (procs_of (map proc_view xs))
parallel-seen p procs xs is also = ap proc_view is ∙ parallel-is procs ∙ sym (ap (λ xs. parallel (procs_of (map proc_view xs))) also)

pub once-seen : (p : made.Proc) (o x : Once) (m : Bool) → p ≡ made.Once o m → x ≡ o → proc_view p ≡ once (once_view x) m
once-seen p o x m is same = ap proc_view is ∙ once-is o m ∙ sym (ap (λ x. once (once_view x) m) same)

pub sender-seen : (p : made.Proc) (s x : Sender) (f : Phase) → p ≡ made.Sender s f → x ≡ s → proc_view p ≡ sender (sender_view x) (phase_view f)
sender-seen p s x f is same = ap proc_view is ∙ sender-is s f ∙ sym (ap (λ x. sender (sender_view x) (phase_view f)) same)

-- the same of the parts
pub turn-seen : (g : Option Expression) (c : Code) (t : Turns) (n : ℕ) (over : Bool) (q : Box made.Proc) (body : made.Proc) → t ≡ made_turns.Turn n over q → body ≡ q.value
    → turns_view t g c ≡ turn_of over g c n (proc_view body)
turn-seen g c t n over q body is same = ap (λ (t : Turns). turns_view t g c) is ∙ turn-is g c n over q ∙ sym (ap (λ b. turn_of over g c n (proc_view b)) same)

pub took-seen : (d : Decision) (cs : Codes) (t : Tested) (j : ℕ) (q : Box made.Proc) (body : made.Proc) → t ≡ made_tested.Took j q → body ≡ q.value
    → tested_view t d cs ≡ took d cs j (proc_view body)
took-seen d cs t j q body is same = ap (λ (t : Tested). tested_view t d cs) is ∙ took-is d cs j q ∙ sym (ap (λ b. took d cs j (proc_view b)) same)

pub opened-seen : (ds : List ℕ) (cs : Codes) (g : Gate) (c : ℕ) (v : Option Word) (over : Bool) (q : Box made.Proc) (body : made.Proc) → g ≡ made_gate.Opened c v over q
    → body ≡ q.value → gate_view g ds cs ≡ opened_of over ds cs c v (proc_view body)
opened-seen ds cs g c v over q body is same =
    ap (λ (g : Gate). gate_view g ds cs) is ∙ opened-is ds cs c v over q ∙ sym (ap (λ b. opened_of over ds cs c v (proc_view b)) same)

-- a move that is possible is possible of what the process is seen as
pub asked-as : (p v : Proc) (a : Place) (k : Ask) → p ≡ v → IsSome (advanced p a k) → IsSome (advanced v a k)
asked-as p v a k e h = subst (λ x. IsSome (advanced x a k)) e h

-- and the move of that is the move of the process
pub moved-as : {E : Type 0} (p q v w : Proc) (a : Place) (k : Ask) (told : Result (Option (Box made.Proc)) E) → p ≡ v → q ≡ w
    → IfOk told (λ out. advanced v a k ≡ Some (w, out_view out)) → IfOk told (λ out. advanced p a k ≡ Some (q, out_view out))
moved-as p q v w a k told e d h =
    IfOk-weaker told _ _ (λ out g. ap (λ x. advanced x a k) e ∙ g ∙ ap (λ x. Some (x, out_view out)) (sym d)) h

-- what stays as it is seen stays
pub stays-as : {E : Type 0} (p q v w : Proc) (told : Result (Option (Box made.Proc)) E) → p ≡ v → q ≡ w → OnErr told (w ≡ v) → OnErr told (q ≡ p)
stays-as p q v w told e d h = on_err_weaker told (λ g. d ∙ g ∙ sym e) h

-- the same of a move that is taken back
pub asked-back-as : (p v : Proc) (a : Place) (out : Option Proc) → p ≡ v → IsSome (retreated p a out) → IsSome (retreated v a out)
asked-back-as p v a out e h = subst (λ x. IsSome (retreated x a out)) e h

pub back-as : (p q v w : Proc) (a : Place) (out : Option Proc) → p ≡ v → q ≡ w → retreated v a out ≡ Some w → retreated p a out ≡ Some q
back-as p q v w a out e d h = ap (λ x. retreated x a out) e ∙ h ∙ ap Some (sym d)

-- where the answer is whether another process is before it
pub back-to-as : (p q v w x : Proc) (b : Bool) (a : Place) (out : Option Proc) → p ≡ v → q ≡ w → b ≡ true → retreated v a out ≡ Some (cond b w x)
    → retreated p a out ≡ Some q
back-to-as p q v w x b a out e d t h = ap (λ y. retreated y a out) e ∙ h ∙ ap (λ b. Some (cond b w x)) t ∙ ap Some (sym d)

pub back-in-as : (p q v w x : Proc) (b : Bool) (a : Place) (out : Option Proc) → p ≡ v → q ≡ x → b ≡ false → retreated v a out ≡ Some (cond b w x)
    → retreated p a out ≡ Some q
back-in-as p q v w x b a out e d t h = ap (λ y. retreated y a out) e ∙ h ∙ ap (λ b. Some (cond b w x)) t ∙ ap Some (sym d)

-- and of what is told of a process, or done with it
pub done-as : {X T E : Type 0} (f : Proc → X) (p v : Proc) (x : X) (told : Result T E) → p ≡ v → OnOk told (x ≡ f v) → OnOk told (x ≡ f p)
done-as f p v x told e h = on_ok_weaker told (λ g. g ∙ sym (ap f e)) h

pub told-as : {T E : Type 0} (f : Proc → T) (p v : Proc) (told : Result T E) → p ≡ v → IfOk told (λ x. x ≡ f v) → IfOk told (λ x. x ≡ f p)
told-as f p v told e h = IfOk-weaker told _ _ (λ x g. g ∙ sym (ap f e)) h

pub so-as : {T E : Type 0} (P : Proc → Type 0) (p v : Proc) (told : Result T E) → p ≡ v → OnOk told (P v) → OnOk told (P p)
so-as P p v told e h = on_ok_weaker told (λ g. subst P (sym e) g) h
