-- Processes that begin together.
use Rattle.std.proofs.Common.{◌≡◌, List, [], ◌∷◌, ◌++◌, map, Option, Some, None, option_map, refl, sym, ap, ◌∙◌, rules}
use Rattle.std.specs.Global.{Vec}
use Rattle.system.specs.Translation.{expression_of, decision_of}
use Rattle.system.specs.declared.command.Command.{Command}
use Rattle.process_tree.specs.Code as model
use Rattle.process_tree.specs.Code.{moves_once, may_be_held, repeats, decides, awaits, in_turn, side_by_side, code}
use Rattle.process_tree.specs.Proc.{idle, parallel, proc, started, all_started}
use Rattle.process_tree.specs.Translation.{code_of, row_of, row_with}
use Rattle.process_tree.specs.View.{once_view, sender_view, code_view, repeat_view, row_view, proc_view, procs_of}
use Rattle.process_tree.specs.declared.code.Once.{Once}
use Rattle.process_tree.specs.declared.code.Await.{Await}
use Rattle.process_tree.specs.declared.code.Code as made_code
use Rattle.process_tree.specs.declared.code.Code.{Code}
use Rattle.process_tree.specs.declared.code.Code.TheFolds.{the_lemmas}
use Rattle.process_tree.specs.declared.code.Decide.{Decide}
use Rattle.process_tree.specs.declared.code.Sender.{Sender}
use Rattle.process_tree.specs.declared.code.Repeat.{Repeat}
use Rattle.process_tree.specs.declared.code.Row.{Row}
use Rattle.process_tree.specs.declared.proc.Proc as made_proc
use Rattle.process_tree.specs.declared.proc.Proc.{Proc}
use Rattle.process_tree.specs.declared.proc.Gate.TheFolds.{the_lemmas as proc_lemmas}

-- the processes of commands before their first move
procs_started : (cs : List Code) → procs_of (map (λ c. started (code_view c)) cs) ≡ all_started (row_of (map code_view cs))
procs_started [] = refl
procs_started (c ∷ cs) = ap (proc (started (code_view c))) (procs_started cs)

-- what makes one move
pub code_once : (o : Once) → code_view (made_code.Once o) ≡ moves_once (once_view o)
code_once o = search (rules, the_lemmas)

-- what may be held
pub code_sender : (s : Sender) → code_view (made_code.Sender s) ≡ may_be_held (sender_view s)
code_sender s = search (rules, the_lemmas)

-- a loop
pub code_repeat : (r : Repeat) → code_view (made_code.Repeat r) ≡ repeats (option_map expression_of r.guard) (code_view r.body)
code_repeat r = search (rules, the_lemmas)

-- commands in a row, with no else behind them
row_is : (cs : List model.Code) → row_of cs ≡ row_with cs None
row_is [] = refl
row_is (c ∷ cs) = ap (code c) (row_is cs)

-- a test, by its row of arms
code_test : (d : Decide) → code_view (made_code.Decide d) ≡ decides (decision_of d.decision) (row_of (map code_view d.arms))
code_test d = search (rules, the_lemmas)

-- a test
pub code_decide : (d : Decide) → code_view (made_code.Decide d) ≡ decides (decision_of d.decision) (row_with (map code_view d.arms) None)
code_decide d = code_test d ∙ ap (decides (decision_of d.decision)) (row_is (map code_view d.arms))

-- arms that wait, by their row
code_arms : (a : Await) → code_view (made_code.Await a) ≡ awaits a.channels (row_of (map code_view a.arms))
code_arms a = search (rules, the_lemmas)

-- arms that wait
pub code_await : (a : Await) → code_view (made_code.Await a) ≡ awaits a.channels (row_with (map code_view a.arms) None)
code_await a = code_arms a ∙ ap (awaits a.channels) (row_is (map code_view a.arms))

-- commands one after another
pub code_in_turn : (row : Row) → code_view (made_code.InTurn row) ≡ in_turn (row_of (map code_view row.codes))
code_in_turn row = search (rules, the_lemmas)

-- the else is the last arm
with_else : (xs : List Code) (x : Code) → row_with (map code_view (xs ++ x ∷ [])) None ≡ row_with (map code_view xs) (Some (code_view x))
with_else [] x = refl
with_else (y ∷ xs) x = ap (code (code_view y)) (with_else xs x)

-- and so it is translated
pub arms_and_else : (new xs : List Code) (x : Code) (body : Command) (last : Option Command) → last ≡ Some body → code_view x ≡ code_of body
    → new ≡ xs ++ x ∷ [] → row_with (map code_view new) None ≡ row_with (map code_view xs) (option_map code_of last)
arms_and_else new xs x body last h e n =
    ap (λ ys. row_with (map code_view ys) None) n
    ∙ with_else xs x
    ∙ ap (λ r. row_with (map code_view xs) (Some r)) e
    ∙ sym (ap (λ o. row_with (map code_view xs) (option_map code_of o)) h)

-- the body of a loop
pub repeat_body : (r : Repeat) → (repeat_view r).1 ≡ code_view r.body
repeat_body r = search (rules, the_lemmas)

-- the commands of a row
pub row_codes : (row : Row) → row_view row ≡ row_of (map code_view row.codes)
row_codes row = search (rules, the_lemmas)

-- commands side by side
pub code_parallel : (row : Row) → code_view (made_code.SideBySide row) ≡ side_by_side (row_of (map code_view row.codes))
code_parallel row = search (rules, the_lemmas)

-- processes side by side
proc_parallel : (ps : Vec Proc) → proc_view (made_proc.Parallel ps) ≡ parallel (procs_of (map proc_view ps.items))
proc_parallel ps = search (rules, proc_lemmas)

-- branches that begin together
pub parallel_started : (ps : Vec Proc) (row : Row) (c : Code) → c ≡ made_code.SideBySide row → map proc_view ps.items ≡ map (λ c. started (code_view c)) row.codes
    → proc_view (made_proc.Parallel ps) ≡ started (code_view c)
parallel_started ps row c is e =
    proc_parallel ps ∙ ap (λ qs. parallel (procs_of qs)) e ∙ ap parallel (procs_started row.codes)
    ∙ sym (ap started (code_parallel row)) ∙ sym (ap (λ x. started (code_view x)) is)

-- `continue` is done at once
pub proc_idle : proc_view made_proc.Idle ≡ idle
proc_idle = search (rules, proc_lemmas)
