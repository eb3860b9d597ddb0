-- What the trees in memory stand for: the code, and the processes.
use Rattle.std.specs.Prelude.{ℕ, List, [], ◌∷◌, Bool, cond, Option, option_map}
use Rattle.std.specs.Global.{Box}
use Rattle.value.specs.Word.{Word}
use Rattle.system.specs.Expression.{Expression, Decision}
use Rattle.system.specs.Translation.{expression_of, decision_of}
use Rattle.process_tree.specs.Code as model
use Rattle.process_tree.specs.Proc as model_proc
use Rattle.process_tree.specs.Proc.{all_started}
use Rattle.process_tree.specs.Translation.{row_of}
use Rattle.process_tree.specs.declared.code.Once.{Once}
use Rattle.process_tree.specs.declared.code.Once.TheVariants as once
use Rattle.process_tree.specs.declared.code.Sender.{Sender}
use Rattle.process_tree.specs.declared.code.Sender.TheVariants as sender
use Rattle.process_tree.specs.declared.code.Code.{Code}
use Rattle.process_tree.specs.declared.code.Await.{Await}
use Rattle.process_tree.specs.declared.code.Decide.{Decide}
use Rattle.process_tree.specs.declared.code.Repeat.{Repeat}
use Rattle.process_tree.specs.declared.code.Row.{Row}
use Rattle.process_tree.specs.declared.code.Code.TheOpen.{Await-F, Code-F, Decide-F, Repeat-F, Row-F}
use Rattle.process_tree.specs.declared.code.Code.TheFolds.{fold-Await, fold-Code, fold-Decide, fold-Repeat, fold-Row}
use Rattle.process_tree.specs.declared.proc.Phase.{Phase}
use Rattle.process_tree.specs.declared.proc.Phase.TheVariants as phase
use Rattle.process_tree.specs.declared.proc.Proc.{Proc}
use Rattle.process_tree.specs.declared.proc.Gate.TheOpen.{Gate-F, Proc-F, Tested-F, Turns-F}
use Rattle.process_tree.specs.declared.proc.Gate.TheFolds.{fold-Proc}
use Rattle.process_tree.specs.declared.tree.Tree.{Tree}

-- what makes one move
abbrev pub once_view : Once → model.Once
once_view (once.Assign x w e) = model.assigning x w (expression_of e)
once_view (once.Receive c x) = model.receiving c x

-- what may be held
abbrev pub sender_view : Sender → model.Sender
sender_view (sender.Send c w e) = model.sending c w (expression_of e)
sender_view (sender.Sync c) = model.syncing c

-- arms that wait: their channels, and the arms
abbrev pub Awaiting : Type 0
Awaiting = List ℕ × model.Codes

-- a test: what it decides by, and its arms
abbrev pub Testing : Type 0
Testing = Decision × model.Codes

-- a loop: its guard, and its body
abbrev pub Looping : Type 0
Looping = Option Expression × model.Code

-- one layer of arms that wait
abbrev pub await_layer : Await-F model.Code Awaiting Testing Looping model.Codes → Awaiting
await_layer a = (a.channels, row_of a.arms)

-- one layer of a command, one line a form
abbrev pub code_layer : Code-F model.Code Awaiting Testing Looping model.Codes → model.Code
code_layer Code-F.Continue = model.continues
code_layer Code-F.Halt = model.halts
code_layer (Code-F.Once o) = model.moves_once (once_view o)
code_layer (Code-F.Sender s) = model.may_be_held (sender_view s)
code_layer (Code-F.Repeat r) = model.repeats r.0 r.1
code_layer (Code-F.Decide d) = model.decides d.0 d.1
code_layer (Code-F.Await a) = model.awaits a.0 a.1
code_layer (Code-F.InTurn r) = model.in_turn r
code_layer (Code-F.SideBySide r) = model.side_by_side r
code_layer (Code-F.Drain c) = model.drains c

-- one layer of a test
abbrev pub decide_layer : Decide-F model.Code Awaiting Testing Looping model.Codes → Testing
decide_layer d = (decision_of d.decision, row_of d.arms)

-- one layer of a loop
abbrev pub repeat_layer : Repeat-F model.Code Awaiting Testing Looping model.Codes → Looping
repeat_layer r = (option_map expression_of r.guard, r.body)

-- one layer of commands in a row
abbrev pub row_layer : Row-F model.Code Awaiting Testing Looping model.Codes → model.Codes
row_layer r = row_of r.codes

-- the command that a handle stands for
abbrev pub code_view : Code → model.Code
code_view =
    fold-Code model.Code Awaiting Testing Looping model.Codes code_layer await_layer decide_layer repeat_layer row_layer

-- the channels and arms that wait
abbrev pub await_view : Await → Awaiting
await_view =
    fold-Await model.Code Awaiting Testing Looping model.Codes code_layer await_layer decide_layer repeat_layer
    row_layer

-- the decision and arms of a test
abbrev pub decide_view : Decide → Testing
decide_view =
    fold-Decide model.Code Awaiting Testing Looping model.Codes code_layer await_layer decide_layer repeat_layer
    row_layer

-- the guard and body of a loop
abbrev pub repeat_view : Repeat → Looping
repeat_view =
    fold-Repeat model.Code Awaiting Testing Looping model.Codes code_layer await_layer decide_layer repeat_layer
    row_layer

-- the commands in a row
abbrev pub row_view : Row → model.Codes
row_view =
    fold-Row model.Code Awaiting Testing Looping model.Codes code_layer await_layer decide_layer repeat_layer row_layer

-- how far a send or sync is
abbrev pub phase_view : Phase → model_proc.Phase
phase_view phase.Waiting = model_proc.waiting
phase_view phase.Holding = model_proc.holding
phase_view phase.Past = model_proc.past

-- processes in a row
abbrev pub procs_of : List model_proc.Proc → model_proc.Procs
procs_of [] = model_proc.no_procs
procs_of (p ∷ ps) = model_proc.proc p (procs_of ps)

-- the children that have begun, and then the others, which have made no move
abbrev pub begun_of : List model_proc.Proc → model.Codes → model_proc.Procs
begun_of [] cs = all_started cs
begun_of (p ∷ ps) model.no_code = model_proc.no_procs
begun_of (p ∷ ps) (model.code c cs) = model_proc.proc p (begun_of ps cs)

-- a loop in a turn or behind it, or ended there
abbrev pub turn_of : Bool → Option Expression → model.Code → ℕ → model_proc.Proc → model_proc.Proc
turn_of over g c n q = cond over (model_proc.ended g c n q) (model_proc.turn g c n q)

-- an arm that opened, or was closed
abbrev pub opened_of : Bool → List ℕ → model.Codes → ℕ → Option Word → model_proc.Proc → model_proc.Proc
opened_of over ds cs c v q = cond over (model_proc.closed ds cs c v q) (model_proc.entered ds cs c v q)

-- a loop, a test and arms that wait, by what they are to do
abbrev pub OfLoop : Type 0
OfLoop = Option Expression → model.Code → model_proc.Proc

abbrev pub OfTest : Type 0
OfTest = Decision → model.Codes → model_proc.Proc

abbrev pub OfArms : Type 0
OfArms = List ℕ → model.Codes → model_proc.Proc

-- how far a loop is
abbrev pub turns_layer : Turns-F OfArms model_proc.Proc OfTest OfLoop → OfLoop
turns_layer Turns-F.Fresh = model_proc.fresh
turns_layer Turns-F.EndedAtOnce = model_proc.ended_at_once
turns_layer (Turns-F.Turn n over q) = λ g c. turn_of over g c n q.value

-- how far a test is
abbrev pub tested_layer : Tested-F OfArms model_proc.Proc OfTest OfLoop → OfTest
tested_layer Tested-F.Untested = model_proc.untested
tested_layer Tested-F.Skipped = model_proc.skipped
tested_layer (Tested-F.Took j q) = λ d cs. model_proc.took d cs j q.value

-- how far arms are that wait
abbrev pub gate_layer : Gate-F OfArms model_proc.Proc OfTest OfLoop → OfArms
gate_layer Gate-F.Unopened = model_proc.unopened
gate_layer (Gate-F.Opened c v over q) = λ ds cs. opened_of over ds cs c v q.value

-- one layer of a process
abbrev pub proc_layer : Proc-F OfArms model_proc.Proc OfTest OfLoop → model_proc.Proc
proc_layer Proc-F.Idle = model_proc.idle
proc_layer Proc-F.Stopped = model_proc.stopped
proc_layer (Proc-F.Once o made) = model_proc.once (once_view o) made
proc_layer (Proc-F.Sender s p) = model_proc.sender (sender_view s) (phase_view p)
proc_layer (Proc-F.Loop r t) = t (repeat_view r).0 (repeat_view r).1
proc_layer (Proc-F.Test d t) = t (decide_view d).0 (decide_view d).1
proc_layer (Proc-F.Arms a g) = g (await_view a).0 (await_view a).1
proc_layer (Proc-F.Sequence r begun) = model_proc.sequence (begun_of begun.items (row_view r))
proc_layer (Proc-F.Parallel ps) = model_proc.parallel (procs_of ps.items)
proc_layer (Proc-F.Drained c n) = model_proc.drained c n

-- the process that a tree in memory stands for
abbrev pub proc_view : Proc → model_proc.Proc
proc_view = fold-Proc OfArms model_proc.Proc OfTest OfLoop gate_layer proc_layer tested_layer turns_layer

-- the body that a move took out, if any
abbrev pub out_view : Option (Box Proc) → Option model_proc.Proc
out_view = option_map (λ out. proc_view out.value)

-- the process that the tree of an execution stands for
abbrev pub tree_view : Tree → model_proc.Proc
tree_view tree = proc_view tree.proc
