-- What is left where a command of the execution leaves it as it was.
use Rattle.std.proofs.Common.{◌≡◌, ◌∙◌, ℕ, List, refl, ap}
use Rattle.runs.specs.Object.{Object}
use Rattle.runs.specs.Does.{Does}
use Rattle.runs.specs.Commands as runs
use Rattle.runs.specs.declared.command.Refusal.{Refusal}
use Rattle.machine.specs.AtMachine.{AtMachine, object}
use Rattle.machine.specs.Marks.{marks_behind}
use Rattle.locked_execution.specs.AtDesk.{AtDesk, execution}
use Rattle.locked_execution.specs.Performs.{OnExecution, session_reply}
use Rattle.locked_execution.specs.declared.command.Reply.{Reply}

-- a refusal leaves the execution
pub refused-leaves : (o o' : Object) (c : runs.Command) (why : Refusal) → Does o c (runs.Reply.Refused why) o' → o' ≡ o
refused-leaves o o' (runs.Command.Step c) why h = h.1
refused-leaves o o' (runs.Command.Undo t) why h = h.1
refused-leaves o o' (runs.Command.Roll t) why h = h.1
refused-leaves o o' (runs.Command.RollValue x) why h = h.1
refused-leaves o o' (runs.Command.Blame x) why h = h.1
refused-leaves o o' runs.Command.Ready why h = absurd h
refused-leaves o o' (runs.Command.Consequences t) why h = h.1
refused-leaves o o' runs.Command.Live why h = absurd h
refused-leaves o o' (runs.Command.Value x) why h = h.1

-- a command that takes nothing back
abbrev pub TakesNone : runs.Command → Type 0
TakesNone (runs.Command.Undo t) = ⊥
TakesNone (runs.Command.Roll t) = ⊥
TakesNone (runs.Command.RollValue x) = ⊥
TakesNone _ = Unit {0}

-- what takes nothing back leaves the marks
pub marks-stay : (o o' : Object) (c : runs.Command) (answer : runs.Reply) (marked : List ℕ) → TakesNone c → Does o c answer o' →
    marks_behind answer marked ≡ marked
marks-stay o o' (runs.Command.Step c) (runs.Reply.Stepped t e) marked none does = refl
marks-stay o o' (runs.Command.Step c) (runs.Reply.Refused why) marked none does = refl
marks-stay o o' (runs.Command.Step c) _ marked none does = absurd does
marks-stay o o' (runs.Command.Undo t) answer marked none does = absurd none
marks-stay o o' (runs.Command.Roll t) answer marked none does = absurd none
marks-stay o o' (runs.Command.RollValue x) answer marked none does = absurd none
marks-stay o o' (runs.Command.Blame x) (runs.Reply.Blamed t) marked none does = refl
marks-stay o o' (runs.Command.Blame x) (runs.Reply.Refused why) marked none does = refl
marks-stay o o' (runs.Command.Blame x) _ marked none does = absurd does
marks-stay o o' runs.Command.Ready (runs.Reply.Ready es) marked none does = refl
marks-stay o o' runs.Command.Ready _ marked none does = absurd does
marks-stay o o' (runs.Command.Consequences t) (runs.Reply.Consequences ts) marked none does = refl
marks-stay o o' (runs.Command.Consequences t) (runs.Reply.Refused why) marked none does = refl
marks-stay o o' (runs.Command.Consequences t) _ marked none does = absurd does
marks-stay o o' runs.Command.Live (runs.Reply.Live l) marked none does = refl
marks-stay o o' runs.Command.Live _ marked none does = absurd does
marks-stay o o' (runs.Command.Value x) (runs.Reply.Value v) marked none does = refl
marks-stay o o' (runs.Command.Value x) (runs.Reply.Refused why) marked none does = refl
marks-stay o o' (runs.Command.Value x) _ marked none does = absurd does

-- one system and one execution with the same marks are one
pub held-same : (h k : AtMachine) → k.checked ≡ h.checked → object k ≡ object h → k.marked ≡ h.marked → k ≡ h
held-same h k system same marks =
    let live : k.live ≡ h.live = ap (λ (o : Object). o.live) same in
    let next = ap (λ (o : Object). o.next) same in
    λ i. record { checked = system i; live = live i; next = next i; marked = marks i }

-- and with the same breakpoints all is the same
pub all-same : (d d' : AtDesk) → d'.machine.checked ≡ d.machine.checked → execution d' ≡ execution d → d'.breaks ≡ d.breaks →
    d'.machine.marked ≡ d.machine.marked → d' ≡ d
all-same d d' system same breaks marks =
    let held = held-same d.machine d'.machine system same marks in
    λ i. record { machine = held i; breaks = breaks i }

-- where a command that takes nothing back leaves the execution, it leaves the desk
pub desk-stays : (d d' : AtDesk) (c : runs.Command) (reply : Reply) → TakesNone c → (h : OnExecution d c reply d') →
    execution d' ≡ execution d → d' ≡ d
desk-stays d d' c reply none h same =
    all-same d d' h.3 same h.4 (h.5 ∙ marks-stay (execution d) (execution d') c h.0 d.machine.marked none h.2)

-- and so does a refusal
refused-marks : (why : Refusal) (answer : runs.Reply) (before after : List ℕ) → Reply.Refused why ≡ session_reply answer →
    after ≡ marks_behind answer before → after ≡ before
refused-marks why (runs.Reply.Refused because) before after is marks = marks
refused-marks why _ before after is marks = cc

pub refused-stays : (d d' : AtDesk) (c : runs.Command) (why : Refusal) → (h : OnExecution d c (Reply.Refused why) d') →
    execution d' ≡ execution d → d' ≡ d
refused-stays d d' c why h same =
    all-same d d' h.3 same h.4 (refused-marks why h.0 d.machine.marked d'.machine.marked h.1 h.5)
