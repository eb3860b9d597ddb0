-- Going back, for the commands of sessions.
use Rattle.std.proofs.Common.{◌≡◌, ◌↔◌, inl, ℕ, List, [], ◌∷◌, Some, map, refl, sym, ap, subst, ◌∙◌}
use Rattle.runs.specs.Answered as calculus
use Rattle.runs.specs.BackAndForth.{back_and_forth, back_and_forth_replies}
use Rattle.runs.specs.Does.{Does}
use Rattle.runs.specs.Live.{events}
use Rattle.runs.specs.Object.{Object, Reaches}
use Rattle.runs.specs.Sound.{Sound}
use Rattle.runs.specs.Steps.{opening}
use Rattle.runs.specs.Commands as runs
use Rattle.runs.proofs.public.Effects.{does-effect}
use Rattle.runs.proofs.public.ObjectLaws.{stays, least-rollback-law, back-then-forth-law, rolls-exactly, rolled-value, consequences-exactly}
use Rattle.machine.specs.Marks.{marks_behind}
use Rattle.locked_execution.specs.AtDesk.{AtDesk, execution}
use Rattle.locked_execution.specs.GoingBack.{NoneTakeLess, RollTakesNoOthers, ConsequencesTellRoll, ValueFromBefore, PerformsAll, AllAmountToBackAndForth}
use Rattle.locked_execution.specs.Performs.{Performs, OnExecution, execution_command, session_reply}
use Rattle.locked_execution.specs.declared.command.Command.{Command}
use Rattle.locked_execution.specs.declared.command.Reply.{Reply}
use Rattle.locked_execution.proofs.public.BridgeLaws.{commands_of, are-on-execution}
use Rattle.locked_execution.proofs.SomeReplies.{same-opening}

-- ---- laws of the execution
pub none-take-less : NoneTakeLess
none-take-less d d' commands replies s h t u e f live gone there depends still =
    let on = are-on-execution d d' commands replies h in
    least-rollback-law (execution d) (execution d') (commands_of commands replies) on.0 t u e f s on.2 live gone there depends still

rolled-is : (answer : runs.Reply) (n : ℕ) → Reply.Rolled n ≡ session_reply answer → answer ≡ runs.Reply.Rolled n
rolled-is (runs.Reply.Rolled m) n h = let g : Reply.Rolled n ≡ Reply.Rolled m = h in cc
rolled-is _ n h = absurd (cc)

consequences-is : (answer : runs.Reply) (us : List ℕ) → Reply.Consequences us ≡ session_reply answer → answer ≡ runs.Reply.Consequences us
consequences-is (runs.Reply.Consequences ts) us h = let g : Reply.Consequences us ≡ Reply.Consequences ts = h in cc
consequences-is _ us h = absurd (cc)

pub roll-takes-no-others : RollTakesNoOthers
roll-takes-no-others d d' session t n s h =
    let done : Does (execution d) (runs.Command.Roll t) (runs.Reply.Rolled n) (execution d') =
    subst (λ (r : runs.Reply). Does (execution d) (runs.Command.Roll t) r (execution d')) (rolled-is h.0 n h.1) h.2 in
    let law = rolls-exactly (execution d) s (execution d') t n done in
    (law.0, law.1, law.3, law.4)

pub consequences-tell-roll : ConsequencesTellRoll
consequences-tell-roll d d' session t ts s h =
    let done : Does (execution d) (runs.Command.Consequences t) (runs.Reply.Consequences ts) (execution d') =
    subst (λ (r : runs.Reply). Does (execution d) (runs.Command.Consequences t) r (execution d')) (consequences-is h.0 ts h.1) h.2 in
    consequences-exactly (execution d) s (execution d') t ts done

pub value-from-before : ValueFromBefore
value-from-before d d' session x n s h =
    let done : Does (execution d) (runs.Command.RollValue x) (runs.Reply.Rolled n) (execution d') =
    subst (λ (r : runs.Reply). Does (execution d) (runs.Command.RollValue x) r (execution d')) (rolled-is h.0 n h.1) h.2 in
    rolled-value (execution d) s (execution d') x n done

-- ---- commands of the execution, asked by a session
-- the desk that is left, whose execution is m
pub record LeftBy (d : AtDesk) (session : ℕ) (c : runs.Command) (r : runs.Reply) (m : Object) : Type 0 where
  pub desk : AtDesk
  pub is : m ≡ execution desk
  pub command : Command
  pub own : execution_command command ≡ Some c
  pub performed : Performs d session command (session_reply r) desk

performs-on : (d d' : AtDesk) (session : ℕ) (c : runs.Command) (reply : Reply) → OnExecution d c reply d' →
    (command : Command) × (execution_command command ≡ Some c) × Performs d session command reply d'
performs-on d d' session (runs.Command.Step c) reply h = (Command.Step c, refl, h)
performs-on d d' session (runs.Command.Undo t) reply h = (Command.Undo t, refl, h)
performs-on d d' session (runs.Command.Roll t) reply h = (Command.Roll t, refl, h)
performs-on d d' session (runs.Command.RollValue x) reply h = (Command.RollValue x, refl, h)
performs-on d d' session (runs.Command.Blame x) reply h = (Command.Blame x, refl, h)
performs-on d d' session runs.Command.Ready reply h = (Command.Ready, refl, h)
performs-on d d' session (runs.Command.Consequences t) reply h = (Command.Consequences t, refl, h)
performs-on d d' session runs.Command.Live reply h = (Command.Live, refl, h)
performs-on d d' session (runs.Command.Value x) reply h = (Command.Value x, refl, h)

left-by : (d : AtDesk) (session : ℕ) (c : runs.Command) (r : runs.Reply) (m : Object) → Sound (execution d) → Does (execution d) c r m → LeftBy d session c r m
left-by d session c r m s does =
    let marks = marks_behind r d.machine.marked in
    let after : AtDesk = record { machine = record { checked = d.machine.checked; live = m.live; next = m.next; marked = marks }; breaks = d.breaks } in
    let begun : m.opening ≡ opening d.machine.checked = same-opening (execution d) m (does-effect (execution d) c r m s does) in
    let one : m ≡ execution after = (λ i. record { opening = begun i; live = m.live; next = m.next }) in
    let done = performs-on d after session c (session_reply r) (r, refl, subst (λ (o : Object). Does (execution d) c r o) one does, refl, refl, refl) in
    record { desk = after; is = one; command = done.0; own = done.1; performed = done.2 }

-- the desk that is left by all of them
pub record AllLeftBy (d : AtDesk) (session : ℕ) (cs : List runs.Command) (rs : List runs.Reply) (m : Object) : Type 0 where
  pub desk : AtDesk
  pub is : m ≡ execution desk
  pub performed : PerformsAll d session cs (map session_reply rs) desk

all-left-by : (d : AtDesk) (session : ℕ) (cs : List runs.Command) (rs : List runs.Reply) (m : Object) → Sound (execution d) →
    calculus.DoesAll (execution d) cs rs m → AllLeftBy d session cs rs m
all-left-by d session [] rs m s h = record { desk = d; is = h.1; performed = (ap (map session_reply) h.0, refl) }
all-left-by d session (c ∷ cs) rs m s h =
    let first = left-by d session c h.0 h.2 s h.4 in
    let sound : Sound (execution first.desk) = subst Sound first.is (stays (execution d) h.2 c h.0 s (inl h.4)) in
    let rest = all-left-by first.desk session cs h.1 m sound (subst (λ (o : Object). calculus.DoesAll o cs h.1 m) first.is h.5) in
    record {
      desk = rest.desk;
      is = rest.is;
      performed = (first.command, session_reply h.0, map session_reply h.1, first.desk, first.own, ap (map session_reply) h.3, first.performed, rest.performed);
    }

pub all-amount-to-back-and-forth : AllAmountToBackAndForth
all-amount-to-back-and-forth d d' commands replies rule s h session =
    let on = are-on-execution d d' commands replies h in
    let law = back-then-forth-law d.machine.checked (execution d) (execution d') (commands_of commands replies) on.0 rule refl s on.2 in
    let all = all-left-by d session (back_and_forth d.machine.live d'.machine.live) (back_and_forth_replies d.machine.next d.machine.live d'.machine.live) law.0 s law.1 in
    let same : events law.0.live ≡ events d'.machine.live = law.2 in (
      all.desk,
      all.performed,
      ap (λ (o : Object). events o.live) (sym all.is) ∙ same,
      λ T. subst (λ (o : Object). Reaches o T ↔ Reaches (execution d') T) all.is (law.3 T),
    )
