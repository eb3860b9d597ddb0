-- Each command of a session has a reply.
use Rattle.std.proofs.Common.{◌≡◌, inl, inr, ℕ, Bool, true, false, length, Option, Some, None, refl, ap, subst}
use Rattle.std.specs.Prelude.{IsSome, MatchOption}
use Rattle.std.proofs.lemmas.Bool.{cases_lt}
use Rattle.system.specs.Expression.{is_in}
use Rattle.system_places.specs.LinesBegun.{begins}
use Rattle.runs.specs.Steps.{opening}
use Rattle.runs.specs.Object.{Object}
use Rattle.runs.specs.Does.{Does}
use Rattle.runs.specs.Sound.{Sound}
use Rattle.runs.specs.Commands as runs
use Rattle.runs.specs.declared.command.Refusal.TheVariants.{BreaksFull, NoSuchLine}
use Rattle.runs.proofs.public.Effects.{Effect, unchanged, added, taken, does-effect}
use Rattle.runs.proofs.public.SomeReplies.{some-reply}
use Rattle.machine.specs.Breakpoints.{most_breaks, with_line, without_line}
use Rattle.machine.specs.Marks.{marks_behind}
use Rattle.locked_execution.specs.AtDesk.{AtDesk, execution, breaks_of, with_breaks}
use Rattle.locked_execution.specs.Performs.{Performs, execution_command, OnExecution, session_reply, branch_reply}
use Rattle.locked_execution.specs.Replies.{SomeReply}
use Rattle.locked_execution.specs.declared.command.Command.{Command}
use Rattle.locked_execution.specs.declared.command.Reply.{Reply}
use Rattle.locked_execution.proofs.BranchReplies.{some-branch}

-- a reply to the command
abbrev Replied : AtDesk → ℕ → Command → Type 0
Replied d session command = (reply : Reply) × (d' : AtDesk) × Performs d session command reply d'

-- an execution goes on from where it began
pub same-opening : (o o' : Object) → Effect o o' → o'.opening ≡ o.opening
same-opening o o' (unchanged is) = ap (λ (p : Object). p.opening) is
same-opening o o' (added e T r a room left is) = ap (λ (p : Object). p.opening) is
same-opening o o' (taken k back is) = ap (λ (p : Object). p.opening) is

-- the desk with the execution that is left
on-execution : (d : AtDesk) (o : Option runs.Command) → IsSome o → Sound (execution d) →
    (reply : Reply) × (d' : AtDesk) × MatchOption o ⊥ (λ c. OnExecution d c reply d')
on-execution d None there s = absurd (cc)
on-execution d (Some c) there s =
    let some = some-reply (execution d) c s in
    let marks = marks_behind some.0 d.machine.marked in
    let after : AtDesk = record { machine = record { checked = d.machine.checked; live = some.1.live; next = some.1.next; marked = marks }; breaks = d.breaks } in
    let begun : some.1.opening ≡ opening d.machine.checked = same-opening (execution d) some.1 (does-effect (execution d) c some.0 some.1 s some.2) in
    let one : some.1 ≡ execution after = (λ i. record { opening = begun i; live = some.1.live; next = some.1.next }) in
    (session_reply some.0, after, (some.0, refl, subst (λ (o : Object). Does (execution d) c some.0 o) one some.2, refl, refl, refl))

on-branch : (d : AtDesk) (session k : ℕ) → Sound (execution d) → Replied d session (Command.Branch k)
on-branch d session k s =
    let some = some-branch d.machine k (breaks_of d session) s in
    (branch_reply some.0, record { machine = some.1; breaks = d.breaks }, (some.0, refl, some.4, some.2, refl, some.3))

-- the desk with a breakpoint of the session on the line
abbrev set-there : AtDesk → ℕ → ℕ → AtDesk
set-there d session line = with_breaks d session (with_line line (breaks_of d session))

some-set : (d : AtDesk) (session line : ℕ) → Replied d session (Command.Break line)
some-set d session line = pick (begins line d.machine.checked.main) refl (is_in line (breaks_of d session)) refl
  where
    pick : (begun : Bool) → begins line d.machine.checked.main ≡ begun → (there : Bool) → is_in line (breaks_of d session) ≡ there →
        Replied d session (Command.Break line)
    pick false off there is = (Reply.Refused NoSuchLine, d, (off, refl))
    pick true on true is = (Reply.Done, set-there d session line, (on, inl is, refl))
    pick true on false is =
        elim (cases_lt (length (breaks_of d session)) most_breaks) [
          | inl room ↦ (Reply.Done, set-there d session line, (on, inr room, refl))
          | inr full ↦ (Reply.Refused BreaksFull, d, ((on, is, full), refl))
        ]

pub some-reply-each : SomeReply
some-reply-each d session (Command.Branch k) s = on-branch d session k s
some-reply-each d session (Command.Break line) s = some-set d session line
some-reply-each d session (Command.Clear line) s = (Reply.Done, with_breaks d session (without_line line (breaks_of d session)), refl)
some-reply-each d session command s = on-execution d (execution_command command) refl s
