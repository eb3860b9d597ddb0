-- What only reads leaves the desk.
use Rattle.std.proofs.Common.{◌≡◌, ℕ, true, inl, inr, sym, subst}
use Rattle.runs.specs.Does as calculus
use Rattle.runs.specs.Commands as runs
use Rattle.locked_execution.specs.AtDesk.{AtDesk, execution}
use Rattle.locked_execution.specs.Performs.{Answers, OnExecution}
use Rattle.locked_execution.specs.declared.command.Command.{Command}
use Rattle.locked_execution.specs.declared.command.Reply.{Reply}
use Rattle.locked_execution.proofs.public.Unchanged.{desk-stays}
use Rattle.dap_moves.proofs.public.Leading.{led_nowhere, ready_leaves, value_leaves}
use Rattle.dap_moves.specs.Led.{Led}
use Rattle.dap_requests.specs.Reading.{reads}

blamed : (d d' : AtDesk) (x : ℕ) (answer : runs.Reply) → calculus.Blames (execution d) x answer (execution d') → execution d' ≡ execution d
blamed d d' x (runs.Reply.Blamed t) h = h.1
blamed d d' x (runs.Reply.Refused why) h = h.1
blamed d d' x _ h = absurd h

followed : (d d' : AtDesk) (t : ℕ) (answer : runs.Reply) → calculus.ListsConsequences (execution d) t answer (execution d') → execution d' ≡ execution d
followed d d' t (runs.Reply.Consequences ts) h = h.2
followed d d' t (runs.Reply.Refused why) h = h.1
followed d d' t _ h = absurd h

lived : (d d' : AtDesk) (answer : runs.Reply) → calculus.ListsLive (execution d) answer (execution d') → execution d' ≡ execution d
lived d d' (runs.Reply.Live l) h = h.1
lived d d' _ h = absurd h

blame-stays : (d d' : AtDesk) (x : ℕ) (reply : Reply) → OnExecution d (runs.Command.Blame x) reply d' → d' ≡ d
blame-stays d d' x reply h = desk-stays d d' (runs.Command.Blame x) reply tt h (blamed d d' x h.0 h.2)

followed-stays : (d d' : AtDesk) (t : ℕ) (reply : Reply) → OnExecution d (runs.Command.Consequences t) reply d' → d' ≡ d
followed-stays d d' t reply h = desk-stays d d' (runs.Command.Consequences t) reply tt h (followed d d' t h.0 h.2)

live-stays : (d d' : AtDesk) (reply : Reply) → OnExecution d runs.Command.Live reply d' → d' ≡ d
live-stays d d' reply h = desk-stays d d' runs.Command.Live reply tt h (lived d d' h.0 h.2)

-- a command that only reads leaves the desk
pub reading_leaves : (d d' : AtDesk) (session : ℕ) (command : Command) (reply : Reply) → reads command ≡ true → Answers d session command reply d' → d' ≡ d
reading_leaves d d' session (Command.Blame x) reply is h = elim h [ inl done ↦ blame-stays d d' x reply done | inr none ↦ none.2 ]
reading_leaves d d' session Command.Ready reply is h = ready_leaves d d' session reply h
reading_leaves d d' session (Command.Consequences t) reply is h = elim h [ inl done ↦ followed-stays d d' t reply done | inr none ↦ none.2 ]
reading_leaves d d' session Command.Live reply is h = elim h [ inl done ↦ live-stays d d' reply done | inr none ↦ none.2 ]
reading_leaves d d' session (Command.Value x) reply is h = value_leaves d d' session x reply h
reading_leaves d d' session _ reply is h = absurd (cc)

-- a desk that stays was led nowhere
pub led_still : (d d' : AtDesk) → d' ≡ d → Led d d'
led_still d d' same = subst (λ (x : AtDesk). Led d x) (sym same) (led_nowhere d)
