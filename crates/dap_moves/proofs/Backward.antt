-- A step back: what its reply says.
use Rattle.std.proofs.Common.{◌≡◌, ℕ, refl, inl, inr, subst}
use Rattle.runs.specs.Does.{Undoes}
use Rattle.runs.specs.Live.{LiveAt, FirstDependent, NoDependent}
use Rattle.runs.specs.Object.{Object}
use Rattle.runs.specs.declared.event.Event.{Event}
use Rattle.runs.specs.Commands as runs
use Rattle.runs.specs.declared.command.Refusal.{Refusal}
use Rattle.runs.specs.declared.command.Refusal.TheVariants.{NoSuchEvent, NeededBy}
use Rattle.dependence.proofs.public.ListPlaces.{in-at}
use Rattle.locked_execution.specs.AtDesk.{AtDesk, execution}
use Rattle.locked_execution.specs.Performs.{Answers, OnExecution, session_reply}
use Rattle.locked_execution.specs.declared.command.Command.{Command}
use Rattle.locked_execution.specs.declared.command.Reply.{Reply}
use Rattle.locked_execution.proofs.public.Unchanged.{refused-stays}
use Rattle.dap_moves.specs.Moves.{quiet}
use Rattle.dap_moves.specs.Laws.{RefusedBack, BackWhereAlone}

-- an undo of a live event is refused where another depends on it
pub refused-undo : (o o' : Object) (t : ℕ) (e : Event) (why : Refusal) → LiveAt o.live t e → Undoes o t (runs.Reply.Refused why) o' →
    (u : ℕ) × (why ≡ NeededBy u) × FirstDependent o.live t u × (o' ≡ o)
refused-undo o o' t e NoSuchEvent live h = absurd (h.0 e live)
refused-undo o o' t e (NeededBy u) live h = (u, refl, h.0.1, h.1)
refused-undo o o' t e _ live h = absurd h.0

-- what the execution answered where a session was refused
told-refused : (o o' : Object) (t : ℕ) (why : Refusal) (answer : runs.Reply) → Reply.Refused why ≡ session_reply answer →
    Undoes o t answer o' → Undoes o t (runs.Reply.Refused why) o'
told-refused o o' t why (runs.Reply.Refused because) e h =
    let same : because ≡ why = cc in subst (λ (w : Refusal). Undoes o t (runs.Reply.Refused w) o') same h
told-refused o o' t why (runs.Reply.Undone u f) e h = absurd (cc)
told-refused o o' t why _ e h = absurd h

-- and where it was done
told-undone : (o o' : Object) (t u : ℕ) (f : Event) (answer : runs.Reply) → Reply.Undone u f ≡ session_reply answer →
    Undoes o t answer o' → (u ≡ t) × NoDependent o.live t
told-undone o o' t u f (runs.Reply.Undone v g) e h = let same : u ≡ v = cc in (let first : v ≡ t = h.0 in cc, h.2)
told-undone o o' t u f (runs.Reply.Refused why) e h = absurd (cc)
told-undone o o' t u f _ e h = absurd h

refused-on : (d d' : AtDesk) (t : ℕ) (e : Event) (why : Refusal) → LiveAt d.machine.live t e →
    OnExecution d (runs.Command.Undo t) (Reply.Refused why) d' →
    (u : ℕ) × (why ≡ NeededBy u) × FirstDependent d.machine.live t u × (d' ≡ d)
refused-on d d' t e why live h =
    let told = told-refused (execution d) (execution d') t why h.0 h.1 h.2 in
    let found = refused-undo (execution d) (execution d') t e why live told in
    (found.0, found.1, found.2, refused-stays d d' (runs.Command.Undo t) why h found.3)

pub refused-back : RefusedBack
refused-back d d' k t why h =
    let newest = h.0 in
    let live : LiveAt d.machine.live t newest.1 = in-at d.machine.live newest.0 (t, newest.1) newest.3 in
    elim h.1 [ inl done ↦ refused-on d d' t newest.1 why live done | inr none ↦ absurd none.0 ]

undone-on : (d d' : AtDesk) (t u : ℕ) (e : Event) → OnExecution d (runs.Command.Undo t) (Reply.Undone u e) d' →
    (u ≡ t) × NoDependent d.machine.live t
undone-on d d' t u e h = told-undone (execution d) (execution d') t u e h.0 h.1 h.2

-- it has the ticket that was asked for
pub undone_as : (d d' : AtDesk) (t u : ℕ) (e : Event) → Answers d quiet (Command.Undo t) (Reply.Undone u e) d' → u ≡ t
undone_as d d' t u e h = elim h [ inl done ↦ (undone-on d d' t u e done).0 | inr none ↦ absurd none.0 ]

pub back-where-alone : BackWhereAlone
back-where-alone d d' k t u e h = elim h.1 [ inl done ↦ undone-on d d' t u e done | inr none ↦ absurd none.0 ]
