-- Commands that lead from one desk to another.
use Rattle.std.proofs.Common.{◌≡◌, ℕ, ◌<◌, List, [], ◌∷◌, ◌++◌, Some, refl, inl, inr, subst, ap, ◌∙◌}
use Rattle.value.specs.Word.{Word}
use Rattle.syntax.specs.Lists.{Every}
use Rattle.runs.specs.Object.{Reaches}
use Rattle.runs.specs.Ready.{ReadyList}
use Rattle.runs.specs.Steps.{State}
use Rattle.runs.specs.declared.event.Event.{Event}
use Rattle.runs.specs.declared.command.Refusal.TheVariants.{Memory}
use Rattle.runs.specs.Does as calculus
use Rattle.runs.specs.Commands as runs
use Rattle.machine.proofs.public.HeadlineLaws.{headline}
use Rattle.runs.proofs.public.ObjectLaws.{stays-over-lists}
use Rattle.locked_execution.specs.AtDesk.{AtDesk, execution}
use Rattle.locked_execution.specs.Performs.{Answers, OnExecution, session_reply}
use Rattle.locked_execution.specs.declared.command.Command.{Command}
use Rattle.locked_execution.specs.declared.command.Reply.{Reply}
use Rattle.locked_execution.proofs.public.AskedLists.{answered-joins}
use Rattle.locked_execution.proofs.public.BackLaws.{none-take-less}
use Rattle.locked_execution.proofs.public.BridgeLaws.{commands_of, are-on-execution}
use Rattle.locked_execution.proofs.public.Unchanged.{desk-stays}
use Rattle.dap_moves.specs.Laws.{LedNowhere, LedOn, LedByOne, KeepsHeadline, LosesNothingElse}
use Rattle.dap_moves.specs.Known.{HasValue}

every-both : {X : Type 0} (P : X → Type 0) (xs ys : List X) → Every P xs → Every P ys → Every P (xs ++ ys)
every-both P [] ys h k = k
every-both P (x ∷ xs) ys h k = (h.0, every-both P xs ys h.1 k)

pub led_nowhere : LedNowhere
led_nowhere d = record { commands = []; sessions = tt; replies = []; answered = (refl, refl) }

pub led_on : LedOn
led_on d m d' h k = record {
  commands = h.commands ++ k.commands;
  sessions = every-both (λ (x : ℕ × Command). x.0 < 16) h.commands k.commands h.sessions k.sessions;
  replies = h.replies ++ k.replies;
  answered = answered-joins d m d' h.commands k.commands h.replies k.replies h.answered k.answered;
}

pub led_by_one : LedByOne
led_by_one d d' session command reply less h = record {
  commands = (session, command) ∷ [];
  sessions = (less, tt);
  replies = reply ∷ [];
  answered = (reply, [], d', refl, h, (refl, refl));
}

pub keeps-headline : KeepsHeadline
keeps-headline d d' sound led =
    let there = are-on-execution d d' led.commands led.replies led.answered in
    headline (execution d')
    (stays-over-lists (execution d) (execution d') (commands_of led.commands led.replies) there.0 sound there.2)

pub loses-nothing-else : LosesNothingElse
loses-nothing-else d d' sound led = none-take-less d d' led.commands led.replies sound led.answered

-- to list ready events leaves the execution
listed : (d d' : AtDesk) (answer : runs.Reply) → calculus.ListsReady (execution d) answer (execution d') → execution d' ≡ execution d
listed d d' (runs.Reply.Ready es) h = h.1
listed d d' _ h = absurd h

ready-stays : (d d' : AtDesk) (reply : Reply) → OnExecution d runs.Command.Ready reply d' → d' ≡ d
ready-stays d d' reply h = desk-stays d d' runs.Command.Ready reply tt h (listed d d' h.0 h.2)

-- the list of ready events leaves the desk
pub ready_leaves : (d d' : AtDesk) (session : ℕ) (reply : Reply) → Answers d session Command.Ready reply d' → d' ≡ d
ready_leaves d d' session reply h = elim h [ inl done ↦ ready-stays d d' reply done | inr none ↦ none.2 ]

-- to tell a value leaves the execution
valued : (d d' : AtDesk) (x : ℕ) (answer : runs.Reply) → calculus.TellsValue (execution d) x answer (execution d') → execution d' ≡ execution d
valued d d' x (runs.Reply.Value v) h = h.1
valued d d' x (runs.Reply.Refused why) h = h.1
valued d d' x _ h = absurd h

value-stays : (d d' : AtDesk) (x : ℕ) (reply : Reply) → OnExecution d (runs.Command.Value x) reply d' → d' ≡ d
value-stays d d' x reply h = desk-stays d d' (runs.Command.Value x) reply tt h (valued d d' x h.0 h.2)

-- the value of a variable leaves the desk
pub value_leaves : (d d' : AtDesk) (session x : ℕ) (reply : Reply) → Answers d session (Command.Value x) reply d' → d' ≡ d
value_leaves d d' session x reply h = elim h [ inl done ↦ value-stays d d' x reply done | inr none ↦ none.2 ]

-- what a list of ready events lists
ready-told : (d d' : AtDesk) (es : List Event) (answer : runs.Reply) → Reply.Ready es ≡ session_reply answer →
    calculus.ListsReady (execution d) answer (execution d') → (T : State) × Reaches (execution d) T × ReadyList T es
ready-told d d' es (runs.Reply.Ready fs) e h =
    let same : fs ≡ es = cc in (h.0.0, h.0.1, subst (λ (gs : List Event). ReadyList h.0.0 gs) same h.0.2)
ready-told d d' es _ e h = absurd h

pub lists_ready : (d d' : AtDesk) (session : ℕ) (es : List Event) → Answers d session Command.Ready (Reply.Ready es) d' →
    (T : State) × Reaches (execution d) T × ReadyList T es
lists_ready d d' session es h = elim h [
  | inl done ↦ ready-told d d' es done.0 done.1 done.2
  | inr none ↦ let other : Reply.Ready es ≡ Reply.Refused Memory = none.1 in absurd (cc)
]

value-told : (d d' : AtDesk) (x : ℕ) (v : Word) (answer : runs.Reply) → Reply.Value v ≡ session_reply answer →
    calculus.TellsValue (execution d) x answer (execution d') → HasValue d x v
value-told d d' x v (runs.Reply.Value w) e h =
    let same : w ≡ v = cc in (h.0.0, h.0.1, h.0.2 ∙ ap (λ (u : Word). Some u) same)
value-told d d' x v (runs.Reply.Refused why) e h = absurd (cc)
value-told d d' x v _ e h = absurd h

pub has_value : (d d' : AtDesk) (session x : ℕ) (v : Word) → Answers d session (Command.Value x) (Reply.Value v) d' → HasValue d x v
has_value d d' session x v h = elim h [
  | inl done ↦ value-told d d' x v done.0 done.1 done.2
  | inr none ↦ absurd none.0
]
