-- What typed lines do to a desk.
use Rattle.std.proofs.Common.{◌≡◌, ◌≢◌, ◌⊎◌, ℕ, Bool, true, false, List, [], ◌∷◌, ◌++◌, None, Some, codes, inl, inr, refl, sym, ap, subst, ◌∙◌}
use Rattle.machine.specs.AtMachine.{AtMachine}
use Rattle.runs.specs.declared.event.Choice.{Choice}
use Rattle.locked_execution.specs.AtDesk.{AtDesk}
use Rattle.locked_execution.specs.Performs.{Answers}
use Rattle.locked_execution.specs.declared.command.Command.{Command}
use Rattle.locked_execution.specs.declared.command.Reply.{Reply}
use Rattle.system.specs.declared.system.System.{System}
use Rattle.debug_session.specs.Lines.{Asks, AsksNothing, MayBeStep, Says}
use Rattle.debug_session.specs.declared.fault.Fault.{Fault}
use Rattle.debug_session.specs.declared.fault.Fault.TheVariants.{BadCommand, Memory}
use Rattle.debug_session.specs.declared.line.Line.{Line}
use Rattle.dap_messages.specs.Notes.{IsDone, told_by}
use Rattle.dap_messages.specs.declared.answer.Answer.{Answer}
use Rattle.dap_messages.specs.declared.answer.Note.{Note}
use Rattle.dap_messages.specs.declared.request.Request.{Request}
use Rattle.dap_messages.specs.declared.told.Stop.{Stop}
use Rattle.dap_messages.specs.declared.told.Told.{Told}
use Rattle.dap_threads.specs.Frames.{FindsNamed, Misses}
use Rattle.dap_views.specs.declared.program.Program.{Program}
use Rattle.dap_requests.specs.Back.{Backs, Reverses}
use Rattle.dap_requests.specs.Said.{TellsStop, TellsTexts}
use Rattle.dap_requests.specs.Typed.{AnswersAt, AsksNone, DoesNothing, Evaluates, IsName, LineDoes, TellsMove, frame_named, has_moved, kept_by, line_in}
use Rattle.dap_requests.proofs.Reading.{led_still}

-- a response that tells nothing, and then one `stopped`
pub stops_after : (a m b : Answer) (stop : Stop) (branch : ℕ) → m.notes ≡ a.notes → (m.lacks ≡ false → a.lacks ≡ false) →
    (IsDone a.outcome → IsDone m.outcome) → TellsStop m stop branch b → TellsStop a stop branch b
stops_after a m b stop branch same lacks done h = record {
  outputs = h.outputs;
  are = h.are;
  told = λ full. let it = h.told full in (lacks it.0, it.1 ∙ ap (λ (ns : List Note). told_by ns ++ (h.outputs ++ Told.Stopped stop ∷ [])) (ap (λ n. n.items) same));
  says = h.says;
  done = λ was. h.done (done was);
  effect = h.effect;
}

-- or texts
pub texts_after : (a m b : Answer) → m.notes ≡ a.notes → (m.lacks ≡ false → a.lacks ≡ false) → TellsTexts m b → TellsTexts a b
texts_after a m b same lacks h = (
  h.0,
  h.1,
  λ full. let it = h.2 full in (lacks it.0, it.1 ∙ ap (λ (ns : List Note). told_by ns ++ h.0) (ap (λ n. n.items) same)),
)

-- how a command is told
pub moves_told : (d d' : AtDesk) (k : ℕ) (command : Command) (a b : Answer) (moved : Bool) (reply : Reply) (before after : List Choice) →
    moved ≡ has_moved reply → Answers d 0 command reply d' → TellsMove moved k a b → after ≡ kept_by moved before →
    AnswersAt d k command before a b d' after
moves_told d d' k command a b moved reply before after is answers h kept = (
  reply,
  answers,
  subst (λ (x : Bool). TellsMove x k a b) is h,
  subst (λ (x : Bool). after ≡ kept_by x before) is kept,
)

-- a desk that stays, and an answer without events
pub nothing_done : (d d' : AtDesk) (a b : Answer) → d' ≡ d → b.notes ≡ a.notes → DoesNothing d a b d'
nothing_done d d' a b same quiet = (same, quiet)

-- a line that asks for a command
asked-by : (d : AtDesk) (line : List ℕ) (said : Line) (command : Command) → said ≡ Line.Asked command → Says d.machine.checked line said → Asks d.machine.checked line (Line.Asked command)
asked-by d line said command is h = elim h [
  | inl asks ↦ subst (λ (s : Line). Asks d.machine.checked line s) is asks
  | inr empty ↦ let no : Line.Asked command ≡ Line.Empty = sym is ∙ empty.1 in absurd (cc)
]

pub line_asks : {P : Type 0} (x : Program) (d d' : AtDesk) (k : ℕ) (a b : Answer) (line : List ℕ) (said : Line) (command : Command)
    (before after : List Choice) → said ≡ Line.Asked command → Says d.machine.checked line said → AnswersAt d k command before a b d' after →
    P ⊎ LineDoes x d k line before a b d' after
line_asks x d d' k a b line said command before after is says h = inr (inl (command, asked-by d line said command is says, h))

-- one that was not read asks for nothing, unless there was no memory to read it
pub asks_unread : (system known : System) (line bytes : List ℕ) (fault : Fault) (number : ℕ) (b : Answer) → known ≡ system → bytes ≡ line →
    ((fault ≡ Memory) × MayBeStep bytes) ⊎ ((fault ≡ BadCommand number) × (bytes ≢ []) × AsksNothing known bytes) →
    (fault ≡ Memory → b.lacks ≡ true) → AsksNone system line b
asks_unread system known line bytes fault number b own same why lacks = elim why [
  | inl memory ↦ inr (inr (lacks memory.0, subst (λ (l : List ℕ). MayBeStep l) same memory.1))
  | inr other ↦ inl (subst (λ (s : System). AsksNothing s line) own (subst (λ (l : List ℕ). AsksNothing known l) same other.2))
]

-- a line `back`
pub line_backs : (x : Program) (d d' : AtDesk) (k : ℕ) (a m b : Answer) (line : List ℕ) (before after : List Choice) → line ≡ codes "back" →
    m.notes ≡ a.notes → (m.lacks ≡ false → a.lacks ≡ false) → (IsDone a.outcome → IsDone m.outcome) →
    (stop : Stop) × (branch : ℕ) × TellsStop m stop branch b × Backs x.excepts d k before stop branch d' after → LineDoes x d k line before a b d' after
line_backs x d d' k a m b line before after is same lacks done h =
    inr (inl (is, (h.0, h.1, stops_after a m b h.0 h.1 same lacks done h.2, h.3)))

-- a line `rewind`
pub line_rewinds : (x : Program) (d d' : AtDesk) (k : ℕ) (a m b : Answer) (line : List ℕ) (back : Bool) (before after : List Choice) →
    (line ≡ codes "back") ⊎ (line ≡ codes "rewind") → back ≡ false → (line ≡ codes "back" → back ≡ true) → m.notes ≡ a.notes →
    (m.lacks ≡ false → a.lacks ≡ false) → (IsDone a.outcome → IsDone m.outcome) →
    (stop : Stop) × (branch : ℕ) × TellsStop m stop branch b × Reverses x k None d stop branch d' after → LineDoes x d k line before a b d' after
line_rewinds x d d' k a m b line back before after one off other same lacks done h = elim one [
  | inl is ↦ let no : false ≡ true = sym off ∙ other is in absurd (cc)
  | inr is ↦ inr (inr (is, (h.0, h.1, stops_after a m b h.0 h.1 same lacks done h.2, h.3)))
]

-- what the line of a request does
abbrev pub DoesLine : Program → AtDesk → AtDesk → ℕ → ℕ → Answer → Answer → List Choice → List Choice → List ℕ → Type 0
DoesLine x d d' k call a b before after line =
    (DoesNothing d a b d' × (after ≡ before) × (IsName x call line ⊎ AsksNone d.machine.checked line b))
    ⊎ LineDoes x d k line before a b d' after

pub evaluates_line : (x : Program) (request : Request) (d d' : AtDesk) (machine : AtMachine) (k call : ℕ) (line : List ℕ) (a m b : Answer)
    (before after : List Choice) → machine ≡ d.machine → FindsNamed machine x.index x.sight (frame_named request) (Some (k, call)) →
    line ≡ line_in request → m ≡ a → DoesLine x d d' k call m b before after line → Evaluates x request d before a b d' after
evaluates_line x request d d' machine k call line a m b before after own frame is same h =
    let here = subst (λ (n : AtMachine). FindsNamed n x.index x.sight (frame_named request) (Some (k, call))) own frame in
    let does =
    subst (λ (y : Answer). DoesLine x d d' k call y b before after (line_in request)) same
    (subst (λ (l : List ℕ). DoesLine x d d' k call m b before after l) is h) in
    elim does [
      | inl none ↦ inl (none.0, none.1, inr (inr (inr (k, call, here, none.2))))
      | inr done ↦ inr (k, (call, here), done)
    ]

-- one whose frame is not found
pub evaluates_none : (x : Program) (request : Request) (d d' : AtDesk) (machine : AtMachine) (a b : Answer) (kept : List Choice) → machine ≡ d.machine →
    d' ≡ d → b.notes ≡ a.notes → Misses machine x.index x.sight (frame_named request) b → Evaluates x request d kept a b d' kept
evaluates_none x request d d' machine a b kept own still quiet none =
    inl ((still, quiet), refl, inr (inr (inl (subst (λ (n : AtMachine). Misses n x.index x.sight (frame_named request) b) own none))))

-- a desk that stays
pub ruleset stays = (led_still, nothing_done)
