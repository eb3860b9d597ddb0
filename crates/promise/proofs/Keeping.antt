-- The promise is kept: the lines of a script are commands of sessions, so that the headline holds after them.
use Rattle.std.proofs.Common.{◌≡◌, ℕ, List, [], ◌∷◌, ◌++◌, Option, Some, Result, MatchResult, Ok, inl, inr, refl, sym, ap, subst}
use Rattle.std.proofs.KnownBytes.{Consumes-whole}
use Rattle.system.specs.declared.system.System.{System}
use Rattle.runs.proofs.public.ObjectLaws.{begins-sound, stays-over-lists}
use Rattle.machine.proofs.public.HeadlineLaws.{headline}
use Rattle.locked_execution.specs.AtDesk.{AtDesk, execution}
use Rattle.locked_execution.specs.Answered.{Answered}
use Rattle.locked_execution.specs.declared.command.Command.{Command}
use Rattle.locked_execution.specs.declared.command.Reply.{Reply}
use Rattle.locked_execution.proofs.public.AskedLists.{answered-joins}
use Rattle.locked_execution.proofs.public.BridgeLaws.{commands_of, are-on-execution}
use Rattle.debug_session.specs.Accepting.{AcceptedAs}
use Rattle.debug_session.specs.AtLine.{AtLine, first_line}
use Rattle.debug_session.specs.Transcript.{Debugged, Completed, SaidAnswered, Transcript}
use Rattle.debug_session.specs.declared.fault.Fault.{Fault}
use Rattle.debug_session.specs.declared.line.Line.{Line}
use Rattle.promise.specs.Promise.{Kept, PromiseIsKept}

-- the commands that lead from one place of a script to another, with their replies
record Asked (a a' : AtLine) : Type 0 where
  pub commands : List (ℕ × Command)
  pub replies : List Reply
  pub answered : Answered a.desk commands replies a'.desk

-- none, where the desk is the same
none : (a a' : AtLine) → a'.desk ≡ a.desk → Asked a a'
none a a' same = record { commands = []; replies = []; answered = (refl, same) }

by-one : (system : System) (a a' : AtLine) (said : Line) (answer : List ℕ) → SaidAnswered system a said answer a' → Asked a a'
by-one system a a' (Line.Asked c) answer h =
    record { commands = (a.session, c) ∷ []; replies = h.0 ∷ []; answered = (h.0, [], a'.desk, refl, h.1, (refl, refl)) }
by-one system a a' (Line.Session session) answer h = none a a' (ap (λ (x : AtLine). x.desk) h.1)
by-one system a a' Line.View answer h = none a a' (ap (λ (x : AtLine). x.desk) h.1)
by-one system a a' Line.Trace answer h = none a a' (ap (λ (x : AtLine). x.desk) h.1)
by-one system a a' Line.Empty answer h = none a a' (ap (λ (x : AtLine). x.desk) h.1)

by-all : (system : System) (a a' : AtLine) (lines : List (List ℕ)) (answer : List ℕ) → Transcript system a lines answer a' → Asked a a'
by-all system a a' [] answer h = none a a' (ap (λ (x : AtLine). x.desk) h.1)
by-all system a a' (line ∷ lines) answer h =
    let first = by-one system a h.2 h.3.0 h.0 h.3.2 in
    let others = by-all system h.2 a' lines h.1 h.4 in
    record {
      commands = first.commands ++ others.commands;
      replies = first.replies ++ others.replies;
      answered = answered-joins a.desk h.2.desk a'.desk first.commands others.commands first.replies others.replies first.answered others.answered;
    }

-- a script that was read to its end keeps the promise
completed : (source stimulus script answer : List ℕ) (system : System) → AcceptedAs source stimulus system →
    Completed system (first_line system source) script answer → Kept source stimulus script answer
completed source stimulus script answer system accepted h =
    let asked = by-all system (first_line system source) h.3.0 (h.0 ++ h.1 ∷ []) answer h.3.1 in
    let there = are-on-execution (first_line system source).desk h.3.0.desk asked.commands asked.replies asked.answered in
    let start = execution (first_line system source).desk in
    record {
      system = system;
      accepted = accepted;
      lines = h.0;
      last = h.1;
      are_lines = h.2;
      left = h.3.0;
      told = h.3.1;
      commands = asked.commands;
      replies = asked.replies;
      answered = asked.answered;
      headline = headline (execution h.3.0.desk)
          (stays-over-lists start (execution h.3.0.desk) (commands_of asked.commands asked.replies) there.0 (begins-sound system) there.2);
    }

pub promise-is-kept : PromiseIsKept
promise-is-kept source stimulus script answer rest (inl refused) =
    absurd (subst (λ (r : Result (Unit {0}) Fault). MatchResult r (λ _. Unit {0}) (λ _. ⊥)) refused.1 tt)
promise-is-kept source stimulus script answer rest (inr (system, accepted, ends)) =
    let all : Completed system (first_line system source) script ends.1 =
    Consumes-whole (Some script) rest ends.0 (λ bytes. Completed system (first_line system source) bytes ends.1)
    ends.2 ends.4.0 ends.4.1 in
    completed source stimulus script answer system accepted
    (subst (Completed system (first_line system source) script) (sym ends.3) all)
