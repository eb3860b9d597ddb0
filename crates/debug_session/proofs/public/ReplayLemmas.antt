-- The answer to a trace.
use Rattle.std.proofs.Common.{◌≡◌, ℕ, List, Result, Ok, Err, MatchResult, sym, ap, ◌∙◌, subst}
use Rattle.system.specs.declared.system.System.{System}
use Rattle.runs.specs.Live.{Live}
use Rattle.locked_execution.specs.declared.command.Command as command
use Rattle.locked_execution.specs.declared.command.Reply as reply
use Rattle.machine.specs.AtMachine.{AtMachine}
use Rattle.trace_file.specs.Loading as trace
use Rattle.trace_file.specs.declared.fault.Fault as loading
use Rattle.trace_file.specs.declared.fault.Fault.TheVariants as not_loaded
use Rattle.debug_session.specs.ReplyText.{answer_text}
use Rattle.debug_session.specs.Replaying.{Replays, RefusesTrace}
use Rattle.debug_session.specs.Wrapping.{of_trace}
use Rattle.debug_session.specs.declared.fault.Fault.{Fault}

-- the text of the list of live events
abbrev pub listing : System → Live → List ℕ
listing system live = answer_text system command.Command.Live (reply.Reply.Live live)

-- what is told of a loaded machine
pub replays : {A : Type 0} (bytes : A → List ℕ) (system : System) (text : List ℕ) (m : AtMachine) (result : Result A Fault)
    → trace.IsLoaded system text m
    → MatchResult result (λ answer. bytes answer ≡ listing m.checked m.live) (λ fault. fault ≡ Fault.Memory)
    → MatchResult result (λ answer. Replays system text (bytes answer)) (λ fault. RefusesTrace system text fault)
replays bytes system text m (Ok answer) (h, stands, is) text_is =
    (h, stands, text_is ∙ ap (λ (n : AtMachine). listing n.checked n.live) is)
replays bytes system text m (Err fault) loaded memory = subst (RefusesTrace system text) (sym memory) tt

-- why a trace is refused
pub refuses : (system : System) (text : List ℕ) (fault : loading.Fault) → trace.IsRefused system text fault → RefusesTrace system text (of_trace fault)
refuses system text not_loaded.Memory h = tt
refuses system text not_loaded.BadHeader h = (λ e. cc, h)
refuses system text (not_loaded.BadLine n) h = (λ e. cc, h)
refuses system text (not_loaded.NotAStep n) h = (λ e. cc, h)
refuses system text (not_loaded.NotCanonical n) h = (λ e. cc, h)
refuses system text not_loaded.ReadFailed h = absurd h
refuses system text not_loaded.WriteFailed h = absurd h
