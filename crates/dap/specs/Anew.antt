-- Another launch in place of one.
use Rattle.std.specs.Prelude.{◌≡◌, ◌≢◌, List, ◌++◌, Bool, false, true, [], Option, None, Some, codes, if◌then◌else◌, is_some, option_and_then, string_bytes}
use Rattle.std.specs.Option.{option_map}
use Rattle.serde_json.specs.Data.{Data}
use Rattle.serde_json.specs.View.{view}
use Rattle.dap_messages.specs.Arguments.{part_named}
use Rattle.dap_messages.specs.Notes.{IsDone}
use Rattle.dap_messages.specs.declared.answer.Answer.{Answer}
use Rattle.dap_messages.specs.declared.request.Request.{Request}
use Rattle.dap_messages.specs.declared.told.Told.{Told}
use Rattle.dap_moves.specs.Led.{Led}
use Rattle.dap_requests.specs.Said.{AreOutputs, Tells}
use Rattle.dap_requests.specs.Sets.{ArePlaced, changes_of, file_of, is_again}
use Rattle.dap_views.specs.declared.program.Program.{Program}
use Rattle.dap.specs.Asking.{Asks, IsAsked}
use Rattle.dap.specs.Begins.{Begins, begun}
use Rattle.dap.specs.Stops.{BeginsOnce}
use Rattle.dap.specs.declared.launch.Launched.{Launched}

-- a program that was launched, where refusals stop as exceptions or not
abbrev pub excepting : Bool → Launched → Launched
excepting excepts l = record l { program = record l.program { excepts = excepts } }

-- whether these arguments name a program
abbrev pub names_program : Data → Bool
names_program d = is_some (part_named (codes "program") d)

-- these arguments, where they do
abbrev pub with_program : Data → Option Data
with_program d = if names_program d then Some d else None

-- the arguments for a launch that a restart brings, where they name a program
abbrev pub brought : Request → Option Data
brought request = option_and_then with_program (part_named (codes "arguments") (view request.arguments))

-- what a restart launches: what it brings arguments for, and else the same as before
abbrev pub IsMeant : Option Data → Asks → Asks → Type 0
IsMeant (Some d) before asked = IsAsked d asked
IsMeant None before asked = asked ≡ before

-- what the client had set on p is kept on q, the program that was launched anew, to k: what is watched only where the
-- source is the same, and the file for which breakpoints were set where that is not the one launched anew
pub record KeepsSet (p q k : Program) : Type 0 where
  pub same : k ≡ record q {
    asked = k.asked;
    elsewhere = k.elsewhere;
    stops = k.stops;
    watched = k.watched;
    excepts = p.excepts;
    last_id = p.last_id;
  }
  pub watched : q.source.items ≡ p.source.items → k.watched ≡ p.watched
  pub unwatched : q.source.items ≢ p.source.items → k.watched ≡ q.watched
  pub again : is_again p q ≡ true → k.elsewhere ≡ q.elsewhere
  pub elsewhere : is_again p q ≡ false → option_map (λ file. string_bytes file) k.elsewhere ≡ Some (file_of p)

-- each breakpoint of l is kept on k, and stands where it should in what was launched anew: on no line where it is of
-- another file
abbrev pub KeepsLines : Launched → Launched → Program → Type 0
KeepsLines l anew k =
    ArePlaced (is_again l.program anew.program) anew.desk.machine.checked.main anew.program.lines []
    l.program.asked.items k.asked.items k.stops.items

-- texts are told, and behind them of each breakpoint that it has changed; and nothing is refused
abbrev pub TellsAnew : Program → Answer → Answer → Type 0
TellsAnew k a b =
    (texts : List Told) × AreOutputs texts × Tells a (texts ++ changes_of k.asked.items) b
    × (IsDone a.outcome → IsDone b.outcome)

-- with that kept it begins, behind what is told of that, and the answer tells how
pub record GoesAnew (l anew : Launched) (a b : Answer) (m : Launched) : Type 0 where
  pub kept : Program
  pub keeps : KeepsSet l.program anew.program kept
  pub places : KeepsLines l anew kept
  pub start : Answer
  pub tells : TellsAnew kept a start
  pub begins : Begins (record anew { program = kept }) m start b
  pub sets : m.program ≡ begun kept
  pub once : BeginsOnce b
  pub led : Led anew.desk m.desk
