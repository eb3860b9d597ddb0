-- With which program and which desk a session begins.
use Rattle.std.specs.Prelude.{ℕ, ◌≡◌, List, [], Option, None, Some, false, unwrap_or}
use Rattle.system.specs.declared.system.System.{System}
use Rattle.front_end.specs.Accepting.{AcceptedAs}
use Rattle.machine.specs.AtMachine.{AtMachine}
use Rattle.trace_file.specs.Loading.{IsLoaded}
use Rattle.locked_execution.specs.AtDesk.{AtDesk, new_desk}
use Rattle.dap_messages.specs.declared.answer.Answer.{Answer}
use Rattle.dap_moves.specs.Led.{Led}
use Rattle.dap_views.specs.Lined.{AreLinesOf}
use Rattle.dap_views.specs.declared.program.Counting.{Counting}
use Rattle.dap_views.specs.declared.program.Program.{Program}
use Rattle.dap.specs.Asking.{Asks, asked_by}
use Rattle.dap.specs.Files.{AreRead, Reads, TellsFound}
use Rattle.dap.specs.declared.launch.Launched.{Launched}

-- the machine of a system, behind this trace if there is one
abbrev pub BeginsOn : System → Option (List ℕ) → AtMachine → Type 0
BeginsOn system None m = m ≡ record { checked = system; live = []; next = 1; marked = [] }
BeginsOn system (Some trace) m = IsLoaded system trace m

-- the machine of this source and this stimulus, behind this trace if there is one
abbrev pub BeginsAt : List ℕ → List ℕ → Option (List ℕ) → AtMachine → Type 0
BeginsAt source stimulus trace m = (system : System) × AcceptedAs source stimulus system × BeginsOn system trace m

-- the program of this launch over this source, for a client that counts so, on which nothing is set, and which has not
-- begun; nothing is shown of its state yet
pub record IsUnset (asked : Asks) (counting : Counting) (source : List ℕ) (p : Program) : Type 0 where
  pub launch : asked_by p.launch ≡ asked
  pub counts : p.counting ≡ counting
  pub text : p.source.items ≡ source
  pub cut : AreLinesOf source p.lines
  pub lines : p.asked.items ≡ []
  pub elsewhere : p.elsewhere ≡ None
  pub stops : p.stops.items ≡ []
  pub watched : p.watched.items ≡ []
  pub numbers : p.last_id ≡ 0
  pub waits : p.begun ≡ false
  pub lasts : p.ended ≡ false
  pub sight : p.sight ≡ None

-- such a program with a new desk on this machine
pub record IsNew (asked : Asks) (counting : Counting) (source : List ℕ) (m : AtMachine) (l : Launched) : Type 0 where
  pub unset : IsUnset asked counting source l.program
  pub seen : l.memo.seen.items ≡ []
  pub desk : l.desk ≡ new_desk m

-- it is launched as is asked for, for a client that counts so, new, from the texts that were read of the files; the
-- stimulus has no bytes where none was found
pub record IsBegun (reads : Reads) (counting : Counting) (asked : Asks) (l : Launched) : Type 0 where
  pub source : List ℕ
  pub found : Option (List ℕ)
  pub trace : Option (List ℕ)
  pub read : AreRead reads asked source found trace
  pub machine : AtMachine
  pub begins : BeginsAt source (unwrap_or found []) trace machine
  pub fresh : IsNew asked counting source machine l

-- the same, and what was found of the stimulus is told
abbrev pub TellsBegun : Reads → Counting → Asks → Answer → Answer → Launched → Type 0
TellsBegun reads counting asked a b l = (begun : IsBegun reads counting asked l) × TellsFound begun.found a b

-- a desk that some commands of sessions leave of the one with which a program is launched
abbrev pub Stands : Reads → AtDesk → Type 0
Stands reads d =
    (counting : Counting) × (asked : Asks) × (begun : Launched) × IsBegun reads counting asked begun × Led begun.desk d
