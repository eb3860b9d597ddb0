-- What a parse reads of an argument and of a command while they are made, and the request that matches make.
use Rattle.std.specs.Prelude.{◌≡◌, ◌≢◌, ℕ, [], List, Option, Some, None, codes, false}
use Rattle.clap.specs.Words.{App, Row, Rule, Text, app_of, fault_of, first_of, found_of, kind_of, one_of, rows_of, rule_of}
use Rattle.clap.specs.Words.{subcommand_rows_of}
use Rattle.clap.specs.declared.error.Error.{Error}
use Rattle.clap.specs.declared.error.kind.ErrorKind.TheVariants.{OutOfMemory}
use Rattle.clap.specs.declared.builder.arg.Arg.{Arg}
use Rattle.clap.specs.declared.builder.command.Command.{Command}
use Rattle.clap.specs.declared.builder.command.Command.TheViews.{out-Command}
use Rattle.clap.specs.declared.parser.matches.ArgMatches.{ArgMatches}
use Rattle.command_words.specs.Words.{AreFiles, AreTraced, AskDrawing, AskFor, AskForNone, AskForSome, IsFaultOf, IsHelp, IsNumber, IsRequest, Named, TellsPage, TellsStep}
use Rattle.command_words.specs.Words as spec
use Rattle.refusal_pages.specs.declared.page.Page.{Page}
use Rattle.command_words.specs.declared.crew_size.CrewSize.{CrewSize}
use Rattle.command_words.specs.declared.form.Drawing.{Drawing}
use Rattle.command_words.specs.declared.request.Request.{Request}
use Rattle.command_words.specs.declared.unasked.Unasked.{Unasked}
use Rattle.clap.specs.declared.error.kind.ErrorKind.{ErrorKind}

-- the argument is read as this, and is one of its command alone
pub record IsArgument (r : Rule) (a : Arg) : Type 0 where
  pub rule : rule_of a ≡ r
  pub local : a.global ≡ false

-- the command is read as this, and none of its arguments is one of its subcommands too
pub record IsCommand (program : App) (c : Command) : Type 0 where
  pub app : app_of c ≡ program
  pub local : (out-Command c).has_globals ≡ false

-- the values of a command
abbrev pub rows_in : ArgMatches → List Row
rows_in matches = rows_of (found_of matches)

-- no request is that of the subcommand of this name with these values
abbrev pub IsNoRequest : Text → List Row → Type 0
IsNoRequest name rows = (request : Request) → IsRequest name rows request → ⊥

-- the values name no description with its stimulus
abbrev pub NamesNoFiles : List Row → Type 0
NamesNoFiles rows = (file stimulus : Text) → AreFiles rows file stimulus → ⊥

-- nor with a trace
abbrev pub NamesNoTrace : List Row → Type 0
NamesNoTrace rows = (file stimulus trace : Text) → AreTraced rows file stimulus trace → ⊥

-- they have the number of no refusal
abbrev pub TellsNoPage : List Row → Type 0
TellsNoPage rows = (page : Page) → TellsPage rows page → ⊥

-- they tell of a step by what is no number
abbrev pub TellsNoStep : List Row → Type 0
TellsNoStep rows = (event : Option ℕ) → TellsStep (first_of (codes "event") rows) event → ⊥

-- they ask for no picture that there is
abbrev pub AsksNoDrawing : List Row → Type 0
AsksNoDrawing rows = (drawing : Drawing) → AskDrawing rows drawing → ⊥

-- the values tell of this crew
abbrev pub TellsCrew : List Row → CrewSize → Type 0
TellsCrew rows crew =
    IsNumber (one_of (codes "workers") rows) crew.workers × IsNumber (one_of (codes "turns") rows) crew.turns

-- they tell of none
abbrev pub TellsNoCrew : List Row → Type 0
TellsNoCrew rows = (crew : CrewSize) → TellsCrew rows crew → ⊥

-- the matches make this request
abbrev pub Chooses : ArgMatches → Request → Type 0
Chooses matches request = (p : Named) × (subcommand_rows_of matches ≡ Some p) × IsRequest p.0 p.1 request

-- they make none
abbrev pub ChoosesNone : ArgMatches → Type 0
ChoosesNone matches = (request : Request) → Chooses matches request → ⊥

-- the words have no fault, and ask for this request; or for none
abbrev pub Finds : List Text → Option Request → Type 0
Finds words (Some request) = AskFor words request
Finds words None = (fault_of spec.program words ≡ []) × AskForNone words

-- words are refused by this error: it is want of memory, or else a fault in them, and they ask for no request that the
-- program takes
abbrev pub Refuses : List Text → Error → Type 0
Refuses words error =
    (AskForSome words → kind_of error ≡ OutOfMemory) × (kind_of error ≢ OutOfMemory → IsFaultOf words (kind_of error))

-- what is told of an error of this kind
abbrev pub TellsError : ErrorKind → Unasked → Type 0
TellsError kind Unasked.Memory = Unit {0}
TellsError kind (Unasked.Help text) = (kind ≢ OutOfMemory) × IsHelp kind × (text.bytes.items ≢ [])
TellsError kind (Unasked.Mistake text) = (kind ≢ OutOfMemory) × (IsHelp kind → ⊥) × (text.bytes.items ≢ [])
