-- What the words of the command line ask for, of which the first is the program's name.
use Rattle.std.specs.Prelude.{◌≡◌, ◌≢◌, ◌⊎◌, [], ◌∷◌, ℕ, Bool, IsTrue, List, Option, Some, None, pos, codes, false, true}
use Rattle.std.specs.Prelude.{option_map}
use Rattle.std.specs.Str.{bytes_eq}
use Rattle.std.specs.Str.Parse.{IsNumeral, digits_value, without_leading_plus}
use Rattle.clap.specs.Kinds.{IsAmong}
use Rattle.clap.specs.declared.error.kind.ErrorKind.{ErrorKind}
use Rattle.clap.specs.declared.error.kind.ErrorKind.TheVariants.{DisplayHelp, DisplayVersion, MissingSubcommand}
use Rattle.clap.specs.Words.{App, Row, Rule, Text, first_of, one_of, new_app, new_rule, subcommand_of, fault_of}
use Rattle.clap.specs.Words.{takes, with_rule, with_subcommand}
use Rattle.clap.specs.Simple.{on_top}
use Rattle.clap.specs.declared.builder.action.ArgAction.TheVariants.{Set, SetTrue}
use Rattle.clap.specs.declared.builder.value_parser.ValueParser.{ValueParser}
use Rattle.clap.specs.declared.builder.value_parser.ValueParser.TheVariants.{Signed, Unsigned}
use Rattle.decimal.specs.Reading.{Reads}
use Rattle.refusal_pages.specs.Numbers.{is_refusal}
use Rattle.refusal_pages.specs.declared.page.Page.{Page}
use Rattle.command_words.specs.declared.form.Drawing.{Drawing}
use Rattle.command_words.specs.declared.request.Request.{Request}
use Rattle.command_words.specs.declared.unasked.Unasked.{Unasked}

-- a word that has to be given
abbrev pub word : Text → Rule
word name = record (new_rule name) { action = Some Set; required = true }

-- `--NAME N`, which has to be given
abbrev pub number : Text → ValueParser → Rule
number name parser = record (word name) { long = Some name; value_names = 1; parser = Some parser }

-- the number of a refusal, which is none over 113
abbrev pub refusal_number : Rule
refusal_number = record (word (codes "N")) { parser = Some (Unsigned 1 113) }

-- `--NAME`
abbrev pub flag : Text → Rule
flag name = record (new_rule name) { long = Some name; action = Some SetTrue }

-- a command with a description behind its name, with its stimulus too, and with a trace too
abbrev pub over_file : App → App
over_file command = with_rule command (word (codes "FILE"))

abbrev pub over_ports : App → App
over_ports command = with_rule (over_file command) (word (codes "STIMULUS"))

abbrev pub over_trace : App → App
over_trace command = with_rule (over_ports command) (word (codes "TRACE"))

-- one with `--explain`
abbrev pub explaining : App → App
explaining command = with_rule command (flag (codes "explain"))

-- the subcommands, with what stands behind their names; those that people alone ask take `--explain` too, and explain
-- without it
abbrev pub check : App
check = explaining (over_file (new_app (codes "check")))

abbrev pub debug : App
debug = explaining (over_ports (new_app (codes "debug")))

abbrev pub replay : App
replay = explaining (over_trace (new_app (codes "replay")))

abbrev pub work : App
work = explaining (with_rule (with_rule (over_ports (new_app (codes "work")))
    (number (codes "workers") (Signed (pos 1) (pos 16)))) (number (codes "turns") (Unsigned 0 1000000)))

-- a word that may be left out
abbrev pub optional : Text → Rule
optional name = record (new_rule name) { action = Some Set }

abbrev pub shell : App
shell = with_rule (over_ports (new_app (codes "shell"))) (optional (codes "TRACE"))

abbrev pub explain : App
explain = with_rule (new_app (codes "explain")) refusal_number

abbrev pub dap : App
dap = new_app (codes "dap")

abbrev pub outline : App
outline = explaining (over_file (new_app (codes "outline")))

abbrev pub waiting : App
waiting = explaining (over_trace (new_app (codes "waiting")))

-- `--event T`, the number of a step
abbrev pub event_number : Rule
event_number = record (new_rule (codes "event")) { long = Some (codes "event"); action = Some Set; value_names = 1 }

-- `picture` with the forms of a drawing, and with what goes with one of them
abbrev pub drawn : App
drawn =
    with_rule (with_rule (with_rule (over_trace (new_app (codes "picture"))) (flag (codes "svg"))) (flag (codes "vcd")))
    (flag (codes "json"))

abbrev pub picture : App
picture = with_rule (with_rule drawn event_number) (flag (codes "quiet"))

abbrev pub why : App
why = explaining (with_rule (with_rule (over_trace (new_app (codes "why"))) (word (codes "X"))) (flag (codes "all")))

-- the program without its subcommands: it has a version, and wants a subcommand
abbrev pub bare : App
bare = on_top (λ s. record s { has_version = true; subcommand_required = true; arg_required_else_help = true })
    (new_app (codes "balsadbg"))

-- a program with more subcommands
abbrev pub with_subcommands : App → List App → App
with_subcommands over [] = over
with_subcommands over (command ∷ rest) = with_subcommands (with_subcommand over command.top) rest

-- the program with those that run a description
abbrev pub running : App
running = with_subcommands bare (check ∷ debug ∷ replay ∷ work ∷ shell ∷ [])

-- and with those that people ask
abbrev pub asking : App
asking = with_subcommands running (explain ∷ outline ∷ waiting ∷ why ∷ picture ∷ [])

-- the program
abbrev pub program : App
program = with_subcommands asking (dap ∷ [])

-- the name of a subcommand and its values
abbrev pub Named : Type 0
Named = Text × List Row

-- the number that a text tells in decimal
abbrev pub IsNumber : Option Text → ℕ → Type 0
IsNumber None n = ⊥
IsNumber (Some text) n = IsNumeral 10 (without_leading_plus text) × (n ≡ digits_value 10 (without_leading_plus text))

-- whether an option is among the words, of which the text is `true` where it is, and `false` where it is not
abbrev pub IsFlag : Option Text → Bool → Type 0
IsFlag text among =
    (text ≡ None → among ≡ false) × (text ≡ Some (codes "true") → among ≡ true)
    × (text ≡ Some (codes "false") → among ≡ false)

-- the values have these names of a description and of its stimulus
abbrev pub AreFiles : List Row → Text → Text → Type 0
AreFiles rows file stimulus =
    (first_of (codes "FILE") rows ≡ Some file) × (first_of (codes "STIMULUS") rows ≡ Some stimulus)

-- and of a trace
abbrev pub AreTraced : List Row → Text → Text → Text → Type 0
AreTraced rows file stimulus trace = AreFiles rows file stimulus × (first_of (codes "TRACE") rows ≡ Some trace)

-- they have the number of a refusal, which is that of the page
abbrev pub TellsPage : List Row → Page → Type 0
TellsPage rows page = IsNumber (one_of (codes "N") rows) page.number × IsTrue (is_refusal page.number)

-- an option without a value is among the words, where it has this text
abbrev pub is_on : Option Text → Bool
is_on None = false
is_on (Some text) = bytes_eq text (codes "true")

-- a picture, where no step is given and nothing is to be left out
abbrev pub unmarked : Drawing → Option ℕ → Bool → Option Drawing
unmarked drawing None false = Some drawing
unmarked drawing None true = None
unmarked drawing (Some t) quiet = None

-- the picture of these options: of one form at most, and only a drawing marks a step, or leaves something out
abbrev pub drawing_of : (svg vcd json : Bool) → Option ℕ → Bool → Option Drawing
drawing_of true false false event quiet = Some (Drawing.Sheet event quiet)
drawing_of false false false event quiet = unmarked Drawing.Page event quiet
drawing_of false true false event quiet = unmarked Drawing.Waves event quiet
drawing_of false false true event quiet = unmarked Drawing.Data event quiet
drawing_of true true false event quiet = None
drawing_of true false true event quiet = None
drawing_of false true true event quiet = None
drawing_of true true true event quiet = None

-- the step of which an option tells: none where there is no option, and else the one of this number
abbrev pub TellsStep : Option Text → Option ℕ → Type 0
TellsStep None event = event ≡ None
TellsStep (Some text) event = (t : ℕ) × (event ≡ Some t) × Reads text t

-- the values ask for this picture
abbrev pub AskDrawing : List Row → Drawing → Type 0
AskDrawing rows drawing =
    (event : Option ℕ) × TellsStep (first_of (codes "event") rows) event
    × (drawing_of (is_on (first_of (codes "svg") rows)) (is_on (first_of (codes "vcd") rows))
    (is_on (first_of (codes "json") rows)) event (is_on (first_of (codes "quiet") rows)) ≡ Some drawing)

-- the subcommand of this name with these values is this request
abbrev pub IsRequest : Text → List Row → Request → Type 0
IsRequest name rows (Request.Check file explain) =
    (name ≡ codes "check") × (first_of (codes "FILE") rows ≡ Some file.now)
    × IsFlag (one_of (codes "explain") rows) explain
IsRequest name rows (Request.Debug file stimulus explain) =
    (name ≡ codes "debug") × AreFiles rows file.now stimulus.now × IsFlag (one_of (codes "explain") rows) explain
IsRequest name rows (Request.Replay file stimulus trace explain) =
    (name ≡ codes "replay") × AreTraced rows file.now stimulus.now trace.now
    × IsFlag (one_of (codes "explain") rows) explain
IsRequest name rows (Request.Work file stimulus crew explain) =
    (name ≡ codes "work") × AreFiles rows file.now stimulus.now
    × IsNumber (one_of (codes "workers") rows) crew.workers × IsNumber (one_of (codes "turns") rows) crew.turns
    × IsFlag (one_of (codes "explain") rows) explain
IsRequest name rows (Request.Shell file stimulus trace) =
    (name ≡ codes "shell") × AreFiles rows file.now stimulus.now
    × (option_map (λ text. text.now) trace ≡ first_of (codes "TRACE") rows)
IsRequest name rows (Request.Explain page) = (name ≡ codes "explain") × TellsPage rows page.now
-- (nothing stands behind its name)
IsRequest name rows Request.Dap = (name ≡ codes "dap") × Unit {0}
IsRequest name rows (Request.Outline file) = (name ≡ codes "outline") × (first_of (codes "FILE") rows ≡ Some file.now)
IsRequest name rows (Request.Waiting file stimulus trace) =
    (name ≡ codes "waiting") × AreTraced rows file.now stimulus.now trace.now
IsRequest name rows (Request.Why file stimulus trace subject all) =
    (name ≡ codes "why") × AreTraced rows file.now stimulus.now trace.now
    × (first_of (codes "X") rows ≡ Some subject.now) × IsFlag (one_of (codes "all") rows) all
IsRequest name rows (Request.Picture file stimulus trace drawing) =
    (name ≡ codes "picture") × AreTraced rows file.now stimulus.now trace.now
    × AskDrawing rows drawing

-- whether a refusal of the request is told in words too
abbrev pub explains : Request → Bool
explains (Request.Check file explain) = explain
explains (Request.Debug file stimulus explain) = explain
explains (Request.Replay file stimulus trace explain) = explain
explains (Request.Work file stimulus crew explain) = explain
explains Request.Dap = false
explains other = true

-- `clap` finds no fault in the words, and they ask for this request
abbrev pub AskFor : List Text → Request → Type 0
AskFor words request =
    (fault_of program words ≡ []) × ((p : Named) × (subcommand_of program words ≡ Some p) × IsRequest p.0 p.1 request)

-- the words are such that the program takes them, and ask for a request
abbrev pub AskForSome : List Text → Type 0
AskForSome words = (takes program words ≡ true) × ((request : Request) × AskFor words request)

-- the words ask for no request
abbrev pub AskForNone : List Text → Type 0
AskForNone words = (request : Request) → AskFor words request → ⊥

-- a fault that `clap` finds in the words (of some words it says two, and either may be told); where it finds none, that
-- they ask for no request: `explain` of a number between those of refusals is one such
abbrev pub IsFaultOf : List Text → ErrorKind → Type 0
IsFaultOf words kind =
    IsAmong kind (fault_of program words)
    ⊎ ((fault_of program words ≡ []) × (kind ≡ MissingSubcommand) × AskForNone words)

-- a fault by which help or the version is asked for
abbrev pub IsHelp : ErrorKind → Type 0
IsHelp kind = (kind ≡ DisplayHelp) ⊎ (kind ≡ DisplayVersion)

-- the words ask for help, or for the version
abbrev pub AskForHelp : List Text → Type 0
AskForHelp words = (kind : ErrorKind) × IsFaultOf words kind × IsHelp kind

-- the words have another fault
abbrev pub AreMistaken : List Text → Type 0
AreMistaken words = (kind : ErrorKind) × IsFaultOf words kind × (IsHelp kind → ⊥)

-- why words ask for nothing: there was no memory to read them; or they ask for no request, and for help or the version,
-- or they are mistaken, of which a text that is not empty tells
abbrev pub AskNothing : List Text → Unasked → Type 0
AskNothing words Unasked.Memory = Unit {0}
AskNothing words (Unasked.Help text) = (AskForSome words → ⊥) × AskForHelp words × (text.bytes.items ≢ [])
AskNothing words (Unasked.Mistake text) = (AskForSome words → ⊥) × AreMistaken words × (text.bytes.items ≢ [])
