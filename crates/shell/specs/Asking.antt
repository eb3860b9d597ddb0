-- What a line of a shell asks of the desk.
use Rattle.std.specs.Prelude.{ℕ, ◌≡◌, ◌≢◌, ◌⊎◌, List, []}
use Rattle.decimal.specs.Reading.{Reads, IsNoNumber}
use Rattle.system.specs.declared.system.System.{System}
use Rattle.line_text.specs.Fields.{CutAtSpace}
use Rattle.debug_session.specs.Lines.{Says, AsksNothing}
use Rattle.debug_session.specs.declared.line.Line.{Line}
use Rattle.shell_desk.specs.Tidied.{tidied}
use Rattle.shell_desk.specs.Words.{spelling, AsksDeed, AsksNoDeed, SpellsNothing}
use Rattle.shell_desk.specs.declared.deed.Deed.{Deed}
use Rattle.shell_desk.specs.declared.word.Word.{Word}
use Rattle.shell_desk.specs.declared.word.Word.TheVariants.{Load, Quit, Save, SaveOver, Script, ScriptOver}

-- what a line of a script asks: one command, another session, or nothing
abbrev pub deed_of : Line → Deed
deed_of (Line.Asked c) = Deed.Ask c
deed_of (Line.Session k) = Deed.Turn k
deed_of Line.View = Deed.Rest
deed_of Line.Trace = Deed.Rest
deed_of Line.Empty = Deed.Rest

-- the word with this rest is answered in words alone, where it asks nothing of the desk: those of files are not, nor is
-- `quit` with nothing behind it
abbrev pub IsToldAlone : Word → List ℕ → Type 0
IsToldAlone Save rest = ⊥
IsToldAlone SaveOver rest = ⊥
IsToldAlone Load rest = ⊥
IsToldAlone Script rest = ⊥
IsToldAlone ScriptOver rest = ⊥
IsToldAlone Quit rest = rest ≢ []
IsToldAlone _ rest = Unit {0}

-- the word that stands before the first space, with the rest behind it, asks this; what is no word asks nothing, and
-- neither does a word with a rest that does not fit
abbrev pub WordAsks : List ℕ → List ℕ → Deed → Type 0
WordAsks spelled rest deed =
    ((word : Word) × (spelling word ≡ spelled)
    × (AsksDeed word rest deed ⊎ (AsksNoDeed word rest × IsToldAlone word rest × (deed ≡ Deed.Rest))))
    ⊎ (SpellsNothing spelled × (deed ≡ Deed.Rest))

-- a text that is no line of a script asks this: a bare number the step that has it, else what its word asks
abbrev pub ShellAsks : List ℕ → Deed → Type 0
ShellAsks text deed =
    ((n : ℕ) × Reads text n × (deed ≡ Deed.Take n))
    ⊎ (IsNoNumber text
    × ((spelled : List ℕ) × (rest : List ℕ) × CutAtSpace text spelled rest × WordAsks spelled rest deed))

-- a text asks this: what it asks as a line of a script, and where it is none what it asks in a shell
abbrev pub TextAsks : System → List ℕ → Deed → Type 0
TextAsks system text deed =
    ((said : Line) × Says system text said × (deed ≡ deed_of said)) ⊎ (AsksNothing system text × ShellAsks text deed)

-- a line asks this: what it asks as a line of a script as it stands, and where it is none what it asks once it is
-- tidied
abbrev pub LineAsks : System → List ℕ → Deed → Type 0
LineAsks system line deed =
    ((said : Line) × Says system line said × (deed ≡ deed_of said))
    ⊎ (AsksNothing system line × TextAsks system (tidied line) deed)

-- the text is the word with this rest behind it
abbrev pub IsWordWith : List ℕ → Word → List ℕ → Type 0
IsWordWith text word rest = CutAtSpace text (spelling word) rest
