-- What the lines of a script ask for.
use Rattle.std.specs.Prelude.{ℕ, ◌≡◌, ◌<◌, ◌⊎◌, List, [], ◌++◌}
use Rattle.std.specs.Fmt.{decimal}
use Rattle.system.specs.declared.system.System.{System}
use Rattle.runs.specs.declared.event.Choice.{Choice}
use Rattle.locked_execution.specs.AtDesk.{sessions}
use Rattle.locked_execution.specs.declared.command.Command.{Command}
use Rattle.line_text.specs.declared.keyword.Keyword.{Keyword}
use Rattle.line_text.specs.EventText.{field}
use Rattle.line_text.specs.Keywords.{spelling}
use Rattle.line_text.specs.Operands.{IsNumber, IsBranch, IsVariable, IsChoice, MayBeChoice}
use Rattle.debug_session.specs.declared.line.Line.{Line}

-- a space and this number of a session, of which there are sixteen
abbrev pub IsSession : ℕ → List ℕ → Type 0
IsSession k rest = (k < sessions) × (rest ≡ field (decimal k))

-- the line may ask for a step: only such a line takes memory to be read
abbrev pub MayBeStep : List ℕ → Type 0
MayBeStep line = (rest : List ℕ) × (line ≡ spelling Keyword.Step ++ rest) × MayBeChoice rest

-- the keyword, and `rest` behind it, ask for this
abbrev pub AsksBy : System → Keyword → List ℕ → Line → Type 0
AsksBy system Keyword.Step rest said =
    (choice : Choice) × IsChoice choice rest × (said ≡ Line.Asked (Command.Step choice))
AsksBy system Keyword.Undo rest said = (ticket : ℕ) × IsNumber ticket rest × (said ≡ Line.Asked (Command.Undo ticket))
AsksBy system Keyword.Roll rest said = (ticket : ℕ) × IsNumber ticket rest × (said ≡ Line.Asked (Command.Roll ticket))
AsksBy system Keyword.RollValue rest said =
    (x : ℕ) × IsVariable system x rest × (said ≡ Line.Asked (Command.RollValue x))
AsksBy system Keyword.Blame rest said = (x : ℕ) × IsVariable system x rest × (said ≡ Line.Asked (Command.Blame x))
AsksBy system Keyword.Ready rest said = (rest ≡ []) × (said ≡ Line.Asked Command.Ready)
AsksBy system Keyword.Consequences rest said =
    (ticket : ℕ) × IsNumber ticket rest × (said ≡ Line.Asked (Command.Consequences ticket))
AsksBy system Keyword.Live rest said = (rest ≡ []) × (said ≡ Line.Asked Command.Live)
AsksBy system Keyword.Value rest said = (x : ℕ) × IsVariable system x rest × (said ≡ Line.Asked (Command.Value x))
AsksBy system Keyword.Branch rest said = (k : ℕ) × IsBranch k rest × (said ≡ Line.Asked (Command.Branch k))
AsksBy system Keyword.Break rest said = (line : ℕ) × IsNumber line rest × (said ≡ Line.Asked (Command.Break line))
AsksBy system Keyword.Clear rest said = (line : ℕ) × IsNumber line rest × (said ≡ Line.Asked (Command.Clear line))
AsksBy system Keyword.Session rest said = (k : ℕ) × IsSession k rest × (said ≡ Line.Session k)
AsksBy system Keyword.View rest said = (rest ≡ []) × (said ≡ Line.View)
AsksBy system Keyword.Trace rest said = (rest ≡ []) × (said ≡ Line.Trace)

-- the line asks for this
pub record Asks (system : System) (line : List ℕ) (said : Line) : Type 0 where
  pub keyword : Keyword
  pub rest : List ℕ
  pub spelled : line ≡ spelling keyword ++ rest
  pub asked : AsksBy system keyword rest said

-- the line asks for nothing
abbrev pub AsksNothing : System → List ℕ → Type 0
AsksNothing system line = (said : Line) → Asks system line said → ⊥

-- an answer to the line may want memory: it asks for something, or it may ask for a step
abbrev pub LineMayWantMemory : System → List ℕ → Type 0
LineMayWantMemory system line = ((said : Line) × Asks system line said) ⊎ MayBeStep line

-- what the line says: what it asks for, or nothing where it is empty
abbrev pub Says : System → List ℕ → Line → Type 0
Says system line said = Asks system line said ⊎ ((line ≡ []) × (said ≡ Line.Empty))

-- where a session is named, it is one of the sixteen
abbrev pub SaysSession : Line → Type 0
SaysSession (Line.Session k) = k < sessions
SaysSession _ = Unit {0}
