-- A line says one thing.
use Rattle.std.specs.Prelude.{ℕ, ◌≡◌, List}
use Rattle.system.specs.declared.system.System.{System}
use Rattle.debug_session.specs.declared.line.Line.{Line}
use Rattle.debug_session.specs.Lines.{Says}

-- what a line says is one thing
abbrev pub SaysOneThing : Type 0
SaysOneThing =
    (system : System) (line : List ℕ) (one other : Line) → Says system line one → Says system line other → one ≡ other
