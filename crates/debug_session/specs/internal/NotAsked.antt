-- What stands behind a keyword where it asks for nothing: what reading the parts of a line finds there.
-- No reader has to believe it: `proofs/AskLemmas.antt` ties it to `AsksNothing` of `Lines.antt`.
use Rattle.std.specs.Prelude.{ℕ, List}
use Rattle.system.specs.declared.system.System.{System}
use Rattle.debug_session.specs.declared.line.Line.{Line}
use Rattle.line_text.specs.declared.keyword.Keyword.{Keyword}
use Rattle.debug_session.specs.Lines.{IsSession, AsksBy}

-- the rest is no number of a session
abbrev pub IsNoSession : List ℕ → Type 0
IsNoSession rest = (k : ℕ) → IsSession k rest → ⊥

-- the keyword and the rest ask for nothing
abbrev pub AsksNothingBy : System → Keyword → List ℕ → Type 0
AsksNothingBy system keyword rest = (said : Line) → AsksBy system keyword rest said → ⊥
