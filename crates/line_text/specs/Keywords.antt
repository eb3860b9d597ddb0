-- The words with which the lines of a script begin.
use Rattle.std.specs.Prelude.{ℕ, List, codes}
use Rattle.line_text.specs.declared.keyword.Keyword.{Keyword}
use Rattle.line_text.specs.declared.keyword.Keyword.TheVariants.{Step, Undo, Roll, RollValue, Blame, Ready}
use Rattle.line_text.specs.declared.keyword.Keyword.TheVariants.{Consequences, Live, Value, Branch, Break}
use Rattle.line_text.specs.declared.keyword.Keyword.TheVariants.{Clear, Session, View, Trace}

-- how a keyword is spelled
abbrev pub spelling : Keyword → List ℕ
spelling Step = codes "step"
spelling Undo = codes "undo"
spelling Roll = codes "roll"
spelling RollValue = codes "rollvalue"
spelling Blame = codes "blame"
spelling Ready = codes "ready"
spelling Consequences = codes "consequences"
spelling Live = codes "live"
spelling Value = codes "value"
spelling Branch = codes "branch"
spelling Break = codes "break"
spelling Clear = codes "clear"
spelling Session = codes "session"
spelling View = codes "view"
spelling Trace = codes "trace"
