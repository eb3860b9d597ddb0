-- Where a source stands that is read part by part: what contracts see of a `Lexing`.
use Rattle.syntax.specs.Texts.{Text}
use Rattle.lexer.specs.declared.lexing.Lexing.{Lexing}
use Rattle.lexer.specs.declared.position.Position.{Position}

-- the position of what is left
abbrev pub position_of : Lexing → Position
position_of lexing = lexing.position

-- what is left
abbrev pub rest_of : Lexing → Text
rest_of lexing = lexing.rest.now
