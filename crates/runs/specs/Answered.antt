-- Lists of commands, answered one after another.
use Rattle.std.specs.Prelude.{◌≡◌, List, [], ◌∷◌}
use Rattle.runs.specs.Object.{Object}
use Rattle.runs.specs.Does.{Does, Answers}
use Rattle.runs.specs.Commands.{Command, Reply}

-- the commands are answered in their order by these replies, one each, and leave o'; some may want memory
abbrev pub Answered : Object → List Command → List Reply → Object → Type 0
Answered o [] replies o' = (replies ≡ []) × (o' ≡ o)
Answered o (c ∷ cs) replies o' =
    (reply : Reply) × (rest : List Reply) × (middle : Object)
    × (replies ≡ reply ∷ rest) × Answers o c reply middle × Answered middle cs rest o'

-- the same, where none wants memory
abbrev pub DoesAll : Object → List Command → List Reply → Object → Type 0
DoesAll o [] replies o' = (replies ≡ []) × (o' ≡ o)
DoesAll o (c ∷ cs) replies o' =
    (reply : Reply) × (rest : List Reply) × (middle : Object)
    × (replies ≡ reply ∷ rest) × Does o c reply middle × DoesAll middle cs rest o'
