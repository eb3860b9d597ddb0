-- The words of a shell beside those of a script, and what they ask of the desk.
use Rattle.std.specs.Prelude.{ℕ, ◌≡◌, ◌⊎◌, List, [], codes}
use Rattle.line_text.specs.Operands.{IsNumber, IsBranch}
use Rattle.locked_execution.specs.declared.command.Command.{Command}
use Rattle.shell_desk.specs.declared.deed.Deed.{Deed}
use Rattle.shell_desk.specs.declared.word.Word.{Word}
use Rattle.shell_desk.specs.declared.word.Word.TheVariants.{R, N, Run, Next, Undo, Back, Why, Waiting, Outline, Vars, List as ListWord}
use Rattle.shell_desk.specs.declared.word.Word.TheVariants.{Show, Save, SaveOver, Load, Script, ScriptOver, Help, Quit}

-- how a word is spelled
abbrev pub spelling : Word → List ℕ
spelling R = codes "r"
spelling N = codes "n"
spelling Run = codes "run"
spelling Next = codes "next"
spelling Undo = codes "undo"
spelling Back = codes "back"
spelling Why = codes "why"
spelling Waiting = codes "waiting"
spelling Outline = codes "outline"
spelling Vars = codes "vars"
spelling ListWord = codes "list"
spelling Show = codes "show"
spelling Save = codes "save"
spelling SaveOver = codes "save!"
spelling Load = codes "load"
spelling Script = codes "script"
spelling ScriptOver = codes "script!"
spelling Help = codes "help"
spelling Quit = codes "quit"

-- so many steps a run takes at most where it is not said: one more than can be live, so that it ends for another reason
abbrev pub most_steps : ℕ
most_steps = 65537

-- the word, with `rest` behind it, asks this of the desk
abbrev pub AsksDeed : Word → List ℕ → Deed → Type 0
AsksDeed R rest deed = (rest ≡ []) × (deed ≡ Deed.Ask Command.Ready)
AsksDeed N rest deed = ((rest ≡ []) × (deed ≡ Deed.NextAgain)) ⊎ ((k : ℕ) × IsBranch k rest × (deed ≡ Deed.Next k))
AsksDeed Next rest deed = ((rest ≡ []) × (deed ≡ Deed.NextAgain)) ⊎ ((k : ℕ) × IsBranch k rest × (deed ≡ Deed.Next k))
AsksDeed Run rest deed =
    ((rest ≡ []) × (deed ≡ Deed.Run most_steps)) ⊎ ((n : ℕ) × IsNumber n rest × (deed ≡ Deed.Run n))
AsksDeed Undo rest deed = (rest ≡ []) × (deed ≡ Deed.Back 1)
AsksDeed Back rest deed = ((rest ≡ []) × (deed ≡ Deed.Back 1)) ⊎ ((n : ℕ) × IsNumber n rest × (deed ≡ Deed.Back n))
-- the other words ask nothing of the desk
AsksDeed _ rest deed = ⊥

-- the word and the rest ask nothing of the desk
abbrev pub AsksNoDeed : Word → List ℕ → Type 0
AsksNoDeed word rest = (deed : Deed) → AsksDeed word rest deed → ⊥

-- the text spells no word
abbrev pub SpellsNothing : List ℕ → Type 0
SpellsNothing text = (word : Word) → spelling word ≡ text → ⊥
