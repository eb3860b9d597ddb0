-- What is told where words ask for nothing.
use Rattle.std.specs.Prelude.{◌≡◌, ◌≢◌, ℕ, []}
use Rattle.debug_session.specs.declared.fault.Fault.TheVariants.{Memory}
use Rattle.command_words.specs.declared.unasked.Unasked.{Unasked}
use Rattle.command_line.specs.Running.{TellsFault, TellsHelp, TellsSome}
use Rattle.file_answers.specs.Used.{IsUntouched, Used}

-- its text is not empty
abbrev pub HasText : Unasked → Type 0
HasText Unasked.Memory = Unit {0}
HasText (Unasked.Help text) = text.bytes.items ≢ []
HasText (Unasked.Mistake text) = text.bytes.items ≢ []

-- it is told so, with this status
abbrev pub TellsUnasked : {O E : Type 0} → Unasked → ℕ → Used O → Used E → Type 0
TellsUnasked Unasked.Memory status out err = (status ≡ 1) × IsUntouched out × TellsFault Memory err
TellsUnasked (Unasked.Help text) status out err = TellsHelp status out err
TellsUnasked (Unasked.Mistake text) status out err = (status ≡ 2) × IsUntouched out × TellsSome err
