-- What the parts of a line ask, as the code reads them.
-- No reader has to believe it: `proofs/LeavesLemmas.antt` ties it to `Asking.antt`.
use Rattle.std.specs.Prelude.{ℕ, ◌≡◌, ◌≢◌, ◌⊎◌, List, [], ◌∷◌, Bool, true, false, Some}
use Rattle.machine.specs.AtMachine.{AtMachine}
use Rattle.line_text.specs.Fields.{CutAtSpace}
use Rattle.debug_session.specs.declared.fault.Fault.{Fault}
use Rattle.shell_desk.specs.Words.{AsksDeed, AsksNoDeed}
use Rattle.shell_desk.specs.declared.deed.Deed.{Deed}
use Rattle.shell_desk.specs.declared.deed.Done.{Done}
use Rattle.shell_desk.specs.declared.word.Word.{Word}
use Rattle.shell_desk.specs.AtBench.{AtBench}
use Rattle.shell_desk.specs.Does.{Does, TurnsTo}
use Rattle.shell.specs.Asking.{IsToldAlone, WordAsks}
use Rattle.shell.specs.Beginning.{BeginsAt}
use Rattle.shell_files.specs.Files.{Files}
use Rattle.shell.specs.Lines.{IsNew, IsSaved, line_count}
use Rattle.shell.specs.declared.answer.Outcome.{Outcome}

-- a fault is want of memory
abbrev pub is_want : Fault → Bool
is_want Fault.Memory = true
is_want _ = false

-- no deed is asked
abbrev pub AsksNoDeedAtAll : Deed → Type 0
AsksNoDeedAtAll deed = ⊥

-- the line is this word with this rest behind it
abbrev pub Begun : Word → List ℕ → Word → List ℕ → Type 0
Begun word rest w r = (w ≡ word) × (r ≡ rest)

-- the trace was loaded, or was not
abbrev pub LoadsTrace : List ℕ → List ℕ → List ℕ → AtBench → Outcome → AtBench → Type 0
LoadsTrace source stimulus trace b Outcome.Loaded b' =
    (m : AtMachine) × BeginsAt source stimulus (Some trace) m × TurnsTo b (line_count source) m b'
LoadsTrace source stimulus trace b Outcome.NotLoaded b' = b' ≡ b
LoadsTrace source stimulus trace b _ b' = ⊥

-- where a file was not to be written over nothing had its name
abbrev pub IsNewUnless : Files → Bool → List ℕ → Type 0
IsNewUnless files over rest = over ≡ false → IsNew files rest

-- the trace was saved to the file that the rest names, or was not
abbrev pub SavesTrace : Files → AtBench → List ℕ → Bool → Outcome → Type 0
SavesTrace files b rest over outcome =
    (outcome ≡ Outcome.NotSaved) ⊎ ((outcome ≡ Outcome.Saved) × IsSaved files b rest × IsNewUnless files over rest)

-- these bytes were written to the file that the rest names, or were not
abbrev pub WritesFile : Files → List ℕ → List ℕ → Bool → Outcome → Outcome → Outcome → Type 0
WritesFile files bytes rest over done not_done outcome =
    (outcome ≡ not_done)
    ⊎ ((outcome ≡ done) × ((name : List ℕ) × (rest ≡ 32 ∷ name) × files.holds name bytes)
    × IsNewUnless files over rest)

-- `quit` with nothing behind it ends the session
abbrev pub Quits : List ℕ → Outcome → Type 0
Quits rest outcome = ((rest ≡ []) × (outcome ≡ Outcome.Over)) ⊎ ((rest ≢ []) × (outcome ≡ Outcome.Done))

-- the session goes on, and nothing is asked
abbrev pub RestsWith : Word → List ℕ → Deed → Type 0
RestsWith word rest deed = IsToldAlone word rest × (deed ≡ Deed.Rest)

-- the step that has the number is taken, or there was no memory to read the line
abbrev pub TakesNumber : ℕ → AtBench → Outcome → AtBench → Type 0
TakesNumber n b outcome b' =
    ((outcome ≡ Outcome.Done) × ((done : Done) × Does b (Deed.Take n) done b'))
    ⊎ ((outcome ≡ Outcome.Unread) × (b' ≡ b))

-- a word asks this with the rest behind it, or nothing
abbrev pub WordMeans : Word → List ℕ → Deed → Type 0
WordMeans word rest deed =
    AsksDeed word rest deed ⊎ (AsksNoDeed word rest × RestsWith word rest deed)

-- a text asks what its first word asks
abbrev pub WordsAsk : List ℕ → Deed → Type 0
WordsAsk text deed =
    (spelled : List ℕ) × (rest : List ℕ) × CutAtSpace text spelled rest × WordAsks spelled rest deed
