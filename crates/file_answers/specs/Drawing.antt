-- The picture that is drawn.
use Rattle.std.specs.Prelude.{◌≡◌, ◌⊎◌, ℕ, List, Some}
use Rattle.system.specs.declared.system.System.{System}
use Rattle.runs.specs.declared.command.Refusal.TheVariants.{NoSuchEvent}
use Rattle.debug_session.specs.declared.fault.Fault.{Fault}
use Rattle.debug_session.specs.declared.fault.Fault.TheVariants.{Refused}
use Rattle.picture.specs.Pictures.{Files, IsMissingBehind, IsTextBehind}
use Rattle.picture.specs.declared.Drawing.{Drawing as Form}
use Rattle.picture.specs.declared.Drawing.TheVariants as form
use Rattle.command_words.specs.declared.form.Drawing.{Drawing}
use Rattle.file_answers.specs.Answering.{Holding, FilesDescribe, FilesGive, ReplayRefuses}
use Rattle.file_answers.specs.Kept.{Kept}

-- what the library calls the picture that is asked for
abbrev pub form_of : Drawing → Form
form_of Drawing.Page = form.Page
form_of (Drawing.Sheet event quiet) = form.Sheet event quiet
form_of Drawing.Waves = form.Waves
form_of Drawing.Data = form.Data

-- what a picture tells of the files of a run: the source, and their names
abbrev pub files_of : List ℕ → List ℕ → List ℕ → List ℕ → Files
files_of source file stimulus trace = record { source = source; file = file; stimulus = stimulus; trace = trace }

-- `picture` on the files of these names gives this answer: the text of the picture of the run that the trace gives
abbrev pub PictureGives : Holding → List ℕ → List ℕ → List ℕ → Drawing → List ℕ → Type 0
PictureGives holds file stimulus trace drawing answer =
    (system : System) × (source : List ℕ) × (text : List ℕ) × FilesDescribe holds file stimulus source system
    × holds trace (Some text)
    × IsTextBehind system text (files_of source file stimulus trace) (form_of drawing) answer

-- it gives none: `replay` does not, or else the trace does not have the step that is to be marked, of which the words
-- that are kept tell
abbrev pub PictureRefuses : Holding → List ℕ → List ℕ → List ℕ → Drawing → Kept → Fault → Type 0
PictureRefuses holds file stimulus trace drawing kept fault =
    ReplayRefuses holds file stimulus trace kept fault
    ⊎ ((system : System) × (text : List ℕ) × FilesGive holds file stimulus system
    × holds trace (Some text) × IsMissingBehind system text (form_of drawing) kept.said
    × (fault ≡ Refused NoSuchEvent))
