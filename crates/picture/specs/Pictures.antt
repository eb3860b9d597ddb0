-- What comes of a picture that is asked for.
use Rattle.std.specs.Prelude.{◌≡◌, ◌==◌, ◌⊎◌, ℕ, List, [], ◌++◌, Option, None, Some, Result, Ok, Err, Vec, codes, cond, length}
use Rattle.std.specs.Fmt.{decimal}
use Rattle.std.specs.Global.{Global}
use Rattle.std.specs.List.{All}
use Rattle.std.specs.Io.KnownBytes.{Appends}
use Rattle.system.specs.declared.system.System.{System}
use Rattle.runs.specs.Live.{Live}
use Rattle.types.specs.declared.tree.Procedure.{Procedure}
use Rattle.typed_source.specs.Source.{IsTyped}
use Rattle.machine.specs.AtMachine.{AtMachine}
use Rattle.devices.specs.Counting.{IsBeginning}
use Rattle.json_text.specs.Strings.{IsPlain}
use Rattle.trace_file.specs.Loading.{IsLoaded, IsRefused}
use Rattle.trace_file.specs.declared.fault.Fault.{Fault}
use Rattle.picture_data.specs.Shown.{Shows}
use Rattle.picture_data.specs.declared.picture.Picture.{Picture}
use Rattle.picture_text.specs.DataText as model
use Rattle.picture_text.specs.PageText.{page_text}
use Rattle.picture_text.specs.declared.data.Names.{Names}
use Rattle.picture_drawing.specs.Asked.{IsMissing, IsThere}
use Rattle.picture.specs.declared.Drawing.{Drawing}
use Rattle.picture.specs.declared.Pictured.{Pictured}

-- ---- what is drawn

-- what a picture tells of the files: the source, and the names of all three
pub record Files : Type 0 where
  pub source : List ℕ
  pub file : List ℕ
  pub stimulus : List ℕ
  pub trace : List ℕ

abbrev pub files_of : List ℕ → Names → Files
files_of source names =
    record { source = source; file = names.file.now; stimulus = names.stimulus.now; trace = names.trace.now }

-- the step whose causes and consequences a picture marks, if one is asked for
abbrev pub asked_event : Drawing → Option ℕ
asked_event (Drawing.Sheet event quiet) = event
asked_event other = None

-- ---- texts

-- the data of a picture of the machine, as a JSON text
abbrev pub data_text : AtMachine → Picture → Files → List ℕ
data_text m p f = model.data_text m.checked m.live p f.source f.file f.stimulus f.trace

-- the picture shows the machine, drawn on what there is in the source
abbrev pub ShowsRun : AtMachine → List ℕ → Picture → Type 0
ShowsRun m source picture = (procedures : List Procedure) × IsTyped source procedures × Shows m procedures picture

-- the data of a picture that shows the machine, and no byte of them ends the script that they stand in
pub record AreData (m : AtMachine) (f : Files) (text : List ℕ) : Type 0 where
  pub picture : Picture
  pub shows : ShowsRun m f.source picture
  pub is_text : text ≡ data_text m picture f
  pub plain : All IsPlain text

-- the page with such data
abbrev pub IsPage : AtMachine → Files → List ℕ → Type 0
IsPage m f text = (data_of : List ℕ) × AreData m f data_of × (text ≡ page_text data_of)

-- what a picture of each form is. Of a drawing and of waves no clause names the text
abbrev pub IsDrawn : AtMachine → Files → Drawing → List ℕ → Type 0
IsDrawn m f Drawing.Page text = IsPage m f text
IsDrawn m f Drawing.Data text = AreData m f text
IsDrawn m f other text = Unit {0}

-- the word behind a number of steps
abbrev pub steps_word : ℕ → List ℕ
steps_word count = cond (count == 1) (codes " step") (codes " steps")

-- what is said of the step that is asked for, where a trace of so many steps does not have it
abbrev pub missing_text : Option ℕ → ℕ → List ℕ
missing_text None count = []
missing_text (Some step) count =
    codes "the trace has no step " ++ decimal step ++ codes ": it has " ++ decimal count ++ steps_word count
    ++ codes "\n"

-- these words say so of one that is asked for
abbrev pub TellsMissing : Live → Option ℕ → List ℕ → Type 0
TellsMissing l event words = IsMissing l event × (words ≡ missing_text event (length l))

-- ---- answers

-- the text of a picture of the machine, which has the step that is asked for, if one is
abbrev pub IsPictureText : AtMachine → Files → Drawing → List ℕ → Type 0
IsPictureText m f drawing text = IsThere m.live (asked_event drawing) × IsDrawn m f drawing text

-- such a text, or the lines where there is no such step
abbrev pub IsPictureOf : AtMachine → Files → Drawing → Pictured → Type 0
IsPictureOf m f drawing (Pictured.Text text) = IsPictureText m f drawing text.items
IsPictureOf m f drawing (Pictured.NoSuchStep words) = TellsMissing m.live (asked_event drawing) words.items

-- the text is that of a picture of the machine that the trace is loaded to
abbrev pub IsTextBehind : System → List ℕ → Files → Drawing → List ℕ → Type 0
IsTextBehind system trace f drawing text =
    (m : AtMachine) × IsLoaded system trace m × IsPictureText m f drawing text

-- these words say of that machine that it has no such step
abbrev pub IsMissingBehind : System → List ℕ → Drawing → List ℕ → Type 0
IsMissingBehind system trace drawing words =
    (m : AtMachine) × IsLoaded system trace m × TellsMissing m.live (asked_event drawing) words

-- the one or the other
abbrev pub IsPictureBehind : System → List ℕ → Files → Drawing → Pictured → Type 0
IsPictureBehind system trace f drawing pictured =
    (m : AtMachine) × IsLoaded system trace m × IsPictureOf m f drawing pictured

-- ---- what is written

-- these bytes were written of a picture of the machine: all of its text, where there are no lines; none, where lines
-- say that there is no such step; a beginning, where the writer failed
abbrev pub IsWrittenOf : AtMachine → Files → Drawing → List ℕ → Result (Option (Vec ℕ Global)) Fault → Type 0
IsWrittenOf m f drawing given (Ok None) = IsPictureText m f drawing given
IsWrittenOf m f drawing given (Ok (Some words)) =
    TellsMissing m.live (asked_event drawing) words.items × (given ≡ [])
IsWrittenOf m f drawing given (Err fault) =
    (fault ≡ Fault.WriteFailed) × ((text : List ℕ) × IsPictureText m f drawing text × IsBeginning text given)

-- of the machine that the trace is loaded to; none, where the trace is refused
abbrev pub IsWritten : System → List ℕ → Files → Drawing → List ℕ → Result (Option (Vec ℕ Global)) Fault → Type 0
IsWritten system trace f drawing given result =
    ((m : AtMachine) × IsLoaded system trace m × IsWrittenOf m f drawing given result)
    ⊎ ((fault : Fault) × (result ≡ Err fault) × IsRefused system trace fault × (given ≡ []))

-- a writer was given such bytes
abbrev pub WritesPicture : System → List ℕ → Files → Drawing → Option (List ℕ) → Option (List ℕ)
    → Result (Option (Vec ℕ Global)) Fault → Type 0
WritesPicture system trace f drawing wrote held result =
    (given : List ℕ) × Appends wrote held given × IsWritten system trace f drawing given result
