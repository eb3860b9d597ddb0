-- A drawing, and a text that is written. No reader has to believe it: the contracts of `picture_text` and
-- `write_picture` say what comes of it.
use Rattle.std.specs.Prelude.{◌≡◌, ℕ, List, Option, None, Some, Result, Ok, Err, Vec}
use Rattle.std.specs.Global.{Global}
use Rattle.std.specs.Io.KnownBytes.{Appends}
use Rattle.runs.specs.Live.{Live}
use Rattle.devices.specs.Counting.{IsBeginning}
use Rattle.trace_file.specs.declared.fault.Fault.{Fault}
use Rattle.picture_drawing.specs.Asked.{IsThere}
use Rattle.picture.specs.Pictures.{TellsMissing}
use Rattle.picture.specs.declared.Pictured.{Pictured}

-- these bytes are all of the text, or a beginning where the writer failed
abbrev pub IsPartOf : List ℕ → List ℕ → Result (Option (Vec ℕ Global)) Fault → Type 0
IsPartOf text given (Ok None) = given ≡ text
IsPartOf text given (Ok (Some words)) = ⊥
IsPartOf text given (Err fault) = (fault ≡ Fault.WriteFailed) × IsBeginning text given

-- a writer was given such bytes
abbrev pub WritesText : List ℕ → Option (List ℕ) → Option (List ℕ) → Result (Option (Vec ℕ Global)) Fault → Type 0
WritesText text wrote held result = (given : List ℕ) × Appends wrote held given × IsPartOf text given result

-- the text of a picture, or nothing where lines are given back
abbrev pub WritesPictured : Pictured → Option (List ℕ) → Option (List ℕ) → Result (Option (Vec ℕ Global)) Fault → Type 0
WritesPictured (Pictured.Text text) wrote held result = WritesText text.items wrote held result
WritesPictured (Pictured.NoSuchStep words) wrote held result = (result ≡ Ok (Some words)) × (held ≡ wrote)

-- a drawing of these live events, or the lines where none has the number that is asked for
abbrev pub IsSheet : Live → Option ℕ → Pictured → Type 0
IsSheet l event (Pictured.Text text) = IsThere l event
IsSheet l event (Pictured.NoSuchStep words) = TellsMissing l event words.items
