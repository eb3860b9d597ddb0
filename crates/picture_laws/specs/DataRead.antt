-- The data of a picture as they are read.
use Rattle.std.specs.Prelude.{◌≡◌, ℕ, List}
use Rattle.json_text.specs.Json.{IsTextOf, Json}
use Rattle.runs.specs.Live.{Live}
use Rattle.system.specs.declared.system.System.{System}
use Rattle.picture_data.specs.declared.picture.Picture.{Picture}
use Rattle.picture_text.specs.DataText.{data_text}
use Rattle.picture_laws.specs.DataValue.{data_value}

-- the text is read as this value of JSON, and as no other
abbrev pub IsReadAs : Json → List ℕ → Type 0
IsReadAs v text = IsTextOf v text × ((w : Json) → IsTextOf w text → w ≡ v)

-- whatever the picture, and whatever bytes the source and the names have
abbrev pub DataAreReadBack : Type 0
DataAreReadBack =
    (system : System) (l : Live) (p : Picture) (source file stimulus trace : List ℕ) →
    IsReadAs (data_value system l p source file stimulus trace) (data_text system l p source file stimulus trace)
