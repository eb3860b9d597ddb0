-- What is drawn of a machine.
use Rattle.std.proofs.Common.{◌≡◌, ◌∙◌, ℕ, List, Bool, Option, Result, Ok, Err, IfOk, Vec, Global, ap, subst, sym}
use Rattle.std.specs.Prelude.{MatchResult, length}
use Rattle.std.specs.List.{All}
use Rattle.std.specs.Result.{IsErrAnd}
use Rattle.json_text.specs.Strings.{IsPlain}
use Rattle.runs.specs.Live.{Live}
use Rattle.machine.specs.AtMachine.{AtMachine}
use Rattle.types.specs.declared.tree.Procedure.{Procedure}
use Rattle.typed_source.specs.Source.{IsTyped}
use Rattle.picture_data.specs.Shown.{Shows}
use Rattle.picture_data.specs.declared.picture.Picture.{Picture}
use Rattle.picture_drawing.specs.Asked.{IsMissing}
use Rattle.picture_text.specs.PageText.{page_text}
use Rattle.picture.specs.Pictures.{AreData, Files, IsPage, IsPictureOf, ShowsRun, TellsMissing, data_text, missing_text}
use Rattle.picture.specs.internal.Writing.{IsSheet}
use Rattle.picture.specs.declared.Drawing.{Drawing}
use Rattle.picture.specs.declared.Pictured.{Pictured}

-- a `?` hands on why there is no answer
pub refused : {A E : Type 0} (r : Result A E) (error : E) (gives : A → Type 0) (refuses : E → Type 0) → refuses error →
    IsErrAnd r (λ given. given ≡ error) → MatchResult r gives refuses
refused (Ok x) error gives refuses h e = absurd e
refused (Err given) error gives refuses h e = subst refuses (sym e) h

-- what is told of a step that is missing
pub tells_missing : (l lent : Live) (event : Option ℕ) (count : ℕ) (words : List ℕ) → IsMissing l event → lent ≡ l → count ≡ length lent →
    words ≡ missing_text event count → TellsMissing l event words
tells_missing l lent event count words missing same are is =
    (missing, is ∙ ap (missing_text event) (are ∙ ap (λ (k : Live). length k) same))

-- of a drawing no clause names the text
sheet-of : (m : AtMachine) (f : Files) (event : Option ℕ) (quiet : Bool) (pictured : Pictured) → IsSheet m.live event pictured →
    IsPictureOf m f (Drawing.Sheet event quiet) pictured
sheet-of m f event quiet (Pictured.Text text) h = (h, tt)
sheet-of m f event quiet (Pictured.NoSuchStep words) h = h

pub sheet : {E : Type 0} (m : AtMachine) (f : Files) (event : Option ℕ) (quiet : Bool) (result : Result Pictured E) → IfOk result (IsSheet m.live event) →
    IfOk result (IsPictureOf m f (Drawing.Sheet event quiet))
sheet m f event quiet (Ok pictured) h = sheet-of m f event quiet pictured h
sheet m f event quiet (Err error) h = tt

-- the data of a picture that shows the machine
pub are-data : {E : Type 0} (m : AtMachine) (f : Files) (picture : Picture) (result : Result (Vec ℕ Global) E) → ShowsRun m f.source picture →
    IfOk result (λ text. text.items ≡ data_text m picture f) → IfOk result (λ text. All IsPlain text.items) →
    IfOk result (λ text. AreData m f text.items)
are-data m f picture (Ok text) shows is plain = record { picture = picture; shows = shows; is_text = is; plain = plain }
are-data m f picture (Err error) shows is plain = tt

-- the page with them
pub is-page : {E : Type 0} (m : AtMachine) (f : Files) (bytes json : List ℕ) (result : Result (Vec ℕ Global) E) → bytes ≡ json → AreData m f json →
    IfOk result (λ made. made.items ≡ page_text bytes) → IfOk result (λ text. IsPage m f text.items)
is-page m f bytes json (Ok made) same are is = (json, are, is ∙ ap page_text same)
is-page m f bytes json (Err error) same are is = tt

-- what is drawn of these procedures
pub shows-run : {E : Type 0} (m : AtMachine) (source : List ℕ) (given procedures : List Procedure) (result : Result Picture E) → given ≡ procedures →
    IsTyped source procedures → IfOk result (Shows m given) → IfOk result (ShowsRun m source)
shows-run m source given procedures (Ok picture) same are shows =
    (procedures, are, subst (λ (ps : List Procedure). Shows m ps picture) same shows)
shows-run m source given procedures (Err error) same are shows = tt
