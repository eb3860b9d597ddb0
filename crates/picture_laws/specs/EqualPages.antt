-- The pages of equal runs whose events stand in the canonical order, as a saved trace has them.
use Rattle.std.specs.Prelude.{◌≡◌, ℕ, suc, List, [], ◌∷◌, length}
use Rattle.runs.specs.Live.{Live, events}
use Rattle.trace_file.specs.Canonical.{IsCanonicalOrder}
use Rattle.depth_laws.specs.Laws.{AreEqualRuns}
use Rattle.types.specs.declared.tree.Procedure.{Procedure}
use Rattle.machine.specs.AtMachine.{AtMachine}
use Rattle.picture_data.specs.Shown.{Shows}
use Rattle.picture_data.specs.declared.picture.Picture.{Picture}
use Rattle.picture_text.specs.DataText.{data_text}
use Rattle.picture_text.specs.PageText.{page_text}
use Rattle.picture_laws.specs.EqualPictures.{IsOnePicture}

-- the tickets are n, the next number, and so on
abbrev pub AreCounted : ℕ → Live → Type 0
AreCounted n [] = Unit {0}
AreCounted n (x ∷ l) = (x.0 ≡ n) × AreCounted (suc n) l

-- the events stand in the canonical order, and are numbered from 1, as those of a loaded trace
pub record IsInOrder (m : AtMachine) : Type 0 where
  pub counted : AreCounted 1 m.live
  pub next : m.next ≡ suc (length m.live)
  pub canonical : IsCanonicalOrder (events m.live) (events m.live)

-- one picture, and the bytes of the data and of the page are one, whatever the names of the files
pub record HaveOnePage (m n : AtMachine) (p q : Picture) : Type 0 where
  pub picture : IsOnePicture p q
  pub data_of : (source file stimulus trace : List ℕ) →
      data_text m.checked m.live p source file stimulus trace
      ≡ data_text n.checked n.live q source file stimulus trace
  pub page : (source file stimulus trace : List ℕ) →
      page_text (data_text m.checked m.live p source file stimulus trace)
      ≡ page_text (data_text n.checked n.live q source file stimulus trace)

-- the live events of two machines of one system are respecting orders of one another, and both stand in the canonical
-- order: so they have one page
abbrev pub EqualRunsHaveOnePage : Type 0
EqualRunsHaveOnePage =
    (m n : AtMachine) (procedures : List Procedure) (p q : Picture) → m.checked ≡ n.checked →
    AreEqualRuns m.checked m.live n.live → IsInOrder m → IsInOrder n →
    Shows m procedures p → Shows n procedures q → HaveOnePage m n p q
