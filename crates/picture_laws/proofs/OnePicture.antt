-- Of one run pictures show the same, index by index.
use Rattle.std.proofs.Common.{ℕ, List, [], ◌∷◌, refl}
use Rattle.runs.specs.Dependence.{Rearranged, Respecting}
use Rattle.runs.specs.Live.{Rising, events}
use Rattle.runs.specs.Object.{Reaches}
use Rattle.runs.specs.Steps.{State}
use Rattle.runs.specs.declared.event.Event.{Event}
use Rattle.depth_laws.specs.Laws.{AreEqualRuns}
use Rattle.types.specs.declared.tree.Procedure.{Procedure}
use Rattle.machine.specs.AtMachine.{AtMachine, object}
use Rattle.waiting.specs.Told.{OneRing}
use Rattle.waiting.specs.Waits.{OneList}
use Rattle.picture_data.specs.Shown.{Shows}
use Rattle.picture_data.specs.declared.picture.Picture.{Picture}
use Rattle.picture_laws.specs.EqualPictures.{IsOnePicture}
use Rattle.picture_laws.proofs.OneRun.{one-ahead, one-depths, one-races}
use Rattle.picture_laws.proofs.SameShown.{one-end, one-ground}
use Rattle.picture_laws.proofs.SinceAgree.{one-sinces, since-agrees}
use Rattle.picture_laws.proofs.Standing.{one-stands}

-- a run is equal to itself
as-it-is : (h : List Event) → Rearranged h h
as-it-is [] = refl
as-it-is (e ∷ h) = ([], h, refl, as-it-is h)

respects-itself : (h : List Event) → Respecting h h
respects-itself h = record { rearranged = as-it-is h; keeps = λ e f before direct. before }

itself : (m : AtMachine) (S : State) (low next : ℕ) → Rising low m.live next → Reaches (object m) S → AreEqualRuns m.checked m.live m.live
itself m S low next rising reaches = record {
  state = S;
  runs = reaches;
  forth = respects-itself (events m.live);
  back = respects-itself (events m.live);
  low = low;
  next = next;
  rising = rising;
  other_low = low;
  other_next = next;
  other_rising = rising;
}

-- the machine with these marks, of which no picture tells
abbrev pub with-marks : AtMachine → List ℕ → AtMachine
with-marks m marked = record { checked = m.checked; live = m.live; next = m.next; marked = marked }

pub one-picture : OneList → OneRing → (m : AtMachine) (marked : List ℕ) (procedures : List Procedure) (p q : Picture) (low next : ℕ) →
    Rising low m.live next → Shows m procedures p → Shows (with-marks m marked) procedures q → IsOnePicture p q
one-picture lists ring m marked procedures p q low next rising here there =
    let list = here.end.ready in
    let equal = itself m list.0 low next rising list.1 in
    let n = with-marks m marked in
    let ground = one-ground m n procedures p q refl here there in
    record {
      ground = ground;
      depths = one-depths m.live p.steps.depths.items q.steps.depths.items here.steps.depths there.steps.depths;
      ahead = one-ahead low next m.live p.steps.ahead q.steps.ahead rising here.steps.ahead there.steps.ahead;
      actions =
          one-stands m n p.lanes.items q.lanes.items (events m.live) p.steps.actions.items q.steps.actions.items ground.lanes (λ a. refl)
          here.steps.actions there.steps.actions;
      since =
          one-sinces m.live p.steps.depths.items q.steps.depths.items p.steps.since.items q.steps.since.items
          (since-agrees m.checked m.live m.live p.steps.depths.items q.steps.depths.items equal here.steps.depths there.steps.depths)
          here.steps.since there.steps.since;
      races = one-races m.live p.steps.races.items q.steps.races.items here.steps.races there.steps.races;
      end = one-end lists ring m n procedures p q refl equal here there;
    }
