-- How far the search for the first ring has come, by the marks that the code keeps.
-- No reader has to believe it: the contract of `ring_among` ties it to `IsFirstRing`.
use Rattle.std.specs.Prelude.{◌≡◌, ◌↔◌, ℕ, List, [], ◌∷◌, length, Bool, Some, slice_get}
use Rattle.syntax.specs.Lists.{In}
use Rattle.local_actions.specs.declared.action.LocalAction.{LocalAction}
use Rattle.rings.specs.FirstRing.{Awaits, Finds, StandTogether}
use Rattle.rings.specs.declared.partner.Partner.{Partner}
use Rattle.rings.specs.declared.ring.Seen.{Seen}
use Rattle.rings.specs.declared.ring.Seen.TheVariants.{Done}

-- it is done at exactly these
abbrev pub DoneAt : List Seen → List ℕ → Type 0
DoneAt seen done = (i : ℕ) → (slice_get seen i ≡ Some Done) ↔ In i done

-- what it finds among these actions
abbrev pub FindsIn : List LocalAction → List Partner → List Bool → List ℕ → List ℕ → List ℕ → Type 0
FindsIn actions partners marks = Finds (length actions) (Awaits actions partners marks) (StandTogether actions)

-- it has come to here from where it was done at some: what it finds from here on it finds from there on
abbrev pub ComesTo : List LocalAction → List Partner → List Bool → List ℕ → List Seen → List ℕ → Type 0
ComesTo actions partners marks before seen way =
    (done : List ℕ) × DoneAt seen done
    × ((ring : List ℕ) → FindsIn actions partners marks done way ring → FindsIn actions partners marks before [] ring)

-- the same of a search that has ended with no ring, or with one
abbrev pub EndsWith : List LocalAction → List Partner → List Bool → List ℕ → List Seen → List ℕ → Type 0
EndsWith actions partners marks before seen [] = ComesTo actions partners marks before seen []
EndsWith actions partners marks before seen (i ∷ rest) = FindsIn actions partners marks before [] (i ∷ rest)
