-- Which of several rings is told: the one that a search comes to first. It goes from the first action to the last one
-- that this waits for, and so on; where none is left it goes back, and is done there; and where it comes to a place
-- that is on its way, the way from there on is the ring. (Own.)
use Rattle.std.specs.Prelude.{◌≡◌, ℕ, ◌<◌, ◌≤◌, List, [], ◌∷◌, ◌++◌, length, drop, Bool, true, Some, slice_get}
use Rattle.syntax.specs.Lists.{In}
use Rattle.local_actions.specs.declared.action.LocalAction.{LocalAction}
use Rattle.rings.specs.Rings.{IsBehind}
use Rattle.rings.specs.declared.partner.Partner.{Partner}

-- what holds of two indexes
abbrev pub Between : Type 1
Between = ℕ → ℕ → Type 0

-- ---- the search, where W says who waits for whom, and A who stand at one place

-- i is the first of n at which it is not done
pub record IsFirstOpen (n : ℕ) (done : List ℕ) (i : ℕ) : Type 0 where
  pub within : i < n
  pub undone : In i done → ⊥
  pub first : (j : ℕ) → j < i → In j done

-- j is the last one that i waits for, of those at which it is not done
pub record IsLastOpen (W : Between) (done : List ℕ) (i j : ℕ) : Type 0 where
  pub waits : W i j
  pub undone : In j done → ⊥
  pub last : (k : ℕ) → W i k → (In k done → ⊥) → k ≤ j

-- the part is that of the way from the place of j on
pub record IsPartFrom (A : Between) (way : List ℕ) (j : ℕ) (part : List ℕ) : Type 0 where
  pub index : ℕ
  pub met : ℕ
  pub at : slice_get way index ≡ Some met
  pub there : A met j
  pub first : (i k : ℕ) → i < index → slice_get way i ≡ Some k → A k j → ⊥
  pub is : part ≡ drop index way

-- where it is done at these, and this is its way, the search finds this ring among n, or none
pub data Finds (n : ℕ) (W A : Between) : List ℕ → List ℕ → List ℕ → Type 0 where
  -- with no way it begins at the first at which it is not done
  begins : (done : List ℕ) (i : ℕ) (ring : List ℕ) → IsFirstOpen n done i → Finds n W A done (i ∷ []) ring →
      Finds n W A done [] ring
  -- where it is done at each there is no ring
  ends : (done : List ℕ) → ((i : ℕ) → i < n → In i done) → Finds n W A done [] []
  -- from the last of its way it goes on to the last one that is left, if none at that place is on the way
  goes_on : (done way rest : List ℕ) (i j : ℕ) (ring : List ℕ) → way ≡ rest ++ i ∷ [] → IsLastOpen W done i j →
      ((k : ℕ) → In k way → A k j → ⊥) → Finds n W A done (way ++ j ∷ []) ring → Finds n W A done way ring
  -- where none is left it goes back
  goes_back : (done way rest : List ℕ) (i : ℕ) (ring : List ℕ) → way ≡ rest ++ i ∷ [] →
      ((j : ℕ) → W i j → In j done) → Finds n W A (i ∷ done) rest ring → Finds n W A done way ring
  -- where one at that place is on the way, the ring is the way from there on
  comes_back : (done way rest : List ℕ) (i j : ℕ) (ring : List ℕ) → way ≡ rest ++ i ∷ [] → IsLastOpen W done i j →
      IsPartFrom A way j ring → Finds n W A done way ring

-- ---- actions with their partners, and for each whether it is deadlocked

-- action i is deadlocked, and its partner comes once what stands at the place of action j has gone on
pub record Awaits (actions : List LocalAction) (partners : List Partner) (marks : List Bool) (i j : ℕ) : Type 0 where
  pub partner : Partner
  pub other : LocalAction
  pub deadlocked : slice_get marks i ≡ Some true
  pub comes : slice_get partners i ≡ Some partner
  pub stands : slice_get actions j ≡ Some other
  pub behind : IsBehind partner other.place

-- actions i and j stand at one place
pub record StandTogether (actions : List LocalAction) (i j : ℕ) : Type 0 where
  pub one : LocalAction
  pub other : LocalAction
  pub first : slice_get actions i ≡ Some one
  pub second : slice_get actions j ≡ Some other
  pub place : one.place ≡ other.place

-- the search finds this ring among these actions, or none
abbrev pub IsFirstRing : List LocalAction → List Partner → List Bool → List ℕ → Type 0
IsFirstRing actions partners marks ring =
    Finds (length actions) (Awaits actions partners marks) (StandTogether actions) [] [] ring

-- it finds one
abbrev pub OneFirstRing : Type 0
OneFirstRing =
    (actions : List LocalAction) (partners : List Partner) (marks : List Bool) (ring other : List ℕ) →
    IsFirstRing actions partners marks ring → IsFirstRing actions partners marks other → ring ≡ other
