-- The search for a ring by indexes of actions.
-- No reader has to believe it: the contract of `ring_among` ties it to `TellsRing`.
use Rattle.std.specs.Prelude.{◌≡◌, ℕ, ◌+◌, ◌<◌, ◌≤◌, List, [], ◌∷◌, length, Bool, true, false, ◌&&◌, Option, Some, None, option_map, slice_get}
use Rattle.syntax.specs.Lists.{In}
use Rattle.runs.specs.Moves.{Place}
use Rattle.runs.specs.Tests.{same_place}
use Rattle.local_actions.specs.internal.At.{is_under}
use Rattle.local_actions.specs.declared.action.LocalAction.{LocalAction}
use Rattle.rings.specs.declared.partner.Partner.{Partner}
use Rattle.rings.specs.declared.partner.Partner.TheVariants as partner
use Rattle.rings.specs.declared.ring.Seen.{Seen}
use Rattle.rings.specs.declared.ring.Seen.TheVariants.{New, OnWay, Done}
use Rattle.rings.specs.internal.Loosened.{is_marked}

-- ---- who waits for whom

abbrev pub is_behind : Partner → Place → Bool
is_behind (partner.Behind p) a = is_under p a
is_behind partner.Gone a = false
is_behind partner.Open a = false

-- the same of a partner and of an action that may be there
abbrev pub behind_at : Option Partner → Option LocalAction → Bool
behind_at (Some p) (Some y) = is_behind p y.place
behind_at (Some p) None = false
behind_at None y = false

-- whether action i is marked and waits for the place of action j
abbrev pub waits : List LocalAction → List Partner → List Bool → ℕ → ℕ → Bool
waits actions partners marks i j =
    is_marked (slice_get marks i) && behind_at (slice_get partners i) (slice_get actions j)

-- whether something has to go on before the partner comes, of one that may be there
abbrev pub comes_behind : Option Partner → Bool
comes_behind (Some (partner.Behind p)) = true
comes_behind (Some partner.Gone) = false
comes_behind (Some partner.Open) = false
comes_behind None = false

-- whether action i is marked and may wait for some place; else it waits for none
abbrev pub may_wait : List Partner → List Bool → ℕ → Bool
may_wait partners marks i = is_marked (slice_get marks i) && comes_behind (slice_get partners i)

-- the place of action i
abbrev pub place_at : List LocalAction → ℕ → Option Place
place_at actions i = option_map (λ (x : LocalAction). x.place) (slice_get actions i)

-- whether actions i and j stand at one place
abbrev pub same_places : Option LocalAction → Option LocalAction → Bool
same_places (Some x) (Some y) = same_place x.place y.place
same_places (Some x) None = false
same_places None y = false

abbrev pub same_at : List LocalAction → ℕ → ℕ → Bool
same_at actions i j = same_places (slice_get actions i) (slice_get actions j)

-- ---- rings of indexes below n, by such a test

abbrev pub Test : Type 0
Test = ℕ → ℕ → Bool

abbrev pub Chain : ℕ → Test → ℕ → ℕ → List ℕ → Type 0
Chain n w first i [] = (i < n) × (w i first ≡ true)
Chain n w first i (j ∷ rest) = (i < n) × (w i j ≡ true) × Chain n w first j rest

abbrev pub Ring : ℕ → Test → List ℕ → Type 0
Ring n w [] = ⊥
Ring n w (i ∷ rest) = Chain n w i i rest

-- no ring goes through i
abbrev pub InNoRing : ℕ → Test → ℕ → Type 0
InNoRing n w i = (ring : List ℕ) → Ring n w ring → In i ring → ⊥

-- none is the same as one behind it, by a test of that
abbrev pub Apart : Test → List ℕ → Type 0
Apart u [] = Unit {0}
Apart u (i ∷ rest) = ((j : ℕ) → In j rest → u i j ≡ true → ⊥) × Apart u rest

-- what is told of a search
abbrev pub Names : ℕ → Test → Test → List ℕ → Type 0
Names n w u [] = (ring : List ℕ) → Ring n w ring → ⊥
Names n w u (i ∷ rest) = Ring n w (i ∷ rest) × Apart u (i ∷ rest)

-- ---- the search

-- each waits for the next
abbrev pub Path : ℕ → Test → List ℕ → Type 0
Path n w [] = Unit {0}
Path n w (i ∷ []) = i < n
Path n w (i ∷ j ∷ rest) = (i < n) × (w i j ≡ true) × Path n w (j ∷ rest)

-- how far a search has come
pub record Searching (n : ℕ) (w u : Test) (seen : List Seen) (way : List ℕ) : Type 0 where
  pub size : length seen ≡ n
  pub done : (i : ℕ) → slice_get seen i ≡ Some Done → InNoRing n w i
  pub on_way : (i : ℕ) → slice_get seen i ≡ Some OnWay → In i way
  pub path : Path n w way
  pub apart : Apart u way

-- what was not new is not new again
abbrev pub Keeps : List Seen → List Seen → Type 0
Keeps before seen = (i : ℕ) → slice_get seen i ≡ Some New → slice_get before i ≡ Some New

-- a search from this index on has ended with no ring, or with one
abbrev pub Searched : ℕ → Test → Test → List Seen → List Seen → ℕ → List ℕ → Type 0
Searched n w u before seen start [] =
    Searching n w u seen [] × Keeps before seen × (slice_get seen start ≡ Some New → ⊥)
Searched n w u before seen start (i ∷ rest) = Ring n w (i ∷ rest) × Apart u (i ∷ rest)

-- whether it is new, and whether it is done
abbrev pub is_new : Option Seen → Bool
is_new (Some New) = true
is_new (Some OnWay) = false
is_new (Some Done) = false
is_new None = false

abbrev pub is_open : Option Seen → Bool
is_open (Some New) = true
is_open (Some OnWay) = true
is_open (Some Done) = false
is_open None = false

-- how many are new
abbrev pub count_new : List Seen → ℕ
count_new [] = 0
count_new (New ∷ xs) = count_new xs + 1
count_new (OnWay ∷ xs) = count_new xs
count_new (Done ∷ xs) = count_new xs

-- the last index of an action for which it waits and at which the search is not done; or there is none
abbrev pub NextOpen : ℕ → Test → List Seen → ℕ → Option ℕ → Type 0
NextOpen n w seen top (Some j) =
    (j < n) × (w top j ≡ true) × (is_open (slice_get seen j) ≡ true)
    × ((k : ℕ) → k < n → w top k ≡ true → is_open (slice_get seen k) ≡ true → k ≤ j)
NextOpen n w seen top None = (j : ℕ) → j < n → w top j ≡ true → is_open (slice_get seen j) ≡ false
