-- The rule of the word, at every moment.
use Rattle.std.specs.Prelude.{◌≡◌, ◌⊎◌, ℕ, ◌<◌, ◌≤◌, List, [], ◌∷◌, ◌++◌, length}
use mathlib.Core.Option.{some}
use mathlib.Core.List.{IsPrefix}
use lib.ListN.{get_elem?}
use Rattle.atomic_table.specs.Table.{State}
use Rattle.recorded_calls.specs.History.{calls_by, IsLegal}
use Rattle.recorded_calls.specs.declared.entry.Entry.{Entry}
use Rattle.recorded_calls.specs.declared.view.View.{View}
use Rattle.recorded_calls.specs.declared.view.View.TheVariants.{Nobody, Keeper, Speaker, Letter, Claim}
use Rattle.recorded_calls.specs.declared.view.Keeping.{Keeping}
use Rattle.recorded_calls.specs.declared.view.Passing.{Passing}
use Rattle.recorded_calls.specs.declared.view.Claimed.{Claimed}

-- what there is: the history, the keeper's seat, how many passes, the seat of each, and all that each has made or
-- announced
pub record Account (C R : Type 0) : Type 0 where
  pub log : List (Entry C R)
  pub keeper : ℕ
  pub made : ℕ
  pub seat : ℕ → ℕ
  pub said : ℕ → List (Entry C R)

module _ {O C R : Type 0} (opening : O) (a : Account C R) where
  -- a claim stays true for ever: the pass has seen a beginning of the history, and has said at least this
  pub record ClaimHolds (c : Claimed C R) : Type 0 where
    pub seen_before : IsPrefix c.seen a.log
    pub said_before : IsPrefix (c.own ++ c.says) (a.said c.number)

  -- the keeper's seat is one, and notes the history
  pub record KeeperFits (j : ℕ) (k : Keeping O C R) : Type 0 where
    pub opened : k.opening ≡ opening
    pub one : j ≡ a.keeper
    pub count : k.made ≡ a.made
    pub notes : k.noted ≡ a.log
    pub claim_holds : ClaimHolds k.claim

  -- each number has one seat. It has seen a beginning of the history, and the history has of its number its own calls,
  -- or these and the one that it has announced
  pub record SpeakerFits (j : ℕ) (p : Passing O C R) : Type 0 where
    pub opened : p.opening ≡ opening
    pub one : j ≡ a.seat p.number
    pub counted : p.number < a.made
    pub all_said : a.said p.number ≡ p.own ++ p.announced
    pub at_most_one : length p.announced ≤ 1
    pub saw : IsPrefix p.seen a.log
    pub was_told : IsPrefix p.told a.log
    pub stands : (calls_by p.number a.log ≡ p.own) ⊎ (calls_by p.number a.log ≡ p.own ++ p.announced)

  abbrev pub Fits : ℕ → View O C R → Type 0
  Fits j Nobody = Unit {0}
  Fits j (Keeper k) = KeeperFits j k
  Fits j (Speaker p) = SpeakerFits j p
  Fits j (Letter told) = IsPrefix told a.log
  Fits j (Claim c) = ClaimHolds c

-- The word is the length of one legal history, which the keeper's seat notes. It has calls of the passes alone
pub record Kept {O C R : Type 0} (performs : O → ℕ → C → R → O → Type 0) (opening : O)
    (s : State ℕ (View O C R)) : Type 0 where
  pub account : Account C R
  pub word : s.words ≡ length account.log ∷ []
  pub legal : IsLegal performs opening account.log
  pub keeper_is : (k : Keeping O C R) × (get_elem? s.views account.keeper ≡ some (Keeper k))
  pub no_others : (n : ℕ) → account.made ≤ n → (account.said n ≡ []) × (calls_by n account.log ≡ [])
  pub each : (j : ℕ) (v : View O C R) → get_elem? s.views j ≡ some v → Fits opening account j v
