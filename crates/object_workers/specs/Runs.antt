-- What workers add to what their passes have seen and made.
use Rattle.std.specs.Prelude.{◌≡◌, ◌⊎◌, ℕ, ◌+◌, ◌<◌, ◌≤◌, ◌*◌, Bool, if◌then◌else◌, List, [], ◌∷◌, ◌++◌, length}
use mathlib.Core.List.{IsPrefix}
use Rattle.atomic_table.specs.Seated.{TableId}
use Rattle.recorded_calls.specs.History.{IsLegal}
use Rattle.recorded_calls.specs.declared.entry.Entry.{Entry}
use Rattle.locked_object.specs.Passes.{IsPassOf, number, seen_history, own}
use Rattle.locked_object.specs.declared.pass.Pass.{Pass}
use Rattle.object_workers.specs.Dealt.{total}

module _ {C R : Type 0} where
  -- how many of these calls were told of a step
  abbrev pub steps_in : (R → Bool) → List (Entry C R) → ℕ
  steps_in steps = total (λ e. if steps e.reply then 1 else 0)

  -- a call of the pass of this number, which asks for a step of a branch below the count, of branch 0 where there is
  -- none
  abbrev pub AsksBranch : (ℕ → C) → ℕ → ℕ → Entry C R → Type 0
  AsksBranch asks count n e = (e.pass ≡ n) × ((k : ℕ) × (e.command ≡ asks k) × ((k < count) ⊎ ((count ≡ 0) × (k ≡ 0))))

  -- each of these calls is one
  abbrev pub AskBranches : (ℕ → C) → ℕ → ℕ → List (Entry C R) → Type 0
  AskBranches asks count n [] = Unit {0}
  AskBranches asks count n (e ∷ es) = AsksBranch asks count n e × AskBranches asks count n es

module _ {D C R : Type 0} where
  module _ (table : TableId) (opening : D) (asks : ℕ → C) (count turns : ℕ) where
    -- the pass has seen more, and has made these calls, at most one a turn
    pub record PassRan (before after : Pass D C R) (added : List (Entry C R)) : Type 0 where
      pub fits : IsPassOf table opening after
      pub same : number after ≡ number before
      pub saw : IsPrefix (seen_history before) (seen_history after)
      pub made : own after ≡ own before ++ added
      pub branches : AskBranches asks count (number before) added
      pub few : length added ≤ turns

    -- each of the passes, in their order
    abbrev pub PassesRan : List (Pass D C R) → List (Pass D C R) → List (List (Entry C R)) → Type 0
    PassesRan [] [] [] = Unit {0}
    PassesRan (p ∷ ps) (q ∷ qs) (added ∷ rest) = PassRan p q added × PassesRan ps qs rest
    PassesRan ps qs rest = ⊥

    -- all that the passes have made, the steps among it, and the turns that are lost
    pub record WorkersRan (steps : R → Bool) (before after : List (Pass D C R)) (stepped lost : ℕ) : Type 0 where
      pub added : List (List (Entry C R))
      pub each : PassesRan before after added
      pub counted : stepped ≡ total (steps_in steps) added
      pub rest_lost : total length added + lost ≡ turns * length before

  -- the pass has seen what it had seen, or it has seen a legal history
  abbrev pub SawLegal : (D → ℕ → C → R → D → Type 0) → D → Pass D C R → Pass D C R → Type 0
  SawLegal performs opening before after =
      (seen_history after ≡ seen_history before) ⊎ IsLegal performs opening (seen_history after)

  -- each of the passes, in their order
  abbrev pub AllSawLegal : (D → ℕ → C → R → D → Type 0) → D → List (Pass D C R) → List (Pass D C R) → Type 0
  AllSawLegal performs opening [] [] = Unit {0}
  AllSawLegal performs opening (p ∷ ps) (q ∷ qs) = SawLegal performs opening p q × AllSawLegal performs opening ps qs
  AllSawLegal performs opening ps qs = ⊥

  -- the passes are of this table
  abbrev pub PassesFit : TableId → D → List (Pass D C R) → Type 0
  PassesFit table opening [] = Unit {0}
  PassesFit table opening (p ∷ ps) = IsPassOf table opening p × PassesFit table opening ps
