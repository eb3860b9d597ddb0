-- One call more at the end of a history.
use Rattle.std.proofs.Common.{◌≡◌, ℕ, ◌+◌, List, [], ◌∷◌, ◌++◌, length, refl, sym, ap, ◌∙◌, subst, arith}
use Rattle.std.proofs.lemmas.List.{length-append}
use Rattle.atomic_table.specs.Seated.{TableId}
use Rattle.recorded_calls.specs.History.{Replays, entry_of}
use Rattle.recorded_calls.specs.Seats.{IsRecorderOf}
use Rattle.recorded_calls.specs.declared.entry.Entry.{Entry}
use Rattle.locked_object.specs.Keepers.{IsKeeperOf, history}
use Rattle.locked_object.specs.declared.keeper.Keeper.{Keeper}

module _ {D C R : Type 0} (performs : D → ℕ → C → R → D → Type 0) where
  -- what the object replies behind a history makes the history longer
  pub replays_more : (s m t : D) (log : List (Entry C R)) (n : ℕ) (c : C) (r : R) → Replays performs s log m → performs m n c r t → Replays performs s (log ++ entry_of n c r ∷ []) t
  replays_more s m t [] n c r is done = (t, subst (λ (x : D). performs x n c r t) is done, refl)
  replays_more s m t (e ∷ log) n c r (u, first, rest) done = (u, first, replays_more u m t log n c r rest done)

  -- and one longer
  pub one_more : (calls : ℕ) (log longer : List (Entry C R)) (e : Entry C R) → calls ≡ length log → longer ≡ log ++ e ∷ [] → calls + 1 ≡ length longer
  one_more calls log longer e counted is = let l = ap length is ∙ length-append log (e ∷ []) in omega arith

module _ {D C R : Type 0} (performs : D → ℕ → C → R → D → Type 0) (table : TableId) (opening : D) where
  -- a keeper with the same object and the same history
  pub keeper_same : (k k' : Keeper D C R) → IsRecorderOf table opening k'.recorder → k'.object ≡ k.object → k'.calls ≡ k.calls → history k' ≡ history k → IsKeeperOf performs table opening k → IsKeeperOf performs table opening k'
  keeper_same k k' notes object calls same fits =
      record {
        notes = notes;
        replays = subst (λ (log : List (Entry C R)). Replays performs opening log k'.object) (sym same) (subst (Replays performs opening (history k)) (sym object) fits.replays);
        counted = calls ∙ fits.counted ∙ sym (ap length same);
      }
