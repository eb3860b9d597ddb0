-- Steps keep the rule on sharing.
use Rattle.std.proofs.Common.{ℕ, ◌≤◌, List, [], ◌∷◌, Bool, subst, le_refl, le_trans}
use Rattle.system.specs.Residual.{Residual}
use Rattle.runs.specs.Events.{Located}
use Rattle.runs.specs.Steps.{State, Moves, Step, Run}
use Rattle.sharing_rule.specs.Measure.{Measure, amount, sending, receiving, syncing}
use Rattle.runs.proofs.public.SharingWidths.{on_variable, KeepsSharing}
use Rattle.runs.specs.declared.event.Event.{Event}
use Rattle.runs.proofs.Adding.{AddsUp, sums, variables_add_up}
use Rattle.runs.proofs.Amounts.{kept}

-- the amount after moves is no greater
pub kept_moved : (M : Measure) → AddsUp M.together → (r q : Residual) (ls : List Located) → Moves r ls q → amount M q ≤ amount M r
kept_moved M A r q [] h = subst (λ t. amount M t ≤ amount M r) h (le_refl _)
kept_moved M A r q (l ∷ ls) (t, h, hs) = le_trans (kept_moved M A t q ls hs) (kept M A r l.place l.move t h)

-- moves keep the rule
pub keeps_sharing_moved : (is_sync is_shared : ℕ → Bool) (r q : Residual) (ls : List Located) → KeepsSharing is_sync is_shared r → Moves r ls q → KeepsSharing is_sync is_shared q
keeps_sharing_moved is_sync is_shared r q ls K h = record {
  data_channels = λ c e. record {
    one_sender = le_trans (kept_moved (sending c) sums r q ls h) (K.data_channels c e).one_sender;
    one_receiver = le_trans (kept_moved (receiving c) sums r q ls h) (K.data_channels c e).one_receiver;
  };
  sync_channels = λ c e. le_trans (kept_moved (syncing c) sums r q ls h) (K.sync_channels c e);
  variables = λ x e. le_trans (kept_moved (on_variable x) variables_add_up r q ls h) (K.variables x e);
}

-- a step keeps the rule
pub keeps_sharing : (is_sync is_shared : ℕ → Bool) (S T : State) (e : Event) → KeepsSharing is_sync is_shared S.residual → Step S e T → KeepsSharing is_sync is_shared T.residual
keeps_sharing is_sync is_shared S T e K step = keeps_sharing_moved is_sync is_shared S.residual T.residual step.moves K step.moved

-- a run keeps the rule
pub keeps_sharing_run : (is_sync is_shared : ℕ → Bool) (S T : State) (h : List Event) → KeepsSharing is_sync is_shared S.residual → Run S h T → KeepsSharing is_sync is_shared T.residual
keeps_sharing_run is_sync is_shared S T [] K run = subst (λ U. KeepsSharing is_sync is_shared U.residual) run K
keeps_sharing_run is_sync is_shared S T (e ∷ h) K (U, step, run) =
    keeps_sharing_run is_sync is_shared U T h (keeps_sharing is_sync is_shared S U e K step) run
