-- A system in which no uses clash and no channel passes its width keeps the rule.
use Rattle.std.proofs.Common.{inl, inr, ⊎_elim, ℕ, ◌≤◌, ◌<◌, refl}
use Rattle.system.specs.declared.system.System.{System}
use Rattle.sharing_rule.specs.Rule.{SharesWell}
use Rattle.sharing_check.specs.Refusal.{NoClash, NonePasses, Accepts, PassesWidth}
use Rattle.sharing_check.proofs.LeastOffsets.{at_most}
use Rattle.sharing_check.proofs.NoClash.{clash_free}

-- what is not more than m is at most m
not_more : (n m : ℕ) → (m < n → ⊥) → n ≤ m
not_more n m h = ⊎_elim (λ k. k) (λ k. absurd (h k)) (at_most n m)

shares : (system : System) → NoClash system → NonePasses system → SharesWell system
shares system clear narrow = record {
  one_sender = λ c with_data. not_more _ 1 (λ h. fits c (inl (with_data, h)));
  one_receiver = λ c with_data. not_more _ 1 (λ h. fits c (inr (inl (with_data, h))));
  two_users = λ c without_data. not_more _ 2 (λ h. fits c (inr (inr (without_data, h))));
  one_branch_writes = λ x not_shared. clash_free system (λ u v i j clash. clear u.offset (u, v, i, j, clash, refl)) x not_shared;
}
  where
    fits : (c : ℕ) → PassesWidth system c → ⊥
    fits c h = narrow _ (c, h, refl)

pub accepts : (system : System) → NoClash system → NonePasses system → Accepts system
accepts system clear narrow = record { no_clash = clear; none_passes = narrow; shares_well = shares system clear narrow }
