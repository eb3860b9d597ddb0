-- A system that keeps the rule on sharing opens with a residual within its limits.
use Rattle.std.proofs.Common.{ℕ, zero, suc, ◌+◌, ◌≤◌, max, List, [], ◌∷◌, map, sum_by, arith, le_refl, le_trans, zero-le}
use Rattle.std.proofs.lemmas.List.Sums.{sum_by-cons}
use Rattle.value.specs.Word.{Word}
use Rattle.system.specs.Expression.{constant}
use Rattle.system.specs.Residual.{send, sync}
use Rattle.system.specs.Translation.{in_parallel, residual_of, feed_from, syncs_from, branch_of, opening_residual}
use Rattle.system.specs.declared.system.System.{System}
use Rattle.system.specs.declared.system.Branch.{Branch}
use Rattle.system.specs.declared.system.Branch.TheVariants.{Feed, Drain, Syncs}
use Rattle.sharing_rule.specs.Measure.{Measure, amount, sum_together, sending, receiving, syncing}
use Rattle.runs.proofs.public.SharingWidths.{on_variable, variable_together, KeepsSharing}
use Rattle.sharing_rule.specs.Rule.{is_sync, is_shared, sender_on, receiver_on, user_on, width, SharesWell}
use Rattle.runs.proofs.Adding.{AddsUp, sums, variables_add_up}
use Rattle.runs.proofs.Amounts.{amount_within, amount_along}
use Rattle.runs.proofs.public.VariableRule.{variable_rule}

-- a feed counts at most one send
feed_amount : (M : Measure) (k c w : ℕ) (vs : List Word) → amount M (feed_from k c w vs) ≤ max (M.sends c) (M.holds c)
feed_amount M k c w [] = omega arith
feed_amount M k c w (v ∷ vs) =
    let rest = feed_amount M (suc k) c w vs in
    le_trans (amount_within M k (send c w (constant v)) (feed_from (suc k) c w vs)) (omega arith)

-- syncs count at most one
syncs_amount : (M : Measure) (k c n : ℕ) → amount M (syncs_from k c n) ≤ max (M.syncs c) (M.holds c)
syncs_amount M k c zero = omega arith
syncs_amount M k c (suc n) =
    let rest = syncs_amount M (suc k) c n in
    le_trans (amount_within M k (sync c) (syncs_from (suc k) c n)) (omega arith)

-- what a branch of the environment counts in each measure
sender_amount : (c : ℕ) (b : Branch) → amount (sending c) (branch_of b) ≤ sender_on c b
sender_amount c (Feed d w vs) = le_trans (feed_amount (sending c) 0 d w vs) (omega arith)
sender_amount c (Drain d) = le_refl 0
sender_amount c (Syncs d n) = le_trans (syncs_amount (sending c) 0 d n) (omega arith)

-- as a receiver
receiver_amount : (c : ℕ) (b : Branch) → amount (receiving c) (branch_of b) ≤ receiver_on c b
receiver_amount c (Feed d w vs) = feed_amount (receiving c) 0 d w vs
receiver_amount c (Drain d) = le_refl _
receiver_amount c (Syncs d n) = le_trans (syncs_amount (receiving c) 0 d n) (omega arith)

-- as a user of a channel without data
user_amount : (c : ℕ) (b : Branch) → amount (syncing c) (branch_of b) ≤ user_on c b
user_amount c (Feed d w vs) = le_trans (feed_amount (syncing c) 0 d w vs) (omega arith)
user_amount c (Drain d) = le_refl _
user_amount c (Syncs d n) = le_trans (syncs_amount (syncing c) 0 d n) (omega arith)

-- and it uses no variable
no_variable : (x : ℕ) (b : Branch) → amount (on_variable x) (branch_of b) ≤ 0
no_variable x (Feed d w vs) = feed_amount (on_variable x) 0 d w vs
no_variable x (Drain d) = le_refl 0
no_variable x (Syncs d n) = syncs_amount (on_variable x) 0 d n

-- what the environment counts, by what each branch counts
environment_amount : (M : Measure) (outside : Branch → ℕ) → ((a b : ℕ) → M.together a b ≤ a + b) → AddsUp M.together
    → ((b : Branch) → amount M (branch_of b) ≤ outside b)
    → (n : ℕ) (bs : List Branch) → amount M (in_parallel n (map branch_of bs)) ≤ sum_by outside bs
environment_amount M outside less A each n [] = zero-le
environment_amount M outside less A each n (b ∷ bs) =
    let rest = environment_amount M outside less A each (suc n) bs in
    let one = each b in
    let split = sum_by-cons outside b bs in
    le_trans (amount_along M A n (branch_of b) (in_parallel (suc n) (map branch_of bs)))
    (le_trans (less _ _) (omega arith))

-- what a system opens with counts at most its width
opening_amount : (M : Measure) (outside : Branch → ℕ) → ((a b : ℕ) → M.together a b ≤ a + b) → AddsUp M.together
    → ((b : Branch) → amount M (branch_of b) ≤ outside b)
    → (system : System) → amount M (opening_residual system) ≤ width M outside system
opening_amount M outside less A each system =
    let rest = environment_amount M outside less A each 1 system.environment in
    le_trans (amount_along M A 0 (residual_of system.main) (in_parallel 1 (map branch_of system.environment)))
    (le_trans (less _ _) (omega arith))

-- sums of two are sums
sum_less : (a b : ℕ) → sum_together a b ≤ a + b
sum_less a b = le_refl _

-- the environment uses no variable
no_variables : (x n : ℕ) (bs : List Branch) → amount (on_variable x) (in_parallel n (map branch_of bs)) ≤ 0
no_variables x n [] = le_refl 0
no_variables x n (b ∷ bs) =
    le_trans (amount_along (on_variable x) variables_add_up n (branch_of b) (in_parallel (suc n) (map branch_of bs)))
    (variables_add_up.more _ _ 0 0 (no_variable x b) (no_variables x (suc n) bs))

-- a branch beside none counts as it is
alone_together : (n : ℕ) → variable_together n 0 ≤ n
alone_together zero = le_refl 0
alone_together (suc n) = le_refl _

-- a system that keeps the rule opens within its limits
pub shares_well-keeps : (system : System) → SharesWell system → KeepsSharing (is_sync system) (is_shared system) (opening_residual system)
shares_well-keeps system rule = record {
  data_channels = λ c e. record {
    one_sender = le_trans (opening_amount (sending c) (sender_on c) sum_less sums (sender_amount c) system) (rule.one_sender c e);
    one_receiver = le_trans (opening_amount (receiving c) (receiver_on c) sum_less sums (receiver_amount c) system) (rule.one_receiver c e);
  };
  sync_channels = λ c e. le_trans (opening_amount (syncing c) (user_on c) sum_less sums (user_amount c) system) (rule.two_users c e);
  variables = λ x e.
      le_trans (amount_along (on_variable x) variables_add_up 0 (residual_of system.main) (in_parallel 1 (map branch_of system.environment)))
      (le_trans (variables_add_up.more _ _ _ 0 ((variable_rule x (residual_of system.main)).1 (rule.one_branch_writes x e)) (no_variables x 1 system.environment))
      (alone_together 2));
}
