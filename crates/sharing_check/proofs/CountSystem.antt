-- What the uses of a system amount to: the widths of its channels.
use Rattle.std.proofs.Common.{◌≡◌, ℕ, ◌+◌, List, [], ◌∷◌, Bool, true, false, cond, ◌==◌, sum_by, refl, ◌∙◌, arith}
use Rattle.std.proofs.lemmas.List.Sums.{sum_by-cons}
use Rattle.system.specs.Translation.{residual_of}
use Rattle.system.specs.declared.system.System.{System}
use Rattle.system.specs.declared.system.Branch.{Branch}
use Rattle.system.specs.declared.system.Branch.TheVariants.{Feed, Drain, Syncs}
use Rattle.sharing_rule.specs.Measure.{amount}
use Rattle.sharing_rule.specs.Rule.{sender_on, receiver_on, user_on, width}
use Rattle.sharing_check.specs.internal.Counting.{Side, senders, receivers, users, Table, cut, join, of_side, uses, measure, used_by, use_of, with_environment, used_in}

-- what a branch of the environment counts for channel c
abbrev pub outside : Side → ℕ → Branch → ℕ
outside senders c = sender_on c
outside receivers c = receiver_on c
outside users c = user_on c

no_count : (b : Bool) (n : ℕ) → n ≡ cond b n n
no_count true n = refl
no_count false n = refl

outside_use : (side : Side) (c : ℕ) (b : Branch) → outside side c b ≡ cond (c == (use_of b).0) (of_side side (use_of b).1) 0
outside_use senders c (Feed d w values) = refl
outside_use senders c (Drain d) = no_count (c == d) 0
outside_use senders c (Syncs d n) = refl
outside_use receivers c (Feed d w values) = no_count (c == d) 0
outside_use receivers c (Drain d) = refl
outside_use receivers c (Syncs d n) = refl
outside_use users c (Feed d w values) = refl
outside_use users c (Drain d) = refl
outside_use users c (Syncs d n) = refl

-- the environment behind uses that count n
environment_counted : (side : Side) (c : ℕ) (bs : List Branch) (t : Table) (n : ℕ) → t side c ≡ cut n
    → with_environment t bs side c ≡ cut (n + sum_by (outside side c) bs)
unfolding join uses
environment_counted side c [] t n is = is ∙ alone n
  where
    alone : (n : ℕ) → cut n ≡ cut (n + 0)
    alone n = omega arith
environment_counted side c (b ∷ bs) t n is =
    environment_counted side c bs _ (n + outside side c b) (more _ n _ _ is (outside_use side c b))
    ∙ summed n _ _ _ (sum_by-cons (outside side c) b bs)
  where
    more : (x n u v : ℕ) → x ≡ cut n → v ≡ u → cut (x + cut u) ≡ cut (n + v)
    more x n u v e f = omega arith

    summed : (n b m s : ℕ) → s ≡ b + m → cut (n + b + m) ≡ cut (n + s)
    summed n b m s e = omega arith

-- the body and the environment
pub system_counted : (side : Side) (c : ℕ) (system : System) → used_in system side c ≡ cut (width (measure side c) (outside side c) system)
unfolding used_by
system_counted side c system =
    environment_counted side c system.environment (used_by (residual_of system.main)) (amount (measure side c) (residual_of system.main)) refl
