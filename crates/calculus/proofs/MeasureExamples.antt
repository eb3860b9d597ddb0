-- Amounts of small commands.
use Rattle.std.proofs.Common.{◌≡◌, ℕ, [], ◌∷◌, refl}
use Rattle.system.specs.Expression.{word, constant, variable}
use Rattle.system.specs.Residual.{Residual, done, inside, beside, assign, send, receive, sync, choose, no_arms, arm}
use Rattle.sharing_rule.specs.Measure.{amount, sending, receiving, syncing}
use Rattle.runs.proofs.public.SharingWidths.{on_variable}

-- y := x
abbrev copy : ℕ → ℕ → Residual
copy y x = assign y 8 (variable x 8)

-- a || b
abbrev parallel : Residual → Residual → Residual
parallel a b = beside 0 a (beside 1 b done)

-- readers in two branches
readers_beside_readers : amount (on_variable 0) (parallel (copy 1 0) (copy 2 0)) ≡ 1
readers_beside_readers = refl

-- a branch that writes and reads, beside one that does neither
one_branch_writes : amount (on_variable 0) (parallel (inside 0 (copy 0 1) (inside 1 (copy 2 0) done)) (copy 3 4)) ≡ 2
one_branch_writes = refl

-- a writer beside a reader
writer_beside_reader : amount (on_variable 0) (parallel (copy 0 1) (copy 2 0)) ≡ 3
writer_beside_reader = refl

-- c <- 1
abbrev output : ℕ → Residual
output c = send c 8 (constant (word 1 8))

-- senders in two branches
two_senders : amount (sending 0) (parallel (output 0) (output 0)) ≡ 2
two_senders = refl

-- senders one after another
senders_in_turn : amount (sending 0) (inside 0 (output 0) (inside 1 (output 0) done)) ≡ 1
senders_in_turn = refl

-- an arm that receives again on the channel that is open
receiver_in_arm : amount (receiving 0) (choose (0 ∷ []) (arm (receive 0 1) no_arms)) ≡ 1
receiver_in_arm = refl

-- three users of a channel without data
three_syncs : amount (syncing 0) (parallel (sync 0) (parallel (sync 0) (sync 0))) ≡ 3
three_syncs = refl
