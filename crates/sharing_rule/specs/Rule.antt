-- The rule on sharing, as the language states it: what the branches of one system may use at one time.
use Rattle.std.specs.Prelude.{◌≡◌, ℕ, ◌+◌, ◌≤◌, Bool, true, false, Option, None, Some, sum_by, slice_get}
use Rattle.system.specs.Translation.{residual_of}
use Rattle.system.specs.declared.system.System.{System}
use Rattle.system.specs.declared.system.Variable.{Variable}
use Rattle.system.specs.declared.system.Channel.{Channel}
use Rattle.system.specs.declared.system.ChannelKind.{ChannelKind}
use Rattle.system.specs.declared.system.ChannelKind.TheVariants.{Data, Sync}
use Rattle.system.specs.declared.system.Branch.{Branch}
use Rattle.system.specs.declared.system.Branch.TheVariants.{Feed, Drain, Syncs}
use Rattle.sharing_rule.specs.Measure.{Measure, amount, only, sending, receiving, syncing}
use Rattle.sharing_rule.specs.Sharing.{OneBranchWrites}

-- whether a channel of this kind has no data
abbrev pub is_sync_kind : ChannelKind → Bool
is_sync_kind (Data width) = false
is_sync_kind Sync = true

-- whether a channel has no data; one that is not there is taken to have data
abbrev pub is_sync_channel : Option Channel → Bool
is_sync_channel None = false
is_sync_channel (Some channel) = is_sync_kind channel.kind

-- whether channel c of the system has no data; a number past the last is taken to have data
abbrev pub is_sync : System → ℕ → Bool
is_sync system c = is_sync_channel (slice_get system.channels c)

-- whether branches may share a variable; not one that is not there
abbrev pub is_shared_variable : Option Variable → Bool
is_shared_variable None = false
is_shared_variable (Some variable) = variable.shared

-- whether branches may share variable x of the system; not a number past the last
abbrev pub is_shared : System → ℕ → Bool
is_shared system x = is_shared_variable (slice_get system.variables x)

-- a branch of the environment as a sender on channel c: a feed counts even if it has no value to send, and syncs count
-- on each side
abbrev pub sender_on : ℕ → Branch → ℕ
sender_on c (Feed d width values) = only 1 c d
sender_on c (Drain d) = 0
sender_on c (Syncs d n) = only 1 c d

-- a branch of the environment as a receiver on channel c
abbrev pub receiver_on : ℕ → Branch → ℕ
receiver_on c (Feed d width values) = 0
receiver_on c (Drain d) = only 1 c d
receiver_on c (Syncs d n) = only 1 c d

-- a branch of the environment as a user of channel c: syncs count even if there are none to make
abbrev pub user_on : ℕ → Branch → ℕ
user_on c (Feed d width values) = only 1 c d
user_on c (Drain d) = only 1 c d
user_on c (Syncs d n) = only 1 c d

-- the uses in the root's body, branches together, and those of the environment
abbrev pub width : Measure → (Branch → ℕ) → System → ℕ
width M outside system = amount M (residual_of system.main) + sum_by outside system.environment

-- No channel and no variable is used by more branches at one time than may use it.
pub record SharesWell (system : System) : Type 0 where
  -- a channel with data has one sender at most
  pub one_sender : (c : ℕ) → is_sync system c ≡ false → width (sending c) (sender_on c) system ≤ 1
  -- and one receiver at most
  pub one_receiver : (c : ℕ) → is_sync system c ≡ false → width (receiving c) (receiver_on c) system ≤ 1
  -- a channel without data has two users at most
  pub two_users : (c : ℕ) → is_sync system c ≡ true → width (syncing c) (user_on c) system ≤ 2
  -- a variable that is not shared, and written in one branch, is neither read nor written in another
  pub one_branch_writes : (x : ℕ) → is_shared system x ≡ false → OneBranchWrites x (residual_of system.main)
