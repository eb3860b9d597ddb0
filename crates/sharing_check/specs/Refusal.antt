-- Which system is accepted, and which refusal each other one gets, at which offset.
use Rattle.std.specs.Prelude.{ℕ, ◌≡◌, ◌⊎◌, ◌≤◌, ◌<◌, true, false, Option, None, Some, slice_get}
use Rattle.system.specs.declared.system.System.{System}
use Rattle.sharing_rule.specs.Rule.{SharesWell, is_sync, is_shared, width, sender_on, receiver_on, user_on}
use Rattle.refusals.specs.declared.sharing_check.Fault.{Fault}
use Rattle.refusals.specs.declared.sharing_check.Fault.TheVariants.{Memory, SharedVariable, SharedChannel}
use Rattle.syntax.specs.Lists.{In}
use Rattle.address.specs.Places.{Apart}
use Rattle.system.specs.declared.system.Channel.{Channel}
use Rattle.sharing_rule.specs.Measure.{sending, receiving, syncing}
use Rattle.sharing_check.specs.Uses.{VariableUse, uses_of}

-- two uses clash: of one variable that branches may not share, in two branches of a parallel, and one of them writes
pub record Clash (system : System) (u v : VariableUse) : Type 0 where
  pub apart : Apart u.place v.place
  pub same : u.variable ≡ v.variable
  pub not_shared : is_shared system u.variable ≡ false
  pub one_writes : (u.writes ≡ true) ⊎ (v.writes ≡ true)

-- a use at this offset takes part in a clash
abbrev pub ClashesAt : System → ℕ → Type 0
ClashesAt system offset =
    (u v : VariableUse) × In u (uses_of system.main) × In v (uses_of system.main) × Clash system u v
    × (offset ≡ u.offset)

-- the channel c is used by more branches at one time than may use it
abbrev pub PassesWidth : System → ℕ → Type 0
PassesWidth system c =
    ((is_sync system c ≡ false) × (1 < width (sending c) (sender_on c) system))
    ⊎ (((is_sync system c ≡ false) × (1 < width (receiving c) (receiver_on c) system))
    ⊎ ((is_sync system c ≡ true) × (2 < width (syncing c) (user_on c) system)))

-- where a channel is declared; one that is not there counts as declared at 0
abbrev pub declared_at : Option Channel → ℕ
declared_at None = 0
declared_at (Some channel) = channel.declared

-- a channel that is declared at this offset passes its width
abbrev pub PassesAt : System → ℕ → Type 0
PassesAt system offset = (c : ℕ) × PassesWidth system c × (offset ≡ declared_at (slice_get system.channels c))

-- the least offset of those
abbrev pub Least : (ℕ → Type 0) → ℕ → Type 0
Least At offset = At offset × ((other : ℕ) → At other → offset ≤ other)

-- no two uses of a variable clash
abbrev pub NoClash : System → Type 0
NoClash system = (offset : ℕ) → ClashesAt system offset → ⊥

-- no channel passes its width
abbrev pub NonePasses : System → Type 0
NonePasses system = (offset : ℕ) → PassesAt system offset → ⊥

-- nothing is found against the system
pub record Accepts (system : System) : Type 0 where
  pub no_clash : NoClash system
  pub none_passes : NonePasses system
  pub shares_well : SharesWell system

-- what is found against the system: clashes go before widths, and the least offset tells
abbrev pub Refuses : System → Fault → Type 0
Refuses system Memory = Unit {0}
Refuses system (SharedVariable offset) = Least (ClashesAt system) offset
Refuses system (SharedChannel offset) = NoClash system × Least (PassesAt system) offset
