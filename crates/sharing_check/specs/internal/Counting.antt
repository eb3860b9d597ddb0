-- How many branches use each channel at one time: what a table of widths says, and what residuals amount to.
-- No reader has to believe it: `proofs/CountLeast.antt` ties it to `PassesAt` of `Refusal.antt`.
use Rattle.std.specs.Prelude.{ℕ, ◌+◌, max, min, List, [], ◌∷◌, Option, None, Some, length, unwrap_or, cond, ◌==◌, nat_eq, nat_lt, Bool, true, false, ◌||◌, slice_get}
use Rattle.std.specs.Map.{lookup}
use Rattle.system.specs.Residual.{Residual}
use Rattle.system.specs.Translation.{OnChannel, residual_of}
use Rattle.system.specs.declared.system.System.{System}
use Rattle.system.specs.declared.system.Branch.{Branch}
use Rattle.system.specs.declared.system.Branch.TheVariants.{Feed, Drain, Syncs}
use Rattle.sharing_check.specs.declared.widths.Together.{Together}
use Rattle.sharing_check.specs.declared.widths.Together.TheVariants.{InOneBranch, InBranches}
use Rattle.sharing_check.specs.declared.widths.Width.{Width}
use Rattle.sharing_check.specs.declared.widths.Widths.{Widths}
use Rattle.sharing_rule.specs.Measure.{Measure, amount, sending, receiving, syncing}
use Rattle.sharing_rule.specs.Rule.{is_sync}
use Rattle.sharing_check.specs.Refusal.{declared_at}

-- which users of a channel are counted
pub data Side : Type 0 where
  senders : Side
  receivers : Side
  users : Side

-- for each channel how many branches use it at one time, 3 where they are more
abbrev pub Table : Type 0
Table = Side → ℕ → ℕ

abbrev pub cut : ℕ → ℕ
cut n = min n 3

-- no uses
abbrev pub nothing : Table
nothing side c = 0

-- how the widths of two parts go together
abbrev pub joined : Together → ℕ → ℕ → ℕ
joined InOneBranch a b = max a b
joined InBranches a b = cut (a + b)

unfoldable pub join : Together → Table → Table → Table
join how f g side c = joined how (f side c) (g side c)

-- the width of a channel without uses, and those of one use
abbrev pub no_use : Width
no_use = record { senders = 0; receivers = 0; users = 0 }

abbrev pub send : Width
send = record { senders = 1; receivers = 0; users = 1 }

abbrev pub receive : Width
receive = record { senders = 0; receivers = 1; users = 1 }

abbrev pub sync : Width
sync = record { senders = 1; receivers = 1; users = 1 }

-- two widths put together, up to 255
abbrev pub join_widths : Together → Width → Width → Width
join_widths InOneBranch a b =
    record { senders = max a.senders b.senders; receivers = max a.receivers b.receivers; users = max a.users b.users }
join_widths InBranches a b =
    record {
      senders = min (a.senders + b.senders) 255;
      receivers = min (a.receivers + b.receivers) 255;
      users = min (a.users + b.users) 255;
    }

abbrev pub of_side : Side → Width → ℕ
of_side senders w = w.senders
of_side receivers w = w.receivers
of_side users w = w.users

-- the width that is stored for channel c
abbrev pub stored : List (ℕ × Width) → ℕ → Width
stored entries c = unwrap_or (lookup (nat_eq c) entries) no_use

-- what is stored, as a table
unfoldable pub listed : List (ℕ × Width) → Table
listed entries side c = cut (of_side side (stored entries c))

abbrev pub table_of_widths : Widths → Table
table_of_widths widths = listed widths.by_channel.entries

-- the one with more channels, the first where they have equally many
abbrev pub larger : Widths → Widths → Widths
larger a b = cond (nat_lt (length a.by_channel.entries) (length b.by_channel.entries)) b a

-- the other one
abbrev pub smaller : Widths → Widths → Widths
smaller a b = cond (nat_lt (length a.by_channel.entries) (length b.by_channel.entries)) a b

-- uses of channel d
unfoldable pub uses : ℕ → Width → Table
uses d width side c = cut (cond (c == d) (of_side side width) 0)

-- by what the users of channel c are counted
abbrev pub measure : Side → ℕ → Measure
measure senders c = sending c
measure receivers c = receiving c
measure users c = syncing c

-- what a residual amounts to
unfoldable pub used_by : Residual → Table
used_by r side c = cut (amount (measure side c) r)

-- a residual more in the same branch
abbrev pub adding : Table → Residual → Table
adding t r = join InOneBranch t (used_by r)

-- residuals more, all in one branch
abbrev pub in_turn : Table → List Residual → Table
in_turn t [] = t
in_turn t (r ∷ rs) = in_turn (adding t r) rs

-- what stands behind an `else`, if there is one
abbrev pub last_in_turn : Table → Option Residual → Table
last_in_turn t None = t
last_in_turn t (Some r) = adding t r

-- arms that wait, each with the input that opens it
abbrev pub arms_in_turn : Table → List OnChannel → Table
arms_in_turn t [] = t
arms_in_turn t (a ∷ rest) = arms_in_turn (adding (join InOneBranch t (uses a.channel receive)) a.body) rest

-- residuals more, each in a branch of its own
abbrev pub side_by_side : Table → List Residual → Table
side_by_side t [] = t
side_by_side t (r ∷ rs) = side_by_side (join InBranches t (used_by r)) rs

-- the channel that a branch of the environment uses, and how
abbrev pub use_of : Branch → ℕ × Width
use_of (Feed c w values) = (c, send)
use_of (Drain c) = (c, receive)
use_of (Syncs c n) = (c, sync)

-- branches of the environment more
abbrev pub with_environment : Table → List Branch → Table
with_environment t [] = t
with_environment t (b ∷ bs) = with_environment (join InBranches t (uses (use_of b).0 (use_of b).1)) bs

-- the body and the environment
abbrev pub used_in : System → Table
used_in system = with_environment (used_by (residual_of system.main)) system.environment

-- whether more branches use a channel than may
abbrev pub is_passed : Bool → Width → Bool
is_passed true w = nat_lt 2 w.users
is_passed false w = nat_lt 1 w.senders || nat_lt 1 w.receivers

-- where a channel is declared
abbrev pub declared_of : System → ℕ → ℕ
declared_of system c = declared_at (slice_get system.channels c)

-- the lesser of an offset and one that may be there
abbrev pub lesser : Option ℕ → ℕ → ℕ
lesser None offset = offset
lesser (Some least) offset = min least offset

-- the least offset at which a channel that is passed is declared, or this one
abbrev pub least_onto : System → Option ℕ → List (ℕ × Width) → Option ℕ
least_onto system least [] = least
least_onto system least (e ∷ es) =
    least_onto system
    (cond (is_passed (is_sync system e.0) e.1) (Some (lesser least (declared_of system e.0))) least) es
