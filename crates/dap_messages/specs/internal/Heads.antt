-- The first members of a message. No reader has to believe it: contracts of messages speak of the members themselves.
use Rattle.std.specs.Prelude.{ℕ, List, codes}
use Rattle.serde_json.specs.Data.{Data}
use Rattle.dap_messages.specs.Written.{Has}
use Rattle.dap_messages.specs.declared.members.Members.{Members}

-- the member of this name stays
abbrev pub Keeps : List ℕ → Members → Members → Type 0
Keeps name before after = (d : Data) → Has before name d → Has after name d

-- its type, the number of the request that it answers, the name of that and the name of the event stay
pub record KeepsHead (before after : Members) : Type 0 where
  pub type : Keeps (codes "type") before after
  pub request : Keeps (codes "request_seq") before after
  pub command : Keeps (codes "command") before after
  pub event : Keeps (codes "event") before after
