-- What the bytes of a message are.
use Rattle.std.specs.Prelude.{◌≡◌, ◌≢◌, List, ℕ, false, Some, codes}
use Rattle.serde_json.specs.Data.{Data, number, unsigned}
use Rattle.serde_json.specs.Find.{get, get_member}
use Rattle.serde_json.specs.Read.{read}
use Rattle.serde_json.specs.View.{members_view}
use Rattle.dap_messages.specs.declared.message.Message.{Message}

-- they are JSON of an object with the members of the message, and its number as `seq`
pub record IsJsonOf (m : Message) (bytes : List ℕ) : Type 0 where
  pub object : Data
  pub reads : read bytes ≡ Some object
  pub numbered : get (codes "seq") object ≡ Some (number (unsigned m.seq))
  pub others : (name : List ℕ) → name ≢ codes "seq" →
      get name object ≡ get_member name (members_view m.members.made.entries)
  pub full : m.members.lacks ≡ false
