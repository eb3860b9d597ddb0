-- What was read and not looked at. No reader has to believe it: contracts of a session speak of all that came.
use Rattle.std.specs.Prelude.{ℕ, ◌≡◌, ◌≤◌, ◌<◌, List, [], length, drop, slice_range}
use Rattle.dap_frames.specs.declared.body.TheConstants.{MOST_BODY}
use Rattle.dap_server.specs.Heard.{StandsFirst}
use Rattle.dap_server.specs.declared.input.Input.{Input}
use Rattle.dap_server.specs.declared.input.Next.{Next}

-- the bytes that were read and not looked at
abbrev pub held : Input → List ℕ
held input = drop input.start input.bytes.items

-- a body is there between these indexes, which stood first in these bytes
pub record IsBody (from to : ℕ) (input : Input) (bytes : List ℕ) : Type 0 where
  pub rises : from ≤ to
  pub within : to ≤ length input.bytes.items
  pub small : length (slice_range input.bytes.items from to) ≤ MOST_BODY
  pub first : StandsFirst bytes (slice_range input.bytes.items from to) (held input)

-- a body stood first that is larger than it may be
abbrev pub IsLarge : Input → List ℕ → Type 0
IsLarge input bytes = (body : List ℕ) × (MOST_BODY < length body) × StandsFirst bytes body (held input)

-- this came next in these bytes
abbrev pub IsNext : Next → Input → List ℕ → Type 0
IsNext (Next.Body from to) input bytes = IsBody from to input bytes
IsNext Next.Large input bytes = IsLarge input bytes
IsNext Next.End input bytes = (bytes ≡ []) × (held input ≡ [])
