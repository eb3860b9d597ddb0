-- The messages in the bytes that came, and the requests that they are.
use Rattle.std.specs.Prelude.{ℕ, ◌≡◌, ◌≤◌, ◌<◌, List, [], ◌∷◌, ◌++◌, length, Some, Result, Ok, Err, codes}
use Rattle.dap_frames.specs.Header.{header_length, Tells}
use Rattle.dap_frames.specs.declared.body.TheConstants.{MOST_BODY}
use Rattle.dap_messages.specs.Requests.{IsReadAs}
use Rattle.dap_messages.specs.declared.request.Request.{Request}
use Rattle.dap_messages.specs.declared.request.Unread.{Unread}

-- first stands a header that ends with its first empty line, then the body, of as many bytes as the header tells, and
-- then the rest
pub record StandsFirst (bytes body rest : List ℕ) : Type 0 where
  pub header : List ℕ
  pub ends : header_length header ≡ Some (length header)
  pub tells : Tells header (length body)
  pub whole : bytes ≡ header ++ (body ++ rest)

-- these bodies stand there, one after another, and then what is left
abbrev pub AreFramed : List (List ℕ) → List ℕ → List ℕ → Type 0
AreFramed [] bytes left = bytes ≡ left
AreFramed (body ∷ bodies) bytes left = (rest : List ℕ) × StandsFirst bytes body rest × AreFramed bodies rest left

-- why a message is passed over
pub data Passed : Type 0 where
  -- it is larger than it may be
  large : Passed
  -- it is not read, for this reason
  unread : Unread → Passed

-- what is told of it
abbrev pub words_for : Passed → List ℕ
words_for large = codes "a message of more than 4 MB is passed over"
words_for (unread Unread.Memory) = codes "there is no memory to read a message, which is passed over"
words_for (unread Unread.NoJson) = codes "a message that is no JSON of 64 levels at most is passed over"
words_for (unread Unread.NoRequest) = codes "a message that is no request is passed over"

-- a body is heard as the request that it is, or passed over
abbrev pub IsHeard : List ℕ → Result Request Passed → Type 0
IsHeard body (Ok request) = (length body ≤ MOST_BODY) × IsReadAs body (Ok request)
IsHeard body (Err large) = MOST_BODY < length body
IsHeard body (Err (unread why)) = (length body ≤ MOST_BODY) × IsReadAs body (Err why)

-- each body is heard so
abbrev pub AreHeard : List (List ℕ) → List (Result Request Passed) → Type 0
AreHeard [] [] = Unit {0}
AreHeard (body ∷ bodies) (heard ∷ more) = IsHeard body heard × AreHeard bodies more
AreHeard _ _ = ⊥
