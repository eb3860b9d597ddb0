-- What comes in a session, and what is sent for it.
use Rattle.std.specs.Prelude.{ℕ, ◌≡◌, ◌⊎◌, ◌+◌, Bool, false, true, List, [], ◌∷◌, ◌++◌, length, Option, Result, Ok, Err}
use Rattle.std.specs.Io.KnownBytes.{Consumes}
use Rattle.dap_messages.specs.declared.answer.Answer.{Answer}
use Rattle.dap_messages.specs.declared.request.Request.{Request}
use Rattle.dap_server.specs.Heard.{AreFramed, AreHeard, IsHeard, Passed, StandsFirst, words_for}
use Rattle.dap_server.specs.Sent.{AnswerRequest, IsBegun, Sends, frames}
use Rattle.dap_server.specs.Short.{short_line}
use Rattle.dap_server.specs.declared.fault.Fault.{Fault}

-- the adapter answers a request once, and these are sent for that answer, of which the first alone is a response
pub record Exchange {A : Type 0} (answers : A → Request → Answer → A → Type 0) (a : A) (request : Request) (next : ℕ)
    (sent : List (List ℕ)) (b : A) : Type 0 where
  pub answer : Answer
  pub answered : answers a request answer b
  pub told : AnswerRequest request answer next sent

-- what comes, one after another, a request or a message that is passed over, and what is sent: for each request its
-- response and the events behind it, and for a message that is passed over one line that tells why, which changes
-- nothing. All is numbered on from `next`. Behind the end nothing is heard
abbrev pub Session : {A : Type 0} → (A → Request → Answer → A → Type 0) → (A → Bool) → A → ℕ →
    List (Result Request Passed) → List (List ℕ) → A
    → Type 0
Session answers over a next [] sent b = (sent ≡ []) × (b ≡ a)
Session {A} answers over a next (Ok request ∷ heard) sent b =
    (m : A) × (own : List (List ℕ)) × (rest : List (List ℕ)) × (over a ≡ false) × Exchange answers a request next own m
    × Session answers over m (next + length own) heard rest b × (sent ≡ own ++ rest)
Session answers over a next (Err why ∷ heard) sent b =
    (rest : List (List ℕ)) × (over a ≡ false) × Session answers over a (next + 1) heard rest b
    × (sent ≡ short_line (words_for why) next ∷ rest)

-- the messages that stand first in these bytes are heard, and the adapter became `b`; what was sent is written, and
-- `after` is the number of the next message. What is left was not heard
pub record Hears {A : Type 0} (answers : A → Request → Answer → A → Type 0) (over : A → Bool) (a : A) (next : ℕ) (b : A)
    (after : ℕ) (bytes left : List ℕ) (old new : Option (List ℕ)) : Type 0 where
  pub bodies : List (List ℕ)
  pub framed : AreFramed bodies bytes left
  pub heard : List (Result Request Passed)
  pub hears : AreHeard bodies heard
  pub sent : List (List ℕ)
  pub sends : Sends sent old new next after
  pub session : Session answers over a next heard sent b

-- some bytes came, and each message that stands in them is heard, but for those that come behind the end
pub record Serves {A : Type 0} (answers : A → Request → Answer → A → Type 0) (over : A → Bool) (a : A) (next : ℕ) (b : A)
    (after : ℕ) (first last old new : Option (List ℕ)) : Type 0 where
  pub came : List ℕ
  pub read : Consumes first last came
  pub left : List ℕ
  pub all : (over b ≡ true) ⊎ (left ≡ [])
  pub hears : Hears answers over a next b after came left old new

-- at a fault one message more is heard, which stands first in what was left, and of what is sent for it no more than a
-- beginning is out
pub record HearsLast {A : Type 0} (answers : A → Request → Answer → A → Type 0) (over : A → Bool) (a : A) (next : ℕ)
    (b : A) (why : Fault) (left : List ℕ) (old new : Option (List ℕ)) : Type 0 where
  pub body : List ℕ
  pub rest : List ℕ
  pub first : StandsFirst left body rest
  pub heard : Result Request Passed
  pub hears : IsHeard body heard
  pub sent : List (List ℕ)
  pub session : Session answers over a next (heard ∷ []) sent b
  pub begun : IsBegun why (frames sent) old new

-- at a fault no message more is heard, or one is
abbrev pub Breaks : {A : Type 0} → (A → Request → Answer → A → Type 0) → (A → Bool) → A → ℕ → A → Fault → List ℕ →
    Option (List ℕ) → Option (List ℕ) → Type 0
Breaks answers over a next b why left old new =
    ((b ≡ a) × (new ≡ old)) ⊎ HearsLast answers over a next b why left old new

-- some bytes came, until a fault ended the session. Messages that stand in them are heard, and all that is sent for them
-- is out; then comes the fault
pub record ServesUpTo {A : Type 0} (answers : A → Request → Answer → A → Type 0) (over : A → Bool) (a : A) (next : ℕ)
    (b : A) (why : Fault) (first last old new : Option (List ℕ)) : Type 0 where
  pub came : List ℕ
  pub read : Consumes first last came
  pub left : List ℕ
  pub mid : A
  pub after : ℕ
  pub between : Option (List ℕ)
  pub hears : Hears answers over a next mid after came left old between
  pub breaks : Breaks answers over mid after b why left between new
