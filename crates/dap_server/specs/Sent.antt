-- The messages that are sent, and the requests that they answer.
use Rattle.std.specs.Prelude.{ℕ, ◌≡◌, ◌⊎◌, ◌+◌, false, List, [], ◌∷◌, ◌++◌, length, take, Option}
use Rattle.std.specs.Io.KnownBytes.{Appends}
use Rattle.dap_frames.specs.Frames.{framed}
use Rattle.dap_messages.specs.Json.{IsJsonOf}
use Rattle.dap_messages.specs.Messages.{IsAnswerTo}
use Rattle.dap_messages.specs.declared.answer.Answer.{Answer}
use Rattle.dap_messages.specs.declared.message.Message.{Message}
use Rattle.dap_messages.specs.declared.request.Request.{Request}
use Rattle.dap_server.specs.Short.{gist_of, short_bodies}
use Rattle.dap_server.specs.declared.batch.Batch.{Batch}
use Rattle.dap_server.specs.declared.fault.Fault.{Fault}

-- the frames of these messages, one behind another
abbrev pub frames : List (List ℕ) → List ℕ
frames [] = []
frames (body ∷ bodies) = framed body ++ frames bodies

-- these are the JSON of the messages, one for each
abbrev pub AreJson : List Message → List (List ℕ) → Type 0
AreJson [] [] = Unit {0}
AreJson (m ∷ ms) (body ∷ bodies) = IsJsonOf m body × AreJson ms bodies
AreJson _ _ = ⊥

-- these are the messages of the answer to a request, each as JSON, numbered on from `next`: its response, and its
-- events
pub record IsWhole (request : Request) (answer : Answer) (next : ℕ) (bodies : List (List ℕ)) : Type 0 where
  pub full : answer.lacks ≡ false
  pub messages : List Message
  pub answers : IsAnswerTo request answer next messages
  pub json : AreJson messages bodies

-- these messages answer a request, the first of which is the response; or, where there was no memory for them, short
-- ones do, which tell the gist of the answer
abbrev pub AnswerRequest : Request → Answer → ℕ → List (List ℕ) → Type 0
AnswerRequest request answer next bodies =
    IsWhole request answer next bodies ⊎ (bodies ≡ short_bodies request (gist_of answer.outcome answer.effect) next)

-- these messages are sent, of which `next` is the first number, and `after` the one behind the last
pub record Sends (bodies : List (List ℕ)) (old new : Option (List ℕ)) (next after : ℕ) : Type 0 where
  pub written : Appends old new (frames bodies)
  pub numbers : after ≡ next + length bodies

-- what is to be written: the frames of these messages, and how many they are
pub record IsBatch (bodies : List (List ℕ)) (batch : Batch) : Type 0 where
  pub written : batch.bytes.items ≡ frames bodies
  pub counted : batch.count ≡ length bodies

-- the frame of this message is put behind the one that was there
pub record IsBehind (before : Batch) (body : List ℕ) (after : Batch) : Type 0 where
  pub written : after.bytes.items ≡ before.bytes.items ++ framed body
  pub counted : after.count ≡ 2

-- the frame of an event is put behind that of the response, if one has to come
abbrev pub AddsDue : Batch → List (List ℕ) → Batch → Type 0
AddsDue before [] after = after ≡ before
AddsDue before (body ∷ bodies) after = IsBehind before body after

-- it is written, and `after` is the number behind that of its last message
pub record HasSent (batch : Batch) (old new : Option (List ℕ)) (next after : ℕ) : Type 0 where
  pub written : Appends old new batch.bytes.items
  pub numbers : after ≡ next + batch.count

-- at a fault a beginning of these bytes is written where the writer failed, and else none of them
abbrev pub IsBegun : Fault → List ℕ → Option (List ℕ) → Option (List ℕ) → Type 0
IsBegun Fault.WriteFailed bytes old new = (count : ℕ) × Appends old new (take count bytes)
IsBegun _ bytes old new = new ≡ old
