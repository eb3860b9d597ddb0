-- Frames that are made and sent one after another.
use Rattle.std.proofs.Common.{◌≡◌, ◌+◌, ◌-◌, ◌≤◌, ℕ, List, [], ◌∷◌, ◌++◌, length, Option, Some, None, false, inl, inr, refl, sym, ap, ◌∙◌, subst, append_assoc, append-nil, arith, take, drop, take_all, take-add, length-drop}
use Rattle.std.specs.Io.KnownBytes.{Appends, Keeps}
use Rattle.dap_frames.specs.Frames.{framed}
use Rattle.dap_messages.specs.Json.{IsJsonOf}
use Rattle.dap_messages.specs.Messages.{IsAnswerTo}
use Rattle.dap_messages.specs.declared.answer.Answer.{Answer}
use Rattle.dap_messages.specs.declared.message.Message.{Message}
use Rattle.dap_messages.specs.declared.request.Request.{Request}
use Rattle.dap_messages.specs.declared.told.Told.{Told}
use Rattle.dap_server.specs.Sent.{AddsDue, AreJson, HasSent, IsBatch, IsBegun, IsBehind, IsWhole, Sends, frames}
use Rattle.dap_server.specs.Session.{Exchange}
use Rattle.dap_server.specs.Short.{due_bodies, gist_of, short_bodies, short_event}
use Rattle.dap_server.specs.declared.batch.Batch.{Batch}
use Rattle.dap_server.specs.declared.fault.Fault.{Fault}
use Rattle.dap_server.specs.declared.gist.Gist.{Gist}

-- nothing is left where no item is
pub none_left : {X : Type 0} (xs : List X) → length xs ≡ 0 → xs ≡ []
none_left [] e = refl
none_left (x ∷ xs) e = absurd (omega arith)

-- one message more
pub json_more : (ms : List Message) (bodies : List (List ℕ)) (m : Message) (body : List ℕ) → AreJson ms bodies → IsJsonOf m body
    → AreJson (ms ++ m ∷ []) (bodies ++ body ∷ [])
json_more [] [] m body h k = (k, tt)
json_more [] (b ∷ bodies) m body h k = absurd h
json_more (x ∷ ms) [] m body h k = absurd h
json_more (x ∷ ms) (b ∷ bodies) m body h k = (h.0, json_more ms bodies m body h.1 k)

-- as many as there are messages
pub json_counted : (ms : List Message) (bodies : List (List ℕ)) → AreJson ms bodies → length ms ≡ length bodies
json_counted [] [] h = refl
json_counted [] (b ∷ bodies) h = absurd h
json_counted (x ∷ ms) [] h = absurd h
json_counted (x ∷ ms) (b ∷ bodies) h = let rest = json_counted ms bodies h.1 in omega arith

-- frames behind one another
pub frames_join : (xs ys : List (List ℕ)) → frames (xs ++ ys) ≡ frames xs ++ frames ys
frames_join [] ys = refl
frames_join (x ∷ xs) ys = ap (λ (t : List ℕ). framed x ++ t) (frames_join xs ys) ∙ sym (append_assoc (framed x) (frames xs) (frames ys))

pub frames_more : (xs : List (List ℕ)) (body : List ℕ) → frames (xs ++ body ∷ []) ≡ frames xs ++ framed body
frames_more xs body = frames_join xs (body ∷ []) ∙ ap (λ (t : List ℕ). frames xs ++ t) (append-nil (framed body))

-- the frames of messages, and how many they are
pub batch_made : (ms : List Message) (start : List ℕ) (batch : Batch) → start ≡ [] → batch.count ≡ length ms
    → (bodies : List (List ℕ)) × AreJson ms bodies × (batch.bytes.items ≡ start ++ frames bodies)
    → (bodies : List (List ℕ)) × AreJson ms bodies × IsBatch bodies batch
batch_made ms start batch empty is h = (
  h.0,
  h.1,
  record { written = h.2 ∙ ap (λ (t : List ℕ). t ++ frames h.0) empty; counted = is ∙ json_counted ms h.0 h.1 },
)

-- they are sent
pub sends_all : (bodies : List (List ℕ)) (batch : Batch) (old new : Option (List ℕ)) (next after : ℕ) → IsBatch bodies batch
    → HasSent batch old new next after → Sends bodies old new next after
sends_all bodies batch old new next after h k = record {
  written = subst (λ (t : List ℕ). Appends old new t) h.written k.written;
  numbers = k.numbers ∙ ap (λ (n : ℕ). next + n) h.counted;
}

-- the frame of one message
pub batch_of_one : (body : List ℕ) (batch : Batch) → batch.bytes.items ≡ framed body → batch.count ≡ 1 → IsBatch (body ∷ []) batch
batch_of_one body batch is one = record { written = is ∙ sym (append-nil (framed body)); counted = one }

-- and another behind it
pub batch_of_two : (first second : List ℕ) (before after : Batch) → IsBatch (first ∷ []) before → IsBehind before second after
    → IsBatch (first ∷ second ∷ []) after
batch_of_two first second before after h k = record {
  written = k.written ∙ ap (λ (t : List ℕ). t ++ framed second) (h.written ∙ append-nil (framed first))
      ∙ ap (λ (t : List ℕ). framed first ++ t) (sym (append-nil (framed second)));
  counted = k.counted;
}

-- a short answer: a response alone, or with an event behind it
pub short_made : (request : Request) (due : Option Told) (first : List ℕ) (seq : ℕ) (before after : Batch) → IsBatch (first ∷ []) before
    → AddsDue before (due_bodies request due seq) after → IsBatch (first ∷ due_bodies request due seq) after
short_made request None first seq before after h k = subst (λ (b : Batch). IsBatch (first ∷ []) b) (sym k) h
short_made request (Some told) first seq before after h k = batch_of_two first (short_event request told seq) before after h k

-- one that has to come
pub due_added : (request : Request) (due : Option Told) (told : Told) (seq : ℕ) (before after : Batch) → due ≡ Some told
    → IsBehind before (short_event request told seq) after → AddsDue before (due_bodies request due seq) after
due_added request due told seq before after is h =
    subst (λ (d : Option Told). AddsDue before (due_bodies request d seq) after) (sym is) h

pub due_none : (request : Request) (due : Option Told) (seq : ℕ) (before after : Batch) → due ≡ None → after ≡ before
    → AddsDue before (due_bodies request due seq) after
due_none request due seq before after is h =
    subst (λ (d : Option Told). AddsDue before (due_bodies request d seq) after) (sym is) h

-- a message of which the text is known is framed
pub first_is : (text body : List ℕ) (batch : Batch) → body ≡ text → IsBatch (body ∷ []) batch → IsBatch (text ∷ []) batch
first_is text body batch is made = subst (λ (b : List ℕ). IsBatch (b ∷ []) batch) is made

pub second_is : (text body : List ℕ) (before after : Batch) → body ≡ text → IsBehind before body after → IsBehind before text after
second_is text body before after is made = subst (λ (b : List ℕ). IsBehind before b after) is made

-- the messages of an answer are sent
pub answer_sent : {A : Type 0} (answers : A → Request → Answer → A → Type 0) (a : A) (request : Request) (answer : Answer) (b : A) (batch : Batch)
    (old new : Option (List ℕ)) (next after : ℕ) → answers a request answer b
    → (bodies : List (List ℕ)) × IsBatch bodies batch × IsWhole request answer next bodies → HasSent batch old new next after
    → (sent : List (List ℕ)) × Exchange answers a request next sent b × Sends sent old new next after
answer_sent answers a request answer b batch old new next after is h k =
    (h.0, record { answer = answer; answered = is; told = inl h.2 }, sends_all h.0 batch old new next after h.1 k)

-- short ones answer the request all the same
pub short_answers : {A : Type 0} (answers : A → Request → Answer → A → Type 0) (a : A) (request : Request) (answer : Answer) (b : A) (gist : Gist)
    (old new : Option (List ℕ)) (next after : ℕ) → answers a request answer b → gist ≡ gist_of answer.outcome answer.effect
    → Sends (short_bodies request gist next) old new next after
    → (sent : List (List ℕ)) × Exchange answers a request next sent b × Sends sent old new next after
short_answers answers a request answer b gist old new next after is same h = (
  short_bodies request gist next,
  record { answer = answer; answered = is; told = inr (ap (λ (g : Gist). short_bodies request g next) same) },
  h,
)

-- the frame of a message alone, in place of what was there
pub first_framed : (body slice start : List ℕ) (batch : Batch) → batch.count ≡ 1 → slice ≡ body → start ≡ []
    → batch.bytes.items ≡ start ++ framed slice → IsBatch (body ∷ []) batch
first_framed body slice start batch one same empty is =
    batch_of_one body batch (is ∙ ap (λ (t : List ℕ). t ++ framed slice) empty ∙ ap (λ (t : List ℕ). framed t) same) one

-- and behind another
pub second_framed : (body slice : List ℕ) (before after : Batch) → after.count ≡ 2 → slice ≡ body
    → after.bytes.items ≡ before.bytes.items ++ framed slice → IsBehind before body after
second_framed body slice before after two same is = record {
  written = is ∙ ap (λ (t : List ℕ). before.bytes.items ++ framed t) same;
  counted = two;
}

-- frames that answer a request
pub answers_with : (request : Request) (answer : Answer) (next : ℕ) (ms : List Message) → (answer.lacks ≡ false) × IsAnswerTo request answer next ms
    → (batch : Batch) → (bodies : List (List ℕ)) × AreJson ms bodies × IsBatch bodies batch
    → (bodies : List (List ℕ)) × IsBatch bodies batch × IsWhole request answer next bodies
answers_with request answer next ms is batch h =
    (h.0, h.2, record { full = is.0; messages = ms; answers = is.1; json = h.1 })

-- of frames that are to be sent a beginning is out
pub begun_all : (bodies : List (List ℕ)) (batch : Batch) (why : Fault) (old new : Option (List ℕ)) → IsBatch bodies batch
    → IsBegun why batch.bytes.items old new → IsBegun why (frames bodies) old new
begun_all bodies batch why old new h k = subst (λ (t : List ℕ). IsBegun why t old new) h.written k

-- of the messages of an answer
pub answer_begun : {A : Type 0} (answers : A → Request → Answer → A → Type 0) (a : A) (request : Request) (answer : Answer) (b : A) (batch : Batch)
    (why : Fault) (old new : Option (List ℕ)) (next : ℕ) → answers a request answer b
    → (bodies : List (List ℕ)) × IsBatch bodies batch × IsWhole request answer next bodies → IsBegun why batch.bytes.items old new
    → (sent : List (List ℕ)) × Exchange answers a request next sent b × IsBegun why (frames sent) old new
answer_begun answers a request answer b batch why old new next is h k =
    (h.0, record { answer = answer; answered = is; told = inl h.2 }, begun_all h.0 batch why old new h.1 k)

-- of short ones
pub short_begun : {A : Type 0} (answers : A → Request → Answer → A → Type 0) (a : A) (request : Request) (answer : Answer) (b : A) (gist : Gist)
    (why : Fault) (old new : Option (List ℕ)) (next : ℕ) → answers a request answer b → gist ≡ gist_of answer.outcome answer.effect
    → IsBegun why (frames (short_bodies request gist next)) old new
    → (sent : List (List ℕ)) × Exchange answers a request next sent b × IsBegun why (frames sent) old new
short_begun answers a request answer b gist why old new next is same h = (
  short_bodies request gist next,
  record { answer = answer; answered = is; told = inr (ap (λ (g : Gist). short_bodies request g next) same) },
  h,
)

-- all is written, and then the writer is flushed
pub appends_kept : (u v w : Option (List ℕ)) (bytes : List ℕ) → Appends u v bytes → Keeps v w → Appends u w bytes
appends_kept None v w bytes h k = tt
appends_kept (Some xs) None w bytes h k = absurd h
appends_kept (Some xs) (Some ys) None bytes h k = absurd k
appends_kept (Some xs) (Some ys) (Some zs) bytes h k = k ∙ h

-- which fails
pub begun_whole : (why : Fault) (bytes : List ℕ) (u v : Option (List ℕ)) → why ≡ Fault.WriteFailed → Appends u v bytes → IsBegun why bytes u v
begun_whole why bytes u v failed h =
    subst (λ (f : Fault). IsBegun f bytes u v) (sym failed)
    (length bytes, subst (λ (t : List ℕ). Appends u v t) (sym (take_all (length bytes) bytes (omega arith))) h)

-- a beginning is written, and then more of it
pub begun_more : (u v w : Option (List ℕ)) (bytes : List ℕ) (done more : ℕ) → Appends u v (take done bytes)
    → Appends v w (take more (drop done bytes)) → Appends u w (take (done + more) bytes)
begun_more None v w bytes done more h k = tt
begun_more (Some xs) None w bytes done more h k = absurd h
begun_more (Some xs) (Some ys) None bytes done more h k = absurd k
begun_more (Some xs) (Some ys) (Some zs) bytes done more h k =
    k ∙ ap (λ (t : List ℕ). t ++ take more (drop done bytes)) h ∙ append_assoc xs (take done bytes) (take more (drop done bytes))
    ∙ ap (λ (t : List ℕ). xs ++ t) (sym (take-add done more bytes))

pub begun_none : (u : Option (List ℕ)) (bytes : List ℕ) → Appends u u (take 0 bytes)
begun_none None bytes = tt
begun_none (Some xs) bytes = sym (append-nil xs)

-- one more write
pub put_more : (u v w : Option (List ℕ)) (bytes : List ℕ) (done count next : ℕ) → next ≡ done + count → done ≤ length bytes
    → count ≤ length (take (length bytes - done) (drop done bytes)) → Appends u v (take done bytes)
    → Appends v w (take count (take (length bytes - done) (drop done bytes))) → (next ≤ length bytes) × Appends u w (take next bytes)
put_more u v w bytes done count next is within bound h k =
    let left : length (drop done bytes) ≡ length bytes - done = length-drop done bytes in
    let all : take (length bytes - done) (drop done bytes) ≡ drop done bytes = take_all (length bytes - done) (drop done bytes) (omega arith) in
    let some : count ≤ length (drop done bytes) = subst (λ (t : List ℕ). count ≤ length t) all bound in (
      omega arith,
      subst (λ (n : ℕ). Appends u w (take n bytes)) (sym is)
          (begun_more u v w bytes done count h (subst (λ (t : List ℕ). Appends v w (take count t)) all k)),
    )

-- one that was interrupted
pub put_none : (u v w : Option (List ℕ)) (bytes : List ℕ) (done next : ℕ) → next ≡ done → done ≤ length bytes → Appends u v (take done bytes)
    → Keeps v w → (next ≤ length bytes) × Appends u w (take next bytes)
put_none u v w bytes done next is within h k = (
  omega arith,
  subst (λ (n : ℕ). Appends u w (take n bytes)) (sym is) (appends_kept u v w (take done bytes) h k),
)
