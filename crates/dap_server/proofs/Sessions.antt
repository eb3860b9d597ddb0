-- Parts of a session, one after another.
use Rattle.std.proofs.Common.{◌≡◌, ◌⊎◌, ◌+◌, ◌<◌, ◌≤◌, ℕ, Bool, true, false, List, [], ◌∷◌, ◌++◌, length, slice_range, Option, Some, None, inl, inr, refl, sym, ap, ◌∙◌, subst, append_assoc, append-nil, arith, length-append}
use Rattle.std.specs.Prelude.{Ok, Err, OnOk, Result}
use Rattle.std.specs.Io.KnownBytes.{Appends, Consumes, IsAtEnd, Keeps}
use Rattle.dap_messages.specs.Requests.{IsReadAs}
use Rattle.dap_messages.specs.declared.answer.Answer.{Answer}
use Rattle.dap_messages.specs.declared.request.Request.{Request}
use Rattle.dap_messages.specs.declared.request.Unread.{Unread}
use Rattle.dap_server.specs.Heard.{AreFramed, AreHeard, IsHeard, Passed, StandsFirst, large, unread, words_for}
use Rattle.dap_server.specs.Sent.{IsBegun, Sends, frames}
use Rattle.dap_server.specs.Short.{short_line}
use Rattle.dap_server.specs.Session.{Exchange, Hears, HearsLast, Serves, ServesUpTo, Session}
use Rattle.dap_server.specs.declared.fault.Fault.{Fault}
use Rattle.dap_server.specs.declared.input.Input.{Input}
use Rattle.dap_server.specs.declared.input.Next.{Next}
use Rattle.dap_server.specs.internal.Reading.{IsNext, held}
use Rattle.dap_server.specs.internal.Serving.{BreaksFrom, ReadsSome, ServesFrom, StopsFrom}
use Rattle.dap_server.proofs.Sending.{frames_join}

-- nothing is written
appends_none : (u : Option (List ℕ)) → Appends u u []
appends_none None = tt
appends_none (Some xs) = sym (append-nil xs)

-- one text is written, and then another
appends_then : (u v w : Option (List ℕ)) (a b : List ℕ) → Appends u v a → Appends v w b → Appends u w (a ++ b)
appends_then None v w a b x y = tt
appends_then (Some xs) None w a b x y = absurd x
appends_then (Some xs) (Some ys) None a b x y = y
appends_then (Some xs) (Some ys) (Some zs) a b x y = y ∙ ap (λ (t : List ℕ). t ++ b) x ∙ append_assoc xs a b

sends_none : (u : Option (List ℕ)) (n : ℕ) → Sends [] u u n n
sends_none u n = record { written = appends_none u; numbers = omega arith }

sends_then : (xs ys : List (List ℕ)) (u v w : Option (List ℕ)) (l m n : ℕ) → Sends xs u v l m → Sends ys v w m n → Sends (xs ++ ys) u w l n
sends_then xs ys u v w l m n h k = record {
  written = subst (λ (t : List ℕ). Appends u w t) (sym (frames_join xs ys)) (appends_then u v w (frames xs) (frames ys) h.written k.written);
  numbers = let one = h.numbers in let two = k.numbers in let all = length-append xs ys in omega arith;
}

-- a session goes on
session_then : {A : Type 0} (answers : A → Request → Answer → A → Type 0) (over : A → Bool) (a m b : A) (next after : ℕ)
    (heard more : List (Result Request Passed)) (sent rest : List (List ℕ)) → after ≡ next + length sent → Session answers over a next heard sent m
    → Session answers over m after more rest b → Session answers over a next (heard ++ more) (sent ++ rest) b
session_then {A} answers over a m b next after [] more sent rest at h k =
    let start : after ≡ next = at ∙ ap (λ (xs : List (List ℕ)). next + length xs) h.0 ∙ omega arith in
    subst (λ (x : A). Session answers over x next more (sent ++ rest) b) h.1
    (subst (λ (xs : List (List ℕ)). Session answers over m next more (xs ++ rest) b) (sym h.0)
    (subst (λ (n : ℕ). Session answers over m n more rest b) start k))
session_then answers over a m b next after (Ok request ∷ heard) more sent rest at h k =
    let size : length sent ≡ length h.1 + length h.2 = ap (λ (xs : List (List ℕ)). length xs) h.6 ∙ length-append h.1 h.2 in
    let there : after ≡ next + length h.1 + length h.2 = omega arith in (
      h.0,
      h.1,
      h.2 ++ rest,
      h.3,
      h.4,
      session_then answers over h.0 m b (next + length h.1) after heard more h.2 rest there h.5 k,
      ap (λ (xs : List (List ℕ)). xs ++ rest) h.6 ∙ append_assoc h.1 h.2 rest,
    )
session_then answers over a m b next after (Err why ∷ heard) more sent rest at h k =
    let size : length sent ≡ length h.0 + 1 = ap (λ (xs : List (List ℕ)). length xs) h.3 ∙ omega arith in
    let there : after ≡ next + 1 + length h.0 = omega arith in (
      h.0 ++ rest,
      h.1,
      session_then answers over a m b (next + 1) after heard more h.0 rest there h.2 k,
      ap (λ (xs : List (List ℕ)). xs ++ rest) h.3,
    )

-- what goes on does not end
pub goes_on : {P : Type 0} (more : Bool) → more ≡ true → more ≡ false → P
goes_on more on off = let both : true ≡ false = sym on ∙ off in absurd (cc)

-- bodies that stand behind one another
framed_then : (xs ys : List (List ℕ)) (bytes mid left : List ℕ) → AreFramed xs bytes mid → AreFramed ys mid left → AreFramed (xs ++ ys) bytes left
framed_then [] ys bytes mid left h k = subst (λ (b : List ℕ). AreFramed ys b left) (sym h) k
framed_then (x ∷ xs) ys bytes mid left h k = (h.0, h.1, framed_then xs ys h.0 mid left h.2 k)

-- more bytes come behind
first_more : (bytes body rest more : List ℕ) → StandsFirst bytes body rest → StandsFirst (bytes ++ more) body (rest ++ more)
first_more bytes body rest more h = record {
  header = h.header;
  ends = h.ends;
  tells = h.tells;
  whole = ap (λ (t : List ℕ). t ++ more) h.whole ∙ append_assoc h.header (body ++ rest) more
      ∙ ap (λ (t : List ℕ). h.header ++ t) (append_assoc body rest more);
}

framed_more : (xs : List (List ℕ)) (bytes left more : List ℕ) → AreFramed xs bytes left → AreFramed xs (bytes ++ more) (left ++ more)
framed_more [] bytes left more h = ap (λ (t : List ℕ). t ++ more) h
framed_more (x ∷ xs) bytes left more h = (h.0 ++ more, first_more bytes x h.0 more h.1, framed_more xs h.0 left more h.2)

heard_then : (xs ys : List (List ℕ)) (hs ks : List (Result Request Passed)) → AreHeard xs hs → AreHeard ys ks → AreHeard (xs ++ ys) (hs ++ ks)
heard_then [] ys [] ks h k = k
heard_then [] ys (x ∷ hs) ks h k = absurd h
heard_then (x ∷ xs) ys [] ks h k = absurd h
heard_then (x ∷ xs) ys (y ∷ hs) ks h k = (h.0, heard_then xs ys hs ks h.1 k)

-- nothing is read
pub consumes_none : (u : Option (List ℕ)) → Consumes u u []
consumes_none None = tt
consumes_none (Some xs) = refl

-- some bytes are read, and then others
pub consumes_then : (u v w : Option (List ℕ)) (a b : List ℕ) → Consumes u v a → Consumes v w b → Consumes u w (a ++ b)
consumes_then None v w a b x y = tt
consumes_then (Some xs) None w a b x y = absurd x
consumes_then (Some xs) (Some ys) None a b x y = y
consumes_then (Some xs) (Some ys) (Some zs) a b x y = x ∙ ap (λ (t : List ℕ). a ++ t) y ∙ sym (append_assoc a b zs)

-- some bytes are read, and then some more
pub reads_then : (u v w : Option (List ℕ)) → ReadsSome u v → ReadsSome v w → ReadsSome u w
reads_then u v w h k = (h.0 ++ k.0, consumes_then u v w h.0 k.0 h.1 k.1)

pub reads_none : (u v : Option (List ℕ)) → Keeps u v → ReadsSome u v
reads_none None v h = ([], tt)
reads_none (Some xs) None h = absurd h
reads_none (Some xs) (Some ys) h = ([], sym h)

-- nothing is heard
pub hears_nothing : {A : Type 0} (answers : A → Request → Answer → A → Type 0) (over : A → Bool) (a : A) (next : ℕ) (bytes left : List ℕ)
    (u : Option (List ℕ)) → bytes ≡ left → Hears answers over a next a next bytes left u u
hears_nothing answers over a next bytes left u is = record {
  bodies = [];
  framed = is;
  heard = [];
  hears = tt;
  sent = [];
  sends = sends_none u next;
  session = (refl, refl);
}

-- one body is heard
hears_one : {A : Type 0} (answers : A → Request → Answer → A → Type 0) (over : A → Bool) (a b : A) (l n : ℕ) (bytes body left : List ℕ)
    (heard : Result Request Passed) (u v : Option (List ℕ)) → StandsFirst bytes body left → IsHeard body heard
    → (sent : List (List ℕ)) → Sends sent u v l n → Session answers over a l (heard ∷ []) sent b → Hears answers over a l b n bytes left u v
hears_one answers over a b l n bytes body left heard u v first is sent sends session = record {
  bodies = body ∷ [];
  framed = (left, first, refl);
  heard = heard ∷ [];
  hears = (is, tt);
  sent = sent;
  sends = sends;
  session = session;
}

-- what came is a request
pub hears_request : {A : Type 0} (answers : A → Request → Answer → A → Type 0) (over : A → Bool) (a b : A) (request : Request) (l n : ℕ)
    (from to : ℕ) (input : Input) (body : List ℕ) (u v : Option (List ℕ)) → over a ≡ false
    → (from ≤ to → to ≤ length input.bytes.items → body ≡ slice_range input.bytes.items from to) → IsReadAs body (Ok request)
    → (sent : List (List ℕ)) × Exchange answers a request l sent b × Sends sent u v l n
    → (bytes : List ℕ) → IsNext (Next.Body from to) input bytes → Hears answers over a l b n bytes (held input) u v
hears_request answers over a b request l n from to input body u v on at read h bytes next =
    let same : body ≡ slice_range input.bytes.items from to = at next.rises next.within in
    hears_one answers over a b l n bytes (slice_range input.bytes.items from to) (held input) (Ok request) u v next.first
    (next.small, subst (λ (t : List ℕ). IsReadAs t (Ok request)) same read) h.0 h.2
    (b, h.0, [], on, h.1, (refl, refl), sym (append-nil h.0))

-- what came is no request
pub hears_other : {A : Type 0} (answers : A → Request → Answer → A → Type 0) (over : A → Bool) (a : A) (why : Unread) (l n : ℕ)
    (from to : ℕ) (input : Input) (body line : List ℕ) (u v : Option (List ℕ)) → over a ≡ false
    → (from ≤ to → to ≤ length input.bytes.items → body ≡ slice_range input.bytes.items from to) → IsReadAs body (Err why)
    → line ≡ words_for (unread why) → Sends (short_line line l ∷ []) u v l n
    → (bytes : List ℕ) → IsNext (Next.Body from to) input bytes → Hears answers over a l a n bytes (held input) u v
hears_other answers over a why l n from to input body line u v on at read words sends bytes next =
    let same : body ≡ slice_range input.bytes.items from to = at next.rises next.within in
    hears_one answers over a a l n bytes (slice_range input.bytes.items from to) (held input) (Err (unread why)) u v next.first
    (next.small, subst (λ (t : List ℕ). IsReadAs t (Err why)) same read) (short_line (words_for (unread why)) l ∷ [])
    (subst (λ (t : List ℕ). Sends (short_line t l ∷ []) u v l n) words sends) ([], on, (refl, refl), refl)

-- what came is too large
pub hears_large : {A : Type 0} (answers : A → Request → Answer → A → Type 0) (over : A → Bool) (a : A) (l n : ℕ) (input : Input)
    (u v : Option (List ℕ)) → over a ≡ false → Sends (short_line (words_for large) l ∷ []) u v l n
    → (bytes : List ℕ) → IsNext Next.Large input bytes → Hears answers over a l a n bytes (held input) u v
hears_large answers over a l n input u v on sends bytes next =
    hears_one answers over a a l n bytes next.0 (held input) (Err large) u v next.2 next.1 (short_line (words_for large) l ∷ []) sends
    ([], on, (refl, refl), refl)

-- what came is a request, and its answer meets a fault
pub request_breaks : {A : Type 0} (answers : A → Request → Answer → A → Type 0) (over : A → Bool) (a b : A) (request : Request) (l : ℕ)
    (why : Fault) (from to : ℕ) (input : Input) (body : List ℕ) (u v : Option (List ℕ)) → over a ≡ false
    → (from ≤ to → to ≤ length input.bytes.items → body ≡ slice_range input.bytes.items from to) → IsReadAs body (Ok request)
    → (sent : List (List ℕ)) × Exchange answers a request l sent b × IsBegun why (frames sent) u v
    → (bytes : List ℕ) → IsNext (Next.Body from to) input bytes → HearsLast answers over a l b why bytes u v
request_breaks answers over a b request l why from to input body u v on at read h bytes next =
    let same : body ≡ slice_range input.bytes.items from to = at next.rises next.within in record {
      body = slice_range input.bytes.items from to;
      rest = held input;
      first = next.first;
      heard = Ok request;
      hears = (next.small, subst (λ (t : List ℕ). IsReadAs t (Ok request)) same read);
      sent = h.0;
      session = (b, h.0, [], on, h.1, (refl, refl), sym (append-nil h.0));
      begun = h.2;
    }

-- so does the line for what is no request
pub other_breaks : {A : Type 0} (answers : A → Request → Answer → A → Type 0) (over : A → Bool) (a : A) (why : Unread) (l : ℕ)
    (fault : Fault) (from to : ℕ) (input : Input) (body line : List ℕ) (u v : Option (List ℕ)) → over a ≡ false
    → (from ≤ to → to ≤ length input.bytes.items → body ≡ slice_range input.bytes.items from to) → IsReadAs body (Err why)
    → line ≡ words_for (unread why) → IsBegun fault (frames (short_line line l ∷ [])) u v
    → (bytes : List ℕ) → IsNext (Next.Body from to) input bytes → HearsLast answers over a l a fault bytes u v
other_breaks answers over a why l fault from to input body line u v on at read words begun bytes next =
    let same : body ≡ slice_range input.bytes.items from to = at next.rises next.within in record {
      body = slice_range input.bytes.items from to;
      rest = held input;
      first = next.first;
      heard = Err (unread why);
      hears = (next.small, subst (λ (t : List ℕ). IsReadAs t (Err why)) same read);
      sent = short_line (words_for (unread why)) l ∷ [];
      session = ([], on, (refl, refl), refl);
      begun = subst (λ (t : List ℕ). IsBegun fault (frames (short_line t l ∷ [])) u v) words begun;
    }

-- or for what is too large
pub large_breaks : {A : Type 0} (answers : A → Request → Answer → A → Type 0) (over : A → Bool) (a : A) (l : ℕ) (fault : Fault) (input : Input)
    (u v : Option (List ℕ)) → over a ≡ false → IsBegun fault (frames (short_line (words_for large) l ∷ [])) u v
    → (bytes : List ℕ) → IsNext Next.Large input bytes → HearsLast answers over a l a fault bytes u v
large_breaks answers over a l fault input u v on begun bytes next = record {
  body = next.0;
  rest = held input;
  first = next.2;
  heard = Err large;
  hears = next.1;
  sent = short_line (words_for large) l ∷ [];
  session = ([], on, (refl, refl), refl);
  begun = begun;
}

-- nothing came
pub hears_end : {A : Type 0} (answers : A → Request → Answer → A → Type 0) (over : A → Bool) (a : A) (next : ℕ) (input : Input)
    (u : Option (List ℕ)) (bytes : List ℕ) → IsNext Next.End input bytes → Hears answers over a next a next bytes (held input) u u
hears_end answers over a next input u bytes h = hears_nothing answers over a next bytes (held input) u (h.0 ∙ sym h.1)

-- some are heard, and then others
hears_then : {A : Type 0} (answers : A → Request → Answer → A → Type 0) (over : A → Bool) (a m b : A) (l n k : ℕ) (bytes mid left : List ℕ)
    (u v w : Option (List ℕ)) → Hears answers over a l m n bytes mid u v → Hears answers over m n b k mid left v w
    → Hears answers over a l b k bytes left u w
hears_then answers over a m b l n k bytes mid left u v w x y = record {
  bodies = x.bodies ++ y.bodies;
  framed = framed_then x.bodies y.bodies bytes mid left x.framed y.framed;
  heard = x.heard ++ y.heard;
  hears = heard_then x.bodies y.bodies x.heard y.heard x.hears y.hears;
  sent = x.sent ++ y.sent;
  sends = sends_then x.sent y.sent u v w l n k x.sends y.sends;
  session = session_then answers over a m b l n x.heard y.heard x.sent y.sent x.sends.numbers x.session y.session;
}

hears_more : {A : Type 0} (answers : A → Request → Answer → A → Type 0) (over : A → Bool) (a b : A) (l n : ℕ) (bytes left more : List ℕ)
    (u v : Option (List ℕ)) → Hears answers over a l b n bytes left u v → Hears answers over a l b n (bytes ++ more) (left ++ more) u v
hears_more answers over a b l n bytes left more u v x = record {
  bodies = x.bodies;
  framed = framed_more x.bodies bytes left more x.framed;
  heard = x.heard;
  hears = x.hears;
  sent = x.sent;
  sends = x.sends;
  session = x.session;
}

-- at first nothing is read and nothing heard
pub serves_nothing : {A : Type 0} (answers : A → Request → Answer → A → Type 0) (over : A → Bool) (a : A) (next : ℕ) (held : List ℕ)
    (r u : Option (List ℕ)) → ServesFrom answers over a next a next held held r r u u
serves_nothing answers over a next held r u = ([], consumes_none r, hears_nothing answers over a next (held ++ []) held u (append-nil held))

-- some came, and then others
pub serves_then : {A : Type 0} (answers : A → Request → Answer → A → Type 0) (over : A → Bool) (a m b : A) (l n k : ℕ)
    (before mid left : List ℕ) (r s t u v w : Option (List ℕ)) → ServesFrom answers over a l m n before mid r s u v
    → ServesFrom answers over m n b k mid left s t v w → ServesFrom answers over a l b k before left r t u w
serves_then answers over a m b l n k before mid left r s t u v w x y =
    let first : Hears answers over a l m n ((before ++ x.0) ++ y.0) (mid ++ y.0) u v =
    hears_more answers over a m l n (before ++ x.0) mid y.0 u v x.2 in
    let both : Hears answers over a l b k ((before ++ x.0) ++ y.0) left u w =
    hears_then answers over a m b l n k ((before ++ x.0) ++ y.0) (mid ++ y.0) left u v w first y.2 in (
      x.0 ++ y.0,
      consumes_then r s t x.0 y.0 x.1 y.1,
      subst (λ (bytes : List ℕ). Hears answers over a l b k bytes left u w) (append_assoc before x.0 y.0) both,
    )

-- one message is read, and served
pub serves_next : {A : Type 0} (answers : A → Request → Answer → A → Type 0) (over : A → Bool) (a b : A) (l n : ℕ) (before : List ℕ)
    (next : Next) (input after : Input) (r s u v : Option (List ℕ))
    → (came : List ℕ) × Consumes r s came × IsNext next input (before ++ came) → after ≡ input
    → ((bytes : List ℕ) → IsNext next input bytes → Hears answers over a l b n bytes (held input) u v)
    → ServesFrom answers over a l b n before (held after) r s u v
serves_next answers over a b l n before next input after r s u v h same hears =
    subst (λ (i : Input). ServesFrom answers over a l b n before (held i) r s u v) (sym same) (h.0, h.1, hears (before ++ h.0) h.2)

-- one message is read, and meets a fault
pub breaks_next : {A : Type 0} (answers : A → Request → Answer → A → Type 0) (over : A → Bool) (a b : A) (l : ℕ) (why : Fault) (before : List ℕ)
    (next : Next) (input : Input) (r s u v : Option (List ℕ)) → (came : List ℕ) × Consumes r s came × IsNext next input (before ++ came)
    → ((bytes : List ℕ) → IsNext next input bytes → HearsLast answers over a l b why bytes u v)
    → BreaksFrom answers over a l b why before r s u v
breaks_next answers over a b l why before next input r s u v h hears = (h.0, h.1, inr (hears (before ++ h.0) h.2))

-- or none is
pub breaks_unread : {A : Type 0} (answers : A → Request → Answer → A → Type 0) (over : A → Bool) (a : A) (l : ℕ) (why : Fault) (before : List ℕ)
    (r s u : Option (List ℕ)) → ReadsSome r s → BreaksFrom answers over a l a why before r s u u
breaks_unread answers over a l why before r s u h = (h.0, h.1, inl (refl, refl))

-- some are heard, and then comes a fault
pub stops_then : {A : Type 0} (answers : A → Request → Answer → A → Type 0) (over : A → Bool) (a m b : A) (l n : ℕ) (why : Fault)
    (before mid : List ℕ) (r s t u v w : Option (List ℕ)) → ServesFrom answers over a l m n before mid r s u v
    → BreaksFrom answers over m n b why mid s t v w → StopsFrom answers over a l b why before r t u w
stops_then answers over a m b l n why before mid r s t u v w x y =
    let first : Hears answers over a l m n ((before ++ x.0) ++ y.0) (mid ++ y.0) u v =
    hears_more answers over a m l n (before ++ x.0) mid y.0 u v x.2 in record {
      came = x.0 ++ y.0;
      read = consumes_then r s t x.0 y.0 x.1 y.1;
      left = mid ++ y.0;
      mid = m;
      after = n;
      between = v;
      hears = subst (λ (bytes : List ℕ). Hears answers over a l m n bytes (mid ++ y.0) u v) (append_assoc before x.0 y.0) first;
      breaks = y.2;
    }

-- a whole session that ends so, which begins with nothing read
pub stops_all : {A : Type 0} (answers : A → Request → Answer → A → Type 0) (over : A → Bool) (a b : A) (next : ℕ) (why : Fault) (before : List ℕ)
    (r t u v : Option (List ℕ)) → next ≡ 1 → before ≡ [] → StopsFrom answers over a next b why before r t u v
    → ServesUpTo answers over a 1 b why r t u v
stops_all answers over a b next why before r t u v first none h =
    let empty : StopsFrom answers over a next b why [] r t u v =
    subst (λ (held : List ℕ). StopsFrom answers over a next b why held r t u v) none h in
    let from : StopsFrom answers over a 1 b why [] r t u v =
    subst (λ (n : ℕ). StopsFrom answers over a n b why [] r t u v) first empty in record {
      came = from.came;
      read = from.read;
      left = from.left;
      mid = from.mid;
      after = from.after;
      between = from.between;
      hears = from.hears;
      breaks = from.breaks;
    }

-- one that ends before anything is read
pub stops_unread : {A : Type 0} (answers : A → Request → Answer → A → Type 0) (over : A → Bool) (a : A) (next : ℕ) (why : Fault)
    (r u : Option (List ℕ)) → ServesUpTo answers over a next a why r r u u
stops_unread answers over a next why r u = record {
  came = [];
  read = consumes_none r;
  left = [];
  mid = a;
  after = next;
  between = u;
  hears = hears_nothing answers over a next [] [] u refl;
  breaks = inl (refl, refl);
}

-- at the end of the reader nothing is left
pub ends_empty : (next : Next) (input after : Input) (bytes : List ℕ) (t : Option (List ℕ)) → IsNext next input bytes → after ≡ input
    → (next ≡ Next.End → IsAtEnd t) → next ≡ Next.End → IsAtEnd t × (held after ≡ [])
ends_empty next input after bytes t h same ends is =
    let end : IsNext Next.End input bytes = subst (λ (x : Next). IsNext x input bytes) is h in
    (ends is, ap held same ∙ end.1)

-- a whole session, which begins with nothing read
pub serves_all : {A : Type 0} (answers : A → Request → Answer → A → Type 0) (over : A → Bool) (a b : A) (next after : ℕ) (before left : List ℕ)
    (r t u v : Option (List ℕ)) → next ≡ 1 → before ≡ [] → (over b ≡ true) ⊎ (IsAtEnd t × (left ≡ []))
    → ServesFrom answers over a next b after before left r t u v → (n : ℕ) × Serves answers over a 1 b n r t u v
serves_all answers over a b next after before left r t u v first none ends h =
    let empty : ServesFrom answers over a next b after [] left r t u v =
    subst (λ (held : List ℕ). ServesFrom answers over a next b after held left r t u v) none h in
    let from : ServesFrom answers over a 1 b after [] left r t u v =
    subst (λ (n : ℕ). ServesFrom answers over a n b after [] left r t u v) first empty in (
      after,
      record {
        came = from.0;
        read = from.1;
        left = left;
        all = elim ends [ inl over' ↦ inl over' | inr end ↦ inr end.1 ];
        hears = from.2;
      },
    )

pub ends_well : {P : Type 0} (t : Option (List ℕ)) (left : List ℕ) → P ⊎ (IsAtEnd t × (left ≡ [])) → P ⊎ IsAtEnd t
ends_well t left (inl p) = inl p
ends_well t left (inr end) = inr end.0

-- where it ends well, two things hold, and a third follows
pub on_ok_and : {X E P Q S : Type 0} (r : Result X E) → (P → Q → S) → OnOk r P → OnOk r Q → OnOk r S
on_ok_and (Ok x) f p q = f p q
on_ok_and (Err e) f p q = tt
