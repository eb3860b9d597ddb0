-- What comes before a launch.
use Rattle.std.proofs.Common.{ℕ, ◌≡◌, ◌∙◌, List, [], ◌∷◌, Bool, true, false, Option, None, Some, Vec, Global, codes, inl, inr, refl, sym, ap, subst}
use Rattle.serde_json.specs.Data.{Data, Items}
use Rattle.serde_json.specs.View.{view}
use Rattle.dap_messages.specs.Notes.{IsDone, IsRefusal}
use Rattle.dap_messages.specs.declared.answer.Answer.{Answer}
use Rattle.dap_messages.specs.declared.answer.Note.{Note}
use Rattle.dap_messages.specs.declared.kind.Kind.{Kind}
use Rattle.dap_messages.specs.declared.request.Request.{Request}
use Rattle.dap_messages.specs.declared.told.Told.{Told}
use Rattle.dap_requests.specs.Said.{Tells}
use Rattle.dap_requests.specs.Sets.{TellsNoData, items_named}
use Rattle.dap_requests.proofs.public.Saying.{tells_on}
use Rattle.dap_server.specs.Kinds.{moves}
use Rattle.dap_views.specs.declared.program.Counting.{Counting}
use Rattle.dap.specs.Anew.{excepting}
use Rattle.dap.specs.Asking.{Asks, IsAsked}
use Rattle.dap.specs.Early.{AnswersEarly, AnswersKnown, EarlyBy, Launches, LaunchesFor}
use Rattle.dap.specs.Files.{TellsFound, TellsLaunched}
use Rattle.dap.specs.Goes.{Goes}
use Rattle.dap.specs.Kinds.{ends, opens}
use Rattle.dap.specs.Launching.{IsBegun, TellsBegun}
use Rattle.dap.specs.Meeting.{ClientBy, Meets, MeetsBy, excepts_behind, excepts_by, excepts_early, names_paths}
use Rattle.dap.specs.Stops.{EndsWith, NotDone}
use Rattle.dap.specs.Unlaunched.{CannotLaunch}
use Rattle.dap.specs.declared.launch.Launched.{Launched}

-- what is heard before a launch is not refused for that
pub not_opened : {X : Type 0} (kind known : Kind) → kind ≡ known → opens known ≡ true → opens kind ≡ false → X
not_opened kind known is opened closed =
    let no : true ≡ false = sym opened ∙ ap (λ (k : Kind). opens k) (sym is) ∙ closed in absurd (cc)

-- what moves is not heard there
pub moves_closed : (kind : Kind) → moves kind ≡ true → opens kind ≡ false
moves_closed Kind.Initialize is = absurd (cc)
moves_closed Kind.Disconnect is = absurd (cc)
moves_closed Kind.Launch is = absurd (cc)
moves_closed Kind.Threads is = absurd (cc)
moves_closed Kind.SetBreakpoints is = absurd (cc)
moves_closed Kind.SetDataBreakpoints is = absurd (cc)
moves_closed Kind.SetExceptionBreakpoints is = absurd (cc)
moves_closed _ is = refl

-- and does not end the session
pub closed_on : (kind : Kind) → opens kind ≡ false → ends kind ≡ false
closed_on Kind.Disconnect closed = absurd (cc)
closed_on _ closed = refl

-- what comes of a request of a known kind
pub early_as : (kind known : Kind) (reads : List ℕ → Option (List ℕ) → Type 0) (client : Option Counting) (excepts : Bool) (d : Data) (a b : Answer)
    (y : Option Launched) → kind ≡ known → EarlyBy known reads client excepts d a b y → EarlyBy kind reads client excepts d a b y
early_as kind known reads client excepts d a b y is h = subst (λ (k : Kind). EarlyBy k reads client excepts d a b y) (sym is) h

-- of one that launches nothing
pub early_none : (kind : Kind) (reads : List ℕ → Option (List ℕ) → Type 0) (client : Option Counting) (excepts : Bool) (d : Data) (a b : Answer)
    (y : Option Launched) → (kind ≡ Kind.Launch → ⊥) → y ≡ None → b.notes ≡ a.notes → EarlyBy kind reads client excepts d a b y
early_none Kind.Launch reads client excepts d a b y other none same = absurd (other refl)
early_none _ reads client excepts d a b y other none same = (none, same)

-- of one of a client that is known
pub early_known : (kind : Kind) (reads : List ℕ → Option (List ℕ) → Type 0) (client : Option Counting) (counting : Counting) (excepts : Bool)
    (d : Data) (a b : Answer) (y : Option Launched) → client ≡ Some counting → EarlyBy kind reads (Some counting) excepts d a b y →
    EarlyBy kind reads client excepts d a b y
early_known kind reads client counting excepts d a b y is h =
    subst (λ (k : Option Counting). EarlyBy kind reads k excepts d a b y) (sym is) h

-- and of one that is not
unknown : (kind : Kind) (reads : List ℕ → Option (List ℕ) → Type 0) (excepts : Bool) (d : Data) (a b : Answer) (y : Option Launched) →
    ((kind ≡ Kind.Disconnect → ⊥) → IsRefusal b.outcome) → y ≡ None → b.notes ≡ a.notes → EarlyBy kind reads None excepts d a b y
unknown Kind.Launch reads excepts d a b y refused none same = (refused (λ is. absurd (cc)), same, none)
unknown _ reads excepts d a b y refused none same = (none, same)

pub early_unknown : (kind : Kind) (reads : List ℕ → Option (List ℕ) → Type 0) (client : Option Counting) (excepts : Bool) (d : Data) (a b : Answer)
    (y : Option Launched) → client ≡ None → ((kind ≡ Kind.Disconnect → ⊥) → IsRefusal b.outcome) → y ≡ None → b.notes ≡ a.notes →
    EarlyBy kind reads client excepts d a b y
early_unknown kind reads client excepts d a b y is refused none same =
    subst (λ (k : Option Counting). EarlyBy kind reads k excepts d a b y) (sym is) (unknown kind reads excepts d a b y refused none same)

-- so nothing is launched but what a launch asks for
none-goes : (reads : List ℕ → Option (List ℕ) → Type 0) (y : Option Launched) (request : Request) (a b : Answer) → y ≡ None →
    Goes reads None request a b y
none-goes reads y request a b none =
    let to : Goes reads None request a b None = inl tt in subst (λ (z : Option Launched). Goes reads None request a b z) (sym none) to

launch-goes : (reads : List ℕ → Option (List ℕ) → Type 0) (client : Option Counting) (excepts : Bool) (y : Option Launched) (request : Request)
    (a b : Answer) → request.kind ≡ Kind.Launch → LaunchesFor reads client excepts (view request.arguments) a b y → Goes reads None request a b y
launch-goes reads None excepts y request a b is h = none-goes reads y request a b h.2
launch-goes reads (Some counting) excepts None request a b is h = inl tt
launch-goes reads (Some counting) excepts (Some m) request a b is h = inr (is, (counting, h.0, h.1, h.2))

kind-goes : (kind : Kind) (reads : List ℕ → Option (List ℕ) → Type 0) (client : Option Counting) (excepts : Bool) (y : Option Launched)
    (request : Request) (a b : Answer) → request.kind ≡ kind → EarlyBy kind reads client excepts (view request.arguments) a b y →
    Goes reads None request a b y
kind-goes Kind.Launch reads client excepts y request a b is h = launch-goes reads client excepts y request a b is h
kind-goes _ reads client excepts y request a b is h = none-goes reads y request a b h.0

pub goes_early : (reads : List ℕ → Option (List ℕ) → Type 0) (x y : Option Launched) (client : Option Counting) (excepts : Bool) (request : Request)
    (a b : Answer) → x ≡ None → EarlyBy request.kind reads client excepts (view request.arguments) a b y → Goes reads x request a b y
goes_early reads x y client excepts request a b none h =
    subst (λ (z : Option Launched). Goes reads z request a b y) (sym none)
    (kind-goes request.kind reads client excepts y request a b refl h)

-- what is begun is so too where refusals stop as exceptions or not
begun-excepting : (reads : List ℕ → Option (List ℕ) → Type 0) (counting : Counting) (asked : Asks) (excepts : Bool) (l : Launched) →
    IsBegun reads counting asked l → IsBegun reads counting asked (excepting excepts l)
begun-excepting reads counting asked excepts l h = record {
  source = h.source;
  found = h.found;
  trace = h.trace;
  read = h.read;
  machine = h.machine;
  begins = h.begins;
  fresh = record {
    unset = record {
      launch = h.fresh.unset.launch;
      counts = h.fresh.unset.counts;
      text = h.fresh.unset.text;
      cut = h.fresh.unset.cut;
      lines = h.fresh.unset.lines;
      elsewhere = h.fresh.unset.elsewhere;
      stops = h.fresh.unset.stops;
      watched = h.fresh.unset.watched;
      numbers = h.fresh.unset.numbers;
      waits = h.fresh.unset.waits;
      lasts = h.fresh.unset.lasts;
      sight = h.fresh.unset.sight;
    };
    seen = h.fresh.seen;
    desk = h.fresh.desk;
  };
}

-- what is told behind what was found of the stimulus
tells-launched : (found : Option (List ℕ)) (a m b : Answer) → TellsFound found a m → Tells m (Told.Initialized ∷ []) b → TellsLaunched found a b
tells-launched None a m b h k = (h.outputs, h.are, tells_on a m b h.outputs (Told.Initialized ∷ []) h.told k)
tells-launched (Some text) a m b h k = ([], refl, subst (λ (x : Answer). Tells x (Told.Initialized ∷ []) b) h k)

-- something is launched
pub launches_so : (reads : List ℕ → Option (List ℕ) → Type 0) (counting : Counting) (excepts : Bool) (d e : Data) (a m b : Answer) (l k : Launched) → e ≡ d →
    (asked : Asks) × IsAsked e asked × TellsBegun reads counting asked a m l → k ≡ excepting excepts l → IsDone b.outcome →
    EndsWith b Told.Initialized → Tells m (Told.Initialized ∷ []) b → Launches reads counting excepts d a b (Some k)
unfolding begun-excepting
launches_so reads counting excepts d e a m b l k same h there done last tells =
    let to : Launches reads counting excepts d a b (Some (excepting excepts l)) = (
      h.0,
      subst (λ (x : Data). IsAsked x h.0) same h.1,
      begun-excepting reads counting h.0 excepts l h.2.0,
      refl,
      done,
      last,
      tells-launched h.2.0.found a m b h.2.1 tells,
    ) in
    subst (λ (x : Launched). Launches reads counting excepts d a b (Some x)) (sym there) to

-- nothing is
pub launches_none : (reads : List ℕ → Option (List ℕ) → Type 0) (counting : Counting) (excepts : Bool) (d e : Data) (a b : Answer) → e ≡ d →
    NotDone (CannotLaunch reads e) b → Launches reads counting excepts d a b None
launches_none reads counting excepts d e a b same h = subst (λ (x : Data). NotDone (CannotLaunch reads x) b) same h

-- who the client is
pub meets_again : (x : Option Counting) (c : Counting) (d : Data) (b : Answer) → x ≡ Some c → Meets x d b x
meets_again x c d b is = subst (λ (z : Option Counting). Meets z d b z) (sym is) refl

pub meets_first : (x y : Option Counting) (d : Data) (b : Answer) → x ≡ None → MeetsBy (names_paths d) d b y → Meets x d b y
meets_first x y d b is h = subst (λ (z : Option Counting). Meets z d b y) (sym is) h

pub meets_by : (said known : Bool) (d : Data) (b : Answer) (y : Option Counting) → said ≡ known → MeetsBy known d b y → MeetsBy said d b y
meets_by said known d b y is h = subst (λ (s : Bool). MeetsBy s d b y) (sym is) h

pub client_meets : (kind : Kind) (x y : Option Counting) (d : Data) (b : Answer) → kind ≡ Kind.Initialize → Meets x d b y → ClientBy kind x d b y
client_meets kind x y d b is h = subst (λ (k : Kind). ClientBy k x d b y) (sym is) h

pub client_stays : (kind : Kind) (x y : Option Counting) (d : Data) (b : Answer) → (kind ≡ Kind.Initialize → ⊥) → y ≡ x → ClientBy kind x d b y
client_stays Kind.Initialize x y d b other same = absurd (other refl)
client_stays _ x y d b other same = same

-- whether refusals stop as exceptions
pub excepts_as : (kind known : Kind) (d : Data) (e f : Bool) → kind ≡ known → f ≡ excepts_by known d e → f ≡ excepts_by kind d e
excepts_as kind known d e f is h = subst (λ (k : Kind). f ≡ excepts_by k d e) (sym is) h

pub excepts_other : (kind : Kind) (d : Data) (e : Bool) → (kind ≡ Kind.SetExceptionBreakpoints → ⊥) → e ≡ excepts_by kind d e
excepts_other Kind.SetExceptionBreakpoints d e other = absurd (other refl)
excepts_other _ d e other = refl

pub excepts_known : (client : Option Counting) (c : Counting) (kind : Kind) (d : Data) (e f : Bool) → client ≡ Some c → f ≡ excepts_by kind d e →
    f ≡ excepts_early client kind d e
excepts_known client c kind d e f is h = subst (λ (k : Option Counting). f ≡ excepts_early k kind d e) (sym is) h

pub excepts_unknown : (client : Option Counting) (kind : Kind) (d : Data) (e : Bool) → client ≡ None → e ≡ excepts_early client kind d e
excepts_unknown client kind d e is = subst (λ (k : Option Counting). e ≡ excepts_early k kind d e) (sym is) refl

pub excepts_before : (x : Option Launched) (client : Option Counting) (kind : Kind) (d : Data) (e f : Bool) → x ≡ None →
    f ≡ excepts_early client kind d e → f ≡ excepts_behind x client kind d e
excepts_before x client kind d e f is h = subst (λ (z : Option Launched). f ≡ excepts_behind z client kind d e) (sym is) h

pub excepts_after : (x : Option Launched) (l : Launched) (client : Option Counting) (kind : Kind) (d : Data) (e : Bool) → x ≡ Some l →
    e ≡ excepts_behind x client kind d e
excepts_after x l client kind d e is = subst (λ (z : Option Launched). e ≡ excepts_behind z client kind d e) (sym is) refl

met : (x : Option Launched) (client : Option Counting) (d : Data) (e : Bool) → e ≡ excepts_behind x client Kind.Initialize d e
met None None d e = refl
met None (Some c) d e = refl
met (Some l) client d e = refl

pub excepts_met : (x : Option Launched) (client : Option Counting) (kind : Kind) (d : Data) (e f : Bool) → kind ≡ Kind.Initialize → f ≡ e →
    f ≡ excepts_behind x client kind d e
excepts_met x client kind d e f is same =
    same ∙ subst (λ (k : Kind). e ≡ excepts_behind x client k d e) (sym is) (met x client d e)

-- how a request of a known kind is answered
pub known_as : (kind known : Kind) (d : Data) (a b : Answer) → kind ≡ known → AnswersKnown known d a b → AnswersKnown kind d a b
known_as kind known d a b is h = subst (λ (k : Kind). AnswersKnown k d a b) (sym is) h

pub known_other : (kind : Kind) (d : Data) (a b : Answer) → (kind ≡ Kind.SetBreakpoints → ⊥) → (kind ≡ Kind.SetDataBreakpoints → ⊥) →
    (kind ≡ Kind.Attach → ⊥) → (kind ≡ Kind.SetExceptionBreakpoints → ⊥) → AnswersKnown kind d a b
known_other Kind.SetBreakpoints d a b one two three four = absurd (one refl)
known_other Kind.SetDataBreakpoints d a b one two three four = absurd (two refl)
known_other Kind.Attach d a b one two three four = absurd (three refl)
known_other Kind.SetExceptionBreakpoints d a b one two three four = absurd (four refl)
known_other _ d a b one two three four = tt

-- beside any events
data-beside : (asked : Option Items) (b : Answer) (notes : Vec Note Global) → TellsNoData asked b → TellsNoData asked (record b { notes = notes })
data-beside None b notes h = h
data-beside (Some items) b notes h = h

pub known_beside : (kind : Kind) (d : Data) (a m b : Answer) (notes : Vec Note Global) → (kind ≡ Kind.SetExceptionBreakpoints → ⊥) →
    AnswersKnown kind d m b → AnswersKnown kind d a (record b { notes = notes })
known_beside Kind.SetBreakpoints d a m b notes other h = h
known_beside Kind.SetDataBreakpoints d a m b notes other h = data-beside (items_named (codes "breakpoints") d) b notes h
known_beside Kind.SetExceptionBreakpoints d a m b notes other h = absurd (other refl)
known_beside Kind.Attach d a m b notes other h = h
known_beside _ d a m b notes other h = h

-- for a client that is known, and for another
pub answers_known : (client : Option Counting) (counting : Counting) (kind : Kind) (d : Data) (a b : Answer) → client ≡ Some counting →
    AnswersKnown kind d a b → AnswersEarly client kind d a b
answers_known client counting kind d a b is h = subst (λ (x : Option Counting). AnswersEarly x kind d a b) (sym is) h

pub answers_stranger : (client : Option Counting) (kind : Kind) (d : Data) (a b : Answer) → client ≡ None →
    ((kind ≡ Kind.Disconnect → ⊥) → IsRefusal b.outcome) → AnswersEarly client kind d a b
answers_stranger client kind d a b is h = subst (λ (x : Option Counting). AnswersEarly x kind d a b) (sym is) h
