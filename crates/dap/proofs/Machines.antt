-- The machine with which a program is launched.
use Rattle.std.proofs.Common.{◌≡◌, ℕ, List, [], true, Option, Some, None, Vec, Global, inl, inr, refl, sym, ◌∙◌, ap, subst}
use Rattle.std.specs.Prelude.{Result, Ok, Err, MatchOption, MatchResult, unwrap_or}
use Rattle.system.specs.declared.system.System.{System}
use Rattle.front_end.specs.Accepting.{AcceptedAs}
use Rattle.machine.specs.AtMachine.{AtMachine}
use Rattle.trace_file.specs.Loading.{IsLoaded}
use Rattle.serde_json.specs.Data.{Data}
use Rattle.dap_messages.specs.declared.answer.Answer.{Answer}
use Rattle.dap_views.specs.declared.program.Counting.{Counting}
use Rattle.dap.specs.Anew.{IsMeant}
use Rattle.dap.specs.Asking.{Asks, IsAsked}
use Rattle.dap.specs.Files.{AreRead, TellsFound, text_of}
use Rattle.dap.specs.Launching.{BeginsAt, BeginsOn, IsBegun, IsNew, TellsBegun}
use Rattle.dap.specs.Stops.{NotDone}
use Rattle.dap.specs.Unlaunched.{AreUnaccepted, BeginsNone, CannotBegin, CannotLaunch, CannotRestart, Fails, IsUnloaded}
use Rattle.dap.specs.declared.launch.Failed.{Failed}
use Rattle.dap.specs.declared.launch.Launched.{Launched}
use Rattle.dap.proofs.Refusing.{fails_memory, fails_weaker, not_done_weaker}

-- a program on it begins with these texts
pub begun_on : (r : Option Launched) (counting : Counting) (asked : Asks) (source stimulus : List ℕ) (trace : Option (List ℕ)) (machine : AtMachine)
    (a m b : Answer) → BeginsAt source stimulus trace machine × (m ≡ a) →
    MatchOption r (b.lacks ≡ true) (λ (l : Launched). IsNew asked counting source machine l × (b ≡ m)) →
    MatchOption r (NotDone (BeginsNone source stimulus trace) b)
    (λ (l : Launched). (n : AtMachine) × BeginsAt source stimulus trace n × IsNew asked counting source n l × (b ≡ a))
begun_on None counting asked source stimulus trace machine a m b h k = inl k
begun_on (Some l) counting asked source stimulus trace machine a m b h k = (machine, h.0, k.0, k.1 ∙ h.1)

-- as is asked for, where these texts were read
begun-none : (reads : List ℕ → Option (List ℕ) → Type 0) (asked : Asks) (source stimulus : List ℕ) (found trace : Option (List ℕ)) (b : Answer) →
    AreRead reads asked source found trace → stimulus ≡ unwrap_or found [] → NotDone (BeginsNone source stimulus trace) b →
    NotDone (CannotBegin reads asked) b
begun-none reads asked source stimulus found trace b read same h =
    not_done_weaker (BeginsNone source stimulus trace) (CannotBegin reads asked) b
    (λ n it. inr (source, found, trace, read, subst (λ (s : List ℕ). BeginsNone source s trace n) same it)) h

pub begun_as : (r : Option Launched) (reads : List ℕ → Option (List ℕ) → Type 0) (counting : Counting) (asked : Asks) (source stimulus : List ℕ)
    (trace : Option (List ℕ)) (a m b : Answer) →
    (found : Option (List ℕ)) × AreRead reads asked source found trace × (stimulus ≡ unwrap_or found []) × TellsFound found a m →
    MatchOption r (NotDone (BeginsNone source stimulus trace) b)
    (λ (l : Launched). (n : AtMachine) × BeginsAt source stimulus trace n × IsNew asked counting source n l × (b ≡ m)) →
    MatchOption r (NotDone (CannotBegin reads asked) b) (λ (l : Launched). TellsBegun reads counting asked a b l)
begun_as None reads counting asked source stimulus trace a m b h k = begun-none reads asked source stimulus h.0 trace b h.1 h.2 k
begun_as (Some l) reads counting asked source stimulus trace a m b h k =
    let begun : IsBegun reads counting asked l = record {
      source = source;
      found = h.0;
      trace = trace;
      read = h.1;
      machine = k.0;
      begins = subst (λ (s : List ℕ). BeginsAt source s trace k.0) h.2 k.1;
      fresh = k.2;
    } in
    (begun, subst (λ (x : Answer). TellsFound h.0 a x) (sym k.3) h.3)

-- as these arguments ask for
pub begun_by : (r : Option Launched) (reads : List ℕ → Option (List ℕ) → Type 0) (d : Data) (counting : Counting) (asked : Asks) (a m b : Answer) →
    IsAsked d asked × (m ≡ a) →
    MatchOption r (NotDone (CannotBegin reads asked) b) (λ (l : Launched). TellsBegun reads counting asked m b l) →
    MatchOption r (NotDone (CannotLaunch reads d) b)
    (λ (l : Launched). (named : Asks) × IsAsked d named × TellsBegun reads counting named a b l)
begun_by None reads d counting asked a m b h k =
    not_done_weaker (CannotBegin reads asked) (CannotLaunch reads d) b (λ n it. inr (asked, h.0, it)) k
begun_by (Some l) reads d counting asked a m b h k =
    (asked, h.0, subst (λ (x : Answer). TellsBegun reads counting asked x b l) h.1 k)

-- the same again
pub begun_same : (r : Option Launched) (reads : List ℕ → Option (List ℕ) → Type 0) (counting : Counting) (asked before : Asks) (a b : Answer) →
    asked ≡ before → MatchOption r (NotDone (CannotBegin reads asked) b) (λ (l : Launched). TellsBegun reads counting asked a b l) →
    MatchOption r (NotDone (CannotBegin reads before) b) (λ (l : Launched). TellsBegun reads counting before a b l)
begun_same None reads counting asked before a b same h = subst (λ (x : Asks). NotDone (CannotBegin reads x) b) same h
begun_same (Some l) reads counting asked before a b same h = subst (λ (x : Asks). TellsBegun reads counting x a b l) same h

-- what a restart launches
again-by : (r : Option Launched) (reads : List ℕ → Option (List ℕ) → Type 0) (counting : Counting) (before : Asks) (d : Data) (a b : Answer) →
    MatchOption r (NotDone (CannotLaunch reads d) b)
    (λ (l : Launched). (asked : Asks) × IsAsked d asked × TellsBegun reads counting asked a b l) →
    MatchOption r (NotDone (CannotRestart reads (Some d) before) b)
    (λ (l : Launched). (asked : Asks) × IsMeant (Some d) before asked × TellsBegun reads counting asked a b l)
again-by None reads counting before d a b h = h
again-by (Some l) reads counting before d a b h = h

again-same : (r : Option Launched) (reads : List ℕ → Option (List ℕ) → Type 0) (counting : Counting) (before : Asks) (a b : Answer) →
    MatchOption r (NotDone (CannotBegin reads before) b) (λ (l : Launched). TellsBegun reads counting before a b l) →
    MatchOption r (NotDone (CannotRestart reads None before) b)
    (λ (l : Launched). (asked : Asks) × IsMeant None before asked × TellsBegun reads counting asked a b l)
again-same None reads counting before a b h = h
again-same (Some l) reads counting before a b h = (before, refl, h)

pub again_by : (r : Option Launched) (reads : List ℕ → Option (List ℕ) → Type 0) (counting : Counting) (before : Asks) (brought : Option Data) (d : Data)
    (a b : Answer) → brought ≡ Some d →
    MatchOption r (NotDone (CannotLaunch reads d) b)
    (λ (l : Launched). (asked : Asks) × IsAsked d asked × TellsBegun reads counting asked a b l) →
    MatchOption r (NotDone (CannotRestart reads brought before) b)
    (λ (l : Launched). (asked : Asks) × IsMeant brought before asked × TellsBegun reads counting asked a b l)
again_by r reads counting before brought d a b is h =
    subst
    (λ (o : Option Data). MatchOption r (NotDone (CannotRestart reads o before) b)
    (λ (l : Launched). (asked : Asks) × IsMeant o before asked × TellsBegun reads counting asked a b l))
    (sym is) (again-by r reads counting before d a b h)

pub again_same : (r : Option Launched) (reads : List ℕ → Option (List ℕ) → Type 0) (counting : Counting) (before : Asks) (brought : Option Data) (a b : Answer) →
    brought ≡ None → MatchOption r (NotDone (CannotBegin reads before) b) (λ (l : Launched). TellsBegun reads counting before a b l) →
    MatchOption r (NotDone (CannotRestart reads brought before) b)
    (λ (l : Launched). (asked : Asks) × IsMeant brought before asked × TellsBegun reads counting asked a b l)
again_same r reads counting before brought a b is h =
    subst
    (λ (o : Option Data). MatchOption r (NotDone (CannotRestart reads o before) b)
    (λ (l : Launched). (asked : Asks) × IsMeant o before asked × TellsBegun reads counting asked a b l))
    (sym is) (again-same r reads counting before a b h)

-- it is that of the texts
begins-so : (source stimulus : List ℕ) (system : System) (trace : Option (List ℕ)) (r : Result AtMachine Failed) (a m b : Answer) →
    AcceptedAs source stimulus system → m ≡ a →
    MatchResult r (λ (n : AtMachine). BeginsOn system trace n × (b ≡ m)) (λ (failed : Failed). Fails (IsUnloaded system trace) failed b) →
    MatchResult r (λ (n : AtMachine). BeginsAt source stimulus trace n × (b ≡ a))
    (λ (failed : Failed). Fails (BeginsNone source stimulus trace) failed b)
begins-so source stimulus system trace (Ok n) a m b at same h = ((system, at, h.0), h.1 ∙ same)
begins-so source stimulus system trace (Err failed) a m b at same h =
    fails_weaker (IsUnloaded system trace) (BeginsNone source stimulus trace) failed b (λ k it. inr (system, at, it)) h

pub begins_at : (source s stimulus t : List ℕ) (system : System) (trace : Option (List ℕ)) (r : Result AtMachine Failed) (a m b : Answer) → s ≡ source →
    t ≡ stimulus → AcceptedAs s t system × (m ≡ a) →
    MatchResult r (λ (n : AtMachine). BeginsOn system trace n × (b ≡ m)) (λ (failed : Failed). Fails (IsUnloaded system trace) failed b) →
    MatchResult r (λ (n : AtMachine). BeginsAt source stimulus trace n × (b ≡ a))
    (λ (failed : Failed). Fails (BeginsNone source stimulus trace) failed b)
begins_at source s stimulus t system trace r a m b one two accepted h =
    let at : AcceptedAs source stimulus system =
    subst (λ (x : List ℕ). AcceptedAs x stimulus system) one (subst (λ (x : List ℕ). AcceptedAs s x system) two accepted.0) in
    begins-so source stimulus system trace r a m b at accepted.1 h

-- or they are not accepted
pub unaccepted_at : (source s stimulus t : List ℕ) (trace : Option (List ℕ)) (failed : Failed) (b : Answer) → s ≡ source → t ≡ stimulus →
    Fails (AreUnaccepted s t) failed b → Fails (BeginsNone source stimulus trace) failed b
unaccepted_at source s stimulus t trace failed b one two h =
    fails_weaker (AreUnaccepted s t) (BeginsNone source stimulus trace) failed b
    (λ n it. inl (subst (λ (x : List ℕ). AreUnaccepted x stimulus n) one (subst (λ (x : List ℕ). AreUnaccepted s x n) two it))) h

-- behind a trace
pub loads_on : (r : Result AtMachine Failed) (system : System) (trace : Option (Vec ℕ Global)) (text : Vec ℕ Global) (slice : List ℕ) (a b : Answer) →
    trace ≡ Some text → slice ≡ text.items →
    MatchResult r (λ (m : AtMachine). IsLoaded system slice m × (b ≡ a)) (λ (failed : Failed). Fails (IsUnloaded system (Some slice)) failed b) →
    MatchResult r (λ (m : AtMachine). BeginsOn system (text_of trace) m × (b ≡ a))
    (λ (failed : Failed). Fails (IsUnloaded system (text_of trace)) failed b)
loads_on r system trace text slice a b is same h =
    let there : text_of trace ≡ Some slice = ap (λ (x : Option (Vec ℕ Global)). text_of x) is ∙ ap (λ (x : List ℕ). Some x) (sym same) in
    subst
    (λ (x : Option (List ℕ)). MatchResult r (λ (m : AtMachine). BeginsOn system x m × (b ≡ a))
    (λ (failed : Failed). Fails (IsUnloaded system x) failed b)) (sym there) h

-- without one
pub fresh_on : (r : Result AtMachine Failed) (system : System) (trace : Option (Vec ℕ Global)) (a : Answer) → trace ≡ None →
    MatchResult r (λ (m : AtMachine). BeginsOn system None m) (λ (failed : Failed). failed ≡ Failed.Memory) →
    MatchResult r (λ (m : AtMachine). BeginsOn system (text_of trace) m × (a ≡ a))
    (λ (failed : Failed). Fails (IsUnloaded system (text_of trace)) failed a)
fresh_on (Ok m) system trace a is h =
    let there : text_of trace ≡ None = ap (λ (x : Option (Vec ℕ Global)). text_of x) is in
    (subst (λ (x : Option (List ℕ)). BeginsOn system x m) (sym there) h, refl)
fresh_on (Err failed) system trace a is h = fails_memory (IsUnloaded system (text_of trace)) failed a h
