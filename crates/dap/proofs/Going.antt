-- What a session keeps.
use Rattle.std.proofs.Common.{ℕ, codes, ◌≡◌, ◌⊎◌, ◌||◌, ◌&&◌, List, Bool, true, false, Option, None, Some, Vec, Global, inl, inr, refl, sym, ◌∙◌, ap, subst}
use Rattle.std.specs.Prelude.{String, not, string_bytes}
use Rattle.std.specs.Option.{option_map_or}
use Rattle.serde_json.specs.Data.{Data}
use Rattle.serde_json.specs.View.{view}
use Rattle.system.specs.declared.command.Command.{Command}
use Rattle.system_places.specs.SystemBranches.{branch_count}
use Rattle.runs.specs.declared.event.Choice.{Choice}
use Rattle.machine.specs.AtMachine.{AtMachine}
use Rattle.machine.specs.Headline.{Headline}
use Rattle.locked_execution.specs.AtDesk.{AtDesk, execution}
use Rattle.dap_messages.specs.Arguments.{number_named}
use Rattle.dap_messages.specs.Notes.{IsDone, IsRefusal}
use Rattle.dap_messages.specs.declared.answer.Answer.{Answer}
use Rattle.dap_messages.specs.declared.answer.Note.{Note}
use Rattle.dap_messages.specs.declared.answer.Outcome.{Outcome}
use Rattle.dap_messages.specs.declared.kind.Kind.{Kind}
use Rattle.dap_messages.specs.declared.request.Request.{Request}
use Rattle.dap_messages.specs.declared.told.Stop.{Stop}
use Rattle.dap_moves.specs.Led.{Led}
use Rattle.dap_moves.proofs.public.Leading.{led_nowhere}
use Rattle.dap_requests.specs.Locations.{LocatesOn}
use Rattle.dap_requests.specs.Said.{Runs}
use Rattle.dap_requests.specs.Sets.{PlacesAsked, Stays, TellsSet, is_meant, is_own, items_named, lines_asked, path_in}
use Rattle.dap_requests.specs.Targets.{ListsTargetsOf}
use Rattle.dap_requests.specs.Typed.{Evaluates, Rests, is_typed}
use Rattle.dap_requests.proofs.public.Saying.{runs_after, runs_weaker}
use Rattle.dap_server.specs.Kinds.{moves}
use Rattle.dap_threads.specs.Scopes.{ListsScopesOf}
use Rattle.dap_threads.specs.Stack.{ListsFor}
use Rattle.dap_threads.specs.Threads.{branch_named}
use Rattle.dap_views.specs.Files.{same_file}
use Rattle.dap_views.specs.Kept.{unseen}
use Rattle.dap_views.specs.declared.index.Index.{Index}
use Rattle.dap_views.specs.declared.program.Launch.{Launch}
use Rattle.dap_views.specs.declared.program.Memo.{Memo}
use Rattle.dap_views.specs.declared.program.Program.{Program}
use Rattle.dap_views.specs.declared.sight.Sight.{Sight}
use Rattle.dap.specs.Begins.{Begins, begun}
use Rattle.dap.specs.Goes.{AnswersBy, Goes, GoesOn, HasBegun, IsSeen, IsSound, LaunchedGoes, Restarts, ShowsBy, TellsBy, seen_as}
use Rattle.dap.specs.Kinds.{asks, begins, changes, is_active, types}
use Rattle.dap.specs.Sets.{Sets, SetsBegun, SetsBy}
use Rattle.dap.specs.Steps.{Forward, IsDenied, Steps, thread_of}
use Rattle.dap.specs.Stops.{RefusedAs}
use Rattle.dap.specs.declared.launch.Launched.{Launched}
use Rattle.dap.proofs.Seeing.{seen_still, sight_set}

-- a desk that stays was led nowhere
pub led_still : (d d' : AtDesk) → d' ≡ d → Led d d'
led_still d d' same = subst (λ (x : AtDesk). Led d x) (sym same) (led_nowhere d)

-- a request of a known kind
pub steps_as : (a b : Answer) (program : Program) (before after : List Choice) (d d' : AtDesk) (kind known : Kind) (request : Request) → kind ≡ known →
    Runs a b d d' before after (λ (stop : Stop) (branch : ℕ). Steps program before after d known request stop branch d') →
    Runs a b d d' before after (λ (stop : Stop) (branch : ℕ). Steps program before after d kind request stop branch d')
steps_as a b program before after d d' kind known request is h =
    subst
    (λ (k : Kind). Runs a b d d' before after (λ (stop : Stop) (branch : ℕ). Steps program before after d k request stop branch d'))
    (sym is) h

-- one that is none of these asks for a step, or for nothing
forward-as : (program : Program) (before after : List Choice) (d d' : AtDesk) (kind : Kind) (request : Request) (stop : Stop) (branch : ℕ) →
    (kind ≡ Kind.StepBack → ⊥) → (kind ≡ Kind.Continue → ⊥) → (kind ≡ Kind.ReverseContinue → ⊥) → (kind ≡ Kind.Pause → ⊥) →
    Forward program.excepts before after d request (thread_of d request) stop branch d' →
    Steps program before after d kind request stop branch d'
forward-as program before after d d' Kind.StepBack request stop branch one two three four h = absurd (one refl)
forward-as program before after d d' Kind.Continue request stop branch one two three four h = absurd (two refl)
forward-as program before after d d' Kind.ReverseContinue request stop branch one two three four h = absurd (three refl)
forward-as program before after d d' Kind.Pause request stop branch one two three four h = absurd (four refl)
forward-as program before after d d' Kind.Next request stop branch one two three four h = h
forward-as program before after d d' Kind.StepIn request stop branch one two three four h = h
forward-as program before after d d' Kind.StepOut request stop branch one two three four h = h
forward-as program before after d d' _ request stop branch one two three four h = tt

pub steps_forward : (a b : Answer) (program : Program) (before after : List Choice) (d d' : AtDesk) (kind : Kind) (request : Request) →
    (kind ≡ Kind.StepBack → ⊥) → (kind ≡ Kind.Continue → ⊥) → (kind ≡ Kind.ReverseContinue → ⊥) → (kind ≡ Kind.Pause → ⊥) →
    Runs a b d d' before after
    (λ (stop : Stop) (branch : ℕ). Forward program.excepts before after d request (thread_of d request) stop branch d') →
    Runs a b d d' before after (λ (stop : Stop) (branch : ℕ). Steps program before after d kind request stop branch d')
steps_forward a b program before after d d' kind request one two three four h =
    runs_weaker a b d d' before after
    (λ (stop : Stop) (branch : ℕ). Forward program.excepts before after d request (thread_of d request) stop branch d')
    (λ (stop : Stop) (branch : ℕ). Steps program before after d kind request stop branch d')
    (λ (stop : Stop) (branch : ℕ) it. forward-as program before after d d' kind request stop branch one two three four it) h

-- a request to move sets nothing
moves-none : (kind : Kind) (d : Data) (c : Command) (p : Program) (b : Answer) → moves kind ≡ true → SetsBy kind d c p b p
moves-none Kind.SetBreakpoints d c p b is = absurd (cc)
moves-none Kind.SetDataBreakpoints d c p b is = absurd (cc)
moves-none Kind.SetExceptionBreakpoints d c p b is = absurd (cc)
moves-none Kind.Terminate d c p b is = absurd (cc)
moves-none Kind.ConfigurationDone d c p b is = absurd (cc)
moves-none Kind.BreakpointLocations d c p b is = absurd (cc)
moves-none _ d c p b is = refl

sets-moving : (request : Request) (c : Command) (p : Program) (b : Answer) → moves request.kind ≡ true → Sets request c p b p
sets-moving request c p b is = moves-none request.kind (view request.arguments) c p b is

-- nor does a line
typed-none : (kind : Kind) (d : Data) (c : Command) (p : Program) (b : Answer) → asks kind ≡ true → (kind ≡ Kind.ConfigurationDone → ⊥) → SetsBy kind d c p b p
typed-none Kind.SetBreakpoints d c p b is other = absurd (cc)
typed-none Kind.SetDataBreakpoints d c p b is other = absurd (cc)
typed-none Kind.SetExceptionBreakpoints d c p b is other = absurd (cc)
typed-none Kind.Terminate d c p b is other = absurd (cc)
typed-none Kind.ConfigurationDone d c p b is other = absurd (other refl)
typed-none Kind.BreakpointLocations d c p b is other = absurd (cc)
typed-none _ d c p b is other = refl

-- nor what would move something
active-none : (kind : Kind) (typed : Bool) (d : Data) (c : Command) (p : Program) (b : Answer) → (moves kind || types kind typed) ≡ true → SetsBy kind d c p b p
active-none Kind.SetBreakpoints typed d c p b is = absurd (cc)
active-none Kind.SetDataBreakpoints typed d c p b is = absurd (cc)
active-none Kind.SetExceptionBreakpoints typed d c p b is = absurd (cc)
active-none Kind.Terminate typed d c p b is = absurd (cc)
active-none Kind.ConfigurationDone typed d c p b is = absurd (cc)
active-none Kind.BreakpointLocations typed d c p b is = absurd (cc)
active-none _ typed d c p b is = refl

active-changes : (kind : Kind) (typed : Bool) → (moves kind || types kind typed) ≡ true → changes kind ≡ true
active-changes Kind.Evaluate typed is = refl
active-changes Kind.ConfigurationDone typed is = refl
active-changes _ typed is = is

-- nor the first request to run, where it is over
first-none : (kind : Kind) (d : Data) (c : Command) (p : Program) (b : Answer) → begins kind ≡ true → p.ended ≡ true → IsRefusal b.outcome → SetsBy kind d c p b p
first-none Kind.ConfigurationDone d c p b is ended refused = inr (inr ended, refused, refl)
first-none _ d c p b is ended refused = absurd (cc)

first-changes : (kind : Kind) → begins kind ≡ true → changes kind ≡ true
first-changes Kind.ConfigurationDone is = refl
first-changes _ is = absurd (cc)

-- it has begun; where nobody debugs it, it is over
pub begun_free : (p : Program) → p.launch.free ≡ true → record p { begun = true; ended = true } ≡ begun p
begun_free p free = ap (λ (f : Bool). record p { begun = true; ended = f || p.ended }) (sym free)

pub begun_debugged : (p : Program) → p.launch.free ≡ false → record p { begun = true } ≡ begun p
begun_debugged p free = ap (λ (f : Bool). record p { begun = true; ended = f || p.ended }) (sym free)

-- what only shows sets nothing
shows-none : (kind : Kind) (d : Data) (c : Command) (p : Program) (b : Answer) → asks kind ≡ false → (kind ≡ Kind.SetBreakpoints → ⊥) →
    (kind ≡ Kind.SetDataBreakpoints → ⊥) → (kind ≡ Kind.SetExceptionBreakpoints → ⊥) → (kind ≡ Kind.Terminate → ⊥) →
    (kind ≡ Kind.BreakpointLocations → ⊥) → SetsBy kind d c p b p
shows-none Kind.SetBreakpoints d c p b none one two three four five = absurd (one refl)
shows-none Kind.SetDataBreakpoints d c p b none one two three four five = absurd (two refl)
shows-none Kind.SetExceptionBreakpoints d c p b none one two three four five = absurd (three refl)
shows-none Kind.Terminate d c p b none one two three four five = absurd (four refl)
shows-none Kind.ConfigurationDone d c p b none one two three four five = absurd (cc)
shows-none Kind.BreakpointLocations d c p b none one two three four five = absurd (five refl)
shows-none _ d c p b none one two three four five = refl

pub sets_none : (request : Request) (c : Command) (p : Program) (b : Answer) → asks request.kind ≡ false → (request.kind ≡ Kind.SetBreakpoints → ⊥) →
    (request.kind ≡ Kind.SetDataBreakpoints → ⊥) → (request.kind ≡ Kind.SetExceptionBreakpoints → ⊥) → (request.kind ≡ Kind.Terminate → ⊥) →
    (request.kind ≡ Kind.BreakpointLocations → ⊥) → Sets request c p b p
sets_none request c p b none one two three four five =
    shows-none request.kind (view request.arguments) c p b none one two three four five

-- a request of a known kind sets what that does
pub sets_as : (request : Request) (known : Kind) (c : Command) (p q : Program) (b : Answer) → request.kind ≡ known →
    SetsBy known (view request.arguments) c p b q → Sets request c p b q
sets_as request known c p q b is h = subst (λ (k : Kind). SetsBy k (view request.arguments) c p b q) (sym is) h

-- and tells what that does
pub tells_as : (kind known : Kind) (d : Data) (p q : Program) (a b : Answer) → kind ≡ known → TellsBy known d p a q b → TellsBy kind d p a q b
tells_as kind known d p q a b is h = subst (λ (k : Kind). TellsBy k d p a q b) (sym is) h

pub tells_none : (kind : Kind) (d : Data) (p q : Program) (a b : Answer) → (kind ≡ Kind.SetBreakpoints → ⊥) → (kind ≡ Kind.SetExceptionBreakpoints → ⊥) →
    (kind ≡ Kind.Terminate → ⊥) → b.notes ≡ a.notes → TellsBy kind d p a q b
tells_none Kind.SetBreakpoints d p q a b one two three same = absurd (one refl)
tells_none Kind.SetExceptionBreakpoints d p q a b one two three same = absurd (two refl)
tells_none Kind.Terminate d p q a b one two three same = absurd (three refl)
tells_none _ d p q a b one two three same = same

-- what is shown does not matter for that
meant-same : (p q : Program) (path : List ℕ) → q.launch ≡ p.launch → q.elsewhere ≡ p.elsewhere → is_meant p path ≡ is_meant q path
meant-same p q path one two =
    sym
    (ap (λ (l : Launch). same_file (string_bytes l.program) path || option_map_or (λ file. same_file (string_bytes file) path) q.elsewhere false) one
    ∙ ap (λ (e : Option (String Global)). same_file (string_bytes p.launch.program) path || option_map_or (λ file. same_file (string_bytes file) path) e false) two)

set-unseen : (meant : Bool) (lines : Option (List ℕ)) (q : Program) (a b : Answer) → TellsSet meant lines a q b → TellsSet meant lines a (unseen q) b
set-unseen true (Some lines) q a b h = h
set-unseen true None q a b h = h
set-unseen false lines q a b h = h

tells-unseen : (kind : Kind) (d : Data) (p q : Program) (a b : Answer) → TellsBy kind d p a q b → TellsBy kind d (unseen p) a (unseen q) b
tells-unseen Kind.SetBreakpoints d p q a b h =
    subst (λ (meant : Bool). TellsSet meant (lines_asked d) a (unseen q) b) (meant-same p (unseen p) (path_in d) refl refl)
    (set-unseen (is_meant p (path_in d)) (lines_asked d) q a b h)
tells-unseen Kind.SetExceptionBreakpoints d p q a b h = h
tells-unseen Kind.Terminate d p q a b h = h
tells-unseen _ d p q a b h = h

-- a request of a known kind lists what that does
pub shows_as : (kind known : Kind) (m : AtMachine) (index : Index) (sight : Option Sight) (d : Data) (b : Answer) → kind ≡ known →
    ShowsBy known m index sight d b → ShowsBy kind m index sight d b
shows_as kind known m index sight d b is h = subst (λ (k : Kind). ShowsBy k m index sight d b) (sym is) h

pub shows_none : (kind : Kind) (m : AtMachine) (index : Index) (sight : Option Sight) (d : Data) (b : Answer) → (kind ≡ Kind.Threads → ⊥) →
    (kind ≡ Kind.StackTrace → ⊥) → (kind ≡ Kind.Scopes → ⊥) → (kind ≡ Kind.Variables → ⊥) → (kind ≡ Kind.StepInTargets → ⊥) → ShowsBy kind m index sight d b
shows_none Kind.Threads m index sight d b none one two three four = absurd (none refl)
shows_none Kind.StackTrace m index sight d b none one two three four = absurd (one refl)
shows_none Kind.Scopes m index sight d b none one two three four = absurd (two refl)
shows_none Kind.Variables m index sight d b none one two three four = absurd (three refl)
shows_none Kind.StepInTargets m index sight d b none one two three four = absurd (four refl)
shows_none _ m index sight d b none one two three four = tt

-- of one that may change the desk more is said elsewhere
shows-changing : (kind : Kind) (m : AtMachine) (index : Index) (sight : Option Sight) (d : Data) (b : Answer) → changes kind ≡ true →
    ShowsBy kind m index sight d b
shows-changing Kind.Threads m index sight d b is = absurd (cc)
shows-changing Kind.StackTrace m index sight d b is = absurd (cc)
shows-changing Kind.Scopes m index sight d b is = absurd (cc)
shows-changing Kind.Variables m index sight d b is = absurd (cc)
shows-changing Kind.StepInTargets m index sight d b is = absurd (cc)
shows-changing _ m index sight d b is = tt

-- what is listed is so beside any events
frames-beside : (m : AtMachine) (index : Index) (seen : Option Sight) (d : Data) (found : Option ℕ) (b : Answer) (notes : Vec Note Global) →
    ListsFor m index seen d found b → ListsFor m index seen d found (record b { notes = notes })
frames-beside m index seen d None b notes h = h
frames-beside m index None d (Some k) b notes h = h
frames-beside m index (Some sight) d (Some k) b notes h = h

scopes-beside : (m : AtMachine) (index : Index) (seen : Option Sight) (named : Option ℕ) (b : Answer) (notes : Vec Note Global) →
    ListsScopesOf m index seen named b → ListsScopesOf m index seen named (record b { notes = notes })
scopes-beside m index seen None b notes h = h
scopes-beside m index seen (Some id) b notes h = h

targets-beside : (m : AtMachine) (index : Index) (seen : Option Sight) (named : Option ℕ) (b : Answer) (notes : Vec Note Global) →
    ListsTargetsOf m index seen named b → ListsTargetsOf m index seen named (record b { notes = notes })
targets-beside m index seen None b notes h = h
targets-beside m index seen (Some id) b notes h = h

pub shows_beside : (kind : Kind) (m : AtMachine) (index : Index) (sight : Option Sight) (d : Data) (b : Answer) (notes : Vec Note Global) →
    ShowsBy kind m index sight d b → ShowsBy kind m index sight d (record b { notes = notes })
shows_beside Kind.Threads m index sight d b notes h = h
shows_beside Kind.StackTrace m index sight d b notes h = λ full.
    frames-beside m index sight d (branch_named (branch_count m.checked) (number_named (codes "threadId") d)) b notes (h full)
shows_beside Kind.Scopes m index sight d b notes h = λ full.
    scopes-beside m index sight (number_named (codes "frameId") d) b notes (h full)
shows_beside Kind.Variables m index sight d b notes h = h
shows_beside Kind.StepInTargets m index sight d b notes h = λ full.
    targets-beside m index sight (number_named (codes "frameId") d) b notes (h full)
shows_beside _ m index sight d b notes h = h

-- a request of a known kind is answered as that is
pub answers_as : (kind known : Kind) (x y : Outcome) → kind ≡ known → AnswersBy known x y → AnswersBy kind x y
answers_as kind known x y is h = subst (λ (k : Kind). AnswersBy k x y) (sym is) h

-- one that is not known, or not any more, is refused
pub answers_unknown : (kind : Kind) (x y : Outcome) → (kind ≡ Kind.Attach → ⊥) → (kind ≡ Kind.Launch → ⊥) → (kind ≡ Kind.Disconnect → ⊥) →
    RefusedAs 101 y → AnswersBy kind x y
answers_unknown Kind.Attach x y one two three h = absurd (one refl)
answers_unknown Kind.Launch x y one two three h = absurd (two refl)
answers_unknown Kind.Disconnect x y one two three h = absurd (three refl)
answers_unknown Kind.Other x y one two three h = h
answers_unknown _ x y one two three h = tt

-- of one that may change the desk more is said elsewhere
answers-changing : (kind : Kind) (x y : Outcome) → changes kind ≡ true → AnswersBy kind x y
answers-changing Kind.Attach x y is = absurd (cc)
answers-changing Kind.Launch x y is = absurd (cc)
answers-changing Kind.Disconnect x y is = absurd (cc)
answers-changing Kind.Other x y is = absurd (cc)
answers-changing _ x y is = tt

-- what is held back where it is over
pub held_over : (over held : Bool) → (over && held) ≡ true → over ≡ true
held_over true held h = refl
held_over false held h = absurd (cc)

pub held_is : (over active first : Bool) → (over && (active || first)) ≡ true → (active ≡ true) ⊎ (first ≡ true)
held_is true true first h = inl refl
held_is true false first h = inr h
held_is false active first h = absurd (cc)

pub not_held : (over active first : Bool) → (over && (active || first)) ≡ false → over ≡ true → (active ≡ false) × (first ≡ false)
not_held true true first h is = absurd (cc)
not_held true false first h is = (refl, h)
not_held false active first h is = absurd (cc)

-- and where it has not begun
pub early_waits : (begun active : Bool) → (not begun && active) ≡ true → begun ≡ false
early_waits true active h = absurd (cc)
early_waits false active h = refl

pub early_is : (begun active : Bool) → (not begun && active) ≡ true → active ≡ true
early_is true active h = absurd (cc)
early_is false active h = h

pub not_early : (begun active : Bool) → (not begun && active) ≡ false → begun ≡ false → active ≡ false
not_early true active h is = absurd (cc)
not_early false active h is = h

running-of : (over active first : Bool) → (over ≡ true → (active ≡ false) × (first ≡ false)) → first ≡ true → over ≡ false
running-of true active first h is = let no : true ≡ false = sym is ∙ (h refl).1 in absurd (cc)
running-of false active first h is = refl

pub asks_still : (kind : Kind) → asks kind ≡ true → moves kind ≡ false
asks_still Kind.ConfigurationDone is = refl
asks_still Kind.Evaluate is = refl
asks_still _ is = absurd (cc)

-- a line that does not move anything was not typed
untyped : (kind : Kind) (typed : Bool) → asks kind ≡ true → (kind ≡ Kind.ConfigurationDone → ⊥) → (moves kind || types kind typed) ≡ false → typed ≡ false
untyped Kind.ConfigurationDone typed is other none = absurd (other refl)
untyped Kind.Evaluate typed is other none = none
untyped _ typed is other none = absurd (cc)

-- what is shown does not matter
stays-unseen : {A : Type 0} (asked : Option A) (p q : Program) (b : Answer) → Stays asked p b q → Stays asked (unseen p) b (unseen q)
stays-unseen asked p q b h = (ap unseen h.0, h.1)

lines-unseen : (d : Data) (c : Command) (p q : Program) (b : Answer) (own : Bool) → PlacesAsked own c d p b q →
    PlacesAsked own c d (unseen p) b (unseen q)
lines-unseen d c p q b own h = elim h [
  | inl still ↦ inl (stays-unseen (lines_asked d) p q b still)
  | inr anew ↦ inr (
    anew.0,
    anew.1,
    record {
      placed = anew.2.placed;
      last = anew.2.last;
      elsewhere = anew.2.elsewhere;
      same = ap unseen anew.2.same;
    },
    anew.3,
  )
]

locates-unseen : (asked : Option ℕ) (d : Data) (c : Command) (p : Program) (b : Answer) → LocatesOn asked c d p b → LocatesOn asked c d (unseen p) b
locates-unseen None d c p b h = h
locates-unseen (Some line) d c p b h = h

-- what a list of lines tells, it tells beside any events
pub locates_beside : (asked : Option ℕ) (d : Data) (c : Command) (p : Program) (b : Answer) (notes : Vec Note Global) → LocatesOn asked c d p b →
    LocatesOn asked c d p
    (record { alloc = b.alloc; outcome = b.outcome; notes = notes; lacks = b.lacks; effect = b.effect })
locates_beside None d c p b notes h = h
locates_beside (Some line) d c p b notes h = h

by-unseen : (kind : Kind) (d : Data) (c : Command) (p q : Program) (b : Answer) → SetsBy kind d c p b q → SetsBy kind d c (unseen p) b (unseen q)
by-unseen Kind.SetBreakpoints d c p q b h = elim h [
  | inl other ↦ inl (other.0, ap unseen other.1, other.2)
  | inr set ↦ inr (set.0, lines-unseen d c p q b (is_own p (path_in d)) set.1)
]
by-unseen Kind.SetDataBreakpoints d c p q b h = elim h [
  | inl still ↦ inl (stays-unseen (items_named (codes "breakpoints") d) p q b still)
  | inr only ↦ inr (only.0, only.1, (only.2.0, ap unseen only.2.1), only.3)
]
by-unseen Kind.SetExceptionBreakpoints d c p q b h = ap unseen h
by-unseen Kind.Terminate d c p q b h = (ap unseen h.0, h.1)
by-unseen Kind.ConfigurationDone d c p q b h = elim h [
  | inl begins ↦ inl (begins.0, begins.1, ap unseen begins.2)
  | inr refused ↦ inr (refused.0, refused.1, ap unseen refused.2)
]
by-unseen Kind.BreakpointLocations d c p q b h = (ap unseen h.0, locates-unseen (number_named (codes "line") d) d c p b h.1)
by-unseen _ d c p q b h = ap unseen h

sets-unseen : (request : Request) (c : Command) (p q : Program) (b : Answer) → Sets request c p b q → Sets request c (unseen p) b (unseen q)
sets-unseen request c p q b h = by-unseen request.kind (view request.arguments) c p q b h

-- a kind that moves is no other
not-both : (kind known : Kind) → moves kind ≡ true → moves known ≡ false → kind ≡ known → ⊥
not-both kind known is none same =
    let no : true ≡ false = sym is ∙ ap (λ (k : Kind). moves k) same ∙ none in absurd (cc)

not-asked : (kind known : Kind) → asks kind ≡ false → asks known ≡ true → kind ≡ known → ⊥
not-asked kind known none is same =
    let no : true ≡ false = sym is ∙ sym (ap (λ (k : Kind). asks k) same) ∙ none in absurd (cc)

unchanging : (kind : Kind) → moves kind ≡ true → changes kind ≡ false → ⊥
unchanging kind is reads =
    let other : changes kind ≡ true = ap (λ (b : Bool). b || asks kind) is in
    let no : true ≡ false = sym other ∙ reads in absurd (cc)

-- what is shown or set is no move and no line
inactive : {X : Type 0} (kind : Kind) (typed : Bool) → moves kind ≡ false → asks kind ≡ false → (moves kind || types kind typed) ≡ true → X
inactive Kind.Evaluate typed still none active = absurd (cc)
inactive _ typed still none active = absurd (cc)

-- what is not held back may move
unheld : {X : Type 0} (p : Program) (request : Request) → (p.ended ≡ true → (is_active request ≡ false) × (begins request.kind ≡ false)) →
    (p.begun ≡ false → is_active request ≡ false) → Rests p → is_active request ≡ true → X
unheld p request over waits rests active = elim rests [
  | inl ended ↦ let no : true ≡ false = sym active ∙ (over ended).0 in absurd (cc)
  | inr waiting ↦ let no : true ≡ false = sym active ∙ waits waiting in absurd (cc)
]

done-or-same : (a b : Answer) (d d' : AtDesk) (before after : List Choice) (goes : Stop → ℕ → Type 0) → Runs a b d d' before after goes →
    (d' ≡ d) ⊎ (IsDone a.outcome → IsDone b.outcome)
done-or-same a b d d' before after goes h = elim h [ inl refused ↦ inl refused.2 | inr ends ↦ inr ends.2.done ]

-- a request that asks a thread to move
pub moves_goes : (l : Launched) (request : Request) (a b : Answer) (d' : AtDesk) (memo : Memo) → moves request.kind ≡ true →
    (l.program.ended ≡ true → (is_active request ≡ false) × (begins request.kind ≡ false)) →
    (l.program.begun ≡ false → is_active request ≡ false) → Led l.desk d' →
    Runs a b l.desk d' l.memo.seen.items memo.seen.items
    (λ (stop : Stop) (branch : ℕ). Steps l.program l.memo.seen.items memo.seen.items l.desk request.kind request stop branch d') →
    (IsDone a.outcome → IsRefusal b.outcome → IsDenied l.desk request) →
    LaunchedGoes l request a b (record { program = l.program; memo = memo; desk = d' })
moves_goes l request a b d' memo is over waits led goes denied =
    let active : is_active request ≡ true = ap (λ (m : Bool). m || types request.kind (is_typed request)) is in
    record {
      led = led;
      reads = λ reads. absurd (unchanging request.kind is reads);
      stays = λ ended. let no : true ≡ false = sym active ∙ (over ended).0 in absurd (cc);
      waits = λ waiting other. let no : true ≡ false = sym active ∙ waits waiting in absurd (cc);
      refused =
          done-or-same a b l.desk d' l.memo.seen.items memo.seen.items
          (λ (stop : Stop) (branch : ℕ). Steps l.program l.memo.seen.items memo.seen.items l.desk request.kind request stop branch d') goes;
      looks = λ same none. absurd (not-both request.kind Kind.Evaluate is refl same);
      moved = λ it. goes;
      denied = λ it done refused. inr (inr (denied done refused));
      begins = λ same. absurd (not-both request.kind Kind.ConfigurationDone is refl same);
      evaluates = λ same. absurd (not-both request.kind Kind.Evaluate is refl same);
      sets = sets-moving request l.desk.machine.checked.main (unseen l.program) b is;
      tells = λ reads. absurd (unchanging request.kind is reads);
      answers = answers-changing request.kind a.outcome b.outcome (ap (λ (m : Bool). m || asks request.kind) is);
      shows = (
        l.program.sight,
        λ seen. seen,
        shows-changing request.kind l.desk.machine l.program.index l.program.sight (view request.arguments) b
            (ap (λ (m : Bool). m || asks request.kind) is),
      );
      recalls = λ reads. absurd (unchanging request.kind is reads);
      held = λ rests active. unheld l.program request over waits rests active;
      sees = λ seen same. seen_still l.desk d' l.program.sight l.program.sight refl same seen;
    }

-- one that only reads the desk
pub look_goes : (l : Launched) (request : Request) (a b : Answer) (q : Program) → moves request.kind ≡ false → asks request.kind ≡ false →
    Sets request l.desk.machine.checked.main l.program b q → TellsBy request.kind (view request.arguments) l.program a q b →
    AnswersBy request.kind a.outcome b.outcome →
    ShowsBy request.kind l.desk.machine l.program.index l.program.sight (view request.arguments) b →
    LaunchedGoes l request a b (record { program = q; memo = l.memo; desk = l.desk })
look_goes l request a b q still none sets tells answers shows = record {
  led = led_nowhere l.desk;
  reads = λ reads. refl;
  stays = λ ended. refl;
  waits = λ waiting other. refl;
  refused = inl refl;
  looks = λ same typed. (refl, refl);
  moved = λ is. let no : true ≡ false = sym is ∙ still in absurd (cc);
  denied = λ is done refused. let no : true ≡ false = sym is ∙ still in absurd (cc);
  begins = λ same. absurd (not-asked request.kind Kind.ConfigurationDone none refl same);
  evaluates = λ same. absurd (not-asked request.kind Kind.Evaluate none refl same);
  sets = sets-unseen request l.desk.machine.checked.main l.program q b sets;
  tells = λ reads. tells-unseen request.kind (view request.arguments) l.program q a b tells;
  answers = answers;
  shows = (l.program.sight, λ seen. seen, shows);
  recalls = λ reads. refl;
  held = λ rests active. inactive request.kind (is_typed request) still none active;
  sees = λ seen same.
      seen_still l.desk l.desk l.program.sight q.sight (sight_set request l.desk.machine.checked.main l.program q b sets) refl seen;
}

-- one that is held back
held-goes : (l : Launched) (request : Request) (a b : Answer) → Sets request l.desk.machine.checked.main (unseen l.program) b (unseen l.program) →
    changes request.kind ≡ true → Rests l.program → (request.kind ≡ Kind.ConfigurationDone → l.program.ended ≡ true) → IsRefusal b.outcome → b.notes ≡ a.notes →
    LaunchedGoes l request a b l
held-goes l request a b sets changing why over refused same = record {
  led = led_nowhere l.desk;
  reads = λ reads. refl;
  stays = λ ended. refl;
  waits = λ waiting other. refl;
  refused = inl refl;
  looks = λ same typed. (refl, refl);
  moved = λ it. inl (refused, same, refl, refl);
  denied = λ it done no. elim why [ inl over ↦ inl over | inr waits ↦ inr (inl waits) ];
  begins = λ it. inl (refused, same, refl, inr (over it), refl);
  evaluates = λ it. (l.program.sight, λ seen. seen, inl ((refl, same), refl, inr (inl why)));
  sets = sets;
  tells = λ reads. let no : true ≡ false = sym changing ∙ reads in absurd (cc);
  answers = answers-changing request.kind a.outcome b.outcome changing;
  shows = (
    l.program.sight,
    λ seen. seen,
    shows-changing request.kind l.desk.machine l.program.index l.program.sight (view request.arguments) b changing,
  );
  recalls = λ reads. refl;
  held = λ rests active. (refused, same, refl);
  sees = λ seen stays. seen;
}

-- since it is over
pub over_goes : (l : Launched) (request : Request) (a b : Answer) → l.program.ended ≡ true →
    (is_active request ≡ true) ⊎ (begins request.kind ≡ true) → IsRefusal b.outcome → b.notes ≡ a.notes → LaunchedGoes l request a b l
over_goes l request a b ended is refused same = elim is [
  | inl active ↦ held-goes l request a b
      (active-none request.kind (is_typed request) (view request.arguments) l.desk.machine.checked.main (unseen l.program) b active)
      (active-changes request.kind (is_typed request) active) (inl ended) (λ it. ended) refused same
  | inr first ↦ held-goes l request a b
      (first-none request.kind (view request.arguments) l.desk.machine.checked.main (unseen l.program) b first ended refused)
      (first-changes request.kind first) (inl ended) (λ it. ended) refused same
]

-- since it has not begun
pub early_goes : (l : Launched) (request : Request) (a b : Answer) → l.program.begun ≡ false → is_active request ≡ true → IsRefusal b.outcome →
    b.notes ≡ a.notes → LaunchedGoes l request a b l
early_goes l request a b waits active refused same =
    held-goes l request a b
    (active-none request.kind (is_typed request) (view request.arguments) l.desk.machine.checked.main (unseen l.program) b active)
    (active-changes request.kind (is_typed request) active) (inr waits)
    (λ it. let no : true ≡ false = sym active ∙ ap (λ (k : Kind). moves k || types k (is_typed request)) it in absurd (cc)) refused same

-- an expression
pub typed_goes : (l : Launched) (request : Request) (a b : Answer) (d' : AtDesk) (memo : Memo) → asks request.kind ≡ true →
    (request.kind ≡ Kind.ConfigurationDone → ⊥) →
    (l.program.ended ≡ true → (is_active request ≡ false) × (begins request.kind ≡ false)) →
    (l.program.begun ≡ false → is_active request ≡ false) → Led l.desk d' →
    (is_typed request ≡ false → (d' ≡ l.desk) × (memo.seen.items ≡ l.memo.seen.items)) →
    Evaluates l.program request l.desk l.memo.seen.items a b d' memo.seen.items → (d' ≡ l.desk) ⊎ (IsDone a.outcome → IsDone b.outcome) →
    LaunchedGoes l request a b (record { program = l.program; memo = memo; desk = d' })
typed_goes l request a b d' memo asking other over waits led looks does refused =
    let still = asks_still request.kind asking in
    let changing : changes request.kind ≡ true = ap (λ (m : Bool). m || asks request.kind) still ∙ asking in
    record {
      led = led;
      reads = λ reads. let no : true ≡ false = sym changing ∙ reads in absurd (cc);
      stays = λ ended. (looks (untyped request.kind (is_typed request) asking other (over ended).0)).0;
      waits = λ waiting first. (looks (untyped request.kind (is_typed request) asking other (waits waiting))).0;
      refused = refused;
      looks = λ same none. looks none;
      moved = λ is. let no : true ≡ false = sym is ∙ still in absurd (cc);
      denied = λ is done no. let wrong : true ≡ false = sym is ∙ still in absurd (cc);
      begins = λ same. absurd (other same);
      evaluates = λ same. (l.program.sight, λ seen. seen, does);
      sets = typed-none request.kind (view request.arguments) l.desk.machine.checked.main (unseen l.program) b asking other;
      tells = λ reads. let no : true ≡ false = sym changing ∙ reads in absurd (cc);
      answers = answers-changing request.kind a.outcome b.outcome changing;
      shows = (
        l.program.sight,
        λ seen. seen,
        shows-changing request.kind l.desk.machine l.program.index l.program.sight (view request.arguments) b changing,
      );
      recalls = λ reads. let no : true ≡ false = sym changing ∙ reads in absurd (cc);
      held = λ rests active. unheld l.program request over waits rests active;
      sees = λ seen same. seen_still l.desk d' l.program.sight l.program.sight refl same seen;
    }

-- how the first request to run begins, or is refused
abbrev pub BeginsOrNot : Launched → Launched → Answer → Answer → Type 0
BeginsOrNot l m a b =
    (IsRefusal b.outcome × (b.notes ≡ a.notes) × (m ≡ l) × (l.program.begun ≡ true))
    ⊎ (Begins l m a b × (l.program.begun ≡ false) × (m.program ≡ begun l.program))

begun-refused : (l m : Launched) (a b : Answer) → BeginsOrNot l m a b →
    (IsRefusal b.outcome × (b.notes ≡ a.notes) × (m.desk ≡ l.desk) × HasBegun l.program
    × (m.memo.seen.items ≡ l.memo.seen.items))
    ⊎ Begins l m a b
begun-refused l m a b h = elim h [
  | inl refused ↦ inl (
    refused.0,
    refused.1,
    ap (λ (x : Launched). x.desk) refused.2,
    inl refused.3,
    ap (λ (x : Launched). x.memo.seen.items) refused.2,
  )
  | inr begins ↦ inr begins.0
]

begun-done : (l m : Launched) (a b : Answer) → BeginsOrNot l m a b → (m.desk ≡ l.desk) ⊎ (IsDone a.outcome → IsDone b.outcome)
begun-done l m a b h = elim h [
  | inl refused ↦ inl (ap (λ (x : Launched). x.desk) refused.2)
  | inr begins ↦ elim begins.0 [ inl stops ↦ inr stops.2.done | inr ends ↦ inr ends.1.done ]
]

begun-sets : (l m : Launched) (a b : Answer) → l.program.ended ≡ false → BeginsOrNot l m a b → SetsBegun l.program b m.program
begun-sets l m a b running h = elim h [
  | inl refused ↦ inr (inl refused.3, refused.0, ap (λ (x : Launched). x.program) refused.2)
  | inr begins ↦ inl (begins.1, running, begins.2)
]

begun-sight : (l m : Launched) (a b : Answer) → BeginsOrNot l m a b → m.program.sight ≡ l.program.sight
begun-sight l m a b h = elim h [
  | inl refused ↦ ap (λ (x : Launched). x.program.sight) refused.2
  | inr begins ↦ ap (λ (x : Program). x.sight) begins.2
]

pub begins_goes : (l m : Launched) (request : Request) (a b : Answer) → request.kind ≡ Kind.ConfigurationDone →
    (l.program.ended ≡ true → (is_active request ≡ false) × (begins request.kind ≡ false)) → Led l.desk m.desk → BeginsOrNot l m a b →
    LaunchedGoes l request a b m
begins_goes l m request a b is over led h =
    let changing : changes request.kind ≡ true = ap (λ (k : Kind). changes k) is in
    let running = running-of l.program.ended (is_active request) (begins request.kind) over (ap (λ (k : Kind). begins k) is) in
    record {
      led = led;
      reads = λ reads. let no : true ≡ false = sym changing ∙ reads in absurd (cc);
      stays = λ ended. let no : true ≡ false = sym ended ∙ running in absurd (cc);
      waits = λ waiting other. absurd (other is);
      refused = begun-done l m a b h;
      looks = λ same none. let no : Kind.ConfigurationDone ≡ Kind.Evaluate = sym is ∙ same in absurd (cc);
      moved = λ it. let no : true ≡ false = sym it ∙ ap (λ (k : Kind). moves k) is in absurd (cc);
      denied = λ it done refused. let no : true ≡ false = sym it ∙ ap (λ (k : Kind). moves k) is in absurd (cc);
      begins = λ it. begun-refused l m a b h;
      evaluates = λ same. let no : Kind.ConfigurationDone ≡ Kind.Evaluate = sym is ∙ same in absurd (cc);
      sets =
          sets-unseen request l.desk.machine.checked.main l.program m.program b
          (sets_as request Kind.ConfigurationDone l.desk.machine.checked.main l.program m.program b is (begun-sets l m a b running h));
      tells = λ reads. let no : true ≡ false = sym changing ∙ reads in absurd (cc);
      answers = answers-changing request.kind a.outcome b.outcome changing;
      shows = (
        l.program.sight,
        λ seen. seen,
        shows-changing request.kind l.desk.machine l.program.index l.program.sight (view request.arguments) b changing,
      );
      recalls = λ reads. let no : true ≡ false = sym changing ∙ reads in absurd (cc);
      held = λ rests active.
          let no : true ≡ false = sym active ∙ ap (λ (k : Kind). moves k || types k (is_typed request)) is in absurd (cc);
      sees = λ seen same. seen_still l.desk m.desk l.program.sight m.program.sight (begun-sight l m a b h) same seen;
    }

-- what is shown of the state may be made anew, and what was refused before does not matter
abbrev with-seen : Launched → Vec Choice Global → Launched
with-seen m seen = record m { memo = record m.memo { seen = seen } }

goes-seen : (l m : Launched) (request : Request) (a b : Answer) (seen : Vec Choice Global) → seen ≡ m.memo.seen → LaunchedGoes l request a b m →
    LaunchedGoes l request a b (with-seen m seen)
goes-seen l m request a b seen same h = subst (λ (v : Vec Choice Global). LaunchedGoes l request a b (with-seen m v)) (sym same) h

pub goes_unseen : (l m : Launched) (request : Request) (a b : Answer) (s t : Option Sight) (memo : Memo) → memo.seen ≡ m.memo.seen →
    (IsSeen l → IsSeen (seen_as l s)) → (IsSeen l → IsSeen (seen_as m t)) → LaunchedGoes (seen_as l s) request a b m →
    LaunchedGoes l request a b (record (seen_as m t) { memo = memo })
goes_unseen l m request a b s t memo same kept all goes =
    let h = goes-seen (seen_as l s) m request a b memo.seen same goes in
    record {
      led = h.led;
      reads = h.reads;
      stays = h.stays;
      waits = h.waits;
      refused = h.refused;
      looks = h.looks;
      moved = h.moved;
      denied = h.denied;
      begins = h.begins;
      evaluates = λ is. let it = h.evaluates is in (it.0, λ seen. it.1 (kept seen), it.2);
      sets = h.sets;
      tells = h.tells;
      answers = h.answers;
      shows = let it = h.shows in (it.0, λ seen. it.1 (kept seen), it.2);
      recalls = h.recalls;
      held = h.held;
      sees = λ seen same. all seen;
    }

-- the branch of a request's thread
pub thread_found : (d : AtDesk) (m : AtMachine) (request : Request) (found : Option ℕ) → m ≡ d.machine
    → found ≡ branch_named (branch_count m.checked) (number_named (codes "threadId") (view request.arguments)) → thread_of d request ≡ found
thread_found d m request found same is =
    sym (is ∙ ap (λ (n : AtMachine). branch_named (branch_count n.checked) (number_named (codes "threadId") (view request.arguments))) same)

-- what comes of a request that names a branch
pub in_thread : (Q : Option ℕ → Type 0) (d : AtDesk) (m : AtMachine) (request : Request) (found : Option ℕ) (k : ℕ) → m ≡ d.machine
    → found ≡ branch_named (branch_count m.checked) (number_named (codes "threadId") (view request.arguments)) → found ≡ Some k
    → Q (Some k) → Q (thread_of d request)
in_thread Q d m request found k same is some h = subst Q (sym (thread_found d m request found same is ∙ some)) h

-- and of one that names none
pub in_no_thread : (Q : Option ℕ → Type 0) (d : AtDesk) (m : AtMachine) (request : Request) (found : Option ℕ) → m ≡ d.machine
    → found ≡ branch_named (branch_count m.checked) (number_named (codes "threadId") (view request.arguments)) → found ≡ None
    → Q None → Q (thread_of d request)
in_no_thread Q d m request found same is none h = subst Q (sym (thread_found d m request found same is ∙ none)) h

-- a request to run that names a branch
pub runs_in_thread : (a m b : Answer) (d d' : AtDesk) (before after : List Choice) (machine : AtMachine) (request : Request) (found : Option ℕ) (k : ℕ)
    (goes : Option ℕ → Stop → ℕ → Type 0) → machine ≡ d.machine →
    found ≡ branch_named (branch_count machine.checked) (number_named (codes "threadId") (view request.arguments)) → found ≡ Some k →
    m ≡ a → Runs m b d d' before after (goes (Some k)) → Runs a b d d' before after (goes (thread_of d request))
runs_in_thread a m b d d' before after machine request found k goes same is some answer h =
    runs_after a m b d d' before after (goes (thread_of d request)) answer
    (in_thread (λ (o : Option ℕ). Runs m b d d' before after (goes o)) d machine request found k same is some h)

-- what comes of a request that is no move where nothing changes
same : (x : Option Launched) (request : Request) (a b : Answer) → (request.kind ≡ Kind.Restart → ⊥) → moves request.kind ≡ false →
    asks request.kind ≡ false → ((p : Program) → TellsBy request.kind (view request.arguments) p a p b) →
    AnswersBy request.kind a.outcome b.outcome →
    ((l : Launched) → ShowsBy request.kind l.desk.machine l.program.index l.program.sight (view request.arguments) b) →
    ((l : Launched) → x ≡ Some l → Sets request l.desk.machine.checked.main l.program b l.program) → GoesOn x request a b x
same None request a b other still none tells answers shows sets = tt
same (Some l) request a b other still none tells answers shows sets =
    (other, look_goes l request a b l.program still none (sets l refl) (tells l.program) answers (shows l), λ seen. seen)

-- it goes on, or is begun anew
pub goes_anew : (reads : List ℕ → Option (List ℕ) → Type 0) (x y : Option Launched) (l m : Launched) (request : Request) (a b : Answer) →
    x ≡ Some l → y ≡ Some m →
    ((request.kind ≡ Kind.Restart) × Restarts reads l request a b m)
    ⊎ ((request.kind ≡ Kind.Restart → ⊥) × LaunchedGoes l request a b m × (IsSeen l → IsSeen m)) →
    Goes reads x request a b y
goes_anew reads x y l m request a b is there h =
    let to : Goes reads (Some l) request a b (Some m) = elim h [ inl anew ↦ inr anew | inr on ↦ inl on ] in
    subst (λ (z : Option Launched). Goes reads z request a b y) (sym is)
    (subst (λ (z : Option Launched). Goes reads (Some l) request a b z) (sym there) to)

-- nothing changes by a request of this kind
pub goes_nowhere : (x y : Option Launched) (request : Request) (a b : Answer) (known : Kind) → request.kind ≡ known → (known ≡ Kind.Restart → ⊥) →
    moves known ≡ false → asks known ≡ false → ((d : Data) (p : Program) → TellsBy known d p a p b) → AnswersBy known a.outcome b.outcome →
    ((m : AtMachine) (index : Index) (sight : Option Sight) (d : Data) → ShowsBy known m index sight d b) →
    ((d : Data) (c : Command) (p : Program) → SetsBy known d c p b p) → y ≡ x → GoesOn x request a b y
goes_nowhere x y request a b known is other still none tells answers shows sets there =
    subst (λ (z : Option Launched). GoesOn x request a b z) (sym there)
    (same x request a b (λ restart. other (sym is ∙ restart)) (ap (λ (k : Kind). moves k) is ∙ still) (ap (λ (k : Kind). asks k) is ∙ none)
    (λ p. tells_as request.kind known (view request.arguments) p p a b is (tells (view request.arguments) p))
    (answers_as request.kind known a.outcome b.outcome is answers)
    (λ l. shows_as request.kind known l.desk.machine l.program.index l.program.sight (view request.arguments) b is
    (shows l.desk.machine l.program.index l.program.sight (view request.arguments)))
    (λ l at. sets_as request known l.desk.machine.checked.main l.program l.program b is
    (sets (view request.arguments) l.desk.machine.checked.main l.program)))

-- what is launched is sound
pub sound_of : (x : Option Launched) (l : Launched) → x ≡ Some l → Headline (execution l.desk) → IsSound x
sound_of x l is h = let to : IsSound (Some l) = h in subst (λ (z : Option Launched). IsSound z) (sym is) to

pub sound_none : (x : Option Launched) → x ≡ None → IsSound x
sound_none x is = let to : IsSound None = tt in subst (λ (z : Option Launched). IsSound z) (sym is) to
