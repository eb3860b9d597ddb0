-- Steps forth, and runs.
use Rattle.std.proofs.Common.{◌≡◌, ◌∙◌, ℕ, ◌-◌, List, [], Option, None, Some, Bool, true, false, inl, inr, ap, subst, refl, sym, codes}
use Rattle.std.specs.Bool.{MatchBool}
use Rattle.std.specs.Prelude.{slice_get, unwrap_or}
use Rattle.serde_json.specs.View.{view}
use Rattle.system.specs.declared.system.System.{System}
use Rattle.system_places.specs.SystemBranches.{branch_at, branch_count}
use Rattle.runs.specs.Choices.{choice_of}
use Rattle.runs.specs.Events.{acting}
use Rattle.runs.specs.Live.{FirstDependent, IsLive, Live, LiveAt}
use Rattle.runs.specs.Object.{Reaches}
use Rattle.runs.specs.Ready.{ReadyList}
use Rattle.runs.specs.Steps.{State}
use Rattle.runs.specs.declared.command.Refusal.{Refusal}
use Rattle.runs.specs.declared.command.Refusal.TheVariants.{Memory, NeededBy}
use Rattle.runs.specs.declared.event.Choice.{Choice}
use Rattle.runs.specs.declared.event.Event.{Event}
use Rattle.runs.proofs.public.Options.{some-injective}
use Rattle.machine.proofs.public.Standing.{live-at}
use Rattle.machine.specs.AtMachine.{AtMachine, object}
use Rattle.locked_execution.specs.AtDesk.{AtDesk}
use Rattle.locked_execution.specs.declared.command.Reply.{Reply}
use Rattle.dap_messages.specs.Arguments.{is_single, number_named}
use Rattle.dap_messages.specs.declared.answer.Answer.{Answer}
use Rattle.dap_messages.specs.declared.kind.Kind.{Kind}
use Rattle.dap_messages.specs.declared.request.Request.{Request}
use Rattle.dap_messages.specs.declared.told.Stop.{Stop}
use Rattle.dap_moves.specs.Moves.{targets}
use Rattle.dap_moves.specs.Running.{RunsFrom, Sees}
use Rattle.dap_moves.specs.TakingBack.{GoesBack}
use Rattle.dap_moves.specs.declared.back.Back.{Back}
use Rattle.dap_moves.specs.declared.run.Ended.{Ended}
use Rattle.dap_moves.specs.declared.run.Plan.{Plan}
use Rattle.dap_views.specs.declared.watched.Watched.{Watched}
use Rattle.dap_moves.specs.declared.taken_back.Rewound.{Rewound}
use Rattle.dap_threads.specs.Threads.{branch_named}
use Rattle.dap_views.specs.declared.program.Program.{Program}
use Rattle.dap_requests.specs.Back.{Reverses, ReversesFor, ReversesIn, SeenBehind, StandsBack, stands_behind, stop_back, stop_behind}
use Rattle.dap_requests.specs.Forth.{AreSeen, Going, IsPlanned, RunsBy, RunsFree, SeenAfter, SeesStep, StepsForth, Takes, alone, stands_at, stop_at, stop_of, target_of}
use Rattle.dap_requests.specs.Said.{Runs, TellsOutputs, TellsStop}
use Rattle.dap_requests.proofs.public.Saying.{runs_on, stops_on}

-- what was looked for in the desk's own system and list
here : (d : AtDesk) (system : System) (es fs : List Event) (k n : ℕ) (o : Option Event) → system ≡ d.machine.checked → fs ≡ es →
    o ≡ slice_get (targets system k fs) n → o ≡ slice_get (targets d.machine.checked k es) n
here d system es fs k n o same list found =
    found
    ∙ ap (λ (x : System). slice_get (targets x k fs) n) same
    ∙ ap (λ (ys : List Event). slice_get (targets d.machine.checked k ys) n) list

-- the step that was found is asked for
pub takes_found : (x : Bool) (d d' : AtDesk) (a b : Answer) (system : System) (es fs : List Event) (k n : ℕ) (e : Event) (before after : List Choice) →
    system ≡ d.machine.checked → fs ≡ es → Some e ≡ slice_get (targets system k fs) n →
    (stop : Stop) × TellsStop a stop k b × Takes x d (Some e) before stop d' after →
    (stop : Stop) × TellsStop a stop k b × Takes x d (slice_get (targets d.machine.checked k es) n) before stop d' after
takes_found x d d' a b system es fs k n e before after same list found h =
    (h.0, h.1, subst (λ (o : Option Event). Takes x d o before h.0 d' after) (here d system es fs k n (Some e) same list found) h.2)

-- there is none
pub takes_none : (x : Bool) (d : AtDesk) (a b : Answer) (system : System) (es fs : List Event) (k n : ℕ) (before : List Choice) →
    system ≡ d.machine.checked → fs ≡ es → None ≡ slice_get (targets system k fs) n → TellsStop a Stop.Stepped k b →
    (stop : Stop) × TellsStop a stop k b × Takes x d (slice_get (targets d.machine.checked k es) n) before stop d before
takes_none x d a b system es fs k n before same list found h = (
  Stop.Stepped,
  h,
  subst (λ (o : Option Event). Takes x d o before Stop.Stepped d before) (here d system es fs k n None same list found) (refl, refl, refl),
)

-- of the events that are ready
pub forth_listed : (x : Bool) (d d' : AtDesk) (a b : Answer) (m : AtMachine) (es : List Event) (k n : ℕ) (before after : List Choice) → m ≡ d.machine →
    ((T : State) × Reaches (object m) T × ReadyList T es) →
    (stop : Stop) × TellsStop a stop k b × Takes x d (slice_get (targets d.machine.checked k es) n) before stop d' after →
    (stop : Stop) × TellsStop a stop k b × StepsForth x d k n before stop d' after
forth_listed x d d' a b m es k n before after same ready h =
    let there = subst (λ (y : AtMachine). (T : State) × Reaches (object y) T × ReadyList T es) same ready in
    (h.0, h.1, inl (there.0, es, there.1, there.2, h.2))

-- there was no memory to look
pub forth_nowhere : (x : Bool) (d : AtDesk) (a b : Answer) (k n : ℕ) (before after : List Choice) → after ≡ before →
    TellsStop a (Stop.Refused 1 x) k b → (stop : Stop) × TellsStop a stop k b × StepsForth x d k n before stop d after
forth_nowhere x d a b k n before after kept h = (Stop.Refused 1 x, h, inr (refl, refl, kept))

-- the step that a request asks for
pub runs_target : (x : Bool) (a m b : Answer) (d d' : AtDesk) (k n target : ℕ) (before after : List Choice) → m ≡ a → n ≡ target →
    (stop : Stop) × TellsStop m stop k b × StepsForth x d k n before stop d' after →
    Runs a b d d' before after (λ (stop : Stop) (there : ℕ). (there ≡ k) × StepsForth x d k target before stop d' after)
runs_target x a m b d d' k n target before after same is h =
    runs_on a m b d d' before after (λ (stop : Stop) (there : ℕ). (there ≡ k) × StepsForth x d k target before stop d' after) same
    (h.0, k, h.1, (refl, subst (λ (y : ℕ). StepsForth x d k y before h.0 d' after) is h.2))

pub target_other : (kind : Kind) (named : Option ℕ) → (kind ≡ Kind.StepIn → ⊥) → 0 ≡ target_of kind named
target_other Kind.StepIn named other = absurd (other refl)
target_other _ named other = refl

pub target_this : (kind : Kind) (named : Option ℕ) (n : ℕ) → kind ≡ Kind.StepIn → Some n ≡ named → n - 1 ≡ target_of kind named
target_this kind named n is some =
    subst (λ (o : Option ℕ). n - 1 ≡ target_of kind o) some
    (subst (λ (k : Kind). n - 1 ≡ target_of k (Some n)) (sym is) refl)

pub target_none : (kind : Kind) (named : Option ℕ) → kind ≡ Kind.StepIn → None ≡ named → 0 ≡ target_of kind named
target_none kind named is none =
    subst (λ (o : Option ℕ). 0 ≡ target_of kind o) none
    (subst (λ (k : Kind). 0 ≡ target_of k None) (sym is) refl)

-- a run
pub runs_by : (going : Going) (k : Option ℕ) (d d' : AtDesk) (before seen after : List Choice) (plan : Plan) (ended : Ended) → IsPlanned going k plan →
    AreSeen d k before seen → RunsFrom plan seen d d' ended after → RunsBy going k d before (stop_at going.excepts ended) (stands_at k ended) d' after
runs_by going k d d' before seen after plan ended planned are runs =
    inl (record { plan = plan; ended = ended; seen = seen; planned = planned; are = are; runs = runs; told = refl; stands = refl })

-- there was no memory to begin
pub runs_not : (going : Going) (k : Option ℕ) (d : AtDesk) (before after : List Choice) (branch : ℕ) → branch ≡ unwrap_or k 0 → after ≡ before →
    RunsBy going k d before (stop_at going.excepts (Ended.Refused branch Memory)) (stands_at k (Ended.Refused branch Memory)) d after
runs_not going k d before after branch first same = inr (refl, first, refl, same)

-- steps before which a run has stood already
pub seen_whole : (d : AtDesk) (k : ℕ) (m : AtMachine) (system : System) (es fs : List Event) (o : Option Event) (before after : List Choice) →
    d.machine ≡ m → system ≡ m.checked → fs ≡ es → ((T : State) × Reaches (object m) T × ReadyList T es) → o ≡ slice_get (targets system k fs) 0 →
    SeesStep o before after → AreSeen d (Some k) before after
seen_whole d k m system es fs o before after same checked list ready found sees =
    let there = subst (λ (x : AtMachine). (T : State) × Reaches (object x) T × ReadyList T es) (sym same) ready in
    let own : system ≡ d.machine.checked = checked ∙ sym (ap (λ (x : AtMachine). x.checked) same) in
    (there.0, es, there.1, there.2, subst (λ (x : Option Event). SeesStep x before after) (here d system es fs k 0 o own list found) sees)

-- the first of the branch, where there was memory for it
pub seen_first : (b : Bool) (k : ℕ) (m : AtMachine) (system : System) (es fs : List Event) (e : Event) (before after : List Choice) →
    system ≡ m.checked → fs ≡ es → ((T : State) × Reaches (object m) T × ReadyList T es) → Some e ≡ slice_get (targets system k fs) 0 →
    Sees b before (choice_of e) after → MatchBool b ((d : AtDesk) → d.machine ≡ m → AreSeen d (Some k) before after) (after ≡ before)
seen_first true k m system es fs e before after checked list ready found sees =
    λ d same. seen_whole d k m system es fs (Some e) before after same checked list ready found sees
seen_first false k m system es fs e before after checked list ready found sees = sees

-- a step that was not refused
pub stop_other : (x : Bool) (reply : Reply) → ((why : Refusal) → reply ≡ Reply.Refused why → ⊥) → stop_of x reply ≡ Stop.Stepped
stop_other x (Reply.Refused why) other = absurd (other why refl)
stop_other x _ other = refl

-- the same `stopped`
pub tells_as : (a b : Answer) (stop other : Stop) (branch : ℕ) → stop ≡ other → TellsStop a stop branch b → TellsStop a other branch b
tells_as a b stop other branch same h = subst (λ (s : Stop). TellsStop a s branch b) same h

-- where a run ended so
pub tells_ended : (x : Bool) (a b : Answer) (k : Option ℕ) (branch : ℕ) (known ended : Ended) → ended ≡ known → branch ≡ stands_at k known →
    TellsStop a (stop_at x known) branch b → TellsStop a (stop_at x ended) (stands_at k ended) b
tells_ended x a b k branch known ended is there h =
    subst (λ (e : Ended). TellsStop a (stop_at x e) (stands_at k e) b) (sym is) (subst (λ (n : ℕ). TellsStop a (stop_at x known) n b) there h)

pub tells_rewound : (a b : Answer) (k branch : ℕ) (known ended : Rewound) → ended ≡ known → branch ≡ stands_behind k known →
    TellsStop a (stop_behind known) branch b → TellsStop a (stop_behind ended) (stands_behind k ended) b
tells_rewound a b k branch known ended is there h =
    subst (λ (e : Rewound). TellsStop a (stop_behind e) (stands_behind k e) b) (sym is)
    (subst (λ (n : ℕ). TellsStop a (stop_behind known) n b) there h)

-- nothing is kept in mind behind a step back that was not refused
pub seen_after : (reply : Reply) (before after : List Choice) → ((why : Refusal) → reply ≡ Reply.Refused why → ⊥) → after ≡ [] →
    SeenAfter reply before after
seen_after (Reply.Refused why) before after other none = absurd (other why refl)
seen_after _ before after other none = none

pub seen_cleared : (t : ℕ) (reply : Reply) (before after : List Choice) → ((why : Refusal) → reply ≡ Reply.Refused why → ⊥) → after ≡ [] →
    SeenBehind (Back.Asked t reply) before after
seen_cleared t reply before after other none = seen_after reply before after other none

-- a run back of the same branch, which the same lines stop and the same that is watched
pub goes_back_by : (only only' : Option ℕ) (lines lines' : List ℕ) (watched watched' : List Watched) (d d' : AtDesk) (ended : Rewound) (kept : List Choice) →
    only ≡ only' → lines ≡ lines' → watched ≡ watched' → GoesBack only lines watched d d' ended kept → GoesBack only' lines' watched' d d' ended kept
goes_back_by only only' lines lines' watched watched' d d' ended kept branch stops looks h =
    subst (λ (o : Option ℕ). GoesBack o lines' watched' d d' ended kept) branch
    (subst (λ (ls : List ℕ). GoesBack only ls watched' d d' ended kept) stops
    (subst (λ (ws : List Watched). GoesBack only lines ws d d' ended kept) looks h))

-- steps are taken back for the branch of the thread that the request names
pub reverses_thread : (program : Program) (d d' : AtDesk) (m : AtMachine) (request : Request) (found : Option ℕ) (k : ℕ) (single : Bool) (stop : Stop)
    (there : ℕ) (after : List Choice) → m ≡ d.machine →
    found ≡ branch_named (branch_count m.checked) (number_named (codes "threadId") (view request.arguments)) → found ≡ Some k →
    single ≡ is_single request → Reverses program k (alone k single) d stop there d' after → ReversesFor program d request stop there d' after
reverses_thread program d d' m request found k single stop there after same is some alone_is h =
    subst (λ (o : Option ℕ). ReversesIn program o request d stop there d' after)
    (sym some ∙ is ∙ ap (λ (y : AtMachine). branch_named (branch_count y.checked) (number_named (codes "threadId") (view request.arguments))) same)
    (subst (λ (b : Bool). Reverses program k (alone k b) d stop there d' after) alone_is h)

-- how it ended is told
pub run_told : (going : Going) (k : Option ℕ) (d d' : AtDesk) (before after : List Choice) (a m b : Answer) (ended : Ended) →
    TellsOutputs a m → TellsStop m (stop_at going.excepts ended) (stands_at k ended) b →
    RunsBy going k d before (stop_at going.excepts ended) (stands_at k ended) d' after →
    (stop : Stop) × (there : ℕ) × TellsStop a stop there b × RunsBy going k d before stop there d' after
run_told going k d d' before after a m b ended outputs stops h =
    let stop = stop_at going.excepts ended in
    let there = stands_at k ended in (stop, there, stops_on a m b stop there outputs stops, h)

-- a run that nothing stops
pub runs_free : (most : ℕ) (d d' : AtDesk) (plan : Plan) (seen kept : List Choice) (ended : Ended) → plan.first ≡ 0 → plan.only ≡ None → plan.lines.now ≡ [] →
    plan.watched.now ≡ [] → seen ≡ [] → plan.most ≡ most → RunsFrom plan seen d d' ended kept → RunsFree most d d'
runs_free most d d' plan seen kept ended first only lines watched none within h = record {
  plan = plan;
  ended = ended;
  first = first;
  only = only;
  lines = lines;
  watched = watched;
  within = within;
  kept = kept;
  runs = subst (λ (cs : List Choice). RunsFrom plan cs d d' ended kept) none h;
}

-- a body before it
pub run_behind : (going : Going) (k : Option ℕ) (d d' : AtDesk) (before after : List Choice) (a m b : Answer) → TellsOutputs a m →
    (stop : Stop) × (there : ℕ) × TellsStop m stop there b × RunsBy going k d before stop there d' after →
    (stop : Stop) × (there : ℕ) × TellsStop a stop there b × RunsBy going k d before stop there d' after
run_behind going k d d' before after a m b outputs h = (h.0, h.1, stops_on a m b h.0 h.1 outputs h.2, h.3)

-- the step on which the one that stays depends
abbrev needed-of : Refusal → ℕ
needed-of (NeededBy u) = u
needed-of _ = 0

-- it is live, since a step back that was refused leaves all as it was
pub needed_live : (d d' : AtDesk) (m : AtMachine) (t u : ℕ) (why : Refusal) → m ≡ d'.machine →
    (v : ℕ) × (why ≡ NeededBy v) × FirstDependent d.machine.live t v × (d' ≡ d) → why ≡ NeededBy u → IsLive m.live u
needed_live d d' m t u why same law is =
    let there : IsLive d.machine.live law.0 = (law.2.event, law.2.live) in
    let one : law.0 ≡ u = ap needed-of (sym law.1 ∙ is) in
    subst (λ (x : ℕ). IsLive m.live x) one
    (subst (λ (y : AtMachine). IsLive y.live law.0) (sym same) (subst (λ (x : AtDesk). IsLive x.machine.live law.0) (sym law.3) there))

-- the thread of the branch in which that acts
pub stands_needed : (m : AtMachine) (k t u : ℕ) (why : Refusal) (found : Option ℕ) (there : ℕ) → why ≡ NeededBy u →
    (e : Event) × LiveAt m.live u e × (found ≡ branch_at m.checked (acting e)) → there ≡ unwrap_or found k →
    StandsBack m k (Back.Asked t (Reply.Refused why)) there
stands_needed m k t u why found there is h same =
    let to : StandsBack m k (Back.Asked t (Reply.Refused (NeededBy u))) there =
    (h.0, h.1, same ∙ ap (λ (o : Option ℕ). unwrap_or o k) h.2) in
    subst (λ (w : Refusal). StandsBack m k (Back.Asked t (Reply.Refused w)) there) (sym is) to

-- or that of the branch itself
pub stands_own : (m : AtMachine) (k t : ℕ) (why : Refusal) → ((u : ℕ) → why ≡ NeededBy u → ⊥) → StandsBack m k (Back.Asked t (Reply.Refused why)) k
stands_own m k t (NeededBy u) other = absurd (other u refl)
stands_own m k t _ other = refl

pub stands_done : (m : AtMachine) (k t : ℕ) (reply : Reply) → ((why : Refusal) → reply ≡ Reply.Refused why → ⊥) → StandsBack m k (Back.Asked t reply) k
stands_done m k t (Reply.Refused why) other = absurd (other why refl)
stands_done m k t _ other = refl

-- a step that was taken back was not refused
pub undone_other : (reply : Reply) (t : ℕ) (e : Event) → reply ≡ Reply.Undone t e → (why : Refusal) → reply ≡ Reply.Refused why → ⊥
undone_other reply t e is why other = let both : Reply.Undone t e ≡ Reply.Refused why = sym is ∙ other in absurd (cc)

-- how a step back is told that was answered so
pub told_back : (x : Bool) (m : AtMachine) (a b : Answer) (k : ℕ) (known moved : Back) → moved ≡ known →
    (there : ℕ) × TellsStop a (stop_back x known) there b × StandsBack m k known there →
    (there : ℕ) × TellsStop a (stop_back x moved) there b × StandsBack m k moved there
told_back x m a b k known moved is h =
    subst (λ (y : Back). (there : ℕ) × TellsStop a (stop_back x y) there b × StandsBack m k y there) (sym is) h

-- the live step that was found by its ticket
pub found_live : (l : Live) (t u i : ℕ) (e f : Event) → slice_get l i ≡ Some (t, e) → slice_get l i ≡ Some (u, f) → LiveAt l t f
found_live l t u i e f one two =
    let same : (t, e) ≡ (u, f) = some-injective (t, e) (u, f) (sym one ∙ two) in
    subst (λ (x : ℕ). LiveAt l x f) (sym (ap (λ (p : ℕ × Event). p.0) same)) (live-at l u i f two)
