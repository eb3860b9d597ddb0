-- Runs, one step after another, and how they end.
use Rattle.std.proofs.Common.{◌≡◌, ℕ, ◌+◌, ◌<◌, ◌≤◌, List, [], ◌∷◌, ◌++◌, length, Bool, true, false, not, cond, Option, None, Some, inl, inr, refl, sym, ◌∙◌, ap, subst, arith}
use Rattle.std.specs.List.{filter}
use Rattle.std.specs.Prelude.{slice_get, unwrap_or}
use Rattle.std.proofs.lemmas.Bool.{cases_lt, eqb-true}
use Rattle.syntax.specs.Lists.{In}
use Rattle.system.specs.Expression.{is_in}
use Rattle.system_places.specs.SystemBranches.{branch_at, branch_count}
use Rattle.runs.specs.Choices.{choice_of}
use Rattle.runs.specs.Does.{Steps}
use Rattle.runs.specs.Events.{acting}
use Rattle.runs.specs.Object.{Reaches}
use Rattle.runs.specs.Ready.{ReadyList}
use Rattle.runs.specs.Steps.{State}
use Rattle.runs.specs.declared.event.Choice.{Choice}
use Rattle.runs.specs.declared.event.Event.{Event}
use Rattle.runs.specs.Commands as runs
use Rattle.runs.specs.declared.command.Refusal.{Refusal}
use Rattle.runs.specs.declared.command.Refusal.TheVariants.{Memory}
use Rattle.machine.specs.AtMachine.{AtMachine}
use Rattle.machine.specs.Branching.{AllKeptBack, Branched, acts_in, has_no_break, in_branch, is_branch, is_free, line_of}
use Rattle.machine.specs.declared.branch.BranchReply.{BranchReply}
use Rattle.machine.specs.Marks.{marks_behind}
use Rattle.locked_execution.specs.AtDesk.{AtDesk, breaks_of, execution}
use Rattle.locked_execution.specs.Performs.{Answers, branch_reply, session_reply}
use Rattle.locked_execution.specs.declared.command.Command.{Command}
use Rattle.locked_execution.specs.declared.command.Reply.{Reply}
use Rattle.locked_execution.proofs.public.Unchanged.{all-same}
use Rattle.dap_moves.specs.Moves.{StepsAt, quiet}
use Rattle.dap_moves.specs.Passing.{IsIdle, IsNext, MayAsk, MayGo, NoneSooner, StopsAt, TakesTurn, Turned, Turns, turn_behind}
use Rattle.dap_moves.specs.Running.{GoesYet, IsHeld, NoneWatched, NothingGoes, RunsFrom, StandsBefore, is_watched, stood}
use Rattle.dap_moves.specs.declared.run.Ended.{Ended}
use Rattle.dap_moves.specs.declared.run.Plan.{Plan}
use Rattle.dap_moves.specs.declared.run.Turn.{Turn}
use Rattle.dap_views.specs.declared.watched.Watched.{Watched}
use Rattle.dap_moves.specs.internal.Turning.{EndsAfter, Stands, StepsIfNext, TakesOne, Took, turn_of}
use Rattle.dap_moves.proofs.Passing.{acting_is_action}

-- a run that began nowhere has stood nowhere
stood-none : (ts : List Turned) → stood [] ts ≡ []
stood-none [] = refl
stood-none (t ∷ ts) = refl

-- one step more
turns-more : (d m : AtDesk) (only : Option ℕ) (turn : ℕ) (lines : List ℕ) (seen : List Choice) (ts : List Turned) (t : Turned) (behind : ℕ) →
    Turns d only turn lines seen ts m behind → TakesTurn m only behind lines (stood seen ts) t →
    Turns d only turn lines seen (ts ++ t ∷ []) t.left (turn_behind (branch_count m.machine.checked) t.branch)
turns-more d m only turn lines seen [] t behind h k = (
  subst (λ (n : ℕ). TakesTurn d only n lines seen t) h.1 (subst (λ (x : AtDesk). TakesTurn x only behind lines seen t) h.0 k),
  (refl, ap (λ (x : AtDesk). turn_behind (branch_count x.machine.checked) t.branch) h.0),
)
turns-more d m only turn lines seen (x ∷ ts) t behind h k =
    (h.0, turns-more x.left m only (turn_behind (branch_count d.machine.checked) x.branch) lines [] ts t behind h.1 (subst (λ (cs : List Choice). TakesTurn m only behind lines cs t) (sym (stood-none ts)) k))

turns-to : (d m d' : AtDesk) (only : Option ℕ) (turn : ℕ) (lines : List ℕ) (seen : List Choice) (ts : List Turned) (behind : ℕ) → m ≡ d' →
    Turns d only turn lines seen ts m behind → Turns d only turn lines seen ts d' behind
turns-to d m d' only turn lines seen ts behind same h = subst (λ (x : AtDesk). Turns d only turn lines seen ts x behind) same h

turns-at : (d d' : AtDesk) (only : Option ℕ) (turn : ℕ) (lines : List ℕ) (seen : List Choice) (ts : List Turned) (behind other : ℕ) → behind ≡ other →
    Turns d only turn lines seen ts d' behind → Turns d only turn lines seen ts d' other
turns-at d d' only turn lines seen ts behind other same h = subst (λ (n : ℕ). Turns d only turn lines seen ts d' n) same h

-- one step more that is not watched
none-more : (watched : List Watched) (ts : List Turned) (t : Turned) → NoneWatched watched ts → is_watched watched t.event ≡ false →
    NoneWatched watched (ts ++ t ∷ [])
none-more watched [] t h k = (k, tt)
none-more watched (x ∷ ts) t h k = (h.0, none-more watched ts t h.1 k)

-- behind a step it has stood nowhere
stood-more : (seen : List Choice) (ts : List Turned) (t : Turned) → stood seen (ts ++ t ∷ []) ≡ []
stood-more seen [] t = refl
stood-more seen (x ∷ ts) t = refl

length-more : (ts : List Turned) (t : Turned) → length (ts ++ t ∷ []) ≡ 1 + length ts
length-more [] t = refl
length-more (x ∷ ts) t = let rest = length-more ts t in omega arith

-- so many steps were taken, and it is the turn of branch `turn`
pub record Counted (d d' : AtDesk) (plan : Plan) (seen kept : List Choice) (taken turn : ℕ) : Type 0 where
  pub turns : List Turned
  pub turned : Turns d plan.only plan.first plan.lines.now seen turns d' turn
  pub none : NoneWatched plan.watched.now turns
  pub count : taken ≡ length turns
  pub stands : kept ≡ stood seen turns
  pub within : taken ≤ plan.most

pub counted-none : (d : AtDesk) (plan : Plan) (seen : List Choice) → Counted d d plan seen seen 0 plan.first
counted-none d plan seen =
    record { turns = []; turned = (refl, refl); none = tt; count = refl; stands = refl; within = omega arith }

-- the steps with one more
took-turns : (plan : Plan) (d m d' : AtDesk) (seen now : List Choice) (taken turn branch ticket : ℕ) (watched : Bool)
    (h : Counted d m plan seen now taken turn) (k : Took plan turn now m d' branch ticket watched) →
    Turns d plan.only plan.first plan.lines.now seen (h.turns ++ k.step ∷ []) d' (turn_behind (branch_count m.machine.checked) k.step.branch)
took-turns plan d m d' seen now taken turn branch ticket watched h k =
    turns-to d k.step.left d' plan.only plan.first plan.lines.now seen (h.turns ++ k.step ∷ [])
    (turn_behind (branch_count m.machine.checked) k.step.branch) k.left
    (turns-more d m plan.only plan.first plan.lines.now seen h.turns k.step turn h.turned
    (subst (λ (cs : List Choice). TakesTurn m plan.only turn plan.lines.now cs k.step) h.stands k.takes))

pub counted-more : (plan : Plan) (d m d' : AtDesk) (seen now kept : List Choice) (taken turn branch ticket count next : ℕ) (watched : Bool) →
    taken < plan.most → Counted d m plan seen now taken turn → Took plan turn now m d' branch ticket watched → watched ≡ false → kept ≡ [] →
    next ≡ turn_behind count branch → count ≡ branch_count m.machine.checked → Counted d d' plan seen kept (taken + 1) next
counted-more plan d m d' seen now kept taken turn branch ticket count next watched less h k off none behind is = record {
  turns = h.turns ++ k.step ∷ [];
  turned =
      turns-at d d' plan.only plan.first plan.lines.now seen (h.turns ++ k.step ∷ []) (turn_behind (branch_count m.machine.checked) k.step.branch) next
      (ap (λ (n : ℕ). turn_behind (branch_count m.machine.checked) n) k.branch_is ∙ ap (λ (n : ℕ). turn_behind n branch) (sym is) ∙ sym behind)
      (took-turns plan d m d' seen now taken turn branch ticket watched h k);
  none = none-more plan.watched.now h.turns k.step h.none (k.watched_is ∙ off);
  count = let more = length-more h.turns k.step in let before = h.count in omega arith;
  stands = none ∙ sym (stood-more seen h.turns k.step);
  within = omega (arith, less);
}

-- a run that ends with a turn, behind other steps
pub ends-behind : (plan : Plan) (d m d' : AtDesk) (seen now kept : List Choice) (taken turn : ℕ) (ended : Ended) → Counted d m plan seen now taken turn →
    TakesOne plan turn now m d' (Turn.Ended ended) kept → RunsFrom plan seen d d' ended kept
ends-behind plan d m d' seen now kept taken turn Ended.Nothing h k = record {
  turns = h.turns;
  turn = turn;
  turned = turns-to d m d' plan.only plan.first plan.lines.now seen h.turns turn (sym k.0) h.turned;
  within = let count = h.count in let few = h.within in omega arith;
  truly = (h.none, subst (λ (x : AtDesk). NothingGoes x plan.only) (sym k.0) k.1, k.2 ∙ h.stands);
}
ends-behind plan d m d' seen now kept taken turn (Ended.AtLine branch line) h k = record {
  turns = h.turns;
  turn = turn;
  turned = turns-to d m d' plan.only plan.first plan.lines.now seen h.turns turn (sym k.0) h.turned;
  within = let count = h.count in let few = h.within in omega arith;
  truly = (
    h.none,
    subst (λ (cs : List Choice). StandsBefore d' plan.only turn plan.lines.now cs branch line kept) h.stands
        (subst (λ (x : AtDesk). StandsBefore x plan.only turn plan.lines.now now branch line kept) (sym k.0) k.1),
  );
}
ends-behind plan d m d' seen now kept taken turn (Ended.Watched branch ticket) h k = absurd k
ends-behind plan d m d' seen now kept taken turn (Ended.Most branch) h k = absurd k
ends-behind plan d m d' seen now kept taken turn (Ended.Refused branch why) h k = record {
  turns = h.turns;
  turn = turn;
  turned = turns-to d m d' plan.only plan.first plan.lines.now seen h.turns turn (sym k.0) h.turned;
  within = let count = h.count in let few = h.within in omega arith;
  truly = (
    h.none,
    subst (λ (cs : List Choice). IsHeld d' plan.only turn plan.lines.now cs branch why) h.stands
        (subst (λ (x : AtDesk). IsHeld x plan.only turn plan.lines.now now branch why) (sym k.0) k.1),
    k.2 ∙ h.stands,
  );
}

-- one that ends with a step that is watched
pub ends-watched : (plan : Plan) (d m d' : AtDesk) (seen now kept : List Choice) (taken turn branch ticket : ℕ) (watched : Bool) → taken < plan.most →
    Counted d m plan seen now taken turn → Took plan turn now m d' branch ticket watched → watched ≡ true → kept ≡ [] →
    RunsFrom plan seen d d' (Ended.Watched branch ticket) kept
ends-watched plan d m d' seen now kept taken turn branch ticket watched less h k on none = record {
  turns = h.turns ++ k.step ∷ [];
  turn = turn_behind (branch_count m.machine.checked) k.step.branch;
  turned = took-turns plan d m d' seen now taken turn branch ticket watched h k;
  within = let more = length-more h.turns k.step in let count = h.count in omega (arith, less);
  truly = (
    (h.turns, k.step, refl, h.none, k.branch_is, k.ticket_is, k.watched_is ∙ on),
    none ∙ sym (stood-more seen h.turns k.step),
  );
}

-- one that took as many steps as there may be
pub ends-after : (plan : Plan) (d m d' : AtDesk) (seen now : List Choice) (taken turn : ℕ) (ended : Ended) → Counted d m plan seen now taken turn →
    plan.most ≤ taken → d' ≡ m → EndsAfter m plan.only turn ended → RunsFrom plan seen d d' ended now
ends-after plan d m d' seen now taken turn Ended.Nothing h many same why = record {
  turns = h.turns;
  turn = turn;
  turned = turns-to d m d' plan.only plan.first plan.lines.now seen h.turns turn (sym same) h.turned;
  within = let count = h.count in let few = h.within in omega arith;
  truly = (h.none, subst (λ (x : AtDesk). NothingGoes x plan.only) (sym same) why, h.stands);
}
ends-after plan d m d' seen now taken turn (Ended.AtLine branch line) h many same why = absurd why
ends-after plan d m d' seen now taken turn (Ended.Watched branch ticket) h many same why = absurd why
ends-after plan d m d' seen now taken turn (Ended.Most branch) h many same why = record {
  turns = h.turns;
  turn = turn;
  turned = turns-to d m d' plan.only plan.first plan.lines.now seen h.turns turn (sym same) h.turned;
  within = let count = h.count in let few = h.within in omega arith;
  truly = (
    h.none,
    let count = h.count in omega (arith, many, count),
    subst (λ (x : AtDesk). GoesYet x plan.only turn branch) (sym same) why,
    h.stands,
  );
}
ends-after plan d m d' seen now taken turn (Ended.Refused branch why) h many same lacks = record {
  turns = h.turns;
  turn = turn;
  turned = turns-to d m d' plan.only plan.first plan.lines.now seen h.turns turn (sym same) h.turned;
  within = let count = h.count in let few = h.within in omega arith;
  truly = (
    h.none,
    (lacks.0, subst (λ (x : AtDesk). NoneSooner x plan.only turn branch) (sym same) lacks.1, inl lacks.2),
    h.stands,
  );
}

-- a desk of the same machine and the same breakpoints
desk-same : (d d' : AtDesk) → d'.machine ≡ d.machine → d'.breaks ≡ d.breaks → d' ≡ d
desk-same d d' machine breaks = λ i. record { machine = machine i; breaks = breaks i }

-- the first of the events that breakpoints keep back
first-kept : (m : AtMachine) (breaks : List ℕ) (es : List Event) (line : ℕ) → AllKeptBack m breaks es line →
    (e : Event) × (slice_get es 0 ≡ Some e) × (line_of m e ≡ Some line) × (is_free m breaks e ≡ false)
first-kept m breaks [] line h = absurd h
first-kept m breaks (e ∷ es) line h = (e, refl, h.0, h.1.0)

-- the first that passes a test passes it
first-passes : (test : Event → Bool) (x e : Event) (xs : List Event) (b : Bool) → test x ≡ b →
    (slice_get (filter test xs) 0 ≡ Some e → test e ≡ true) → slice_get (cond b (x ∷ filter test xs) (filter test xs)) 0 ≡ Some e → test e ≡ true
first-passes test x e xs true is rest h = let same : x ≡ e = cc in subst (λ (y : Event). test y ≡ true) same is
first-passes test x e xs false is rest h = rest h

passes : (test : Event → Bool) (es : List Event) (e : Event) → slice_get (filter test es) 0 ≡ Some e → test e ≡ true
passes test [] e h = absurd (cc)
passes test (x ∷ xs) e h = first-passes test x e xs (test x) refl (passes test xs e) h

flipped : (b : Bool) → not b ≡ false → b ≡ true
flipped true h = refl
flipped false h = absurd (cc)

branch-here : (k : ℕ) (o : Option ℕ) → is_branch k o ≡ true → k ≡ unwrap_or o 0
branch-here k None h = absurd (cc)
branch-here k (Some b) h = sym (eqb-true b k h)

-- it stops at the breakpoint
kept-stops : (m : AtMachine) (breaks : List ℕ) (e : Event) (k line : ℕ) → line_of m e ≡ Some line → is_free m breaks e ≡ false → acts_in m k e ≡ true →
    StopsAt m breaks e k line
kept-stops m breaks e k line at kept acts = record {
  place = acting e;
  action = acting_is_action e;
  there = (
    at,
    flipped (is_in line breaks) (sym (ap (λ (o : Option ℕ). has_no_break breaks o) at) ∙ kept),
    branch-here k (branch_at m.checked (acting e)) acts,
  );
}

kept-stands : (d : AtDesk) (only : Option ℕ) (turn : ℕ) (lines : List ℕ) (seen : List Choice) (k line : ℕ) (T : State) (es : List Event) →
    Reaches (execution d) T → ReadyList T es → AllKeptBack d.machine (breaks_of d quiet) (in_branch d.machine k es) line → MayGo only k →
    NoneSooner d only turn k → StandsBefore d only turn lines seen k line seen
kept-stands d only turn lines seen k line T es reaches list kept may sooner =
    let found = first-kept d.machine (breaks_of d quiet) (in_branch d.machine k es) line kept in (
      k,
      found.0,
      record { state = T; ready = es; reaches = reaches; listed = list; first = found.1; may = may; sooner = sooner },
      inr (kept-stops d.machine (breaks_of d quiet) found.0 k line found.2 found.3 (passes (acts_in d.machine k) es found.0 found.1), refl),
    )

-- a step that was taken
took-stepped : (plan : Plan) (turn : ℕ) (seen : List Choice) (d d' : AtDesk) (command : Command) (branch t : ℕ) (e : Event) →
    MayAsk d plan.only turn branch plan.lines.now seen command → Answers d quiet command (Reply.Stepped t e) d' →
    TakesOne plan turn seen d d' (turn_of plan.watched.now branch (Reply.Stepped t e)) seen
took-stepped plan turn seen d d' command branch t e may h = record {
  step = record { ticket = t; event = e; branch = branch; left = d' };
  takes = (command, may, h);
  left = refl;
  branch_is = refl;
  ticket_is = refl;
  watched_is = refl;
}

-- one that was refused
took-refused : (plan : Plan) (turn : ℕ) (seen : List Choice) (d d' : AtDesk) (command : Command) (branch : ℕ) (why : Refusal) → d' ≡ d →
    MayGo plan.only branch → NoneSooner d plan.only turn branch → MayAsk d plan.only turn branch plan.lines.now seen command →
    Answers d quiet command (Reply.Refused why) d' → TakesOne plan turn seen d d' (Turn.Ended (Ended.Refused branch why)) seen
took-refused plan turn seen d d' command branch why same go sooner may h = (
  same,
  (go, sooner, inr (command, may, subst (λ (x : AtDesk). Answers d quiet command (Reply.Refused why) x) same h)),
  refl,
)

took-lacking : (plan : Plan) (turn : ℕ) (seen : List Choice) (d d' : AtDesk) (branch : ℕ) (reply : Reply) → MayGo plan.only branch →
    NoneSooner d plan.only turn branch → reply ≡ Reply.Refused Memory → d' ≡ d →
    TakesOne plan turn seen d d' (turn_of plan.watched.now branch reply) seen
took-lacking plan turn seen d d' branch reply go sooner is same =
    subst (λ (r : Reply). TakesOne plan turn seen d d' (turn_of plan.watched.now branch r) seen) (sym is) (same, (go, sooner, inl refl), refl)

-- a step by its choice
took-chosen : (plan : Plan) (turn : ℕ) (seen : List Choice) (d d' : AtDesk) (c : Choice) (branch : ℕ) (reply : Reply) (answer : runs.Reply) →
    reply ≡ session_reply answer → Steps (execution d) c answer (execution d') → d'.machine.checked ≡ d.machine.checked → d'.breaks ≡ d.breaks →
    d'.machine.marked ≡ marks_behind answer d.machine.marked → MayAsk d plan.only turn branch plan.lines.now seen (Command.Step c) → Answers d quiet (Command.Step c) reply d' →
    TakesOne plan turn seen d d' (turn_of plan.watched.now branch reply) seen
took-chosen plan turn seen d d' c branch reply (runs.Reply.Stepped t e) is h checked breaks marks may answers =
    subst (λ (r : Reply). TakesOne plan turn seen d d' (turn_of plan.watched.now branch r) seen) (sym is)
    (took-stepped plan turn seen d d' (Command.Step c) branch t e may (subst (λ (r : Reply). Answers d quiet (Command.Step c) r d') is answers))
took-chosen plan turn seen d d' c branch reply (runs.Reply.Refused why) is h checked breaks marks may answers =
    subst (λ (r : Reply). TakesOne plan turn seen d d' (turn_of plan.watched.now branch r) seen) (sym is)
    (took-refused plan turn seen d d' (Command.Step c) branch why (all-same d d' checked h.1 breaks marks) may.1.may may.1.sooner may
    (subst (λ (r : Reply). Answers d quiet (Command.Step c) r d') is answers))
took-chosen plan turn seen d d' c branch reply _ is h checked breaks marks may answers = absurd h

chosen-on : (plan : Plan) (turn : ℕ) (seen : List Choice) (d d' : AtDesk) (c : Choice) (branch : ℕ) (reply : Reply) →
    MayAsk d plan.only turn branch plan.lines.now seen (Command.Step c) → Answers d quiet (Command.Step c) reply d' →
    TakesOne plan turn seen d d' (turn_of plan.watched.now branch reply) seen
chosen-on plan turn seen d d' c branch reply may h = elim h [
  | inl done ↦ took-chosen plan turn seen d d' c branch reply done.0 done.1 done.2 done.3 done.4 done.5 may (inl done)
  | inr none ↦ took-lacking plan turn seen d d' branch reply may.1.may may.1.sooner none.1 none.2
]

pub took_at : (plan : Plan) (turn : ℕ) (seen : List Choice) (d d' : AtDesk) (e : Event) (branch : ℕ) (reply : Reply) →
    MayAsk d plan.only turn branch plan.lines.now seen (Command.Step (choice_of e)) → StepsAt d e reply d' →
    TakesOne plan turn seen d d' (turn_of plan.watched.now branch reply) seen
took_at plan turn seen d d' e branch reply may h = elim h [
  | inl asked ↦ chosen-on plan turn seen d d' (choice_of e) branch reply may asked
  | inr none ↦ took-lacking plan turn seen d d' branch reply may.1.may may.1.sooner none.0 none.1
]

-- a step of a branch
took-branch : (plan : Plan) (turn : ℕ) (seen : List Choice) (d d' : AtDesk) (branch : ℕ) (reply : Reply) (answer : BranchReply) →
    MayAsk d plan.only turn branch plan.lines.now seen (Command.Branch branch) → reply ≡ branch_reply answer → (T : State) (es : List Event) →
    Reaches (execution d) T → ReadyList T es → Branched d.machine (breaks_of d quiet) (in_branch d.machine branch es) answer d'.machine →
    d'.breaks ≡ d.breaks → (reply ≡ Reply.Idle → ⊥) → Answers d quiet (Command.Branch branch) reply d' →
    TakesOne plan turn seen d d' (turn_of plan.watched.now branch reply) seen
took-branch plan turn seen d d' branch reply (BranchReply.Stepped t e) may is T es reaches list h breaks busy answers =
    subst (λ (r : Reply). TakesOne plan turn seen d d' (turn_of plan.watched.now branch r) seen) (sym is)
    (took-stepped plan turn seen d d' (Command.Branch branch) branch t e may
    (subst (λ (r : Reply). Answers d quiet (Command.Branch branch) r d') is answers))
took-branch plan turn seen d d' branch reply (BranchReply.Stopped line) may is T es reaches list h breaks busy answers =
    subst (λ (r : Reply). TakesOne plan turn seen d d' (turn_of plan.watched.now branch r) seen) (sym is)
    (desk-same d d' h.1 breaks, kept-stands d plan.only turn plan.lines.now seen branch line T es reaches list h.0 may.2 may.3)
took-branch plan turn seen d d' branch reply BranchReply.Idle may is T es reaches list h breaks busy answers = absurd (busy is)
took-branch plan turn seen d d' branch reply (BranchReply.Refused why) may is T es reaches list h breaks busy answers =
    subst (λ (r : Reply). TakesOne plan turn seen d d' (turn_of plan.watched.now branch r) seen) (sym is)
    (took-refused plan turn seen d d' (Command.Branch branch) branch why (desk-same d d' h.1 breaks) may.2 may.3 may
    (subst (λ (r : Reply). Answers d quiet (Command.Branch branch) r d') is answers))

pub branch_took : (plan : Plan) (d d' : AtDesk) (branch : ℕ) (reply : Reply) → plan.lines.now ≡ [] → MayGo plan.only branch →
    (reply ≡ Reply.Idle → ⊥) → Answers d quiet (Command.Branch branch) reply d' → StepsIfNext plan d d' branch (turn_of plan.watched.now branch reply)
branch_took plan d d' branch reply free go busy h = λ turn seen sooner. elim h [
  | inl done ↦
      took-branch plan turn seen d d' branch reply done.0 (refl, free, go, sooner) done.1 done.2.0 done.2.1 done.2.2 done.2.3 done.2.4 done.4 busy
      (inl done)
  | inr none ↦ took-lacking plan turn seen d d' branch reply go sooner none.1 none.2
]

-- a branch without a step
idle-on : (d d' : AtDesk) (k : ℕ) (answer : BranchReply) → Reply.Idle ≡ branch_reply answer → (T : State) (es : List Event) → Reaches (execution d) T →
    ReadyList T es → Branched d.machine (breaks_of d quiet) (in_branch d.machine k es) answer d'.machine → d'.breaks ≡ d.breaks → (d' ≡ d) × IsIdle d k
idle-on d d' k (BranchReply.Stepped t e) is T es reaches list h breaks = absurd (cc)
idle-on d d' k (BranchReply.Stopped line) is T es reaches list h breaks = absurd (cc)
idle-on d d' k BranchReply.Idle is T es reaches list h breaks = (desk-same d d' h.1 breaks, (T, es, reaches, list, h.0))
idle-on d d' k (BranchReply.Refused why) is T es reaches list h breaks = absurd (cc)

pub branch_idle : (d d' : AtDesk) (k : ℕ) (reply : Reply) → reply ≡ Reply.Idle → Answers d quiet (Command.Branch k) reply d' → (d' ≡ d) × IsIdle d k
branch_idle d d' k reply is h =
    let there : Answers d quiet (Command.Branch k) Reply.Idle d' = subst (λ (r : Reply). Answers d quiet (Command.Branch k) r d') is h in
    elim there [
      | inl done ↦ idle-on d d' k done.0 done.1 done.2.0 done.2.1 done.2.2 done.2.3 done.2.4 done.4
      | inr none ↦ let other : Reply.Idle ≡ Reply.Refused Memory = none.1 in absurd (cc)
    ]

-- a step at a line, before which the run has not stood
pub stands_here : (plan : Plan) (turn : ℕ) (seen : List Choice) (d : AtDesk) (k at line : ℕ) (e : Event) (ended : Ended) (after : List Choice) →
    IsNext d plan.only turn k e → StopsAt d.machine plan.lines.now e at line → (In (choice_of e) seen → ⊥) →
    Stands k at line (choice_of e) seen ended after → TakesOne plan turn seen d d (Turn.Ended ended) after
stands_here plan turn seen d k at line e ended after next stops new h = elim h [
  | inl here ↦
      subst (λ (x : Ended). TakesOne plan turn seen d d (Turn.Ended x) after) (sym here.0)
      (refl, (k, e, next, inl (stops, new, here.1)))
  | inr none ↦
      subst (λ (x : Ended). TakesOne plan turn seen d d (Turn.Ended x) after) (sym none.0)
      (refl, (next.may, next.sooner, inl refl), none.1)
]

-- there is no memory to look
pub held_here : (plan : Plan) (turn : ℕ) (seen kept : List Choice) (d d' : AtDesk) (branch : ℕ) (why : Refusal) → d' ≡ d →
    MayGo plan.only branch × NoneSooner d plan.only turn branch → why ≡ Memory → kept ≡ seen →
    TakesOne plan turn seen d d' (Turn.Ended (Ended.Refused branch why)) kept
held_here plan turn seen kept d d' branch why same meant is keeps = (same, (meant.0, meant.1, inl is), keeps)

-- branches before and behind one are all of them
pub all-idle : (d : AtDesk) (turn count : ℕ) → count ≡ branch_count d.machine.checked → ((k : ℕ) → turn ≤ k → k < count → IsIdle d k) →
    ((k : ℕ) → 0 ≤ k → k < turn → IsIdle d k) → NothingGoes d None
all-idle d turn count is above below = λ k may. elim (cases_lt k turn) [
  | inl less ↦ below k (omega arith) less
  | inr more ↦ above k more (omega (arith, is, may))
]

pub alone-idle : (d : AtDesk) (k : ℕ) → IsIdle d k → NothingGoes d (Some k)
alone-idle d k idle = λ j may. subst (λ (n : ℕ). IsIdle d n) (sym may) idle

-- one branch more that is idle
pub idle-more : (d : AtDesk) (from branch : ℕ) → ((k : ℕ) → from ≤ k → k < branch → IsIdle d k) → IsIdle d branch →
    ((k : ℕ) → from ≤ k → k < branch + 1 → IsIdle d k)
idle-more d from branch before here = λ k behind less. elim (cases_lt k branch) [
  | inl one ↦ before k behind one
  | inr more ↦ let same : branch ≡ k = omega (arith, less, more) in subst (λ (n : ℕ). IsIdle d n) same here
]
