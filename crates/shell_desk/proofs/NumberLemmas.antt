-- A list of ready events that is refused for want of memory, and what is kept in mind behind a reply.
use Rattle.std.proofs.Common.{◌≡◌, inl, inr, ℕ, true, List, Option, Some, None, refl, sym, ap, ◌∙◌, subst}
use Rattle.std.specs.Prelude.{MatchOption}
use Rattle.std.proofs.lemmas.Bool.{false≢true}
use Rattle.sharing_check.specs.declared.checked.Checked.{Checked}
use Rattle.runs.specs.Object.{Object}
use Rattle.runs.specs.Does as calculus
use Rattle.runs.specs.declared.event.Event.{Event}
use Rattle.runs.specs.Commands as runs
use Rattle.runs.specs.declared.command.Refusal.TheVariants.{Memory}
use Rattle.machine.specs.Marks.{marks_behind}
use Rattle.machine.specs.declared.branch.BranchReply.{BranchReply}
use Rattle.locked_execution.specs.AtDesk.{AtDesk, execution}
use Rattle.locked_execution.specs.Performs.{Answers, MayWantMemory, OnExecution, Performs, branch_reply, execution_command, session_reply}
use Rattle.locked_execution.specs.declared.command.Command.{Command}
use Rattle.locked_execution.specs.declared.command.Reply.{Reply}
use Rattle.locked_execution.proofs.public.Unchanged.{all-same}
use Rattle.shell_desk.specs.AtBench.{AtBench}
use Rattle.shell_desk.specs.Does.{Asked, branch_behind, numbers_behind, stopped_behind, turn_behind}
use Rattle.shell_desk.specs.internal.Numbering.{IsTold, given_or, is_list, numbers_of}

-- ---- a list is refused in its place
-- only a list is told as one
list-told : (answer : runs.Reply) (es : List Event) → Reply.Ready es ≡ session_reply answer → answer ≡ runs.Reply.Ready es
list-told (runs.Reply.Ready fs) es is = cc
list-told _ es is = absurd (cc)

no-branch-list : (answer : BranchReply) (es : List Event) → Reply.Ready es ≡ branch_reply answer → ⊥
no-branch-list (BranchReply.Stepped t e) es is = cc
no-branch-list (BranchReply.Stopped line) es is = cc
no-branch-list BranchReply.Idle es is = cc
no-branch-list (BranchReply.Refused why) es is = cc

-- the command that lists leaves all as it was
leaves-all : (o o' : Object) (c : runs.Command) (es : List Event) → calculus.Does o c (runs.Reply.Ready es) o'
    → calculus.MayWantMemory o c × (o' ≡ o)
leaves-all o o' runs.Command.Ready es h = (tt, h.1)
leaves-all o o' _ es h = absurd h

on-list : (d d' : AtDesk) (o : Option runs.Command) (es : List Event) → MatchOption o ⊥ (λ c. OnExecution d c (Reply.Ready es) d')
    → MatchOption o ⊥ (λ c. calculus.MayWantMemory (execution d) c) × (d' ≡ d)
on-list d d' None es h = absurd h
on-list d d' (Some c) es (answer, is, does, system, breaks, marks) =
    let left = leaves-all (execution d) (execution d') c es
    (subst (λ (a : runs.Reply). calculus.Does (execution d) c a (execution d')) (list-told answer es is) does) in (
      left.0,
      all-same d d' system left.1 breaks
          (marks ∙ ap (λ (a : runs.Reply). marks_behind a d.machine.marked) (list-told answer es is)),
    )

performs-list : (d d' : AtDesk) (session : ℕ) (c : Command) (es : List Event) → Performs d session c (Reply.Ready es) d'
    → MayWantMemory d c × (d' ≡ d)
performs-list d d' session (Command.Branch k) es h = absurd (no-branch-list h.0 es h.1)
performs-list d d' session (Command.Break line) es h = absurd h
performs-list d d' session (Command.Clear line) es h = absurd h
performs-list d d' session command es h = on-list d d' (execution_command command) es h

no-refusal : (es : List Event) → Reply.Ready es ≡ Reply.Refused Memory → ⊥
no-refusal es is = cc

refused-list : (d d' : AtDesk) (session : ℕ) (c : Command) (es : List Event) → Answers d session c (Reply.Ready es) d'
    → Answers d session c (Reply.Refused Memory) d'
refused-list d d' session c es (inl performs) =
    let left = performs-list d d' session c es performs in inr (left.0, refl, left.1)
refused-list d d' session c es (inr (wanted, is, same)) = absurd (no-refusal es is)

-- what is such a list
list-of : (r : Reply) → is_list r ≡ true → (es : List Event) × (r ≡ Reply.Ready es)
list-of (Reply.Ready es) h = (es, refl)
list-of _ h = absurd (false≢true h)

-- what is told is an answer too
pub told-answers : (d d' : AtDesk) (session : ℕ) (c : Command) (reply told : Reply) → Answers d session c reply d' → IsTold reply told
    → Answers d session c told d'
told-answers d d' session c reply told answers (inl same) =
    subst (λ (r : Reply). Answers d session c r d') (sym same) answers
told-answers d d' session c reply told answers (inr (list, is)) =
    let found = list-of reply list in
    subst (λ (r : Reply). Answers d session c r d') (sym is)
    (refused-list d d' session c found.0 (subst (λ (r : Reply). Answers d session c r d') found.1 answers))

-- ---- what is kept in mind
-- what was made for a reply is what numbers mean behind it
made-behind : (r : Reply) (before : List Command) → given_or (numbers_of r) before ≡ numbers_behind r before
made-behind (Reply.Stepped t e) before = refl
made-behind (Reply.Undone t e) before = refl
made-behind (Reply.Rolled n) before = refl
made-behind (Reply.Blamed t) before = refl
made-behind (Reply.Ready es) before = refl
made-behind (Reply.Consequences ts) before = refl
made-behind (Reply.Live l) before = refl
made-behind (Reply.Value v) before = refl
made-behind (Reply.Stopped line) before = refl
made-behind Reply.Idle before = refl
made-behind Reply.Done before = refl
made-behind (Reply.Refused why) before = refl

pub asked-noted : (b b' : AtBench) (d : AtDesk) (c : Command) (r : Reply) (numbers : Option (List Command))
    → Answers b.desk b.session c r d → d.machine.checked ≡ b.desk.machine.checked → numbers ≡ numbers_of r → b'.desk ≡ d
    → b'.session ≡ b.session → b'.numbered ≡ given_or numbers b.numbered
    → b'.turn ≡ turn_behind d.machine.checked r b.turn → b'.branch ≡ branch_behind d.machine.checked r b.branch → b'.stopped ≡ stopped_behind r b.stopped → Asked b c r b'
asked-noted b b' d c r numbers answers system are desk session numbered turn branch stopped = (
  subst (λ (x : AtDesk). Answers b.desk b.session c r x) (sym desk) answers,
  session,
  numbered ∙ ap (λ (o : Option (List Command)). given_or o b.numbered) are ∙ made-behind r b.numbered,
  turn ∙ ap (λ (s : Checked). turn_behind s r b.turn) system,
  branch ∙ ap (λ (s : Checked). branch_behind s r b.branch) system,
  stopped,
)
