-- How many steps a run takes at most: as many as may be live.
use Rattle.std.proofs.Common.{◌≡◌, ◌⊎◌, ℕ, suc, ◌+◌, ◌<◌, ◌≤◌, List, [], ◌∷◌, ◌++◌, length, Option, inl, inr, refl, ap, ◌∙◌, arith}
use Rattle.runs.specs.Does.{Steps}
use Rattle.runs.specs.Object.{Object, most_live}
use Rattle.runs.specs.Commands as runs
use Rattle.runs.specs.declared.command.Refusal.TheVariants.{Memory}
use Rattle.runs.specs.declared.event.Choice.{Choice}
use Rattle.runs.specs.declared.event.Event.{Event}
use Rattle.machine.specs.AtMachine.{AtMachine, object}
use Rattle.machine.specs.Branching.{Branched}
use Rattle.machine.specs.declared.branch.BranchReply.{BranchReply}
use Rattle.locked_execution.specs.AtDesk.{AtDesk, execution}
use Rattle.locked_execution.specs.Performs.{Answers, branch_reply, session_reply}
use Rattle.locked_execution.specs.declared.command.Command.{Command}
use Rattle.locked_execution.specs.declared.command.Reply.{Reply}
use Rattle.dap_moves.specs.Laws.{FewTurns}
use Rattle.dap_moves.specs.Moves.{quiet}
use Rattle.dap_moves.specs.Passing.{MayAsk, Turned, Turns}

-- one more is live, and there was room for it
abbrev pub Grows : List (ℕ × Event) → List (ℕ × Event) → Type 0
Grows l l' = (length l < most_live) × (length l' ≡ length l + 1)

length-pushed : (l : List (ℕ × Event)) (x : ℕ × Event) → length (l ++ x ∷ []) ≡ length l + 1
length-pushed [] x = refl
length-pushed (y ∷ l) x = let rest = length-pushed l x in omega arith

stepped : (o o' : Object) (c : Choice) (t : ℕ) (e : Event) → Steps o c (runs.Reply.Stepped t e) o' → Grows o.live o'.live
stepped o o' c t e h = (h.1, ap (λ (x : Object). length x.live) h.4 ∙ length-pushed o.live (o.next, e))

-- by its choice
step-grows : (o o' : Object) (c : Choice) (t : ℕ) (e : Event) (answer : runs.Reply) → Reply.Stepped t e ≡ session_reply answer → Steps o c answer o' →
    Grows o.live o'.live
step-grows o o' c t e (runs.Reply.Stepped u f) is h = stepped o o' c u f h
step-grows o o' c t e (runs.Reply.Refused why) is h = absurd (cc)
step-grows o o' c t e _ is h = absurd h

-- or as one of a branch
branch-grows : (m m' : AtMachine) (breaks : List ℕ) (es : List Event) (t : ℕ) (e : Event) (answer : BranchReply) →
    Reply.Stepped t e ≡ branch_reply answer → Branched m breaks es answer m' → Grows m.live m'.live
branch-grows m m' breaks es t e (BranchReply.Stepped u f) is h = stepped (object m) (object m') _ u f h.1
branch-grows m m' breaks es t e (BranchReply.Stopped line) is h = absurd (cc)
branch-grows m m' breaks es t e BranchReply.Idle is h = absurd (cc)
branch-grows m m' breaks es t e (BranchReply.Refused why) is h = absurd (cc)

-- a turn of a run
lacks-not : {P : Type 0} (t : ℕ) (e : Event) → Reply.Stepped t e ≡ Reply.Refused Memory → P
lacks-not t e h = absurd (cc)

turn-grows : (d d' : AtDesk) (only : Option ℕ) (turn k : ℕ) (lines : List ℕ) (seen : List Choice) (t : ℕ) (e : Event) (command : Command) →
    MayAsk d only turn k lines seen command → Answers d quiet command (Reply.Stepped t e) d' → Grows d.machine.live d'.machine.live
turn-grows d d' only turn k lines seen t e (Command.Step c) may h = elim h [
  | inl done ↦ step-grows (execution d) (execution d') c t e done.0 done.1 done.2
  | inr none ↦ lacks-not t e none.1
]
turn-grows d d' only turn k lines seen t e (Command.Branch j) may h = elim h [
  | inl done ↦ branch-grows d.machine d'.machine _ _ t e done.0 done.1 done.2.4
  | inr none ↦ lacks-not t e none.1
]
turn-grows d d' only turn k lines seen t e _ may h = absurd may

-- all of them
one-more : (a b n most : ℕ) → a < most → b ≡ a + 1 → (n ≡ 0) ⊎ (b + n ≤ most) → a + suc n ≤ most
one-more a b n most less is (inl none) = omega arith
one-more a b n most less is (inr few) = omega arith

turns-few : (d d' : AtDesk) (only : Option ℕ) (turn behind : ℕ) (lines : List ℕ) (seen : List Choice) (ts : List Turned) →
    Turns d only turn lines seen ts d' behind → (length ts ≡ 0) ⊎ (length d.machine.live + length ts ≤ most_live)
turns-few d d' only turn behind lines seen [] h = inl refl
turns-few d d' only turn behind lines seen (t ∷ ts) h =
    let grows = turn-grows d t.left only turn t.branch lines seen t.ticket t.event h.0.0 h.0.1 h.0.2 in
    let rest = turns-few t.left d' only _ behind lines [] ts h.1 in
    inr (one-more (length d.machine.live) (length t.left.machine.live) (length ts) most_live grows.0 grows.1 rest)

none-few : (n most : ℕ) → n ≡ 0 → n ≤ most
none-few n most h = omega arith

some-few : (a n most : ℕ) → a + n ≤ most → n ≤ most
some-few a n most h = omega arith

pub few-turns : FewTurns
few-turns d d' only turn behind lines seen turns h = elim (turns-few d d' only turn behind lines seen turns h) [
  | inl none ↦ none-few (length turns) most_live none
  | inr few ↦ some-few (length d.machine.live) (length turns) most_live few
]
