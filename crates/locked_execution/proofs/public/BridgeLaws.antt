-- The commands of sessions as commands of the execution, so that every law on its lists of commands holds of them.
use Rattle.std.proofs.Common.{◌≡◌, ◌⊎◌, inl, inr, ℕ, List, [], ◌∷◌, Option, Some, None, map, refl, sym, ap, subst}
use Rattle.std.specs.Prelude.{MatchOption, option_map}
use Rattle.runs.specs.Answered as calculus
use Rattle.runs.specs.Choices.{choice_of}
use Rattle.runs.specs.Does.{Answers, MayWantMemory}
use Rattle.runs.specs.Commands as runs
use Rattle.runs.specs.declared.command.Refusal.TheVariants.{Memory}
use Rattle.machine.specs.AtMachine.{AtMachine, object}
use Rattle.machine.specs.Branching.{StepsBranch}
use Rattle.machine.specs.declared.branch.BranchReply.{BranchReply}
use Rattle.locked_execution.specs.AtDesk.{AtDesk, execution, breaks_of}
use Rattle.locked_execution.specs.Answered.{Answered}
use Rattle.locked_execution.specs.Performs.{execution_command, session_reply, branch_reply, OnExecution, SetsBreak, ClearsBreak}
use Rattle.locked_execution.specs.Performs as performs
use Rattle.locked_execution.specs.declared.command.Command.{Command}
use Rattle.locked_execution.specs.declared.command.Reply.{Reply}

-- the command of the execution that a session's command is where it is answered so: a step in a branch is the step of
-- the event that it took; the others are none
abbrev pub on_execution : Command → Reply → Option runs.Command
on_execution (Command.Branch k) (Reply.Stepped t e) = Some (runs.Command.Step (choice_of e))
on_execution command reply = performs.execution_command command

-- x first, where there is one
abbrev pub onto : {X : Type 0} → Option X → List X → List X
onto None xs = xs
onto (Some x) xs = x ∷ xs

-- the commands of the execution that the commands of sessions are, where these are their replies
abbrev pub commands_of : List (ℕ × Command) → List Reply → List runs.Command
commands_of [] replies = []
commands_of (x ∷ xs) [] = []
commands_of (x ∷ xs) (reply ∷ replies) = onto (on_execution x.1 reply) (commands_of xs replies)

-- the reply, where it is one of the execution
abbrev pub replied : Command → Reply → Option Reply
replied command reply = option_map (λ _. reply) (on_execution command reply)

-- the replies to these
abbrev pub replies_of : List (ℕ × Command) → List Reply → List Reply
replies_of [] replies = []
replies_of (x ∷ xs) [] = []
replies_of (x ∷ xs) (reply ∷ replies) = onto (replied x.1 reply) (replies_of xs replies)

-- what a session is answered, the execution answers; where its command is none of the execution, that stays as it is
abbrev pub IsOnExecution : Type 0
IsOnExecution =
    (d d' : AtDesk) (session : ℕ) (command : Command) (reply : Reply) → performs.Answers d session command reply d' →
    MatchOption (on_execution command reply)
    (d'.machine ≡ d.machine)
    (λ c. (answer : runs.Reply) × (performs.session_reply answer ≡ reply)
    × Answers (execution d) c answer (execution d'))

-- and so it is with lists
abbrev pub AreOnExecution : Type 0
AreOnExecution =
    (d d' : AtDesk) (commands : List (ℕ × Command)) (replies : List Reply) → Answered d commands replies d' →
    (answers : List runs.Reply) × (map performs.session_reply answers ≡ replies_of commands replies)
    × calculus.Answered (execution d) (commands_of commands replies) answers (execution d')

-- the execution answers c with what the session is told
IsAnswered : AtDesk → AtDesk → Reply → runs.Command → Type 0
IsAnswered d d' reply c = (answer : runs.Reply) × (session_reply answer ≡ reply) × Answers (execution d) c answer (execution d')

-- what the command of the session, if it is one of the execution, is there
Carries : AtDesk → AtDesk → Command → Reply → Type 0
Carries d d' command reply = MatchOption (on_execution command reply) (d'.machine ≡ d.machine) (λ c. IsAnswered d d' reply c)

one : (d d' : AtDesk) (o : Option runs.Command) (reply : Reply) → MatchOption o ⊥ (λ c. OnExecution d c reply d')
    ⊎ (MatchOption o ⊥ (λ c. MayWantMemory (execution d) c) × (reply ≡ Reply.Refused Memory) × (d' ≡ d)) →
    MatchOption o (d'.machine ≡ d.machine) (λ c. IsAnswered d d' reply c)
unfolding IsAnswered
one d d' None reply (inl h) = absurd h
one d d' None reply (inr h) = absurd h.0
one d d' (Some c) reply (inl h) = (h.0, sym h.1, inl h.2)
one d d' (Some c) reply (inr h) = (runs.Reply.Refused Memory, sym h.1, inr (h.0, refl, ap execution h.2))

branch : (d d' : AtDesk) (session k : ℕ) (answer : BranchReply) → StepsBranch d.machine k (breaks_of d session) answer d'.machine →
    Carries d d' (Command.Branch k) (branch_reply answer)
unfolding Carries IsAnswered
branch d d' session k (BranchReply.Stepped t e) h = (runs.Reply.Stepped t e, refl, inl h.4.1)
branch d d' session k (BranchReply.Stopped line) h = h.4.1
branch d d' session k BranchReply.Idle h = h.4.1
branch d d' session k (BranchReply.Refused why) h = h.4.1

set : (d d' : AtDesk) (session line : ℕ) (reply : Reply) → SetsBreak d session line reply d' → d'.machine ≡ d.machine
set d d' session line Reply.Done h = ap (λ (a : AtDesk). a.machine) h.2
set d d' session line (Reply.Refused why) h = ap (λ (a : AtDesk). a.machine) h.1
set d d' session line _ h = absurd h

cleared : (d d' : AtDesk) (session line : ℕ) (reply : Reply) → ClearsBreak d session line reply d' → d'.machine ≡ d.machine
cleared d d' session line Reply.Done h = ap (λ (a : AtDesk). a.machine) h
cleared d d' session line _ h = absurd h

pub is-on-execution : IsOnExecution
unfolding Carries IsAnswered
is-on-execution d d' session (Command.Branch k) reply (inl h) =
    subst (λ (r : Reply). Carries d d' (Command.Branch k) r) (sym h.1) (branch d d' session k h.0 h.2)
is-on-execution d d' session (Command.Branch k) reply (inr h) =
    let held : d'.machine ≡ d.machine = ap (λ (a : AtDesk). a.machine) h.2 in
    subst (λ (r : Reply). Carries d d' (Command.Branch k) r) (sym h.1) held
is-on-execution d d' session (Command.Break line) reply (inl h) = set d d' session line reply h
is-on-execution d d' session (Command.Break line) reply (inr h) = absurd h.0
is-on-execution d d' session (Command.Clear line) reply (inl h) = cleared d d' session line reply h
is-on-execution d d' session (Command.Clear line) reply (inr h) = absurd h.0
is-on-execution d d' session command reply h = one d d' (execution_command command) reply h

-- these commands of the execution, of which the sessions are told these replies, lead from what is held to d'
Leads : AtMachine → AtDesk → List runs.Command → List Reply → Type 0
Leads h d' commands replies =
    (answers : List runs.Reply) × (map session_reply answers ≡ replies) × calculus.Answered (object h) commands answers (execution d')

-- one more in front
in-front : (d m d' : AtDesk) (o : Option runs.Command) (reply : Reply) (commands : List runs.Command) (replies : List Reply) →
    MatchOption o (m.machine ≡ d.machine) (λ c. IsAnswered d m reply c) → Leads m.machine d' commands replies →
    Leads d.machine d' (onto o commands) (onto (option_map (λ _. reply) o) replies)
unfolding Leads IsAnswered
in-front d m d' None reply commands replies held rest = subst (λ (h : AtMachine). Leads h d' commands replies) held rest
in-front d m d' (Some c) reply commands replies now rest =
    let first : session_reply now.0 ≡ reply = now.1 in
    let others : map session_reply rest.0 ≡ replies = rest.1 in
    (now.0 ∷ rest.0, (λ i. first i ∷ others i), (now.0, rest.0, execution m, refl, now.2, rest.2))

pub are-on-execution : AreOnExecution
unfolding Leads IsAnswered
are-on-execution d d' [] replies h = ([], refl, (refl, ap execution h.1))
are-on-execution d d' (x ∷ xs) replies h =
    subst (λ (rs : List Reply). Leads d.machine d' (commands_of (x ∷ xs) rs) (replies_of (x ∷ xs) rs)) (sym h.3)
    (in-front d h.2 d' (on_execution x.1 h.0) h.0 (commands_of xs h.1) (replies_of xs h.1)
    (is-on-execution d h.2 x.0 x.1 h.0 h.4) (are-on-execution h.2 d' xs h.1 h.5))
