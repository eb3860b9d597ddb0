-- As many events are live behind a crew as its turns were steps.
use Rattle.std.proofs.Common.{◌≡◌, inl, inr, ℕ, suc, ◌+◌, if◌then◌else◌, List, [], ◌∷◌, ◌++◌, length, length-append, Some, refl, sym, ap, ◌∙◌, subst, arith}
use Rattle.std.specs.Prelude.{slice_get}
use Rattle.std.proofs.lemmas.Bool.{cases_lt}
use Rattle.atomic_table.specs.Seated.{TableId}
use Rattle.syntax.specs.Lists.{Every}
use Rattle.runs.specs.Object.{Object}
use Rattle.machine.specs.AtMachine.{AtMachine}
use Rattle.machine.specs.Branching.{StepsBranch}
use Rattle.machine.specs.declared.branch.BranchReply.{BranchReply}
use Rattle.recorded_calls.specs.declared.entry.Entry.{Entry}
use Rattle.recorded_calls.specs.History.{calls_by, NoCallsFrom, Replays}
use Rattle.locked_object.specs.Passes.{number, own}
use Rattle.locked_object.specs.declared.pass.Pass.{Pass}
use Rattle.object_workers.specs.Runs.{steps_in, AskBranches, PassesRan}
use Rattle.locked_execution.specs.AtDesk.{AtDesk, breaks_of}
use Rattle.locked_execution.specs.Performs.{Performs, OnBranch, branch_reply}
use Rattle.locked_execution.specs.Sharing.{History, Keeps, is_step}
use Rattle.locked_execution.specs.Working.{unstepped, HasAllOf, LiveAreStepped}
use Rattle.locked_execution.specs.declared.command.Command.{Command}
use Rattle.locked_execution.specs.declared.command.Reply.{Reply}
use Rattle.locked_execution.proofs.CallCounts.{by_passes, CallsAre, one_of_them, steps_are, all_counted}

-- a call that asks for a step of a branch
abbrev ForBranch : Entry Command Reply → Type 0
ForBranch e = (k : ℕ) × (e.command ≡ Command.Branch k)

-- ---- what one such call leaves live
same_live : (h h' : AtMachine) → h' ≡ h → length h'.live ≡ length h.live + 0
same_live h h' is = let same : length h'.live ≡ length h.live = ap (λ (m : AtMachine). length m.live) is in omega arith

branch_live : (d d' : AtDesk) (n k : ℕ) (reply : Reply) → OnBranch d n k reply d' → length d'.machine.live ≡ length d.machine.live + (if is_step reply then 1 else 0)
branch_live d d' n k reply h =
    subst (λ (r : Reply). length d'.machine.live ≡ length d.machine.live + (if is_step r then 1 else 0)) (sym h.1) (by_answer h.0 h.2)
  where
    by_answer : (answer : BranchReply) → StepsBranch d.machine k (breaks_of d n) answer d'.machine
        → length d'.machine.live ≡ length d.machine.live + (if is_step (branch_reply answer) then 1 else 0)
    by_answer (BranchReply.Stepped t e) steps =
        let after : length d'.machine.live ≡ length (d.machine.live ++ (d.machine.next, e) ∷ []) = ap (λ (o : Object). length o.live) steps.4.1.4 in
        after ∙ length-append d.machine.live ((d.machine.next, e) ∷ [])
    by_answer (BranchReply.Stopped line) steps = same_live d.machine d'.machine steps.4.1
    by_answer BranchReply.Idle steps = same_live d.machine d'.machine steps.4.1
    by_answer (BranchReply.Refused why) steps = same_live d.machine d'.machine steps.4.1

-- and such calls, one after the other
calls_live : (d d' : AtDesk) (log : History) → Replays Keeps d log d' → Every ForBranch log → length d'.machine.live ≡ length d.machine.live + steps_in is_step log
calls_live d d' [] is all = same_live d.machine d'.machine (ap (λ (a : AtDesk). a.machine) is)
calls_live d d' (e ∷ es) (m, now, rest) all =
    let first = branch_live d m e.pass all.0.0 e.reply (subst (λ (c : Command). Performs d e.pass c e.reply m) all.0.1 now.0) in
    let others = calls_live m d' es rest all.1 in
    omega (arith, first, others)

-- ---- what workers called
ask_branches : (count n : ℕ) (calls : List (Entry Command Reply)) → AskBranches Command.Branch count n calls → Every ForBranch calls
ask_branches count n [] ask = tt
ask_branches count n (e ∷ es) ask = ((ask.0.1.0, ask.0.1.1), ask_branches count n es ask.1)

module _ (table : TableId) (opening : AtDesk) (count turns : ℕ) where
  ran_branches : (before after : List (Pass AtDesk Command Reply)) (added : List (List (Entry Command Reply))) → PassesRan table opening Command.Branch count turns before after added → Every (Every ForBranch) added
  ran_branches [] [] [] ran = tt
  ran_branches (p ∷ ps) (q ∷ qs) (l ∷ ls) ran = (ask_branches count (number p) l ran.0.branches, ran_branches ps qs ls ran.1)
  ran_branches [] (q ∷ qs) ls ran = absurd ran
  ran_branches (p ∷ ps) [] ls ran = absurd ran
  ran_branches [] [] (l ∷ ls) ran = absurd ran
  ran_branches (p ∷ ps) (q ∷ qs) [] ran = absurd ran

  added_many : (before after : List (Pass AtDesk Command Reply)) (added : List (List (Entry Command Reply))) → PassesRan table opening Command.Branch count turns before after added → length after ≡ length added
  added_many [] [] [] ran = refl
  added_many (p ∷ ps) (q ∷ qs) (l ∷ ls) ran = ap suc (added_many ps qs ls ran.1)
  added_many [] (q ∷ qs) ls ran = absurd ran
  added_many (p ∷ ps) [] ls ran = absurd ran
  added_many [] [] (l ∷ ls) ran = absurd ran
  added_many (p ∷ ps) (q ∷ qs) [] ran = absurd ran

  -- the history has, under the number of each pass, what its worker called: the pass was new
  calls_are : (first : ℕ) (before after : List (Pass AtDesk Command Reply)) (added : List (List (Entry Command Reply))) (log : History)
      → ((i : ℕ) (p : Pass AtDesk Command Reply) → slice_get before i ≡ Some p → (number p ≡ i + first) × (own p ≡ []))
      → PassesRan table opening Command.Branch count turns before after added → HasAllOf log after → CallsAre first log added
  calls_are first [] [] [] log new ran all = tt
  calls_are first (p ∷ ps) (q ∷ qs) (l ∷ ls) log new ran all =
      let one = new 0 p refl in
      let numbered : number q ≡ first = ran.0.same ∙ one.0 ∙ omega arith in
      let made : own q ≡ l = ran.0.made ∙ ap (λ (calls : History). calls ++ l) one.1 in (
        subst (λ (n : ℕ). calls_by n log ≡ l) numbered (all.0 ∙ made),
        calls_are (suc first) ps qs ls log (λ i p' at. let next = new (suc i) p' at in (next.0 ∙ omega arith, next.1)) ran.1 all.1,
      )
  calls_are first [] (q ∷ qs) ls log new ran all = absurd ran
  calls_are first (p ∷ ps) [] ls log new ran all = absurd ran
  calls_are first [] [] (l ∷ ls) log new ran all = absurd ran
  calls_are first (p ∷ ps) (q ∷ qs) [] log new ran all = absurd ran

-- ---- the law
pub live-are-stepped : LiveAreStepped
live-are-stepped system workers turns stepped live worked =
    let s = worked.steps in
    let l = worked.lives in
    let each = s.ran.each in
    let added = s.ran.added in
    let are : CallsAre 0 l.log added = calls_are s.table (unstepped system) _ turns 0 s.before worked.passes added l.log (λ i p at. let new = s.new.each i p at in (new.1 ∙ omega arith, new.3)) each l.all in
    let nobody : NoCallsFrom (length added) l.log = subst (λ (n : ℕ). NoCallsFrom n l.log) (added_many s.table (unstepped system) _ turns s.before worked.passes added each) l.no_others in
    let asked : Every (Every ForBranch) added = ran_branches s.table (unstepped system) _ turns s.before worked.passes added each in
    let by_one : (n : ℕ) → Every ForBranch (calls_by n l.log) =
    λ n. elim (cases_lt n (length added)) [
      | inl less ↦ one_of_them ForBranch 0 n l.log added are asked (omega arith) (omega arith)
      | inr past ↦ subst (Every ForBranch) (sym (nobody n past)) tt
    ] in
    let left = calls_live (unstepped system) l.left l.log l.replays (by_passes ForBranch l.log by_one) in
    let all = all_counted is_step (length added) l.log nobody in
    let sums = steps_are is_step 0 l.log added are in
    let stand = l.counts in
    let told = s.ran.counted in
    omega (arith, left, all, sums, stand, told)
