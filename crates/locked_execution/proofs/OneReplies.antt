-- A command of a session has at most one reply, and that determines the desk after it.
use Rattle.std.proofs.Common.{◌≡◌, inl, inr, ℕ, ◌≤◌, true, false, length, Option, Some, None, refl, sym, ◌∙◌, ap, arith}
use Rattle.std.specs.Prelude.{MatchOption}
use Rattle.system.specs.Expression.{is_in}
use Rattle.system_places.specs.LinesBegun.{begins}
use Rattle.runs.specs.Sound.{Sound}
use Rattle.runs.specs.Commands as runs
use Rattle.runs.specs.declared.command.Refusal.{Refusal}
use Rattle.runs.specs.declared.command.Refusal.TheVariants.{BreaksFull, NoSuchLine}
use Rattle.runs.proofs.public.OneReplies.{one-reply}
use Rattle.machine.specs.Breakpoints.{most_breaks}
use Rattle.machine.specs.Marks.{marks_behind}
use Rattle.locked_execution.specs.AtDesk.{AtDesk, execution, breaks_of}
use Rattle.locked_execution.specs.Performs.{execution_command, OnExecution, OnBranch, RefusesBreak, SetsBreak, ClearsBreak, session_reply, branch_reply}
use Rattle.locked_execution.specs.Replies.{OneReply}
use Rattle.locked_execution.specs.declared.command.Command.{Command}
use Rattle.locked_execution.specs.declared.command.Reply.{Reply}
use Rattle.locked_execution.proofs.BranchReplies.{one-branch}
use Rattle.locked_execution.proofs.public.Unchanged.{all-same}

-- two replies and what is left after them are the same
abbrev Same : Reply → Reply → AtDesk → AtDesk → Type 0
Same reply other p q = (reply ≡ other) × (p ≡ q)

on-execution : (d p q : AtDesk) (o : Option runs.Command) (reply other : Reply) → Sound (execution d) →
    MatchOption o ⊥ (λ c. OnExecution d c reply p) → MatchOption o ⊥ (λ c. OnExecution d c other q) → Same reply other p q
on-execution d p q None reply other s h g = absurd h
on-execution d p q (Some c) reply other s h g =
    let one = one-reply (execution d) (execution p) (execution q) c h.0 g.0 s h.2 g.2 in
    let marks = h.5 ∙ ap (λ (r : runs.Reply). marks_behind r d.machine.marked) one.0 ∙ sym g.5 in
    (h.1 ∙ ap session_reply one.0 ∙ sym g.1, all-same q p (h.3 ∙ sym g.3) one.1 (h.4 ∙ sym g.4) marks)

on-branch : (d p q : AtDesk) (session k : ℕ) (reply other : Reply) → Sound (execution d) →
    OnBranch d session k reply p → OnBranch d session k other q → Same reply other p q
on-branch d p q session k reply other s h g =
    let one = one-branch d.machine p.machine q.machine k (breaks_of d session) h.0 g.0 s h.2 g.2 in
    (h.1 ∙ ap branch_reply one.0 ∙ sym g.1, all-same q p (h.3 ∙ sym g.3) one.1 (h.4 ∙ sym g.4) (h.5 ∙ sym g.5))

-- a breakpoint is refused for one reason
break-refusals : (d : AtDesk) (session line : ℕ) (why other : Refusal) → RefusesBreak d session line why → RefusesBreak d session line other → why ≡ other
break-refusals d session line NoSuchLine NoSuchLine h g = refl
break-refusals d session line NoSuchLine BreaksFull h g =
    let off : begins line d.machine.checked.main ≡ false = h in let on : begins line d.machine.checked.main ≡ true = g.0 in cc
break-refusals d session line BreaksFull NoSuchLine h g =
    let off : begins line d.machine.checked.main ≡ false = g in let on : begins line d.machine.checked.main ≡ true = h.0 in cc
break-refusals d session line BreaksFull BreaksFull h g = refl
break-refusals d session line NoSuchLine _ h g = absurd g
break-refusals d session line BreaksFull _ h g = absurd g
break-refusals d session line _ other h g = absurd h

-- and one that is set is not refused
set-or-refused : (d p : AtDesk) (session line : ℕ) (why : Refusal) → SetsBreak d session line Reply.Done p → RefusesBreak d session line why → ⊥
set-or-refused d p session line NoSuchLine h g =
    let on : begins line d.machine.checked.main ≡ true = h.0 in let off : begins line d.machine.checked.main ≡ false = g in cc
set-or-refused d p session line BreaksFull h g =
    elim h.1 [
      | inl there ↦ let absent : is_in line (breaks_of d session) ≡ false = g.1 in cc
      | inr room ↦ let full : most_breaks ≤ length (breaks_of d session) = g.2 in omega arith
    ]
set-or-refused d p session line _ h g = absurd g

one-set : (d p q : AtDesk) (session line : ℕ) (reply other : Reply) → SetsBreak d session line reply p → SetsBreak d session line other q → Same reply other p q
one-set d p q session line Reply.Done Reply.Done h g = (refl, h.2 ∙ sym g.2)
one-set d p q session line Reply.Done (Reply.Refused why) h g = absurd (set-or-refused d p session line why h g.0)
one-set d p q session line (Reply.Refused why) Reply.Done h g = absurd (set-or-refused d q session line why g h.0)
one-set d p q session line (Reply.Refused why) (Reply.Refused because) h g =
    (ap Reply.Refused (break-refusals d session line why because h.0 g.0), h.1 ∙ sym g.1)
one-set d p q session line Reply.Done _ h g = absurd g
one-set d p q session line (Reply.Refused why) _ h g = absurd g
one-set d p q session line _ other h g = absurd h

one-clear : (d p q : AtDesk) (session line : ℕ) (reply other : Reply) → ClearsBreak d session line reply p → ClearsBreak d session line other q → Same reply other p q
one-clear d p q session line Reply.Done Reply.Done h g = (refl, h ∙ sym g)
one-clear d p q session line Reply.Done _ h g = absurd g
one-clear d p q session line _ other h g = absurd h

pub one-reply-each : OneReply
one-reply-each d p q session (Command.Branch k) reply other s h g = on-branch d p q session k reply other s h g
one-reply-each d p q session (Command.Break line) reply other s h g = one-set d p q session line reply other h g
one-reply-each d p q session (Command.Clear line) reply other s h g = one-clear d p q session line reply other h g
one-reply-each d p q session command reply other s h g = on-execution d p q (execution_command command) reply other s h g
