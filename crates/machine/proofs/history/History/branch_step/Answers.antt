use Rattle.std.proofs.Common.{◌≡◌, inl, inr, List, false, subst}
use Rattle.std.specs.Prelude.{MatchOption}
use Rattle.syntax.specs.Lists.{Every}
use Rattle.runs.specs.declared.event.Event.{Event}
use Rattle.event_inverse.specs.Grown.{state_of_tree}
use Rattle.machine.specs.internal.Choosing.{FirstAt, moves, line_of_first}
use Rattle.machine.specs.internal.Histories.{tree_of}
use Rattle.machine.specs.AtMachine.{at_machine}
use Rattle.machine.specs.Branching.{acts_in, in_branch}
use Rattle.machine.specs.declared.branch.BranchReply.{BranchReply}
use Rattle.machine.proofs.public.Branches.{moving-with, taken-with, back-with}
use Rattle.machine.proofs.Sites.{filter-same}
use Rattle.machine.proofs.public.Standing.{stands-ready}
use Rattle.machine.proofs.history.History.branch_step.Goals as goal

pub take_ready-requires : goal.take_ready-requires
take_ready-requires c =
    let h = at_machine c.args.system.now c.args.self.now in
    let T = state_of_tree (tree_of c.args.self.now) in
    let first : FirstAt (moves h c.args.branch c.args.breaks.now) c.in-Ok.events c.in-Some.index =
    subst (λ (k : List Event). FirstAt (moves h c.args.branch c.args.breaks.now) k c.in-Some.index) c.as_slice.ensures c.in-Some.ensures in
    record {
      holds = c.requires.holds;
      chosen = (
        first.0,
        first.1,
        moving-with h c.args.branch c.args.breaks.now T c.in-Ok.events c.in-Some.index c.in-Ok.ensures first,
      );
    }

pub returns-in-Some-clause-answers : goal.returns-in-Some-clause-answers
returns-in-Some-clause-answers c =
    let h = at_machine c.args.system.now c.args.self.now in
    let h' = at_machine c.args.system.now c.take_ready.new.self in
    let T = state_of_tree (tree_of c.args.self.now) in
    let all = stands-ready c.args.system.now (tree_of c.args.self.now) _ _ _ c.requires.holds in
    let first : FirstAt (moves h c.args.branch c.args.breaks.now) c.in-Ok.events c.in-Some.index =
    subst (λ (k : List Event). FirstAt (moves h c.args.branch c.args.breaks.now) k c.in-Some.index) c.as_slice.ensures c.in-Some.ensures in
    elim (c.take_ready.ensures.done first.0 first.1) [
      | inl takes ↦
          inl
          (taken-with h h' c.args.branch c.args.breaks.now T all.0 c.in-Ok.events c.in-Some.index c.take_ready.result c.requires.holds.run.runs all.1
          (filter-same T (acts_in h c.args.branch) all.0 c.in-Ok.events all.1 c.in-Ok.ensures) first takes)
      | inr wants ↦ inr (wants.0, wants.3)
    ]

pub returns-in-None-clause-answers : goal.returns-in-None-clause-answers
returns-in-None-clause-answers c =
    let h = at_machine c.args.system.now c.args.self.now in
    let T = state_of_tree (tree_of c.args.self.now) in
    let all = stands-ready c.args.system.now (tree_of c.args.self.now) _ _ _ c.requires.holds in
    inl
    (back-with h c.args.branch c.args.breaks.now T all.0 c.in-Ok.events c.kept_back.result c.requires.holds.run.runs all.1
    (filter-same T (acts_in h c.args.branch) all.0 c.in-Ok.events all.1 c.in-Ok.ensures)
    (subst (λ (k : List Event). Every (λ e. moves h c.args.branch c.args.breaks.now e ≡ false) k) c.as_slice.ensures c.in-None.ensures)
    (subst
    (λ (k : List Event). MatchOption (line_of_first h (in_branch h c.args.branch k)) (c.kept_back.result ≡ BranchReply.Idle) (λ line. c.kept_back.result ≡ BranchReply.Stopped line))
    c.as_slice-in-None.ensures c.kept_back.ensures))
