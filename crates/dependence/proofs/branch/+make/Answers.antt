use Rattle.std.proofs.Common.{◌≡◌, ◌++◌, ◌∷◌, [], List, ap, ◌∙◌}
use Rattle.dependence.specs.declared.branch.Seat.{Seat}
use Rattle.dependence.proofs.BesideLaws.{sorted-one}
use Rattle.dependence.proofs.CodeLaws.{is-way, event-made, one-branch}
use Rattle.dependence.proofs.branch.+make.Goals as goal

pub BranchEvents::with_one-invariant_of-result : goal.BranchEvents::with_one-invariant_of-result
BranchEvents::with_one-invariant_of-result t c =
    let is : c.push.new.self.items ≡ c.in_ok-new.field-0 ∷ [] =
    c.in_ok-push.ensures.items ∙ ap (λ (ss : List Seat). ss ++ c.in_ok-new.field-0 ∷ []) c.in_ok-seats.ensures.items in
    sorted-one c.push.new.self.items c.in_ok-new.field-0 is
    (one-branch c.push.new.self.items c.in_ok-new.field-0 c.args.place.now c.args.ticket is c.in_ok-new.ensures)

pub Seat::new-ends_at_branch-requires : goal.Seat::new-ends_at_branch-requires
Seat::new-ends_at_branch-requires t c = is-way c.split_at.result.0.now _ c.args.place.now c.split_at.ensures.front c.requires.way

pub Seat::new-returns-then-not-ends_at_branch : goal.Seat::new-returns-then-not-ends_at_branch
Seat::new-returns-then-not-ends_at_branch t c =
    event-made c.args.place.now c.split_at.result.0.now _ _ c.args.ticket c.in_ok-held.ensures c.split_at.ensures.front c.requires.way
    (c.ends_at_branch.ensures.event c.if-not-ends_at_branch.true)
