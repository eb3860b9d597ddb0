use Rattle.std.proofs.Common.{subst, ◌∙◌}
use Rattle.address.specs.declared.Entry.TheVariants.{Branch}
use Rattle.runs.specs.Moves.{Place}
use Rattle.local_actions.specs.View.{state_of}
use Rattle.idle_branches.proofs.BehindLemmas.{AreUnder, found-under}
use Rattle.idle_branches.proofs.behind.is_branch_at_work.Goals as goal

pub returns : goal.returns
returns c = λ tidy.
    let S = state_of c.args.tree.now c.args.store.now in
    found-under S c.args.place.now (Branch c.args.branch) c.in_ok-found.found c.is_empty.result c.is_empty.ensures
    (subst (λ (p : Place). AreUnder S p c.in_ok-found.found) (c.entries.ensures ∙ c.in_ok-beside.ensures) (c.in_ok-found.ensures tidy))
