use Rattle.std.proofs.Common.{None, sym, subst}
use Rattle.address.specs.declared.Entry.{Entry}
use Rattle.local_actions.specs.View.{state_of}
use Rattle.idle_branches.specs.internal.Behind.{PastEntry}
use Rattle.idle_branches.proofs.BehindLemmas.{branch-passed}
use Rattle.idle_branches.proofs.behind.offers_past.Goals as goal

pub returns-in-Branch : goal.returns-in-Branch
returns-in-Branch c = λ tidy formed.
    subst (λ (e : Entry). PastEntry (state_of c.args.tree.now c.args.store.now) c.args.parent.now e None) (sym c.in-Branch.is)
    (branch-passed (state_of c.args.tree.now c.args.store.now) c.args.parent.now c.in-Branch.field-0)
