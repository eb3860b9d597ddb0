use Rattle.std.proofs.Common.{subst}
use Rattle.runs.specs.Object.{Reaches}
use Rattle.event_inverse.specs.Grown.{state_of_tree}
use Rattle.machine.specs.AtMachine.{AtMachine, object}
use Rattle.machine.specs.internal.Histories.{tree_of}
use Rattle.machine.proofs.public.Standing.{stands-reaches, stands-tidy}
use Rattle.machine.proofs.machine.Machine.state.Goals as goal

pub returns : goal.returns
returns c =
    let h = c.self.inside.history in
    let reaches = stands-reaches c.self.inside.system (tree_of h) h.live.live h.inverses h.next c.self.invariant.0 in
    record {
      reaches = subst (λ (m : AtMachine). Reaches (object m) (state_of_tree (tree_of h))) c.self.view_is reaches;
      tidy = stands-tidy c.self.inside.system (tree_of h) h.live.live h.inverses h.next c.self.invariant.0;
    }
