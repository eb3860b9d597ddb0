use Rattle.std.proofs.Common.{◌∙◌, ap, refl, sym, subst}
use Rattle.runs.specs.Live.{IsLive, ConsequencesList}
use Rattle.machine.specs.AtMachine.{AtMachine}
use Rattle.machine.specs.internal.Histories.{tree_of}
use Rattle.machine.proofs.public.Standing.{stands-same}
use Rattle.machine.proofs.machine.Machine.mark_consequences.Goals as goal

pub mark_consequences-requires : goal.mark_consequences-requires
mark_consequences-requires c = subst (λ (h : AtMachine). IsLive h.live c.args.ticket) (sym c.self.view_is) c.requires

pub returns-clause-marked : goal.returns-clause-marked
returns-clause-marked c =
    subst (λ (h : AtMachine). ConsequencesList h.live c.args.ticket c.mark_consequences.new.self.marked) c.self.view_is c.mark_consequences.ensures.marked

pub returns-clause-live : goal.returns-clause-live
returns-clause-live c = c.mark_consequences.ensures.live ∙ ap (λ (h : AtMachine). h.live) c.self.view_is

pub invariant_of-self : goal.invariant_of-self
invariant_of-self c =
    let h = c.self.inside.history in (
      stands-same c.self.inside.system (tree_of h) (tree_of h) h.live.live c.mark_consequences.new.self.live h.inverses h.inverses h.next h.next
          c.self.invariant.0 refl c.mark_consequences.ensures.live refl refl,
      c.self.invariant.1,
    )
