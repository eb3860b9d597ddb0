use Rattle.std.proofs.Common.{inl, ◌∙◌, ℕ, List, get_or, subst}
use Rattle.syntax.specs.Lists.{In}
use Rattle.dependence.specs.internal.Found.{AccessesFound, WritesOneRead}
use Rattle.dependence.proofs.Candidacy.{found-none, writers-next}
use Rattle.dependence.proofs.public.ListPlaces.{in-read, take-all}
use Rattle.dependence.proofs.public.Tabling.{read-next}
use Rattle.dependence.proofs.accesses.NewEvent.add_by_reads.Goals as goal

pub loop-variable-init : goal.loop-variable-init
loop-variable-init c = found-none c.args.self.now.list.now.live c.args.self.now.event.now _ c.args.found.now.items (λ t e i none. none.1)

pub add_writer-requires-clause-uses : goal.add_writer-requires-clause-uses
add_writer-requires-clause-uses c =
    inl (subst (λ (k : List ℕ). In (get_or c.as_slice-variable-items.result.now c.loop-variable.variable-index 0) k) c.as_slice-variable-items.ensures (in-read c.as_slice-variable-items.result.now c.loop-variable.variable-index c.loop-variable-test.true))

pub loop-variable-preserved : goal.loop-variable-preserved
loop-variable-preserved c =
    writers-next c.args.self.now.list.now.live c.args.self.now.event.now _ _ _ c.args.found.now.items c.loop-variable.found.items c.add_writer.new.found.items
    (read-next c.as_slice-variable-items.result.now c.loop-variable.variable-index c.loop-variable-test.true) c.loop-variable.invariant c.in_ok-add_writer.ensures

pub returns : goal.returns
returns c =
    subst (λ (k : List ℕ). AccessesFound c.args.self.now.list.now.live c.args.self.now.event.now (WritesOneRead c.args.self.now.list.now.live k) c.args.found.now.items c.loop-variable.found.items)
    (take-all c.as_slice-variable-items.result.now c.loop-variable.variable-index c.loop-variable-test.false ∙ c.as_slice-variable-items.ensures) c.loop-variable.invariant
