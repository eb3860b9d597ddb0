use Rattle.std.proofs.Common.{refl, inl, inr}
use Rattle.debug_session.specs.declared.fault.Fault.{Fault}
use Rattle.debug_session.proofs.AcceptLemmas.{told}
use Rattle.debug_session.proofs.AskLemmas.{UnsaidBy, step-nothing, found-by, nothing-by}
use Rattle.debug_session.proofs.read.read_behind.Goals as goal

pub returns-in-None-clause-fault : goal.returns-in-None-clause-fault
returns-in-None-clause-fault c =
    inr (refl, step-nothing c.args.system.now c.args.keyword c.args.rest.now c.in-Step.is (rw c.in-None.is at c.in_ok-choice-in-Step.ensures.found))

pub returns-in_err-choice-in-Step-clause-fault : goal.returns-in_err-choice-in-Step-clause-fault
returns-in_err-choice-in-Step-clause-fault c =
    told c.from_residual.result Fault.Memory (UnsaidBy c.args.system.now c.args.keyword c.args.rest.now c.args.number) c.from_residual.ensures.1
    (inl (refl, c.in-Step.is, c.in_err-choice-in-Step.ensures.memory))

pub returns-in_default-clause-line : goal.returns-in_default-clause-line
returns-in_default-clause-line c =
    found-by c.args.system.now c.args.keyword c.args.rest.now c.args.number c.read_simple.result c.or_fault.result c.or_fault.ensures c.read_simple.ensures

pub returns-in_default-clause-fault : goal.returns-in_default-clause-fault
returns-in_default-clause-fault c =
    nothing-by c.args.system.now c.args.keyword c.args.rest.now c.args.number c.read_simple.result c.or_fault.result c.or_fault.ensures c.read_simple.ensures
