use Rattle.debug_session.proofs.AskLemmas.{roll-value-nothing, blame-nothing, value-nothing}
use Rattle.debug_session.proofs.read.read_simple.Goals as goal

pub returns-in_err-read_variable-in-RollValue : goal.returns-in_err-read_variable-in-RollValue
returns-in_err-read_variable-in-RollValue c =
    rw c.from_residual-in_err-read_variable-in-RollValue.ensures
    (roll-value-nothing c.args.system.now c.args.keyword c.args.rest.now c.in-RollValue.is c.in_err-read_variable-in-RollValue.ensures)

pub returns-in_err-read_variable-in-Blame : goal.returns-in_err-read_variable-in-Blame
returns-in_err-read_variable-in-Blame c =
    rw c.from_residual-in_err-read_variable-in-Blame.ensures
    (blame-nothing c.args.system.now c.args.keyword c.args.rest.now c.in-Blame.is c.in_err-read_variable-in-Blame.ensures)

pub returns-in_err-read_variable-in-Value : goal.returns-in_err-read_variable-in-Value
returns-in_err-read_variable-in-Value c =
    rw c.from_residual-in_err-read_variable-in-Value.ensures
    (value-nothing c.args.system.now c.args.keyword c.args.rest.now c.in-Value.is c.in_err-read_variable-in-Value.ensures)
