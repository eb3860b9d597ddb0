use Rattle.system.proofs.Insertions.{inserted_all-binary}
use Rattle.system.proofs.expression.Expression.+add_variables.Goals as goal

-- first those of the left operand, then those of the right
pub returns-in_ok-add_variables-in-Binary-2 : goal.returns-in_ok-add_variables-in-Binary-2
returns-in_ok-add_variables-in-Binary-2 t c =
    rw c.in-Binary.is (inserted_all-binary c.in-Binary.field-0 c.in-Binary.left c.in-Binary.right c.args.found.now c.add_variables.new.found c.add_variables-in-Binary.new.found
    (rw c.get.ensures at c.in_ok-add_variables-in-Binary.ensures) (rw c.get-in-Binary.ensures at c.in_ok-add_variables-in-Binary-2.ensures))
