use Rattle.std.proofs.Common.{◌∙◌, ap, drop, List, Some, None}
use Rattle.system.specs.Named.{variable_from}
use Rattle.system.specs.declared.system.Variable.{Variable}
use Rattle.system.proofs.HashLemmas.{number-read}
use Rattle.system.proofs.variable_table.VariableTable.number.Goals as goal

pub returns-in-Some : goal.returns-in-Some
returns-in-Some c =
    c.number_from.ensures
    ∙ (ap (λ (vs : List Variable). variable_from c.in-Some.position (drop c.in-Some.position vs) c.args.name.now) c.as_slice.ensures
    ∙ number-read c.self.inside.positions c.self.inside.variables c.args.self.now c.args.name.now c.hash_onto.result c.find.result
    (Some c.in-Some.position) c.self.invariant c.self.view_is c.hash_onto.ensures c.find.ensures c.in-Some.is)

pub returns-in-None : goal.returns-in-None
returns-in-None c =
    number-read c.self.inside.positions c.self.inside.variables c.args.self.now c.args.name.now c.hash_onto.result c.find.result None
    c.self.invariant c.self.view_is c.hash_onto.ensures c.find.ensures c.in-None.is
