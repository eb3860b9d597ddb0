use Rattle.std.proofs.Common.{◌∙◌, Some, None}
use Rattle.elaborate.proofs.LookupLemmas.{entry-read}
use Rattle.elaborate.proofs.lookups.NamedEntries.find.Goals as goal

pub returns-in-Some : goal.returns-in-Some
returns-in-Some c =
    c.entry_at.ensures
    ∙ entry-read c.self.inside.positions c.self.inside.entries.now c.args.self.now c.args.name.now c.find.result (Some c.in-Some.position)
    c.self.invariant c.self.view_is c.find.ensures c.in-Some.is

pub returns-in-None : goal.returns-in-None
returns-in-None c =
    entry-read c.self.inside.positions c.self.inside.entries.now c.args.self.now c.args.name.now c.find.result None
    c.self.invariant c.self.view_is c.find.ensures c.in-None.is
