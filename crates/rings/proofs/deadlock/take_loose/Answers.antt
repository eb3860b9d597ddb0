use Rattle.std.proofs.lemmas.Result.{on_ok_weaker}
use Rattle.rings.specs.internal.Loosening.{Loosened}
use Rattle.rings.proofs.Holding.{above-within, begins, tells-deadlocked}
use Rattle.rings.proofs.deadlock.take_loose.Goals as goal

pub counts_of-requires : goal.counts_of-requires
counts_of-requires c = above-within c.args.tables.now c.args.actions.now c.args.partners.now c.requires.tables

pub loosen_all-requires : goal.loosen_all-requires
loosen_all-requires c = record {
  partners = c.requires.partners;
  tables = c.requires.tables;
  begun = begins c.args.actions.now c.args.partners.now c.args.helped.now c.args.marks.now.items c.args.tables.now c.in_ok-counts.counts.items c.in_ok-todo.todo.items
      c.requires.size c.requires.set c.in_ok-counts.ensures.size c.in_ok-counts.ensures.counted c.in_ok-todo.ensures;
}

pub returns : goal.returns
returns c = λ r help given told.
    on_ok_weaker c.loosen_all.result
    (λ (whole : Loosened c.args.actions.now c.args.partners.now c.args.helped.now c.loosen_all.new.marks.items c.args.tables.now c.loosen_all.new.counts.items c.loosen_all.new.todo.items).
    tells-deadlocked c.args.actions.now c.args.partners.now c.args.helped.now c.loosen_all.new.marks.items c.args.tables.now c.loosen_all.new.counts.items c.loosen_all.new.todo.items
    whole.loosening whole.firm r help given told) c.loosen_all.ensures
