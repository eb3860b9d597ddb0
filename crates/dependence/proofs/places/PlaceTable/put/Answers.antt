use Rattle.std.proofs.Common.{List, sym, subst}
use Rattle.address.specs.declared.Entry.{Entry}
use Rattle.dependence.specs.LastEvents.{Orderly, LastBefore}
use Rattle.dependence.specs.internal.Seats.{Places}
use Rattle.dependence.proofs.LastLaws.{none-group, all-before}
use Rattle.dependence.proofs.ListLaws.{on-ok}
use Rattle.dependence.proofs.places.PlaceTable.put.Goals as goal

pub put-requires : goal.put-requires
put-requires c = record {
  nearest = none-group;
  orderly = subst (λ (es : Places). Orderly es c.entries.result.now) (sym c.self.view_is)
      (subst (λ (a : List Entry). Orderly c.args.self.now a) (sym c.entries.ensures) c.requires);
}

pub returns-clause-found : goal.returns-clause-found
returns-clause-found c =
    on-ok c.put.result
    (λ added.
    subst (λ (es : Places). LastBefore es c.args.place.now c.args.found.now.items c.put.new.found.items) c.self.view_is
    (subst (λ (a : List Entry). LastBefore c.self.inside.events a c.args.found.now.items c.put.new.found.items) c.entries.ensures
    (all-before c.self.inside.events c.entries.result.now c.args.found.now.items c.put.new.found.items added)))
    c.put.ensures.found
