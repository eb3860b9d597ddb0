use Rattle.std.proofs.Common.{List, ℕ, ap, sym, ◌∙◌, arith}
use Rattle.std.specs.Prelude.{slice_get}
use Rattle.dependence.proofs.public.Linking.{removed}
use Rattle.std.proofs.lemmas.Option.{slice_get_within}
use Rattle.dependence.proofs.links.remove.Goals as goal

pub returns-in-Some : goal.returns-in-Some
returns-in-Some c =
    removed c.args.tickets.now.items c.remove.new.self.items c.in-Some.index c.args.ticket
    (ap (λ (k : List ℕ). slice_get k c.in-Some.index) (sym c.as_slice.ensures) ∙ c.in-Some.ensures) c.requires c.remove.ensures.items

pub remove-requires : goal.remove-requires
remove-requires c = (
  omega arith,
  slice_get_within c.args.tickets.now.items c.in-Some.index c.args.ticket (ap (λ (k : List ℕ). slice_get k c.in-Some.index) (sym c.as_slice.ensures) ∙ c.in-Some.ensures),
)
