use Rattle.std.proofs.Common.{ℕ, Err, refl}
use Rattle.dependence.proofs.public.ListPlaces.{searched-by}
use Rattle.past.proofs.told.place_of.Goals as goal

pub unreachable-requires : goal.unreachable-requires
unreachable-requires c =
    let facts = c.in-Err.ensures in
    let none = searched-by (λ (x : ℕ). x) c.args.tickets.now c.args.ticket c.requires.ascending (Err c.in-Err.field-0) facts.bound facts.position in
    none c.args.ticket c.requires.among refl
