use Rattle.std.proofs.Common.{ℕ, Err, refl}
use Rattle.dependence.proofs.public.ListPlaces.{searched-by}
use Rattle.dependence.proofs.indexes.index_in.Goals as goal

pub returns-in-Err : goal.returns-in-Err
returns-in-Err c =
    let facts = c.in-Err.ensures in
    let none = searched-by (λ (x : ℕ). x) c.args.tickets.now c.args.ticket c.requires (Err c.in-Err.field-0) facts.bound facts.position in
    λ i. none c.args.ticket i refl
