use Rattle.std.proofs.Common.{◌≡◌, Bool, sym, subst}
use Rattle.std.specs.Bool.{Decides}
use Rattle.address.proofs.public.Entries.{entry_eq-Decides}
use Rattle.dependence.proofs.ways.is_entry.Goals as goal

pub returns : goal.returns
returns c = subst (λ (r : Bool). Decides r (c.args.one ≡ c.args.other)) (sym c.eq.ensures) (entry_eq-Decides c.args.one c.args.other)
