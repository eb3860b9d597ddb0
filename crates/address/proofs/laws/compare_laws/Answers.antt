-- The laws of the order of addresses.
use Rattle.address.proofs.public.Total.{ties-are-equal, order-antisymmetric, order-transitive, order-total, before-is-less}
use Rattle.address.proofs.laws.compare_laws.Goals as goal

pub returns : goal.returns
returns c = record {
  ties = ties-are-equal;
  antisymmetric = order-antisymmetric;
  transitive = order-transitive;
  total = order-total;
  extends = before-is-less;
}
