-- The laws of the canonical order.
use Rattle.trace_file.proofs.public.Canonicals.{canonical-respects, canonical-runs, orders-agree, one-canonical-order, is-its-own-order}
use Rattle.trace_file.proofs.Placing.{some-canonical-order}
use Rattle.trace_file.proofs.laws.canonical_laws.Goals as goal

pub returns-clause-respects : goal.returns-clause-respects
returns-clause-respects c = canonical-respects

pub returns-clause-runs : goal.returns-clause-runs
returns-clause-runs c = canonical-runs

pub returns-clause-agree : goal.returns-clause-agree
returns-clause-agree c = orders-agree

pub returns-clause-one : goal.returns-clause-one
returns-clause-one c = one-canonical-order

pub returns-clause-some : goal.returns-clause-some
returns-clause-some c = some-canonical-order

pub returns-clause-own : goal.returns-clause-own
returns-clause-own c = is-its-own-order
