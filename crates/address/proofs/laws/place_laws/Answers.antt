-- The laws of places.
use Rattle.address.proofs.public.Places.{before-is-fork, apart-is-fork, before-irreflexive, before-transitive, apart-irreflexive, apart-symmetric, before-not-apart}
use Rattle.address.proofs.laws.place_laws.Goals as goal

pub returns : goal.returns
returns c = record {
  before = before-is-fork;
  apart = apart-is-fork;
  order = (before-irreflexive, before-transitive);
  symmetric = (apart-irreflexive, apart-symmetric);
  disjoint = before-not-apart;
}
