use Rattle.rings.proofs.deadlock.firm_among.Goals as goal

pub take_loose-requires : goal.take_loose-requires
take_loose-requires c = record {
  partners = c.requires.partners;
  tables = c.requires.tables;
  size = c.in_ok-marks.ensures.size;
  set = c.in_ok-marks.ensures.set;
}

pub returns : goal.returns
returns c = λ r help given told. c.in_ok-take_loose.ensures r help given told
