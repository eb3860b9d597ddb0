-- What is saved loads again.
use Rattle.trace_file.proofs.FaultLemmas.{not-refused, one-fault}
use Rattle.trace_file.proofs.LawLemmas.{one-list, equal-bytes, trace-stands, loads-the-same}
use Rattle.trace_file.proofs.laws.trace_laws.Goals as goal

pub returns-clause-list : goal.returns-clause-list
returns-clause-list c = one-list

pub returns-clause-refused : goal.returns-clause-refused
returns-clause-refused c = not-refused

pub returns-clause-fault : goal.returns-clause-fault
returns-clause-fault c = one-fault

pub returns-clause-equal : goal.returns-clause-equal
returns-clause-equal c = equal-bytes

pub returns-clause-saved : goal.returns-clause-saved
returns-clause-saved c = trace-stands

pub returns-clause-loaded : goal.returns-clause-loaded
returns-clause-loaded c = loads-the-same
