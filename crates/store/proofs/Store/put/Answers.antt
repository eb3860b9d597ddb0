-- What stood there, written again, takes the write back.
use Rattle.std.proofs.Common.{set-set}
use Rattle.std.proofs.lemmas.List.{set-get_or}
use Rattle.store.proofs.Store.put.Goals as goal

pub returns-clause-back : goal.returns-clause-back
returns-clause-back c = rw (c.put_back.ensures, c.get-old.ensures, set-set, set-get_or)
