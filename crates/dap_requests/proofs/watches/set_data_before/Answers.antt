use Rattle.std.proofs.Common.{Option, subst}
use Rattle.serde_json.specs.Data.{Items}
use Rattle.dap_requests.specs.Sets.{TellsNoData}
use Rattle.dap_requests.proofs.watches.set_data_before.Goals as goal

pub returns-in-Some : goal.returns-in-Some
returns-in-Some c = subst (λ (o : Option Items). TellsNoData o c.give_unwatched.new.answer) c.in-Some.ensures.items c.give_unwatched.ensures

pub returns-in-None : goal.returns-in-None
returns-in-None c = subst (λ (o : Option Items). TellsNoData o c.items_in.new.answer) c.in-None.ensures.items c.in-None.ensures.answer
