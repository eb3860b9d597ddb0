use Rattle.std.proofs.Common.{None, Some}
use Rattle.serde_json.specs.Data.{object}
use Rattle.serde_json.specs.View.{members_view}
use Rattle.dap_requests.proofs.public.Saying.{ends_now}
use Rattle.dap.proofs.begin.tell_end.Goals as goal

pub returns : goal.returns
returns c =
    ends_now c.args.answer.now c.note.new.self c.tell.new.self (Some (object (members_view c.number.new.self.made.entries))) None
    c.note.ensures.adds c.tell.ensures
