use Rattle.std.proofs.Common.{Some}
use Rattle.serde_json.specs.Data.{object}
use Rattle.serde_json.specs.View.{members_view}
use Rattle.dap_requests.proofs.public.Saying.{says_one}
use Rattle.dap_requests.proofs.said.tell_outputs.Goals as goal

pub returns-then-not-is_empty : goal.returns-then-not-is_empty
returns-then-not-is_empty c =
    says_one c.args.answer.now c.note.new.self (Some (object (members_view c.text-then-not-is_empty.new.self.made.entries))) c.note.ensures.adds
