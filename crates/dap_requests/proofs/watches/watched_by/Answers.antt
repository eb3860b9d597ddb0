use Rattle.std.proofs.Common.{Option, ap, arith, ◌∙◌}
use Rattle.std.proofs.lemmas.Str.Pattern.{split_once_first}
use Rattle.dap_views.specs.declared.index.Thing.{Thing}
use Rattle.dap_requests.specs.Sets.{watched_as}
use Rattle.dap_requests.proofs.Setting.{watched_none, watched_parts}
use Rattle.dap_requests.proofs.watches.watched_by.Goals as goal

pub returns-in-Some : goal.returns-in-Some
returns-in-Some c =
    let split = split_once_first 32 c.args.id.now c.split_once.result c.split_once.ensures.cases (omega arith) in
    let parts = rw c.in-Some.is at split in
    watched_parts c.args.program.now.index c.args.id.now c.in-Some.parts.0.now c.in-Some.parts.1.now c.watched_as.result parts.0 parts.1 parts.2
    (c.watched_as.ensures ∙ ap (λ (t : Option Thing). watched_as c.in-Some.parts.0.now t) c.find.ensures)

pub returns-in-None : goal.returns-in-None
returns-in-None c =
    let split = split_once_first 32 c.args.id.now c.split_once.result c.split_once.ensures.cases (omega arith) in
    watched_none c.args.program.now.index c.args.id.now (rw c.in-None.is at split)
