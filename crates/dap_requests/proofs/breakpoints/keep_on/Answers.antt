use Rattle.std.proofs.Common.{Some, Global, Vec, ap, ◌∙◌}
use Rattle.serde_json.specs.Find.{as_array}
use Rattle.serde_json.specs.View.{items_view}
use Rattle.serde_json.specs.declared.value.Value.{Value}
use Rattle.serde_json.proofs.Views.{view-Array}
use Rattle.dap_requests.specs.Sets.{texts_of}
use Rattle.dap_requests.proofs.Moving.{tells_around}
use Rattle.dap_requests.proofs.breakpoints.keep_on.Goals as goal

pub returns-clause-told : goal.returns-clause-told
returns-clause-told c = λ full.
    c.give.ensures.list full ∙ ap as_array (view-Array c.keep-shown.result) ∙ ap (λ (v : Vec Value Global). Some (items_view v.items)) c.keep-shown.ensures.shown

pub returns-clause-tells : goal.returns-clause-tells
returns-clause-tells c =
    tells_around c.args.answer.now c.did.new.self c.keep-shown.new.answer c.give.new.answer (texts_of c.args.placing.moved.items) c.did.ensures.same
    c.did.ensures.lacks c.keep-shown.ensures.tells c.give.ensures.quiet c.give.ensures.lacks
