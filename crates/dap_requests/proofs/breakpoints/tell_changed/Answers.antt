use Rattle.std.proofs.Common.{◌++◌, Vec, Global, subst}
use Rattle.serde_json.specs.declared.value.Value.{Value}
use Rattle.dap_requests.specs.Said.{Tells}
use Rattle.dap_requests.specs.Sets.{changes_of, texts_of}
use Rattle.dap_requests.proofs.public.Saying.{tells_on}
use Rattle.dap_requests.proofs.breakpoints.tell_changed.Goals as goal

pub returns-clause-tells : goal.returns-clause-tells
returns-clause-tells c =
    let texts = texts_of c.args.placing.moved.items in
    subst (λ (v : Vec Value Global). Tells c.args.answer.now (texts ++ changes_of v.items) c.tell_each.new.answer) c.keep-told.ensures.shown
    (tells_on c.args.answer.now c.keep-told.new.answer c.tell_each.new.answer texts (changes_of c.keep-told.result.items) c.keep-told.ensures.tells
    c.tell_each.ensures.tells)
