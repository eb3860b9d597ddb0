use Rattle.std.proofs.Common.{Option, ◌∙◌, sym, ap, codes}
use Rattle.std.specs.Prelude.{unwrap_or}
use Rattle.serde_json.specs.Data.{Data, null}
use Rattle.serde_json.specs.View.{members_view, view}
use Rattle.dap_messages.proofs.Reading.{no_object, of_object, view_null}
use Rattle.dap_messages.proofs.request.arguments_of.Goals as goal

pub returns-in-Some : goal.returns-in-Some
returns-in-Some c =
    c.taken.ensures
    ∙ ap (λ (o : Option Data). unwrap_or o null)
    (sym (of_object (codes "arguments") (view c.args.value) (members_view c.in-Some.members.now.entries) (sym c.in-Some.ensures.value)))

pub returns : goal.returns
returns c =
    view_null
    ∙ ap (λ (o : Option Data). unwrap_or o null) (sym (no_object (codes "arguments") (view c.args.value) (sym c.in-None.ensures.value)))
