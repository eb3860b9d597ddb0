use Rattle.std.proofs.Common.{Option, ◌∙◌, ap, codes, option_map}
use Rattle.std.specs.Prelude.{unwrap_or}
use Rattle.serde_json.specs.Data.{Data, null}
use Rattle.serde_json.specs.View.{view}
use Rattle.serde_json.specs.declared.value.Value.{Value}
use Rattle.serde_json.proofs.Views.{view-lookup}
use Rattle.dap_messages.proofs.Reading.{view_null}
use Rattle.dap_messages.proofs.request.taken.Goals as goal

pub returns-in-Some : goal.returns-in-Some
returns-in-Some c =
    ap (λ (o : Option Data). unwrap_or o null)
    (ap (λ (o : Option Value). option_map view o) c.in-Some.ensures.value ∙ view-lookup (codes "arguments") c.args.members.now.entries)

pub returns-in-None : goal.returns-in-None
returns-in-None c =
    view_null
    ∙ ap (λ (o : Option Data). unwrap_or o null)
    (ap (λ (o : Option Value). option_map view o) c.in-None.ensures.value ∙ view-lookup (codes "arguments") c.args.members.now.entries)
