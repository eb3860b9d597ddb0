use Rattle.std.proofs.Common.{◌++◌, ◌∙◌, ℕ, List, ap}
use Rattle.std.proofs.lemmas.Result.{on_ok_weaker}
use Rattle.dap_server.specs.Short as model
use Rattle.dap_server.proofs.short.add_short_name.Goals as goal

pub returns : goal.returns
returns c =
    on_ok_weaker c.add_text.result
    (λ h. h ∙ ap (λ (t : List ℕ). c.args.body.now.items ++ t) (c.short_name.ensures ∙ ap model.short_name c.as_str.ensures.value))
    c.add_text.ensures
