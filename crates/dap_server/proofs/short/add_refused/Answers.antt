use Rattle.std.proofs.Common.{ℕ, List, ◌++◌, ◌∙◌, ap, append_assoc, codes}
use Rattle.std.proofs.lemmas.Result.{on_ok_weaker}
use Rattle.dap_server.specs.Short.{refused_words}
use Rattle.dap_server.proofs.short.add_refused.Goals as goal

pub returns : goal.returns
returns c =
    let words = refused_words c.args.why in
    on_ok_weaker c.add_refused_words.result
    (λ there. there ∙ ap (λ (t : List ℕ). t ++ words) c.in_ok-extend_from_slice.ensures.items
    ∙ append_assoc c.args.body.now.items (codes ",\"allThreadsStopped\":true,\"text\":\"") words) c.add_refused_words.ensures
