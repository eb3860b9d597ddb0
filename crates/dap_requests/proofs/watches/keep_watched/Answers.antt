use Rattle.std.proofs.Common.{ap, inl, inr, refl, ◌∙◌}
use Rattle.serde_json.specs.Find.{as_array}
use Rattle.dap_requests.proofs.watches.keep_watched.Goals as goal

pub returns-in-Some : goal.returns-in-Some
returns-in-Some c = inl (refl, λ full. (c.in-Some.ensures.0, c.give.ensures.list full ∙ ap as_array c.in-Some.ensures.1))

pub returns-in-None : goal.returns-in-None
returns-in-None c = inr (refl, refl)
