use Rattle.std.proofs.Common.{codes, refl}
use Rattle.serde_json.specs.View.{view}
use Rattle.serde_json.specs.declared.value.Value.TheVariants.{Array}
use Rattle.dap_requests.proofs.public.Saying.{stop_lacking, stop_stays}
use Rattle.dap_requests.proofs.said.add_hits.Goals as goal

pub returns-in-Ok : goal.returns-in-Ok
returns-in-Ok c = λ why branch h.
    stop_stays c.args.body.now c.value.new.self why branch (codes "hitBreakpointIds") (view (Array c.in-Ok.hits)) refl refl c.value.ensures h

pub returns-in-Err : goal.returns-in-Err
returns-in-Err c = λ why branch h. stop_lacking c.lack.new.self why branch c.lack.ensures
