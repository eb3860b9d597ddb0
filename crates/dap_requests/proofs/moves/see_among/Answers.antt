use Rattle.std.proofs.Common.{◌∙◌, None, refl}
use Rattle.dap_requests.proofs.Forward.{seen_first, seen_whole}
use Rattle.dap_requests.proofs.moves.see_among.Goals as goal

pub returns-in-Some : goal.returns-in-Some
returns-in-Some c =
    seen_first c.see.result c.args.branch c.args.machine.now c.system-system.result.now c.args.events.now c.as_slice.result.now c.in-Some.event.now
    c.args.seen.now.items c.see.new.seen.items (c.system-system.ensures ∙ c.checked.ensures) c.as_slice.ensures c.requires c.in-Some.ensures
    c.see.ensures

pub returns-in-None : goal.returns-in-None
returns-in-None c = λ d same.
    seen_whole d c.args.branch c.args.machine.now c.system-system.result.now c.args.events.now c.as_slice.result.now None c.args.seen.now.items
    c.args.seen.now.items same (c.system-system.ensures ∙ c.checked.ensures) c.as_slice.ensures c.requires c.in-None.ensures refl
