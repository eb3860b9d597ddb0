use Rattle.std.proofs.Common.{◌∙◌}
use Rattle.dap_threads.proofs.Around.{all_places}
use Rattle.dap_threads.proofs.places.places_in.Goals as goal

pub returns : goal.returns
returns c =
    all_places c.args.machine.now.checked c.system-system.result.now c.args.sight.now c.args.branch c.new-found.result.items
    c.add_ranked.new.found.items c.add_ranked-2.new.found.items c.add_ranked-3.new.found.items (c.system-system.ensures ∙ c.checked.ensures)
    c.new-found.ensures.items c.in_ok-add_ranked.ensures c.in_ok-add_ranked-2.ensures c.in_ok-add_ranked-3.ensures
