use Rattle.serde_json.specs.View.{view}
use Rattle.dap_requests.proofs.Listing.{located}
use Rattle.dap_requests.proofs.places.locations.Goals as goal

pub returns-in-Some : goal.returns-in-Some
returns-in-Some c =
    located c.args.machine.now.checked.main (view c.args.request.now.arguments) c.args.program.now c.give_made.new.answer c.path_in.result.now
    c.is_at-own.result c.number.result c.in-Some.line c.last_asked-last.result c.places_on-places.result c.number.ensures c.in-Some.is
    c.path_in.ensures c.is_at-own.ensures c.last_asked-last.ensures c.places_on-places.ensures c.give_made.ensures.list
