use Rattle.std.proofs.Common.{◌≡◌, ◌+◌, ◌-◌, ◌++◌, false, subst, sym}
use Rattle.serde_json.specs.View.{items_view}
use Rattle.dap_messages.specs.declared.members.Listed.{Listed}
use Rattle.dap_requests.specs.Lists.{each}
use Rattle.dap_requests.specs.Locations.{line_told, stops_from, told_lines}
use Rattle.dap_requests.proofs.Listing.{places_passed, places_pushed}
use Rattle.dap_requests.proofs.places.places_before.Goals as goal
use Rattle.dap_requests.proofs.places.places_before.Goals.{in-Some, in-None}

pub loop-line-preserved : goal.loop-line-preserved
loop-line-preserved c =
    let main = c.args.machine.now.checked.main in
    let p = c.args.program.now in
    let line = c.loop-line.line in
    let behind = c.args.behind in
    let all = told_lines p (stops_from main c.args.first (behind - c.args.first)) in
    let TellsOn : Listed → Type 0 =
    λ list. list.lacks ≡ false → each line_told (items_view list.made.items) ++ told_lines p (stops_from main (line + 1) (behind - (line + 1))) ≡ all in
    elim c.match-stop_in.branch [
      | in-Some w ↦
          subst TellsOn (sym w.list-is)
          (places_pushed main p line w.in-Some.stop behind c.loop-line.list w.push.new.self w.place.result all c.loop-line-test.true
          w.in-Some.ensures w.place.ensures w.push.ensures c.loop-line.invariant)
      | in-None w ↦
          subst TellsOn (sym w.list-is)
          (λ full. places_passed main p line behind (each line_told (items_view c.loop-line.list.made.items)) all c.loop-line-test.true
          w.in-None.ensures (c.loop-line.invariant full))
    ]
