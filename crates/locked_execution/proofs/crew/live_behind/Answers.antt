use Rattle.std.proofs.Common.{◌∙◌, ap, length, subst}
use Rattle.recorded_calls.specs.History.{NoCallsFrom}
use Rattle.locked_object.specs.Keepers.{history}
use Rattle.locked_execution.proofs.crew.live_behind.Goals as goal

pub returns : goal.returns
returns c =
    let k = c.show_all.new.keeper in
    let shown = c.show_all.ensures in
    record {
      log = history k;
      left = k.object;
      replays = shown.keeper.replays;
      all = shown.all;
      no_others = subst (λ n. NoCallsFrom n (history k)) (shown.count ∙ c.requires.count) shown.keeper.notes.no_others;
      counts = c.len.ensures ∙ ap length c.live_events.ensures.live
          ∙ ap (λ m. length m.live) (c.into_machine-machine.ensures ∙ ap (λ d. d.machine) c.into_object.ensures);
    }
