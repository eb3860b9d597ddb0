use Rattle.std.proofs.Common.{◌∙◌, ◌+◌, length, sym, ap, arith}
use Rattle.std.proofs.lemmas.List.{length_push}
use Rattle.runs.specs.Live.{Live}
use Rattle.dependence.proofs.public.Turns.{turn, turn-within, ended}
use Rattle.run_depths.proofs.public.Deepening.{rows-all, rows-next}
use Rattle.run_depths.proofs.ahead.all_ahead.Goals as goal

pub ahead_of-requires : goal.ahead_of-requires
ahead_of-requires c = (
  _,
  turn _ _ _ _ c.loop-index.yielded _ _ c.iter-ticket-items.ensures.events c.loop-index.invariant.counted c.loop-index.yielded_by c.in-Some.ensures.steps,
)

pub overflow_step-index : goal.overflow_step-index
overflow_step-index c =
    let within =
    turn-within _ _ _ _ c.loop-index.yielded _ _ c.iter-ticket-items.ensures.events c.loop-index.invariant.counted c.loop-index.yielded_by
    c.in-Some.ensures.steps in
    let same = ap (λ (l : Live). length l) c.iter-ticket-items.ensures.events in
    let fits = c.iter-ticket-items.ensures.fits in
    omega arith

pub loop-index-preserved : goal.loop-index-preserved
loop-index-preserved c =
    let at =
    turn _ _ _ _ c.loop-index.yielded _ _ c.iter-ticket-items.ensures.events c.loop-index.invariant.counted c.loop-index.yielded_by c.in-Some.ensures.steps in
    record {
      counted = ap (λ n. n + 1) c.loop-index.invariant.counted ∙ sym (length_push c.loop-index.yielded _);
      rows = rows-next c.args.live.now.live c.loop-index.rows c.push.new.self _ c.loop-index.index _ c.loop-index.invariant.rows (_, at)
          c.in_ok-ahead_of.ensures c.in_ok-push.ensures.ok;
    }

pub returns : goal.returns
returns c =
    rows-all c.args.live.now.live c.loop-index.rows c.loop-index.index c.loop-index.invariant.rows
    (c.loop-index.invariant.counted
    ∙ ended _ _ _ c.loop-index.yielded c.iter-ticket-items.ensures.events c.loop-index.yielded_by c.in-None.ensures.steps.0)
