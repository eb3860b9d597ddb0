use Rattle.std.proofs.Common.{sym, subst}
use Rattle.runs.specs.Live.{Live}
use Rattle.dependence.specs.internal.Tables.{IsRising, CountsAmong}
use Rattle.dependence.proofs.Counting.{from-rises, counts-from}
use Rattle.dependence.proofs.count.count_from.Goals as goal

pub iter_from-requires : goal.iter_from-requires
iter_from-requires c = (c.requires.first.event, c.requires.first.live)

pub count_among-requires : goal.count_among-requires
count_among-requires c =
    let on = c.iter_from.ensures.events in
    record {
      rising = subst (λ (k : Live). IsRising k) (sym on.2)
          (from-rises c.args.list.now.live c.args.ticket c.args.first on.0 c.event_of.result.now on.1.0 c.requires.rising c.event_of.ensures on.1.1 c.requires.first);
      fits = c.iter_from.ensures.fits;
    }

pub returns : goal.returns
returns c =
    let on = c.iter_from.ensures.events in
    counts-from c.args.list.now.live c.args.ticket c.args.first on.0 c.event_of.result.now on.1.0 c.requires.rising c.event_of.ensures on.1.1 c.requires.first
    c.count_among.result (subst (λ (k : Live). CountsAmong c.event_of.result.now k c.count_among.result) on.2 c.count_among.ensures)
