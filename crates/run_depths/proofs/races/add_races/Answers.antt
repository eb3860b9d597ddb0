use Rattle.std.proofs.Common.{◌-◌, ◌<◌, ℕ, List, length, drop, get_or, sym, subst, arith}
use Rattle.dependence.proofs.public.ListPlaces.{in-at, in-read}
use Rattle.run_depths.specs.internal.RacesSoFar.{RacesWith}
use Rattle.run_depths.proofs.RaceLaws.{all-seen, lead-next, none-seen, races-begin, races-end, races-next, seen-less}
use Rattle.run_depths.proofs.races.add_races.Goals as goal

pub leads-leads-requires : goal.leads-leads-requires
leads-leads-requires c = (
  c.args.event.now,
  in-at c.args.live.now.live c.args.index (c.args.ticket, c.args.event.now) c.requires.stands,
)

pub loop-back-init : goal.loop-back-init
loop-back-init c =
    races-begin c.args.live.now.live c.args.index (drop (length c.leads-leads.result.now - 0) c.leads-leads.result.now) c.args.races.now.items
    (none-seen c.leads-leads.result.now) c.requires.so_far

pub race_with-requires-clause-follows : goal.race_with-requires-clause-follows
race_with-requires-clause-follows c =
    let test = c.loop-back-test.true in
    let less : length c.leads-leads.result.now - 1 - c.loop-back.back < length c.leads-leads.result.now = omega arith in
    (c.leads-leads.ensures.exactly _).0 (in-read c.leads-leads.result.now (length c.leads-leads.result.now - 1 - c.loop-back.back) less)

pub loop-back-preserved : goal.loop-back-preserved
loop-back-preserved c =
    let rising = c.is_sound.ensures.rising in
    subst (λ (seen : List ℕ). RacesWith c.args.live.now.live c.args.index seen c.add_race.new.races.items)
    (sym (lead-next c.leads-leads.result.now c.loop-back.back c.loop-back-test.true))
    (races-next 0 rising.0 c.args.live.now.live c.args.index c.args.ticket
    (get_or c.leads-leads.result.now (length c.leads-leads.result.now - 1 - c.loop-back.back) 0) c.args.event.now
    (drop (length c.leads-leads.result.now - c.loop-back.back) c.leads-leads.result.now) c.loop-back.races.items c.add_race.new.races.items
    c.race_with.result rising.1 c.requires.stands
    (λ t j. seen-less c.leads-leads.result.now c.loop-back.back t c.loop-back-test.true c.leads-leads.ensures.falling j) c.race_with.ensures
    c.in_ok-add_race.ensures c.loop-back.invariant)

pub returns : goal.returns
returns c =
    races-end c.args.live.now.live c.args.index c.args.ticket c.args.event.now c.leads-leads.result.now
    (drop (length c.leads-leads.result.now - c.loop-back.back) c.leads-leads.result.now) c.loop-back.races.items c.requires.stands
    (all-seen c.leads-leads.result.now c.loop-back.back c.loop-back-test.false) (λ t f. (c.leads-leads.ensures.exactly t).1 f) c.loop-back.invariant
