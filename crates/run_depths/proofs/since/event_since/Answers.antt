use Rattle.std.proofs.Common.{Option, inl, refl, subst, sym}
use Rattle.address.specs.Places.{Apart}
use Rattle.runs.specs.Moves.{Place}
use Rattle.dependence.proofs.public.ListPlaces.{in-at}
use Rattle.dependence.proofs.public.Tabling.{first-alone, first-put, orderly-put, put-kept, second-has, second-in, second-put}
use Rattle.run_depths.specs.Since.{IsSecondSince, IsSince}
use Rattle.run_depths.proofs.SinceLaws.{free-at, held, held-before, held-then, held-within, holds-next, orderly-at, placed-within, since-found}
use Rattle.run_depths.proofs.since.event_since.Goals as goal

pub put_since-requires-clause-orderly : goal.put_since-requires-clause-orderly
put_since-requires-clause-orderly c =
    let rising = c.is_sound.ensures.rising in
    orderly-at 0 rising.0 c.args.live.now.live c.args.index c.args.table.now c.args.event.now.first rising.1 c.requires.placed c.requires.table
    (c.args.ticket, c.args.event.now, c.requires.stands, inl refl)

pub put_since-requires-clause-inside : goal.put_since-requires-clause-inside
put_since-requires-clause-inside c =
    held-within c.args.live.now.live c.args.depths.now c.args.index c.args.table.now c.requires.depths c.requires.table

pub put_since-requires-in-Some-clause-orderly : goal.put_since-requires-in-Some-clause-orderly
put_since-requires-in-Some-clause-orderly c =
    let rising = c.is_sound.ensures.rising in
    orderly-put c.args.table.now c.put_since.new.table c.args.index c.args.event.now c.in-Some.second
    (λ b within. orderly-at 0 rising.0 c.args.live.now.live c.args.index c.args.table.now b rising.1 c.requires.placed c.requires.table
    (c.args.ticket, c.args.event.now, c.requires.stands, within))
    (λ z is. c.requires.placed.own c.args.ticket c.args.event.now z
    (in-at c.args.live.now.live c.args.index (c.args.ticket, c.args.event.now) c.requires.stands) is)
    c.in_ok-first.ensures.put c.in-Some.is

pub put_since-requires-in-Some-clause-inside : goal.put_since-requires-in-Some-clause-inside
put_since-requires-in-Some-clause-inside c = λ a i one.
    placed-within c.args.live.now.live c.args.depths.now i a c.requires.depths
    (held-then c.args.live.now.live c.args.index c.args.ticket c.args.event.now c.args.table.now c.put_since.new.table c.requires.table c.requires.stands
    c.in_ok-first.ensures.put a i one)

pub returns-in_ok-other-in-Some-clause-since : goal.returns-in_ok-other-in-Some-clause-since
returns-in_ok-other-in-Some-clause-since c =
    let rising = c.is_sound.ensures.rising in
    let first : IsSince c.args.live.now.live c.args.depths.now c.args.event.now.first c.in_ok-first.first =
    since-found 0 rising.0 c.args.live.now.live c.args.depths.now c.args.table.now c.args.event.now.first c.in_ok-first.first rising.1 c.requires.placed
    c.requires.depths (held c.args.live.now.live c.args.index c.args.table.now c.requires.table)
    (held-before 0 rising.0 c.args.live.now.live c.args.index c.args.table.now c.args.event.now.first rising.1 c.requires.placed c.requires.table
    (c.args.ticket, c.args.event.now, c.requires.stands, inl refl)) c.in_ok-first.ensures.since in
    let other : IsSince c.args.live.now.live c.args.depths.now c.in-Some.second c.in_ok-other-in-Some.other =
    since-found 0 rising.0 c.args.live.now.live c.args.depths.now c.put_since.new.table c.in-Some.second c.in_ok-other-in-Some.other rising.1
    c.requires.placed c.requires.depths
    (held-then c.args.live.now.live c.args.index c.args.ticket c.args.event.now c.args.table.now c.put_since.new.table c.requires.table c.requires.stands
    c.in_ok-first.ensures.put)
    (λ b i one before. put-kept c.args.table.now c.put_since.new.table c.args.event.now.first c.args.index c.in_ok-first.ensures.put
    (λ t at. free-at 0 rising.0 c.args.live.now.live c.args.index c.args.ticket c.args.event.now c.args.table.now rising.1 c.requires.placed
    c.requires.table c.requires.stands c.args.event.now.first t (inl refl) at)
    b i
    (held-before 0 rising.0 c.args.live.now.live c.args.index c.args.table.now c.in-Some.second rising.1 c.requires.placed c.requires.table
    (c.args.ticket, c.args.event.now, c.requires.stands, second-in c.args.event.now c.in-Some.second c.in-Some.is) b i one before))
    c.in_ok-other-in-Some.ensures.since in (
      first,
      subst (λ (o : Option Place). IsSecondSince c.args.live.now.live c.args.depths.now o c.in_ok-first.first c.in_ok-other-in-Some.other)
          (sym c.in-Some.is) other,
    )

pub returns-in_ok-other-in-Some-clause-table : goal.returns-in_ok-other-in-Some-clause-table
returns-in_ok-other-in-Some-clause-table c =
    let rising = c.is_sound.ensures.rising in
    let free = free-at 0 rising.0 c.args.live.now.live c.args.index c.args.ticket c.args.event.now c.args.table.now rising.1 c.requires.placed c.requires.table
    c.requires.stands in
    let apart : Apart c.args.event.now.first c.in-Some.second =
    c.requires.placed.own c.args.ticket c.args.event.now c.in-Some.second
    (in-at c.args.live.now.live c.args.index (c.args.ticket, c.args.event.now) c.requires.stands) c.in-Some.is in
    holds-next c.args.live.now.live c.args.index c.args.ticket c.args.event.now c.args.table.now c.put_since-in-Some.new.table c.requires.table
    c.requires.stands
    (second-put c.args.table.now c.put_since.new.table c.args.index c.args.event.now free c.in_ok-first.ensures.put c.in-Some.second c.in-Some.is apart
    c.put_since-in-Some.new.table c.in_ok-other-in-Some.ensures.put)
    (second-has c.args.table.now c.put_since.new.table c.args.index c.args.event.now free c.in_ok-first.ensures.put c.in-Some.second c.in-Some.is apart
    c.put_since-in-Some.new.table c.in_ok-other-in-Some.ensures.put)

pub returns-in-None-clause-since : goal.returns-in-None-clause-since
returns-in-None-clause-since c =
    let rising = c.is_sound.ensures.rising in (
      since-found 0 rising.0 c.args.live.now.live c.args.depths.now c.args.table.now c.args.event.now.first c.in_ok-first.first rising.1 c.requires.placed
          c.requires.depths (held c.args.live.now.live c.args.index c.args.table.now c.requires.table)
          (held-before 0 rising.0 c.args.live.now.live c.args.index c.args.table.now c.args.event.now.first rising.1 c.requires.placed c.requires.table
          (c.args.ticket, c.args.event.now, c.requires.stands, inl refl)) c.in_ok-first.ensures.since,
      subst (λ (o : Option Place). IsSecondSince c.args.live.now.live c.args.depths.now o c.in_ok-first.first c.in_ok-first.first) (sym c.in-None.is) refl,
    )

pub returns-in-None-clause-table : goal.returns-in-None-clause-table
returns-in-None-clause-table c =
    let rising = c.is_sound.ensures.rising in
    let free = free-at 0 rising.0 c.args.live.now.live c.args.index c.args.ticket c.args.event.now c.args.table.now rising.1 c.requires.placed c.requires.table
    c.requires.stands in
    holds-next c.args.live.now.live c.args.index c.args.ticket c.args.event.now c.args.table.now c.put_since.new.table c.requires.table c.requires.stands
    (first-put c.args.table.now c.put_since.new.table c.args.index c.args.event.now free c.in_ok-first.ensures.put)
    (first-alone c.args.table.now c.put_since.new.table c.args.index c.args.event.now free c.in_ok-first.ensures.put c.in-None.is)
