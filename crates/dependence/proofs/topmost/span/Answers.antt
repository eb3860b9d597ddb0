use Rattle.std.proofs.Common.{◌≡◌, ◌+◌, ◌-◌, ◌<◌, ℕ, length, get_or, subst, arith}
use Rattle.std.proofs.lemmas.Option.{slice_get_within}
use Rattle.dependence.specs.internal.Tables.{StandsAt}
use Rattle.dependence.proofs.public.ListPlaces.{in-read}
use Rattle.dependence.proofs.Sweeps.{span-of}
use Rattle.dependence.proofs.topmost.span.Goals as goal

pub index_of_live-low-requires : goal.index_of_live-low-requires
index_of_live-low-requires c = c.requires.live _ (in-read c.args.tickets.now 0 c.requires.some)

pub index_of_live-last-requires : goal.index_of_live-last-requires
index_of_live-last-requires c = c.requires.live _ (in-read c.args.tickets.now (length c.args.tickets.now - 1) (omega (arith, c.requires.some)))

pub overflow_add-result : goal.overflow_add-result
overflow_add-result c =
    let on = c.index_of_live-last.ensures in
    let within : c.index_of_live-last.result < length c.args.list.now.live = slice_get_within c.args.list.now.live c.index_of_live-last.result _ on.1 in
    let len = c.len-len.ensures.events in
    let fits = c.len-len.type_inv in
    omega arith

pub returns : goal.returns
returns c =
    let at = c.index_of_live-low.ensures in
    let on = c.index_of_live-last.ensures in
    let spans =
    span-of 0 c.requires.rising.0 c.args.list.now.live c.args.tickets.now c.index_of_live-low.result c.index_of_live-last.result at.0 on.0 c.requires.rising.1 c.requires.some
    c.requires.ascending at.1 on.1 c.requires.live in
    let within : c.index_of_live-last.result < length c.args.list.now.live = slice_get_within c.args.list.now.live c.index_of_live-last.result _ on.1 in
    let back : c.index_of_live-last.result ≡ c.index_of_live-last.result + 1 - 1 = omega arith in
    record {
      order = omega (arith, spans.0);
      size = omega arith;
      stand = spans.1;
      last = subst (λ (k : ℕ). StandsAt c.args.list.now.live (get_or c.args.tickets.now (length c.args.tickets.now - 1) 0) k) back on;
    }
