use Rattle.std.proofs.Common.{ℕ, List, take, get_or, sym, subst, heap_items}
use Rattle.std.proofs.lemmas.Option.{slice_get_within}
use Rattle.runs.specs.Live.{LiveAt}
use Rattle.dependence.specs.Followers.{ListsFollowers}
use Rattle.dependence.proofs.public.ListPlaces.{in-at, in-read, take-all}
use Rattle.trace_file.specs.internal.Waiting.{Telling}
use Rattle.trace_file.proofs.Telling.{can-tell, told-one, told-all, here-ticket, new-in, told-next}
use Rattle.trace_file.proofs.queue.tell_followers.Goals as goal

pub ticket_at-requires : goal.ticket_at-requires
ticket_at-requires c = let some = c.requires.telling.1 in slice_get_within c.args.live.now.live c.args.index (some.0, some.1) some.2

pub followers-follower-items-requires : goal.followers-follower-items-requires
followers-follower-items-requires c =
    let some = c.requires.telling.1 in
    let ticket = here-ticket c.args.live.now.live c.args.index c.ticket_at.result some.0 c.ticket_at.ensures.0 some.1 c.ticket_at.ensures.1 some.2 in
    (some.1, subst (λ (s : ℕ). LiveAt c.args.live.now.live s some.1) (sym ticket) (in-at c.args.live.now.live c.args.index (some.0, some.1) some.2))

pub index_of-requires : goal.index_of-requires
index_of-requires c =
    let at = in-read c.followers-follower-items.result.now c.loop-follower.follower-index c.loop-follower-test.true in
    let follows = (c.followers-follower-items.ensures.exactly (get_or c.followers-follower-items.result.now c.loop-follower.follower-index 0)).0 at in
    (follows.dependent.dependent, follows.dependent.dependent_live)

pub tell-requires : goal.tell-requires
tell-requires c =
    let l = c.args.live.now.live in
    let us = c.followers-follower-items.result.now in
    let k = c.loop-follower.follower-index in
    let some = c.requires.telling.1 in
    let ticket = here-ticket l c.args.index c.ticket_at.result some.0 c.ticket_at.ensures.0 some.1 c.ticket_at.ensures.1 some.2 in
    let lists : ListsFollowers l some.0 us = subst (λ (s : ℕ). ListsFollowers l s us) ticket c.followers-follower-items.ensures in
    let follows = (lists.exactly (get_or us k 0)).0 (in-read us k c.loop-follower-test.true) in
    can-tell l c.requires.telling.0 some.0 (take k us) c.loop-follower.left (heap_items c.loop-follower.free) c.index_of.result (get_or us k 0)
    c.index_of.ensures.0 (c.loop-follower.invariant c.requires.telling.0 some.0 some.1 some.2 some.3) follows
    (new-in us k lists.ascending c.loop-follower-test.true) c.index_of.ensures.1

pub loop-follower-preserved : goal.loop-follower-preserved
loop-follower-preserved c = λ rest t e at telling.
    let l = c.args.live.now.live in
    let us = c.followers-follower-items.result.now in
    let k = c.loop-follower.follower-index in
    let ticket = here-ticket l c.args.index c.ticket_at.result t c.ticket_at.ensures.0 e c.ticket_at.ensures.1 at in
    let lists : ListsFollowers l t us = subst (λ (s : ℕ). ListsFollowers l s us) ticket c.followers-follower-items.ensures in
    let follows = (lists.exactly (get_or us k 0)).0 (in-read us k c.loop-follower-test.true) in
    subst (λ (told : List ℕ). Telling l rest t told c.tell.new.left (heap_items c.tell.new.free)) (told-next us k c.loop-follower-test.true)
    (told-one l rest t (take k us) c.loop-follower.left (heap_items c.loop-follower.free) c.index_of.result (get_or us k 0) c.index_of.ensures.0
    c.tell.new.left (heap_items c.tell.new.free) c.requires.rising (c.loop-follower.invariant rest t e at telling) follows
    (new-in us k lists.ascending c.loop-follower-test.true) c.index_of.ensures.1 c.in_ok-tell.ensures)

pub returns : goal.returns
returns c = λ rest telling.
    let l = c.args.live.now.live in
    let us = c.followers-follower-items.result.now in
    let k = c.loop-follower.follower-index in
    let t = telling.0 in
    let ticket = here-ticket l c.args.index c.ticket_at.result t c.ticket_at.ensures.0 telling.1 c.ticket_at.ensures.1 telling.2 in
    let lists : ListsFollowers l t us = subst (λ (s : ℕ). ListsFollowers l s us) ticket c.followers-follower-items.ensures in
    told-all l rest t us c.loop-follower.left (heap_items c.loop-follower.free) lists
    (subst (λ (told : List ℕ). Telling l rest t told c.loop-follower.left (heap_items c.loop-follower.free)) (take-all us k c.loop-follower-test.false)
    (c.loop-follower.invariant rest t telling.1 telling.2 telling.3))
