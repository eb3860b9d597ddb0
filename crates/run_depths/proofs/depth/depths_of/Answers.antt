use Rattle.std.proofs.Common.{◌≡◌, ◌∙◌, ℕ, ◌<◌, List, length, refl, sym, ap, subst, arith}
use Rattle.std.proofs.lemmas.List.{length_push}
use Rattle.dependence.proofs.public.Turns.{turn, turn-live, ended}
use Rattle.run_depths.proofs.public.Deepening.{KnownTo, all-known, known-pushed, lead-before}
use Rattle.run_depths.proofs.depth.depths_of.Goals as goal

pub depth_of-depth-requires-clause-live : goal.depth_of-depth-requires-clause-live
depth_of-depth-requires-clause-live c =
    let all = c.into_iter-ticket-iterator.ensures.into_iter_gives ∙ c.iter-ticket-items.ensures.events in
    turn-live _ _ _ _ c.loop-ticket.yielded _ all c.loop-ticket.yielded_by c.in-Some.ensures.steps

pub depth_of-depth-requires-clause-known : goal.depth_of-depth-requires-clause-known
depth_of-depth-requires-clause-known c = λ t j f a.
    let r = c.is_sound.ensures.rising in
    let all = c.into_iter-ticket-iterator.ensures.into_iter_gives ∙ c.iter-ticket-items.ensures.events in
    let at = turn _ _ _ _ c.loop-ticket.yielded _ _ all refl c.loop-ticket.yielded_by c.in-Some.ensures.steps in
    let earlier : j < length c.loop-ticket.yielded = lead-before 0 r.0 c.args.live.now.live t _ (length c.loop-ticket.yielded) j r.1 f a (_, at) in
    let shown : length c.as_slice.result.now ≡ length c.loop-ticket.depths.items = ap (λ (xs : List ℕ). length xs) c.as_slice.ensures.value in
    let size = c.loop-ticket.invariant.size in
    omega arith

pub loop-ticket-preserved : goal.loop-ticket-preserved
loop-ticket-preserved c =
    let r = c.is_sound.ensures.rising in
    let all = c.into_iter-ticket-iterator.ensures.into_iter_gives ∙ c.iter-ticket-items.ensures.events in
    let at = turn _ _ _ _ c.loop-ticket.yielded _ _ all refl c.loop-ticket.yielded_by c.in-Some.ensures.steps in
    subst (λ (n : ℕ). KnownTo c.args.live.now.live c.push.new.self.items n) (sym (length_push c.loop-ticket.yielded _))
    (known-pushed 0 r.0 c.args.live.now.live c.loop-ticket.depths.items c.as_slice.result.now c.push.new.self.items (length c.loop-ticket.yielded) _
    c.depth_of-depth.result r.1 c.loop-ticket.invariant (_, at) c.as_slice.ensures.value c.in_ok-push.ensures.items c.depth_of-depth.ensures.depth
    c.depth_of-depth.ensures.small)

pub returns-clause-depths : goal.returns-clause-depths
returns-clause-depths c =
    let all = c.into_iter-ticket-iterator.ensures.into_iter_gives ∙ c.iter-ticket-items.ensures.events in
    all-known c.args.live.now.live c.loop-ticket.depths.items (length c.loop-ticket.yielded) c.loop-ticket.invariant
    (ended _ _ _ c.loop-ticket.yielded all c.loop-ticket.yielded_by c.in-None.ensures.steps.0)

pub returns-clause-small : goal.returns-clause-small
returns-clause-small c = c.loop-ticket.invariant.small
