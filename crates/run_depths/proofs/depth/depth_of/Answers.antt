use Rattle.std.proofs.Common.{arith}
use Rattle.dependence.proofs.public.ListPlaces.{in-read}
use Rattle.run_depths.proofs.public.Deepening.{depth-all, depth-next}
use Rattle.run_depths.proofs.depth.depth_of.Goals as goal

pub depth_behind-requires-clause-live : goal.depth_behind-requires-clause-live
depth_behind-requires-clause-live c =
    let f = (c.leads-leads.ensures.exactly _).0 (in-read c.leads-leads.result.now c.loop-lead.lead-index c.loop-lead-test.true) in
    (f.dependent.event, f.dependent.live)

pub depth_behind-requires-clause-known : goal.depth_behind-requires-clause-known
depth_behind-requires-clause-known c = λ j a.
    let f = (c.leads-leads.ensures.exactly _).0 (in-read c.leads-leads.result.now c.loop-lead.lead-index c.loop-lead-test.true) in
    c.requires.known _ j f a

pub loop-lead-preserved : goal.loop-lead-preserved
loop-lead-preserved c =
    let r = c.is_sound.ensures.rising in
    let small = c.loop-lead.invariant.small in
    let other = c.depth_behind.ensures.small in
    let most = c.larger-depth.ensures in
    record {
      to = depth-next 0 r.0 c.args.live.now.live c.args.depths.now c.leads-leads.result.now c.loop-lead.lead-index c.loop-lead.depth c.depth_behind.result
          c.larger-depth.result r.1 c.loop-lead-test.true c.loop-lead.invariant.to c.depth_behind.ensures.depth most;
      small = omega arith;
    }

pub returns-clause-depth : goal.returns-clause-depth
returns-clause-depth c =
    depth-all c.args.live.now.live c.args.depths.now c.leads-leads.result.now c.loop-lead.lead-index c.args.ticket c.loop-lead.depth c.leads-leads.ensures
    c.loop-lead-test.false c.loop-lead.invariant.to
