use Rattle.std.proofs.Common.{◌≡◌, ℕ, List, drop, refl, sym, subst, get_or}
use Rattle.syntax.specs.Lists.{In}
use Rattle.runs.specs.Live.{Live, IsLive}
use Rattle.dependence.specs.internal.Tables.{PartLinked, FollowersChanged, Removed}
use Rattle.dependence.proofs.public.ListPlaces.{in-read, drop-all}
use Rattle.dependence.proofs.public.Linking.{lists-ascend, unlink-next}
use Rattle.dependence.proofs.ListedLaws.{same-self, same-then}
use Rattle.dependence.proofs.links.unlink_all.Goals as goal

pub loop-lead-init : goal.loop-lead-init
loop-lead-init c = record { same = same-self c.args.list.now; linked = c.requires.linked }

pub remove_follower-requires : goal.remove_follower-requires
remove_follower-requires c = record {
  live = subst (λ (k : Live). IsLive k (get_or c.args.leads.now c.loop-lead.lead-index 0)) (sym c.loop-lead.invariant.same.live) (c.requires.live _ (in-read c.args.leads.now c.loop-lead.lead-index c.loop-lead-test.true));
  ordered = λ m of.
      lists-ascend c.args.list.now.live c.args.ticket (λ (t : ℕ). In t (drop c.loop-lead.lead-index c.args.leads.now)) c.loop-lead.list.links c.loop-lead.invariant.linked of.0 m of.2;
}

pub loop-lead-preserved : goal.loop-lead-preserved
loop-lead-preserved c =
    let changed = subst (λ (k : Live). FollowersChanged k (get_or c.args.leads.now c.loop-lead.lead-index 0) (Removed c.args.ticket) c.loop-lead.list.links c.remove_follower.new.self.links) c.loop-lead.invariant.same.live
    c.remove_follower.ensures.changed in
    record {
      same = same-then _ _ _ c.loop-lead.invariant.same c.remove_follower.ensures.same;
      linked = unlink-next c.args.list.now.live c.args.ticket _ c.loop-lead.lead-index c.args.leads.now c.loop-lead.list.links c.remove_follower.new.self.links c.requires.rising
          c.requires.absent c.requires.falling c.loop-lead-test.true refl changed c.loop-lead.invariant.linked;
    }

pub returns : goal.returns
returns c = record {
  same = c.loop-lead.invariant.same;
  linked = subst (λ (k : List ℕ). PartLinked c.args.list.now.live c.args.ticket (λ (t : ℕ). In t k) c.loop-lead.list.links)
      (drop-all c.args.leads.now c.loop-lead.lead-index c.loop-lead-test.false) c.loop-lead.invariant.linked;
}
