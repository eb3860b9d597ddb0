use Rattle.std.proofs.Common.{◌≡◌, ◌∙◌, ◌++◌, ◌∷◌, [], ℕ, ◌<◌, List, take, refl, sym, subst, get_or}
use Rattle.syntax.specs.Lists.{In}
use Rattle.runs.specs.Live.{Live, NoneAt, IsLive}
use Rattle.dependence.specs.internal.Tables.{IsRising, PartLinked, FollowersChanged}
use Rattle.dependence.proofs.public.ListPlaces.{in-read, in-take, in-order-take, take-all}
use Rattle.dependence.proofs.public.Linking.{link-next, link-same, next-absent}
use Rattle.dependence.proofs.ListedLaws.{same-self, same-then}
use Rattle.dependence.proofs.links.link_all.Goals as goal

pub loop-done-init : goal.loop-done-init
loop-done-init c = record { same = same-self c.args.list.now; linked = c.requires.linked }

pub add_follower-requires : goal.add_follower-requires
add_follower-requires c =
    subst (λ (k : Live). IsLive k (get_or c.args.leads.now c.loop-done.done 0)) (sym c.loop-done.invariant.same.live) (c.requires.live _ (in-read c.args.leads.now c.loop-done.done c.loop-done-test.true))

pub unlink_all-requires : goal.unlink_all-requires
unlink_all-requires c =
    let l : Live = c.args.list.now.live in
    let live : c.add_follower.new.self.live ≡ l = c.in-Err.ensures.same.live ∙ c.loop-done.invariant.same.live in
    let changed = subst (λ (k : Live). FollowersChanged k (get_or c.args.leads.now c.loop-done.done 0) (λ (b : List ℕ) (a : List ℕ). a ≡ b) c.loop-done.list.links c.add_follower.new.self.links) c.loop-done.invariant.same.live c.in-Err.ensures.changed in
    record {
      rising = subst (λ (k : Live). IsRising k) (sym live) (c.args.ticket, c.requires.rising);
      absent = subst (λ (k : Live). NoneAt k c.args.ticket) (sym live) (next-absent l c.args.ticket c.requires.rising);
      live = λ t i. subst (λ (k : Live). IsLive k t) (sym live) (c.requires.live t (in-take c.args.leads.now c.loop-done.done t i));
      falling = in-order-take (λ (a : ℕ) (b : ℕ). b < a) c.args.leads.now c.loop-done.done c.requires.falling;
      linked = subst (λ (k : Live). PartLinked k c.args.ticket (λ (t : ℕ). In t (take c.loop-done.done c.args.leads.now)) c.add_follower.new.self.links) (sym live)
          (link-same 0 c.args.ticket l c.args.ticket _ (λ (t : ℕ). In t (take c.loop-done.done c.args.leads.now)) c.loop-done.list.links c.add_follower.new.self.links
          c.requires.rising changed c.loop-done.invariant.linked);
    }

pub returns-in-Err : goal.returns-in-Err
returns-in-Err c =
    let l : Live = c.args.list.now.live in
    let live : c.add_follower.new.self.live ≡ l = c.in-Err.ensures.same.live ∙ c.loop-done.invariant.same.live in
    record {
      same = same-then _ _ _ c.loop-done.invariant.same (same-then _ _ _ c.in-Err.ensures.same c.unlink_all.ensures.same);
      linked = subst (λ (k : Live). PartLinked k c.args.ticket (λ (t : ℕ). In t []) c.unlink_all.new.list.links) live c.unlink_all.ensures.linked;
    }

pub loop-done-preserved : goal.loop-done-preserved
loop-done-preserved c =
    let changed =
    subst (λ (k : Live). FollowersChanged k (get_or c.args.leads.now c.loop-done.done 0) (λ (b : List ℕ) (a : List ℕ). a ≡ b ++ c.args.ticket ∷ []) c.loop-done.list.links c.add_follower.new.self.links)
    c.loop-done.invariant.same.live c.in_default.ensures.changed in
    record {
      same = same-then _ _ _ c.loop-done.invariant.same c.in_default.ensures.same;
      linked = link-next c.args.list.now.live c.args.ticket _ c.loop-done.done c.args.leads.now c.loop-done.list.links c.add_follower.new.self.links c.requires.rising
          c.requires.falling c.loop-done-test.true refl changed c.loop-done.invariant.linked;
    }

pub returns : goal.returns
returns c = record {
  same = c.loop-done.invariant.same;
  linked = subst (λ (k : List ℕ). PartLinked c.args.list.now.live c.args.ticket (λ (t : ℕ). In t k) c.loop-done.list.links)
      (take-all c.args.leads.now c.loop-done.done c.loop-done-test.false) c.loop-done.invariant.linked;
}
