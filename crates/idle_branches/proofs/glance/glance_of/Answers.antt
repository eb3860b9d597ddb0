use Rattle.std.proofs.Common.{inl, inr, sym, subst}
use Rattle.local_actions.specs.View.{state_of}
use Rattle.idle_branches.specs.Glance.{IsFaced, Tells}
use Rattle.idle_branches.specs.declared.glance.Glance.{Glance}
use Rattle.idle_branches.specs.declared.sight.Sight.{Sight}
use Rattle.idle_branches.specs.internal.Sights.{SeenIn}
use Rattle.idle_branches.proofs.GlanceLemmas.{idle-seen, seen-behind-place, takes-none, waits-gives}
use Rattle.idle_branches.proofs.glance.glance_of.Goals as goal

pub returns-in-Nothing-clause-rests : goal.returns-in-Nothing-clause-rests
returns-in-Nothing-clause-rests c tidy h values are run =
    let S = state_of c.args.tree.now values in
    idle-seen c.args.system.now S c.args.branch Sight.Nothing
    (subst (λ (g : Sight). SeenIn c.args.system.now S c.args.branch g) c.in-Nothing.is (c.sight_of_branch.ensures tidy values)) tt h run

pub returns-in-Nothing-clause-faced : goal.returns-in-Nothing-clause-faced
returns-in-Nothing-clause-faced c tidy values a x offer before is =
    let S = state_of c.args.tree.now values in
    absurd (seen-behind-place c.args.system.now S c.args.branch Sight.Nothing a x
    (subst (λ (g : Sight). SeenIn c.args.system.now S c.args.branch g) c.in-Nothing.is (c.sight_of_branch.ensures tidy values))
    offer before is)

pub returns-in-Gives-clause-rests : goal.returns-in-Gives-clause-rests
returns-in-Gives-clause-rests c tidy h values are run =
    let S = state_of c.args.tree.now values in
    idle-seen c.args.system.now S c.args.branch (Sight.Gives c.in-Gives.channel)
    (subst (λ (g : Sight). SeenIn c.args.system.now S c.args.branch g) c.in-Gives.is (c.sight_of_branch.ensures tidy values)) tt h run

pub returns-in-Gives-clause-faced : goal.returns-in-Gives-clause-faced
returns-in-Gives-clause-faced c tidy values a x offer before is =
    let S = state_of c.args.tree.now values in
    waits-gives x.action c.in-Gives.channel
    (seen-behind-place c.args.system.now S c.args.branch (Sight.Gives c.in-Gives.channel) a x
    (subst (λ (g : Sight). SeenIn c.args.system.now S c.args.branch g) c.in-Gives.is (c.sight_of_branch.ensures tidy values))
    offer before is)

pub returns-in-Takes-clause-rests : goal.returns-in-Takes-clause-rests
returns-in-Takes-clause-rests c tidy h values are run =
    let S = state_of c.args.tree.now values in
    elim c.taker.ensures [
      | inl acts ↦ subst (λ (g : Glance). Tells g c.args.system.now S c.args.branch) (sym acts) tt
      | inr rests ↦ subst (λ (g : Glance). Tells g c.args.system.now S c.args.branch) (sym rests.0)
          (idle-seen c.args.system.now S c.args.branch (Sight.Takes c.in-Takes.channel)
          (subst (λ (g : Sight). SeenIn c.args.system.now S c.args.branch g) c.in-Takes.is (c.sight_of_branch.ensures tidy values))
          (rests.1 tidy h values are run) h run)
    ]

pub returns-in-Takes-clause-faced : goal.returns-in-Takes-clause-faced
returns-in-Takes-clause-faced c tidy values a x offer before is =
    let S = state_of c.args.tree.now values in
    let none =
    takes-none x.action c.in-Takes.channel
    (seen-behind-place c.args.system.now S c.args.branch (Sight.Takes c.in-Takes.channel) a x
    (subst (λ (g : Sight). SeenIn c.args.system.now S c.args.branch g) c.in-Takes.is (c.sight_of_branch.ensures tidy values))
    offer before is) in
    elim c.taker.ensures [
      | inl acts ↦ subst (λ (g : Glance). IsFaced g x.action) (sym acts) none
      | inr rests ↦ subst (λ (g : Glance). IsFaced g x.action) (sym rests.0) none
    ]

pub returns-in-Syncs-clause-faced : goal.returns-in-Syncs-clause-faced
returns-in-Syncs-clause-faced c tidy values a x offer before is =
    let S = state_of c.args.tree.now values in
    seen-behind-place c.args.system.now S c.args.branch (Sight.Syncs c.in-Syncs.channel) a x
    (subst (λ (g : Sight). SeenIn c.args.system.now S c.args.branch g) c.in-Syncs.is (c.sight_of_branch.ensures tidy values))
    offer before is

pub returns-in-Acts-clause-faced : goal.returns-in-Acts-clause-faced
returns-in-Acts-clause-faced c tidy values a x offer before is =
    let S = state_of c.args.tree.now values in
    seen-behind-place c.args.system.now S c.args.branch Sight.Acts a x
    (subst (λ (g : Sight). SeenIn c.args.system.now S c.args.branch g) c.in-Acts.is (c.sight_of_branch.ensures tidy values))
    offer before is
