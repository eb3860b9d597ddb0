use Rattle.std.proofs.Common.{ℕ, [], ◌∷◌, get_or, refl}
use Rattle.rings.specs.declared.sought.Sought.TheVariants as sought
use Rattle.rings.specs.internal.Ends.{arm_ends, if_wanted}
use Rattle.rings.proofs.Added.{some-added, all-added}
use Rattle.rings.specs.internal.Ends as sums
use Rattle.rings.proofs.fresh.add_arms.Goals as goal

pub loop-channel-preserved : goal.loop-channel-preserved
loop-channel-preserved c =
    let one : ℕ = get_or c.args.channels.now c.loop-channel.channel-index 0 in
    some-added (arm_ends c.args.wanted.now) c.loop-channel.ends.items c.add_both.new.ends.items
    (if_wanted c.args.wanted.now one (sums.there (sought.Receiver one) ∷ sums.there (sought.Partner one) ∷ [])) _ c.args.channels.now c.loop-channel.channel-index 0 one
    c.loop-channel-test.true refl c.in_ok-add_both.ensures (λ rest. refl) c.loop-channel.invariant

pub returns : goal.returns
returns c =
    all-added (arm_ends c.args.wanted.now) c.loop-channel.ends.items _ c.args.channels.now c.loop-channel.channel-index c.loop-channel-test.false refl c.loop-channel.invariant
