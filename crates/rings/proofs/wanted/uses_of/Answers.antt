use Rattle.std.proofs.Common.{◌≡◌, ◌<◌, length, Some, slice_get, sym, ap, ◌∙◌, arith}
use Rattle.std.proofs.lemmas.Option.{slice_get-get_or}
use Rattle.rings.specs.internal.Placed.{Placed}
use Rattle.rings.specs.internal.Ends.{channel_of}
use Rattle.rings.proofs.Chosen.{channel-at, has-all, has-more}
use Rattle.rings.proofs.wanted.uses_of.Goals as goal

pub loop-number-preserved : goal.loop-number-preserved
loop-number-preserved c =
    let n = c.loop-number.number in
    let within : n < length c.args.ends.now = omega arith in
    let e : Placed = c.index-ends-number.result in
    let there : slice_get c.args.ends.now n ≡ Some e = slice_get-get_or c.args.ends.now n e within ∙ ap (λ (z : Placed). Some z) (sym c.index-ends-number.is) in
    has-more c.loop-number.uses c.put.new.self c.args.ends.now n c.channel.result c.loop-number.invariant
    (channel-at c.args.ends.now n e there ∙ ap Some (ap (λ (z : Placed). channel_of z.sought) (sym c.end.view_is) ∙ sym c.channel.ensures)) c.in_ok-put.ensures.put

pub returns : goal.returns
returns c = has-all c.loop-number.uses c.args.ends.now c.loop-number.number c.loop-number.invariant c.loop-number-test.false
