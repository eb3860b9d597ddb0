use Rattle.std.proofs.Common.{◌≡◌, ℕ, ◌+◌, ◌-◌, ◌^◌, ◌≤◌, min, List, length, drop, ap, arith, drop_of_length-le}
use Rattle.elaborate.specs.SourceSize.{sent_on}
use Rattle.elaborate.specs.declared.stimulus.Entry.{Entry}
use Rattle.types.specs.declared.tree.Port.{Port}
use Rattle.elaborate.proofs.ports.value_count.Goals as goal

-- nothing is left to count
counted : (es : List Entry) (ports : List Port) (i count : ℕ) → length ports ≤ i → count ≤ 2 ^ 64 - 1
    → min (count + sent_on es (drop i ports)) (2 ^ 64 - 1) ≡ min (sent_on es ports) (2 ^ 64 - 1) → count ≡ min (sent_on es ports) (2 ^ 64 - 1)
counted es ports i count end small e =
    let none : sent_on es (drop i ports) ≡ 0 = ap (sent_on es) (drop_of_length-le ports end) in omega (arith, none, small, e)

pub returns : goal.returns
returns c =
    counted c.args.entries.now c.args.ports.now c.loop-port.port-index c.loop-port.count c.loop-port-test.false c.loop-port.invariant.small c.loop-port.invariant.same
