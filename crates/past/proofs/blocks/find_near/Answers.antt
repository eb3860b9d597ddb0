use Rattle.std.proofs.Common.{◌≡◌, ℕ, rules, subst, arith}
use Rattle.past.specs.internal.Blocks.{AllOpen}
use Rattle.past.proofs.BlockLaws.{open-none}
use Rattle.past.proofs.blocks.find_near.Goals as goal

pub loop-first-init : goal.loop-first-init
loop-first-init c = record {
  within = omega arith;
  marks = search rules;
  near = c.requires.near;
  listed = open-none c.args.leads.now c.requires.down c.args.asked c.args.whole.now c.args.near.now c.requires.size c.requires.empty;
}

pub returns : goal.returns
returns c =
    let test = c.loop-first-test.false in
    let done : c.loop-first.first ≡ 0 = omega arith in (
      c.loop-first.invariant.near,
      subst (λ (k : ℕ). AllOpen c.args.asked c.args.whole.now c.args.leads.now k c.loop-first.near) done c.loop-first.invariant.listed,
    )
