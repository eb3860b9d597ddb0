use Rattle.std.proofs.Common.{◌≡◌, ◌+◌, suc, sym, true≢false, arith}
use Rattle.dependence.proofs.Distinct.{below-rest, among-rest, none-behind-last}
use Rattle.dependence.proofs.unreached.is_below_rest.Goals as goal

pub returns-then-next-len : goal.returns-then-next-len
returns-then-next-len c = record {
  below = λ yes t i. absurd (none-behind-last c.args.sorted.now c.args.index (omega (arith, c.if-next-len.true)) t i);
  among = λ no. absurd (true≢false no);
}

pub returns-then-behind-here : goal.returns-then-behind-here
returns-then-behind-here c =
    let next : c.args.index + 1 ≡ suc c.args.index = omega arith in
    record {
      below = λ yes. absurd (true≢false (sym yes));
      among = λ no. among-rest c.args.sorted.now c.args.index (c.args.index + 1) c.requires.ascending next c.if-next-len.false c.if-behind-here.true;
    }

pub returns : goal.returns
returns c =
    let next : c.args.index + 1 ≡ suc c.args.index = omega arith in
    record {
      below = λ yes. below-rest c.args.sorted.now c.args.index (c.args.index + 1) c.requires.ascending next c.if-behind-here.false;
      among = λ no. absurd (true≢false no);
    }
