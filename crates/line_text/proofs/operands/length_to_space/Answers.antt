use Rattle.std.proofs.Common.{arith}
use Rattle.std.proofs.lemmas.List.Elements.{All-more}
use Rattle.line_text.specs.Fields.{IsNoSpace}
use Rattle.line_text.proofs.public.CutLemmas.{begins-at, end-of-field}
use Rattle.line_text.proofs.operands.length_to_space.Goals as goal

pub returns-then-byte-eq32 : goal.returns-then-byte-eq32
returns-then-byte-eq32 c = (
  omega arith,
  c.loop-i.invariant,
  begins-at c.args.text.now c.loop-i.i c.loop-i-test.true c.if-byte-eq32.true,
)

pub loop-i-preserved : goal.loop-i-preserved
loop-i-preserved c = All-more IsNoSpace c.args.text.now c.loop-i.i 0 c.loop-i-test.true c.loop-i.invariant c.if-byte-eq32.false

pub returns : goal.returns
returns c = end-of-field c.args.text.now c.loop-i.i c.loop-i.invariant c.loop-i-test.false
