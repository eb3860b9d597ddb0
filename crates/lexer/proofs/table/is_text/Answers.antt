use Rattle.std.proofs.Common.{◌∙◌, arith}
use Rattle.lexer.proofs.BucketLemmas.{all_told, apart, differ_at, same_at}
use Rattle.lexer.proofs.table.is_text.Goals as goal

pub returns-then-entry-text : goal.returns-then-entry-text
returns-then-entry-text c = apart c.args.entry.now c.args.text.now c.if-entry-text.true

pub returns-then-entry-place : goal.returns-then-entry-place
returns-then-entry-place c =
    differ_at c.args.entry.now c.args.text.now c.loop-place.place (omega arith) (omega arith) c.if-entry-place.true ∙ c.loop-place.invariant

pub loop-place-preserved : goal.loop-place-preserved
loop-place-preserved c = same_at c.args.entry.now c.args.text.now c.loop-place.place (omega arith) (omega arith) c.if-entry-place.false ∙ c.loop-place.invariant

pub returns : goal.returns
returns c = all_told c.args.entry.now c.args.text.now c.loop-place.place (omega arith) (omega arith) ∙ c.loop-place.invariant
