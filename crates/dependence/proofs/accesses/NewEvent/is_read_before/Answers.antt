use Rattle.std.proofs.Common.{◌<◌, ◌≤◌, ◌∙◌, refl, sym, true≢false, arith}
use Rattle.dependence.proofs.Candidacy.{none-yet, none-from, none-behind, none-left, read-before}
use Rattle.dependence.proofs.accesses.NewEvent.is_read_before.Goals as goal

pub loop-reader-init : goal.loop-reader-init
loop-reader-init c = record { low = omega arith; none = none-yet c.args.self.now c.args.variable c.args.below }

pub returns-then-reader-writer : goal.returns-then-reader-writer
returns-then-reader-writer c = (
  (λ on. absurd (true≢false (sym on))),
  (λ read. absurd (none-behind c.args.self.now c.requires c.args.variable c.in-Some.reader c.loop-reader.end c.args.below c.args.writer c.in-Some.ensures
      c.loop-reader.invariant.none c.if-reader-writer.true read)),
)

pub returns-then-is_before : goal.returns-then-is_before
returns-then-is_before c = (
  (λ on. read-before c.args.self.now c.requires c.args.variable c.in-Some.reader c.loop-reader.end c.args.below c.args.writer c.in-Some.ensures
      c.loop-reader.invariant.low c.if-reader-writer.false (c.is_before.ensures.0 c.if-is_before.true)),
  (λ read. refl),
)

pub loop-reader-preserved : goal.loop-reader-preserved
loop-reader-preserved c =
    let less : c.in-Some.reader < c.loop-reader.end = c.in-Some.ensures.less in
    let low : c.loop-reader.end ≤ c.args.below = c.loop-reader.invariant.low in
    record {
      low = omega arith;
      none = none-from c.args.self.now c.requires c.args.variable c.in-Some.reader c.loop-reader.end c.args.below c.in-Some.ensures c.loop-reader.invariant.none
          (λ before. true≢false (sym (c.is_before.ensures.1 before) ∙ c.if-is_before.false));
    }

pub returns : goal.returns
returns c = (
  (λ on. absurd (true≢false (sym on))),
  (λ read. absurd (none-left c.args.self.now c.requires c.args.variable c.loop-reader.end c.args.below c.args.writer c.in_default.ensures
      c.loop-reader.invariant.none read)),
)
