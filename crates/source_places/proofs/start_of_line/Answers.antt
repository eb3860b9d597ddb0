-- Behind the last line there is none.
use Rattle.std.proofs.Common.{◌≡◌, ◌≤◌, length, arith, ap, ◌∙◌, sym}
use Rattle.source_places.specs.Places.{ends_before}
use Rattle.source_places.proofs.start_of_line.Goals as goal

pub returns-else-ended-line-2-clause-none : goal.returns-else-ended-line-2-clause-none
returns-else-ended-line-2-clause-none c = λ _ counted.
    let known = c.loop-index.invariant in
    let still : c.loop-index.ended ≤ c.args.line = known.still counted in
    let over : c.loop-index.index ≡ length c.args.text.now = omega arith in
    let last : ends_before c.args.text.now (length c.args.text.now) ≡ ends_before c.args.text.now c.loop-index.start =
    ap (ends_before c.args.text.now) (sym over) ∙ known.here in
    omega (arith, still, last, known.line, c.if-ended-line-2.false)
