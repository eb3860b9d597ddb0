use Rattle.std.proofs.Common.{◌+◌, ◌-◌, true, false, [], ◌∷◌, arith}
use Rattle.lexer.proofs.CommentLemmas.{IsInside, opened, after_opening, after_closing, after_byte, after_other, whole, never_closed}
use Rattle.lexer.proofs.MarkLemmas.{mark_at}
use Rattle.lexer.proofs.piece.nested_length.Goals as goal
use Rattle.lexer.proofs.piece.nested_length.Goals.{Then-starts_with-2}

pub loop-length-init : goal.loop-length-init
loop-length-init c = record { inside = opened c.args.rest.now c.requires; is_open = omega arith }

pub loop-length-preserved-then-starts_with : goal.loop-length-preserved-then-starts_with
loop-length-preserved-then-starts_with c =
    let text = c.args.rest.now in
    let now = c.loop-length in
    let opens = mark_at (40 ∷ 45 ∷ 45 ∷ []) text now.length _ true c.starts_with.ensures.value c.if-starts_with.true in
    record {
      inside = after_opening text now.length now.depth now.invariant.inside now.invariant.is_open opens;
      is_open = omega arith;
    }

-- what is read with a `--)` behind it
closed : (c : Then-starts_with-2) → IsInside c.args.rest.now (c.loop-length.length + 3) (c.loop-length.depth - 1)
closed c =
    let text = c.args.rest.now in
    let now = c.loop-length in
    let still = mark_at (40 ∷ 45 ∷ 45 ∷ []) text now.length _ false c.starts_with.ensures.value c.if-starts_with.false in
    let shuts = mark_at (45 ∷ 45 ∷ 41 ∷ []) text now.length _ true c.starts_with-else-starts_with.ensures.value c.if-starts_with-2.true in
    after_closing text now.length now.depth now.invariant.inside now.invariant.is_open still shuts

pub returns-then-depth-eq0 : goal.returns-then-depth-eq0
returns-then-depth-eq0 c =
    let text = c.args.rest.now in
    let done : IsInside text (c.loop-length.length + 3) 0 = rw c.if-depth-eq0.true at (closed (goal.at.returns-then-depth-eq0 c).Then-starts_with-2) in
    (done.within, whole text (c.loop-length.length + 3) done)

pub loop-length-preserved-else-depth-eq0 : goal.loop-length-preserved-else-depth-eq0
loop-length-preserved-else-depth-eq0 c =
    record { inside = closed (goal.at.loop-length-preserved-else-depth-eq0 c).Then-starts_with-2; is_open = omega arith }

pub loop-length-preserved : goal.loop-length-preserved
loop-length-preserved c =
    let text = c.args.rest.now in
    let now = c.loop-length in
    let still = mark_at (40 ∷ 45 ∷ 45 ∷ []) text now.length _ false c.starts_with.ensures.value c.if-starts_with.false in
    let other = mark_at (45 ∷ 45 ∷ 41 ∷ []) text now.length _ false c.starts_with-else-starts_with.ensures.value c.if-starts_with-2.false in
    record {
      inside = after_byte text now.length now.depth now.invariant.inside now.invariant.is_open c.loop-length-test.true still other;
      is_open = now.invariant.is_open;
    }

pub returns : goal.returns
returns c = (c.requires, never_closed c.args.rest.now c.loop-length.length c.loop-length.depth c.loop-length.invariant.inside c.loop-length.invariant.is_open c.loop-length-test.false)

pub loop-length-preserved-then-rest-length-ne45 : goal.loop-length-preserved-then-rest-length-ne45
loop-length-preserved-then-rest-length-ne45 c =
    let now = c.loop-length in
    record {
      inside = after_other c.args.rest.now now.length now.depth now.invariant.inside now.invariant.is_open c.loop-length-test.true c.if-rest-length-ne40.true c.if-rest-length-ne45.true;
      is_open = now.invariant.is_open;
    }
