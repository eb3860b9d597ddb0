use Rattle.std.proofs.Common.{◌≡◌, ◌∙◌, ◌+◌, ◌-◌, ℕ, List, sym, subst, arith}
use Rattle.past.proofs.BlockLaws.{LanesFrom, adds-none, lanes-all, lanes-set, lanes-unset}
use Rattle.past.proofs.blocks.add_lanes.Goals as goal

pub loop-place-preserved-in-Continue-1 : goal.loop-place-preserved-in-Continue-1
loop-place-preserved-in-Continue-1 c =
    let place : ℕ = c.loop-place.place - 1 in
    let test = c.loop-place-test.true in
    let high = c.loop-place.invariant.high in
    let back : c.loop-place.place ≡ place + 1 = omega arith in
    let before = subst (λ (k : ℕ). LanesFrom c.args.lanes c.args.first c.args.end k c.args.places.now c.loop-place.places) back c.loop-place.invariant.listed in
    record {
      high = omega arith;
      listed = subst (λ (ps : List ℕ). LanesFrom c.args.lanes c.args.first c.args.end place c.args.places.now ps) (sym c.in_ok-push.ensures.ok)
          (lanes-set c.args.lanes c.args.first c.args.end place c.args.places.now c.loop-place.places (omega arith) (omega arith)
          (sym c.has.ensures ∙ c.if-has.true) before);
    }

pub loop-place-preserved : goal.loop-place-preserved
loop-place-preserved c =
    let place : ℕ = c.loop-place.place - 1 in
    let test = c.loop-place-test.true in
    let high = c.loop-place.invariant.high in
    let back : c.loop-place.place ≡ place + 1 = omega arith in
    let before = subst (λ (k : ℕ). LanesFrom c.args.lanes c.args.first c.args.end k c.args.places.now c.loop-place.places) back c.loop-place.invariant.listed in
    record {
      high = omega arith;
      listed = lanes-unset c.args.lanes c.args.first c.args.end place c.args.places.now c.loop-place.places (sym c.has.ensures ∙ c.if-has.false) before;
    }

pub returns : goal.returns
returns c =
    let test = c.loop-place-test.false in
    lanes-all c.args.lanes c.args.first c.args.end c.loop-place.place c.args.places.now c.loop-place.places (omega arith) c.loop-place.invariant.listed

pub returns-then-is_none : goal.returns-then-is_none
returns-then-is_none c =
    adds-none c.args.lanes c.args.first c.args.end c.args.places.now (c.is_none.ensures c.if-is_none.true) c.requires.falling
