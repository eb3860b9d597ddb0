use Rattle.std.proofs.Common.{◌≡◌, ◌+◌, ◌<◌, ℕ, suc, length, take, get_or, ap, arith}
use Rattle.std.proofs.lemmas.Option.{slice_get-get_or}
use Rattle.rows.specs.Flat.{flat}
use Rattle.rows.specs.declared.row.Row.{Row}
use Rattle.rows.proofs.FlatLaws.{taken-more}
use Rattle.rows.proofs.row.from_front.Goals as goal

pub returns-then-left-here : goal.returns-then-left-here
returns-then-left-here g c =
    let here : Row _ = get_or c.args.rows.now c.loop-number.number c.index-rows-number.result in
    let less : c.loop-number.number < length c.args.rows.now = c.loop-number-test.true in
    record {
      row = here;
      at = slice_get-get_or c.args.rows.now c.loop-number.number c.index-rows-number.result less;
      sum = c.loop-number.invariant;
      less = (let size = c.len-here.ensures in let test = c.if-left-here.true in omega arith);
    }

pub loop-number-preserved : goal.loop-number-preserved
loop-number-preserved g c =
    let here : Row _ = get_or c.args.rows.now c.loop-number.number c.index-rows-number.result in
    let less : c.loop-number.number < length c.args.rows.now = c.loop-number-test.true in
    let more = taken-more c.args.rows.now c.loop-number.number here (slice_get-get_or c.args.rows.now c.loop-number.number c.index-rows-number.result less) in
    let next : c.loop-number.number + 1 ≡ suc c.loop-number.number = omega arith in
    let same : length (flat (take (c.loop-number.number + 1) c.args.rows.now)) ≡ length (flat (take (suc c.loop-number.number) c.args.rows.now)) =
    ap (λ (n : ℕ). length (flat (take n c.args.rows.now))) next in
    let sum = c.loop-number.invariant in
    let size = c.len-here.ensures in
    let test = c.if-left-here.false in
    omega arith
