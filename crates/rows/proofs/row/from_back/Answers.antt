use Rattle.std.proofs.Common.{◌≡◌, ◌<◌, ◌≤◌, ◌-◌, ℕ, suc, length, take, get_or, ap, arith}
use Rattle.std.proofs.lemmas.Option.{slice_get-get_or}
use Rattle.rows.specs.Flat.{flat}
use Rattle.rows.specs.declared.row.Row.{Row}
use Rattle.rows.proofs.FlatLaws.{taken-more}
use Rattle.rows.proofs.row.from_back.Goals as goal

pub returns-then-left-here : goal.returns-then-left-here
returns-then-left-here g c =
    let at : ℕ = c.loop-number.number - 1 in
    let some : 0 < c.loop-number.number = c.loop-number-test.true in
    let within : c.loop-number.number ≤ length c.args.rows.now = c.loop-number.invariant.within in
    let here : Row _ = get_or c.args.rows.now at c.index-rows-number.result in
    let less : at < length c.args.rows.now = omega arith in
    let found = slice_get-get_or c.args.rows.now at c.index-rows-number.result less in
    let more = taken-more c.args.rows.now at here found in
    let next : c.loop-number.number ≡ suc at = omega arith in
    let same : length (flat (take c.loop-number.number c.args.rows.now)) ≡ length (flat (take (suc at) c.args.rows.now)) =
    ap (λ (n : ℕ). length (flat (take n c.args.rows.now))) next in
    let sum = c.loop-number.invariant.sum in
    let left = c.loop-number.invariant.some in
    let size = c.len-here.ensures in
    let test = c.if-left-here.true in
    let inside = c.requires.inside in
    record { row = here; at = found; sum = omega arith; less = omega arith }

pub loop-number-preserved : goal.loop-number-preserved
loop-number-preserved g c =
    let at : ℕ = c.loop-number.number - 1 in
    let some : 0 < c.loop-number.number = c.loop-number-test.true in
    let within : c.loop-number.number ≤ length c.args.rows.now = c.loop-number.invariant.within in
    let here : Row _ = get_or c.args.rows.now at c.index-rows-number.result in
    let less : at < length c.args.rows.now = omega arith in
    let more = taken-more c.args.rows.now at here (slice_get-get_or c.args.rows.now at c.index-rows-number.result less) in
    let next : c.loop-number.number ≡ suc at = omega arith in
    let same : length (flat (take c.loop-number.number c.args.rows.now)) ≡ length (flat (take (suc at) c.args.rows.now)) =
    ap (λ (n : ℕ). length (flat (take n c.args.rows.now))) next in
    let sum = c.loop-number.invariant.sum in
    let size = c.len-here.ensures in
    let test = c.if-left-here.false in
    record { some = omega arith; within = omega arith; sum = omega arith }
