use Rattle.std.proofs.Common.{◌≡◌, ◌-◌, ℕ, length, subst, arith}
use Rattle.rows.specs.Flat.{flat, HoldsIndex}
use Rattle.rows.proofs.row.spot_of.Goals as goal

pub returns-else-index-count : goal.returns-else-index-count
returns-else-index-count g c =
    let count = c.requires.count in
    let inside = c.requires.inside in
    let is : length (flat c.args.rows.now) - (c.args.count - c.args.index) ≡ c.args.index = omega arith in
    subst (λ (i : ℕ). HoldsIndex c.args.rows.now i c.from_back.result.number c.from_back.result.place) is c.from_back.ensures
