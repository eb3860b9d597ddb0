use Rattle.std.proofs.Common.{◌≡◌, ◌≢◌, ℕ, suc, ◌-◌, ◌<◌, ◌∙◌, List, length, get_or, vec_len, sym, ap, arith}
use Rattle.branch_lanes.specs.Lanes.{trimmed}
use Rattle.branch_lanes.proofs.public.Trimming.{same-default, trimmed-last, trimmed-none}
use Rattle.branch_lanes.proofs.trim.Goals as goal

pub zeros-preserved : goal.zeros-preserved
zeros-preserved c =
    let ns : List ℕ = c.zeros.lane.items in
    let k : ℕ = vec_len c.zeros.lane - 1 in
    let size : length ns ≡ suc k = grind arith in
    let more : 0 < k = grind arith in
    let zero_there : get_or ns k 0 ≡ 0 = grind (arith, same-default) in
    ap trimmed c.pop.ensures.rest ∙ (trimmed-last ns k size more zero_there ∙ c.zeros.invariant)

pub returns-else-index-eq0 : goal.returns-else-index-eq0
returns-else-index-eq0 c =
    let ns : List ℕ = c.zeros.lane.items in
    let k : ℕ = vec_len c.zeros.lane - 1 in
    let size : length ns ≡ suc k = grind arith in
    let there : k < length ns = omega arith in
    let is = same-default ns k c.index.result.now 0 there in
    let other : get_or ns k 0 ≢ 0 = grind arith in
    sym (trimmed-none ns k size other) ∙ c.zeros.invariant
