-- In a branch there is more than in any branch in it.
-- No reader has to believe it: it shows that a walk down the branches ends.
use Rattle.std.specs.Prelude.{◌+◌, ◌≤◌, ◌<◌, max, List, [], ◌∷◌, ◌++◌, length}
use Rattle.std.proofs.Common.{◌≡◌, arith, length-append}
use denote.Param.Weighed.{most}
use Rattle.address.specs.declared.Entry.{Entry}
use Rattle.syntax.specs.Lists.{Every}
use Rattle.dependence.specs.declared.branch.Seat.{Seat}
use Rattle.dependence.specs.declared.branch.Seat.TheVariants.{Event, Inner}
use Rattle.dependence.specs.declared.branch.BranchEvents.TheDeep.{deep-Seat}
use Rattle.dependence.specs.internal.Seats.{Places, behind_way, flat, EndsAtBranch, IsSound, IsBranch}
use Rattle.dependence.specs.internal.Sizes.{entries_of}

pub entries-append : (xs ys : Places) → entries_of (xs ++ ys) ≡ entries_of xs + entries_of ys
entries-append [] ys = omega arith
entries-append (x ∷ xs) ys = omega (arith, entries-append xs ys)

entries-behind : (way : List Entry) (es : Places) → entries_of es ≤ entries_of (behind_way way es)
entries-behind way [] = omega arith
entries-behind way (e ∷ es) = omega (arith, entries-behind way es, length-append way e.0)

way-long : (way : List Entry) → EndsAtBranch way → 0 < length way
way-long [] h = absurd h
way-long (x ∷ way) h = omega arith

pub entries-inner : (way : List Entry) (es : Places) → EndsAtBranch way → 0 < length es →
    entries_of es < entries_of (behind_way way es)
entries-inner way [] h some = absurd (omega arith)
entries-inner way (e ∷ es) h some =
    let long : 0 < length way = way-long way h in
    omega (arith, entries-behind way es, length-append way e.0)

depth-all : (seats : List Seat) → Every IsSound seats → most (λ s. deep-Seat s) seats ≤ entries_of (flat seats)
depth-all [] h = omega arith
depth-all (Event way t ∷ seats) h = omega (arith, depth-all seats h.1)
depth-all (Inner way inner ∷ seats) h =
    omega (
      arith,
      depth-all seats h.1,
      entries-inner way inner.value h.0.0 h.0.1,
      entries-append
          (behind_way way inner.value) (flat seats),
    )

pub depth_le-entries : (seats : List Seat) → IsBranch seats →
    max (most (λ s. deep-Seat s) seats) 0 ≤ entries_of (flat seats)
depth_le-entries seats h = omega (arith, depth-all seats h.sound)
