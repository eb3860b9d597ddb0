-- With the parts that are left, they are those of all.
use Rattle.std.proofs.Common.{◌≡◌, ◌++◌, drop, map}
use Rattle.address.specs.declared.Entry.TheVariants.{Ordered, Branch}
use Rattle.sharing_check.specs.Uses.{numbered, uses_of}
use Rattle.clash_places.specs.Parts.{from_number, uses_of_arm, uses_of_guarded, uses_of_labelled}
use Rattle.clash_places.proofs.uses.+uses.Given as goal

abbrev pub invariant-add_sequence-loop-index : goal.invariant-add_sequence-loop-index
invariant-add_sequence-loop-index l =
    l.uses.items ++ from_number Ordered l.index (map uses_of (drop l.index l.children))
    ≡ l.initial.uses.items ++ numbered Ordered 0 (map uses_of l.children)

abbrev pub invariant-add_branches-loop-index : goal.invariant-add_branches-loop-index
invariant-add_branches-loop-index l =
    l.uses.items ++ from_number Branch l.index (map uses_of (drop l.index l.children))
    ≡ l.initial.uses.items ++ numbered Branch 0 (map uses_of l.children)

abbrev pub invariant-add_arms-loop-index : goal.invariant-add_arms-loop-index
invariant-add_arms-loop-index l =
    l.uses.items ++ from_number Ordered l.index (map uses_of_arm (drop l.index l.arms))
    ≡ l.initial.uses.items ++ numbered Ordered 0 (map uses_of_arm l.arms)

abbrev pub invariant-add_labelled-loop-index : goal.invariant-add_labelled-loop-index
invariant-add_labelled-loop-index l =
    l.uses.items ++ from_number Ordered l.index (map uses_of_labelled (drop l.index l.arms))
    ≡ l.initial.uses.items ++ numbered Ordered 0 (map uses_of_labelled l.arms)

abbrev pub invariant-add_guarded-loop-index : goal.invariant-add_guarded-loop-index
invariant-add_guarded-loop-index l =
    l.uses.items ++ from_number Ordered l.index (map uses_of_guarded (drop l.index l.arms))
    ≡ l.initial.uses.items ++ numbered Ordered 0 (map uses_of_guarded l.arms)
