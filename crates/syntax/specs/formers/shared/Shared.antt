-- How a `Shared` lets a type reach itself: its value is one `T`, and the pointer to the count is the rest.
use mathlib.Core.Path.{refl}
use mathlib.Core.Former.{Former, this, const, pair, via}
use base.Stored.{gnil}
use base.Fml.{ftrue}
use denote.RattleType.{RattleType}
use denote.Memory.{part_of}
use denote.RawPtr.{Ptr}
use denote.Sharing.{nothing}
use denote.HoleLaws.{Alike}
use denote.HolePlaces.{Recodes, struct_places, laid, one_value}
use denote.Hole.Fix.{over}
use denote.Param.Weighed.{Weighed}
use denote.Model.Placed.{view_places}
use Rattle.std.specs.declared.sync.Arc.{Arc}
use Rattle.std.specs.contracts.sync.Arc as arc
use Rattle.std.specs.declared.alloc.Global.{Global}
use Rattle.std.specs.contracts.alloc.Global as heap
use Rattle.std.specs.contracts.impls.GlobalAllocator.TheImpl.{ghosts}
use Rattle.syntax.specs.declared.shared.Shared.TheInside.{Inside}
use Rattle.syntax.specs.declared.shared.Shared.TheView.{view, invariant}
use Rattle.syntax.specs.contracts.shared.Shared as shared
use Rattle.syntax.specs.contracts.shared.Shared.TheInside as inside

-- what contracts see: the one value
abbrev pub the_former : Former {0} → Former {0}
the_former held = held

-- it is as deep as that value
abbrev pub the_weighed : {held : Former {0}} → Weighed held → Weighed (the_former held)
the_weighed weighed = weighed

-- what the memory holds: the pointer beside the value
abbrev stored : Former {0}
stored = via (pair (const Ptr) this) Inside
    (λ X struct. (struct.pointer.ptr, struct.pointer.value))
    (λ X parts. record { pointer = record { ptr = parts.0; value = parts.1 } })
    (λ X struct. refl) (λ X parts. refl)

-- a value on the heap with a count of its owners
abbrev heap_arc : RattleType → RattleType
heap_arc R = arc.the_row R heap.the_row ghosts

-- the same owner of another value
abbrev refilled : {X Y : Type 0} → Arc X Global → Y → Arc Y Global
refilled old value = record { ptr = old.ptr; value = value }

module _ (R S : RattleType) (h : R.Denot → S.Denot) where
  -- an owner owns and lends what its value does
  arc_places : Alike R S h → Alike (heap_arc R) (heap_arc S) (λ old. refilled old (h old.value))
  unfolding part_of
  arc_places alike = record {
    mir_same = λ i. (heap_arc (one_value R (alike.mir_same i) (λ _. ftrue) (λ _ _. nothing) gnil)).mir;
    own_same = λ old i.
        (heap_arc
        (one_value R (alike.mir_same i) (alike.own_same old.value i) (alike.shr_same old.value i) gnil)).own_val
        (refilled old tt);
    shr_same = λ old i.
        (heap_arc
        (one_value R (alike.mir_same i) (alike.own_same old.value i) (alike.shr_same old.value i) gnil)).shr_at
        (refilled old tt);
  }

  pub the_places : Alike R S h → Alike (shared.the_row R) (shared.the_row S) ((the_former this).map R.Denot S.Denot h)
  the_places alike = view_places stored this view (λ X Y k struct. refl) (λ X struct. refl)
      R.Denot S.Denot h (shared.the_row R).coded (shared.the_row S).coded
      (invariant R.Denot) (invariant S.Denot) (λ _ p q. refl) (λ _ p q. refl) (λ _ _. tt) (λ _ _. tt)
      (over (inside.the_row R)) (over (inside.the_row S))
      (struct_places (inside.the_type R) (inside.the_type S) ((λ old. refilled old (h old.value)), tt) _ (λ _.
      refl) refl
      (laid _ _ _ (arc_places alike), tt))

  pub the_codes_placed : Recodes R S h →
      Recodes (shared.the_row R) (shared.the_row S) ((the_former this).map R.Denot S.Denot h)
  the_codes_placed recodes value = recodes value
