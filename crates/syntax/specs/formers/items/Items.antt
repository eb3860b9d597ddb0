-- How an `Items` lets a type reach itself: its value is a list of `T`s, and the memory of the `Vec` is the rest.
use mathlib.Core.Path.{◌≡◌, refl, sym}
use mathlib.Core.List.{List, []}
use mathlib.Core.Former.{Former, this, list, via, children}
use base.Stored.{code_map}
use denote.RattleType.{RattleType}
use denote.HoleLaws.{Alike}
use denote.HolePlaces.{Recodes, struct_places, laid}
use denote.Hole.Carrier.{listed, list-listed}
use denote.Hole.Fix.{over}
use denote.Param.Weighed.{Weighed, w_list}
use denote.Model.Placed.{view_places}
use Rattle.std.specs.formers.vec.Vec as vec
use Rattle.std.specs.declared.alloc.Global.{Global}
use Rattle.std.specs.contracts.alloc.Global as heap
use Rattle.std.specs.contracts.impls.GlobalAllocator.TheImpl.{ghosts}
use Rattle.syntax.specs.declared.items.Items.TheInside.{Inside}
use Rattle.syntax.specs.declared.items.Items.TheView.{view, invariant}
use Rattle.syntax.specs.contracts.items.Items as items
use Rattle.syntax.specs.contracts.items.Items.TheInside as inside

-- what contracts see: the elements in order
abbrev pub the_former : Former {0} → Former {0}
the_former held = list held

-- it is as deep as its deepest element
abbrev pub the_weighed : {held : Former {0}} → Weighed held → Weighed (the_former held)
the_weighed weighed = w_list weighed

-- a list may be empty, so a tree may end here
pub the_empty : List ⊥
the_empty = []

-- the elements, as a list
abbrev pub the_items : (X : Type 0) → List X → List X
the_items X elements = elements

-- the children of a list are its elements, in order
pub the_items_listed : (X : Type 0) (elements : List X) →
    listed _ (children (the_former this) X elements) ≡ the_items X elements
the_items_listed X elements = list-listed X elements

-- what the memory holds: the `Vec`
abbrev stored : Former {0}
stored = via (vec.the_former this Global) Inside
    (λ X struct. struct.elements) (λ X owned. record { elements = owned }) (λ X struct. refl) (λ X owned. refl)

module _ (R S : RattleType) (h : R.Denot → S.Denot) where
  pub the_places : Alike R S h → Alike (items.the_row R) (items.the_row S) ((the_former this).map R.Denot S.Denot h)
  the_places alike = view_places stored (list this) view (λ X Y k struct. refl) (λ X struct. refl)
      R.Denot S.Denot h (items.the_row R).coded (items.the_row S).coded
      (invariant R.Denot) (invariant S.Denot) (λ _ p q. refl) (λ _ p q. refl) (λ _ _. tt) (λ _ _. tt)
      (over (inside.the_row R)) (over (inside.the_row S))
      (struct_places (inside.the_type R) (inside.the_type S) (vec.mapped h, tt) _ (λ _. refl) refl
      (laid _ _ _ (vec.the_places heap.the_row ghosts R S h alike), tt))

  pub the_codes_placed : Recodes R S h →
      Recodes (items.the_row R) (items.the_row S) ((the_former this).map R.Denot S.Denot h)
  the_codes_placed recodes elements = sym (code_map R.coded.code S.coded.code h (λ x. sym (recodes x)) elements)
