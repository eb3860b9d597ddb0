-- The laws, from the opening of a system.
use Rattle.std.proofs.Common.{◌≡◌, List, [], ◌∷◌, ◌++◌, Some, refl, sym, subst, ap, ◌∙◌}
use Rattle.system.specs.Translation.{opening_store}
use Rattle.system.specs.declared.system.System.{System}
use Rattle.runs.specs.Dependence.{Directly}
use Rattle.runs.specs.Steps.{State, Run, opening}
use Rattle.runs.specs.declared.event.Event.{Event}
use Rattle.runs.proofs.public.FromOpening.{runs_without, respecting_orders}
use Rattle.runs.proofs.public.Lists.{every-of}
use Rattle.runs.proofs.public.Orders.{run-join}
use Rattle.process_tree.proofs.public.Asking.{some-elim}
use Rattle.process_tree.proofs.public.Translated.{systems-open-alike}
use Rattle.event_inverse.specs.Grown.{TreeAndStore, Records, state_of_tree, opening_tree, grown, StandFor}
use Rattle.event_inverse.specs.Laws.{TreesOpenAlike, RunsHaveTrees, OneMore, UndoneByRecords, OrdersHaveOneTree}
use Rattle.event_inverse.proofs.public.Undoing.{undone-in, grown-onwards, grows, respecting-grows}

pub trees-open-alike : TreesOpenAlike
trees-open-alike system = λ i. record { residual = systems-open-alike system i; store = opening_store system }

-- a run from the opening is one of the tree
from-tree : (system : System) (h : List Event) (U : State) → Run (opening system) h U → Run (state_of_tree (opening_tree system)) h U
from-tree system h U r = subst (λ (S : State). Run S h U) (sym (trees-open-alike system)) r

-- what a list that runs has grown stands for its run
stands : (system : System) (h : List Event) (U : State) (T : TreeAndStore) (records : Records) → Run (opening system) h U
    → grown (opening_tree system) h ≡ Some (T, records) → StandFor system h T records
stands system h U T records r g =
    let x = grows h (opening_tree system) U (from-tree system h U r) in
    let same : state_of_tree T ≡ U = some-elim x.0 (T, records) (λ y. state_of_tree y.0 ≡ U) (sym x.1 ∙ g) x.2 in
    record { runs = subst (λ (S : State). Run (opening system) h S) (sym same) r; grows = g }

pub runs-have-trees : RunsHaveTrees
runs-have-trees system h U r =
    let x = grows h (opening_tree system) U (from-tree system h U r) in
    (x.0.0, x.0.1, stands system h U x.0.0 x.0.1 r x.1, x.2)

pub one-more : OneMore
one-more system h T records e x s a d =
    stands system (h ++ e ∷ []) a.0 x.0 (records ++ (e, x.1) ∷ [])
    (run-join (opening system) (state_of_tree T) a.0 h (e ∷ []) s.runs (a.0, a.1, refl))
    (grown-onwards (opening_tree system) h (T, records) e x s.grows d)

pub undone-by-records : UndoneByRecords
undone-by-records system h k e T records s none =
    let u = undone-in h k (opening_tree system) e (T, records) s.grows (every-of (λ f. Directly e f → ⊥) k none) in
    let rest = runs_without system h k e (state_of_tree T) s.runs none in
    record {
      taken = u.taken;
      earlier = u.earlier;
      later = u.later;
      tree = u.tree;
      found = u.found;
      placed = u.placed;
      reverts = u.reverts;
      stands = stands system (h ++ k) rest.0 u.tree (u.earlier ++ u.later) rest.1 u.grows;
    }

pub orders-have-one-tree : OrdersHaveOneTree
orders-have-one-tree system h g T records s o =
    let z = respecting-grows h g (opening_tree system) (state_of_tree T) (T, records) (from-tree system h (state_of_tree T) s.runs) s.grows o in (
      z.0.1,
      stands system g (state_of_tree T) T z.0.1 (respecting_orders system h g (state_of_tree T) s.runs o) (z.1 ∙ ap (λ (t : TreeAndStore). Some (t, z.0.1)) z.2),
      z.3,
    )
