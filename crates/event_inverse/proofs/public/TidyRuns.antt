-- What stands for a run is tidy.
use Rattle.std.proofs.Common.{◌≡◌, List, [], ◌∷◌, Some, option_map}
use Rattle.runs.specs.Moves.{Place}
use Rattle.runs.specs.Asking.{asked}
use Rattle.runs.specs.declared.ask.Ask.{Ask}
use Rattle.runs.specs.declared.event.Event.{Event}
use Rattle.process_tree.specs.Advanced.{Moved, advanced}
use Rattle.process_tree.specs.Proc.{Proc}
use Rattle.process_tree.specs.Tidy.{Tidy}
use Rattle.process_tree.specs.Translation.{system_code}
use Rattle.process_tree.proofs.public.Asking.{some-elim, map-elim, then-elim}
use Rattle.process_tree.proofs.public.Tidy.{started-tidy, moves-keep-tidy}
use Rattle.event_inverse.specs.Grown.{TreeAndStore, Taken, opening_tree, all_advanced, after_moves, applied, grown}
use Rattle.event_inverse.specs.Laws.{RunsAreTidy}
use Rattle.event_inverse.proofs.public.Moving.{Walked}
use Rattle.event_inverse.proofs.public.Undoing.{Grew, grown-elim}

all-tidy : (ks : List (Place × Ask)) (p : Proc) (x : Walked) → Tidy p → all_advanced p ks ≡ Some x → Tidy x.0
all-tidy [] p x t e = some-elim (p, []) x (λ y. Tidy y.0) e t
all-tidy (k ∷ ks) p x t e =
    then-elim (λ (y : Moved). option_map (λ z. (z.0, y.1 ∷ z.1)) (all_advanced y.0 ks)) (advanced p k.0 k.1) x (Tidy x.0) e
    (λ y i g. map-elim (λ z. (z.0, y.1 ∷ z.1)) (all_advanced y.0 ks) x (λ z. Tidy z.0) g (λ z j. all-tidy ks y.0 z (moves-keep-tidy p k.0 k.1 y t i) j))

applied-tidy : (T : TreeAndStore) (e : Event) (x : TreeAndStore × Taken) → Tidy T.proc → applied T e ≡ Some x → Tidy x.0.proc
applied-tidy T e x t h =
    then-elim (λ ks. option_map (after_moves T e) (all_advanced T.proc ks)) (asked e) x (Tidy x.0.proc) h
    (λ ks i g. map-elim (after_moves T e) (all_advanced T.proc ks) x (λ y. Tidy y.0.proc) g (λ z j. all-tidy ks T.proc z t j))

grown-tidy : (T : TreeAndStore) (h : List Event) (y : Grew) → Tidy T.proc → grown T h ≡ Some y → Tidy y.0.proc
grown-tidy T [] y t g = some-elim (T, []) y (λ (z : Grew). Tidy z.0.proc) g t
grown-tidy T (e ∷ h) y t g = grown-elim T e h y (λ (z : Grew). Tidy z.0.proc) g (λ x w i j. grown-tidy x.0 h w (applied-tidy T e x t i) j)

pub runs-are-tidy : RunsAreTidy
runs-are-tidy system h T records s = grown-tidy (opening_tree system) h (T, records) (started-tidy (system_code system)) s.grows
