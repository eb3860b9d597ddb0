-- What stands for a run stems from the command of the system.
use Rattle.std.proofs.Common.{◌≡◌, List, [], ◌∷◌, Some, option_map}
use Rattle.runs.specs.Moves.{Place}
use Rattle.runs.specs.Asking.{asked}
use Rattle.runs.specs.declared.ask.Ask.{Ask}
use Rattle.runs.specs.declared.event.Event.{Event}
use Rattle.process_tree.specs.Advanced.{Moved, advanced}
use Rattle.process_tree.specs.Code.{Code}
use Rattle.process_tree.specs.Proc.{Proc}
use Rattle.process_tree.specs.Translation.{system_code}
use Rattle.process_tree.proofs.public.Asking.{some-elim, map-elim, then-elim}
use Rattle.event_inverse.specs.Grown.{TreeAndStore, Taken, opening_tree, all_advanced, after_moves, applied, grown}
use Rattle.event_inverse.proofs.public.Moving.{Walked}
use Rattle.event_inverse.proofs.public.Undoing.{Grew, grown-elim}
use Rattle.channel_uses.specs.StemsFrom.{StemsFrom, RunsKeepOrigin}
use Rattle.channel_uses.proofs.Stems.{started-stems, moves-keep-origin}

all-stem : (c : Code) (ks : List (Place × Ask)) (p : Proc) (x : Walked) → StemsFrom p c → all_advanced p ks ≡ Some x → StemsFrom x.0 c
all-stem c [] p x t e = some-elim (p, []) x (λ y. StemsFrom y.0 c) e t
all-stem c (k ∷ ks) p x t e =
    then-elim (λ (y : Moved). option_map (λ z. (z.0, y.1 ∷ z.1)) (all_advanced y.0 ks)) (advanced p k.0 k.1) x (StemsFrom x.0 c) e
    (λ y i g. map-elim (λ z. (z.0, y.1 ∷ z.1)) (all_advanced y.0 ks) x (λ z. StemsFrom z.0 c) g (λ z j. all-stem c ks y.0 z (moves-keep-origin p c k.0 k.1 y t i) j))

applied-stems : (c : Code) (T : TreeAndStore) (e : Event) (x : TreeAndStore × Taken) → StemsFrom T.proc c → applied T e ≡ Some x → StemsFrom x.0.proc c
applied-stems c T e x t h =
    then-elim (λ ks. option_map (after_moves T e) (all_advanced T.proc ks)) (asked e) x (StemsFrom x.0.proc c) h
    (λ ks i g. map-elim (after_moves T e) (all_advanced T.proc ks) x (λ y. StemsFrom y.0.proc c) g (λ z j. all-stem c ks T.proc z t j))

grown-stems : (c : Code) (T : TreeAndStore) (h : List Event) (y : Grew) → StemsFrom T.proc c → grown T h ≡ Some y → StemsFrom y.0.proc c
grown-stems c T [] y t g = some-elim (T, []) y (λ (z : Grew). StemsFrom z.0.proc c) g t
grown-stems c T (e ∷ h) y t g = grown-elim T e h y (λ (z : Grew). StemsFrom z.0.proc c) g (λ x w i j. grown-stems c x.0 h w (applied-stems c T e x t i) j)

pub runs-keep-origin : RunsKeepOrigin
runs-keep-origin system h T records s = grown-stems (system_code system) (opening_tree system) h (T, records) (started-stems (system_code system)) s.grows
