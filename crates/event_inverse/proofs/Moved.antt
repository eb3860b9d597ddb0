-- An event made of its moves and its write, and taken back by them.
use Rattle.std.proofs.Common.{◌≡◌, Option, Some, None, IsSome, option_map, refl, sym, ap, ap₂, ◌∙◌}
use Rattle.std.specs.Option.{option_and_then}
use Rattle.value.specs.Word.{Word}
use Rattle.system.specs.Expression.{Store, get}
use Rattle.runs.specs.Moves.{Place}
use Rattle.runs.specs.declared.ask.Ask.{Ask}
use Rattle.runs.specs.Asking.{asked}
use Rattle.runs.specs.Events.{store_after}
use Rattle.runs.specs.declared.event.Event.{Event}
use Rattle.runs.proofs.public.Options.{some-injective}
use Rattle.process_tree.specs.Proc.{Proc}
use Rattle.process_tree.specs.Advanced.{Moved, advanced}
use Rattle.process_tree.specs.Retreated.{retreated}
use Rattle.process_tree.proofs.public.Back.{back}
use Rattle.process_tree.proofs.public.Steps.{is-some}
use Rattle.event_inverse.specs.Grown.{TreeAndStore, Taken, all_advanced, after_moves, applied}
use Rattle.event_inverse.specs.internal.Reverted.{all_retreated, written_back, reverted}
use Rattle.event_inverse.specs.internal.Moved.{moved, moved_back}
use Rattle.event_inverse.proofs.public.Moving.{Walked}

-- a chain whose end is mapped
then-mapped : {X Y Z : Type 0} (f : Y → Z) (g : X → Option Y) (o : Option X)
    → option_and_then (λ x. option_map f (g x)) o ≡ option_map f (option_and_then g o)
then-mapped f g None = refl
then-mapped f g (Some x) = refl

-- the moves of an event, its write and the value that it overwrote apply it
pub applied-by : (T : TreeAndStore) (e : Event) (x : Walked) (s : Store) (o : Option Word) → moved T.proc e ≡ Some x → s ≡ store_after e T.store
    → o ≡ option_map (get T.store) e.written → applied T e ≡ Some (record { proc = x.0; store = s }, record { procs = x.1; old = o })
applied-by T e x s o h w v =
    then-mapped (after_moves T e) (all_advanced T.proc) (asked e)
    ∙ ap (option_map (after_moves T e)) h
    ∙ ap₂ (λ (s : Store) (o : Option Word). Some (record { proc = x.0; store = s }, record { procs = x.1; old = o })) (sym w) (sym v)

-- the moves of an event and its write taken back revert it
pub reverted-by : (T : TreeAndStore) (e : Event) (r : Taken) (p : Proc) (s : Store) → moved_back T.proc e r.procs ≡ Some p → s ≡ written_back e.written r.old T.store
    → reverted T e r ≡ Some (record { proc = p; store = s })
reverted-by T e r p s h w =
    let to : Proc → TreeAndStore = λ p. record { proc = p; store = written_back e.written r.old T.store } in
    then-mapped to (λ ks. all_retreated T.proc ks r.procs) (asked e)
    ∙ ap (option_map to) h
    ∙ ap (λ (s : Store). Some (record { proc = p; store = s })) (sym w)

-- a move after which nothing was changed can be taken back
pub can-go-back : (p : Proc) (a : Place) (k : Ask) (x : Moved) (q : Proc) → advanced p a k ≡ Some x → q ≡ x.0 → IsSome (retreated q a x.1)
can-go-back p a k x q e s = is-some (retreated q a x.1) p (ap (λ q. retreated q a x.1) s ∙ back p a k x e)

-- and then the process is as it was
pub goes-back : (p : Proc) (a : Place) (k : Ask) (x : Moved) (q r : Proc) → advanced p a k ≡ Some x → q ≡ x.0 → retreated q a x.1 ≡ Some r → r ≡ p
goes-back p a k x q r e s h = some-injective r p (sym h ∙ ap (λ q. retreated q a x.1) s ∙ back p a k x e)
