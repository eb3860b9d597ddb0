-- One event on the tree: made, taken back, and made after another.
use Rattle.std.proofs.Common.{◌≡◌, ℕ, List, [], ◌∷◌, Option, Some, None, option_map, slice_set, inl, inr, refl, sym, ap, ap₂, ◌∙◌, set-set}
use Rattle.std.proofs.lemmas.List.{set-get_or}
use Rattle.syntax.specs.Lists.{In, Every}
use Rattle.address.specs.Places.{Before}
use Rattle.value.specs.Word.{Word, resized}
use Rattle.system.specs.Expression.{Store, get, put, word}
use Rattle.runs.specs.Moves.{Place}
use Rattle.runs.specs.declared.ask.Ask.{Ask}
use Rattle.runs.specs.Dependence.{Directly}
use Rattle.runs.specs.Events.{places, places_of, store_after, written_by}
use Rattle.runs.specs.Asking.{asked, asked_by}
use Rattle.runs.specs.internal.Made.{all_ask}
use Rattle.runs.specs.Steps.{State, Step}
use Rattle.runs.specs.declared.event.Event.{Event}
use Rattle.runs.specs.declared.event.Kind.{Kind}
use Rattle.runs.specs.declared.event.Kind.TheVariants.{Assign, Test, Turn, Meet, Open, Close, Sync}
use Rattle.runs.proofs.public.Lists.{every-map}
use Rattle.runs.proofs.public.Made.{asked-is}
use Rattle.runs.proofs.public.Options.{none-some, and_then-at}
use Rattle.runs.proofs.public.Stores.{get-after, after-other}
use Rattle.process_tree.specs.Proc.{Proc}
use Rattle.process_tree.proofs.public.Asking.{some-elim, map-elim, then-elim}
use Rattle.event_inverse.specs.Grown.{TreeAndStore, Taken, state_of_tree, all_advanced, after_moves, applied}
use Rattle.event_inverse.specs.internal.Reverted.{all_retreated, written_back, reverted}
use Rattle.event_inverse.proofs.public.Moving.{Walked, all-does, all-back, all-past}

-- a step of the state is made by the tree
pub applies : (T : TreeAndStore) (e : Event) (U : State) → Step (state_of_tree T) e U → (x : TreeAndStore × Taken) × (applied T e ≡ Some x) × (state_of_tree x.0 ≡ U)
applies T e U s =
    let d = all-does T.proc s.moves U.residual s.moved in (
      after_moves T e d.0,
      and_then-at (λ ks. option_map (after_moves T e) (all_advanced T.proc ks)) (asked e) (all_ask s.moves) (asked-is T.store s.moves e s.makes)
          ∙ ap (option_map (after_moves T e)) d.1,
      λ i. record { residual = d.2 i; store = sym s.stored i },
    )

-- a value written back takes the write back
value-back : (s : Store) (x : ℕ) (v : Word) → slice_set (put s x v) x (get s x) ≡ s
value-back s x v = set-set s x (resized v (get s x).width) (get s x) ∙ set-get_or s x (word 0 1)

-- and so does the value of a record
store-back : (s : Store) (w : Option ℕ) (v : Option Word) → written_back w (option_map (get s) w) (written_by w v s) ≡ s
store-back s None v = refl
store-back s (Some x) None = set-get_or s x (word 0 1)
store-back s (Some x) (Some v) = value-back s x v

-- the record of an event takes it back
pub reverts : (T : TreeAndStore) (e : Event) (x : TreeAndStore × Taken) → applied T e ≡ Some x → reverted x.0 e x.1 ≡ Some T
reverts T e x h =
    then-elim (λ ks. option_map (after_moves T e) (all_advanced T.proc ks)) (asked e) x (reverted x.0 e x.1 ≡ Some T) h
    (λ ks i g. map-elim (after_moves T e) (all_advanced T.proc ks) x (λ x. reverted x.0 e x.1 ≡ Some T) g
    (λ u c. let back = written_back e.written (option_map (get T.store) e.written) (store_after e T.store) in
    let to : Proc → TreeAndStore = λ p. record { proc = p; store = back } in
    and_then-at (λ ks. option_map to (all_retreated u.0 ks u.1)) (asked e) ks i
    ∙ ap (option_map to) (all-back T.proc ks u c)
    ∙ (λ j. Some (record { proc = T.proc; store = store-back T.store e.written e.value j }))))

-- an event asks for moves at its places
asked_by-places : (kind : Kind) (a : Place) (b : Option Place) (k : Option ℕ) (v : Option Word) (ks : List (Place × Ask)) → asked_by kind a b k v ≡ Some ks
    → Every (λ m. In m.0 (a ∷ places_of b)) ks
asked_by-places Assign a b k v ks h = some-elim _ ks (Every (λ m. In m.0 (a ∷ places_of b))) h (inl refl, tt)
asked_by-places Test a b k v ks h = some-elim _ ks (Every (λ m. In m.0 (a ∷ places_of b))) h (inl refl, tt)
asked_by-places Turn a b k v ks h = some-elim _ ks (Every (λ m. In m.0 (a ∷ places_of b))) h (inl refl, tt)
asked_by-places Meet a None k v ks h = none-some ks h
asked_by-places Meet a (Some b) k v ks h = some-elim _ ks (Every (λ m. In m.0 (a ∷ b ∷ []))) h (inl refl, (inr (inl refl), tt))
asked_by-places Open a None k v ks h = none-some ks h
asked_by-places Open a (Some b) None v ks h = none-some ks h
asked_by-places Open a (Some b) (Some k) v ks h = some-elim _ ks (Every (λ m. In m.0 (a ∷ b ∷ []))) h (inl refl, (inr (inl refl), tt))
asked_by-places Close a None k v ks h = none-some ks h
asked_by-places Close a (Some b) k v ks h = some-elim _ ks (Every (λ m. In m.0 (a ∷ b ∷ []))) h (inl refl, (inr (inl refl), tt))
asked_by-places Sync a None k v ks h = none-some ks h
asked_by-places Sync a (Some b) k v ks h = some-elim _ ks (Every (λ m. In m.0 (a ∷ b ∷ []))) h (inl refl, (inr (inl refl), tt))

-- no place of the one event is before one of the other
none-before : (e f : Event) (ks js : List (Place × Ask)) → asked e ≡ Some ks → asked f ≡ Some js → (Directly e f → ⊥)
    → Every (λ k. Every (λ j. Before k.0 j.0 → ⊥) js) ks
none-before e f ks js h g free =
    every-map (λ k. In k.0 (places e)) (λ k. Every (λ j. Before k.0 j.0 → ⊥) js) ks
    (λ k i. every-map (λ j. In j.0 (places f)) (λ j. Before k.0 j.0 → ⊥) js (λ j c before. free (inl (k.0, j.0, i, c, before)))
    (asked_by-places f.kind f.first f.second f.arm f.value js g))
    (asked_by-places e.kind e.first e.second e.arm e.value ks h)

-- a value that is the same in both stores
old-same : (s t : Store) (w : Option ℕ) → ((x : ℕ) → w ≡ Some x → get s x ≡ get t x) → option_map (get s) w ≡ option_map (get t) w
old-same s t None h = refl
old-same s t (Some x) h = ap Some (h x refl)

-- a tree, and a record, of their parts
abbrev tree_of : Proc → Store → TreeAndStore
tree_of p s = record { proc = p; store = s }

abbrev taken_of : List (Option Proc) → Option Word → Taken
taken_of ps o = record { procs = ps; old = o }

-- two events made the other way round
abbrev pub TurnedRound : TreeAndStore → Event → TreeAndStore × Taken → Event → TreeAndStore × Taken → Type 0
TurnedRound T e x f y = (z : TreeAndStore × Taken) × (applied T f ≡ Some z) × (applied z.0 e ≡ Some (y.0, x.1)) × (z.1 ≡ y.1)

-- they can be, unless the second depends directly on the first
pub neighbours : (T : TreeAndStore) (e f : Event) (x y : TreeAndStore × Taken) → applied T e ≡ Some x → applied x.0 f ≡ Some y → (Directly e f → ⊥) → TurnedRound T e x f y
neighbours T e f x y h g free =
    then-elim (λ ks. option_map (after_moves T e) (all_advanced T.proc ks)) (asked e) x (TurnedRound T e x f y) h
    (λ ks asks d. map-elim (after_moves T e) (all_advanced T.proc ks) x (λ x. applied x.0 f ≡ Some y → TurnedRound T e x f y) d
    (λ u i g. turned ks asks u i g) g)
  where
    turned : (ks : List (Place × Ask)) → asked e ≡ Some ks → (u : Walked) → all_advanced T.proc ks ≡ Some u
        → applied (after_moves T e u).0 f ≡ Some y → TurnedRound T e (after_moves T e u) f y
    turned ks asks u i g =
        let S : TreeAndStore = (after_moves T e u).0 in
        then-elim (λ js. option_map (after_moves S f) (all_advanced u.0 js)) (asked f) y (TurnedRound T e (after_moves T e u) f y) g
        (λ js also d. map-elim (after_moves S f) (all_advanced u.0 js) y (TurnedRound T e (after_moves T e u) f) d
        (λ w c. let s = all-past T.proc ks u js w i c (none-before e f ks js asks also free) in
        let R : TreeAndStore = (after_moves T f s.0).0 in (
          after_moves T f s.0,
          and_then-at (λ js. option_map (after_moves T f) (all_advanced T.proc js)) (asked f) js also ∙ ap (option_map (after_moves T f)) s.1,
          and_then-at (λ ks. option_map (after_moves R e) (all_advanced s.0.0 ks)) (asked e) ks asks ∙ ap (option_map (after_moves R e)) s.2
              ∙ ap₂ (λ (t : Store) (o : Option Word). Some (tree_of w.0 t, taken_of u.1 o))
              (sym (after-other T.store e f (λ x we wf. free (inr (inr (inl (x, we, inr wf)))))))
              (old-same R.store T.store e.written (λ x we. get-after T.store f x (λ wf. free (inr (inr (inl (x, we, inr wf))))))),
          ap₂ taken_of s.3
              (old-same T.store S.store f.written (λ x wf. sym (get-after T.store e x (λ we. free (inr (inr (inl (x, we, inr wf)))))))),
        )))
