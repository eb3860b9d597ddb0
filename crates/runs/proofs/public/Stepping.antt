-- What the moves of an event have to do with its addresses and with the store.
use Rattle.std.proofs.Common.{◌≡◌, inl, inr, ℕ, List, [], ◌∷◌, Some, None, refl, sym, ◌∙◌, ap, subst, true, false}
use Rattle.syntax.specs.Lists.{In, Every}
use Rattle.runs.specs.Moves.{Place, assigns, sends, receives, opens}
use Rattle.value.specs.Word.{Word, resized}
use Rattle.system.specs.Expression.{Expression, Store, variables, ascending, decision_variables}
use Rattle.runs.specs.Events.{Located, at, Makes, assigning, testing, turning, meeting, opening, opening_without_data, shutting, syncing, sent, places}
use Rattle.runs.specs.declared.event.Event.{Event}
use Rattle.runs.specs.declared.event.Kind.TheVariants.{Assign, Meet, Open}
use Rattle.runs.proofs.public.Stores.{Agree, value-agree, decide-agree, in-ascending}

-- the places of an event's moves are its addresses
pub move-places : (s : Store) (ls : List Located) (e : Event) → Makes s ls e → Every (λ l. In l.place (places e)) ls
move-places s ls e (assigning a x w g) = (inl refl, tt)
move-places s ls e (testing a d k h) = (inl refl, tt)
move-places s ls e (turning a) = (inl refl, tt)
move-places s ls e (meeting a b c w g x h) = (inl refl, (inr (inl refl), tt))
move-places s ls e (opening a b c w k g h) = (inl refl, (inr (inl refl), tt))
move-places s ls e (opening_without_data a b c k h) = (inl refl, (inr (inl refl), tt))
move-places s ls e (shutting a b c h) = (inl refl, (inr (inl refl), tt))
move-places s ls e (syncing a b c h o) = (inl refl, (inr (inl refl), tt))

-- an event's addresses are the places of its moves
pub place-moves : (s : Store) (ls : List Located) (e : Event) (P : Place → Type 0) → Makes s ls e → Every (λ l. P l.place) ls → Every P (places e)
place-moves s ls e P (assigning a x w g) h = h
place-moves s ls e P (testing a d k _) h = h
place-moves s ls e P (turning a) h = h
place-moves s ls e P (meeting a b c w g x _) h = h
place-moves s ls e P (opening a b c w k g _) h = h
place-moves s ls e P (opening_without_data a b c k _) h = h
place-moves s ls e P (shutting a b c _) h = h
place-moves s ls e P (syncing a b c _ o) h = h

-- what is sent is one over stores that agree
sent-agree : (s t : Store) (w : ℕ) (g : Expression) → Agree s t (ascending (variables g)) → sent s w g ≡ sent t w g
sent-agree s t w g h = ap (λ v. resized v w) (value-agree s t g (λ x i. h x (in-ascending x (variables g) i)))

-- an event is made by the same moves over each store that agrees on what it reads
pub makes-agree : (s t : Store) (ls : List Located) (e : Event) → Makes s ls e → Agree s t e.read → Makes t ls e
makes-agree s t ls e (assigning a x w g) h =
    subst (λ (v : Word). Makes t (at a (assigns x w g) ∷ []) (record { kind = Assign; first = a; second = None; arm = None; channel = None; value = Some v; written = Some x; read = ascending (variables g) }))
    (sym (sent-agree s t w g h)) (assigning a x w g)
makes-agree s t ls e (testing a d k same) h =
    testing a d k (sym (decide-agree s t d (λ x i. h x (in-ascending x (decision_variables d) i))) ∙ same)
makes-agree s t ls e (turning a) h = turning a
makes-agree s t ls e (meeting a b c w g x apart) h =
    subst (λ (v : Word). Makes t (at a (sends c w g false) ∷ at b (receives c x) ∷ []) (record { kind = Meet; first = a; second = Some b; arm = None; channel = Some c; value = Some v; written = x; read = ascending (variables g) }))
    (sym (sent-agree s t w g h)) (meeting a b c w g x apart)
makes-agree s t ls e (opening a b c w k g apart) h =
    subst (λ (v : Word). Makes t (at a (sends c w g true) ∷ at b (opens c k (Some v)) ∷ []) (record { kind = Open; first = a; second = Some b; arm = Some k; channel = Some c; value = Some v; written = None; read = ascending (variables g) }))
    (sym (sent-agree s t w g h)) (opening a b c w k g apart)
makes-agree s t ls e (opening_without_data a b c k apart) h = opening_without_data a b c k apart
makes-agree s t ls e (shutting a b c apart) h = shutting a b c apart
makes-agree s t ls e (syncing a b c apart o) h = syncing a b c apart o
