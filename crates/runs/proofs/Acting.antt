-- The acting side of an event tells its kind and its channel.
use Rattle.std.proofs.Common.{◌≡◌, List, false, Some, None, refl, sym, ap, subst, ◌∙◌}
use Rattle.runs.specs.Moves.{Move, Local, assigns, tests, turns, sends, receives, syncs, opens, releases, closes}
use Rattle.system.specs.Expression.{Store}
use Rattle.system.specs.Residual.{Residual}
use Rattle.runs.specs.Events.{Located, Makes, assigning, testing, turning, meeting, opening, opening_without_data, shutting, syncing, acting}
use Rattle.runs.specs.Steps.{State, Step}
use Rattle.runs.specs.declared.event.Event.{Event}
use Rattle.runs.specs.declared.event.Kind.TheVariants.{Assign, Test, Turn, Meet, Open, Close, Sync}
use Rattle.runs.proofs.public.Options.{some-injective}
use Rattle.runs.proofs.public.WellFormed.{WellFormed}
use Rattle.runs.proofs.public.SameCommand.{SameCommand, same_command}
use Rattle.runs.proofs.OneEvent.{OneArm}
use Rattle.runs.proofs.public.AtOnce.{OffersAll, offered}

-- what a move on the acting side tells of the event
abbrev Tells : Move → Event → Type 0
Tells (assigns x w g) e = (e.kind ≡ Assign) × (e.channel ≡ None)
Tells (tests d k) e = (e.kind ≡ Test) × (e.channel ≡ None)
Tells turns e = (e.kind ≡ Turn) × (e.channel ≡ None)
Tells (sends c w g h) e = ⊥
Tells (receives c x) e = (e.kind ≡ Meet) × (e.channel ≡ Some c)
Tells (syncs c h) e = (e.kind ≡ Sync) × (e.channel ≡ Some c)
Tells (opens c k v) e = (e.kind ≡ Open) × (e.channel ≡ Some c) × (e.arm ≡ Some k)
Tells (releases c) e = ⊥
Tells (closes c) e = (e.kind ≡ Close) × (e.channel ≡ Some c)

-- the move on the acting side, offered by r
record Actor (r : Residual) (e : Event) : Type 0 where
  move : Move
  left : Residual
  offers : Local r (acting e) move left
  tells : Tells move e

-- the acting move of an event whose moves are offered
actor : (r : Residual) (s : Store) (ls : List Located) (e : Event) → Makes s ls e → OffersAll r ls → Actor r e
actor r s ls e (assigning a x w g) h = record { move = assigns x w g; left = h.0.0; offers = h.0.1; tells = (refl, refl) }
actor r s ls e (testing a d k p) h = record { move = tests d k; left = h.0.0; offers = h.0.1; tells = (refl, refl) }
actor r s ls e (turning a) h = record { move = turns; left = h.0.0; offers = h.0.1; tells = (refl, refl) }
actor r s ls e (meeting a b c w g x p) h = record { move = receives c x; left = h.1.0.0; offers = h.1.0.1; tells = (refl, refl) }
actor r s ls e (opening a b c w k g p) h = record { move = opens c k _; left = h.1.0.0; offers = h.1.0.1; tells = (refl, refl, refl) }
actor r s ls e (opening_without_data a b c k p) h = record { move = opens c k None; left = h.1.0.0; offers = h.1.0.1; tells = (refl, refl, refl) }
actor r s ls e (shutting a b c p) h = record { move = closes c; left = h.1.0.0; offers = h.1.0.1; tells = (refl, refl) }
actor r s ls e (syncing a b c p l) h = record { move = syncs c false; left = h.0.0; offers = h.0.1; tells = (refl, refl) }

-- acting moves of one command tell the same
tell_same : (m n : Move) (e f : Event) → SameCommand m n → Tells m e → Tells n f → OneArm e f → (e.kind ≡ f.kind) × (e.channel ≡ f.channel)
tell_same (assigns x w g) (assigns y v h) e f c t u o = (t.0 ∙ sym u.0, t.1 ∙ sym u.1)
tell_same (tests d j) (tests g k) e f c t u o = (t.0 ∙ sym u.0, t.1 ∙ sym u.1)
tell_same turns turns e f c t u o = (t.0 ∙ sym u.0, t.1 ∙ sym u.1)
tell_same (receives a x) (receives b y) e f c t u o = (t.0 ∙ sym u.0, t.1 ∙ ap (λ i. Some i) c.0 ∙ sym u.1)
tell_same (syncs a g) (syncs b h) e f c t u o = (t.0 ∙ sym u.0, t.1 ∙ ap (λ i. Some i) c ∙ sym u.1)
tell_same (opens a j v) (opens b k w) e f c t u o =
    let arms : j ≡ k = some-injective j k (sym t.2 ∙ o t.0 u.0 ∙ u.2) in
    (t.0 ∙ sym u.0, t.1 ∙ ap (λ i. Some i) (c arms) ∙ sym u.1)
tell_same (closes a) (closes b) e f c t u o = (t.0 ∙ sym u.0, t.1 ∙ ap (λ i. Some i) c ∙ sym u.1)
tell_same (sends a w g h) _ e f c t u o = absurd t
tell_same (releases a) _ e f c t u o = absurd t
tell_same _ _ e f c t u o = absurd c

-- two events that are possible in one state, at one acting address and with one arm if they open, are of one kind and on one channel
pub one_acting : (S : State) (e f : Event) (T U : State) → WellFormed S.residual → Step S e T → Step S f U
    → acting e ≡ acting f → OneArm e f → (e.kind ≡ f.kind) × (e.channel ≡ f.channel)
one_acting S e f T U w h g p o =
    let x : Actor S.residual e = actor S.residual S.store h.moves e h.makes (offered S.residual T.residual S.store h.moves e w h.makes h.moved) in
    let y : Actor S.residual f = actor S.residual S.store g.moves f g.makes (offered S.residual U.residual S.store g.moves f w g.makes g.moved) in
    tell_same x.move y.move e f
    (same_command S.residual (acting e) x.move y.move x.left y.left w x.offers
    (subst (λ a. Local S.residual a y.move y.left) (sym p) y.offers))
    x.tells y.tells o
