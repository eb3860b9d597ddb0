-- Of the events that are possible in one state, no two have the same places and the same arm.
use Rattle.runs.proofs.public.AtOnce.{OffersAll, offered}
use Rattle.std.proofs.Common.{◌≡◌, List, [], ◌∷◌, Some, None, refl, sym, ap, subst, ◌∙◌}
use Rattle.runs.specs.Moves.{Place, Local}
use Rattle.system.specs.Expression.{Store, variables, decide, decision_variables, ascending}
use Rattle.system.specs.Residual.{Residual}
use Rattle.runs.specs.Events.{Located, sent, Makes, places, assigning, testing, turning, meeting, opening, opening_without_data, shutting, syncing}
use Rattle.runs.specs.Steps.{State, Step}
use Rattle.runs.specs.declared.event.Event.{Event}
use Rattle.runs.specs.declared.event.Kind.TheVariants.{Assign, Test, Turn, Meet, Open, Close, Sync}
use Rattle.runs.proofs.public.WellFormed.{WellFormed}
use Rattle.runs.proofs.public.SameCommand.{SameCommand, same_command}

-- the moves are at the same places, and of the same commands
abbrev pub SameCommands : List Located → List Located → Type 0
SameCommands [] [] = Unit {0}
SameCommands (l ∷ ls) (k ∷ ks) = (l.place ≡ k.place) × SameCommand l.move k.move × SameCommands ls ks
SameCommands _ _ = ⊥

-- the places of moves
abbrev pub all_places : List Located → List Place
all_places [] = []
all_places (l ∷ ls) = l.place ∷ all_places ls

-- an event has the places of its moves
places-made : (s : Store) (ls : List Located) (e : Event) → Makes s ls e → all_places ls ≡ places e
places-made s ls e (assigning a x v f) = refl
places-made s ls e (testing a d k p) = refl
places-made s ls e (turning a) = refl
places-made s ls e (meeting a b c v f x p) = refl
places-made s ls e (opening a b c v k f p) = refl
places-made s ls e (opening_without_data a b c k p) = refl
places-made s ls e (shutting a b c p) = refl
places-made s ls e (syncing a b c p l) = refl

-- moves that are offered at the same places are of the same commands
pub same_commands : (r : Residual) (ls ks : List Located) → WellFormed r → OffersAll r ls → OffersAll r ks
    → all_places ls ≡ all_places ks → SameCommands ls ks
same_commands r [] [] w h g e = tt
same_commands r [] (k ∷ ks) w h g e = cc
same_commands r (l ∷ ls) [] w h g e = cc
same_commands r (l ∷ ls) (k ∷ ks) w h g e =
    let one : l.place ≡ k.place = cc in
    let more : all_places ls ≡ all_places ks = cc in (
      one,
      same_command r l.place l.move k.move h.0.0 g.0.0 w h.0.1 (subst (λ a. Local r a k.move g.0.0) (sym one) g.0.1),
      same_commands r ls ks w h.1 g.1 more,
    )

-- two events that open take one arm
abbrev pub OneArm : Event → Event → Type 0
OneArm e f = e.kind ≡ Open → f.kind ≡ Open → e.arm ≡ f.arm

-- moves of the same commands, over one store, make one event, where those that open take one arm
pub one_made : (s : Store) (ls ks : List Located) (e f : Event) → Makes s ls e → Makes s ks f → SameCommands ls ks → OneArm e f → e ≡ f
one_made s ls ks e f (assigning a x w d) (assigning b y v g) c o =
    λ i. record { kind = Assign; first = c.0 i; second = None; arm = None; channel = None; value = Some (sent s (c.1.1 i) (c.1.2 i)); written = Some (c.1.0 i); read = ascending (variables (c.1.2 i)) }
one_made s ls ks e f (testing a d k p) (testing b g j q) c o =
    let arms : k ≡ j = sym p ∙ ap (decide s) c.1 ∙ q in
    λ i. record { kind = Test; first = c.0 i; second = None; arm = arms i; channel = None; value = None; written = None; read = ascending (decision_variables (c.1 i)) }
one_made s ls ks e f (turning a) (turning b) c o =
    λ i. record { kind = Turn; first = c.0 i; second = None; arm = None; channel = None; value = None; written = None; read = [] }
one_made s ls ks e f (meeting a b d w g x p) (meeting a' b' d' w' g' x' p') c o =
    λ i. record { kind = Meet; first = c.0 i; second = Some (c.2.0 i); arm = None; channel = Some (c.1.0 i); value = Some (sent s (c.1.1 i) (c.1.2 i)); written = c.2.1.1 i; read = ascending (variables (c.1.2 i)) }
one_made s ls ks e f (opening a b d w k g p) (opening a' b' d' w' k' g' p') c o =
    let arms : Some k ≡ Some k' = o refl refl in
    λ i. record { kind = Open; first = c.0 i; second = Some (c.2.0 i); arm = arms i; channel = Some (c.1.0 i); value = Some (sent s (c.1.1 i) (c.1.2 i)); written = None; read = ascending (variables (c.1.2 i)) }
one_made s ls ks e f (opening_without_data a b d k p) (opening_without_data a' b' d' k' p') c o =
    let arms : Some k ≡ Some k' = o refl refl in
    λ i. record { kind = Open; first = c.0 i; second = Some (c.2.0 i); arm = arms i; channel = Some (c.1 i); value = None; written = None; read = [] }
one_made s ls ks e f (shutting a b d p) (shutting a' b' d' p') c o =
    λ i. record { kind = Close; first = c.0 i; second = Some (c.2.0 i); arm = None; channel = Some (c.1 i); value = None; written = None; read = [] }
one_made s ls ks e f (syncing a b d p l) (syncing a' b' d' p' l') c o =
    λ i. record { kind = Sync; first = c.0 i; second = Some (c.2.0 i); arm = None; channel = Some (c.1 i); value = None; written = None; read = [] }
one_made s ls ks e f (assigning a x w d) _ c o = absurd (assumption c)
one_made s ls ks e f (testing a d k p) _ c o = absurd (assumption c)
one_made s ls ks e f (turning a) _ c o = absurd (assumption c)
one_made s ls ks e f (meeting a b d w g x p) _ c o = absurd (assumption c)
one_made s ls ks e f (opening a b d w k g p) _ c o = absurd (assumption c)
one_made s ls ks e f (opening_without_data a b d k p) _ c o = absurd (assumption c)
one_made s ls ks e f (shutting a b d p) _ c o = absurd (assumption c)
one_made s ls ks e f (syncing a b d p l) _ c o = absurd (assumption c)

-- two events that are possible in one state are one, where they have the same places, and the same arm if they open
pub one_event : (S : State) (e f : Event) (T U : State) → WellFormed S.residual → Step S e T → Step S f U
    → places e ≡ places f → OneArm e f → e ≡ f
one_event S e f T U w h g p o =
    one_made S.store h.moves g.moves e f h.makes g.makes
    (same_commands S.residual h.moves g.moves w
    (offered S.residual T.residual S.store h.moves e w h.makes h.moved)
    (offered S.residual U.residual S.store g.moves f w g.makes g.moved)
    (places-made S.store h.moves e h.makes ∙ p ∙ sym (places-made S.store g.moves f g.makes)))
    o
