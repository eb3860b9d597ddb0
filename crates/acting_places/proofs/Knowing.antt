-- What the event tells of the arms that its moves take.
use Rattle.std.proofs.Common.{◌≡◌, ℕ, List, [], ◌∷◌, ◌++◌, Some, None, ap}
use Rattle.syntax.specs.Lists.{Every}
use Rattle.address.specs.declared.Entry.TheVariants.{Ordered}
use Rattle.system.specs.Expression.{Store}
use Rattle.system_places.specs.TakenArms.{ArmsByPlace}
use Rattle.runs.specs.Moves.{Place}
use Rattle.runs.specs.Events.{Located, Makes, assigning, testing, turning, meeting, opening, opening_without_data, shutting, syncing, acting}
use Rattle.runs.specs.declared.event.Event.{Event}
use Rattle.acting_places.proofs.Placed.{Knows}

-- the arm of the event is the one that was taken at its choice
abbrev pub TellsArm : ArmsByPlace → Event → Type 0
TellsArm t e = (q : Place) (k : ℕ) → acting e ≡ q ++ Ordered 0 ∷ [] → e.arm ≡ Some k → t q ≡ Some k

pub moves-know : (t : ArmsByPlace) (s : Store) (ls : List Located) (e : Event) → Makes s ls e → TellsArm t e → Every (λ l. Knows t [] l.place l.move) ls
moves-know t s ls e (assigning a x w g) tells = ((λ q k takes is. absurd takes), tt)
moves-know t s ls e (testing a d (Some j) _) tells = ((λ q k takes is. tells q k is (ap (λ (x : ℕ). Some x) takes)), tt)
moves-know t s ls e (testing a d None _) tells = ((λ q k takes is. absurd takes), tt)
moves-know t s ls e (turning a) tells = ((λ q k takes is. absurd takes), tt)
moves-know t s ls e (meeting a b c w g x _) tells = ((λ q k takes is. absurd takes), ((λ q k takes is. absurd takes), tt))
moves-know t s ls e (opening a b c w k g _) tells = ((λ q j takes is. absurd takes), ((λ q j takes is. tells q j is (ap (λ (x : ℕ). Some x) takes)), tt))
moves-know t s ls e (opening_without_data a b c k _) tells = ((λ q j takes is. absurd takes), ((λ q j takes is. tells q j is (ap (λ (x : ℕ). Some x) takes)), tt))
moves-know t s ls e (shutting a b c _) tells = ((λ q k takes is. absurd takes), ((λ q k takes is. absurd takes), tt))
moves-know t s ls e (syncing a b c _ o) tells = ((λ q k takes is. absurd takes), ((λ q k takes is. absurd takes), tt))

-- all moves but the last take no other arm than was taken
abbrev pub FrontKnows : ArmsByPlace → List Located → Type 0
FrontKnows t [] = Unit {0}
FrontKnows t (l ∷ []) = Unit {0}
FrontKnows t (l ∷ m ∷ ls) = Knows t [] l.place l.move × FrontKnows t (m ∷ ls)

pub front-knows : (t : ArmsByPlace) (s : Store) (ls : List Located) (e : Event) → Makes s ls e → FrontKnows t ls
front-knows t s ls e (assigning a x w g) = tt
front-knows t s ls e (testing a d k _) = tt
front-knows t s ls e (turning a) = tt
front-knows t s ls e (meeting a b c w g x _) = ((λ q k takes is. absurd takes), tt)
front-knows t s ls e (opening a b c w k g _) = ((λ q j takes is. absurd takes), tt)
front-knows t s ls e (opening_without_data a b c k _) = ((λ q j takes is. absurd takes), tt)
front-knows t s ls e (shutting a b c _) = ((λ q k takes is. absurd takes), tt)
front-knows t s ls e (syncing a b c _ o) = ((λ q k takes is. absurd takes), tt)
