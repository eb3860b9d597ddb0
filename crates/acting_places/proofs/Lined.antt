-- Each event of a run that acts in the body acts at a place of a command, and so has a line.
use Rattle.std.proofs.Common.{◌≡◌, ◌∙◌, ℕ, zero, suc, ◌+◌, List, [], ◌∷◌, map, length, Option, Some, None, refl, sym, ap, subst, inl, inr, arith}
use Rattle.std.specs.Prelude.{option_map}
use Rattle.std.proofs.lemmas.List.{length-map}
use Rattle.syntax.specs.Lists.{In, Every}
use Rattle.address.specs.declared.Entry.TheVariants.{Branch}
use Rattle.system.specs.Residual.{Residual}
use Rattle.system.specs.Translation.{in_parallel, opening_residual, residual_of, branch_of}
use Rattle.system.specs.declared.command.Command.{Command}
use Rattle.system.specs.declared.system.System.{System}
use Rattle.system_places.specs.Laws.{LinesAreBegun}
use Rattle.system_places.specs.TakenArms.{ArmsByPlace, line_of_command}
use Rattle.runs.specs.Moves.{Place, Move, Local}
use Rattle.runs.specs.Events.{Located, places_of, acting, acting_at}
use Rattle.runs.specs.Steps.{State, Moves, Step, Run, opening}
use Rattle.runs.specs.declared.event.Event.{Event}
use Rattle.runs.specs.declared.event.Kind.{Kind}
use Rattle.runs.specs.declared.event.Kind.TheVariants.{Assign, Test, Turn, Meet, Open, Close, Sync}
use Rattle.runs.proofs.public.Lists.{every-in}
use Rattle.runs.proofs.public.Stepping.{place-moves}
use Rattle.dependence.specs.EventPlaces.{taken_by, line_after}
use Rattle.dependence.specs.ArmLaws.{TakenByTheEvent}
use Rattle.acting_places.specs.Lines.{HasLine, EventsHaveLines, AllowedHaveLines}
use Rattle.acting_places.proofs.Shapes.{Shape, Keeps, parallel-shape, shape-along, local-part, local-shape}
use Rattle.acting_places.proofs.Placed.{Acts, Fits, Knows, knows-part, local-acts, local-fits}
use Rattle.acting_places.proofs.Beginning.{command-fits}
use Rattle.acting_places.proofs.Knowing.{TellsArm, moves-know, FrontKnows, front-knows}

-- what is left of a body, in branch 0 of the root; nothing is known of the environment
abbrev Body : ArmsByPlace → Command → ℕ → Residual → Type 0
Body t main zero r = Fits t (Branch 0 ∷ []) main r
Body t main (suc k) r = Unit {0}

abbrev Arms : ArmsByPlace → ℕ → Place → Move → Type 0
Arms t k b m = Knows t (Branch k ∷ []) b m

keeps-body : (t : ArmsByPlace) (main : Command) → Keeps (Body t main) (Arms t)
keeps-body t main zero c a m r h l know = local-fits t (Branch 0 ∷ []) main c a m r h l know
keeps-body t main (suc k) c a m r h l know = tt

-- the place, where it is in the body, is that of a command
abbrev OnBody : ArmsByPlace → Command → Place → Type 0
OnBody t main a = (b : Place) → a ≡ Branch 0 ∷ b → Acts t (Branch 0 ∷ []) main b

part-acts : (t : ArmsByPlace) (main : Command) (k : ℕ) (i b : Place) (c r : Residual) (m : Move) → Branch k ∷ i ≡ Branch 0 ∷ b → Body t main k c → Local c i m r →
    Acts t (Branch 0 ∷ []) main b
part-acts t main zero i b c r m is h l = let one : i ≡ b = cc in subst (λ (x : Place). Acts t (Branch 0 ∷ []) main x) one (local-acts t (Branch 0 ∷ []) main c i m r h l)
part-acts t main (suc k) i b c r m is h l = let none : suc k ≡ 0 = cc in absurd (omega arith)

module _ (t : ArmsByPlace) (main : Command) (n : ℕ) where
  one-acts : (r : Residual) (a : Place) (m : Move) (q : Residual) → Shape (Body t main) n r → Local r a m q → OnBody t main a
  one-acts r a m q s l b at =
      let part = local-part (Body t main) n r a m q s l in
      part-acts t main part.number part.inside b part.child part.after m (sym part.at ∙ at) part.holds part.moves

  one-keeps : (r : Residual) (a : Place) (m : Move) (q : Residual) → Shape (Body t main) n r → Local r a m q → Knows t [] a m → Shape (Body t main) n q
  one-keeps r a m q s l know =
      local-shape (Body t main) (Arms t) (keeps-body t main) n r a m q s l (λ k b at. knows-part t [] a b (Branch k) m at know)

  moves-act : (r : Residual) (ls : List Located) (q : Residual) → Shape (Body t main) n r → Moves r ls q → FrontKnows t ls → Every (λ l. OnBody t main l.place) ls
  moves-act r [] q s moves know = tt
  moves-act r (l ∷ []) q s moves know = (one-acts r l.place l.move moves.0 s moves.1, tt)
  moves-act r (l ∷ m ∷ ls) q s moves know = (
    one-acts r l.place l.move moves.0 s moves.1,
    moves-act moves.0 (m ∷ ls) q (one-keeps r l.place l.move moves.0 s moves.1 know.0) moves.2 know.1,
  )

  moves-keep : (r : Residual) (ls : List Located) (q : Residual) → Shape (Body t main) n r → Moves r ls q → Every (λ l. Knows t [] l.place l.move) ls →
      Shape (Body t main) n q
  moves-keep r [] q s moves know = subst (λ (x : Residual). Shape (Body t main) n x) moves s
  moves-keep r (l ∷ ls) q s moves know = moves-keep moves.0 ls q (one-keeps r l.place l.move moves.0 s moves.1 know.0) moves.2 know.1

  acting-on : (kind : Kind) (a : Place) (b : Option Place) → OnBody t main a → Every (OnBody t main) (places_of b) → OnBody t main (acting_at kind a b)
  acting-on Assign a b h k = h
  acting-on Test a b h k = h
  acting-on Turn a b h k = h
  acting-on Sync a b h k = h
  acting-on Meet a None h k = h
  acting-on Open a None h k = h
  acting-on Close a None h k = h
  acting-on Meet a (Some b) h k = k.0
  acting-on Open a (Some b) h k = k.0
  acting-on Close a (Some b) h k = k.0

  step-acts : (S T : State) (e : Event) → Shape (Body t main) n S.residual → Step S e T → OnBody t main (acting e)
  step-acts S T e s step =
      let at = place-moves S.store step.moves e (OnBody t main) step.makes
      (moves-act S.residual step.moves T.residual s step.moved (front-knows t S.store step.moves e step.makes)) in
      acting-on e.kind e.first e.second at.0 at.1

  run-acts : (S T : State) (h : List Event) → Shape (Body t main) n S.residual → Run S h T → Every (TellsArm t) h →
      Every (λ e. OnBody t main (acting e)) h × Shape (Body t main) n T.residual
  run-acts S T [] s r tells = (tt, subst (λ (x : State). Shape (Body t main) n x.residual) r s)
  run-acts S T (e ∷ h) s r tells =
      let after = moves-keep S.residual r.1.moves r.0.residual s r.1.moved (moves-know t S.store r.1.moves e r.1.makes tells.0) in
      let rest = run-acts r.0 T h after r.2 tells.1 in
      ((step-acts S r.0 e s r.1, rest.0), rest.1)

opening-body : (t : ArmsByPlace) (system : System) → Shape (Body t system.main) (suc (length system.environment)) (opening_residual system)
opening-body t system =
    let n : ℕ = suc (length system.environment) in
    let mapped : length (map branch_of system.environment) ≡ length system.environment = length-map system.environment branch_of in
    shape-along (Body t system.main) n 0 (residual_of system.main) (in_parallel 1 (map branch_of system.environment)) (omega arith)
    (command-fits system.main t (Branch 0 ∷ []))
    (parallel-shape (Body t system.main) n 1 (map branch_of system.environment)
    (λ i r at. let next : suc i ≡ 1 + i = omega arith in subst (λ (k : ℕ). Body t system.main k r) next tt) (omega arith))

-- each event of a list tells its arm
tells-each : (system : System) (h : List Event) (T : State) → TakenByTheEvent → Run (opening system) h T → (k : List Event) → ((e : Event) → In e k → In e h) →
    Every (TellsArm (taken_by h)) k
tells-each system h T law r [] inside = tt
tells-each system h T law r (e ∷ k) inside = (
  (λ q j at is. law system h T e q r (inside e (inl refl)) at ∙ is),
  tells-each system h T law r k (λ f i. inside f (inr i)),
)

line-of : (begun : LinesAreBegun) (system : System) (h : List Event) (e : Event) (b : Place) → acting e ≡ Branch 0 ∷ b →
    Acts (taken_by h) (Branch 0 ∷ []) system.main b → HasLine h system e
line-of begun system h e b at acts =
    let here : line_after h system (Branch 0 ∷ b) ≡ Some (line_of_command acts.0) = ap (option_map line_of_command) acts.1 in
    let there : line_after h system (acting e) ≡ Some (line_of_command acts.0) = ap (line_after h system) at ∙ here in
    (line_of_command acts.0, there, begun (taken_by h) system (acting e) (line_of_command acts.0) there)

pub events-lined : TakenByTheEvent → LinesAreBegun → EventsHaveLines
events-lined law begun system h T e b r i at =
    let all = run-acts (taken_by h) system.main (suc (length system.environment)) (opening system) T h (opening-body (taken_by h) system) r
    (tells-each system h T law r h (λ f j. j)) in
    line-of begun system h e b at (every-in (λ (f : Event). OnBody (taken_by h) system.main (acting f)) h e all.0 i b at)

pub allowed-lined : TakenByTheEvent → LinesAreBegun → AllowedHaveLines
allowed-lined law begun system h T e b r allowed at =
    let all = run-acts (taken_by h) system.main (suc (length system.environment)) (opening system) T h (opening-body (taken_by h) system) r
    (tells-each system h T law r h (λ f j. j)) in
    line-of begun system h e b at (step-acts (taken_by h) system.main (suc (length system.environment)) T allowed.0 e all.1 allowed.1 b at)
