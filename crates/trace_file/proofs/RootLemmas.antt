-- No event of a run acts at the root.
use Rattle.std.proofs.Common.{◌≡◌, ◌≢◌, ℕ, suc, List, [], ◌∷◌, Option, Some, None, sym, subst, inl, inr, map}
use Rattle.syntax.specs.Lists.{Every}
use Rattle.address.specs.declared.Entry.TheVariants.{Branch}
use Rattle.system.specs.Residual.{Residual, done, beside, along}
use Rattle.system.specs.Translation.{in_parallel, opening_residual, residual_of, branch_of}
use Rattle.system.specs.declared.system.System.{System}
use Rattle.runs.specs.Moves.{Place, Move, Local}
use Rattle.runs.specs.Events.{Located, places_of, acting, acting_at}
use Rattle.runs.specs.Steps.{State, Moves, Step, Run, opening}
use Rattle.runs.specs.declared.event.Event.{Event}
use Rattle.runs.specs.declared.event.Kind.{Kind}
use Rattle.runs.specs.declared.event.Kind.TheVariants.{Assign, Test, Turn, Meet, Open, Close, Sync}
use Rattle.runs.proofs.public.Stepping.{place-moves}

-- branches, and nothing else
abbrev AreBranches : Residual → Type 0
AreBranches done = Unit {0}
AreBranches (beside k child rest) = AreBranches rest
AreBranches _ = ⊥

-- a place other than the root
abbrev IsInside : Place → Type 0
IsInside a = a ≢ []

-- one branch more, or none where it is done
along-branches : (k : ℕ) (child rest : Residual) → AreBranches rest → AreBranches (along k child rest)
along-branches k done rest h = h
along-branches k child rest h = h

-- a parallel
parallel-branches : (n : ℕ) (rs : List Residual) → AreBranches (in_parallel n rs)
parallel-branches n [] = tt
parallel-branches n (r ∷ rs) = along-branches n r (in_parallel (suc n) rs) (parallel-branches (suc n) rs)

-- what a system opens with
opening-branches : (system : System) → AreBranches (opening_residual system)
opening-branches system =
    along-branches 0 (residual_of system.main) (in_parallel 1 (map branch_of system.environment))
    (parallel-branches 1 (map branch_of system.environment))

-- a place below a branch is not the root
below-branch : (a b : Place) (k : ℕ) → a ≡ Branch k ∷ b → IsInside a
below-branch a b k e root = cc

-- a move of branches is inside, and leaves branches
local-branches : (r : Residual) (a : Place) (m : Move) (q : Residual) → AreBranches r → Local r a m q → IsInside a × AreBranches q
local-branches done a m q h l = absurd l
local-branches (beside k child rest) a m q h (inl (b, t, at, move, is)) =
    (below-branch a b k at, subst AreBranches (sym is) (along-branches k t rest h))
local-branches (beside k child rest) a m q h (inr (t, move, is)) =
    let below = local-branches rest a m t h move in
    (below.0, subst AreBranches (sym is) (along-branches k child t below.1))
local-branches _ a m q h l = absurd h

-- and so are several
moves-branches : (r : Residual) (ls : List Located) (q : Residual) → AreBranches r → Moves r ls q → Every (λ l. IsInside l.place) ls × AreBranches q
moves-branches r [] q h m = (tt, subst AreBranches m h)
moves-branches r (l ∷ ls) q h m =
    let one = local-branches r l.place l.move m.0 h m.1 in
    let more = moves-branches m.0 ls q one.1 m.2 in
    ((one.0, more.0), more.1)

-- the acting place is one of the places
acting-inside : (kind : Kind) (a : Place) (b : Option Place) → IsInside a → Every IsInside (places_of b) → IsInside (acting_at kind a b)
acting-inside Assign a b h k = h
acting-inside Test a b h k = h
acting-inside Turn a b h k = h
acting-inside Sync a b h k = h
acting-inside Meet a None h k = h
acting-inside Open a None h k = h
acting-inside Close a None h k = h
acting-inside Meet a (Some b) h k = k.0
acting-inside Open a (Some b) h k = k.0
acting-inside Close a (Some b) h k = k.0

-- an event of branches acts inside, and leaves branches
pub step-inside : (S T : State) (e : Event) → AreBranches S.residual → Step S e T → IsInside (acting e) × AreBranches T.residual
step-inside S T e h s =
    let moved = moves-branches S.residual s.moves T.residual h s.moved in
    let at = place-moves S.store s.moves e IsInside s.makes moved.0 in
    (acting-inside e.kind e.first e.second at.0 at.1, moved.1)

-- so do the events of a run
run-inside : (S T : State) (h : List Event) → AreBranches S.residual → Run S h T → Every (λ e. acting e ≢ []) h
run-inside S T [] b r = tt
run-inside S T (e ∷ h) b r =
    let one = step-inside S r.0 e b r.1 in
    (one.0, run-inside r.0 T h one.1 r.2)

-- no event of a run from the opening acts at the root
pub never-at-root : (system : System) (T : State) (h : List Event) → Run (opening system) h T → Every (λ e. acting e ≢ []) h
never-at-root system T h r = run-inside (opening system) T h (opening-branches system) r
