-- A number of a lane is that of one path, so events that are told in one lane have places in one lane.
use Rattle.std.proofs.Common.{◌≡◌, inl, inr, ℕ, zero, suc, ◌+◌, List, [], ◌∷◌, Bool, true, false, cond, Option, None, Some, refl, sym, ◌∙◌, ap, subst, arith}
use Rattle.std.specs.Cmp.Lexicographic.{bytes_decides}
use Rattle.std.specs.Prelude.{slice_get}
use Rattle.syntax.specs.Lists.{In}
use Rattle.branch_lanes.specs.Lanes.{lane_of}
use Rattle.runs.specs.Events.{places, places_of}
use Rattle.runs.specs.Live.{events}
use Rattle.runs.specs.Moves.{Place}
use Rattle.runs.specs.declared.event.Event.{Event}
use Rattle.runs.proofs.public.Options.{none-some, some-injective}
use Rattle.dependence.proofs.public.ListPlaces.{at-one, in-at}
use Rattle.dependence.proofs.public.Standing.{index-rises}
use Rattle.depth_laws.specs.Laws.{LanesAreChains}
use Rattle.machine.specs.AtMachine.{AtMachine}
use Rattle.picture_lanes.specs.Lanes.{index_from, same_path}
use Rattle.picture_lanes.specs.declared.lane.Lane.{Lane}
use Rattle.picture_data.specs.Lines.{lane_at}
use Rattle.picture_data.specs.Shown.{SecondStandsIn, StandsIn}
use Rattle.picture_data.specs.declared.actions.Actions.{Actions}
use Rattle.picture_laws.specs.LaneChains.{IsInLane, ShownLanesAreChains}
use Rattle.picture_laws.proofs.SameShown.{event-at, stands-at}

-- ---- an index has one path

-- the lane of number k, where the first of all has the number n, has the path
abbrev HasPath : ℕ → List Lane → List ℕ → ℕ → Type 0
HasPath n lanes path k =
    (i : ℕ) × (lane : Lane) × (k ≡ n + i) × (slice_get lanes i ≡ Some lane) × (lane.path ≡ path)

has-path : (n : ℕ) (lanes : List Lane) (path : List ℕ) (k : ℕ) → index_from n lanes path ≡ Some k → HasPath n lanes path k
has-path n [] path k is = none-some k is
has-path n (x ∷ lanes) path k is = by (same_path x.path path) refl (λ rest. has-path (n + 1) lanes path k rest)
  where
    by : (t : Bool) → same_path x.path path ≡ t → (index_from (n + 1) lanes path ≡ Some k → HasPath (n + 1) lanes path k) →
        HasPath n (x ∷ lanes) path k
    by true on rest =
        let first : n ≡ k =
        some-injective n k (sym (ap (λ (b : Bool). cond b (Some n) (index_from (n + 1) lanes path)) on) ∙ is) in
        (zero, x, omega arith, refl, (bytes_decides x.path path).0 on)
    by false off rest =
        let later = rest (sym (ap (λ (b : Bool). cond b (Some n) (index_from (n + 1) lanes path)) off) ∙ is) in
        let place : k ≡ n + 1 + later.0 = later.2 in
        (suc later.0, later.1, omega arith, later.3, later.4)

one-path : (lanes : List Lane) (a b : Place) (k : ℕ) → lane_at lanes a ≡ Some k → lane_at lanes b ≡ Some k → lane_of a ≡ lane_of b
one-path lanes a b k is-a is-b =
    let first = has-path 0 lanes (lane_of a) k is-a in
    let second = has-path 0 lanes (lane_of b) k is-b in
    let up : k ≡ 0 + first.0 = first.2 in
    let down : k ≡ 0 + second.0 = second.2 in
    let index : first.0 ≡ second.0 = omega arith in
    let same : first.1 ≡ second.1 =
    at-one lanes second.0 first.1 second.1 (subst (λ (i : ℕ). slice_get lanes i ≡ Some first.1) index first.3) second.3 in
    sym first.4 ∙ ap (λ (lane : Lane). lane.path) same ∙ second.4

-- ---- an event that is told in a lane has a place in it

second-place : (m : AtMachine) (lanes : List Lane) (o : Option Place) (s : Actions) (k : ℕ) → SecondStandsIn m lanes o s → s.second_lane ≡ Some k →
    (a : Place) × In a (places_of o) × (lane_at lanes a ≡ Some k)
second-place m lanes None s k stands is = none-some k (sym stands.0 ∙ is)
second-place m lanes (Some b) s k stands is = (b, inl refl, sym stands.0 ∙ is)

place-in : (m : AtMachine) (lanes : List Lane) (e : Event) (s : Actions) (k : ℕ) → StandsIn m lanes e s → IsInLane k s →
    (a : Place) × In a (places e) × (lane_at lanes a ≡ Some k)
place-in m lanes e s k stands (inl first) = (e.first, inl refl, sym stands.lane ∙ first)
place-in m lanes e s k stands (inr second) =
    let found = second-place m lanes e.second s k stands.second second in (found.0, inr found.1, found.2)

pub shown-lanes-are-chains : LanesAreChains → ShownLanesAreChains
shown-lanes-are-chains chains m procedures p low next i j k t u e f s r rising shows at-e at-f less told-e told-f in-e in-f =
    let reached = shows.end.ready in
    let each = shows.steps.actions in
    let a =
    place-in m p.lanes.items e s k (stands-at m p.lanes.items (events m.live) p.steps.actions.items i e s each (event-at m.live i t e at-e) told-e) in-e in
    let b =
    place-in m p.lanes.items f r k (stands-at m p.lanes.items (events m.live) p.steps.actions.items j f r each (event-at m.live j u f at-f) told-f) in-f in
    chains m.checked m.live reached.0 low next t u e f a.0 b.0 reached.1 rising (in-at m.live i (t, e) at-e) (in-at m.live j (u, f) at-f)
    (index-rises low next m.live i j t u e f rising at-e at-f less) a.1 b.1 (one-path p.lanes.items a.0 b.0 k a.2 b.2)
