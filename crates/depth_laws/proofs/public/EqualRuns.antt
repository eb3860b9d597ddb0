-- Equal runs have equal followers and equal depths.
use Rattle.std.proofs.Common.{◌≡◌, ℕ, ◌≤◌, List, Some, arith, refl}
use Rattle.std.specs.Prelude.{slice_get, slice_index}
use Rattle.system.specs.declared.system.System.{System}
use Rattle.runs.specs.Live.{Live, LiveAt, events}
use Rattle.runs.specs.declared.event.Event.{Event}
use Rattle.runs.proofs.public.Elements.{Distinct, rearranged-distinct}
use Rattle.runs.proofs.public.FromOpening.{events_are_distinct}
use Rattle.dependence.specs.Followers.{Follower}
use Rattle.dependence.proofs.public.ListPlaces.{in-at}
use Rattle.run_depths.specs.Depths.{AreDepths}
use Rattle.depth_laws.specs.Laws.{AreEqualRuns, IsLongest}
use Rattle.depth_laws.proofs.Alike.{Alike, chain-too, follows-too, turned}
use Rattle.depth_laws.proofs.public.Chains.{depth-is-longest}

are-alike : (system : System) (l m : Live) → AreEqualRuns system l m → Alike l m
are-alike system l m r =
    let distinct : Distinct (events l) = λ f twice. events_are_distinct system (events l) r.state f f r.runs twice refl in
    record {
      low = r.low;
      next = r.next;
      rising = r.rising;
      other_low = r.other_low;
      other_next = r.other_next;
      other_rising = r.other_rising;
      distinct = distinct;
      other_distinct = rearranged-distinct (events l) (events m) r.forth.rearranged distinct;
      forth = r.forth;
      back = r.back;
    }

pub followers-agree : (system : System) (l m : Live) (t u v w : ℕ) (e f : Event) → AreEqualRuns system l m → LiveAt l t e → LiveAt l u f →
    LiveAt m v e → LiveAt m w f → Follower l t u → Follower m v w
followers-agree system l m t u v w e f r = follows-too l m t u v w e f (are-alike system l m r)

pub depths-agree : (system : System) (l m : Live) (depths others : List ℕ) (i j t u : ℕ) (e : Event) → AreEqualRuns system l m →
    AreDepths l depths → AreDepths m others → slice_get l i ≡ Some (t, e) → slice_get m j ≡ Some (u, e) →
    slice_index depths i ≡ slice_index others j
depths-agree system l m depths others i j t u e r are there at-t at-u =
    let a = are-alike system l m r in
    let here : LiveAt l t e = in-at l i (t, e) at-t in
    let other : LiveAt m u e = in-at m j (u, e) at-u in
    let one = depth-is-longest l depths i t are (e, at-t) in
    let two = depth-is-longest m others j u there (e, at-u) in
    let up : slice_index depths i ≤ slice_index others j =
    two.longest (slice_index depths i) (chain-too l m (slice_index depths i) t u e a here other one.chain) in
    let down : slice_index others j ≤ slice_index depths i =
    one.longest (slice_index others j) (chain-too m l (slice_index others j) u t e (turned l m a) other here two.chain) in
    omega arith
