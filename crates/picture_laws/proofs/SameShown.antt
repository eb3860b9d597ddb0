-- Pictures of equal runs show the same.
use Rattle.std.proofs.Common.{◌≡◌, ℕ, zero, suc, ◌+◌, ◌||◌, ◌&&◌, Bool, true, false, ◌↔◌, IsTrue, List, [], ◌∷◌, ◌++◌, map, Option, None, Some, refl, sym, ◌∙◌, ap, subst, arith}
use Rattle.std.proofs.Math.Path.{fun_ext}
use Rattle.std.specs.Prelude.{is_some, slice_get}
use Rattle.syntax.specs.Lists.{In}
use Rattle.sharing_check.specs.declared.checked.Checked.{Checked}
use Rattle.runs.specs.Live.{Live, events}
use Rattle.runs.specs.Moves.{Place}
use Rattle.runs.specs.Object.{Reaches}
use Rattle.runs.specs.Steps.{Run, State, opening}
use Rattle.runs.specs.declared.event.Event.{Event}
use Rattle.runs.proofs.public.FromOpening.{one_state, respecting_orders}
use Rattle.runs.proofs.public.Options.{none-some}
use Rattle.dependence.specs.Followers.{Follower}
use Rattle.dependence.proofs.public.ListPlaces.{in-at}
use Rattle.dependence.specs.EventPlaces.{line_after}
use Rattle.run_depths.proofs.public.Deepening.{one-place}
use Rattle.depth_laws.specs.Laws.{AreEqualRuns}
use Rattle.depth_laws.proofs.public.EqualRaces.{races-agree, same-event}
use Rattle.depth_laws.proofs.public.EqualRuns.{depths-agree, followers-agree}
use Rattle.depth_laws.proofs.public.OneState.{lines-agree, ready-agree}
use Rattle.types.specs.declared.tree.Procedure.{Procedure}
use Rattle.machine.specs.AtMachine.{AtMachine, object}
use Rattle.local_actions.specs.declared.action.LocalAction.{LocalAction}
use Rattle.rings.specs.Partners.{partner_in}
use Rattle.rings.specs.declared.partner.Partner.{Partner}
use Rattle.rings.specs.declared.partner.Partner.TheVariants as partner
use Rattle.rings.specs.Rings.{IsDeadlocked}
use Rattle.waiting.specs.Input.{fed_channel, helped_in, is_starved, takes_input}
use Rattle.waiting.specs.Lacking.{LacksInput}
use Rattle.waiting.specs.Progress.{StandsLike, is_in_body, is_outlet}
use Rattle.waiting.specs.Told.{IsTold, OneRing}
use Rattle.waiting.specs.Waits.{OneList, Waits}
use Rattle.waiting.specs.declared.waiting.Waiting.{Waiting}
use Rattle.picture_lanes.specs.Ground.{found_in, lanes_of, uses_of, with_feeds}
use Rattle.picture_lanes.specs.declared.lane.Lane.{Lane}
use Rattle.picture_lanes.specs.declared.walk.ChannelUse.{ChannelUse}
use Rattle.picture_data.specs.Lines.{line_of, line_or_zero}
use Rattle.picture_data.specs.Shown.{EachStandsIn, Shows, StandsIn, seen_of}
use Rattle.picture_data.specs.Spots.{Spot, places_of_sides, ready_spots, ring_of, spot_of, waiting_spots, with_sides}
use Rattle.picture_data.specs.Wanted.{Seen}
use Rattle.picture_data.specs.declared.picture.Picture.{Picture}
use Rattle.picture_data.specs.declared.actions.Actions.{Actions}
use Rattle.picture_laws.specs.EqualPictures.{IsOneEnd, IsOneGround, ShowTheSame, StandsInBoth}
use Rattle.picture_laws.proofs.OneRun.{one-progress}
use Rattle.picture_laws.proofs.SinceAgree.{event-since, places-since, since-agrees}
use Rattle.picture_laws.proofs.Standing.{SameLines, one-stand, one-stands}

same-lines : (m n : AtMachine) → m.checked ≡ n.checked → AreEqualRuns m.checked m.live n.live → SameLines m n
same-lines m n one equal a =
    ap line_or_zero (lines-agree m.checked m.live n.live a equal)
    ∙ ap (λ (c : Checked). line_or_zero (line_after (events n.live) c a)) one

-- ---- where events stand

pub event-at : (l : Live) (i t : ℕ) (e : Event) → slice_get l i ≡ Some (t, e) → slice_get (events l) i ≡ Some e
event-at [] i t e at = none-some (t, e) at
event-at (x ∷ l) zero t e at = ap (λ (o : Option (ℕ × Event)). told o) at
  where
    told : Option (ℕ × Event) → Option Event
    told None = None
    told (Some y) = Some y.1
event-at (x ∷ l) (suc i) t e at = event-at l i t e at

pub stands-at : (m : AtMachine) (lanes : List Lane) (es : List Event) (ss : List Actions) (i : ℕ) (e : Event) (s : Actions) → EachStandsIn m lanes es ss →
    slice_get es i ≡ Some e → slice_get ss i ≡ Some s → StandsIn m lanes e s
stands-at m lanes [] ss i e s each at told = none-some e at
stands-at m lanes (f ∷ es) [] i e s each at told = none-some s told
stands-at m lanes (f ∷ es) (r ∷ ss) zero e s each at told =
    let one : f ≡ e = cc in
    let two : r ≡ s = cc in
    subst (λ (g : Event). StandsIn m lanes g s) one (subst (λ (q : Actions). StandsIn m lanes f q) two each.0)
stands-at m lanes (f ∷ es) (r ∷ ss) (suc i) e s each at told = stands-at m lanes es ss i e s each.1 at told

-- ---- the end

both-reach : (m n : AtMachine) (S T : State) → m.checked ≡ n.checked → AreEqualRuns m.checked m.live n.live → Reaches (object m) S → Reaches (object n) T →
    T ≡ S
both-reach m n S T one equal here there =
    let same : Run (opening m.checked) (events n.live) T = subst (λ (c : Checked). Run (opening c) (events n.live) T) (sym one) there in
    one_state m.checked (events n.live) T S same (respecting_orders m.checked (events m.live) (events n.live) S here equal.forth)

-- what helps an action is the same of both
takes-agree : (m n : AtMachine) (x : LocalAction) → m.checked ≡ n.checked → takes_input m x ≡ takes_input n x
takes-agree m n x one = ap (λ (c : Checked). is_in_body x.place && is_some (fed_channel c x.action)) one

starved-agree : (m n : AtMachine) (x : LocalAction) (p : Option Partner) → m.checked ≡ n.checked → AreEqualRuns m.checked m.live n.live →
    is_starved m x p ≡ is_starved n x p
starved-agree m n x None one equal = refl
starved-agree m n x (Some partner.Gone) one equal = takes-agree m n x one
starved-agree m n x (Some (partner.Behind a)) one equal = refl
starved-agree m n x (Some partner.Open) one equal = refl

helped-agree : (m n : AtMachine) (S : State) → m.checked ≡ n.checked → AreEqualRuns m.checked m.live n.live → (x : LocalAction) → helped_in m S x ≡ helped_in n S x
helped-agree m n S one equal x = ap (λ (b : Bool). is_outlet x.action || b) (starved-agree m n x (Some (partner_in S.residual x)) one equal)

-- so is whether nothing lacks but input
lacks-too : (m n : AtMachine) (S : State) → ((x : LocalAction) → helped_in m S x ≡ helped_in n S x) →
    ((x : LocalAction) → takes_input m x ≡ takes_input n x) → LacksInput m S → LacksInput n S
lacks-too m n S helped takes lacks =
    let back : helped_in n S ≡ helped_in m S = fun_ext (λ x. sym (helped x)) in
    let one = lacks.starved in
    record {
      stuck = lacks.stuck;
      free = λ x waits idle dead.
          lacks.free x waits idle (subst (λ (h : LocalAction → Bool). IsDeadlocked (Waits S) h S.residual x.place) back dead);
      starved = (one.0, one.1, sym (takes one.0) ∙ one.2, one.3);
      settled = lacks.settled;
    }

one-flag : (b c : Bool) → (b ≡ true → c ≡ true) → (c ≡ true → b ≡ true) → b ≡ c
one-flag true c forth back = sym (forth refl)
one-flag false true forth back = back refl
one-flag false false forth back = refl

one-lack : (m n : AtMachine) (S : State) (b c : Bool) → ((x : LocalAction) → helped_in m S x ≡ helped_in n S x) →
    ((x : LocalAction) → takes_input m x ≡ takes_input n x) → IsTrue b ↔ LacksInput m S → IsTrue c ↔ LacksInput n S → b ≡ c
one-lack m n S b c helped takes here there =
    let forth : LacksInput m S → LacksInput n S = lacks-too m n S helped takes in
    let back : LacksInput n S → LacksInput m S = lacks-too n m S (λ x. sym (helped x)) (λ x. sym (takes x)) in
    one-flag b c (λ h. there.1 (forth (here.0 h))) (λ h. here.1 (back (there.0 h)))

-- what both are drawn on
pub one-ground : (m n : AtMachine) (procedures : List Procedure) (p q : Picture) → m.checked ≡ n.checked → Shows m procedures p → Shows n procedures q →
    IsOneGround p q
one-ground m n procedures p q one here there =
    let lanes : p.lanes.items ≡ q.lanes.items = here.lanes ∙ ap (λ (c : Checked). lanes_of procedures c) one ∙ sym there.lanes in
    record {
      instances = here.instances ∙ ap (λ (c : Checked). (found_in procedures c).instances) one ∙ sym there.instances;
      lanes = lanes;
      feeds =
          here.feeds
          ∙ ap (λ (ls : List Lane). with_feeds ls 0 m.checked.environment []) lanes
          ∙ ap (λ (c : Checked). with_feeds q.lanes.items 0 c.environment []) one
          ∙ sym there.feeds;
    }

-- two answers that say the same
record SameWait (v w : Waiting) : Type 0 where
  pub actions : v.actions ≡ w.actions
  pub partners : v.partners.items ≡ w.partners.items
  pub ring : v.ring.items ≡ w.ring.items

same-wait : OneList → OneRing → (m n : AtMachine) (S : State) (v w : Waiting) → ((x : LocalAction) → helped_in m S x ≡ helped_in n S x) → IsTold m S v →
    IsTold n S w → SameWait v w
same-wait lists ring m n S v w helped here there =
    let actions : v.actions ≡ w.actions = lists S v.actions w.actions here.actions there.actions in
    record {
      actions = actions;
      partners = here.partners ∙ ap (λ (xs : List LocalAction). map (partner_in S.residual) xs) actions ∙ sym there.partners;
      ring = ring m n S v w helped here there;
    }

-- what there is to see is the same of both
seen-too : (m n : AtMachine) (procedures : List Procedure) (lanes others : List Lane) (v w : Waiting) (es fs : List Event) → m.checked ≡ n.checked →
    SameLines m n → lanes ≡ others → v.actions ≡ w.actions → es ≡ fs →
    seen_of m lanes (uses_of procedures m.checked) v es ≡ seen_of n others (uses_of procedures n.checked) w fs
seen-too m n procedures lanes others v w es fs one same ground actions ready =
    let made : (Place → ℕ) → List Lane → List ChannelUse → List LocalAction → List Event → Seen =
    λ line ls us xs rs. record { line = line; around = record { lanes = ls; uses = us; actions = xs; ready = rs } } in
    let lines : line_of m ≡ line_of n = fun_ext same in
    ap (λ (line : Place → ℕ). made line lanes (uses_of procedures m.checked) v.actions es) lines
    ∙ ap (λ (ls : List Lane). made (line_of n) ls (uses_of procedures m.checked) v.actions es) ground
    ∙ ap (λ (c : Checked). made (line_of n) others (uses_of procedures c) v.actions es) one
    ∙ ap (λ (xs : List LocalAction). made (line_of n) others (uses_of procedures n.checked) xs es) actions
    ∙ ap (λ (rs : List Event). made (line_of n) others (uses_of procedures n.checked) w.actions rs) ready

same-spots : (s t : Seen) (v w : Waiting) (es fs : List Event) → s ≡ t → SameWait v w → es ≡ fs →
    waiting_spots s v ++ ready_spots s es ≡ waiting_spots t w ++ ready_spots t fs
same-spots s t v w es fs seen same ready =
    let made : Seen → List Partner → List LocalAction → List Event → List Spot = λ x ps xs rs. with_sides x [] ps 0 xs ++ ready_spots x rs in
    ap (λ (x : Seen). made x v.partners.items v.actions es) seen
    ∙ ap (λ (ps : List Partner). made t ps v.actions es) same.partners
    ∙ ap (λ (xs : List LocalAction). made t w.partners.items xs es) same.actions
    ∙ ap (λ (rs : List Event). made t w.partners.items w.actions rs) ready

-- so is the ring
same-ring : (s t : Seen) (v w : Waiting) → s ≡ t → SameWait v w →
    ring_of (places_of_sides s [] v.partners.items 0 v.actions) v.ring.items ≡ ring_of (places_of_sides t [] w.partners.items 0 w.actions) w.ring.items
same-ring s t v w seen same =
    let made : Seen → List Partner → List LocalAction → List ℕ → List ℕ = λ x ps xs ring. ring_of (places_of_sides x [] ps 0 xs) ring in
    ap (λ (x : Seen). made x v.partners.items v.actions v.ring.items) seen
    ∙ ap (λ (ps : List Partner). made t ps v.actions v.ring.items) same.partners
    ∙ ap (λ (xs : List LocalAction). made t w.partners.items xs v.ring.items) same.actions
    ∙ ap (λ (ring : List ℕ). made t w.partners.items w.actions ring) same.ring

pub one-end : OneList → OneRing → (m n : AtMachine) (procedures : List Procedure) (p q : Picture) → m.checked ≡ n.checked → AreEqualRuns m.checked m.live n.live →
    Shows m procedures p → Shows n procedures q → IsOneEnd p q
one-end lists rings m n procedures p q one equal here there =
    let ground = one-ground m n procedures p q one here there in
    let same = same-lines m n one equal in
    let list = here.end.ready in
    let list2 = there.end.ready in
    let run2 : Run (opening m.checked) (events n.live) list2.0 = subst (λ (c : Checked). Run (opening c) (events n.live) list2.0) (sym one) list2.1 in
    let ready : p.end.ready ≡ q.end.ready =
    ready-agree m.checked m.live n.live list.0 list2.0 p.end.ready q.end.ready equal list.1 run2 list.2 list2.2 in
    let goes = here.end.progress in
    let goes2 = there.end.progress in
    let progress_here : StandsLike goes.0 q.end.progress =
    subst (λ (S : State). StandsLike S q.end.progress) (both-reach m n goes.0 goes2.0 one equal goes.1 goes2.1) goes2.2 in
    let lacks = here.end.lacks_input in
    let lacks2 = there.end.lacks_input in
    let lacks_here : IsTrue q.end.lacks_input ↔ LacksInput n lacks.0 =
    subst (λ (S : State). IsTrue q.end.lacks_input ↔ LacksInput n S) (both-reach m n lacks.0 lacks2.0 one equal lacks.1 lacks2.1) lacks2.2 in
    let waits = here.end.waits in
    let waits2 = there.end.waits in
    let told = waits.told in
    let told2 = waits2.told in
    let told_here : IsTold n told.0 waits2.waiting =
    subst (λ (S : State). IsTold n S waits2.waiting) (both-reach m n told.0 told2.0 one equal told.1 told2.1) told2.2 in
    let wait = same-wait lists rings m n told.0 waits.waiting waits2.waiting (helped-agree m n told.0 one equal) told.2 told_here in
    let s = seen_of m p.lanes.items (uses_of procedures m.checked) waits.waiting p.end.ready in
    let t = seen_of n q.lanes.items (uses_of procedures n.checked) waits2.waiting q.end.ready in
    let seen : s ≡ t =
    seen-too m n procedures p.lanes.items q.lanes.items waits.waiting waits2.waiting p.end.ready q.end.ready one same ground.lanes wait.actions ready in
    let places : map spot_of p.end.places.items ≡ map spot_of q.end.places.items =
    waits.places ∙ same-spots s t waits.waiting waits2.waiting p.end.ready q.end.ready seen wait ready ∙ sym waits2.places in
    record {
      ready = ready;
      ready_actions =
          one-stands m n p.lanes.items q.lanes.items p.end.ready p.end.ready_actions.items q.end.ready_actions.items ground.lanes same
          here.end.actions
          (subst (λ (es : List Event). EachStandsIn n q.lanes.items es q.end.ready_actions.items) (sym ready) there.end.actions);
      progress = one-progress goes.0 p.end.progress q.end.progress goes.2 progress_here;
      lacks_input =
          one-lack m n lacks.0 p.end.lacks_input q.end.lacks_input (helped-agree m n lacks.0 one equal) (λ x. takes-agree m n x one) lacks.2 lacks_here;
      places = places;
      places_since =
          places-since (record { live = m.live; depths = p.steps.depths.items }) (record { live = n.live; depths = q.steps.depths.items })
          p.end.places.items q.end.places.items
          (since-agrees m.checked m.live n.live p.steps.depths.items q.steps.depths.items equal here.steps.depths there.steps.depths) places
          waits.since waits2.since;
      ring = waits.ring_told ∙ same-ring s t waits.waiting waits2.waiting seen wait ∙ sym waits2.ring_told;
    }

-- ---- the steps

follower-too : (m n : AtMachine) (procedures : List Procedure) (p q : Picture) (i j d b : ℕ) (e f : Event) (row other : List ℕ) → AreEqualRuns m.checked m.live n.live → Shows m procedures p →
    Shows n procedures q → StandsInBoth m n i j e → StandsInBoth m n (i + d) (j + b) f → slice_get p.steps.ahead i ≡ Some row →
    slice_get q.steps.ahead j ≡ Some other → In d row → In b other
follower-too m n procedures p q i j d b e f row other equal here there first second at-i at-j within =
    let ahead = here.steps.ahead.each i first.ticket row (e, first.here) at-i in
    let ahead2 = there.steps.ahead.each j first.other other (e, first.there) at-j in
    let one = ahead.each d within in
    let is = same-event m.live (i + d) one.0 second.ticket one.2.0 f one.2.1 second.here in
    let follows : Follower m.live first.ticket second.ticket = subst (λ (u : ℕ). Follower m.live first.ticket u) is.0 one.1 in
    let follows2 : Follower n.live first.other second.other =
    followers-agree m.checked m.live n.live first.ticket second.ticket first.other second.other e f equal
    (in-at m.live i (first.ticket, e) first.here) (in-at m.live (i + d) (second.ticket, f) second.here) (in-at n.live j (first.other, e) first.there)
    (in-at n.live (j + b) (second.other, f) second.there) follows in
    let found = ahead2.all second.other follows2 in
    let place : j + found.0 ≡ j + b =
    one-place equal.other_low equal.other_next n.live second.other (j + found.0) (j + b) equal.other_rising found.2 (f, second.there) in
    let same : found.0 ≡ b = omega arith in
    subst (λ (k : ℕ). In k other) same found.1

-- since when the places of an event
since-too : (m n : AtMachine) (procedures : List Procedure) (p q : Picture) (i j : ℕ) (e : Event) (s r : ℕ × ℕ) → AreEqualRuns m.checked m.live n.live →
    Shows m procedures p → Shows n procedures q → StandsInBoth m n i j e → slice_get p.steps.since.items i ≡ Some s →
    slice_get q.steps.since.items j ≡ Some r → s ≡ r
since-too m n procedures p q i j e s r equal here there both at-i at-j =
    event-since m.live n.live p.steps.depths.items q.steps.depths.items e s r
    (since-agrees m.checked m.live n.live p.steps.depths.items q.steps.depths.items equal here.steps.depths there.steps.depths)
    (here.steps.since.each i both.ticket e s both.here at-i) (there.steps.since.each j both.other e r both.there at-j)

pub show-the-same : OneList → OneRing → (m n : AtMachine) (procedures : List Procedure) (p q : Picture) → m.checked ≡ n.checked →
    AreEqualRuns m.checked m.live n.live → Shows m procedures p → Shows n procedures q → ShowTheSame m n p q
show-the-same lists rings m n procedures p q one equal here there = record {
  ground = one-ground m n procedures p q one here there;
  depths = λ i j e both.
      depths-agree m.checked m.live n.live p.steps.depths.items q.steps.depths.items i j both.ticket both.other e equal here.steps.depths
      there.steps.depths both.here both.there;
  followers = λ i j d b e f row other first second at-i at-j within.
      follower-too m n procedures p q i j d b e f row other equal here there first second at-i at-j within;
  actions = λ i j e s r both at-i at-j.
      one-stand m n p.lanes.items q.lanes.items e s r (one-ground m n procedures p q one here there).lanes (same-lines m n one equal)
      (stands-at m p.lanes.items (events m.live) p.steps.actions.items i e s here.steps.actions (event-at m.live i both.ticket e both.here) at-i)
      (stands-at n q.lanes.items (events n.live) q.steps.actions.items j e r there.steps.actions (event-at n.live j both.other e both.there) at-j);
  since = λ i j e s r both at-i at-j. since-too m n procedures p q i j e s r equal here there both at-i at-j;
  races = λ race i j e f within first second.
      races-agree m.checked m.live n.live p.steps.races.items q.steps.races.items race i j first.ticket second.ticket first.other second.other e f equal
      here.steps.races there.steps.races within first.here second.here first.there second.there;
  end = one-end lists rings m n procedures p q one equal here there;
}
