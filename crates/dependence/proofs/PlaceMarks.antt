-- Marks beside the places of what is kept, of which some may be empty.
use Rattle.std.proofs.Common.{◌≡◌, ℕ, suc, ◌+◌, ◌-◌, ◌<◌, ◌≤◌, List, [], ◌∷◌, Bool, true, length, drop, Option, Some, None, sym, ◌∙◌, ap, subst, arith, length-drop}
use Rattle.std.specs.Prelude.{slice_get}
use Rattle.std.proofs.lemmas.List.{length-map}
use Rattle.std.proofs.lemmas.Option.{slice_get_within}
use Rattle.syntax.specs.Lists.{In}
use Rattle.slots.specs.Places.{Places, filled, rank, RiseFrom, IsOf, HasItem}
use Rattle.slots.proofs.public.PlaceLaws.{filled-in}
use Rattle.runs.specs.Live.{Rising, IsLive}
use Rattle.runs.specs.declared.event.Event.{Event}
use Rattle.runs.proofs.public.Tickets.{rising-lower}
use Rattle.dependence.specs.declared.kept.Kept.{Kept}
use Rattle.dependence.specs.Followers.{ListsFollowers}
use Rattle.dependence.specs.internal.Listed.{events_kept, links_kept, seats}
use Rattle.dependence.specs.internal.Marking.{MarkedBelow}
use Rattle.dependence.specs.internal.Tables.{IsRising, Linked}
use Rattle.dependence.proofs.FromIndex.{get-drop, rising-drop}
use Rattle.dependence.proofs.ListedLaws.{get-map, in-map, stands-at, links-stand}
use Rattle.dependence.proofs.public.ListPlaces.{at-within, in-at, index-in}
use Rattle.dependence.proofs.public.Markings.{dependents-live}
use Rattle.dependence.proofs.public.Standing.{lesser-stands, same-index}

-- ---- the order of tickets
pub kept-rises : (low : ℕ) (ps : Places Kept) → RiseFrom low ps → (next : ℕ) × Rising low (events_kept (filled ps)) next
kept-rises low [] r = (low, omega arith)
kept-rises low ((t, Some k) ∷ ps) r = let rest = kept-rises (suc t) ps r.1 in (rest.0, (r.0, rest.1))
kept-rises low ((t, None) ∷ ps) r =
    let rest = kept-rises (suc t) ps r.1 in
    let first : low ≤ t = r.0 in
    (rest.0, rising-lower low (suc t) rest.0 (events_kept (filled ps)) (omega arith) rest.1)

seats-rise : (e : Event) (low : ℕ) (ps : Places Kept) → RiseFrom low ps → (next : ℕ) × Rising low (seats e ps) next
seats-rise e low [] r = (low, omega arith)
seats-rise e low (p ∷ ps) r = let rest = seats-rise e (suc p.0) ps r.1 in (rest.0, (r.0, rest.1))

pub seats-from : (e : Event) (ps : Places Kept) (base : ℕ) → RiseFrom 0 ps → IsRising (drop base (seats e ps))
seats-from e ps base r = rising-drop (seats e ps) base (seats-rise e 0 ps r)

pub seats-size : (e : Event) (ps : Places Kept) (base n : ℕ) → base + n ≡ length ps → n ≡ length (drop base (seats e ps))
seats-size e ps base n is =
    let left = length-drop base (seats e ps) in
    let all : length (seats e ps) ≡ length ps = length-map ps (λ (p : ℕ × Option Kept). (p.0, e)) in
    omega arith

-- ---- where a ticket stands
seated : (e : Event) (ps : Places Kept) (p t : ℕ) (o : Option Kept) → slice_get ps p ≡ Some (t, o) → slice_get (seats e ps) p ≡ Some (t, e)
seated e ps p t o at = get-map (λ (x : ℕ × Option Kept). (x.0, e)) ps p (t, o) at

pub seat-at : (e : Event) (ps : Places Kept) (base i t : ℕ) (o : Option Kept) → slice_get ps (base + i) ≡ Some (t, o) → slice_get (drop base (seats e ps)) i ≡ Some (t, e)
seat-at e ps base i t o at = get-drop (seats e ps) base i ∙ seated e ps (base + i) t o at

-- one ticket is at one place
pub one-place : (e : Event) (ps : Places Kept) (p q t : ℕ) (a b : Option Kept) → RiseFrom 0 ps → slice_get ps p ≡ Some (t, a) → slice_get ps q ≡ Some (t, b) → p ≡ q
one-place e ps p q t a b r here there =
    let rise = seats-rise e 0 ps r in
    same-index 0 rise.0 (seats e ps) p q t e e rise.1 (seated e ps p t a here) (seated e ps q t b there)

-- a live event has a place
pub place-live : (ps : Places Kept) (t : ℕ) → IsLive (events_kept (filled ps)) t → (p : ℕ) × IsOf ps t p
place-live ps t live =
    let found = in-map (λ (x : ℕ × Kept). (x.0, x.1.event)) (filled ps) (t, live.0) live.1 in
    let same : t ≡ found.0.0 = ap (λ (x : ℕ × Event). x.0) found.2 in
    let at = index-in ps (found.0.0, Some found.0.1) (filled-in ps found.0.0 found.0.1 found.1) in
    (at.0, (found.0.1, at.1 ∙ ap (λ (u : ℕ). Some (u, Some found.0.1)) (sym same)))

-- what has a place is live
pub live-place : (ps : Places Kept) (t p : ℕ) → IsOf ps t p → IsLive (events_kept (filled ps)) t
live-place ps t p at = (at.0.event, in-at (events_kept (filled ps)) (rank ps p) _ (stands-at ps t p at.0 at.1))

-- the followers of what is kept at a place
pub followers-there : (ps : Places Kept) (p s : ℕ) (k : Kept) → Linked (events_kept (filled ps)) (links_kept (filled ps)) → slice_get ps p ≡ Some (s, Some k) →
    ListsFollowers (events_kept (filled ps)) s k.links.followers.items
followers-there ps p s k linked at = linked.followers (rank ps p) s k.event k.links (stands-at ps s p k at) (links-stand ps s p k at)

-- they have places behind it
pub follower-place : (ps : Places Kept) (base i s : ℕ) (k : Kept) → RiseFrom 0 ps → Linked (events_kept (filled ps)) (links_kept (filled ps)) → slice_get ps (base + i) ≡ Some (s, Some k) →
    (t : ℕ) → In t k.links.followers.items → (j : ℕ) × IsOf ps t (base + j)
follower-place ps base i s k r linked at t inside =
    let f = (((followers-there ps (base + i) s k linked at).exactly t).0 inside).dependent in
    let place = place-live ps t (f.dependent, f.dependent_live) in
    let e : Event = k.event in
    let rise = seats-rise e 0 ps r in
    let above : base + i < place.0 =
    lesser-stands 0 rise.0 (seats e ps) (base + i) place.0 s t e e rise.1 (seated e ps (base + i) s (Some k) at) (seated e ps place.0 t (Some place.1.0) place.1.1) f.less in
    let is : place.0 ≡ base + (place.0 - base) = omega arith in
    (place.0 - base, subst (λ (p : ℕ). IsOf ps t p) is place.1)

-- a place that is marked is not empty
pub marked-item : (e : Event) (ps : Places Kept) (base i t index : ℕ) (marks : List Bool) → RiseFrom 0 ps → IsLive (events_kept (filled ps)) t → base + length marks ≡ length ps →
    MarkedBelow (drop base (seats e ps)) (events_kept (filled ps)) t index marks → slice_get marks i ≡ Some true → HasItem ps (base + i)
marked-item e ps base i t index marks r live size b on =
    let within : i < length marks = slice_get_within marks i true on in
    let less : base + i < length ps = omega arith in
    let here = at-within ps (base + i) less in
    let u : ℕ = here.0.0 in
    let depends = b.sound u (i, (e, seat-at e ps base i u here.0.1 here.1), on) in
    let place = place-live ps u (dependents-live (events_kept (filled ps)) t u live depends) in
    let same : place.0 ≡ base + i = one-place e ps place.0 (base + i) u (Some place.1.0) here.0.1 r place.1.1 here.1 in
    (u, place.1.0, subst (λ (p : ℕ). slice_get ps p ≡ Some (u, Some place.1.0)) same place.1.1)
