-- Equal runs have equal races.
use Rattle.std.proofs.Common.{◌≡◌, inl, inr, ℕ, List, Some, sym, ◌∙◌, ap, subst}
use Rattle.std.specs.Prelude.{slice_get}
use Rattle.syntax.specs.Lists.{In}
use Rattle.system.specs.declared.system.System.{System}
use Rattle.runs.specs.Live.{Live}
use Rattle.runs.specs.declared.event.Event.{Event}
use Rattle.runs.proofs.public.Options.{some-injective}
use Rattle.dependence.proofs.public.ListPlaces.{at-one, in-at}
use Rattle.run_depths.specs.Races.{AreRaces, ByVariable, OrdersBy}
use Rattle.run_depths.specs.declared.races.Race.{Race}
use Rattle.depth_laws.specs.Laws.{AreEqualRuns}
use Rattle.depth_laws.proofs.public.EqualRuns.{followers-agree}

-- one variable orders two events
pub orders-one : (e f : Event) (x y : ℕ) → OrdersBy e f x → OrdersBy e f y → x ≡ y
orders-one e f x y (inl a) (inl b) = some-injective x y (sym a.0 ∙ b.0)
orders-one e f x y (inl a) (inr b) = absurd (b.0 x a)
orders-one e f x y (inr a) (inl b) = absurd (a.0 y b)
orders-one e f x y (inr a) (inr b) = some-injective x y (sym a.1.0 ∙ b.1.0)

-- what stands at an index is one event
pub same-event : (l : Live) (i t u : ℕ) (e f : Event) → slice_get l i ≡ Some (t, e) → slice_get l i ≡ Some (u, f) → (t ≡ u) × (e ≡ f)
same-event l i t u e f a b =
    let one = at-one l i (t, e) (u, f) a b in (ap (λ (y : ℕ × Event). y.0) one, ap (λ (y : ℕ × Event). y.1) one)

-- the same of a race that is known by the events
named : (system : System) (l m : Live) (others : List Race) (i j t u v w x : ℕ) (e f : Event) → AreEqualRuns system l m → AreRaces m others →
    In (t, e) l → In (u, f) l → slice_get m i ≡ Some (v, e) → slice_get m j ≡ Some (w, f) →
    ByVariable l t u e f → OrdersBy e f x → In (record { cause = i; event = j; variable = x }) others
named system l m others i j t u v w x e f r are here later at-i at-j by orders =
    let found =
    are.all i j v w e f at-i at-j (record {
      follows = followers-agree system l m t u v w e f r here later (in-at m i (v, e) at-i) (in-at m j (w, f) at-j) by.follows;
      places = by.places;
      channels = by.channels;
    }) in
    let race = are.each (record { cause = i; event = j; variable = found.0 }) found.1 in
    let first = same-event m i race.0 v race.2 e race.4 at-i in
    let second = same-event m j race.1 w race.3 f race.5 at-j in
    let told : OrdersBy e f found.0 =
    subst (λ (g : Event). OrdersBy e g found.0) second.1 (subst (λ (g : Event). OrdersBy g race.3 found.0) first.1 race.7) in
    let one : found.0 ≡ x = orders-one e f found.0 x told orders in
    let made : ℕ → Race = λ k. record { cause = i; event = j; variable = k } in
    subst (λ (k : ℕ). In (made k) others) one found.1

pub races-agree : (system : System) (l m : Live) (races others : List Race) (r : Race) (i j t u v w : ℕ) (e f : Event) → AreEqualRuns system l m →
    AreRaces l races → AreRaces m others → In r races → slice_get l r.cause ≡ Some (t, e) → slice_get l r.event ≡ Some (u, f) →
    slice_get m i ≡ Some (v, e) → slice_get m j ≡ Some (w, f) → In (record { cause = i; event = j; variable = r.variable }) others
races-agree system l m races others r i j t u v w e f equal these those is at-e at-f at-i at-j =
    let race = these.each r is in
    let first = same-event l r.cause race.0 t race.2 e race.4 at-e in
    let second = same-event l r.event race.1 u race.3 f race.5 at-f in
    let by1 : ByVariable l t race.1 e race.3 =
    subst (λ (g : Event). ByVariable l t race.1 g race.3) first.1 (subst (λ (k : ℕ). ByVariable l k race.1 race.2 race.3) first.0 race.6) in
    let by2 : ByVariable l t u e f = subst (λ (g : Event). ByVariable l t u e g) second.1 (subst (λ (k : ℕ). ByVariable l t k e race.3) second.0 by1) in
    let orders : OrdersBy e f r.variable =
    subst (λ (g : Event). OrdersBy e g r.variable) second.1 (subst (λ (g : Event). OrdersBy g race.3 r.variable) first.1 race.7) in
    named system l m others i j t u v w r.variable e f equal those (in-at l r.cause (t, e) at-e) (in-at l r.event (u, f) at-f) at-i at-j by2 orders
