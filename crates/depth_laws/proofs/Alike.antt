-- Two lists of live events whose events are respecting orders of one another: the same events follow one another.
use Rattle.std.proofs.Common.{◌≡◌, ◌≢◌, ◌⊎◌, inl, inr, ℕ, zero, suc, ◌<◌, ◌≤◌, List, Some, refl, sym, ◌∙◌, subst, arith}
use Rattle.std.specs.Prelude.{slice_get, slice_index}
use Rattle.runs.specs.Dependence.{Directly, Respecting}
use Rattle.runs.specs.Live.{Live, LiveAt, Rising, DependsOn, same, later, events}
use Rattle.runs.specs.declared.event.Event.{Event}
use Rattle.runs.proofs.public.Elements.{Distinct, in-rearranged}
use Rattle.runs.proofs.public.DependsOnLaw.{earlier-by-tickets, one-ticket, tickets-of-earlier}
use Rattle.runs.proofs.public.Tickets.{rising-one, event-in, in-event}
use Rattle.dependence.specs.Followers.{Follower}
use Rattle.dependence.proofs.public.Following.{follows-live}
use Rattle.depth_laws.specs.Laws.{Chain}

-- both have the same events, each once, and a directly dependent pair stands in the other as in the one
pub record Alike (l m : Live) : Type 0 where
  pub low : ℕ
  pub next : ℕ
  pub rising : Rising low l next
  pub other_low : ℕ
  pub other_next : ℕ
  pub other_rising : Rising other_low m other_next
  pub distinct : Distinct (events l)
  pub other_distinct : Distinct (events m)
  pub forth : Respecting (events l) (events m)
  pub back : Respecting (events m) (events l)

pub turned : (l m : Live) → Alike l m → Alike m l
turned l m a = record {
  low = a.other_low;
  next = a.other_next;
  rising = a.other_rising;
  other_low = a.low;
  other_next = a.next;
  other_rising = a.rising;
  distinct = a.other_distinct;
  other_distinct = a.distinct;
  forth = a.back;
  back = a.forth;
}

-- an event of the one is one of the other
pub there-too : (l m : Live) (t : ℕ) (e : Event) → Alike l m → LiveAt l t e → (v : ℕ) × LiveAt m v e
there-too l m t e a live = in-event m e (in-rearranged (events l) (events m) e a.forth.rearranged (event-in l t e live))

-- a directly dependent pair has its order of tickets
pub less-too : (l m : Live) (t u v w : ℕ) (e f : Event) → Alike l m → LiveAt l t e → LiveAt l u f → LiveAt m v e → LiveAt m w f
    → t < u → Directly e f → v < w
less-too l m t u v w e f a at-t at-u at-v at-w less direct =
    let early = a.forth.keeps e f (earlier-by-tickets a.low a.next l t u e f a.rising at-t at-u less) direct in
    let two = tickets-of-earlier a.other_low a.other_next m e f a.other_rising early in
    let one : two.first ≡ v = one-ticket m two.first v e a.other_distinct two.of_first at-v in
    let other : two.second ≡ w = one-ticket m two.second w f a.other_distinct two.of_second at-w in
    let before : two.first < two.second = two.less in
    omega arith

-- what depends on an event depends on it in the other
pub depends-too : (l m : Live) (t v u w : ℕ) (e f : Event) → Alike l m → LiveAt l t e → LiveAt m v e → LiveAt l u f → LiveAt m w f
    → DependsOn l t u → DependsOn m v w
depends-too l m t v u w e f a at-t at-v at-u at-w same =
    let equal : e ≡ f = rising-one a.low a.next l t e f a.rising at-t at-u in
    let one : v ≡ w = one-ticket m v w f a.other_distinct (subst (λ (g : Event). LiveAt m v g) equal at-v) at-w in
    subst (λ (n : ℕ). DependsOn m v n) one same
depends-too l m t v u w e f a at-t at-v at-u at-w (later {u = s} g h before at-s at-h less direct) =
    let equal : h ≡ f = rising-one a.low a.next l u h f a.rising at-h at-u in
    let there = there-too l m s g a at-s in
    let onto : Directly g f = subst (λ (x : Event). Directly g x) equal direct in
    later g f (depends-too l m t v s there.0 e g a at-t at-v at-s there.1 before) there.1 at-w
    (less-too l m s u there.0 w g f a at-s at-u there.1 at-w less onto) onto

-- where one event is live, what depends on it is
live-behind : (l : Live) (t u : ℕ) (e : Event) → LiveAt l t e → DependsOn l t u → (g : Event) × LiveAt l u g
live-behind l t u e live depends = elim (follows-live l t u depends) [
  | inl self ↦ (e, subst (λ (n : ℕ). LiveAt l n e) (sym self) live)
  | inr some ↦ some
]

-- one of the two between which nothing else stands
between : (m : Live) (v w x y : ℕ) (l : Live) (t u : ℕ) (e f g : Event) → Alike l m → LiveAt l t e → LiveAt l u f → LiveAt l y g
    → LiveAt m v e → LiveAt m w f → LiveAt m x g → (y ≡ t) ⊎ (y ≡ u) → (x ≡ v) ⊎ (x ≡ w)
between m v w x y l t u e f g a at-t at-u at-y at-v at-w at-x is = elim is [
  | inl first ↦
      let equal : g ≡ e = rising-one a.low a.next l t g e a.rising (subst (λ (n : ℕ). LiveAt l n g) first at-y) at-t in
      inl (one-ticket m x v e a.other_distinct (subst (λ (h : Event). LiveAt m x h) equal at-x) at-v)
  | inr second ↦
      let equal : g ≡ f = rising-one a.low a.next l u g f a.rising (subst (λ (n : ℕ). LiveAt l n g) second at-y) at-u in
      inr (one-ticket m x w f a.other_distinct (subst (λ (h : Event). LiveAt m x h) equal at-x) at-w)
]

pub follows-too : (l m : Live) (t u v w : ℕ) (e f : Event) → Alike l m → LiveAt l t e → LiveAt l u f → LiveAt m v e → LiveAt m w f
    → Follower l t u → Follower m v w
follows-too l m t u v w e f a at-t at-u at-v at-w follows =
    let own = follows.dependent in
    let first : own.event ≡ e = rising-one a.low a.next l t own.event e a.rising own.live at-t in
    let second : own.dependent ≡ f = rising-one a.low a.next l u own.dependent f a.rising own.dependent_live at-u in
    let direct : Directly e f =
    subst (λ (x : Event). Directly x f) first (subst (λ (x : Event). Directly own.event x) second own.direct) in
    record {
      dependent = record {
        event = e;
        dependent = f;
        live = at-v;
        dependent_live = at-w;
        less = less-too l m t u v w e f a at-t at-u at-v at-w own.less direct;
        direct = direct;
      };
      next = λ x from to.
          let back = turned l m a in
          let some = live-behind m v x e at-v from in
          let here = there-too m l x some.0 back some.1 in
          between m v w x here.0 l t u e f some.0 a at-t at-u here.1 at-v at-w some.1
          (follows.next here.0 (depends-too m l v t x here.0 e some.0 back at-v at-t some.1 here.1 from)
          (depends-too m l x here.0 w u some.0 f back some.1 here.1 at-w at-u to));
    }

pub chain-too : (l m : Live) (n u w : ℕ) (f : Event) → Alike l m → LiveAt l u f → LiveAt m w f → Chain l n u → Chain m n w
chain-too l m zero u w f a at-u at-w chain = tt
chain-too l m (suc n) u w f a at-u at-w chain =
    let lead = chain.1.dependent in
    let there = there-too l m chain.0 lead.event a lead.live in (
      there.0,
      follows-too l m chain.0 u there.0 w lead.event f a lead.live at-u there.1 at-w chain.1,
      chain-too l m n chain.0 there.0 lead.event a lead.live there.1 chain.2,
    )
