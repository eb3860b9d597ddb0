-- The least dependent is a follower, dependence goes through followers, and taking out makes none.
use Rattle.std.proofs.Common.{◌≡◌, ◌≢◌, inl, inr, ℕ, zero, suc, ◌+◌, ◌<◌, ◌≤◌, refl, subst, arith}
use Rattle.std.proofs.lemmas.Bool.{cases_eq}
use Rattle.syntax.specs.Lists.{In}
use Rattle.runs.specs.Live.{Live, Rising, LiveAt, DependsOn, same, later, FirstDependent, NoDependent, WithoutTickets}
use Rattle.runs.specs.declared.event.Event.{Event}
use Rattle.runs.proofs.public.Decisions.{Or, search-list, depends?}
use Rattle.runs.proofs.public.DependsOnLaw.{depends-up}
use Rattle.runs.proofs.public.UndoLaws.{without-live}
use Rattle.dependence.specs.Followers.{DirectDependent, Follower, Reached, here, along}
use Rattle.dependence.specs.Laws.{LeastIsFollower, ReachedThroughFollowers, NoNewFollower}
use Rattle.dependence.proofs.public.Following.{follows-on, live-beyond, follows-in, follows-without}

-- a direct dependent depends
pub direct-follows : (l : Live) (t u : ℕ) → DirectDependent l t u → DependsOn l t u
direct-follows l t u d = later d.event d.dependent same d.live d.dependent_live d.less d.direct

-- the least dependent depends directly
least-direct : (l : Live) (t u : ℕ) → FirstDependent l t u → DependsOn l t u → DirectDependent l t u
least-direct l t u first same = absurd (first.other refl)
least-direct l t u first (later {u = w} g h before iw iu less d) =
    elim (cases_eq w t) [
      | inl is ↦ record {
        event = g;
        dependent = h;
        live = subst (λ (v : ℕ). LiveAt l v g) is iw;
        dependent_live = iu;
        less = subst (λ (v : ℕ). v < u) is less;
        direct = d;
      }
      | inr differs ↦ let not_less : u ≤ w = first.least w g iw differs before in absurd (omega arith)
    ]

pub least-is-follower : LeastIsFollower
least-is-follower l t u first = record {
  dependent = least-direct l t u first first.depends;
  next = λ v from to. elim (cases_eq v t) [
    | inl is ↦ inl is
    | inr differs ↦
        let live = live-beyond l t v from differs in
        let low : u ≤ v = first.least v live.0 live.1 differs from in
        let high : v ≤ u = depends-up l v u to in
        inr (omega arith)
  ];
}

pub reached-follows : (l : Live) (t u : ℕ) → Reached l t u → DependsOn l t u
reached-follows l t u here = same
reached-follows l t u (along {u = w} r f) = follows-on l t w u (reached-follows l t w r) (direct-follows l w u f.dependent)

reached-on : (l : Live) (t u v : ℕ) → Reached l t u → Reached l u v → Reached l t v
reached-on l t u v first here = first
reached-on l t u v first (along {u = w} r f) = along (reached-on l t u w first r) f

-- strictly between t and u
abbrev Between : Live → ℕ → ℕ → ℕ × Event → Type 0
Between l t u x = DependsOn l t x.0 × DependsOn l x.0 u × (x.0 ≢ t) × (x.0 ≢ u)

between? : (low next : ℕ) (l : Live) (t u : ℕ) (f : Event) → Rising low l next → LiveAt l u f → (x : ℕ × Event) → In x l → Or (Between l t u x)
between? low next l t u f r iu x ix =
    elim (cases_eq x.0 t) [
      | inl is ↦ inr (λ h. h.2 is)
      | inr first ↦ elim (cases_eq x.0 u) [
        | inl is ↦ inr (λ h. h.3 is)
        | inr last ↦ elim (depends? low next l t x.0 x.1 r ix) [
          | inr out ↦ inr (λ h. out h.0)
          | inl from ↦ elim (depends? low next l x.0 u f r iu) [
            | inr out ↦ inr (λ h. out h.1)
            | inl to ↦ inl (from, to, first, last)
          ]
        ]
      ]
    ]

-- a direct dependent with nothing between is a follower
follower-where-none : (l : Live) (t u : ℕ) → DirectDependent l t u → ((x : ℕ × Event) → In x l → Between l t u x → ⊥) → Follower l t u
follower-where-none l t u d none = record {
  dependent = d;
  next = λ v from to. elim (cases_eq v t) [
    | inl is ↦ inl is
    | inr first ↦ elim (cases_eq v u) [
      | inl is ↦ inr is
      | inr last ↦ let live = live-beyond l t v from first in absurd (none (v, live.0) live.1 (from, to, first, last))
    ]
  ];
}

-- over less than n tickets
reached-within : (n low next : ℕ) (l : Live) (t u : ℕ) → Rising low l next → u ≤ t + n → DependsOn l t u → Reached l t u
reached-within zero low next l t u r near follows =
    let up : t ≤ u = depends-up l t u follows in
    let is : t ≡ u = omega arith in
    subst (λ (v : ℕ). Reached l t v) is here
reached-within (suc n) low next l t u r near same = here
reached-within (suc n) low next l t u r near (later {u = w} g h before iw iu less d) =
    let up : t ≤ w = depends-up l t w before in
    let close : w ≤ t + n = omega arith in
    let first : Reached l t w = reached-within n low next l t w r close before in
    let direct : DirectDependent l w u = record { event = g; dependent = h; live = iw; dependent_live = iu; less = less; direct = d } in
    elim (search-list (Between l w u) l (between? low next l w u h r iu)) [
      | inl found ↦
          let v : ℕ = found.0.0 in
          let before_it : w ≤ v = depends-up l w v found.2.0 in
          let after_it : v ≤ u = depends-up l v u found.2.1 in
          let above : v ≢ w = found.2.2 in
          let below : v ≢ u = found.2.3 in
          let near_it : v ≤ w + n = omega arith in
          let near_end : u ≤ v + n = omega arith in
          reached-on l t w u first
          (reached-on l w v u (reached-within n low next l w v r near_it found.2.0) (reached-within n low next l v u r near_end found.2.1))
      | inr none ↦ along first (follower-where-none l w u direct none)
    ]

pub reached-through-followers : ReachedThroughFollowers
reached-through-followers low next l t u r =
    ((λ follows. reached-within u low next l t u r (omega arith) follows), (λ reached. reached-follows l t u reached))

-- a follower stands without an event on which none depends
follower-left : (l k : Live) (t u v : ℕ) → NoDependent l t → WithoutTickets (λ w. w ≡ t) l k → Follower k u v → Follower l u v × (v ≢ t)
follower-left l k t u v none w f =
    let left = without-live (λ (w : ℕ). w ≡ t) l k w in
    let d = f.dependent in
    let start = left.0 u d.event d.live in
    let end = left.0 v d.dependent d.dependent_live in
    let inside : (x : ℕ) (e : Event) → LiveAt l x e → x ≢ t → LiveAt k x e = λ x e i differs. left.1 x e i differs in (
      record {
        dependent = record { event = d.event; dependent = d.dependent; live = start.0; dependent_live = end.0; less = d.less; direct = d.direct };
        next = λ x from to.
            let other : x ≢ t = λ is. end.1 (none v d.dependent end.0 (subst (λ (y : ℕ). DependsOn l y v) is to)) in
            f.next x (follows-without l k t u x none inside other from) (follows-without l k t x v none inside end.1 to);
      },
      end.1,
    )

follower-stays : (l k : Live) (t u v : ℕ) → NoDependent l t → WithoutTickets (λ w. w ≡ t) l k → Follower l u v → v ≢ t → Follower k u v
follower-stays l k t u v none w f differs =
    let left = without-live (λ (w : ℕ). w ≡ t) l k w in
    let d = f.dependent in
    let first : u ≢ t = λ is. differs (none v d.dependent d.dependent_live (subst (λ (y : ℕ). DependsOn l y v) is (direct-follows l u v d))) in
    let outside : (x : ℕ) (e : Event) → LiveAt k x e → LiveAt l x e = λ x e i. (left.0 x e i).0 in
    record {
      dependent = record {
        event = d.event;
        dependent = d.dependent;
        live = left.1 u d.event d.live first;
        dependent_live = left.1 v d.dependent d.dependent_live differs;
        less = d.less;
        direct = d.direct;
      };
      next = λ x from to. f.next x (follows-in k l u x outside from) (follows-in k l x v outside to);
    }

pub no-new-follower : NoNewFollower
no-new-follower l k t u v none w =
    ((λ f. follower-left l k t u v none w f), (λ h. follower-stays l k t u v none w h.0 h.1))
