-- Nearest causes from those of what an event follows.
use Rattle.std.proofs.Common.{◌≡◌, ◌≢◌, ◌⊎◌, ◌↔◌, inl, inr, ℕ, zero, suc, ◌+◌, ◌<◌, ◌≤◌, Bool, true, false, refl, sym, ◌∙◌, ap, subst, arith}
use Rattle.std.proofs.lemmas.Bool.{cases_eq, cases_lt}
use Rattle.syntax.specs.Lists.{In}
use Rattle.runs.specs.Live.{Live, Rising, LiveAt, DependsOn, same}
use Rattle.runs.specs.declared.event.Event.{Event}
use Rattle.runs.proofs.public.Decisions.{Or, search-list, depends?}
use Rattle.runs.proofs.public.DependsOnLaw.{depends-up}
use Rattle.runs.proofs.public.Tickets.{rising-one}
use Rattle.dependence.specs.Followers.{Follower, Reached, here, along}
use Rattle.dependence.proofs.public.Following.{follows-on}
use Rattle.dependence.proofs.public.FollowerLaws.{direct-follows, reached-follows, reached-through-followers}
use Rattle.past.specs.Past.{NearestCause, IsInPast, is_told}

-- an event that s follows, which is u or depends on it
pub record LastStep (l : Live) (u s : ℕ) : Type 0 where
  pub ticket : ℕ
  pub on : DependsOn l u ticket
  pub follower : Follower l ticket s

last-reached : (l : Live) (u s : ℕ) → Reached l u s → u ≢ s → LastStep l u s
last-reached l u s here differs = absurd (differs refl)
last-reached l u s (along {u = v} before f) differs = record { ticket = v; on = reached-follows l u v before; follower = f }

pub last-step : (low next : ℕ) (l : Live) (u s : ℕ) → Rising low l next → DependsOn l u s → u ≢ s → LastStep l u s
last-step low next l u s r follows differs = last-reached l u s ((reached-through-followers low next l u s r).0 follows) differs

pub strictly : (u v : ℕ) → u ≤ v → v ≢ u → u < v
strictly u v up other = elim (cases_lt u v) [
  | inl less ↦ less
  | inr not_less ↦ let is : v ≡ u = omega arith in absurd (other is)
]

-- it is told and lies between u and s
pub record Between (all : Bool) (l : Live) (t u s v : ℕ) : Type 0 where
  pub told : IsInPast all l t v
  pub from : DependsOn l u v
  pub to : DependsOn l v s
  pub not_first : v ≢ u
  pub not_last : v ≢ s

-- a nearest cause of s that is u or depends on it
pub record CauseAbove (all : Bool) (l : Live) (t u s : ℕ) : Type 0 where
  pub ticket : ℕ
  pub nearest : NearestCause all l t s ticket
  pub on : DependsOn l u ticket

-- what an event hands on to those that follow it: itself where it is told, else its nearest causes
abbrev pub Hands : Bool → Live → ℕ → ℕ → ℕ → Type 0
Hands all l t f c = (IsInPast all l t f × (c ≡ f)) ⊎ ((IsInPast all l t f → ⊥) × NearestCause all l t f c)

-- what is handed on to s
abbrev pub Candidate : Bool → Live → ℕ → ℕ → ℕ → Type 0
Candidate all l t s c = (f : ℕ) × Follower l f s × Hands all l t f c

-- of what is handed on, what nothing else of it depends on
abbrev pub Top : Bool → Live → ℕ → ℕ → ℕ → Type 0
Top all l t s u = Candidate all l t s u × ((c : ℕ) → Candidate all l t s c → DependsOn l u c → c ≡ u)

module _ (low next : ℕ) (all : Bool) (l : Live) (t : ℕ) (last : Event) (r : Rising low l next) (at_last : LiveAt l t last) where
  -- a live event is told, or it is not
  pub told-live? : (u : ℕ) (e : Event) → LiveAt l u e → Or (IsInPast all l t u)
  told-live? u e i = elim (depends? low next l u t last r at_last) [
    | inr out ↦ inr (λ h. out h.2)
    | inl on ↦ pick (is_told all t u e) refl on
  ]
    where
      pick : (b : Bool) → is_told all t u e ≡ b → DependsOn l u t → Or (IsInPast all l t u)
      pick true is on = inl (e, i, on, is)
      pick false is on = inr (λ h.
          let one : h.0 ≡ e = rising-one low next l u h.0 e r h.1 i in
          let both : true ≡ false = sym h.3 ∙ ap (λ (f : Event). is_told all t u f) one ∙ is in
          cc)

  between? : (u s : ℕ) (g : Event) → LiveAt l s g → (x : ℕ × Event) → In x l → Or (Between all l t u s x.0)
  between? u s g is x ix = elim (cases_eq x.0 u) [
    | inl one ↦ inr (λ h. h.not_first one)
    | inr first ↦ elim (cases_eq x.0 s) [
      | inl one ↦ inr (λ h. h.not_last one)
      | inr end ↦ elim (told-live? x.0 x.1 ix) [
        | inr out ↦ inr (λ h. out h.told)
        | inl told ↦ elim (depends? low next l u x.0 x.1 r ix) [
          | inr out ↦ inr (λ h. out h.from)
          | inl from ↦ elim (depends? low next l x.0 s g r is) [
            | inr out ↦ inr (λ h. out h.to)
            | inl to ↦ inl (record { told = told; from = from; to = to; not_first = first; not_last = end })
          ]
        ]
      ]
    ]
  ]

  -- a told cause is a nearest one, or one lies between
  nearest? : (u s : ℕ) (g : Event) → LiveAt l s g → IsInPast all l t u → u ≢ s → DependsOn l u s → NearestCause all l t s u ⊎ ((v : ℕ) × Between all l t u s v)
  nearest? u s g is told differs on = elim (search-list (λ (x : ℕ × Event). Between all l t u s x.0) l (between? u s g is)) [
    | inl found ↦ inr (found.0.0, found.2)
    | inr none ↦ inl (record {
      told = told;
      other = differs;
      cause = on;
      next = λ v told_v from to. elim (cases_eq v u) [
        | inl one ↦ inl one
        | inr first ↦ elim (cases_eq v s) [
          | inl one ↦ inr one
          | inr end ↦ absurd (none (v, told_v.0) told_v.1 (record { told = told_v; from = from; to = to; not_first = first; not_last = end }))
        ]
      ];
    })
  ]

  above-within : (n u s : ℕ) (g : Event) → s ≤ u + n → LiveAt l s g → IsInPast all l t u → u ≢ s → DependsOn l u s → CauseAbove all l t u s
  above-within zero u s g near is told differs on =
      let up : u ≤ s = depends-up l u s on in
      let one : u ≡ s = omega arith in
      absurd (differs one)
  above-within (suc n) u s g near is told differs on = elim (nearest? u s g is told differs on) [
    | inl nearest ↦ record { ticket = u; nearest = nearest; on = same }
    | inr found ↦
        let v : ℕ = found.0 in
        let b = found.1 in
        let up : u < v = strictly u v (depends-up l u v b.from) b.not_first in
        let close : s ≤ v + n = omega arith in
        let more = above-within n v s g close is b.told b.not_last b.to in
        record { ticket = more.ticket; nearest = more.nearest; on = follows-on l u v more.ticket b.from more.on }
  ]

  pub cause-above : (u s : ℕ) (g : Event) → LiveAt l s g → IsInPast all l t u → u ≢ s → DependsOn l u s → CauseAbove all l t u s
  cause-above u s g is told differs on = above-within s u s g (omega arith) is told differs on

  below-follower : (f s u : ℕ) → Follower l f s → DependsOn l u f → u ≢ s
  below-follower f s u follower on is =
      let up : u ≤ f = depends-up l u f on in
      let less : f < s = follower.dependent.less in
      omega arith

  pub cause-candidate : (s u : ℕ) → NearestCause all l t s u → Candidate all l t s u
  cause-candidate s u d =
      let step = last-step low next l u s r d.cause d.other in
      let f : ℕ = step.ticket in
      let to = direct-follows l f s step.follower.dependent in
      elim (told-live? f step.follower.dependent.event step.follower.dependent.live) [
        | inl told ↦ (
          f,
          step.follower,
          inl (
            told,
            elim (d.next f told step.on to) [
              | inl is ↦ sym is
              | inr is ↦ absurd (below-follower f s f step.follower same is)
            ],
          ),
        )
        | inr out ↦ (
          f,
          step.follower,
          inr (
            out,
            record {
              told = d.told;
              other = λ is. out (subst (λ (v : ℕ). IsInPast all l t v) is d.told);
              cause = step.on;
              next = λ v told from on. elim (d.next v told from (follows-on l v f s on to)) [
                | inl is ↦ inl is
                | inr is ↦ absurd (below-follower f s v step.follower on is)
              ];
            },
          ),
        )
      ]

  -- what is handed on is a told cause
  pub candidate-told : (s c : ℕ) → Candidate all l t s c → IsInPast all l t c
  candidate-told s c h = elim h.2 [ inl own ↦ subst (λ (v : ℕ). IsInPast all l t v) (sym own.1) own.0 | inr further ↦ further.1.told ]

  candidate-on : (s c : ℕ) (h : Candidate all l t s c) → DependsOn l c h.0
  candidate-on s c h = elim h.2 [ inl own ↦ subst (λ (v : ℕ). DependsOn l v h.0) (sym own.1) same | inr further ↦ further.1.cause ]

  pub candidate-cause : (s c : ℕ) → Candidate all l t s c → DependsOn l c s
  candidate-cause s c h = follows-on l c h.0 s (candidate-on s c h) (direct-follows l h.0 s h.1.dependent)

  pub candidate-other : (s c : ℕ) → Candidate all l t s c → c ≢ s
  candidate-other s c h = below-follower h.0 s c h.1 (candidate-on s c h)

  -- a told cause is one of what is handed on, or one of that depends on it
  covered : (s v : ℕ) → IsInPast all l t v → v ≢ s → DependsOn l v s → (c : ℕ) × Candidate all l t s c × DependsOn l v c
  covered s v told differs on =
      let step = last-step low next l v s r on differs in
      let f : ℕ = step.ticket in
      let event = step.follower.dependent.event in
      let at = step.follower.dependent.live in
      elim (told-live? f event at) [
        | inl own ↦ (f, (f, step.follower, inl (own, refl)), step.on)
        | inr out ↦
            let above = cause-above v f event at told (λ is. out (subst (λ (u : ℕ). IsInPast all l t u) is told)) step.on in
            (above.ticket, (f, step.follower, inr (out, above.nearest)), above.on)
      ]

  pub top-cause : (s u : ℕ) → Top all l t s u → NearestCause all l t s u
  top-cause s u top = record {
    told = candidate-told s u top.0;
    other = candidate-other s u top.0;
    cause = candidate-cause s u top.0;
    next = λ v told from to. elim (cases_eq v s) [
      | inl is ↦ inr is
      | inr differs ↦
          let c = covered s v told differs to in
          let one : c.0 ≡ u = top.1 c.0 c.1 (follows-on l u v c.0 from c.2) in
          let up : u ≤ v = depends-up l u v from in
          let down : v ≤ c.0 = depends-up l v c.0 c.2 in
          inl (omega arith)
    ];
  }

  pub cause-top : (s u : ℕ) → NearestCause all l t s u → Top all l t s u
  cause-top s u d = (
    cause-candidate s u d,
    λ c h on. elim (d.next c (candidate-told s c h) on (candidate-cause s c h)) [
      | inl is ↦ is
      | inr is ↦ absurd (candidate-other s c h is)
    ],
  )

  -- where all that s follows are told, they are its nearest causes
  pub all-told : (s u : ℕ) → ((f : ℕ) → Follower l f s → IsInPast all l t f) → NearestCause all l t s u ↔ Follower l u s
  all-told s u told = (
    (λ d.
        let h = cause-candidate s u d in
        elim h.2 [ inl own ↦ subst (λ (v : ℕ). Follower l v s) (sym own.1) h.1 | inr further ↦ absurd (further.0 (told h.0 h.1)) ]),
    (λ f. top-cause s u (
      (u, f, inl (told u f, refl)),
      λ c h on. elim (f.next c on (candidate-cause s c h)) [
        | inl is ↦ is
        | inr is ↦ absurd (candidate-other s c h is)
      ],
    )),
  )

  -- where it follows one that is not told, they are the nearest causes of that
  pub one-untold : (f s u : ℕ) → Follower l f s → ((g : ℕ) → Follower l g s → g ≡ f) → (IsInPast all l t f → ⊥) →
      NearestCause all l t s u ↔ NearestCause all l t f u
  one-untold f s u follower only out = (
    (λ d.
        let h = cause-candidate s u d in
        let one : h.0 ≡ f = only h.0 h.1 in
        elim h.2 [
          | inl own ↦ absurd (out (subst (λ (v : ℕ). IsInPast all l t v) one own.0))
          | inr further ↦ subst (λ (v : ℕ). NearestCause all l t v u) one further.1
        ]),
    (λ d. top-cause s u (
      (f, follower, inr (out, d)),
      λ c h on.
          let one : h.0 ≡ f = only h.0 h.1 in
          elim h.2 [
            | inl own ↦ absurd (out (subst (λ (v : ℕ). IsInPast all l t v) one own.0))
            | inr further ↦
                let e : NearestCause all l t f c = subst (λ (v : ℕ). NearestCause all l t v c) one further.1 in
                elim (d.next c e.told on e.cause) [ inl is ↦ is | inr is ↦ absurd (e.other is) ]
          ],
    )),
  )
