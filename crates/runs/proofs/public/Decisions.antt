-- Dependence can be decided: for each two live events one depends on the other or does not.
use Rattle.std.proofs.Common.{◌≡◌, ◌⊎◌, inl, inr, ℕ, zero, suc, ◌<◌, ◌≤◌, List, [], ◌∷◌, Option, Some, None, refl, sym, ◌∙◌, ap, subst, arith}
use Rattle.std.proofs.lemmas.Bool.{cases_eq, cases_lt}
use Rattle.syntax.specs.Lists.{In}
use Rattle.address.specs.Places.{Before}
use Rattle.address.proofs.public.Places.{before?}
use Rattle.runs.specs.Moves.{Place}
use Rattle.runs.specs.Events.{places}
use Rattle.runs.specs.Dependence.{Directly, SomeBefore, OnOneChannel, WritesFor}
use Rattle.runs.specs.Live.{Live, Rising, LiveAt, IsLive, NoneAt, DependsOn, same, later, FirstDependent, NoDependent, LastWriter, NoWriter}
use Rattle.runs.specs.declared.event.Event.{Event}
use Rattle.runs.proofs.public.Options.{some-injective}
use Rattle.runs.proofs.public.Tickets.{rising-in, rising-one}

-- it holds, or it doesn't
abbrev pub Or : Type 0 → Type 0
Or P = P ⊎ (P → ⊥)

-- an element of which P holds, or none
pub search-list : {X : Type 0} (P : X → Type 0) (xs : List X) → ((x : X) → In x xs → Or (P x)) → ((x : X) × In x xs × P x) ⊎ ((x : X) → In x xs → P x → ⊥)
search-list P [] decide = inr (λ x i p. i)
search-list P (y ∷ xs) decide =
    elim (decide y (inl refl)) [
      | inl p ↦ inl (y, inl refl, p)
      | inr out ↦ elim (search-list P xs (λ x i. decide x (inr i))) [
        | inl found ↦ inl (found.0, inr found.1, found.2)
        | inr none ↦ inr (λ x i p. elim i [ inl u ↦ out (subst P u p) | inr u ↦ none x u p ])
      ]
    ]

in? : (x : ℕ) (xs : List ℕ) → Or (In x xs)
in? x [] = inr (λ i. i)
in? x (y ∷ xs) =
    elim (cases_eq x y) [
      | inl u ↦ inl (inl u)
      | inr u ↦ elim (in? x xs) [ inl v ↦ inl (inr v) | inr v ↦ inr (λ i. elim i [ inl a ↦ u a | inr a ↦ v a ]) ]
    ]

is-some? : (a : Option ℕ) (x : ℕ) → Or (a ≡ Some x)
is-some? None x = inr (λ is. cc)
is-some? (Some y) x = elim (cases_eq y x) [ inl u ↦ inl (ap (λ n. Some n) u) | inr u ↦ inr (λ is. u (some-injective y x is)) ]

on-channel? : (e f : Event) → Or (OnOneChannel e f)
on-channel? e f = pick e.channel refl
  where
    pick : (a : Option ℕ) → e.channel ≡ a → Or (OnOneChannel e f)
    pick None is = inr (λ h. let none : None ≡ Some h.0 = sym is ∙ h.1 in cc)
    pick (Some c) is = elim (is-some? f.channel c) [
      | inl u ↦ inl (c, is, u)
      | inr u ↦ inr (λ h. u (h.2 ∙ sym (sym is ∙ h.1)))
    ]

writes-for? : (e f : Event) → Or (WritesFor e f)
writes-for? e f = pick e.written refl
  where
    pick : (a : Option ℕ) → e.written ≡ a → Or (WritesFor e f)
    pick None is = inr (λ h. let none : None ≡ Some h.0 = sym is ∙ h.1 in cc)
    pick (Some x) is =
        elim (in? x f.read) [
          | inl u ↦ inl (x, is, inl u)
          | inr u ↦ elim (is-some? f.written x) [
            | inl v ↦ inl (x, is, inr v)
            | inr v ↦ inr (λ h. let one : h.0 ≡ x = some-injective h.0 x (sym h.1 ∙ is) in
                elim h.2 [ inl a ↦ u (subst (λ (y : ℕ). In y f.read) one a) | inr a ↦ v (a ∙ ap (λ n. Some n) one) ])
          ]
        ]

-- a place of the list after a
one-before? : (a : Place) (ys : List Place) → ((b : Place) × In b ys × Before a b) ⊎ ((b : Place) → In b ys → Before a b → ⊥)
one-before? a ys = search-list (λ (b : Place). Before a b) ys (λ b i. before? a b)

some-before? : (e f : Event) → Or (SomeBefore e f)
some-before? e f =
    elim (search-list (λ (a : Place). (b : Place) × In b (places f) × Before a b) (places e)
    (λ a i. elim (one-before? a (places f)) [ inl u ↦ inl u | inr u ↦ inr (λ h. u h.0 h.1 h.2) ])) [
      | inl u ↦ inl (u.0, u.2.0, u.1, u.2.1, u.2.2)
      | inr u ↦ inr (λ h. u h.0 h.2 (h.1, h.3, h.4))
    ]

pub directly? : (e f : Event) → Or (Directly e f)
directly? e f =
    elim (some-before? e f) [
      | inl a ↦ inl (inl a)
      | inr a ↦ elim (on-channel? e f) [
        | inl b ↦ inl (inr (inl b))
        | inr b ↦ elim (writes-for? e f) [
          | inl c ↦ inl (inr (inr (inl c)))
          | inr c ↦ elim (writes-for? f e) [
            | inl d ↦ inl (inr (inr (inr d)))
            | inr d ↦ inr (λ h. elim h [ inl x ↦ a x | inr (inl x) ↦ b x | inr (inr (inl x)) ↦ c x | inr (inr (inr x)) ↦ d x ])
          ]
        ]
      ]
    ]

-- an earlier entry that follows t, and on which f depends directly
abbrev Link : Live → ℕ → ℕ → Event → ℕ × Event → Type 0
Link l t u f x = (x.0 < u) × Directly x.1 f × DependsOn l t x.0

link? : (l : Live) (t u : ℕ) (f : Event) (x : ℕ × Event) → (x.0 < u → Or (DependsOn l t x.0)) → Or (Link l t u f x)
link? l t u f x decide =
    elim (cases_lt x.0 u) [
      | inr high ↦ inr (λ h. let low : x.0 < u = h.0 in omega arith)
      | inl low ↦ elim (directly? x.1 f) [
        | inr d ↦ inr (λ h. d h.1)
        | inl d ↦ elim (decide low) [ inl p ↦ inl (low, d, p) | inr p ↦ inr (λ h. p h.2) ]
      ]
    ]

-- a follower is the same, or has a link
unlinked : (low next : ℕ) (l : Live) (t u : ℕ) (f : Event) → Rising low l next → LiveAt l u f → (u ≡ t → ⊥) → DependsOn l t u → (x : ℕ × Event) × In x l × Link l t u f x
unlinked low next l t u f r i differs same = absurd (differs refl)
unlinked low next l t u f r i differs (later {u = v} g h before iv iu less d) =
    ((v, g), iv, (less, subst (λ (y : Event). Directly g y) (rising-one low next l u h f r iu i) d, before))

depends-below : (n low next : ℕ) (l : Live) (t u : ℕ) (f : Event) → Rising low l next → u < n → LiveAt l u f → Or (DependsOn l t u)
depends-below zero low next l t u f r h i = absurd (omega arith)
depends-below (suc n) low next l t u f r h i =
    elim (cases_eq u t) [
      | inl is ↦ inl (subst (λ v. DependsOn l t v) (sym is) same)
      | inr differs ↦ elim (search-list (Link l t u f) l
          (λ x j. link? l t u f x (λ less. depends-below n low next l t x.0 x.1 r (omega arith) j))) [
            | inl found ↦ inl (later found.0.1 f found.2.2 found.1 i found.2.0 found.2.1)
            | inr none ↦ inr (λ p. let linked = unlinked low next l t u f r i differs p in none linked.0 linked.1 linked.2)
          ]
    ]

-- a live event follows a ticket, or not
pub depends? : (low next : ℕ) (l : Live) (t u : ℕ) (f : Event) → Rising low l next → LiveAt l u f → Or (DependsOn l t u)
depends? low next l t u f r i = depends-below (suc u) low next l t u f r (omega arith) i

-- a ticket is live, or not
pub live? : (l : Live) (t : ℕ) → IsLive l t ⊎ NoneAt l t
live? l t =
    elim (search-list (λ (x : ℕ × Event). x.0 ≡ t) l (λ x i. cases_eq x.0 t)) [
      | inl u ↦ inl (u.0.1, subst (λ v. LiveAt l v u.0.1) u.2 u.1)
      | inr u ↦ inr (λ e i. u (t, e) i refl)
    ]

-- the first entry of which P holds, where the tickets rise
pub record FirstOf (P : ℕ × Event → Type 0) (l : Live) : Type 0 where
  pub entry : ℕ × Event
  pub inside : In entry l
  pub holds : P entry
  pub least : (x : ℕ × Event) → In x l → P x → entry.0 ≤ x.0

pub first-of : (P : ℕ × Event → Type 0) (low next : ℕ) (l : Live) → Rising low l next → ((x : ℕ × Event) → In x l → Or (P x)) →
    FirstOf P l ⊎ ((x : ℕ × Event) → In x l → P x → ⊥)
first-of P low next [] r decide = inr (λ x i p. i)
first-of P low next (y ∷ l) r decide =
    elim (decide y (inl refl)) [
      | inl p ↦ inl (record {
        entry = y;
        inside = inl refl;
        holds = p;
        least = λ x i q. elim i [
          | inl u ↦ let is : x.0 ≡ y.0 = ap (λ (z : ℕ × Event). z.0) u in omega arith
          | inr u ↦ let above : suc y.0 ≤ x.0 = (rising-in (suc y.0) next l x.0 x.1 r.1 u).0 in omega arith
        ];
      })
      | inr out ↦ elim (first-of P (suc y.0) next l r.1 (λ x i. decide x (inr i))) [
        | inl first ↦ inl (record {
          entry = first.entry;
          inside = inr first.inside;
          holds = first.holds;
          least = λ x i q. elim i [ inl u ↦ absurd (out (subst P u q)) | inr u ↦ first.least x u q ];
        })
        | inr none ↦ inr (λ x i p. elim i [ inl u ↦ out (subst P u p) | inr u ↦ none x u p ])
      ]
    ]

-- another live event depends on that of t, and the first is known, or none does
pub first-dependent? : (low next : ℕ) (l : Live) (t : ℕ) → Rising low l next → ((u : ℕ) × FirstDependent l t u) ⊎ NoDependent l t
first-dependent? low next l t r =
    elim (first-of (λ (x : ℕ × Event). (x.0 ≡ t → ⊥) × DependsOn l t x.0) low next l r
    (λ x i. elim (cases_eq x.0 t) [
      | inl is ↦ inr (λ h. h.0 is)
      | inr differs ↦ elim (depends? low next l t x.0 x.1 r i) [ inl p ↦ inl (differs, p) | inr p ↦ inr (λ h. p h.1) ]
    ])) [
      | inl first ↦ inl (
        first.entry.0,
        record {
          event = first.entry.1;
          live = first.inside;
          other = first.holds.0;
          depends = first.holds.1;
          least = λ v f i differs p. first.least (v, f) i (differs, p);
        },
      )
      | inr none ↦ inr (λ u f i p. elim (cases_eq u t) [ inl is ↦ is | inr differs ↦ absurd (none (u, f) i (differs, p)) ])
    ]

-- the last writer of a variable, or that there is none
pub last-writer? : (low next : ℕ) (l : Live) (x : ℕ) → Rising low l next → ((t : ℕ) × LastWriter l x t) ⊎ NoWriter l x
last-writer? low next [] x r = inr (λ u f i is. i)
last-writer? low next (y ∷ l) x r =
    elim (last-writer? (suc y.0) next l x r.1) [
      | inl found ↦ inl (
        found.0,
        record {
          event = found.1.event;
          live = inr found.1.live;
          writes = found.1.writes;
          last = λ u f i is. elim i [
            | inl a ↦ let one : u ≡ y.0 = ap (λ (z : ℕ × Event). z.0) a in
                let above : suc y.0 ≤ found.0 = (rising-in (suc y.0) next l found.0 found.1.event r.1 found.1.live).0 in omega arith
            | inr a ↦ found.1.last u f a is
          ];
        },
      )
      | inr none ↦ elim (is-some? y.1.written x) [
        | inl writes ↦ inl (
          y.0,
          record {
            event = y.1;
            live = inl refl;
            writes = writes;
            last = λ u f i is. elim i [
              | inl a ↦ let one : u ≡ y.0 = ap (λ (z : ℕ × Event). z.0) a in omega arith
              | inr a ↦ absurd (none u f a is)
            ];
          },
        )
        | inr out ↦ inr (λ u f i is. elim i [
          | inl a ↦ out (subst (λ (g : Event). g.written ≡ Some x) (ap (λ (z : ℕ × Event). z.1) a) is)
          | inr a ↦ none u f a is
        ])
      ]
    ]
