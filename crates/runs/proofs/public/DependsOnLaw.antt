-- Dependence by tickets is dependence in the list of the live events.
use Rattle.std.proofs.Common.{◌≡◌, inl, inr, ℕ, suc, ◌<◌, ◌≤◌, [], ◌∷◌, sym, ◌∙◌, ap, subst, arith}
use Rattle.runs.specs.Dependence.{Directly, Earlier, Causes, itself, onwards}
use Rattle.runs.specs.Live.{Live, events, Rising, LiveAt, DependsOn, same, later}
use Rattle.runs.specs.declared.event.Event.{Event}
use Rattle.runs.proofs.public.Elements.{Distinct}
use Rattle.runs.proofs.public.Tickets.{rising-in, rising-one, event-in, in-event}

-- of two live events the one of lesser ticket stands earlier
pub earlier-by-tickets : (low next : ℕ) (l : Live) (t u : ℕ) (e f : Event) → Rising low l next → LiveAt l t e → LiveAt l u f → t < u → Earlier (events l) e f
earlier-by-tickets low next [] t u e f r i j less = absurd i
earlier-by-tickets low next (x ∷ l) t u e f r i j less =
    elim i [
      | inl a ↦ elim j [
        | inl b ↦
            let one : t ≡ x.0 = ap (λ (y : ℕ × Event). y.0) a in
            let two : u ≡ x.0 = ap (λ (y : ℕ × Event). y.0) b in
            absurd (omega arith)
        | inr b ↦ inl (sym (ap (λ (y : ℕ × Event). y.1) a), event-in l u f b)
      ]
      | inr a ↦ elim j [
        | inl b ↦
            let two : u ≡ x.0 = ap (λ (y : ℕ × Event). y.0) b in
            let above : suc x.0 ≤ t = (rising-in (suc x.0) next l t e r.1 a).0 in
            absurd (omega arith)
        | inr b ↦ inr (earlier-by-tickets (suc x.0) next l t u e f r.1 a b less)
      ]
    ]

-- where no event is live twice, an event is live under one ticket
pub one-ticket : (l : Live) (t u : ℕ) (e : Event) → Distinct (events l) → LiveAt l t e → LiveAt l u e → t ≡ u
one-ticket [] t u e d i j = absurd i
one-ticket (x ∷ l) t u e d i j =
    elim i [
      | inl a ↦ elim j [
        | inl b ↦ ap (λ (y : ℕ × Event). y.0) (a ∙ sym b)
        | inr b ↦ absurd (d e (inl (sym (ap (λ (y : ℕ × Event). y.1) a), event-in l u e b)))
      ]
      | inr a ↦ elim j [
        | inl b ↦ absurd (d e (inl (sym (ap (λ (y : ℕ × Event). y.1) b), event-in l t e a)))
        | inr b ↦ one-ticket l t u e (λ f k. d f (inr k)) a b
      ]
    ]

-- two live events of which one stands earlier, and their tickets
pub record InTickets (l : Live) (e f : Event) : Type 0 where
  pub first : ℕ
  pub second : ℕ
  pub of_first : LiveAt l first e
  pub of_second : LiveAt l second f
  pub less : first < second

pub tickets-of-earlier : (low next : ℕ) (l : Live) (e f : Event) → Rising low l next → Earlier (events l) e f → InTickets l e f
tickets-of-earlier low next [] e f r i = absurd i
tickets-of-earlier low next (x ∷ l) e f r i =
    elim i [
      | inl a ↦
          let at = in-event l f a.1 in
          let above : suc x.0 ≤ at.0 = (rising-in (suc x.0) next l at.0 f r.1 at.1).0 in
          record { first = x.0; second = at.0; of_first = inl (ap (λ (g : Event). (x.0, g)) (sym a.0)); of_second = inr at.1; less = omega arith }
      | inr a ↦
          let rest = tickets-of-earlier (suc x.0) next l e f r.1 a in
          record { first = rest.first; second = rest.second; of_first = inr rest.of_first; of_second = inr rest.of_second; less = rest.less }
    ]

pub depends-causes : (low next : ℕ) (l : Live) (t u : ℕ) (e f : Event) → Rising low l next → LiveAt l t e → DependsOn l t u → LiveAt l u f →
    Causes (events l) e f
depends-causes low next l t u e f r i same j =
    subst (λ (g : Event). Causes (events l) e g) (rising-one low next l t e f r i j) itself
depends-causes low next l t u e f r i (later {u = v} g h before iv iu less d) j =
    onwards (depends-causes low next l t v e g r i before iv) (earlier-by-tickets low next l v u g f r iv j less)
    (subst (λ (x : Event). Directly g x) (rising-one low next l u h f r iu j) d)

pub causes-depends : (low next : ℕ) (l : Live) (t : ℕ) (e f : Event) → Rising low l next → Distinct (events l) → LiveAt l t e →
    Causes (events l) e f → (u : ℕ) × LiveAt l u f × DependsOn l t u
causes-depends low next l t e f r d i itself = (t, i, same)
causes-depends low next l t e f r d i (onwards {f = g} c early direct) =
    let at = causes-depends low next l t e g r d i c in
    let two = tickets-of-earlier low next l g f r early in
    let one = one-ticket l at.0 two.first g d at.1 two.of_first in (
      two.second,
      two.of_second,
      later g f at.2 at.1 two.of_second (subst (λ v. v < two.second) (sym one) two.less) direct,
    )

pub causes-depends-at : (low next : ℕ) (l : Live) (t u : ℕ) (e f : Event) → Rising low l next → Distinct (events l) → LiveAt l t e → LiveAt l u f →
    Causes (events l) e f → DependsOn l t u
causes-depends-at low next l t u e f r d i j c =
    let at = causes-depends low next l t e f r d i c in
    subst (λ v. DependsOn l t v) (one-ticket l at.0 u f d at.1 j) at.2

-- what follows a ticket has no lesser ticket
pub depends-up : (l : Live) (t u : ℕ) → DependsOn l t u → t ≤ u
depends-up l t u same = omega arith
depends-up l t u (later {u = v} g h before iv iu less d) = let rest = depends-up l t v before in omega arith
