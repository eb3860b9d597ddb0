-- Each command has a reply.
use Rattle.std.proofs.Common.{◌≡◌, inl, inr, ℕ, suc, ◌+◌, ◌<◌, List, [], ◌∷◌, length, Option, Some, None, refl, sym, ap, subst, arith, slice_get}
use Rattle.std.proofs.lemmas.Bool.{cases_lt}
use Rattle.syntax.specs.Lists.{In}
use Rattle.value.specs.Word.{Word}
use Rattle.runs.specs.Steps.{State}
use Rattle.runs.specs.InOrder.{InOrder}
use Rattle.runs.specs.Dependence.{ended, stays, leaves}
use Rattle.runs.specs.Live.{Live, events, Rising, LiveAt, DependsOn, WithoutTickets, ConsequencesList}
use Rattle.runs.specs.Object.{Object, Reaches, most_live, last_ticket, with_event, with_live}
use Rattle.runs.specs.Does.{Does, TakesOut, CanStep}
use Rattle.runs.specs.Sound.{Sound}
use Rattle.runs.specs.ObjectLaws.{OfSound, StepsExactly, RollsWhereLive, RollsValueWhereWritten, SomeReply}
use Rattle.runs.specs.declared.event.Event.{Event}
use Rattle.runs.specs.declared.event.Choice.{Choice}
use Rattle.runs.specs.Commands.{Command, Reply}
use Rattle.runs.specs.declared.command.Refusal.TheVariants.{NotReady, HistoryFull, NoSuchEvent, NeededBy, NeverWritten, Spent}
use Rattle.runs.proofs.public.WellFormed.{WellFormed}
use Rattle.runs.proofs.public.Orders.{run-formed}
use Rattle.runs.proofs.public.Lists.{every-of}
use Rattle.runs.proofs.public.Tickets.{rising-in}
use Rattle.runs.proofs.public.Effects.{sound-formed}
use Rattle.runs.proofs.public.UndoLaws.{take-one}
use Rattle.runs.proofs.public.ReadyLists.{ready-list, chosen?}
use Rattle.runs.proofs.public.Decisions.{Or, depends?, live?, first-dependent?, last-writer?}

-- a reply to the command
abbrev Replied : Object → Command → Type 0
Replied o c = (reply : Reply) × (o' : Object) × Does o c reply o'

state-formed : (o : Object) (T : State) → Sound o → Reaches o T → WellFormed T.residual
state-formed o T s r = run-formed o.opening T (events o.live) (sound-formed o s) r

some-step : (o : Object) (c : Choice) → Sound o → Replied o (Command.Step c)
some-step o c s =
    let T : State = s.runs.0 in
    let r : Reaches o T = s.runs.1 in
    elim (chosen? T c (state-formed o T s r)) [
      | inr none ↦ (Reply.Refused NotReady, o, ((T, r, none), refl))
      | inl found ↦
          let can : CanStep o c = (T, r, (found.0, found.1.allowed, found.1.choice)) in
          elim (cases_lt (length o.live) most_live) [
            | inr full ↦ (Reply.Refused HistoryFull, o, ((can, full), refl))
            | inl room ↦ elim (cases_lt last_ticket o.next) [
              | inl spent ↦ (Reply.Refused Spent, o, ((can, room, spent), refl))
              | inr left ↦ (Reply.Stepped o.next found.0, with_event o found.0, (refl, room, left, (T, r, found.1), refl))
            ]
          ]
    ]

some-undo : (o : Object) (t : ℕ) → Sound o → Replied o (Command.Undo t)
some-undo o t s =
    elim (live? o.live t) [
      | inr none ↦ (Reply.Refused NoSuchEvent, o, (none, refl))
      | inl at ↦ elim (first-dependent? 1 o.next o.live t s.rising) [
        | inl first ↦ (Reply.Refused (NeededBy first.0), o, ((at, first.1), refl))
        | inr alone ↦ let rest = take-one t o.live in
            (Reply.Undone t at.0, with_live o rest.0, (refl, at.1, alone, (rest.0, rest.1, refl)))
      ]
    ]

-- the list without the entries of which D holds, and how many those are
record Left (D : ℕ → Type 0) (l : Live) : Type 0 where
  rest : Live
  without : WithoutTickets D l rest
  number : ℕ
  is : number + length rest ≡ length l

left : (D : ℕ → Type 0) (l : Live) → ((u : ℕ) (f : Event) → LiveAt l u f → Or (D u)) → Left D l
left D [] decide = record { rest = []; without = ended; number = 0; is = refl }
left D (x ∷ l) decide =
    let more = left D l (λ u f i. decide u f (inr i)) in
    let sum : more.number + length more.rest ≡ length l = more.is in
    elim (decide x.0 x.1 (inl refl)) [
      | inl d ↦ record { rest = more.rest; without = leaves d more.without; number = suc more.number; is = omega arith }
      | inr d ↦ record { rest = x ∷ more.rest; without = stays d more.without; number = more.number; is = omega arith }
    ]

taken : (o : Object) (t : ℕ) → Sound o → (n : ℕ) × (o' : Object) × TakesOut o t n o'
taken o t s =
    let rest = left (DependsOn o.live t) o.live (λ u f i. depends? 1 o.next o.live t u f s.rising i) in
    (rest.number, with_live o rest.rest, (rest.rest, rest.without, rest.is, refl))

some-roll : (o : Object) (t : ℕ) → Sound o → Replied o (Command.Roll t)
some-roll o t s =
    elim (live? o.live t) [
      | inr none ↦ (Reply.Refused NoSuchEvent, o, (none, refl))
      | inl at ↦ let rest = taken o t s in (Reply.Rolled rest.0, rest.1, (at, rest.2))
    ]

some-roll-value : (o : Object) (x : ℕ) → Sound o → Replied o (Command.RollValue x)
some-roll-value o x s =
    elim (last-writer? 1 o.next o.live x s.rising) [
      | inr none ↦ (Reply.Refused NeverWritten, o, (none, refl))
      | inl last ↦ let rest = taken o last.0 s in (Reply.Rolled rest.0, rest.1, (last.0, last.1, rest.2))
    ]

some-blame : (o : Object) (x : ℕ) → Sound o → Replied o (Command.Blame x)
some-blame o x s =
    elim (last-writer? 1 o.next o.live x s.rising) [
      | inr none ↦ (Reply.Refused NeverWritten, o, (none, refl))
      | inl last ↦ (Reply.Blamed last.0, o, (last.1, refl))
    ]

some-ready : (o : Object) → Sound o → Replied o Command.Ready
some-ready o s =
    let ready = ready-list s.runs.0 (state-formed o s.runs.0 s s.runs.1) in
    (Reply.Ready ready.0, o, ((s.runs.0, s.runs.1, ready.1), refl))

-- the tickets of which D holds, ascending
record TicketsOf (D : ℕ → Type 0) (l : Live) : Type 0 where
  list : List ℕ
  of : (u : ℕ) → In u list → (f : Event) × LiveAt l u f × D u
  to : (u : ℕ) (f : Event) → LiveAt l u f → D u → In u list
  ascending : InOrder ◌<◌ list

tickets-of : (D : ℕ → Type 0) (low next : ℕ) (l : Live) → Rising low l next → ((u : ℕ) (f : Event) → LiveAt l u f → Or (D u)) → TicketsOf D l
tickets-of D low next [] r decide = record { list = []; of = λ u i. absurd i; to = λ u f i d. i; ascending = tt }
tickets-of D low next (x ∷ l) r decide =
    let more = tickets-of D (suc x.0) next l r.1 (λ u f i. decide u f (inr i)) in
    elim (decide x.0 x.1 (inl refl)) [
      | inl d ↦ record {
        list = x.0 ∷ more.list;
        of = λ u i. elim i [
          | inl a ↦ (x.1, inl (ap (λ (v : ℕ). (v, x.1)) a), subst D (sym a) d)
          | inr a ↦ let at = more.of u a in (at.0, inr at.1, at.2)
        ];
        to = λ u f i e. elim i [
          | inl a ↦ inl (ap (λ (z : ℕ × Event). z.0) a)
          | inr a ↦ inr (more.to u f a e)
        ];
        ascending = (every-of (λ u. x.0 < u) more.list (λ u i. let at = more.of u i in (rising-in (suc x.0) next l u at.0 r.1 at.1).0), more.ascending);
      }
      | inr out ↦ record {
        list = more.list;
        of = λ u i. let at = more.of u i in (at.0, inr at.1, at.2);
        to = λ u f i e. elim i [
          | inl a ↦ absurd (out (subst D (ap (λ (z : ℕ × Event). z.0) a) e))
          | inr a ↦ more.to u f a e
        ];
        ascending = more.ascending;
      }
    ]

consequences-list : (o : Object) (t : ℕ) → Sound o → (tickets : List ℕ) × ConsequencesList o.live t tickets
consequences-list o t s =
    let all = tickets-of (DependsOn o.live t) 1 o.next o.live s.rising (λ u f i. depends? 1 o.next o.live t u f s.rising i) in
    (all.list, record { exactly = λ u. (all.of u, λ h. all.to u h.0 h.1 h.2); ascending = all.ascending })

some-consequences : (o : Object) (t : ℕ) → Sound o → Replied o (Command.Consequences t)
some-consequences o t s =
    elim (live? o.live t) [
      | inr none ↦ (Reply.Refused NoSuchEvent, o, (none, refl))
      | inl at ↦ let list = consequences-list o t s in (Reply.Consequences list.0, o, (at, list.1, refl))
    ]

some-value : (o : Object) (x : ℕ) → Sound o → Replied o (Command.Value x)
some-value o x s = pick (slice_get s.runs.0.store x) refl
  where
    pick : (v : Option Word) → slice_get s.runs.0.store x ≡ v → Replied o (Command.Value x)
    pick None is = (Reply.Refused NeverWritten, o, ((s.runs.0, s.runs.1, is), refl))
    pick (Some v) is = (Reply.Value v, o, ((s.runs.0, s.runs.1, is), refl))

pub some-reply : SomeReply
some-reply o (Command.Step c) s = some-step o c s
some-reply o (Command.Undo t) s = some-undo o t s
some-reply o (Command.Roll t) s = some-roll o t s
some-reply o (Command.RollValue x) s = some-roll-value o x s
some-reply o (Command.Blame x) s = some-blame o x s
some-reply o Command.Ready s = some-ready o s
some-reply o (Command.Consequences t) s = some-consequences o t s
some-reply o Command.Live s = (Reply.Live o.live, o, (refl, refl))
some-reply o (Command.Value x) s = some-value o x s

pub steps-exactly : OfSound StepsExactly
steps-exactly o s c = (
  (λ h. let step = h.2 in ((step.3.0, step.3.1, (h.0, step.3.2.allowed, step.3.2.choice)), step.1, step.2)),
  (λ h. elim (chosen? h.0.0 c (state-formed o h.0.0 s h.0.1)) [
    | inl found ↦ (found.0, with_event o found.0, (refl, h.1, h.2, (h.0.0, h.0.1, found.1), refl))
    | inr none ↦ absurd (none h.0.2)
  ]),
)

pub rolls-where-live : OfSound RollsWhereLive
rolls-where-live o s t = (
  (λ h. h.2.0),
  (λ at. let rest = taken o t s in (rest.0, rest.1, (at, rest.2))),
)

pub rolls-value-where-written : OfSound RollsValueWhereWritten
rolls-value-where-written o s x = (
  (λ h. let last = h.2.1 in (h.2.0, last.event, last.live, last.writes)),
  (λ w. elim (last-writer? 1 o.next o.live x s.rising) [
    | inr none ↦ absurd (none w.0 w.1 w.2 w.3)
    | inl last ↦ let rest = taken o last.0 s in (rest.0, rest.1, (last.0, last.1, rest.2))
  ]),
)
