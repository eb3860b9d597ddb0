-- The laws of the object, in the words of the contracts.
use Rattle.std.proofs.Common.{◌≡◌, ℕ, suc, ◌+◌, ◌<◌, ◌≤◌, List, [], ◌∷◌, ◌++◌, length, refl, sym, ◌∙◌, ap, subst, arith}
use Rattle.runs.specs.Steps.{State, Allowed, opening}
use Rattle.runs.specs.Dependence.{Causes}
use Rattle.system.specs.declared.system.System.{System}
use Rattle.runs.proofs.public.SharingWidths.{KeepsSharing}
use Rattle.sharing_rule.specs.Rule.{SharesWell, is_sync, is_shared}
use Rattle.runs.specs.Live.{Live, events, LiveAt, DependsOn}
use Rattle.runs.specs.Object.{Object, Reaches, most_live, last_ticket, with_event, with_live, new_object}
use Rattle.runs.specs.Does.{Does}
use Rattle.runs.specs.Answered.{Answered}
use Rattle.runs.specs.ObjectLaws.{OfSound, BeginsSound, StaysSound, StaysSoundOverLists, AnsweredJoins, StateInEveryOrder, StepMakes, NotReadyExactly, LimitsExactly, StepThenUndo, UndoesExactly, UndoTakesOne, NeededExactly, RollsExactly, TicketsGrow, LeastRollback, BackThenForth, RolledValue, DependsOnIsCauses, StateAfterAnyCommands, RollsValueExactly, ConsequencesExactly}
use Rattle.runs.specs.declared.event.Event.{Event}
use Rattle.runs.specs.Commands.{Command, Reply}
use Rattle.runs.proofs.Rule.{shares_well-keeps}
use Rattle.runs.proofs.public.Tickets.{rising-one}
use Rattle.runs.proofs.public.Effects.{stays-sound, does-sound, reaches-more}
use Rattle.runs.proofs.AfterCommands.{answered-after, old-or-new, next-grows, least-rollback}
use Rattle.runs.proofs.public.DependsOnLaw.{depends-causes, causes-depends-at, one-ticket}
use Rattle.runs.proofs.public.UndoLaws.{undoes-newest, take-one, sound-distinct, alone-by-causes, causes-by-alone, without-kept, without-splits, without-live}
use Rattle.runs.proofs.public.StateLaws.{one-state, in-every-order, reaches-one}
use Rattle.runs.proofs.BackThenForth.{back-then-forth}
use Rattle.runs.proofs.RolledValue.{writer-gone}

pub begins-sound : BeginsSound
begins-sound system = record {
  opens = (system, refl);
  runs = (opening system, refl);
  rising = omega arith;
  room = omega arith;
  unspent = omega arith;
}

pub stays : StaysSound
stays o o' c reply s h = stays-sound o c reply o' s h

pub stays-over-lists : StaysSoundOverLists
stays-over-lists o o' cs replies s h = (answered-after o cs replies o' s h).0

pub answered-joins : AnsweredJoins
answered-joins o m o' [] ds rs qs h k =
    subst (λ (r : List Reply). Answered o ds (r ++ qs) o') (sym h.0) (subst (λ (x : Object). Answered x ds qs o') h.1 k)
answered-joins o m o' (c ∷ cs) ds rs qs h k =
    (h.0, h.1 ++ qs, h.2, ap (λ (r : List Reply). r ++ qs) h.3, h.4, answered-joins h.2 m o' cs ds h.1 qs h.5 k)

pub state-in-every-order : StateInEveryOrder
state-in-every-order o s = (one-state o s, in-every-order o s)

pub step-makes : OfSound StepMakes
step-makes o s o' c t e h = (
  h.0,
  h.3.2.choice,
  ap (λ (p : Object). p.live) h.4 ∙ ap (λ (u : ℕ). o.live ++ (u, e) ∷ []) (sym h.0),
  (
    h.3.0,
    h.3.2.allowed.0,
    h.3.1,
    h.3.2.allowed.1,
    subst (λ (p : Object). Reaches p h.3.2.allowed.0) (sym h.4) (reaches-more o e h.3.0 h.3.2.allowed.0 h.3.1 h.3.2.allowed.1),
  ),
)

pub not-ready-exactly : OfSound NotReadyExactly
not-ready-exactly o s c = (
  (λ h T e r a same. h.0.2 (e, subst (λ (U : State). Allowed U e) (reaches-one o T h.0.0 s r h.0.1) a, same)),
  (λ none. ((s.runs.0, s.runs.1, λ p. none s.runs.0 p.0 s.runs.1 p.1 p.2), refl)),
)

pub limits-exactly : OfSound LimitsExactly
limits-exactly o s c can =
    let full = s.room in
    let unspent = s.unspent in (
      ((λ h. let least : most_live ≤ length o.live = h.0.1 in omega arith), (λ h. ((can, omega arith), refl))),
      ((λ h. let over : last_ticket < o.next = h.0.2 in (h.0.1, omega arith)), (λ h. let is : o.next ≡ suc last_ticket = h.1 in ((can, h.0, omega arith), refl))),
    )

pub step-then-undo : OfSound StepThenUndo
step-then-undo o s m c t e h =
    let newest = undoes-newest o e s in (
      with_live m o.live,
      subst (λ (p : Object). Does p (Command.Undo t) (Reply.Undone t e) (with_live p o.live)) (sym h.4)
          (subst (λ (u : ℕ). Does (with_event o e) (Command.Undo u) (Reply.Undone u e) (with_live (with_event o e) o.live)) (sym h.0)
          (refl, newest.live, newest.alone, (o.live, newest.rest, refl))),
      refl,
      (λ T. let is : m.opening ≡ o.opening = ap (λ (p : Object). p.opening) h.4 in
          ((λ r. subst (λ (S : State). Rattle.runs.specs.Steps.Run S (events o.live) T) is r), (λ r. subst (λ (S : State). Rattle.runs.specs.Steps.Run S (events o.live) T) (sym is) r))),
    )

pub undoes-exactly : OfSound UndoesExactly
undoes-exactly o s t e i = (
  (λ h. causes-by-alone o t e s i h.1.2),
  (λ alone. let rest = take-one t o.live in
      (with_live o rest.0, (refl, i, alone-by-causes o t e s i alone, (rest.0, rest.1, refl)))),
)

pub undo-takes-one : OfSound UndoTakesOne
undo-takes-one o s o' t u e h =
    let parts = without-splits t 1 o.next e o.live h.3.0 s.rising h.1 h.3.1 in
    (parts.before, parts.after, parts.is, ap (λ (p : Object). p.live) h.3.2 ∙ parts.left)

pub needed-exactly : OfSound NeededExactly
needed-exactly o s t u e i = (
  (λ h. let first = h.0.1 in record {
    event = first.event;
    live = first.live;
    other = λ is. first.other (one-ticket o.live u t e (sound-distinct o s) (subst (λ (f : Event). LiveAt o.live u f) is first.live) i);
    depends = depends-causes 1 o.next o.live t u e first.event s.rising i first.depends first.live;
    least = λ v g j differs c. first.least v g j
        (λ is. differs (rising-one 1 o.next o.live t g e s.rising (subst (λ w. LiveAt o.live w g) is j) i))
        (causes-depends-at 1 o.next o.live t v e g s.rising (sound-distinct o s) i j c);
  }),
  (λ d. (
    (
      (e, i),
      record {
        event = d.event;
        live = d.live;
        other = λ is. d.other (rising-one 1 o.next o.live t d.event e s.rising (subst (λ w. LiveAt o.live w d.event) is d.live) i);
        depends = causes-depends-at 1 o.next o.live t u e d.event s.rising (sound-distinct o s) i d.live d.depends;
        least = λ v g j differs f. d.least v g j
            (λ is. differs (one-ticket o.live v t e (sound-distinct o s) (subst (λ (x : Event). LiveAt o.live v x) is j) i))
            (depends-causes 1 o.next o.live t v e g s.rising i f j);
      },
    ),
    refl,
  )),
)

pub rolls-exactly : OfSound RollsExactly
rolls-exactly o s o' t n h =
    let e : Event = h.0.0 in
    let k : Live = h.1.0 in
    let is : o'.live ≡ k = ap (λ (p : Object). p.live) h.1.3 in
    let live = without-live (DependsOn o.live t) o.live k h.1.1 in
    let after = does-sound o (Command.Roll t) (Reply.Rolled n) o' s h in (
      e,
      h.0.1,
      subst (λ (l : Live). Rattle.runs.specs.Dependence.Without (Causes (events o.live) e) (events o.live) (events l)) (sym is)
          (without-kept o t e s h.0.1 o.live k (λ u f i. i) h.1.1),
      (λ u f. (
        (λ i. let at = live.0 u f (subst (λ (l : Live). LiveAt l u f) is i) in
            (at.0, λ c. at.1 (causes-depends-at 1 o.next o.live t u e f s.rising (sound-distinct o s) h.0.1 at.0 c))),
        (λ p. subst (λ (l : Live). LiveAt l u f) (sym is)
            (live.1 u f p.0 (λ follows. p.1 (depends-causes 1 o.next o.live t u e f s.rising h.0.1 follows p.0)))),
      )),
      ap (λ (l : Live). n + length l) is ∙ h.1.2,
      after.runs,
    )

pub tickets-grow : TicketsGrow
tickets-grow o o' cs replies s h =
    let after = (answered-after o cs replies o' s h).1 in
    record { next = next-grows o o' after; old_or_new = λ t e i. old-or-new o o' t e after i }

pub least-rollback-law : LeastRollback
least-rollback-law o o' cs replies t u e f s h i out j c kept =
    let after = answered-after o cs replies o' s h in
    least-rollback o o' t u e f s after.0 after.1 i out j
    (causes-depends-at 1 o.next o.live t u e f s.rising (sound-distinct o s) i j c) kept

-- the rule on sharing holds of an opening state
opening-keeps : (system : System) (S : State) → SharesWell system → S ≡ opening system → KeepsSharing (is_sync system) (is_shared system) S.residual
opening-keeps system S rule is =
    subst (λ (T : State). KeepsSharing (is_sync system) (is_shared system) T.residual) (sym is) (shares_well-keeps system rule)

pub back-then-forth-law : BackThenForth
back-then-forth-law system o o' cs replies rule is s h =
    let after = answered-after o cs replies o' s h in
    back-then-forth (is_sync system) (is_shared system) o o' (opening-keeps system o.opening rule is) s after.0 after.1

pub rolled-value : OfSound RolledValue
rolled-value o s o' x n h =
    let gone = writer-gone o x h.0 h.2.0 s h.1 h.2.1 in (
      gone.before,
      gone.ticket,
      gone.event,
      gone.after,
      gone.is,
      gone.writes,
      gone.none,
      λ S T r q. gone.value S T r (subst (λ (p : Object). Reaches p T) h.2.3 q),
    )

pub depends-on-is-causes : OfSound DependsOnIsCauses
depends-on-is-causes o s t u e f i j = (
  (λ follows. depends-causes 1 o.next o.live t u e f s.rising i follows j),
  (λ c. causes-depends-at 1 o.next o.live t u e f s.rising (sound-distinct o s) i j c),
)

pub state-after-any-commands : StateAfterAnyCommands
state-after-any-commands system o cs replies h =
    state-in-every-order o (stays-over-lists (new_object (opening system)) o cs replies (begins-sound system) h)

pub rolls-value-exactly : (o : Object) → RollsValueExactly o
rolls-value-exactly o o' x n = (
  (λ h. (h.0, (h.1, refl), ((h.1.event, h.1.live), h.2))),
  (λ h. (h.0, h.1.0, h.2.1)),
)

pub consequences-exactly : OfSound ConsequencesExactly
consequences-exactly o s o' t ts h =
    let e : Event = h.0.0 in (
      e,
      h.0.1,
      h.1.ascending,
      (λ u. (
        (λ i. let at = (h.1.exactly u).0 i in
            (at.0, at.1, depends-causes 1 o.next o.live t u e at.0 s.rising h.0.1 at.2 at.1)),
        (λ c. (h.1.exactly u).1 (c.0, c.1, causes-depends-at 1 o.next o.live t u e c.0 s.rising (sound-distinct o s) h.0.1 c.1 c.2)),
      )),
    )
