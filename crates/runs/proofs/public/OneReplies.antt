-- A command has at most one reply, and that determines the object after it.
use Rattle.std.proofs.Common.{◌≡◌, ℕ, ◌+◌, ◌<◌, ◌≤◌, List, [], ◌∷◌, length, Some, refl, sym, ◌∙◌, ap, subst, arith, slice_get}
use Rattle.value.specs.Word.{Word}
use Rattle.runs.specs.Steps.{State}
use Rattle.runs.specs.Ready.{ChoiceAllowed, Chosen, ReadyList, Sooner}
use Rattle.runs.specs.Dependence.{ended, stays, leaves}
use Rattle.runs.specs.Live.{Live, events, LiveAt, DependsOn, WithoutTickets, NoDependent, LastWriter, ConsequencesList}
use Rattle.runs.specs.Object.{Object, Reaches, most_live, last_ticket, with_event, with_live}
use Rattle.runs.specs.Does.{TakesOut, Steps, Undoes, Rolls, RollsValue, Blames, ListsReady, ListsConsequences, ListsLive, TellsValue, RefusesStep, RefusesUndo, RefusesTicket, RefusesVariable, RefusesValue}
use Rattle.runs.specs.Sound.{Sound}
use Rattle.runs.specs.ObjectLaws.{OneReply}
use Rattle.runs.specs.declared.event.Event.{Event}
use Rattle.runs.specs.declared.event.Choice.{Choice}
use Rattle.runs.specs.Commands.{Command, Reply}
use Rattle.runs.specs.declared.command.Refusal.{Refusal}
use Rattle.runs.specs.declared.command.Refusal.TheVariants.{NotReady, HistoryFull, NoSuchEvent, NeededBy, NeverWritten, Spent}
use Rattle.runs.proofs.public.WellFormed.{WellFormed}
use Rattle.runs.proofs.public.Orders.{run-formed}
use Rattle.runs.proofs.public.Options.{some-injective, none-some}
use Rattle.runs.proofs.public.Tickets.{rising-one}
use Rattle.runs.proofs.public.Effects.{sound-formed}
use Rattle.runs.proofs.public.StateLaws.{reaches-one}
use Rattle.runs.proofs.public.ReadyLists.{chosen-one, sooner-asymmetric}
use Rattle.runs.proofs.public.SortedLists.{same-elements}

-- two replies and what is left after them are the same
abbrev Same : Reply → Reply → Object → Object → Type 0
Same reply other p q = (reply ≡ other) × (p ≡ q)

-- what is left is determined
without-end : (D : ℕ → Type 0) (k : Live) → WithoutTickets D [] k → k ≡ []
without-end D k ended = refl

without-next : (D : ℕ → Type 0) (x : ℕ × Event) (l k m : Live) → ((a b : Live) → WithoutTickets D l a → WithoutTickets D l b → a ≡ b) →
    WithoutTickets D (x ∷ l) k → WithoutTickets D (x ∷ l) m → k ≡ m
without-next D x l k m more (stays {k = a} out v) (stays {k = b} away w) = ap (λ (z : Live). x ∷ z) (more a b v w)
without-next D x l k m more (stays out v) (leaves gone w) = absurd (out gone)
without-next D x l k m more (leaves gone v) (stays out w) = absurd (out gone)
without-next D x l k m more (leaves gone v) (leaves away w) = more k m v w

without-determined : (D : ℕ → Type 0) (l k m : Live) → WithoutTickets D l k → WithoutTickets D l m → k ≡ m
without-determined D [] k m v w = without-end D k v ∙ sym (without-end D m w)
without-determined D (x ∷ l) k m v w = without-next D x l k m (λ a b c d. without-determined D l a b c d) v w

state-formed : (o : Object) (T : State) → Sound o → Reaches o T → WellFormed T.residual
state-formed o T s r = run-formed o.opening T (events o.live) (sound-formed o s) r

-- a step
step-refusals : (o : Object) (c : Choice) (why other : Refusal) → Sound o → RefusesStep o c why → RefusesStep o c other → why ≡ other
step-refusals o c NotReady NotReady s h g = refl
step-refusals o c NotReady HistoryFull s h g = absurd (h.2 (subst (λ (T : State). ChoiceAllowed T c) (reaches-one o g.0.0 h.0 s g.0.1 h.1) g.0.2))
step-refusals o c NotReady Spent s h g = absurd (h.2 (subst (λ (T : State). ChoiceAllowed T c) (reaches-one o g.0.0 h.0 s g.0.1 h.1) g.0.2))
step-refusals o c HistoryFull NotReady s h g = absurd (g.2 (subst (λ (T : State). ChoiceAllowed T c) (reaches-one o h.0.0 g.0 s h.0.1 g.1) h.0.2))
step-refusals o c HistoryFull HistoryFull s h g = refl
step-refusals o c HistoryFull Spent s h g = let full : most_live ≤ length o.live = h.1 in let room : length o.live < most_live = g.1 in absurd (omega arith)
step-refusals o c Spent NotReady s h g = absurd (g.2 (subst (λ (T : State). ChoiceAllowed T c) (reaches-one o h.0.0 g.0 s h.0.1 g.1) h.0.2))
step-refusals o c Spent HistoryFull s h g = let full : most_live ≤ length o.live = g.1 in let room : length o.live < most_live = h.1 in absurd (omega arith)
step-refusals o c Spent Spent s h g = refl
step-refusals o c NotReady _ s h g = absurd g
step-refusals o c HistoryFull _ s h g = absurd g
step-refusals o c Spent _ s h g = absurd g
step-refusals o c _ other s h g = absurd h

step-or-refused : (o p : Object) (c : Choice) (t : ℕ) (e : Event) (why : Refusal) → Sound o → Steps o c (Reply.Stepped t e) p → RefusesStep o c why → ⊥
step-or-refused o p c t e NotReady s h g =
    g.2 (subst (λ (T : State). ChoiceAllowed T c) (reaches-one o h.3.0 g.0 s h.3.1 g.1) (e, h.3.2.allowed, h.3.2.choice))
step-or-refused o p c t e HistoryFull s h g = let full : most_live ≤ length o.live = g.1 in let room : length o.live < most_live = h.1 in omega arith
step-or-refused o p c t e Spent s h g = let over : last_ticket < o.next = g.2 in let within : o.next ≤ last_ticket = h.2 in omega arith
step-or-refused o p c t e _ s h g = absurd g

one-step : (o p q : Object) (c : Choice) (reply other : Reply) → Sound o → Steps o c reply p → Steps o c other q → Same reply other p q
one-step o p q c (Reply.Stepped t e) (Reply.Stepped u f) s h g =
    let equal : e ≡ f = chosen-one h.3.0 c e f (state-formed o h.3.0 s h.3.1) h.3.2
    (subst (λ (T : State). Chosen T c f) (reaches-one o g.3.0 h.3.0 s g.3.1 h.3.1) g.3.2) in
    let tickets : t ≡ u = h.0 ∙ sym g.0 in
    ((λ i. Reply.Stepped (tickets i) (equal i)), h.4 ∙ ap (with_event o) equal ∙ sym g.4)
one-step o p q c (Reply.Stepped t e) (Reply.Refused why) s h g = absurd (step-or-refused o p c t e why s h g.0)
one-step o p q c (Reply.Refused why) (Reply.Stepped u f) s h g = absurd (step-or-refused o q c u f why s g h.0)
one-step o p q c (Reply.Refused why) (Reply.Refused because) s h g =
    (ap Reply.Refused (step-refusals o c why because s h.0 g.0), h.1 ∙ sym g.1)
one-step o p q c (Reply.Stepped t e) _ s h g = absurd g
one-step o p q c (Reply.Refused why) _ s h g = absurd g
one-step o p q c _ other s h g = absurd h

-- an undo
undo-refusals : (o : Object) (t : ℕ) (why other : Refusal) → RefusesUndo o t why → RefusesUndo o t other → why ≡ other
undo-refusals o t NoSuchEvent NoSuchEvent h g = refl
undo-refusals o t NoSuchEvent (NeededBy u) h g = absurd (h g.0.0 g.0.1)
undo-refusals o t (NeededBy u) NoSuchEvent h g = absurd (g h.0.0 h.0.1)
undo-refusals o t (NeededBy u) (NeededBy v) h g =
    let a = h.1 in
    let b = g.1 in
    let up : u ≤ v = a.least v b.event b.live b.other b.depends in
    let down : v ≤ u = b.least u a.event a.live a.other a.depends in
    let equal : u ≡ v = omega arith in
    ap NeededBy equal
undo-refusals o t NoSuchEvent _ h g = absurd g
undo-refusals o t (NeededBy u) _ h g = absurd g
undo-refusals o t _ other h g = absurd h

undo-or-refused : (o : Object) (t : ℕ) (e : Event) (why : Refusal) → LiveAt o.live t e → NoDependent o.live t → RefusesUndo o t why → ⊥
undo-or-refused o t e NoSuchEvent i alone g = g e i
undo-or-refused o t e (NeededBy u) i alone g = g.1.other (alone u g.1.event g.1.live g.1.depends)
undo-or-refused o t e _ i alone g = absurd g

one-undo : (o p q : Object) (t : ℕ) (reply other : Reply) → Sound o → Undoes o t reply p → Undoes o t other q → Same reply other p q
one-undo o p q t (Reply.Undone u e) (Reply.Undone v f) s h g =
    let equal : e ≡ f = rising-one 1 o.next o.live t e f s.rising h.1 g.1 in
    let tickets : u ≡ v = h.0 ∙ sym g.0 in (
      (λ i. Reply.Undone (tickets i) (equal i)),
      h.3.2 ∙ ap (with_live o) (without-determined (λ w. w ≡ t) o.live h.3.0 g.3.0 h.3.1 g.3.1) ∙ sym g.3.2,
    )
one-undo o p q t (Reply.Undone u e) (Reply.Refused why) s h g = absurd (undo-or-refused o t e why h.1 h.2 g.0)
one-undo o p q t (Reply.Refused why) (Reply.Undone v f) s h g = absurd (undo-or-refused o t f why g.1 g.2 h.0)
one-undo o p q t (Reply.Refused why) (Reply.Refused because) s h g = (ap Reply.Refused (undo-refusals o t why because h.0 g.0), h.1 ∙ sym g.1)
one-undo o p q t (Reply.Undone u e) _ s h g = absurd g
one-undo o p q t (Reply.Refused why) _ s h g = absurd g
one-undo o p q t _ other s h g = absurd h

-- a rollback
one-taken : (o p q : Object) (t n m : ℕ) → TakesOut o t n p → TakesOut o t m q → Same (Reply.Rolled n) (Reply.Rolled m) p q
one-taken o p q t n m h g =
    let rest : h.0 ≡ g.0 = without-determined (DependsOn o.live t) o.live h.0 g.0 h.1 g.1 in
    let sizes : length h.0 ≡ length g.0 = ap (λ (l : Live). length l) rest in
    let first : n + length h.0 ≡ length o.live = h.2 in
    let second : m + length g.0 ≡ length o.live = g.2 in
    let equal : n ≡ m = omega arith in
    (ap Reply.Rolled equal, h.3 ∙ ap (with_live o) rest ∙ sym g.3)

ticket-refusals : (o : Object) (t : ℕ) (why other : Refusal) → RefusesTicket o t why → RefusesTicket o t other → why ≡ other
ticket-refusals o t NoSuchEvent NoSuchEvent h g = refl
ticket-refusals o t NoSuchEvent _ h g = absurd g
ticket-refusals o t _ other h g = absurd h

live-or-refused : (o : Object) (t : ℕ) (e : Event) (why : Refusal) → LiveAt o.live t e → RefusesTicket o t why → ⊥
live-or-refused o t e NoSuchEvent i g = g e i
live-or-refused o t e _ i g = absurd g

one-roll : (o p q : Object) (t : ℕ) (reply other : Reply) → Rolls o t reply p → Rolls o t other q → Same reply other p q
one-roll o p q t (Reply.Rolled n) (Reply.Rolled m) h g = one-taken o p q t n m h.1 g.1
one-roll o p q t (Reply.Rolled n) (Reply.Refused why) h g = absurd (live-or-refused o t h.0.0 why h.0.1 g.0)
one-roll o p q t (Reply.Refused why) (Reply.Rolled m) h g = absurd (live-or-refused o t g.0.0 why g.0.1 h.0)
one-roll o p q t (Reply.Refused why) (Reply.Refused because) h g = (ap Reply.Refused (ticket-refusals o t why because h.0 g.0), h.1 ∙ sym g.1)
one-roll o p q t (Reply.Rolled n) _ h g = absurd g
one-roll o p q t (Reply.Refused why) _ h g = absurd g
one-roll o p q t _ other h g = absurd h

-- the last writer
variable-refusals : (o : Object) (x : ℕ) (why other : Refusal) → RefusesVariable o x why → RefusesVariable o x other → why ≡ other
variable-refusals o x NeverWritten NeverWritten h g = refl
variable-refusals o x NeverWritten _ h g = absurd g
variable-refusals o x _ other h g = absurd h

written-or-refused : (o : Object) (x t : ℕ) (why : Refusal) → LastWriter o.live x t → RefusesVariable o x why → ⊥
written-or-refused o x t NeverWritten last g = g t last.event last.live last.writes
written-or-refused o x t _ last g = absurd g

one-writer : (l : Live) (x t u : ℕ) → LastWriter l x t → LastWriter l x u → t ≡ u
one-writer l x t u h g =
    let up : u ≤ t = h.last u g.event g.live g.writes in
    let down : t ≤ u = g.last t h.event h.live h.writes in
    omega arith

one-roll-value : (o p q : Object) (x : ℕ) (reply other : Reply) → RollsValue o x reply p → RollsValue o x other q → Same reply other p q
one-roll-value o p q x (Reply.Rolled n) (Reply.Rolled m) h g =
    one-taken o p q h.0 n m h.2 (subst (λ t. TakesOut o t m q) (one-writer o.live x g.0 h.0 g.1 h.1) g.2)
one-roll-value o p q x (Reply.Rolled n) (Reply.Refused why) h g = absurd (written-or-refused o x h.0 why h.1 g.0)
one-roll-value o p q x (Reply.Refused why) (Reply.Rolled m) h g = absurd (written-or-refused o x g.0 why g.1 h.0)
one-roll-value o p q x (Reply.Refused why) (Reply.Refused because) h g = (ap Reply.Refused (variable-refusals o x why because h.0 g.0), h.1 ∙ sym g.1)
one-roll-value o p q x (Reply.Rolled n) _ h g = absurd g
one-roll-value o p q x (Reply.Refused why) _ h g = absurd g
one-roll-value o p q x _ other h g = absurd h

one-blame : (o p q : Object) (x : ℕ) (reply other : Reply) → Blames o x reply p → Blames o x other q → Same reply other p q
one-blame o p q x (Reply.Blamed t) (Reply.Blamed u) h g = (ap Reply.Blamed (one-writer o.live x t u h.0 g.0), h.1 ∙ sym g.1)
one-blame o p q x (Reply.Blamed t) (Reply.Refused why) h g = absurd (written-or-refused o x t why h.0 g.0)
one-blame o p q x (Reply.Refused why) (Reply.Blamed u) h g = absurd (written-or-refused o x u why g.0 h.0)
one-blame o p q x (Reply.Refused why) (Reply.Refused because) h g = (ap Reply.Refused (variable-refusals o x why because h.0 g.0), h.1 ∙ sym g.1)
one-blame o p q x (Reply.Blamed t) _ h g = absurd g
one-blame o p q x (Reply.Refused why) _ h g = absurd g
one-blame o p q x _ other h g = absurd h

-- the lists
ready-one : (S : State) (es fs : List Event) → ReadyList S es → ReadyList S fs → es ≡ fs
ready-one S es fs h g =
    same-elements Event Sooner sooner-asymmetric es fs h.in_order g.in_order
    (λ e i. (g.exactly e).1 ((h.exactly e).0 i)) (λ e i. (h.exactly e).1 ((g.exactly e).0 i))

one-ready : (o p q : Object) (reply other : Reply) → Sound o → ListsReady o reply p → ListsReady o other q → Same reply other p q
one-ready o p q (Reply.Ready es) (Reply.Ready fs) s h g =
    (ap Reply.Ready (ready-one h.0.0 es fs h.0.2 (subst (λ (T : State). ReadyList T fs) (reaches-one o g.0.0 h.0.0 s g.0.1 h.0.1) g.0.2)), h.1 ∙ sym g.1)
one-ready o p q (Reply.Ready es) _ s h g = absurd g
one-ready o p q _ other s h g = absurd h

consequences-one : (l : Live) (t : ℕ) (ns ms : List ℕ) → ConsequencesList l t ns → ConsequencesList l t ms → ns ≡ ms
consequences-one l t ns ms h g =
    same-elements ℕ ◌<◌ (λ x y a b. omega arith) ns ms h.ascending g.ascending
    (λ u i. (g.exactly u).1 ((h.exactly u).0 i)) (λ u i. (h.exactly u).1 ((g.exactly u).0 i))

one-consequences : (o p q : Object) (t : ℕ) (reply other : Reply) → ListsConsequences o t reply p → ListsConsequences o t other q → Same reply other p q
one-consequences o p q t (Reply.Consequences ns) (Reply.Consequences ms) h g = (ap Reply.Consequences (consequences-one o.live t ns ms h.1 g.1), h.2 ∙ sym g.2)
one-consequences o p q t (Reply.Consequences ns) (Reply.Refused why) h g = absurd (live-or-refused o t h.0.0 why h.0.1 g.0)
one-consequences o p q t (Reply.Refused why) (Reply.Consequences ms) h g = absurd (live-or-refused o t g.0.0 why g.0.1 h.0)
one-consequences o p q t (Reply.Refused why) (Reply.Refused because) h g = (ap Reply.Refused (ticket-refusals o t why because h.0 g.0), h.1 ∙ sym g.1)
one-consequences o p q t (Reply.Consequences ns) _ h g = absurd g
one-consequences o p q t (Reply.Refused why) _ h g = absurd g
one-consequences o p q t _ other h g = absurd h

one-live : (o p q : Object) (reply other : Reply) → ListsLive o reply p → ListsLive o other q → Same reply other p q
one-live o p q (Reply.Live l) (Reply.Live m) h g = (ap Reply.Live (h.0 ∙ sym g.0), h.1 ∙ sym g.1)
one-live o p q (Reply.Live l) _ h g = absurd g
one-live o p q _ other h g = absurd h

-- the value of a variable
value-refusals : (o : Object) (x : ℕ) (why other : Refusal) → RefusesValue o x why → RefusesValue o x other → why ≡ other
value-refusals o x NeverWritten NeverWritten h g = refl
value-refusals o x NeverWritten _ h g = absurd g
value-refusals o x _ other h g = absurd h

value-or-refused : (o : Object) (x : ℕ) (v : Word) (T : State) (why : Refusal) → Sound o → Reaches o T → slice_get T.store x ≡ Some v → RefusesValue o x why → ⊥
value-or-refused o x v T NeverWritten s r is g =
    none-some v (sym g.2 ∙ subst (λ (U : State). slice_get U.store x ≡ Some v) (reaches-one o T g.0 s r g.1) is)
value-or-refused o x v T _ s r is g = absurd g

one-value : (o p q : Object) (x : ℕ) (reply other : Reply) → Sound o → TellsValue o x reply p → TellsValue o x other q → Same reply other p q
one-value o p q x (Reply.Value v) (Reply.Value u) s h g =
    (ap Reply.Value (some-injective v u (sym h.0.2 ∙ subst (λ (U : State). slice_get U.store x ≡ Some u) (reaches-one o g.0.0 h.0.0 s g.0.1 h.0.1) g.0.2)), h.1 ∙ sym g.1)
one-value o p q x (Reply.Value v) (Reply.Refused why) s h g = absurd (value-or-refused o x v h.0.0 why s h.0.1 h.0.2 g.0)
one-value o p q x (Reply.Refused why) (Reply.Value u) s h g = absurd (value-or-refused o x u g.0.0 why s g.0.1 g.0.2 h.0)
one-value o p q x (Reply.Refused why) (Reply.Refused because) s h g = (ap Reply.Refused (value-refusals o x why because h.0 g.0), h.1 ∙ sym g.1)
one-value o p q x (Reply.Value v) _ s h g = absurd g
one-value o p q x (Reply.Refused why) _ s h g = absurd g
one-value o p q x _ other s h g = absurd h

pub one-reply : OneReply
one-reply o p q (Command.Step c) reply other s h g = one-step o p q c reply other s h g
one-reply o p q (Command.Undo t) reply other s h g = one-undo o p q t reply other s h g
one-reply o p q (Command.Roll t) reply other s h g = one-roll o p q t reply other h g
one-reply o p q (Command.RollValue x) reply other s h g = one-roll-value o p q x reply other h g
one-reply o p q (Command.Blame x) reply other s h g = one-blame o p q x reply other h g
one-reply o p q Command.Ready reply other s h g = one-ready o p q reply other s h g
one-reply o p q (Command.Consequences t) reply other s h g = one-consequences o p q t reply other h g
one-reply o p q Command.Live reply other s h g = one-live o p q reply other h g
one-reply o p q (Command.Value x) reply other s h g = one-value o p q x reply other s h g
