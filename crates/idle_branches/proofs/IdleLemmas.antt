-- A branch that has no step has none behind an event that cannot bring it one.
use Rattle.std.proofs.Common.{◌≡◌, ◌⊎◌, inl, inr, ℕ, List, [], ◌∷◌, Bool, true, false, Option, Some, None, if◌then◌else◌, length, refl, sym, ap, ◌∙◌, subst}
use Rattle.std.specs.Prelude.{nat_lt, ◌==◌, ◌+◌, ◌*◌, cond}
use Rattle.address.specs.Places.{Apart, Before}
use Rattle.address.specs.declared.Entry.TheVariants.{Ordered, Branch}
use Rattle.syntax.specs.Lists.{In, Every}
use Rattle.system.specs.Expression.{Decision, Expression, Store, by_guards, decide, value}
use Rattle.system.specs.Residual.{Residual, done, halted, inside, beside, assign, send, receive, sync, held, loop, while, test, choose, closing, drain, Arms, within, along, arm_at, opened}
use Rattle.system.specs.declared.command.Command.{Command}
use Rattle.system.specs.declared.system.System.{System}
use Rattle.system_places.specs.SystemBranches.{parallel_of, branch_at, branch_of_port, branch_within}
use Rattle.runs.specs.Moves.{Place, Move, Local, assigns, tests, turns, sends, receives, syncs, opens, releases, closes}
use Rattle.runs.specs.Dependence.{SomeBefore}
use Rattle.runs.specs.Events.{Located, at, Makes, assigning, testing, turning, meeting, opening as opens_with_data, opening_without_data, shutting, syncing, acting, places, sent, store_after}
use Rattle.runs.specs.Steps.{Allowed, Moves, State, opening}
use Rattle.runs.specs.WellFormed.{WellFormed}
use Rattle.runs.specs.declared.event.Event.{Event}
use Rattle.runs.proofs.public.AtOnce.{Offers, OffersAll, offered, offered_before}
use Rattle.runs.proofs.public.FromOpening.{states_are_well_formed}
use Rattle.runs.proofs.public.Kept.{formed}
use Rattle.runs.proofs.public.Lists.{every-map}
use Rattle.runs.proofs.public.Once.{first-clear}
use Rattle.runs.proofs.public.Orders.{run-formed}
use Rattle.runs.proofs.public.Stepping.{move-places}
use Rattle.runs.proofs.public.Together.{together}
use Rattle.value.specs.Word.{Word}
use Rattle.local_actions.specs.Actions.{Decided, Offered, action_of}
use Rattle.local_actions.specs.declared.action.LocalAction.{LocalAction}
use Rattle.idle_branches.specs.Idle.{GivesWhatIsKnown, Passes, StaysIdle, given_on}
use Rattle.idle_branches.specs.declared.ends.Ends.{Ends}
use Rattle.idle_branches.specs.internal.Known.{ActsOn, FitsMove, Gives, Known, known_at}
use Rattle.idle_branches.proofs.ChainLemmas.{FitsLocated, moves-fit, run-keeps, whole-makes, whole-opens}

-- a place before another lies in its branch
same-within : (o : Option (List Command)) (a b : Place) → Before a b → branch_within o a ≡ branch_within o b
same-within None a b h = refl
same-within (Some children) (Ordered i ∷ a) (Ordered j ∷ b) h = refl
same-within (Some children) (Branch i ∷ a) (Branch j ∷ b) h =
    ap (λ (n : ℕ). if nat_lt n (length children) then Some n else None) h.0
same-within (Some children) [] b h = absurd h
same-within (Some children) (Ordered i ∷ a) [] h = absurd h
same-within (Some children) (Branch i ∷ a) [] h = absurd h
same-within (Some children) (Ordered i ∷ a) (Branch j ∷ b) h = absurd h
same-within (Some children) (Branch i ∷ a) (Ordered j ∷ b) h = absurd h

pub same-branch : (system : System) (a b : Place) → Before a b → branch_at system a ≡ branch_at system b
same-branch system (Ordered i ∷ a) (Ordered j ∷ b) h = refl
same-branch system (Branch i ∷ a) (Branch j ∷ b) h =
    ap (λ (o : Option ℕ). if i == 0 then o else branch_of_port system i) (same-within (parallel_of system.main) a b h.1)
    ∙ ap (λ (n : ℕ). if n == 0 then branch_within (parallel_of system.main) b else branch_of_port system n) h.0
same-branch system [] b h = absurd h
same-branch system (Ordered i ∷ a) [] h = absurd h
same-branch system (Branch i ∷ a) [] h = absurd h
same-branch system (Ordered i ∷ a) (Branch j ∷ b) h = absurd h
same-branch system (Branch i ∷ a) (Ordered j ∷ b) h = absurd h

-- what a move is that the state offers
pub shown : (T : State) (a : Place) (m : Move) → Offers T.residual (at a m) → Decided T.store m
    → Offered T (record { place = a; action = action_of T.store m })
shown T a m o d = record { move = m; after = o.0; possible = o.1; decided = d; shown = refl }

module _ (system : System) (ends : Ends) where
  abbrev known : ℕ → Known
  known k = known_at ends.used.acting.items ends.used.giving.items k

  -- at the place the state offers the other side of a channel on which branch k acts
  record Partner (T : State) (b : Place) (k : ℕ) : Type 0 where
    pub action : LocalAction
    pub channel : ℕ
    pub offered : Offered T action
    pub is : action.place ≡ b
    pub given : given_on action.action ≡ Some channel
    pub acts : ActsOn ends.used.acting.items channel k

  -- the side of an event that does not act is a partner of the branch that acts
  partner : (T : State) (ls : List Located) (x : Event) (b : Place) (k : ℕ) → Makes T.store ls x → OffersAll T.residual ls
      → Every (FitsLocated known system) ls → In b (places x) → branch_at system (acting x) ≡ Some k → (b ≡ acting x) ⊎ Partner T b k
  partner T ls x b k (assigning a y w e) o f (inl is) acts = inl is
  partner T ls x b k (assigning a y w e) o f (inr bad) acts = absurd bad
  partner T ls x b k (testing a d n g) o f (inl is) acts = inl is
  partner T ls x b k (testing a d n g) o f (inr bad) acts = absurd bad
  partner T ls x b k (turning a) o f (inl is) acts = inl is
  partner T ls x b k (turning a) o f (inr bad) acts = absurd bad
  partner T ls x b k (meeting a c d w e y p) o f (inl is) acts =
      inr (record { action = _; channel = d; offered = shown T a (sends d w e false) o.0 tt; is = sym is; given = refl; acts = f.1.0 k acts })
  partner T ls x b k (meeting a c d w e y p) o f (inr (inl is)) acts = inl is
  partner T ls x b k (meeting a c d w e y p) o f (inr (inr bad)) acts = absurd bad
  partner T ls x b k (opens_with_data a c d w n e p) o f (inl is) acts =
      inr (record { action = _; channel = d; offered = shown T a (sends d w e true) o.0 tt; is = sym is; given = refl; acts = f.1.0 k acts })
  partner T ls x b k (opens_with_data a c d w n e p) o f (inr (inl is)) acts = inl is
  partner T ls x b k (opens_with_data a c d w n e p) o f (inr (inr bad)) acts = absurd bad
  partner T ls x b k (opening_without_data a c d n p) o f (inl is) acts =
      inr (record { action = _; channel = d; offered = shown T a (syncs d true) o.0 tt; is = sym is; given = refl; acts = f.1.0 k acts })
  partner T ls x b k (opening_without_data a c d n p) o f (inr (inl is)) acts = inl is
  partner T ls x b k (opening_without_data a c d n p) o f (inr (inr bad)) acts = absurd bad
  partner T ls x b k (shutting a c d p) o f (inl is) acts =
      inr (record { action = _; channel = d; offered = shown T a (releases d) o.0 tt; is = sym is; given = refl; acts = f.1.0 k acts })
  partner T ls x b k (shutting a c d p) o f (inr (inl is)) acts = inl is
  partner T ls x b k (shutting a c d p) o f (inr (inr bad)) acts = absurd bad
  partner T ls x b k (syncing a c d p l) o f (inl is) acts = inl is
  partner T ls x b k (syncing a c d p l) o f (inr (inl is)) acts =
      inr (record { action = _; channel = d; offered = shown T c (syncs d false) o.1.0 tt; is = sym is; given = refl; acts = (f.0 k acts).0 })
  partner T ls x b k (syncing a c d p l) o f (inr (inr bad)) acts = absurd bad

  -- what comes at a place behind one of e is not in a branch that e cannot have brought a step
  no-later : (T : State) (ls : List Located) (e x : Event) (k : ℕ) → Makes T.store ls x → OffersAll T.residual ls
      → Every (FitsLocated known system) ls → Passes system ends T e k → branch_at system (acting x) ≡ Some k → SomeBefore e x → ⊥
  no-later T ls e x k makes offers fits passes acts (a, b, in-e, in-x, before) =
      elim (partner T ls x b k makes offers fits in-x acts) [
        | inl is ↦ passes.apart (a, in-e, same-branch system a b before ∙ ap (branch_at system) is ∙ acts)
        | inr met ↦ passes.faces_none
            (met.action, met.channel, (met.offered, (a, in-e, subst (λ (q : Place). Before a q) (sym met.is) before)), met.given, met.acts)
      ]

-- ---- what is offered before moves
-- what is offered behind moves at places apart was offered before them
offered-earlier : (r : Residual) (ls : List Located) (q : Residual) (k : Located) → WellFormed r → Moves r ls q
    → Every (λ l. Apart l.place k.place) ls → Offers q k → Offers r k
offered-earlier r [] q k w h apart o = subst (λ (t : Residual). Offers t k) (sym h) o
offered-earlier r (l ∷ ls) q k w (t, first, rest) apart o =
    let later = offered-earlier t ls q k (formed r l.place l.move t w first) rest apart.1 o in
    offered_before r t later.0 l k w apart.0 first later.1

all-earlier : (r : Residual) (ls : List Located) (q : Residual) (ks : List Located) → WellFormed r → Moves r ls q
    → Every (λ k. Every (λ l. Apart l.place k.place) ls) ks → OffersAll q ks → OffersAll r ks
all-earlier r ls q [] w h apart o = tt
all-earlier r ls q (k ∷ ks) w h apart o =
    (offered-earlier r ls q k w h apart.0 o.0, all-earlier r ls q ks w h apart.1 o.1)

-- ---- other values
-- one guard takes arm 0 or none
guard-holds : (b : Bool) → (cond {A = Option ℕ} b (Some 0) None ≡ Some 0) ⊎ (cond {A = Option ℕ} b (Some 0) None ≡ None)
guard-holds true = inl refl
guard-holds false = inr refl

one-guard : (s : Store) (e : Expression) → (decide s (by_guards (e ∷ []) false) ≡ Some 0) ⊎ (decide s (by_guards (e ∷ []) false) ≡ None)
one-guard s e = guard-holds ((value s e).bits == 1)

-- a loop with a guard is tested, whatever comes out
other-turn : (s : Store) (k : ℕ) (e : Expression) (body : Residual) (a : Place) (d : Decision) → a ≡ Ordered (2 * k) ∷ []
    → d ≡ by_guards (e ∷ []) false → Offers (while k e body) (at a (tests d (decide s d)))
other-turn s k e body a d place same = elim (one-guard s e) [
  | inl holds ↦
      let arm : decide s d ≡ Some 0 = ap (decide s) same ∙ holds in
      (within (2 * k + 1) body (while (k + 1) e body), (place, inl ((λ i. tests (same i) (arm i)), refl)))
  | inr none ↦
      let arm : decide s d ≡ None = ap (decide s) same ∙ none in
      (done, (place, inr ((λ i. tests (same i) (arm i)), refl)))
]

-- and so is an `if` or `case`
other-test : (d : Decision) (arms : Arms) (a : Place) (o : Option ℕ) → a ≡ Ordered 0 ∷ [] → Offers (test d arms) (at a (tests d o))
other-test d arms a None place = (done, (place, inr (refl, refl)))
other-test d arms a (Some k) place = (within 1 (arm_at arms k) done, (place, inl (k, refl, refl)))

-- a test is offered with the arm that another store decides on
other-arm : (s : Store) (r : Residual) (a : Place) (d : Decision) (n : Option ℕ) (q : Residual) → Local r a (tests d n) q
    → Offers r (at a (tests d (decide s d)))
other-arm s done a d n q h = absurd h
other-arm s halted a d n q h = absurd h
other-arm s (inside i child next) a d n q (b, t, is, h, g) =
    let deep = other-arm s child b d n t h in (within i deep.0 next, (b, deep.0, is, deep.1, refl))
other-arm s (beside k child rest) a d n q (inl (b, t, is, h, g)) =
    let deep = other-arm s child b d n t h in (along k deep.0 rest, inl (b, deep.0, is, deep.1, refl))
other-arm s (beside k child rest) a d n q (inr (t, h, g)) =
    let deep = other-arm s rest a d n t h in (along k child deep.0, inr (deep.0, deep.1, refl))
other-arm s (assign x w e) a d n q (place, is, g) = cc
other-arm s (send c w e) a d n q (place, inl (is, g)) = cc
other-arm s (send c w e) a d n q (place, inr (is, g)) = cc
other-arm s (receive c x) a d n q (place, is, g) = cc
other-arm s (sync c) a d n q (place, inl (is, g)) = cc
other-arm s (sync c) a d n q (place, inr (is, g)) = cc
other-arm s (held c) a d n q (place, is, g) = cc
other-arm s (loop k body) a d n q (place, is, g) = cc
other-arm s (while k e body) a d n q (place, inl (is, g)) = other-turn s k e body a d place cc
other-arm s (while k e body) a d n q (place, inr (is, g)) = other-turn s k e body a d place cc
other-arm s (test e arms) a d n q (place, inl (k, is, g)) =
    let same : d ≡ e = cc in
    subst (λ (x : Decision). Offers (test x arms) (at a (tests d (decide s d)))) same (other-test d arms a (decide s d) place)
other-arm s (test e arms) a d n q (place, inr (is, g)) =
    let same : d ≡ e = cc in
    subst (λ (x : Decision). Offers (test x arms) (at a (tests d (decide s d)))) same (other-test d arms a (decide s d) place)
other-arm s (choose channels arms) a d n q (place, c, k, v, there, is, g) = cc
other-arm s (closing c) a d n q (place, is, g) = cc
other-arm s (drain c k) a d n q (place, is, g) = cc

-- an open is offered with any value
other-value : (r : Residual) (a : Place) (c k : ℕ) (v o : Option Word) (q : Residual) → Local r a (opens c k v) q
    → Offers r (at a (opens c k o))
other-value done a c k v o q h = absurd h
other-value halted a c k v o q h = absurd h
other-value (inside i child next) a c k v o q (b, t, is, h, g) =
    let deep = other-value child b c k v o t h in (within i deep.0 next, (b, deep.0, is, deep.1, refl))
other-value (beside j child rest) a c k v o q (inl (b, t, is, h, g)) =
    let deep = other-value child b c k v o t h in (along j deep.0 rest, inl (b, deep.0, is, deep.1, refl))
other-value (beside j child rest) a c k v o q (inr (t, h, g)) =
    let deep = other-value rest a c k v o t h in (along j child deep.0, inr (deep.0, deep.1, refl))
other-value (assign x w e) a c k v o q (place, is, g) = cc
other-value (send d w e) a c k v o q (place, inl (is, g)) = cc
other-value (send d w e) a c k v o q (place, inr (is, g)) = cc
other-value (receive d x) a c k v o q (place, is, g) = cc
other-value (sync d) a c k v o q (place, inl (is, g)) = cc
other-value (sync d) a c k v o q (place, inr (is, g)) = cc
other-value (held d) a c k v o q (place, is, g) = cc
other-value (loop j body) a c k v o q (place, is, g) = cc
other-value (while j e body) a c k v o q (place, inl (is, g)) = cc
other-value (while j e body) a c k v o q (place, inr (is, g)) = cc
other-value (test d arms) a c k v o q (place, inl (j, is, g)) = cc
other-value (test d arms) a c k v o q (place, inr (is, g)) = cc
other-value (choose channels arms) a c k v o q (place, d, j, u, there, is, g) =
    let channel : c ≡ d = cc in
    let arm : k ≡ j = cc in
    (within 1 (opened d o (arm_at arms j)) (closing d), (place, d, j, o, there, (λ i. opens (channel i) (arm i) o), refl))
other-value (closing d) a c k v o q (place, is, g) = cc
other-value (drain d j) a c k v o q (place, is, g) = cc

-- ---- events over another store
-- what is offered makes an event, which acts at the same place
record MadeToo (S : State) (x : Event) : Type 0 where
  pub event : Event
  pub allowed : Allowed S event
  pub acts : acting event ≡ acting x

one-move : (S : State) (l : Located) (y : Event) → Offers S.residual l → Makes S.store (l ∷ []) y → Allowed S y
one-move S l y o makes = (
  record { residual = o.0; store = store_after y S.store },
  record { moves = l ∷ []; makes = makes; moved = (o.0, o.1, refl); stored = refl },
)

two-moves : (S : State) (l k : Located) (y : Event) → Apart l.place k.place → Offers S.residual l → Offers S.residual k
    → Makes S.store (l ∷ k ∷ []) y → Allowed S y
two-moves S l k y apart o u makes =
    let both = together S.residual l.place k.place l.move k.move o.0 u.0 apart o.1 u.1 in (
      record { residual = both.0; store = store_after y S.store },
      record { moves = l ∷ k ∷ []; makes = makes; moved = (o.0, o.1, (both.0, both.1, refl)); stored = refl },
    )

made-too : (S : State) (s : Store) (ls : List Located) (x : Event) → Makes s ls x → OffersAll S.residual ls → MadeToo S x
made-too S s ls x (assigning a y w e) o = record { event = _; allowed = one-move S _ _ o.0 (assigning a y w e); acts = refl }
made-too S s ls x (testing a d n g) o =
    let u = other-arm S.store S.residual a d n o.0.0 o.0.1 in
    record { event = _; allowed = one-move S _ _ u (testing a d (decide S.store d) refl); acts = refl }
made-too S s ls x (turning a) o = record { event = _; allowed = one-move S _ _ o.0 (turning a); acts = refl }
made-too S s ls x (meeting a b c w e y p) o =
    record { event = _; allowed = two-moves S _ _ _ p o.0 o.1.0 (meeting a b c w e y p); acts = refl }
made-too S s ls x (opens_with_data a b c w k e p) o =
    let u = other-value S.residual b c k (Some (sent s w e)) (Some (sent S.store w e)) o.1.0.0 o.1.0.1 in
    record { event = _; allowed = two-moves S _ _ _ p o.0 u (opens_with_data a b c w k e p); acts = refl }
made-too S s ls x (opening_without_data a b c k p) o =
    record { event = _; allowed = two-moves S _ _ _ p o.0 o.1.0 (opening_without_data a b c k p); acts = refl }
made-too S s ls x (shutting a b c p) o =
    record { event = _; allowed = two-moves S _ _ _ p o.0 o.1.0 (shutting a b c p); acts = refl }
made-too S s ls x (syncing a b c p l) o =
    record { event = _; allowed = two-moves S _ _ _ p o.0 o.1.0 (syncing a b c p l); acts = refl }

-- the law
pub stays-idle : StaysIdle
stays-idle system ends h S T e k are run step passes idle x (U, next) acts =
    let whole = run-keeps (known system ends) system (opening system) S h (whole-opens (known system ends) system are.fit) run in
    let after = run-keeps (known system ends) system S T (e ∷ []) whole (T, step, refl) in
    let fits = moves-fit (known system ends) system T.residual next.moves U.residual after next.moved in
    let well = states_are_well_formed system h S run in
    let offers = offered T.residual U.residual T.store next.moves x (run-formed S T (e ∷ []) well (T, step, refl)) next.makes next.moved in
    let later = no-later system ends T next.moves e x k next.makes offers fits passes acts in
    let apart : (a b : Place) → In a (places e) → In b (places x) → Apart a b =
    λ a b in-e in-x. elim (first-clear S U e x (x ∷ []) well (T, step, (U, next, refl)) (inl refl) a b in-e in-x) [
      | inl before ↦ absurd (later (a, b, in-e, in-x, before))
      | inr clear ↦ clear
    ] in
    let every : Every (λ m. Every (λ l. Apart l.place m.place) step.moves) next.moves =
    every-map (λ m. In m.place (places x)) (λ m. Every (λ l. Apart l.place m.place) step.moves) next.moves
    (λ m in-x.
    every-map (λ l. In l.place (places e)) (λ l. Apart l.place m.place) step.moves
    (λ l in-e. apart l.place m.place in-e in-x) (move-places S.store step.moves e step.makes))
    (move-places T.store next.moves x next.makes) in
    let made = made-too S T.store next.moves x next.makes (all-earlier S.residual step.moves T.residual next.moves well step.moved every offers) in
    idle made.event made.allowed (ap (branch_at system) made.acts ∙ acts)

-- the channel at whose other side a move is
pub gives-move : (u : Known) (T : State) (m : Move) (c : ℕ) → FitsMove u m → given_on (action_of T.store m) ≡ Some c → Gives u c
gives-move u T (assigns x w e) c f is = cc
gives-move u T (tests d n) c f is = cc
gives-move u T turns c f is = cc
gives-move u T (sends d w e kept) c f is = let same : d ≡ c = cc in subst (λ (n : ℕ). Gives u n) same f
gives-move u T (receives d x) c f is = cc
gives-move u T (syncs d kept) c f is = let same : d ≡ c = cc in subst (λ (n : ℕ). Gives u n) same f.1
gives-move u T (opens d n v) c f is = cc
gives-move u T (releases d) c f is = let same : d ≡ c = cc in subst (λ (n : ℕ). Gives u n) same f
gives-move u T (closes d) c f is = cc

-- the law
pub gives-what-is-known : GivesWhatIsKnown
gives-what-is-known system ends h S a x k c are run offer before is given =
    let whole = run-keeps (known system ends) system (opening system) S h (whole-opens (known system ends) system are.fit) run in
    let at : branch_at system x.place ≡ Some k = sym (same-branch system a x.place before) ∙ is in
    let fits = whole-makes (known system ends) system S.residual x.place offer.move offer.after k whole offer.possible at in
    gives-move (known system ends k) S offer.move c fits (ap given_on (sym offer.shown) ∙ given)
