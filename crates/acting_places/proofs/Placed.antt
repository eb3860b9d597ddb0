-- What is left of a command at its place: each of its moves is at a place of the command or of a part of it.
use Rattle.std.proofs.Common.{◌≡◌, ◌∙◌, inl, inr, ℕ, zero, suc, ◌+◌, ◌*◌, ◌≤◌, [], ◌∷◌, ◌++◌, Bool, true, false, if◌then◌else◌, Option, Some, None, refl, sym, ap, subst, arith, append_assoc}
use Rattle.std.specs.Prelude.{option_and_then}
use Rattle.address.specs.declared.Entry.{Entry}
use Rattle.address.specs.declared.Entry.TheVariants.{Ordered, Branch}
use Rattle.value.specs.Word.{Word}
use Rattle.system.specs.Residual.{Residual, Arms, done, halted, inside, beside, assign, send, receive, sync, held, loop, while, test, choose, closing, drain, no_arms, arm, within, along, arm_at, opened, put_residual, put_arms}
use Rattle.system.specs.declared.command.Command.{Command}
use Rattle.system_places.specs.TakenArms.{ArmsByPlace, doing, is_place, part, acting_in}
use Rattle.runs.specs.Moves.{Place, Move, Local, tests, opens}

-- a command, at or within the one at p, has the place
abbrev pub Acts : ArmsByPlace → Place → Command → Place → Type 0
Acts t p c a = (d : Command) × (acting_in t p c a ≡ Some d)

-- the command has the place itself
abbrev pub Own : Command → Place → Type 0
Own c a = is_place (doing c) a ≡ true

-- the part at the entry, of which P holds
pub record HasPart (t : ArmsByPlace) (p : Place) (c : Command) (x : Entry) (P : Command → Type 0) : Type 0 where
  pub command : Command
  pub there : part (t p) (doing c) x ≡ Some command
  pub holds : P command

abbrev mutual
  -- the residual is what is left of the command at p, as far as places go
  pub Fits : ArmsByPlace → Place → Command → Residual → Type 0
  Fits t p c done = Unit {0}
  Fits t p c halted = Unit {0}
  Fits t p c (inside i child next) = HasPart t p c (Ordered i) (λ d. Fits t (p ++ Ordered i ∷ []) d child) × Fits t p c next
  Fits t p c (beside k child rest) = HasPart t p c (Branch k) (λ d. Fits t (p ++ Branch k ∷ []) d child) × Fits t p c rest
  Fits t p c (assign x w e) = Own c []
  Fits t p c (send ch w e) = Own c (Ordered 0 ∷ []) × Own c (Ordered 1 ∷ [])
  Fits t p c (receive ch x) = Own c []
  Fits t p c (sync ch) = Own c (Ordered 0 ∷ []) × Own c (Ordered 1 ∷ [])
  Fits t p c (held ch) = Own c (Ordered 1 ∷ [])
  Fits t p c (loop k body) =
      (n : ℕ) → k ≤ n → Own c (Ordered (2 * n) ∷ []) × HasPart t p c (Ordered (2 * n + 1)) (λ d. Fits t (p ++ Ordered (2 * n + 1) ∷ []) d body)
  Fits t p c (while k e body) =
      (n : ℕ) → k ≤ n → Own c (Ordered (2 * n) ∷ []) × HasPart t p c (Ordered (2 * n + 1)) (λ d. Fits t (p ++ Ordered (2 * n + 1) ∷ []) d body)
  Fits t p c (test d arms) = Own c (Ordered 0 ∷ []) × FitArms t p c 0 arms
  Fits t p c (choose chs arms) = Own c (Ordered 0 ∷ []) × Own c (Ordered 2 ∷ []) × FitArms t p c 0 arms
  Fits t p c (closing ch) = Own c (Ordered 2 ∷ [])
  Fits t p c (drain ch k) = ⊥

  -- each of the arms, the first numbered k, fits where it is the one that was taken
  pub FitArms : ArmsByPlace → Place → Command → ℕ → Arms → Type 0
  FitArms t p c k no_arms = Unit {0}
  FitArms t p c k (arm r rest) =
      (t p ≡ Some k → HasPart t p c (Ordered 1) (λ d. Fits t (p ++ Ordered 1 ∷ []) d r)) × FitArms t p c (suc k) rest

-- ---- a received value that is put for a name changes no place
mutual
  pub put-fits : (t : ArmsByPlace) (p : Place) (c : Command) (ch : ℕ) (v : Word) (r : Residual) → Fits t p c r → Fits t p c (put_residual ch v r)
  put-fits t p c ch v done h = h
  put-fits t p c ch v halted h = h
  put-fits t p c ch v (inside i child next) h = (
    record { command = h.0.command; there = h.0.there; holds = put-fits t (p ++ Ordered i ∷ []) h.0.command ch v child h.0.holds },
    put-fits t p c ch v next h.1,
  )
  put-fits t p c ch v (beside k child rest) h = (
    record { command = h.0.command; there = h.0.there; holds = put-fits t (p ++ Branch k ∷ []) h.0.command ch v child h.0.holds },
    put-fits t p c ch v rest h.1,
  )
  put-fits t p c ch v (assign x w e) h = h
  put-fits t p c ch v (send d w e) h = h
  put-fits t p c ch v (receive d x) h = h
  put-fits t p c ch v (sync d) h = h
  put-fits t p c ch v (held d) h = h
  put-fits t p c ch v (loop k body) h = λ n le. (
    (h n le).0,
    record { command = (h n le).1.command; there = (h n le).1.there; holds = put-fits t (p ++ Ordered (2 * n + 1) ∷ []) (h n le).1.command ch v body (h n le).1.holds },
  )
  put-fits t p c ch v (while k e body) h = λ n le. (
    (h n le).0,
    record { command = (h n le).1.command; there = (h n le).1.there; holds = put-fits t (p ++ Ordered (2 * n + 1) ∷ []) (h n le).1.command ch v body (h n le).1.holds },
  )
  put-fits t p c ch v (test d arms) h = (h.0, put-arms t p c 0 ch v arms h.1)
  put-fits t p c ch v (choose chs arms) h = (h.0, h.1, put-arms t p c 0 ch v arms h.2)
  put-fits t p c ch v (closing d) h = h
  put-fits t p c ch v (drain d k) h = h

  put-arms : (t : ArmsByPlace) (p : Place) (c : Command) (k ch : ℕ) (v : Word) (arms : Arms) → FitArms t p c k arms → FitArms t p c k (put_arms ch v arms)
  put-arms t p c k ch v no_arms h = h
  put-arms t p c k ch v (arm r rest) h = (
    (λ is. record {
      command = (h.0 is).command;
      there = (h.0 is).there;
      holds = put-fits t (p ++ Ordered 1 ∷ []) (h.0 is).command ch v r (h.0 is).holds;
    }),
    put-arms t p c (suc k) ch v rest h.1,
  )

opened-fits : (t : ArmsByPlace) (p : Place) (c : Command) (ch : ℕ) (v : Option Word) (r : Residual) → Fits t p c r → Fits t p c (opened ch v r)
opened-fits t p c ch None r h = h
opened-fits t p c ch (Some v) r h = put-fits t p c ch v r h

-- ---- of a command, and of a part of it
own-acts : (t : ArmsByPlace) (p : Place) (c : Command) (a : Place) → Own c a → Acts t p c a
own-acts t p c [] own = (c, pick (is_place (doing c) []) own)
  where
    pick : (b : Bool) → b ≡ true → (if b then Some c else None) ≡ Some c
    pick true is = refl
    pick false is = cc
own-acts t p c (x ∷ way) own = (c, pick (is_place (doing c) (x ∷ way)) own)
  where
    pick : (b : Bool) → b ≡ true → (if b then Some c else option_and_then (λ d. acting_in t (p ++ x ∷ []) d way) (part (t p) (doing c) x)) ≡ Some c
    pick true is = refl
    pick false is = cc

part-acts : (t : ArmsByPlace) (p : Place) (c d : Command) (x : Entry) (way : Place) → part (t p) (doing c) x ≡ Some d → Acts t (p ++ x ∷ []) d way → Acts t p c (x ∷ way)
part-acts t p c d x way there below = pick (is_place (doing c) (x ∷ way))
  where
    inner : option_and_then (λ e. acting_in t (p ++ x ∷ []) e way) (part (t p) (doing c) x) ≡ Some below.0
    inner = ap (option_and_then (λ e. acting_in t (p ++ x ∷ []) e way)) there ∙ below.1

    pick : (b : Bool) → (e : Command) × ((if b then Some c else option_and_then (λ e. acting_in t (p ++ x ∷ []) e way) (part (t p) (doing c) x)) ≡ Some e)
    pick true = (c, refl)
    pick false = (below.0, inner)

-- each move is at a place of the command or of a part
pub local-acts : (t : ArmsByPlace) (p : Place) (c : Command) (r : Residual) (a : Place) (m : Move) (q : Residual) → Fits t p c r → Local r a m q → Acts t p c a
local-acts t p c done a m q h l = absurd l
local-acts t p c halted a m q h l = absurd l
local-acts t p c (inside i child next) a m q h l =
    subst (λ (x : Place). Acts t p c x) (sym l.2)
    (part-acts t p c h.0.command (Ordered i) l.0 h.0.there (local-acts t (p ++ Ordered i ∷ []) h.0.command child l.0 m l.1 h.0.holds l.3))
local-acts t p c (beside k child rest) a m q h (inl l) =
    subst (λ (x : Place). Acts t p c x) (sym l.2)
    (part-acts t p c h.0.command (Branch k) l.0 h.0.there (local-acts t (p ++ Branch k ∷ []) h.0.command child l.0 m l.1 h.0.holds l.3))
local-acts t p c (beside k child rest) a m q h (inr l) = local-acts t p c rest a m l.0 h.1 l.1
local-acts t p c (assign x w e) a m q h l = subst (λ (x : Place). Acts t p c x) (sym l.0) (own-acts t p c [] h)
local-acts t p c (send ch w e) a m q h l = subst (λ (x : Place). Acts t p c x) (sym l.0) (own-acts t p c (Ordered 0 ∷ []) h.0)
local-acts t p c (receive ch x) a m q h l = subst (λ (x : Place). Acts t p c x) (sym l.0) (own-acts t p c [] h)
local-acts t p c (sync ch) a m q h l = subst (λ (x : Place). Acts t p c x) (sym l.0) (own-acts t p c (Ordered 0 ∷ []) h.0)
local-acts t p c (held ch) a m q h l = subst (λ (x : Place). Acts t p c x) (sym l.0) (own-acts t p c (Ordered 1 ∷ []) h)
local-acts t p c (loop k body) a m q h l =
    subst (λ (x : Place). Acts t p c x) (sym l.0) (own-acts t p c (Ordered (2 * k) ∷ []) (h k (omega arith)).0)
local-acts t p c (while k e body) a m q h l =
    subst (λ (x : Place). Acts t p c x) (sym l.0) (own-acts t p c (Ordered (2 * k) ∷ []) (h k (omega arith)).0)
local-acts t p c (test d arms) a m q h l = subst (λ (x : Place). Acts t p c x) (sym l.0) (own-acts t p c (Ordered 0 ∷ []) h.0)
local-acts t p c (choose chs arms) a m q h l = subst (λ (x : Place). Acts t p c x) (sym l.0) (own-acts t p c (Ordered 0 ∷ []) h.0)
local-acts t p c (closing ch) a m q h l = subst (λ (x : Place). Acts t p c x) (sym l.0) (own-acts t p c (Ordered 2 ∷ []) h)
local-acts t p c (drain ch k) a m q h l = absurd h

-- ---- what a move leaves
-- the move takes this arm
abbrev pub Takes : Move → ℕ → Type 0
Takes (tests d (Some k)) j = k ≡ j
Takes (opens c k v) j = k ≡ j
Takes _ j = ⊥

-- where the move, at a behind p, takes an arm of the choice at q, that is the one that was taken there
abbrev pub Knows : ArmsByPlace → Place → Place → Move → Type 0
Knows t p a m = (q : Place) (k : ℕ) → Takes m k → p ++ a ≡ q ++ Ordered 0 ∷ [] → t q ≡ Some k

pub knows-part : (t : ArmsByPlace) (p a b : Place) (x : Entry) (m : Move) → a ≡ x ∷ b → Knows t p a m → Knows t (p ++ x ∷ []) b m
knows-part t p a b x m at know q k takes is =
    know q k takes (ap (λ (y : Place). p ++ y) at ∙ sym (append_assoc p (x ∷ []) b) ∙ is)

pub within-fits : (t : ArmsByPlace) (p : Place) (c : Command) (i : ℕ) (r next : Residual) → HasPart t p c (Ordered i) (λ d. Fits t (p ++ Ordered i ∷ []) d r) → Fits t p c next →
    Fits t p c (within i r next)
within-fits t p c i done next h n = n
within-fits t p c i r next h n = (h, n)

pub along-fits : (t : ArmsByPlace) (p : Place) (c : Command) (k : ℕ) (r rest : Residual) → HasPart t p c (Branch k) (λ d. Fits t (p ++ Branch k ∷ []) d r) → Fits t p c rest →
    Fits t p c (along k r rest)
along-fits t p c k done rest h n = n
along-fits t p c k r rest h n = (h, n)

-- the arm that was taken is left, and behind it `next`
arm-fits : (t : ArmsByPlace) (p : Place) (c : Command) (j k n : ℕ) (arms : Arms) (ch : ℕ) (v : Option Word) (next : Residual) → FitArms t p c j arms → t p ≡ Some n →
    j + k ≡ n → Fits t p c next → Fits t p c (within 1 (opened ch v (arm_at arms k)) next)
arm-fits t p c j k n no_arms ch None next h is sum f = f
arm-fits t p c j k n no_arms ch (Some v) next h is sum f = f
arm-fits t p c j zero n (arm r rest) ch v next h is sum f =
    let here : j ≡ n = omega arith in
    let taken = h.0 (is ∙ ap (λ (x : ℕ). Some x) (sym here)) in
    within-fits t p c 1 (opened ch v r) next
    (record { command = taken.command; there = taken.there; holds = opened-fits t (p ++ Ordered 1 ∷ []) taken.command ch v r taken.holds }) f
arm-fits t p c j (suc k) n (arm r rest) ch v next h is sum f = arm-fits t p c (suc j) k n rest ch v next h.1 is (omega arith) f

pub local-fits : (t : ArmsByPlace) (p : Place) (c : Command) (r : Residual) (a : Place) (m : Move) (q : Residual) → Fits t p c r → Local r a m q → Knows t p a m →
    Fits t p c q
local-fits t p c done a m q h l know = absurd l
local-fits t p c halted a m q h l know = absurd l
local-fits t p c (inside i child next) a m q h l know =
    subst (λ (x : Residual). Fits t p c x) (sym l.4)
    (within-fits t p c i l.1 next
    (record {
      command = h.0.command;
      there = h.0.there;
      holds = local-fits t (p ++ Ordered i ∷ []) h.0.command child l.0 m l.1 h.0.holds l.3 (knows-part t p a l.0 (Ordered i) m l.2 know);
    }) h.1)
local-fits t p c (beside k child rest) a m q h (inl l) know =
    subst (λ (x : Residual). Fits t p c x) (sym l.4)
    (along-fits t p c k l.1 rest
    (record {
      command = h.0.command;
      there = h.0.there;
      holds = local-fits t (p ++ Branch k ∷ []) h.0.command child l.0 m l.1 h.0.holds l.3 (knows-part t p a l.0 (Branch k) m l.2 know);
    }) h.1)
local-fits t p c (beside k child rest) a m q h (inr l) know =
    subst (λ (x : Residual). Fits t p c x) (sym l.2) (along-fits t p c k child l.0 h.0 (local-fits t p c rest a m l.0 h.1 l.1 know))
local-fits t p c (assign x w e) a m q h l know = subst (λ (y : Residual). Fits t p c y) (sym l.2) tt
local-fits t p c (send ch w e) a m q h (at, inl l) know = subst (λ (y : Residual). Fits t p c y) (sym l.1) tt
local-fits t p c (send ch w e) a m q h (at, inr l) know = subst (λ (y : Residual). Fits t p c y) (sym l.1) h.1
local-fits t p c (receive ch x) a m q h l know = subst (λ (y : Residual). Fits t p c y) (sym l.2) tt
local-fits t p c (sync ch) a m q h (at, inl l) know = subst (λ (y : Residual). Fits t p c y) (sym l.1) tt
local-fits t p c (sync ch) a m q h (at, inr l) know = subst (λ (y : Residual). Fits t p c y) (sym l.1) h.1
local-fits t p c (held ch) a m q h l know = subst (λ (y : Residual). Fits t p c y) (sym l.2) tt
local-fits t p c (loop k body) a m q h l know =
    subst (λ (y : Residual). Fits t p c y) (sym l.2)
    (within-fits t p c (2 * k + 1) body (loop (k + 1) body) (h k (omega arith)).1 (λ n le. h n (omega arith)))
local-fits t p c (while k e body) a m q h (at, inl l) know =
    subst (λ (y : Residual). Fits t p c y) (sym l.1)
    (within-fits t p c (2 * k + 1) body (while (k + 1) e body) (h k (omega arith)).1 (λ n le. h n (omega arith)))
local-fits t p c (while k e body) a m q h (at, inr l) know = subst (λ (y : Residual). Fits t p c y) (sym l.1) tt
local-fits t p c (test d arms) a m q h (at, inl l) know =
    let taken : t p ≡ Some l.0 = know p l.0 (subst (λ (x : Move). Takes x l.0) (sym l.1) refl) (ap (λ (x : Place). p ++ x) at) in
    subst (λ (y : Residual). Fits t p c y) (sym l.2) (arm-fits t p c 0 l.0 l.0 arms 0 None done h.1 taken (omega arith) tt)
local-fits t p c (test d arms) a m q h (at, inr l) know = subst (λ (y : Residual). Fits t p c y) (sym l.1) tt
local-fits t p c (choose chs arms) a m q h l know =
    let taken : t p ≡ Some l.2 = know p l.2 (subst (λ (x : Move). Takes x l.2) (sym l.5) refl) (ap (λ (x : Place). p ++ x) l.0) in
    subst (λ (y : Residual). Fits t p c y) (sym l.6) (arm-fits t p c 0 l.2 l.2 arms l.1 l.3 (closing l.1) h.2 taken (omega arith) h.1)
local-fits t p c (closing ch) a m q h l know = subst (λ (y : Residual). Fits t p c y) (sym l.2) tt
local-fits t p c (drain ch k) a m q h l know = absurd h
