-- What holds after the requests of a session.
use Rattle.std.proofs.Common.{◌≡◌, ◌⊎◌, ◌+◌, ◌∷◌, [], ℕ, List, length, Option, None, Some, true, inl, inr, sym, subst, ap, ◌∙◌}
use Rattle.std.specs.Prelude.{Ok, Err, OnOk, Result}
use Rattle.std.specs.Io.KnownBytes.{IsAtEnd}
use Rattle.dap_messages.specs.declared.answer.Answer.{Answer}
use Rattle.dap_messages.specs.declared.request.Request.{Request}
use Rattle.dap_moves.proofs.public.Leading.{led_nowhere, led_on}
use Rattle.dap_server.specs.Session.{Serves}
use Rattle.dap_views.specs.Seen.{Sees}
use Rattle.dap_views.specs.declared.program.Program.{Program}
use Rattle.dap_views.specs.declared.sight.Sight.{Sight}
use Rattle.dap.specs.Goes.{Comes, Goes, GoesNew, GoesOn, IsFresh, IsSeen, is_over}
use Rattle.dap.specs.Laws.{IsLed, IsTrueOf, SessionIsLed, SessionSees}
use Rattle.dap.specs.declared.face.Face.{Face}
use Rattle.dap.specs.declared.launch.Launched.{Launched}

-- one request that goes on
led-on : (reads : List ℕ → Option (List ℕ) → Type 0) (x y : Option Launched) (request : Request) (a b : Answer) → IsLed reads x →
    GoesOn x request a b y → IsLed reads y
led-on reads None None request a b led goes = tt
led-on reads None (Some m) request a b led goes = absurd goes
led-on reads (Some l) None request a b led goes = absurd goes
led-on reads (Some l) (Some m) request a b led goes = (led.0, led.1, led.2, led.3, led_on led.2.desk l.desk m.desk led.4 goes.1.led)

-- one that begins anew
led-new : (reads : List ℕ → Option (List ℕ) → Type 0) (x y : Option Launched) (request : Request) (a b : Answer) → IsLed reads x →
    GoesNew reads x request a b y → IsLed reads y
led-new reads None None request a b led goes = absurd goes
led-new reads (Some l) None request a b led goes = absurd goes
led-new reads None (Some m) request a b led goes = (goes.1.0, goes.1.1, m, goes.1.3, led_nowhere m.desk)
led-new reads (Some l) (Some m) request a b led goes = elim goes.1 [
  | inl anew ↦ (l.program.counting, anew.0, anew.1, anew.3, anew.4.led)
  | inr still ↦ subst (λ (n : Launched). IsLed reads (Some n)) (sym still.0) led
]

led-one : (reads : List ℕ → Option (List ℕ) → Type 0) (x y : Option Launched) (request : Request) (a b : Answer) → IsLed reads x →
    Goes reads x request a b y → IsLed reads y
led-one reads x y request a b led goes = elim goes [
  | inl on ↦ led-on reads x y request a b led on
  | inr anew ↦ led-new reads x y request a b led anew
]

-- all of them
pub session-is-led : (reads : List ℕ → Option (List ℕ) → Type 0) → SessionIsLed reads
session-is-led reads a b next [] sent led session = subst (λ (f : Face). IsLed reads f.launched) (sym session.1) led
session-is-led reads a b next (Ok request ∷ heard) sent led session =
    session-is-led reads session.0 b (next + length session.1) heard session.2
    (led-one reads a.launched session.0.launched request session.4.answered.empty session.4.answer led session.4.answered.goes) session.5
session-is-led reads a b next (Err why ∷ heard) sent led session = session-is-led reads a b (next + 1) heard session.0 led session.2

-- of what has just begun nothing is shown
new-seen : (m : Launched) → m.program.sight ≡ None → IsSeen m
new-seen m none = let to : Sees m.desk.machine None = tt in subst (λ (s : Option Sight). Sees m.desk.machine s) (sym none) to

-- what is shown is so, behind one request
sees-on : (x y : Option Launched) (request : Request) (a b : Answer) → IsTrueOf x → GoesOn x request a b y → IsTrueOf y
sees-on None None request a b seen goes = tt
sees-on None (Some m) request a b seen goes = absurd goes
sees-on (Some l) None request a b seen goes = absurd goes
sees-on (Some l) (Some m) request a b seen goes = goes.2 seen

sees-new : (reads : List ℕ → Option (List ℕ) → Type 0) (x y : Option Launched) (request : Request) (a b : Answer) → IsTrueOf x →
    GoesNew reads x request a b y → IsTrueOf y
sees-new reads None None request a b seen goes = absurd goes
sees-new reads (Some l) None request a b seen goes = absurd goes
sees-new reads None (Some m) request a b seen goes = new-seen m goes.1.3.fresh.unset.sight
sees-new reads (Some l) (Some m) request a b seen goes = elim goes.1 [
  | inl anew ↦
      new-seen m
      (ap (λ (p : Program). p.sight) anew.4.sets ∙ ap (λ (p : Program). p.sight) anew.4.keeps.same
      ∙ anew.3.fresh.unset.sight)
  | inr still ↦ subst (λ (n : Launched). IsTrueOf (Some n)) (sym still.0) seen
]

sees-one : (reads : List ℕ → Option (List ℕ) → Type 0) (x y : Option Launched) (request : Request) (a b : Answer) → IsTrueOf x →
    Goes reads x request a b y → IsTrueOf y
sees-one reads x y request a b seen goes = elim goes [
  | inl on ↦ sees-on x y request a b seen on
  | inr anew ↦ sees-new reads x y request a b seen anew
]

-- behind all of them
pub session-sees : (reads : List ℕ → Option (List ℕ) → Type 0) → SessionSees reads
session-sees reads a b next [] sent seen session = subst (λ (f : Face). IsTrueOf f.launched) (sym session.1) seen
session-sees reads a b next (Ok request ∷ heard) sent seen session =
    session-sees reads session.0 b (next + length session.1) heard session.2
    (sees-one reads a.launched session.0.launched request session.4.answered.empty session.4.answer seen session.4.answered.goes) session.5
session-sees reads a b next (Err passed ∷ heard) sent seen session = session-sees reads a b (next + 1) heard session.0 seen session.2

-- a session with a client that has just come, which ends well
pub served : {X E : Type 0} (reads : List ℕ → Option (List ℕ) → Type 0) (r : Result X E) (a b : Face) (came left u v : Option (List ℕ)) → IsFresh a →
    OnOk r ((after : ℕ) × Serves (Comes reads) is_over a 1 b after came left u v) → OnOk r ((b.over ≡ true) ⊎ IsAtEnd left) →
    OnOk r
    ((first : Face) × (last : Face) × (after : ℕ) × IsFresh first
    × Serves (Comes reads) is_over first 1 last after came left u v × ((last.over ≡ true) ⊎ IsAtEnd left))
served reads (Ok x) a b came left u v fresh h k = (a, b, h.0, fresh, h.1, k)
served reads (Err e) a b came left u v fresh h k = tt
