-- How a run ends that begins with an empty answer.
use Rattle.std.proofs.Common.{ℕ, ◌≡◌, ◌⊎◌, ◌||◌, Bool, List, [], ◌∷◌, ◌++◌, inl, inr, ◌∙◌, ap, sym, refl, append_assoc, Option, None, Some, true, false}
use Rattle.runs.specs.declared.event.Choice.{Choice}
use Rattle.locked_execution.specs.AtDesk.{AtDesk}
use Rattle.serde_json.specs.Data.{Data}
use Rattle.dap_messages.specs.Notes.{Adds, IsDone, IsRefusal, effect_with, told_by}
use Rattle.dap_messages.specs.declared.answer.Answer.{Answer}
use Rattle.dap_messages.specs.declared.answer.Effect.{Effect}
use Rattle.dap_messages.specs.declared.answer.Note.{Note}
use Rattle.dap_messages.specs.declared.kind.Kind.{Kind}
use Rattle.dap_messages.specs.declared.request.Request.{Request}
use Rattle.dap_messages.specs.declared.told.Stop.{Stop}
use Rattle.dap_messages.specs.declared.told.Told.{Told}
use Rattle.dap_requests.specs.Said.{Runs, TellsEnd, TellsStop}
use Rattle.dap_requests.proofs.public.Saying.{tells_one}
use Rattle.dap_server.specs.Kinds.{moves}
use Rattle.dap.specs.Goes.{Goes, GoesNew, GoesOn}
use Rattle.dap.specs.Kinds.{ends}
use Rattle.dap.specs.Steps.{Steps}
use Rattle.dap.specs.Stops.{BeginsOnce, EndsWith, StopsOnce}
use Rattle.dap.specs.declared.face.Face.{Face}
use Rattle.dap.specs.declared.launch.Launched.{Launched}

pub stops_once : (a b : Answer) (d d' : AtDesk) (before after : List Choice) (goes : Stop → ℕ → Type 0) → a.notes.items ≡ [] → IsDone a.outcome →
    Runs a b d d' before after goes → StopsOnce b
stops_once a b d d' before after goes empty done h = elim h [
  | inl refused ↦ inl (refused.0, ap (λ (ns : List Note). told_by ns) (ap (λ n. n.items) refused.1 ∙ empty))
  | inr stop ↦ inr (
    stop.2.done done,
    (
      stop.0,
      stop.1,
      stop.2.effect,
      λ full. (
        (
          stop.2.outputs,
          stop.2.are,
          (stop.2.told full).1 ∙ ap (λ (ns : List Note). told_by ns ++ (stop.2.outputs ++ Told.Stopped stop.0 ∷ [])) empty,
        ),
        stop.2.says full,
      ),
    ),
  )
]

-- a program has begun
pub begins_once : (F G H : Type 0) (Q : Stop → ℕ → Type 0) (a b : Answer) →
    ((stop : Stop) × (branch : ℕ) × TellsStop a stop branch b × Q stop branch) ⊎ (F × TellsEnd a b × G × H) → BeginsOnce b
begins_once F G H Q a b h = elim h [
  | inl stops ↦ inl (
    stops.0,
    record {
      effect = stops.2.effect;
      last = λ full. (
        told_by a.notes.items ++ stops.2.outputs,
        (stops.2.told full).1 ∙ sym (append_assoc (told_by a.notes.items) stops.2.outputs (Told.Stopped stops.0 ∷ [])),
      );
    },
  )
  | inr ends ↦ inr (record {
    effect = ends.1.effect;
    last = λ full. (
      told_by a.notes.items ++ (ends.1.outputs ++ Told.Exited ∷ []),
      (ends.1.told full).1
          ∙ ap (λ (ts : List Told). told_by a.notes.items ++ ts) (sym (append_assoc ends.1.outputs (Told.Exited ∷ []) (Told.Terminated ∷ [])))
          ∙ sym (append_assoc (told_by a.notes.items) (ends.1.outputs ++ Told.Exited ∷ []) (Told.Terminated ∷ [])),
    );
  })
]

-- a kind that moves is no other
no-move : (kind known : Kind) → moves kind ≡ true → moves known ≡ false → kind ≡ known → ⊥
no-move kind known is none same =
    let no : true ≡ false = sym is ∙ ap (λ (k : Kind). moves k) same ∙ none in absurd (cc)

-- a request to move launches nothing
no-new : (reads : List ℕ → Option (List ℕ) → Type 0) (x y : Option Launched) (request : Request) (a b : Answer) → moves request.kind ≡ true →
    GoesNew reads x request a b y → ⊥
no-new reads None None request a b is goes = goes
no-new reads (Some l) None request a b is goes = goes
no-new reads None (Some m) request a b is goes = no-move request.kind Kind.Launch is refl goes.0
no-new reads (Some l) (Some m) request a b is goes = no-move request.kind Kind.Restart is refl goes.0

-- and stops once
moves-on : (x y : Option Launched) (request : Request) (a b : Answer) → a.notes.items ≡ [] → IsDone a.outcome → moves request.kind ≡ true →
    GoesOn x request a b y → (x ≡ None → IsRefusal b.outcome × (b.notes ≡ a.notes)) → StopsOnce b
moves-on None y request a b empty done is goes early =
    let it = early refl in inl (it.0, ap (λ (ns : List Note). told_by ns) (ap (λ n. n.items) it.1 ∙ empty))
moves-on (Some l) None request a b empty done is goes early = absurd goes
moves-on (Some l) (Some m) request a b empty done is goes early =
    stops_once a b l.desk m.desk l.memo.seen.items m.memo.seen.items
    (λ (stop : Stop) (branch : ℕ). Steps l.program l.memo.seen.items m.memo.seen.items l.desk request.kind request stop branch m.desk) empty done
    (goes.1.moved is)

pub moves_stop : (reads : List ℕ → Option (List ℕ) → Type 0) (x y : Option Launched) (request : Request) (a b : Answer) → a.notes.items ≡ [] →
    IsDone a.outcome → moves request.kind ≡ true → Goes reads x request a b y →
    (x ≡ None → IsRefusal b.outcome × (b.notes ≡ a.notes)) → StopsOnce b
moves_stop reads x y request a b empty done is goes early = elim goes [
  | inl on ↦ moves-on x y request a b empty done is on early
  | inr anew ↦ absurd (no-new reads x y request a b is anew)
]

-- what does not end the session leaves it going on
or-not : (a b : Bool) → b ≡ false → (a || b) ≡ a
or-not true b none = refl
or-not false b none = none

pub stays_over : (x h : Face) (over : Bool) (kind : Kind) → h ≡ x → over ≡ (x.over || ends kind) → ends kind ≡ false → record h { over = over } ≡ x
stays_over x h over kind same is none =
    let stays : over ≡ x.over = is ∙ or-not x.over (ends kind) none in
    λ i. record (same i) { over = stays i }

-- an event that has to come is the last
pub tells_last : (a b : Answer) (told : Told) (body : Option Data) → effect_with a.effect told ≡ Effect.Due told → Adds a told body b → EndsWith b told
tells_last a b told body due h = record {
  effect = h.effect ∙ due;
  last = λ full. (told_by a.notes.items, (tells_one a b told body h full).1);
}
