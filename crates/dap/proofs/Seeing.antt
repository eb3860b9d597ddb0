-- What is shown of the state.
use Rattle.std.proofs.Common.{◌≡◌, ◌||◌, Bool, false, true, Option, refl, sym, ◌∙◌, ap, subst, inl, inr}
use Rattle.serde_json.specs.Data.{Data}
use Rattle.serde_json.specs.View.{view}
use Rattle.system.specs.declared.command.Command.{Command}
use Rattle.machine.specs.AtMachine.{AtMachine}
use Rattle.locked_execution.specs.AtDesk.{AtDesk}
use Rattle.dap_messages.specs.declared.answer.Answer.{Answer}
use Rattle.dap_messages.specs.declared.kind.Kind.{Kind}
use Rattle.dap_messages.specs.declared.request.Request.{Request}
use Rattle.dap_requests.specs.Sets.{PlacesAsked, is_own, path_in}
use Rattle.dap_requests.specs.Typed.{is_typed}
use Rattle.dap_server.specs.Kinds.{moves}
use Rattle.dap_views.specs.Seen.{Sees}
use Rattle.dap_views.specs.declared.program.Program.{Program}
use Rattle.dap_views.specs.declared.sight.Sight.{Sight}
use Rattle.dap.specs.Goes.{IsSeen, LaunchedGoes, seen_as}
use Rattle.dap.specs.Kinds.{begins, changes, may_move, types}
use Rattle.dap.specs.Sets.{Sets, SetsBy}
use Rattle.dap.specs.declared.launch.Launched.{Launched}

-- what a request sets does not change it
lines-sight : (d : Data) (c : Command) (p q : Program) (b : Answer) (own : Bool) → PlacesAsked own c d p b q → q.sight ≡ p.sight
lines-sight d c p q b own h = elim h [
  | inl still ↦ ap (λ (x : Program). x.sight) still.0
  | inr anew ↦ ap (λ (x : Program). x.sight) anew.2.same
]

by-sight : (kind : Kind) (d : Data) (c : Command) (p q : Program) (b : Answer) → SetsBy kind d c p b q → q.sight ≡ p.sight
by-sight Kind.SetBreakpoints d c p q b h = elim h [
  | inl other ↦ ap (λ (x : Program). x.sight) other.1
  | inr set ↦ lines-sight d c p q b (is_own p (path_in d)) set.1
]
by-sight Kind.SetDataBreakpoints d c p q b h = elim h [
  | inl still ↦ ap (λ (x : Program). x.sight) still.0
  | inr only ↦ ap (λ (x : Program). x.sight) only.2.1
]
by-sight Kind.SetExceptionBreakpoints d c p q b h = ap (λ (x : Program). x.sight) h
by-sight Kind.Terminate d c p q b h = ap (λ (x : Program). x.sight) h.0
by-sight Kind.ConfigurationDone d c p q b h = elim h [
  | inl begins ↦ ap (λ (x : Program). x.sight) begins.2
  | inr refused ↦ ap (λ (x : Program). x.sight) refused.2
]
by-sight Kind.BreakpointLocations d c p q b h = ap (λ (x : Program). x.sight) h.0
by-sight _ d c p q b h = ap (λ (x : Program). x.sight) h

pub sight_set : (request : Request) (c : Command) (p q : Program) (b : Answer) → Sets request c p b q → q.sight ≡ p.sight
sight_set request c p q b h = by-sight request.kind (view request.arguments) c p q b h

-- it is so where the state stays
pub seen_still : (d d' : AtDesk) (s t : Option Sight) → t ≡ s → d' ≡ d → Sees d.machine s → Sees d'.machine t
seen_still d d' s t shown same seen =
    subst (λ (x : AtDesk). Sees x.machine t) (sym same) (subst (λ (x : Option Sight). Sees d.machine x) (sym shown) seen)

-- the desk stays where nothing may move
none-of : (a b c : Bool) → (a || b || c) ≡ false → (a ≡ false) × (b ≡ false) × (c ≡ false)
none-of false false false is = (refl, refl, refl)
none-of true b c is = absurd (cc)
none-of false true c is = absurd (cc)
none-of false false true is = absurd (cc)

still-by : (P : Type 0) (kind : Kind) (typed : Bool) → moves kind ≡ false → types kind typed ≡ false → begins kind ≡ false →
    (kind ≡ Kind.Evaluate → typed ≡ false → P) → (changes kind ≡ false → P) → P
still-by P Kind.ConfigurationDone typed still line none looks reads = absurd (cc)
still-by P Kind.Evaluate typed still line none looks reads = looks refl line
still-by P _ typed still line none looks reads = reads (ap (λ (b : Bool). b || false) still)

desk-still : (l m : Launched) (request : Request) (a b : Answer) → LaunchedGoes l request a b m → may_move request ≡ false → m.desk ≡ l.desk
desk-still l m request a b h none =
    let each = none-of (moves request.kind) (types request.kind (is_typed request)) (begins request.kind) none in
    still-by (m.desk ≡ l.desk) request.kind (is_typed request) each.0 each.1 each.2 (λ same none. (h.looks same none).0) h.reads

-- what was looked at is so of this machine
pub looked_at : (n m : AtMachine) (s t : Option Sight) → n ≡ m → (Sees n s → Sees n t) → Sees m s → Sees m t
looked_at n m s t same h = subst (λ (x : AtMachine). Sees x s → Sees x t) same h

-- what is looked at anew, where something may have moved, is so
pub sees_on : (l m : Launched) (request : Request) (a b : Answer) (s t : Option Sight) (moved : Bool) (n : AtMachine) →
    (IsSeen l → IsSeen (seen_as l s)) → LaunchedGoes (seen_as l s) request a b m → moved ≡ may_move request → n ≡ m.desk.machine →
    ((moved ≡ false → Sees n m.program.sight) → Sees n t) → IsSeen l → IsSeen (seen_as m t)
sees_on l m request a b s t moved n kept h is own renewed seen =
    let there = subst (λ (x : AtMachine). (moved ≡ false → Sees x m.program.sight) → Sees x t) own renewed in
    there (λ none. h.sees (kept seen) (desk-still (seen_as l s) m request a b h (sym is ∙ none)))
