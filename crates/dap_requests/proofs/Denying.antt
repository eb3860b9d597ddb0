-- Why a request to move is refused.
use Rattle.std.proofs.Common.{◌≡◌, ◌≤◌, ◌<◌, ℕ, true, false, Option, None, Some, codes, ap, arith, subst, sym, ◌∙◌}
use Rattle.std.specs.Prelude.{is_some}
use Rattle.serde_json.specs.View.{view}
use Rattle.system_places.specs.SystemBranches.{branch_count}
use Rattle.locked_execution.specs.AtDesk.{AtDesk}
use Rattle.machine.specs.AtMachine.{AtMachine}
use Rattle.dap_messages.specs.Arguments.{number_named, part_named}
use Rattle.dap_messages.specs.declared.kind.Kind.{Kind}
use Rattle.dap_messages.specs.declared.request.Request.{Request}
use Rattle.dap_threads.specs.Threads.{branch_named}
use Rattle.dap_requests.specs.Denied.{IsNoTarget, NamesNoStep, NamesNoThread}

-- the step is named by the number 0
pub no_step : (request : Request) (n : ℕ) → request.kind ≡ Kind.StepIn → number_named (codes "targetId") (view request.arguments) ≡ Some n → n ≤ 0 →
    NamesNoStep request
no_step request n is named none =
    let zero_is : n ≡ 0 = omega arith in (
      is,
      subst (λ (o : Option ℕ). IsNoTarget (part_named (codes "targetId") (view request.arguments)) o) (sym named) zero_is,
    )

-- or by no number
pub no_number : (request : Request) → request.kind ≡ Kind.StepIn → number_named (codes "targetId") (view request.arguments) ≡ None →
    is_some (part_named (codes "targetId") (view request.arguments)) ≡ true → NamesNoStep request
no_number request is named there = (
  is,
  subst (λ (o : Option ℕ). IsNoTarget (part_named (codes "targetId") (view request.arguments)) o) (sym named) there,
)

-- nor does it where it is named by another
pub step_named : (request : Request) (n : ℕ) → number_named (codes "targetId") (view request.arguments) ≡ Some n → 0 < n → NamesNoStep request → ⊥
step_named request n named some h =
    let none : n ≡ 0 =
    subst (λ (o : Option ℕ). IsNoTarget (part_named (codes "targetId") (view request.arguments)) o) named h.1 in omega (arith, some, none)

-- or by none
pub step_unnamed : (request : Request) → number_named (codes "targetId") (view request.arguments) ≡ None →
    is_some (part_named (codes "targetId") (view request.arguments)) ≡ false → NamesNoStep request → ⊥
step_unnamed request named none h =
    let there : is_some (part_named (codes "targetId") (view request.arguments)) ≡ true =
    subst (λ (o : Option ℕ). IsNoTarget (part_named (codes "targetId") (view request.arguments)) o) named h.1 in
    let no : true ≡ false = sym there ∙ none in cc

-- a request of another kind names none
pub other_step : (request : Request) → (request.kind ≡ Kind.StepIn → ⊥) → NamesNoStep request → ⊥
other_step request other h = other h.0

-- no thread was found
pub no_thread : (d : AtDesk) (m : AtMachine) (request : Request) (found : Option ℕ) → m ≡ d.machine →
    found ≡ branch_named (branch_count m.checked) (number_named (codes "threadId") (view request.arguments)) → found ≡ None →
    NamesNoThread d request
no_thread d m request found same is none =
    sym (is ∙ ap (λ (n : AtMachine). branch_named (branch_count n.checked) (number_named (codes "threadId") (view request.arguments))) same)
    ∙ none
