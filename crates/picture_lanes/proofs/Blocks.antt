-- Calls, one after another, and the blocks that they make.
use Rattle.std.proofs.Common.{◌≡◌, ℕ, suc, ◌+◌, ◌-◌, ◌<◌, ◌≤◌, List, [], ◌∷◌, ◌++◌, length, get_or, Option, Some, None, refl, sym, ◌∙◌, ap, arith, rules, length-append}
use Rattle.std.specs.Prelude.{slice_get}
use Rattle.std.proofs.lemmas.Option.{slice_get_past, slice_get_read}
use Rattle.types.specs.declared.tree.Action.{Action, Call, out-Action}
use Rattle.types.specs.declared.tree.Action.TheFolds.{the_lemmas}
use Rattle.types.specs.declared.tree.ChannelUse.{ChannelUse}
use Rattle.types.specs.declared.tree.Command.{Command, out-Command}
use Rattle.types.specs.declared.tree.Procedure.{Procedure}
use Rattle.picture_lanes.specs.Calls.{At, behind_calls, call_at, called_at, entered, instance_of, onward}
use Rattle.picture_lanes.specs.declared.lane.Instance.{Instance}

-- ---- one call

of-call : (procedures : List Procedure) (at : At) (number : ℕ) (arguments : List ChannelUse) →
    call_at procedures at (out-Action (Call number arguments)) ≡ called_at procedures at number arguments (slice_get procedures number)
of-call procedures at number arguments = search (rules, the_lemmas)

call-entered : (procedures : List Procedure) (at : At) (number : ℕ) (arguments : List ChannelUse) → (out-Command at.written).action ≡ Call number arguments →
    entered procedures at ≡ called_at procedures at number arguments (slice_get procedures number)
call-entered procedures at number arguments is =
    ap (λ (a : Action). call_at procedures at (out-Action a)) is ∙ of-call procedures at number arguments

-- a call of a procedure that is not there
pub not_there : (procedures : List Procedure) (at : At) (number : ℕ) (arguments : List ChannelUse) → (out-Command at.written).action ≡ Call number arguments →
    length procedures ≤ number → entered procedures at ≡ None
not_there procedures at number arguments is past =
    call-entered procedures at number arguments is ∙ ap (called_at procedures at number arguments) (slice_get_past procedures number past)

abbrev at_some : Command → ℕ → List Instance → Option At
at_some written block instances = Some (record { written = written; block = block; instances = instances })

-- a call of one that is there
pub is_entered : (procedures : List Procedure) (at : At) (number : ℕ) (arguments given : List ChannelUse) (p : Procedure) (slice new : List Instance) (made : Instance) →
    (out-Command at.written).action ≡ Call number arguments → number < length procedures → p ≡ get_or procedures number p →
    slice ≡ at.instances → given ≡ arguments →
    made ≡ instance_of procedures slice at.block (out-Command at.written).line number p given → new ≡ at.instances ++ made ∷ [] →
    entered procedures at ≡ Some (record { written = p.body; block = length new - 1; instances = new })
is_entered procedures at number arguments given p slice new made is less here before same block more =
    let line = (out-Command at.written).line in
    let stands : slice_get procedures number ≡ Some p = slice_get_read procedures (length procedures) number p refl less here in
    let whole : made ≡ instance_of procedures at.instances at.block line number p arguments =
    block
    ∙ ap (λ (s : List Instance). instance_of procedures s at.block line number p given) before
    ∙ ap (λ (us : List ChannelUse). instance_of procedures at.instances at.block line number p us) same in
    let all : new ≡ at.instances ++ instance_of procedures at.instances at.block line number p arguments ∷ [] =
    more ∙ ap (λ (i : Instance). at.instances ++ i ∷ []) whole in
    let long : length new ≡ length (at.instances ++ made ∷ []) = ap (λ (is : List Instance). length is) more in
    let parts = length-append at.instances (made ∷ []) in
    let size : length at.instances ≡ length new - 1 = omega arith in
    call-entered procedures at number arguments is
    ∙ ap (called_at procedures at number arguments) stands
    ∙ ap (λ (b : ℕ). at_some p.body b (at.instances ++ instance_of procedures at.instances at.block line number p arguments ∷ [])) size
    ∙ ap (λ (is : List Instance). at_some p.body (length new - 1) is) (sym all)

-- ---- one after another

-- a call stands for what its body stands for behind one call less
pub passed_call : (n k : ℕ) (procedures : List Procedure) (at next whole : At) → k < n → entered procedures at ≡ Some next →
    behind_calls (n - k) procedures at ≡ whole → behind_calls (n - (k + 1)) procedures next ≡ whole
passed_call n k procedures at next whole less is so_far =
    let one : n - k ≡ suc (n - (k + 1)) = omega arith in
    sym (ap (λ (o : Option At). onward at (behind_calls (n - (k + 1)) procedures) o) is)
    ∙ sym (ap (λ (i : ℕ). behind_calls i procedures at) one)
    ∙ so_far
