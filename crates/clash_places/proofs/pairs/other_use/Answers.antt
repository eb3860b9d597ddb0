-- What is found among all uses.
use Rattle.std.proofs.Common.{◌≡◌, ◌∙◌, ◌++◌, List, ap, ap₂}
use Rattle.sharing_check.specs.Uses.{VariableUse, uses_of}
use Rattle.clash_places.specs.internal.Pairs.{first_clash}
use Rattle.clash_places.proofs.Searched.{tells}
use Rattle.clash_places.proofs.pairs.other_use.Goals as goal

pub returns : goal.returns
returns c =
    let all : c.add_uses.new.uses.items ≡ uses_of c.args.system.now.main =
    c.in_ok-add_uses.ensures ∙ ap (λ (xs : List VariableUse). xs ++ uses_of c.args.system.now.main) c.new-uses.ensures.items in
    tells c.args.system.now c.args.offset c.first_clash.result
    (c.first_clash.ensures
    ∙ ap₂ (λ (xs ys : List VariableUse). first_clash c.args.system.now c.args.offset xs ys) (c.as_slice.ensures.value ∙ all) (c.as_slice-2.ensures.value ∙ all))
