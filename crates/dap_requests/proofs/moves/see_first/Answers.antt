use Rattle.std.proofs.Common.{◌≡◌, ℕ, Option, refl, sym, subst}
use Rattle.std.specs.Bool.{MatchBool}
use Rattle.locked_execution.specs.AtDesk.{AtDesk}
use Rattle.dap_requests.specs.Forth.{AreSeen}
use Rattle.dap_requests.proofs.moves.see_first.Goals as goal

pub returns-in-Some : goal.returns-in-Some
returns-in-Some c =
    let before = c.args.seen.now.items in
    let after = c.see_in.new.seen.items in
    subst
    (λ (k : Option ℕ). MatchBool c.see_in.result ((d : AtDesk) → d.machine ≡ c.args.machine.now → AreSeen d k before after) (after ≡ before))
    (sym c.in-Some.is) c.see_in.ensures

pub returns-in-None : goal.returns-in-None
returns-in-None c = λ d same.
    subst (λ (k : Option ℕ). AreSeen d k c.args.seen.now.items c.args.seen.now.items) (sym c.in-None.is) refl
