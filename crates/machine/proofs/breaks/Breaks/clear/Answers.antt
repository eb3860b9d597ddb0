use Rattle.std.proofs.Common.{◌≡◌, ◌==◌, ◌∙◌, ◌<◌, ℕ, List, not, ap, rules, sym, subst, arith}
use Rattle.std.specs.Prelude.{filter}
use Rattle.runs.specs.InOrder.{InOrder}
use Rattle.arrayvec.proofs.ArrayVecLemmas.{filter-from_retain}
use Rattle.machine.specs.Breakpoints.{without_line}
use Rattle.machine.proofs.SetLines.{ordered-filter}
use Rattle.machine.proofs.breaks.Breaks.clear.Goals as goal

pub returns : goal.returns
returns c =
    let left : c.retain.new.self.items ≡ filter (λ held. not (held == c.args.line)) c.self.inside.lines.items =
    filter-from_retain _ (λ held. not (held == c.args.line)) _ (λ x b f' y called. search rules) _ _ c.retain.ensures.filtered in
    left ∙ ap (without_line c.args.line) c.self.view_is

pub invariant_of-self : goal.invariant_of-self
invariant_of-self c =
    let left : c.retain.new.self.items ≡ filter (λ held. not (held == c.args.line)) c.self.inside.lines.items =
    filter-from_retain _ (λ held. not (held == c.args.line)) _ (λ x b f' y called. search rules) _ _ c.retain.ensures.filtered in (
      subst (λ (l : List ℕ). InOrder ◌<◌ l) (sym left) (ordered-filter (λ held. not (held == c.args.line)) c.self.inside.lines.items c.self.invariant.0),
      omega arith,
    )
