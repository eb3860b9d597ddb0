use Rattle.std.proofs.Common.{◌∙◌, List, Bool, sym, subst}
use Rattle.std.proofs.lemmas.Result.{IfOk-weaker}
use Rattle.process_tree.specs.View.{proc_view}
use Rattle.rings.specs.internal.Ends.{sum_of, WantsEach}
use Rattle.rings.proofs.Chosen.{found-partners}
use Rattle.rings.proofs.partner.partners_of.Goals as goal

pub returns-clause-partners : goal.returns-clause-partners
returns-clause-partners c = λ values offers.
    IfOk-weaker c.partners_among.result _ _ (λ ps h. found-partners c.as_slice.result.now c.args.tree.now (proc_view c.root.result.now) values c.args.actions.now (sum_of c.in_ok-found.found)
    c.as_slice-2.result.now ps.items
    c.root.ensures (subst (λ (w : List Bool). WantsEach c.args.actions.now w) (sym c.as_slice.ensures.value) c.in_ok-wanted.ensures) offers c.in_ok-found.ensures
    (c.as_slice-2.ensures.value ∙ c.in_ok-ends.ensures) h) c.partners_among.ensures
