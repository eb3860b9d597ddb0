use Rattle.std.proofs.Common.{◌∙◌, ◌<◌, ℕ, List, Some, length, sym, ap, arith}
use Rattle.std.proofs.lemmas.Option.{slice_get-get_or}
use Rattle.past.proofs.BlockLaws.{gathers}
use Rattle.past.proofs.blocks.below_at.Goals as goal

pub gathered-requires : goal.gathered-requires
gathered-requires c = λ p i.
    let place : ℕ = c.args.place in
    let list : List ℕ = c.index-leads-place.result in
    let within = c.requires.within in
    let size = c.requires.size in
    let marks = c.requires.size_marks in
    let inside : place < length c.args.leads.now = omega arith in
    let at = slice_get-get_or c.args.leads.now place list inside ∙ ap (λ (ks : List ℕ). Some ks) (sym c.index-leads-place.is)
    ∙ ap (λ (ks : List ℕ). Some ks) (sym c.as_slice.ensures) in
    let less : p < place = c.requires.down place p c.as_slice.result.now at i in
    omega arith

pub returns : goal.returns
returns c =
    let place : ℕ = c.args.place in
    let list : List ℕ = c.index-leads-place.result in
    let within = c.requires.within in
    let size = c.requires.size in
    let marks = c.requires.size_marks in
    let inside : place < length c.args.leads.now = omega arith in
    let at = slice_get-get_or c.args.leads.now place list inside ∙ ap (λ (ks : List ℕ). Some ks) (sym c.index-leads-place.is)
    ∙ ap (λ (ks : List ℕ). Some ks) (sym c.as_slice.ensures) in
    gathers c.args.leads.now c.requires.down c.args.asked c.args.whole.now c.args.first c.args.end place c.args.marks.now c.as_slice.result.now c.gathered.result
    (omega arith) at c.requires.marks c.gathered.ensures.reached c.gathered.ensures.behind
