use Rattle.std.proofs.Common.{◌≡◌, ◌<◌, ◌∙◌, ℕ, List, Bool, true, false, length, slice_get, slice_set, refl, sym, ap, subst}
use Rattle.dependence.specs.LastEvents.{LastUse}
use Rattle.rings.specs.internal.Loosened.{is_marked}
use Rattle.rings.specs.internal.Tally.{Lowered}
use Rattle.rings.proofs.Tallied.{counts-some, found-counted, loosens-more}
use Rattle.rings.proofs.counts.loosen.Goals as goal

pub lower-requires : goal.lower-requires
lower-requires c = λ i u.
    let last : LastUse c.args.beside.now c.in_ok-row.row c.clearing.below c.in-Some.found = c.in-Some.ensures in
    let on : is_marked (slice_get c.clearing.marks.items c.in-Some.found) ≡ true =
    ap (λ (l : List Bool). is_marked (slice_get l c.in-Some.found)) (sym c.as_slice.ensures.value) ∙ sym c.is_marked.ensures ∙ c.if-is_marked.true in (
      subst (λ (n : ℕ). i < n) (sym c.clearing.invariant.counts) (c.requires.rows c.in-Some.found i u),
      counts-some c.args.edges.now (length c.args.marks.now.items) c.clearing.marks.items c.clearing.counts.items c.in-Some.found i c.clearing.invariant.counted
          (found-counted c.args.edges.now c.args.beside.now c.args.waiters.now c.args.number c.in_ok-row.row c.clearing.below c.in-Some.found c.args.marks.now.items c.clearing.marks.items
          c.args.counts.now.items c.clearing.counts.items c.args.todo.now.items c.clearing.todo.items c.in_ok-row.ensures last c.clearing.invariant) on u,
    )

pub clearing-preserved-in-Continue-branch-2 : goal.clearing-preserved-in-Continue-branch-2
clearing-preserved-in-Continue-branch-2 c =
    let last : LastUse c.args.beside.now c.in_ok-row.row c.clearing.below c.in-Some.found = c.in-Some.ensures in
    let on : is_marked (slice_get c.clearing.marks.items c.in-Some.found) ≡ true =
    ap (λ (l : List Bool). is_marked (slice_get l c.in-Some.found)) (sym c.as_slice.ensures.value) ∙ sym c.is_marked.ensures ∙ c.if-is_marked.true in
    loosens-more c.args.edges.now c.args.beside.now c.args.waiters.now c.args.number c.in_ok-row.row c.clearing.below c.in-Some.found c.args.marks.now.items c.clearing.marks.items
    c.args.counts.now.items c.clearing.counts.items c.args.todo.now.items c.clearing.todo.items c.in_ok-row.ensures last c.clearing.invariant
    (slice_set c.clearing.marks.items c.in-Some.found false) c.lower.new.counts.items c.lower.new.todo.items on refl
    (subst (λ (k : ℕ). Lowered c.args.edges.now c.args.waiters.now k c.in-Some.found c.clearing.counts.items c.lower.new.counts.items c.clearing.todo.items c.lower.new.todo.items)
    (c.len-limit.ensures ∙ c.args.marks.now.ok.0) c.in_ok-lower.ensures)
