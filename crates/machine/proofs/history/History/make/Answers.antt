use Rattle.std.proofs.Common.{◌≡◌, ◌∙◌, Some, IsSome, refl, sym, ap, subst}
use Rattle.runs.specs.Steps.{opening}
use Rattle.runs.specs.declared.event.Event.{Event}
use Rattle.dependence.specs.Shown.{Shown}
use Rattle.event_inverse.specs.Grown.{TreeAndStore, applied}
use Rattle.event_inverse.specs.View.{both_view, inverse_view}
use Rattle.event_inverse.specs.declared.record.Inverse.{Inverse}
use Rattle.machine.specs.internal.Histories.{tree_of}
use Rattle.machine.proofs.public.Standing.{allowed-applies, below-next, allowed-behind, stands-more, stands-same}
use Rattle.machine.proofs.history.History.make.Goals as goal

-- what was made of an event is what was made of an equal one
made-same : (T U V : TreeAndStore) (e f : Event) (i j : Inverse) → applied T e ≡ Some (U, inverse_view i) → f ≡ e → V ≡ U → j ≡ i →
    applied T f ≡ Some (V, inverse_view j)
made-same T U V e f i j made ef ev ej = cc

pub apply_by-requires : goal.apply_by-requires
apply_by-requires c = record {
  possible = subst (λ (e : Event). IsSome (applied (tree_of c.args.self.now) e)) (sym c.get.ensures)
      (allowed-applies (tree_of c.args.self.now) c.args.kept c.requires.allowed);
}

pub enter-requires-clause-above : goal.enter-requires-clause-above
enter-requires-clause-above c =
    let h = c.args.self.now in
    below-next c.args.system.now (tree_of h) h.live.live h.inverses h.next c.requires.holds

pub enter-requires-clause-behind : goal.enter-requires-clause-behind
enter-requires-clause-behind c =
    let h = c.args.self.now in
    allowed-behind c.args.system.now (tree_of h) h.live.live h.inverses h.next c.args.kept c.args.kept c.shares_well.ensures
    c.requires.holds c.requires.allowed refl

pub unmake-requires : goal.unmake-requires
unmake-requires c =
    let T : TreeAndStore = tree_of c.args.self.now in
    let made = ap (λ (e : Event). applied T e) (sym c.get.ensures) ∙ c.in_ok-inverse.ensures.made in (
      T,
      made-same T (both_view c.apply_by.new.tree c.apply_by.new.store) (tree_of c.enter.new.self) c.args.kept c.get-event.result.now
          c.in_ok-inverse.inverse c.in-Err.inverse made (c.get-event.ensures ∙ c.in-Err.ensures.back.1) c.in-Err.ensures.refused.tree c.in-Err.ensures.back.0,
    )

pub returns-in-Ok-clause-holds : goal.returns-in-Ok-clause-holds
returns-in-Ok-clause-holds c =
    let h = c.args.self.now in
    let h' = c.enter.new.self in
    let entered = c.in-Ok.ensures.entered in
    let made = ap (λ (e : Event). applied (tree_of h) e) (sym c.get.ensures) ∙ c.in_ok-inverse.ensures.made in
    stands-more c.args.system.now (tree_of h) (both_view c.apply_by.new.tree c.apply_by.new.store) (tree_of h') h.live.live h'.live.live h.inverses h'.inverses
    h.next h'.next c.args.kept c.args.kept c.in_ok-inverse.inverse c.requires.holds c.requires.allowed c.requires.few c.requires.unspent
    made refl entered.tree entered.live entered.inverses entered.next

pub returns-in-Err-clause-holds : goal.returns-in-Err-clause-holds
returns-in-Err-clause-holds c =
    let h = c.args.self.now in
    let h' = c.unmake.new.self in
    let refused = c.in-Err.ensures.refused in
    let made = ap (λ (e : Event). applied (tree_of h) e) (sym c.get.ensures) ∙ c.in_ok-inverse.ensures.made in
    let remade = made-same (tree_of h) (both_view c.apply_by.new.tree c.apply_by.new.store) (tree_of c.enter.new.self) c.args.kept c.get-event.result.now
    c.in_ok-inverse.inverse c.in-Err.inverse made (c.get-event.ensures ∙ c.in-Err.ensures.back.1) refused.tree c.in-Err.ensures.back.0 in
    stands-same c.args.system.now (tree_of h) (tree_of h') h.live.live h'.live.live h.inverses h'.inverses h.next h'.next c.requires.holds
    (c.unmake.ensures.tree (tree_of h) remade) (rw c.unmake.ensures.live refused.live) (c.unmake.ensures.inverses ∙ refused.inverses)
    (c.unmake.ensures.next ∙ refused.next)

pub returns-in-Ok-clause-marked : goal.returns-in-Ok-clause-marked
returns-in-Ok-clause-marked c = c.in-Ok.ensures.entered.marked

pub returns-in-Err-clause-marked : goal.returns-in-Err-clause-marked
returns-in-Err-clause-marked c = ap (λ (s : Shown). s.marked) c.unmake.ensures.live ∙ c.in-Err.ensures.refused.marked

pub returns-in-Ok-clause-added : goal.returns-in-Ok-clause-added
returns-in-Ok-clause-added c =
    let entered = c.in-Ok.ensures.entered in
    λ i. record { opening = opening c.args.system.now; live = entered.live i; next = entered.next i }

pub returns-in-Err-clause-unchanged : goal.returns-in-Err-clause-unchanged
returns-in-Err-clause-unchanged c =
    let refused = c.in-Err.ensures.refused in
    let live = ap (λ (s : Shown). s.live) c.unmake.ensures.live ∙ refused.live in
    let next = c.unmake.ensures.next ∙ refused.next in
    λ i. record { opening = opening c.args.system.now; live = live i; next = next i }
