use Rattle.std.proofs.Common.{◌≡◌, ◌-◌, ◌<◌, ℕ, [], length, arith, subst}
use Rattle.std.proofs.lemmas.Option.{slice_get_within}
use Rattle.dependence.specs.Shown.{Shown, Greatest}
use Rattle.dependence.proofs.public.Markings.{last-greatest, none-at-all}
use Rattle.dependence.proofs.live.Live.last_marked.Goals as goal

pub returns-then-self-eq0 : goal.returns-then-self-eq0
returns-then-self-eq0 c =
    subst (λ (s : Shown). s.marked ≡ []) c.self.view_is
    (none-at-all c.self.inside.list.live c.self.inside.marks.items (λ k up on. c.self.invariant.3.none k (omega arith) on))

pub ticket_at-requires : goal.ticket_at-requires
ticket_at-requires c =
    let at = slice_get_within c.self.inside.marks.items (c.self.inside.marked_to - 1) _ (c.self.invariant.3.last (omega arith)) in
    let less : c.self.inside.marked_to - 1 < length c.self.inside.marks.items = at in
    let size : length c.self.inside.marks.items ≡ length c.self.inside.list.live = c.self.invariant.0.marks in
    omega arith

pub returns : goal.returns
returns c =
    let last : ℕ = c.self.inside.marked_to - 1 in
    subst (λ (s : Shown). Greatest s.marked c.ticket_at.result) c.self.view_is
    (last-greatest c.self.inside.list.live c.self.inside.marks.items last (c.ticket_at.result, c.ticket_at.ensures.0) c.self.invariant.0.rising c.ticket_at.ensures.1
    (c.self.invariant.3.last (omega arith)) (λ k up on. c.self.invariant.3.none k (omega arith) on))
