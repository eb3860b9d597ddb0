use Rattle.std.proofs.Common.{◌≡◌, ◌+◌, ◌<◌, ◌∙◌, lit<, ℕ, List, true, false, length, inl, inr, ap, sym, subst, arith}
use Rattle.system.specs.Expression.{is_in}
use Rattle.runs.specs.InOrder.{InOrder}
use Rattle.machine.specs.Breakpoints.{with_line}
use Rattle.machine.proofs.SetLines.{with-there, place-within, put-line, put-ordered, room-left}
use Rattle.machine.proofs.breaks.Breaks.set.Goals as goal

pub returns-then-has : goal.returns-then-has
returns-then-has c =
    let there : is_in c.args.line c.args.self.now ≡ true = sym c.has.ensures ∙ c.if-has.true in
    (inl there, with-there c.args.line c.args.self.now (subst (λ (l : List ℕ). InOrder ◌<◌ l) c.self.view_is c.self.invariant.0) there)

pub insert-requires : goal.insert-requires
insert-requires c = (
  lit< tt,
  (
    place-within c.args.line c.lesser_count-index.result c.as_slice.result.now c.self.inside.lines.items c.lesser_count-index.ensures c.as_slice.ensures.value,
    room-left _ _ c.is_full.result c.is_full.ensures.value c.if-is_full.false c.is_full.ensures.fits,
  ),
)

pub invariant_of-self : goal.invariant_of-self
invariant_of-self c =
    let out : is_in c.args.line c.self.inside.lines.items ≡ false = ap (is_in c.args.line) c.self.view_is ∙ sym c.has.ensures ∙ c.if-has.false in
    let room : length c.self.inside.lines.items < 64 = room-left _ _ c.is_full.result c.is_full.ensures.value c.if-is_full.false c.is_full.ensures.fits in
    let more : length c.insert.new.self.items ≡ length c.self.inside.lines.items + 1 = c.insert.ensures.len in (
      put-ordered c.args.line c.self.inside.lines.items c.insert.new.self.items c.self.invariant.0
          (put-line c.args.line c.lesser_count-index.result c.as_slice.result.now c.self.inside.lines.items c.insert.new.self.items out
          c.lesser_count-index.ensures c.as_slice.ensures.value c.insert.ensures.items),
      omega arith,
    )

pub returns : goal.returns
returns c =
    let out : is_in c.args.line c.self.inside.lines.items ≡ false = ap (is_in c.args.line) c.self.view_is ∙ sym c.has.ensures ∙ c.if-has.false in
    let room : length c.self.inside.lines.items < 64 = room-left _ _ c.is_full.result c.is_full.ensures.value c.if-is_full.false c.is_full.ensures.fits in (
      inr (subst (λ (l : List ℕ). length l < 64) c.self.view_is room),
      put-line c.args.line c.lesser_count-index.result c.as_slice.result.now c.self.inside.lines.items c.insert.new.self.items out
          c.lesser_count-index.ensures c.as_slice.ensures.value c.insert.ensures.items
          ∙ ap (with_line c.args.line) c.self.view_is,
    )
