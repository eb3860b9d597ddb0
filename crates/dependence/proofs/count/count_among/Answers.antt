use Rattle.std.proofs.Common.{ℕ, length, take, refl, sym, subst, arith, ◌+◌, ◌∙◌, true≢false}
use Rattle.std.proofs.lemmas.List.{length_push}
use Rattle.runs.specs.Live.{Live}
use Rattle.dependence.specs.internal.Tables.{CountsAmong}
use Rattle.dependence.proofs.public.ListPlaces.{take-all, got-here}
use Rattle.dependence.proofs.public.Turns.{turn, turn-within, ended}
use Rattle.dependence.proofs.Counting.{among-none, among-more, among-same}
use Rattle.dependence.proofs.count.count_among.Goals as goal

pub loop-other-init : goal.loop-other-init
loop-other-init c = record { counted = among-none c.args.event.now; bound = omega arith }

pub loop-other-preserved-then-depends_directly : goal.loop-other-preserved-then-depends_directly
loop-other-preserved-then-depends_directly c =
    let l : Live = c.args.later in
    let step : ℕ = length c.loop-other.yielded in
    let all = c.into_iter-other-iterator.ensures.into_iter_gives in
    let at = turn l _ _ _ c.loop-other.yielded _ step all refl c.loop-other.yielded_by c.in-Some.ensures.steps in
    let less = turn-within l _ _ _ c.loop-other.yielded _ step all refl c.loop-other.yielded_by c.in-Some.ensures.steps in
    let is = sym (got-here l step _ _ at) in
    let size = length_push c.loop-other.yielded (c.in-Some.field-0-0, c.in-Some.other) in
    let was = c.loop-other.invariant.bound in
    record {
      counted = subst (λ (n : ℕ). CountsAmong c.args.event.now (take n l) (c.loop-other.count + 1)) (sym size)
          (among-more c.args.event.now l step c.loop-other.count _ c.requires.rising less is c.loop-other.invariant.counted (c.depends_directly.ensures.0 c.if-depends_directly.true));
      bound = omega arith;
    }

pub loop-other-preserved : goal.loop-other-preserved
loop-other-preserved c =
    let l : Live = c.args.later in
    let step : ℕ = length c.loop-other.yielded in
    let all = c.into_iter-other-iterator.ensures.into_iter_gives in
    let at = turn l _ _ _ c.loop-other.yielded _ step all refl c.loop-other.yielded_by c.in-Some.ensures.steps in
    let less = turn-within l _ _ _ c.loop-other.yielded _ step all refl c.loop-other.yielded_by c.in-Some.ensures.steps in
    let is = sym (got-here l step _ _ at) in
    let size = length_push c.loop-other.yielded (c.in-Some.field-0-0, c.in-Some.other) in
    let was = c.loop-other.invariant.bound in
    record {
      counted = subst (λ (n : ℕ). CountsAmong c.args.event.now (take n l) c.loop-other.count) (sym size)
          (among-same c.args.event.now l step c.loop-other.count _ c.requires.rising less is c.loop-other.invariant.counted
          (λ d. true≢false (sym (c.depends_directly.ensures.1 d) ∙ c.if-depends_directly.false)));
      bound = omega arith;
    }

pub returns : goal.returns
returns c =
    let end = ended c.args.later _ _ c.loop-other.yielded c.into_iter-other-iterator.ensures.into_iter_gives c.loop-other.yielded_by c.in-None.ensures.steps.0 in
    subst (λ (k : Live). CountsAmong c.args.event.now k c.loop-other.count) (take-all c.args.later (length c.loop-other.yielded) (omega (arith, end)))
    c.loop-other.invariant.counted
