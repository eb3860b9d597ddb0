use Rattle.std.proofs.Common.{◌∙◌, List, Bool, length, sym, ap, subst, refl}
use Rattle.runs.specs.Live.{Live}
use Rattle.dependence.specs.internal.Marking.{NoneLess, EndsAt}
use Rattle.dependence.specs.internal.Tables.{IsRising}
use Rattle.dependence.proofs.live.Live.marked.Goals as goal

pub copy_marked-requires : goal.copy_marked-requires
copy_marked-requires c = record {
  rising = subst (λ (k : Live). IsRising k) (sym refl) c.self.invariant.0.rising;
  size = ap length c.as_slice.ensures.value ∙ c.self.invariant.0.marks ∙ sym (ap length refl);
  lower = subst (λ (k : Live). NoneLess k c.as_slice.result.now c.self.inside.first_marked) (sym refl)
      (subst (λ (k : List Bool). NoneLess c.self.inside.list.live k c.self.inside.first_marked) (sym c.as_slice.ensures.value) c.self.invariant.2);
  ended = subst (λ (k : List Bool). EndsAt k c.self.inside.marked_to) (sym c.as_slice.ensures.value) c.self.invariant.3;
}
