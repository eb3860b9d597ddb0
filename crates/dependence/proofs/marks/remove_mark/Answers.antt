use Rattle.std.proofs.Common.{◌≡◌, ◌<◌, ℕ, suc, ◌-◌, List, Bool, true, false, length, take, ◌∙◌, ap, sym, subst, arith, length-set}
use Rattle.std.specs.Prelude.{slice_set}
use Rattle.std.proofs.lemmas.Option.{slice_get_within}
use Rattle.dependence.specs.internal.Marking.{EndsAt, UnmarkedFrom}
use Rattle.dependence.proofs.MarkEnds.{removed-unset, removed-cleared, ends-shorter, ends-removed, cleared-from, cleared-kept}
use Rattle.dependence.proofs.public.ListPlaces.{index-in}
use Rattle.dependence.proofs.marks.remove_mark.Goals as goal

pub returns-then-end-eq0 : goal.returns-then-end-eq0
returns-then-end-eq0 c =
    let marks : List Bool = c.args.marks.now.items in
    let at = index-in c.args.list.now.live (c.args.ticket, c.requires.live.0) c.requires.live.1 in
    let within : at.0 < length c.args.list.now.live = slice_get_within c.args.list.now.live at.0 _ at.1 in
    let alike : length marks ≡ length c.args.list.now.live = c.requires.size in
    let before : ℕ = length marks - 1 in
    let some : suc before ≡ length marks = omega arith in
    let size = c.args.marks.now.ok in
    let zero : EndsAt marks 0 = subst (λ (n : ℕ). EndsAt marks n) (omega arith) c.requires.ended in
    let left : c.pop.new.self.items ≡ take before marks = c.pop.ensures.rest ∙ ap (λ (n : ℕ). take n marks) (omega (arith, size)) in
    record {
      removed = (at.0, (c.requires.live.0, at.1), left ∙ removed-unset marks before at.0 some (omega arith) (λ k up on. zero.none k (omega arith) on));
      ended = subst (λ (k : List Bool). EndsAt k 0) (sym left) (ends-shorter marks before 0 0 (omega arith) zero.none zero);
    }

pub remove-requires : goal.remove-requires
remove-requires c =
    let alike : length c.args.marks.now.items ≡ length c.args.list.now.live = c.requires.size in
    let within : c.index_of_live-index.result < length c.args.list.now.live = slice_get_within c.args.list.now.live c.index_of_live-index.result _ c.index_of_live-index.ensures.1 in
    let size = c.args.marks.now.ok in
    omega arith

pub returns-then-index-end-clause-ended : goal.returns-then-index-end-clause-ended
returns-then-index-end-clause-ended c =
    subst (λ (k : List Bool). EndsAt k (c.args.end - 1)) (sym c.remove.ensures.items)
    (ends-removed c.args.marks.now.items c.index_of_live-index.result c.args.end (omega arith) c.requires.ended)

pub index_mut-requires : goal.index_mut-requires
index_mut-requires c =
    let alike : length c.args.marks.now.items ≡ length c.args.list.now.live = c.requires.size in
    let within : c.index_of_live-index.result < length c.args.list.now.live = slice_get_within c.args.list.now.live c.index_of_live-index.result _ c.index_of_live-index.ensures.1 in
    let size = c.args.marks.now.ok in
    omega arith

pub end_below-left-requires : goal.end_below-left-requires
end_below-left-requires c =
    let marks : List Bool = c.args.marks.now.items in
    let index : ℕ = c.index_of_live-index.result in
    let alike : length marks ≡ length c.args.list.now.live = c.requires.size in
    let inside : index < length c.args.list.now.live = slice_get_within c.args.list.now.live index _ c.index_of_live-index.ensures.1 in
    let within : index < length marks = omega arith in
    let last : c.args.end - 1 < length marks = slice_get_within marks (c.args.end - 1) true (c.requires.ended.last (omega arith)) in
    let lent : c.as_slice.result.now ≡ slice_set marks index false = c.as_slice.ensures.value in
    let long : length c.as_slice.result.now ≡ length marks = ap length lent ∙ length-set marks index false in
    record {
      within = omega arith;
      none = subst (λ (k : List Bool). UnmarkedFrom k c.args.end) (sym lent) (cleared-kept marks index c.args.end within c.requires.ended.none);
    }

pub returns : goal.returns
returns c =
    let marks : List Bool = c.args.marks.now.items in
    let index : ℕ = c.index_of_live-index.result in
    let cleared : List Bool = slice_set marks index false in
    let alike : length marks ≡ length c.args.list.now.live = c.requires.size in
    let inside : index < length c.args.list.now.live = slice_get_within c.args.list.now.live index _ c.index_of_live-index.ensures.1 in
    let within : index < length marks = omega arith in
    let before : ℕ = length marks - 1 in
    let size = c.args.marks.now.ok in
    let same : length cleared ≡ length marks = length-set marks index false in
    let some : suc before ≡ length cleared = omega arith in
    let lent : c.as_slice.result.now ≡ cleared = c.as_slice.ensures.value in
    let none : UnmarkedFrom cleared index = cleared-from marks index c.args.end within (omega arith) c.requires.ended in
    let left : c.pop-2.new.self.items ≡ take before cleared = c.pop-2.ensures.rest ∙ ap (λ (n : ℕ). take n cleared) (omega (arith, size)) in
    record {
      removed = (index, c.index_of_live-index.ensures, left ∙ removed-unset cleared before index some (omega arith) none ∙ removed-cleared marks index);
      ended = subst (λ (k : List Bool). EndsAt k c.end_below-left.result) (sym left)
          (ends-shorter cleared before index c.end_below-left.result (omega arith) none
          (subst (λ (k : List Bool). EndsAt k c.end_below-left.result) lent c.end_below-left.ensures));
    }
