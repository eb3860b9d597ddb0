use Rattle.std.proofs.Common.{◌≡◌, ◌∙◌, ◌<◌, ◌≤◌, ◌+◌, ℕ, List, [], ◌∷◌, ◌++◌, drop, Option, Some, None, length, slice_get, slice_set, vec_len, Vec, sym, ap, subst, arith, rules}
use Rattle.std.specs.Global.{Global}
use Rattle.std.proofs.lemmas.Option.{slice_get_within}
use Rattle.std.proofs.lemmas.Result.{IfOk-weaker}
use Rattle.std.specs.Option.{option_to_list}
use Rattle.syntax.specs.Lists.{In}
use Rattle.rings.specs.declared.ring.Seen.{Seen}
use Rattle.rings.specs.declared.ring.Seen.TheVariants.{Done, New, OnWay}
use Rattle.rings.specs.internal.Search.{Apart, NextOpen, Test, count_new, is_open, same_at, waits}
use Rattle.rings.specs.internal.Trails.{SoundTrail}
use Rattle.rings.proofs.FirstFound.{comes-first, comes-less, comes-nowhere, comes-on, comes-round}
use Rattle.rings.proofs.Marked.{begins-as, count-kept, count-less, goes-back-as, goes-on-as, mark-within, next-is-new, told-from, top-within}
use Rattle.rings.proofs.Places.{alike, itself}
use Rattle.rings.proofs.Trailing.{sound-entered, sound-left, sound-next, sound-none}
use Rattle.rings.proofs.ring.ring_from.Goals as goal

pub enter-requires-clause-within : goal.enter-requires-clause-within
enter-requires-clause-within c = mark-within c.args.trail.now.seen.items c.args.start New c.requires.start

pub search-init : goal.search-init
search-init c =
    let n : ℕ = length c.args.actions.now in
    let w : Test = waits c.args.actions.now c.args.partners.now c.args.marks.now in
    let u : Test = same_at c.args.actions.now in
    let less : c.args.start < length c.args.trail.now.seen.items = mark-within c.args.trail.now.seen.items c.args.start New c.requires.start in
    let within : c.args.start < n = subst (λ (k : ℕ). c.args.start < k) c.requires.so_far.size less in
    let way : c.push.new.self.items ≡ c.args.start ∷ [] = c.in_ok-push.ensures.items ∙ ap (λ (z : List ℕ). z ++ c.args.start ∷ []) c.new-way.ensures.items in
    let on : is_open (slice_get c.args.trail.now.seen.items c.args.start) ≡ is_open (Some New) = ap is_open c.requires.start in (
      begins-as n w u c.args.trail.now.seen.items c.enter.new.trail.seen.items c.args.start c.push.new.self.items c.requires.so_far within c.enter.ensures.seen way,
      subst (λ (z : List ℕ). SoundTrail c.args.tables.now c.args.actions.now c.enter.new.trail z) (sym way)
          (sound-entered c.args.tables.now c.args.actions.now c.args.partners.now c.requires.tables c.args.start c.args.trail.now c.enter.new.trail [] within c.requires.so_far.size on
          c.enter.ensures c.requires.sound),
      λ before d. comes-first c.args.actions.now c.args.partners.now c.args.marks.now before c.args.trail.now.seen.items c.enter.new.trail.seen.items c.args.start c.push.new.self.items d
          c.requires.so_far.size within c.requires.start c.requires.before c.requires.so_far.on_way c.enter.ensures.seen way,
    )

pub leave-requires-clause-within : goal.leave-requires-clause-within
leave-requires-clause-within c =
    let n : ℕ = length c.args.actions.now in
    let w : Test = waits c.args.actions.now c.args.partners.now c.args.marks.now in
    let u : Test = same_at c.args.actions.now in
    let old : c.search.way.items ≡ c.pop.new.self.items ++ c.in-Some.top ∷ [] = c.pop.ensures.items ∙ ap (λ (o : Option ℕ). c.pop.new.self.items ++ option_to_list o) c.in-Some.is in
    let seen : c.next_open.new.trail.seen.items ≡ c.search.trail.seen.items = ap (λ (v : Vec Seen Global). v.items) c.next_open.ensures.seen in
    let top : c.in-Some.top < length c.search.trail.seen.items =
    top-within n w u c.args.trail.now.seen.items c.search.trail.seen.items c.args.start c.in-Some.top c.search.way.items c.pop.new.self.items c.search.invariant.0 old in
    subst (λ (l : List Seen). c.in-Some.top < length l) (sym seen) top

pub leave-requires-clause-held : goal.leave-requires-clause-held
leave-requires-clause-held c =
    let sound : SoundTrail c.args.tables.now c.args.actions.now c.next_open.new.trail c.search.way.items =
    sound-next c.args.tables.now c.args.actions.now c.search.trail c.next_open.new.trail c.search.way.items c.next_open.ensures.seen c.next_open.ensures.held
    (c.next_open.ensures.left c.args.actions.now) c.search.invariant.1 in
    sound.size

pub search-smaller-in_default-next_open : goal.search-smaller-in_default-next_open
search-smaller-in_default-next_open c =
    let seen : c.next_open.new.trail.seen.items ≡ c.search.trail.seen.items = ap (λ (v : Vec Seen Global). v.items) c.next_open.ensures.seen in
    let noted : c.leave.new.trail.seen.items ≡ slice_set c.search.trail.seen.items c.in-Some.top Done =
    c.leave.ensures.seen ∙ ap (λ (l : List Seen). slice_set l c.in-Some.top Done) seen in
    let kept : count_new c.leave.new.trail.seen.items ≤ count_new c.search.trail.seen.items =
    subst (λ (l : List Seen). count_new l ≤ count_new c.search.trail.seen.items) (sym noted) (count-kept c.search.trail.seen.items c.in-Some.top) in
    let len : vec_len c.pop.new.self + 1 ≡ vec_len c.search.way = omega (arith, c.in-Some.ensures.len) in
    omega (arith, kept, len)

pub search-preserved-in_default-next_open : goal.search-preserved-in_default-next_open
search-preserved-in_default-next_open c =
    let n : ℕ = length c.args.actions.now in
    let w : Test = waits c.args.actions.now c.args.partners.now c.args.marks.now in
    let u : Test = same_at c.args.actions.now in
    let old : c.search.way.items ≡ c.pop.new.self.items ++ c.in-Some.top ∷ [] = c.pop.ensures.items ∙ ap (λ (o : Option ℕ). c.pop.new.self.items ++ option_to_list o) c.in-Some.is in
    let seen : c.next_open.new.trail.seen.items ≡ c.search.trail.seen.items = ap (λ (v : Vec Seen Global). v.items) c.next_open.ensures.seen in
    let top : c.in-Some.top < length c.search.trail.seen.items =
    top-within n w u c.args.trail.now.seen.items c.search.trail.seen.items c.args.start c.in-Some.top c.search.way.items c.pop.new.self.items c.search.invariant.0 old in
    let sound : SoundTrail c.args.tables.now c.args.actions.now c.next_open.new.trail c.search.way.items =
    sound-next c.args.tables.now c.args.actions.now c.search.trail c.next_open.new.trail c.search.way.items c.next_open.ensures.seen c.next_open.ensures.held
    (c.next_open.ensures.left c.args.actions.now) c.search.invariant.1 in
    let no : c.next_open.result ≡ None = first_of (cc, search rules) in
    let none : NextOpen n w c.search.trail.seen.items c.in-Some.top None =
    subst (λ (o : Option ℕ). NextOpen n w c.search.trail.seen.items c.in-Some.top o) no
    (c.next_open.ensures.next c.args.actions.now c.requires.tables.groups c.requires.tables.waiters c.search.invariant.1.opens c.search.invariant.0.searching.size) in
    let apart : Apart u (c.pop.new.self.items ++ c.in-Some.top ∷ []) = subst (λ (z : List ℕ). Apart u z) old c.search.invariant.0.searching.apart in (
      goes-back-as n w u c.args.trail.now.seen.items c.search.trail.seen.items c.leave.new.trail.seen.items c.args.start c.in-Some.top c.search.way.items
          c.pop.new.self.items c.search.invariant.0 old none (c.leave.ensures.seen ∙ ap (λ (l : List Seen). slice_set l c.in-Some.top Done) seen),
      sound-left c.args.tables.now c.args.actions.now c.args.partners.now c.requires.tables c.in-Some.top c.next_open.new.trail c.leave.new.trail c.pop.new.self.items
          (subst (λ (k : ℕ). c.in-Some.top < k) c.search.invariant.0.searching.size top) (ap (λ (l : List Seen). length l) seen ∙ c.search.invariant.0.searching.size) apart
          c.leave.ensures (subst (λ (z : List ℕ). SoundTrail c.args.tables.now c.args.actions.now c.next_open.new.trail z) old sound),
      λ before d. comes-less c.args.actions.now c.args.partners.now c.args.marks.now before c.search.trail.seen.items c.leave.new.trail.seen.items c.in-Some.top c.search.way.items
          c.pop.new.self.items (c.search.invariant.2 before d) c.search.invariant.0.searching.size old top none
          (c.leave.ensures.seen ∙ ap (λ (l : List Seen). slice_set l c.in-Some.top Done) seen),
    )

pub met_on-requires : goal.met_on-requires
met_on-requires c =
    let old : c.search.way.items ≡ c.pop.new.self.items ++ c.in-Some.top ∷ [] = c.pop.ensures.items ∙ ap (λ (o : Option ℕ). c.pop.new.self.items ++ option_to_list o) c.in-Some.is in
    let sound : SoundTrail c.args.tables.now c.args.actions.now c.next_open.new.trail c.search.way.items =
    sound-next c.args.tables.now c.args.actions.now c.search.trail c.next_open.new.trail c.search.way.items c.next_open.ensures.seen c.next_open.ensures.held
    (c.next_open.ensures.left c.args.actions.now) c.search.invariant.1 in
    let same : c.as_slice.result.now ≡ c.search.way.items = c.as_slice.ensures.value ∙ c.in_ok-push-2.ensures.items ∙ sym old in
    (subst (λ (z : List ℕ). SoundTrail c.args.tables.now c.args.actions.now c.next_open.new.trail z) (sym same) sound).on_way

pub part_from-requires : goal.part_from-requires
part_from-requires c =
    let on = c.in-Some-met_on.ensures in
    let at : slice_get c.as_slice-in-Some-met_on.result.now c.in-Some-met_on.index ≡ Some on.0 =
    ap (λ (z : List ℕ). slice_get z c.in-Some-met_on.index) (c.as_slice-in-Some-met_on.ensures.value ∙ sym c.as_slice.ensures.value) ∙ on.1 in
    slice_get_within c.as_slice-in-Some-met_on.result.now c.in-Some-met_on.index on.0 at

pub returns-in-Some-met_on-clause-ring : goal.returns-in-Some-met_on-clause-ring
returns-in-Some-met_on-clause-ring c =
    let n : ℕ = length c.args.actions.now in
    let w : Test = waits c.args.actions.now c.args.partners.now c.args.marks.now in
    let u : Test = same_at c.args.actions.now in
    let on = c.in-Some-met_on.ensures in
    let old : c.search.way.items ≡ c.pop.new.self.items ++ c.in-Some.top ∷ [] = c.pop.ensures.items ∙ ap (λ (o : Option ℕ). c.pop.new.self.items ++ option_to_list o) c.in-Some.is in
    let next : NextOpen n w c.search.trail.seen.items c.in-Some.top (Some c.in-Some-next_open.next) =
    subst (λ (o : Option ℕ). NextOpen n w c.search.trail.seen.items c.in-Some.top o) c.in-Some-next_open.is
    (c.next_open.ensures.next c.args.actions.now c.requires.tables.groups c.requires.tables.waiters c.search.invariant.1.opens c.search.invariant.0.searching.size) in
    let at : slice_get c.as_slice-in-Some-met_on.result.now c.in-Some-met_on.index ≡ Some on.0 =
    ap (λ (z : List ℕ). slice_get z c.in-Some-met_on.index) (c.as_slice-in-Some-met_on.ensures.value ∙ sym c.as_slice.ensures.value) ∙ on.1 in
    IfOk-weaker c.part_from.result _ _ (λ part h. told-from n w u c.args.trail.now.seen.items c.search.trail.seen.items _ c.args.start c.in-Some.top c.in-Some-next_open.next on.0
    c.in-Some-met_on.index c.search.way.items c.pop.new.self.items c.as_slice-in-Some-met_on.result.now part.items
    (alike c.args.actions.now c.args.partners.now c.args.marks.now) c.search.invariant.0 old next (c.as_slice-in-Some-met_on.ensures.value ∙ c.in_ok-push-2.ensures.items) at on.2 h)
    c.part_from.ensures

pub returns-in-Some-met_on-clause-first : goal.returns-in-Some-met_on-clause-first
returns-in-Some-met_on-clause-first c = λ before d.
    let n : ℕ = length c.args.actions.now in
    let w : Test = waits c.args.actions.now c.args.partners.now c.args.marks.now in
    let on = c.in-Some-met_on.ensures in
    let old : c.search.way.items ≡ c.pop.new.self.items ++ c.in-Some.top ∷ [] = c.pop.ensures.items ∙ ap (λ (o : Option ℕ). c.pop.new.self.items ++ option_to_list o) c.in-Some.is in
    let next : NextOpen n w c.search.trail.seen.items c.in-Some.top (Some c.in-Some-next_open.next) =
    subst (λ (o : Option ℕ). NextOpen n w c.search.trail.seen.items c.in-Some.top o) c.in-Some-next_open.is
    (c.next_open.ensures.next c.args.actions.now c.requires.tables.groups c.requires.tables.waiters c.search.invariant.1.opens c.search.invariant.0.searching.size) in
    let same : c.as_slice-in-Some-met_on.result.now ≡ c.search.way.items = c.as_slice-in-Some-met_on.ensures.value ∙ c.in_ok-push-2.ensures.items ∙ sym old in
    let at : slice_get c.search.way.items c.in-Some-met_on.index ≡ Some on.0 =
    ap (λ (z : List ℕ). slice_get z c.in-Some-met_on.index) (sym same ∙ c.as_slice-in-Some-met_on.ensures.value ∙ sym c.as_slice.ensures.value) ∙ on.1 in
    IfOk-weaker c.part_from.result _ _ (λ part h. comes-round c.args.actions.now c.args.partners.now c.args.marks.now before c.search.trail.seen.items _ c.in-Some.top c.in-Some-next_open.next
    on.0 c.in-Some-met_on.index c.search.way.items c.pop.new.self.items part.items (c.search.invariant.2 before d) c.search.invariant.0.searching.size old next
    c.search.invariant.0.searching.apart at on.2 (h ∙ ap (drop c.in-Some-met_on.index) same)) c.part_from.ensures

pub returns-in-Some-met_on-clause-sound : goal.returns-in-Some-met_on-clause-sound
returns-in-Some-met_on-clause-sound c =
    let sound : SoundTrail c.args.tables.now c.args.actions.now c.next_open.new.trail c.search.way.items =
    sound-next c.args.tables.now c.args.actions.now c.search.trail c.next_open.new.trail c.search.way.items c.next_open.ensures.seen c.next_open.ensures.held
    (c.next_open.ensures.left c.args.actions.now) c.search.invariant.1 in
    IfOk-weaker c.part_from.result _ _ (λ part h. sound-none c.args.tables.now c.args.actions.now c.next_open.new.trail c.search.way.items sound) c.part_from.ensures

pub enter-requires-in-Some-clause-within : goal.enter-requires-in-Some-clause-within
enter-requires-in-Some-clause-within c =
    let n : ℕ = length c.args.actions.now in
    let w : Test = waits c.args.actions.now c.args.partners.now c.args.marks.now in
    let u : Test = same_at c.args.actions.now in
    let seen : c.next_open.new.trail.seen.items ≡ c.search.trail.seen.items = ap (λ (v : Vec Seen Global). v.items) c.next_open.ensures.seen in
    let next : NextOpen n w c.search.trail.seen.items c.in-Some.top (Some c.in-Some-next_open.next) =
    subst (λ (o : Option ℕ). NextOpen n w c.search.trail.seen.items c.in-Some.top o) c.in-Some-next_open.is
    (c.next_open.ensures.next c.args.actions.now c.requires.tables.groups c.requires.tables.waiters c.search.invariant.1.opens c.search.invariant.0.searching.size) in
    subst (λ (l : List Seen). c.in-Some-next_open.next < length l) (sym seen) (subst (λ (k : ℕ). c.in-Some-next_open.next < k) (sym c.search.invariant.0.searching.size) next.0)

pub enter-requires-in-Some-clause-held : goal.enter-requires-in-Some-clause-held
enter-requires-in-Some-clause-held c =
    let sound : SoundTrail c.args.tables.now c.args.actions.now c.next_open.new.trail c.search.way.items =
    sound-next c.args.tables.now c.args.actions.now c.search.trail c.next_open.new.trail c.search.way.items c.next_open.ensures.seen c.next_open.ensures.held
    (c.next_open.ensures.left c.args.actions.now) c.search.invariant.1 in
    sound.size

pub search-smaller : goal.search-smaller
search-smaller c =
    let n : ℕ = length c.args.actions.now in
    let w : Test = waits c.args.actions.now c.args.partners.now c.args.marks.now in
    let u : Test = same_at c.args.actions.now in
    let old : c.search.way.items ≡ c.pop.new.self.items ++ c.in-Some.top ∷ [] = c.pop.ensures.items ∙ ap (λ (o : Option ℕ). c.pop.new.self.items ++ option_to_list o) c.in-Some.is in
    let seen : c.next_open.new.trail.seen.items ≡ c.search.trail.seen.items = ap (λ (v : Vec Seen Global). v.items) c.next_open.ensures.seen in
    let next : NextOpen n w c.search.trail.seen.items c.in-Some.top (Some c.in-Some-next_open.next) =
    subst (λ (o : Option ℕ). NextOpen n w c.search.trail.seen.items c.in-Some.top o) c.in-Some-next_open.is
    (c.next_open.ensures.next c.args.actions.now c.requires.tables.groups c.requires.tables.waiters c.search.invariant.1.opens c.search.invariant.0.searching.size) in
    let same : c.as_slice.result.now ≡ c.pop.new.self.items ++ c.in-Some.top ∷ [] = c.as_slice.ensures.value ∙ c.in_ok-push-2.ensures.items in
    let new : slice_get c.search.trail.seen.items c.in-Some-next_open.next ≡ Some New =
    next-is-new n w u c.args.trail.now.seen.items c.search.trail.seen.items c.args.start c.in-Some.top c.in-Some-next_open.next c.search.way.items c.pop.new.self.items c.search.invariant.0 old
    next
    (λ i. c.in_default-met_on.ensures c.in-Some-next_open.next (subst (λ (z : List ℕ). In c.in-Some-next_open.next z) (sym same) i)
    (itself c.args.actions.now c.in-Some-next_open.next next.0)) in
    let noted : c.enter-in-Some.new.trail.seen.items ≡ slice_set c.search.trail.seen.items c.in-Some-next_open.next OnWay =
    c.enter-in-Some.ensures.seen ∙ ap (λ (l : List Seen). slice_set l c.in-Some-next_open.next OnWay) seen in
    let less : count_new c.enter-in-Some.new.trail.seen.items + 1 ≡ count_new c.search.trail.seen.items =
    ap (λ (l : List Seen). count_new l + 1) noted ∙ count-less c.search.trail.seen.items c.in-Some-next_open.next new in
    let one : vec_len c.pop.new.self + 1 ≡ vec_len c.search.way = omega (arith, c.in-Some.ensures.len) in
    let two : vec_len c.push-in-Some.new.self ≡ vec_len c.pop.new.self + 1 = omega (arith, c.in_ok-push-2.ensures.len) in
    let three : vec_len c.push-in-Some-2.new.self ≡ vec_len c.push-in-Some.new.self + 1 = omega (arith, c.in_ok-push-3.ensures.len) in
    omega (arith, less, one, two, three)

pub search-preserved : goal.search-preserved
search-preserved c =
    let n : ℕ = length c.args.actions.now in
    let w : Test = waits c.args.actions.now c.args.partners.now c.args.marks.now in
    let u : Test = same_at c.args.actions.now in
    let old : c.search.way.items ≡ c.pop.new.self.items ++ c.in-Some.top ∷ [] = c.pop.ensures.items ∙ ap (λ (o : Option ℕ). c.pop.new.self.items ++ option_to_list o) c.in-Some.is in
    let seen : c.next_open.new.trail.seen.items ≡ c.search.trail.seen.items = ap (λ (v : Vec Seen Global). v.items) c.next_open.ensures.seen in
    let sound : SoundTrail c.args.tables.now c.args.actions.now c.next_open.new.trail c.search.way.items =
    sound-next c.args.tables.now c.args.actions.now c.search.trail c.next_open.new.trail c.search.way.items c.next_open.ensures.seen c.next_open.ensures.held
    (c.next_open.ensures.left c.args.actions.now) c.search.invariant.1 in
    let next : NextOpen n w c.search.trail.seen.items c.in-Some.top (Some c.in-Some-next_open.next) =
    subst (λ (o : Option ℕ). NextOpen n w c.search.trail.seen.items c.in-Some.top o) c.in-Some-next_open.is
    (c.next_open.ensures.next c.args.actions.now c.requires.tables.groups c.requires.tables.waiters c.search.invariant.1.opens c.search.invariant.0.searching.size) in
    let same : c.as_slice.result.now ≡ c.pop.new.self.items ++ c.in-Some.top ∷ [] = c.as_slice.ensures.value ∙ c.in_ok-push-2.ensures.items in
    let way : c.push-in-Some-2.new.self.items ≡ (c.pop.new.self.items ++ c.in-Some.top ∷ []) ++ c.in-Some-next_open.next ∷ [] =
    c.in_ok-push-3.ensures.items ∙ ap (λ (z : List ℕ). z ++ c.in-Some-next_open.next ∷ []) c.in_ok-push-2.ensures.items in (
      goes-on-as n w u c.args.trail.now.seen.items c.search.trail.seen.items c.enter-in-Some.new.trail.seen.items c.args.start c.in-Some.top c.in-Some-next_open.next c.search.way.items
          c.pop.new.self.items c.push-in-Some-2.new.self.items c.search.invariant.0 old next.0 next.1
          (λ j i m. c.in_default-met_on.ensures j (subst (λ (z : List ℕ). In j z) (sym same) i) m)
          (c.enter-in-Some.ensures.seen ∙ ap (λ (l : List Seen). slice_set l c.in-Some-next_open.next OnWay) seen) way,
      subst (λ (z : List ℕ). SoundTrail c.args.tables.now c.args.actions.now c.enter-in-Some.new.trail z) (sym way)
          (sound-entered c.args.tables.now c.args.actions.now c.args.partners.now c.requires.tables c.in-Some-next_open.next c.next_open.new.trail c.enter-in-Some.new.trail
          (c.pop.new.self.items ++ c.in-Some.top ∷ []) next.0 (ap (λ (l : List Seen). length l) seen ∙ c.search.invariant.0.searching.size)
          (ap (λ (l : List Seen). is_open (slice_get l c.in-Some-next_open.next)) seen ∙ next.2) c.enter-in-Some.ensures
          (subst (λ (z : List ℕ). SoundTrail c.args.tables.now c.args.actions.now c.next_open.new.trail z) old sound)),
      λ before d. comes-on c.args.actions.now c.args.partners.now c.args.marks.now before c.search.trail.seen.items c.enter-in-Some.new.trail.seen.items c.in-Some.top c.in-Some-next_open.next
          c.search.way.items c.pop.new.self.items c.push-in-Some-2.new.self.items (c.search.invariant.2 before d) c.search.invariant.0.searching.size old next
          (λ j i m. c.in_default-met_on.ensures j (subst (λ (z : List ℕ). In j z) (old ∙ sym same) i) m)
          (c.enter-in-Some.ensures.seen ∙ ap (λ (l : List Seen). slice_set l c.in-Some-next_open.next OnWay) seen)
          (way ∙ ap (λ (z : List ℕ). z ++ c.in-Some-next_open.next ∷ []) (sym old)),
    )

pub returns-clause-first : goal.returns-clause-first
returns-clause-first c = λ before d.
    let none : length c.search.way.items ≡ 0 = first_of (search rules, omega arith, cc) in
    comes-nowhere c.args.actions.now c.args.partners.now c.args.marks.now before c.search.trail.seen.items c.search.way.items _ (c.search.invariant.2 before d) none (search rules)
