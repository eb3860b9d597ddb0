-- Where the marks that are set end, with one mark less and with one more.
use Rattle.std.proofs.Common.{◌≡◌, ◌⊎◌, inl, inr, ℕ, zero, suc, ◌+◌, ◌-◌, ◌<◌, ◌≤◌, List, [], ◌∷◌, ◌++◌, Bool, true, false, cond, length, take, drop, Some, refl, sym, ◌∙◌, ap, arith}
use Rattle.std.specs.Prelude.{slice_get, slice_set}
use Rattle.std.specs.List.{remove, count_by}
use Rattle.std.proofs.lemmas.Bool.{cases_lt, cases_eq}
use Rattle.std.proofs.lemmas.List.Sums.{sum_by-cons}
use Rattle.std.proofs.lemmas.Option.{slice_get_within}
use Rattle.runs.proofs.public.Options.{none-some}
use Rattle.runs.specs.Live.{Live}
use Rattle.syntax.specs.Lists.{In}
use Rattle.dependence.specs.Shown.{tickets_marked}
use Rattle.dependence.specs.internal.Tables.{IsRising, StandsAt}
use Rattle.dependence.specs.internal.Marking.{UnmarkedTo, UnmarkedFrom, EndsAt}
use Rattle.dependence.proofs.Edges.{at-end}
use Rattle.dependence.proofs.FromIndex.{get-drop}
use Rattle.dependence.proofs.public.ListPlaces.{removed-above, set-here, set-other}
use Rattle.dependence.proofs.public.Linking.{one-index}
use Rattle.dependence.proofs.public.Markings.{is-marked, still-set, none-at-all}

empty : (marks : List Bool) → length marks ≡ zero → [] ≡ marks
empty [] is = refl
empty (m ∷ marks) is = absurd (omega arith)

-- what is left without the first is what is left without the last
first-out : (marks : List Bool) (n : ℕ) → suc n ≡ length marks → UnmarkedFrom marks zero → take n marks ≡ remove marks zero → false ∷ take n marks ≡ marks
first-out [] n is none same = absurd (omega arith)
first-out (true ∷ marks) n is none same = absurd (none zero (omega arith) refl)
first-out (false ∷ marks) n is none same = ap (λ (k : List Bool). false ∷ k) same

-- where none is set from an index on, the marks without the one at it are those without the last
pub removed-unset : (marks : List Bool) (n i : ℕ) → suc n ≡ length marks → i < length marks → UnmarkedFrom marks i → take n marks ≡ remove marks i
removed-unset [] n i is less none = absurd (omega arith)
removed-unset (m ∷ marks) zero zero is less none = empty marks (omega arith)
removed-unset (m ∷ marks) zero (suc i) is less none = absurd (omega arith)
removed-unset (true ∷ marks) (suc n) zero is less none = absurd (none zero (omega arith) refl)
removed-unset (false ∷ marks) (suc n) zero is less none =
    let rest : UnmarkedFrom marks zero = λ k up on. none (suc k) (omega arith) on in
    let size : suc n ≡ length marks = omega arith in
    first-out marks n size rest (removed-unset marks n zero size (omega arith) rest)
removed-unset (m ∷ marks) (suc n) (suc i) is less none =
    ap (λ (k : List Bool). m ∷ k) (removed-unset marks n i (omega arith) (omega arith) (λ k up on. none (suc k) (omega arith) on))

-- a mark that was cleared first is gone as well
pub removed-cleared : (marks : List Bool) (i : ℕ) → remove (slice_set marks i false) i ≡ remove marks i
removed-cleared [] i = refl
removed-cleared (m ∷ marks) zero = refl
removed-cleared (m ∷ marks) (suc i) = ap (λ (k : List Bool). m ∷ k) (removed-cleared marks i)

took-out : (marks : List Bool) (n i : ℕ) (m : Bool) → slice_get (take n marks) i ≡ Some m → slice_get marks i ≡ Some m
took-out [] zero i m on = on
took-out [] (suc n) i m on = on
took-out (x ∷ marks) zero i m on = none-some m on
took-out (x ∷ marks) (suc n) zero m on = on
took-out (x ∷ marks) (suc n) (suc i) m on = took-out marks n i m on

took-in : (marks : List Bool) (n i : ℕ) → i < n → slice_get (take n marks) i ≡ slice_get marks i
took-in marks zero i less = absurd (omega arith)
took-in [] (suc n) i less = refl
took-in (x ∷ marks) (suc n) zero less = refl
took-in (x ∷ marks) (suc n) (suc i) less = let rest : i < n = omega arith in took-in marks n i rest

-- without the last, where none is set from an index on
pub ends-shorter : (marks : List Bool) (n index end : ℕ) → index ≤ n → UnmarkedFrom marks index → EndsAt marks end → EndsAt (take n marks) end
ends-shorter marks n index end within none ends = record {
  none = λ k up on. ends.none k up (took-out marks n k true on);
  last = λ less.
      let at = ends.last less in
      let low : end - 1 < index = elim (cases_lt (end - 1) index) [ inl below ↦ below | inr high ↦ absurd (none (end - 1) high at) ] in
      took-in marks n (end - 1) (omega arith) ∙ at;
}

-- without one before the last that is set
pub ends-removed : (marks : List Bool) (index end : ℕ) → index < end - 1 → EndsAt marks end → EndsAt (remove marks index) (end - 1)
ends-removed marks index end less ends = record {
  none = λ k up on. ends.none (suc k) (omega arith) (sym (removed-above marks index k (omega arith)) ∙ on);
  last = λ some.
      let next : suc (end - 1 - 1) ≡ end - 1 = omega arith in
      removed-above marks index (end - 1 - 1) (omega arith) ∙ ap (slice_get marks) next ∙ ends.last (omega arith);
}

-- where all that are set are before an index but one at it, which is cleared, none is from it on
pub cleared-from : (marks : List Bool) (index end : ℕ) → index < length marks → end ≤ suc index → EndsAt marks end → UnmarkedFrom (slice_set marks index false) index
cleared-from marks index end less near ends k up on =
    let was = still-set marks index k less on in
    let other : index < k = elim (cases_lt index k) [ inl above ↦ above | inr low ↦ absurd (was.0 (omega arith)) ] in
    ends.none k (omega arith) was.1

-- none is from an index on where one was cleared
pub cleared-kept : (marks : List Bool) (index end : ℕ) → index < length marks → UnmarkedFrom marks end → UnmarkedFrom (slice_set marks index false) end
cleared-kept marks index end less none k up on = none k up (still-set marks index k less on).1

set-before : (marks : List Bool) (m : Bool) (i : ℕ) → slice_get marks i ≡ Some true → slice_get (marks ++ m ∷ []) i ≡ Some true
set-before [] m i on = none-some true on
set-before (x ∷ marks) m zero on = on
set-before (x ∷ marks) m (suc i) on = set-before marks m i on

-- with one more that is not set
pub ends-longer : (marks : List Bool) (end : ℕ) → EndsAt marks end → EndsAt (marks ++ false ∷ []) end
ends-longer marks end ends = record {
  none = λ k up on. elim (at-end marks false true k on) [ inl one ↦ ends.none k up one.1 | inr new ↦ (let both : true ≡ false = new in cc) ];
  last = λ less. set-before marks false (end - 1) (ends.last less);
}

-- ---- marks that are set one after another
-- a mark that is set where one more was set is that one, or was set
now-set : (marks : List Bool) (index k : ℕ) → slice_get (slice_set marks index true) k ≡ Some true → (k ≡ index) ⊎ (slice_get marks k ≡ Some true)
now-set marks index k on = elim (cases_eq k index) [ inl is ↦ inl is | inr differs ↦ inr (sym (set-other marks index k true differs) ∙ on) ]

-- one more that is set before their end
pub ends-within : (marks : List Bool) (index end : ℕ) → index < length marks → index < end → EndsAt marks end → EndsAt (slice_set marks index true) end
ends-within marks index end less before ends = record {
  none = λ k up on. elim (now-set marks index k on) [ inl is ↦ absurd (omega arith) | inr old ↦ ends.none k up old ];
  last = λ some. elim (cases_eq (end - 1) index) [
    | inl is ↦ ap (slice_get (slice_set marks index true)) is ∙ set-here marks index true less
    | inr differs ↦ set-other marks index (end - 1) true differs ∙ ends.last some
  ];
}

-- one more that is set at their end or behind it
pub ends-beyond : (marks : List Bool) (index end next : ℕ) → next ≡ suc index → index < length marks → end ≤ index → EndsAt marks end → EndsAt (slice_set marks index true) next
ends-beyond marks index end next is less behind ends = record {
  none = λ k up on. elim (now-set marks index k on) [ inl same ↦ absurd (omega arith) | inr old ↦ ends.none k (omega arith) old ];
  last = λ some. let same : next - 1 ≡ index = omega arith in ap (slice_get (slice_set marks index true)) same ∙ set-here marks index true less;
}

-- where none is set they end at the first index
pub ends-first : (marks : List Bool) → ((i : ℕ) → slice_get marks i ≡ Some true → ⊥) → EndsAt marks 0
ends-first marks none = record { none = λ k up on. none k on; last = λ some. absurd (omega arith) }

-- they end within the list
pub ends-inside : (marks : List Bool) (end : ℕ) → EndsAt marks end → end ≤ length marks
ends-inside marks end ends = elim (cases_lt 0 end) [
  | inl some ↦ let last : end - 1 < length marks = slice_get_within marks (end - 1) true (ends.last some) in omega arith
  | inr none ↦ omega arith
]

-- one that is set stands before their end
pub set-inside : (marks : List Bool) (end i : ℕ) → EndsAt marks end → slice_get marks i ≡ Some true → i < end
set-inside marks end i ends on = elim (cases_lt i end) [ inl before ↦ before | inr behind ↦ absurd (ends.none i behind on) ]

-- the first index at which one may be set is not behind their end
pub first-inside : (marks : List Bool) (end i : ℕ) → 0 < end → EndsAt marks end → UnmarkedTo marks i → i ≤ end
first-inside marks end i some ends none = elim (cases_lt (end - 1) i) [ inl before ↦ absurd (none (end - 1) before (ends.last some)) | inr behind ↦ omega arith ]

-- a marked event stands before their end
pub marked-inside : (l : Live) (marks : List Bool) (t i end : ℕ) → IsRising l → StandsAt l t i → In t (tickets_marked l marks) → EndsAt marks end → i < end
marked-inside l marks t i end r at inside ends =
    let h = (is-marked l marks t).0 inside in
    let same : h.0 ≡ i = one-index 0 r.0 l t h.1.0 at.0 h.0 i r.1 h.1.1 at.1 in
    let before : h.0 < end = set-inside marks end h.0 ends h.2 in
    omega arith

-- ---- the marks up to where they end
unset-rest : (m : Bool) (marks : List Bool) (n : ℕ) → UnmarkedFrom (m ∷ marks) (suc n) → UnmarkedFrom marks n
unset-rest m marks n none k up on = none (suc k) (omega arith) on

unset-count : (marks : List Bool) → UnmarkedFrom marks 0 → count_by (λ m. m) marks ≡ 0
unset-count [] none = refl
unset-count (true ∷ marks) none = absurd (none zero (omega arith) refl)
unset-count (false ∷ marks) none =
    let rest = unset-count marks (λ k up on. none (suc k) (omega arith) on) in
    let step = sum_by-cons (λ (m : Bool). cond m 1 0) false marks in
    omega arith

pub count-taken : (marks : List Bool) (n : ℕ) → UnmarkedFrom marks n → count_by (λ m. m) (take n marks) ≡ count_by (λ m. m) marks
count-taken [] zero none = refl
count-taken (m ∷ marks) zero none = sym (unset-count (m ∷ marks) none)
count-taken [] (suc n) none = refl
count-taken (m ∷ marks) (suc n) none =
    let rest = count-taken marks n (unset-rest m marks n none) in
    let one = sum_by-cons (λ (b : Bool). cond b 1 0) m marks in
    let other = sum_by-cons (λ (b : Bool). cond b 1 0) m (take n marks) in
    omega arith

pub tickets-taken : (l : Live) (marks : List Bool) (n : ℕ) → UnmarkedFrom marks n → tickets_marked l (take n marks) ≡ tickets_marked l marks
tickets-taken [] marks n none = refl
tickets-taken (x ∷ l) [] zero none = refl
tickets-taken (x ∷ l) (m ∷ marks) zero none = sym (none-at-all (x ∷ l) (m ∷ marks) none)
tickets-taken (x ∷ l) [] (suc n) none = refl
tickets-taken (x ∷ l) (true ∷ marks) (suc n) none = ap (λ (ts : List ℕ). x.0 ∷ ts) (tickets-taken l marks n (unset-rest true marks n none))
tickets-taken (x ∷ l) (false ∷ marks) (suc n) none = tickets-taken l marks n (unset-rest false marks n none)

-- from an index on they end as much earlier
pub unset-passed : (marks : List Bool) (from end : ℕ) → UnmarkedFrom marks end → UnmarkedFrom (drop from marks) (end - from)
unset-passed marks from end none k up on = none (from + k) (omega arith) (sym (get-drop marks from k) ∙ on)
