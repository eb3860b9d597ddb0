-- The tables as one: the least dependent, an event more, an event less.
use Rattle.std.proofs.Common.{◌≡◌, ◌↔◌, inl, inr, ℕ, zero, suc, ◌<◌, ◌≤◌, List, [], ◌∷◌, ◌++◌, Bool, true, false, length, Option, Some, Result, Ok, Err, refl, sym, ap, subst, arith, length-append}
use Rattle.std.specs.Prelude.{slice_get, MatchOption}
use Rattle.std.specs.List.{remove}
use Rattle.std.specs.Result.{is_err, OnOk, OnErr}
use Rattle.syntax.specs.Lists.{In}
use Rattle.runs.specs.Dependence.{Without, ended, stays, leaves}
use Rattle.runs.specs.Live.{Live, Rising, LiveAt, FirstDependent, NoDependent}
use Rattle.runs.specs.declared.event.Event.{Event}
use Rattle.runs.proofs.public.Lists.{every-in}
use Rattle.runs.proofs.public.Decisions.{first-dependent?}
use Rattle.runs.proofs.public.Tickets.{rising-in, rising-more}
use Rattle.dependence.specs.Followers.{ListsFollowers}
use Rattle.dependence.specs.Shown.{tickets_marked}
use Rattle.dependence.specs.declared.links.Links.{Links}
use Rattle.dependence.specs.internal.Tables.{IsRising, StandsAt, Linked, Falling, Candidates, Topmost, LinkedBehind}
use Rattle.dependence.specs.internal.Whole.{IsWhole}
use Rattle.dependence.proofs.public.ListPlaces.{in-at, at-one}
use Rattle.dependence.proofs.Edges.{added-linked, removed-rises, removed-size}
use Rattle.dependence.proofs.public.FollowerLaws.{direct-follows, least-is-follower}

-- the first of the followers is the least dependent
pub first-follower : (l : Live) (t : ℕ) (ts : List ℕ) (found : Option ℕ) → IsRising l → ListsFollowers l t ts → found ≡ slice_get ts 0 →
    MatchOption found (NoDependent l t) (λ u. FirstDependent l t u)
first-follower l t [] found r lists is = subst (λ (o : Option ℕ). MatchOption o (NoDependent l t) (λ u. FirstDependent l t u)) (sym is)
    (elim (first-dependent? 0 r.0 l t r.1) [
      | inl first ↦ absurd ((lists.exactly first.0).1 (least-is-follower l t first.0 first.1))
      | inr none ↦ none
    ])
first-follower l t (u ∷ ts) found r lists is = subst (λ (o : Option ℕ). MatchOption o (NoDependent l t) (λ v. FirstDependent l t v)) (sym is)
    (
    let f = (lists.exactly u).0 (inl refl) in
    let d = f.dependent in
    let less : t < u = d.less in
    elim (first-dependent? 0 r.0 l t r.1) [
      | inl first ↦
          let v : ℕ = first.0 in
          let low : v ≤ u = first.1.least u d.dependent d.dependent_live (λ same. omega arith) (direct-follows l t u d) in
          elim ((lists.exactly v).1 (least-is-follower l t v first.1)) [
            | inl one ↦ subst (λ (w : ℕ). FirstDependent l t w) one first.1
            | inr later ↦ let more : u < v = every-in (λ (w : ℕ). u < w) ts v lists.ascending.0 later in absurd (omega arith)
          ]
      | inr none ↦ let same : u ≡ t = none u d.dependent d.dependent_live (direct-follows l t u d) in absurd (omega arith)
    ]
    )

-- below a ticket that is greater than all, the tickets rise
pub rising-below : (low next : ℕ) (l : Live) (n : ℕ) → Rising low l next → low ≤ n → ((t : ℕ) (e : Event) → LiveAt l t e → t < n) → Rising low l n
rising-below low next [] n r le above = le
rising-below low next (x ∷ l) n r le above =
    let less : x.0 < n = above x.0 x.1 (inl refl) in
    let more : suc x.0 ≤ n = omega arith in
    (r.0, rising-below (suc x.0) next l n r.1 more (λ t e i. above t e (inr i)))

-- an event without a mark adds none
pub marked-added : (l : Live) (marks : List Bool) (x : ℕ × Event) → length marks ≡ length l → tickets_marked (l ++ x ∷ []) (marks ++ false ∷ []) ≡ tickets_marked l marks
marked-added [] [] x h = refl
marked-added [] (m ∷ marks) x h = absurd (omega arith)
marked-added (y ∷ l) [] x h = absurd (omega arith)
marked-added (y ∷ l) (true ∷ marks) x h = let size : length marks ≡ length l = omega arith in ap (λ (ts : List ℕ). y.0 ∷ ts) (marked-added l marks x size)
marked-added (y ∷ l) (false ∷ marks) x h = let size : length marks ≡ length l = omega arith in marked-added l marks x size

pub whole-added : (l : Live) (links all : List Links) (marks flags : List Bool) (k : Live) (n : ℕ) (f : Event) (kept : List ℕ) → IsWhole l links marks → Rising 0 l n →
    (found : List ℕ) × Candidates l f found × ((t : ℕ) → In t kept ↔ Topmost l found t) → Falling kept → LinkedBehind l n kept all →
    k ≡ l ++ (n, f) ∷ [] → flags ≡ marks ++ false ∷ [] → IsWhole k all flags
whole-added l links all marks flags k n f kept w r tops falling b k_is flags_is =
    subst (λ (v : Live). IsWhole v all flags) (sym k_is)
    (subst (λ (v : List Bool). IsWhole (l ++ (n, f) ∷ []) all v) (sym flags_is)
    (subst (λ (v : List Links). IsWhole (l ++ (n, f) ∷ []) v (marks ++ false ∷ [])) (sym b.is) (record {
      rising = (suc n, rising-more 0 n l f r);
      linked = added-linked l n f tops.0 kept b.before b.last r tops.1 tops.2 falling b.linked b.followers b.leads;
      marks =
          let one = length-append marks (false ∷ []) in
          let two = length-append l ((n, f) ∷ []) in
          let size : length marks ≡ length l = w.marks in
          omega arith;
    })))

-- no mark of a greater ticket goes
others-stay : (low next : ℕ) (l : Live) (marks : List Bool) (t : ℕ) → Rising low l next → t < low → Without (λ (v : ℕ). v ≡ t) (tickets_marked l marks) (tickets_marked l marks)
others-stay low next [] marks t r h = ended
others-stay low next (x ∷ l) [] t r h = ended
others-stay low next (x ∷ l) (true ∷ marks) t r h =
    let first : low ≤ x.0 = r.0 in
    let more : t < suc x.0 = omega arith in
    stays (λ (is : x.0 ≡ t). omega arith) (others-stay (suc x.0) next l marks t r.1 more)
others-stay low next (x ∷ l) (false ∷ marks) t r h =
    let first : low ≤ x.0 = r.0 in
    let more : t < suc x.0 = omega arith in
    others-stay (suc x.0) next l marks t r.1 more

-- a mark that goes with its event
pub marked-removed : (low next : ℕ) (l : Live) (marks : List Bool) (t index : ℕ) (e : Event) → Rising low l next → length marks ≡ length l → slice_get l index ≡ Some (t, e) →
    Without (λ (v : ℕ). v ≡ t) (tickets_marked l marks) (tickets_marked (remove l index) (remove marks index))
marked-removed low next [] marks t index e r h at = absurd (in-at [] index (t, e) at)
marked-removed low next (x ∷ l) [] t index e r h at = absurd (omega arith)
marked-removed low next (x ∷ l) (true ∷ marks) t zero e r h at =
    let is : x.0 ≡ t = ap (λ (y : ℕ × Event). y.0) (at-one (x ∷ l) zero x (t, e) refl at) in
    leaves is (others-stay (suc x.0) next l marks t r.1 (omega arith))
marked-removed low next (x ∷ l) (false ∷ marks) t zero e r h at =
    let is : x.0 ≡ t = ap (λ (y : ℕ × Event). y.0) (at-one (x ∷ l) zero x (t, e) refl at) in
    others-stay (suc x.0) next l marks t r.1 (omega arith)
marked-removed low next (x ∷ l) (true ∷ marks) t (suc index) e r h at =
    let size : length marks ≡ length l = omega arith in
    let above : suc x.0 ≤ t = (rising-in (suc x.0) next l t e r.1 (in-at l index (t, e) at)).0 in
    stays (λ (is : x.0 ≡ t). omega arith) (marked-removed (suc x.0) next l marks t index e r.1 size at)
marked-removed low next (x ∷ l) (false ∷ marks) t (suc index) e r h at =
    let size : length marks ≡ length l = omega arith in
    marked-removed (suc x.0) next l marks t index e r.1 size at

pub whole-removed : (l k : Live) (links rest : List Links) (marks flags : List Bool) (index : ℕ) → IsWhole l links marks → index < length l → Linked k rest →
    k ≡ remove l index → flags ≡ remove marks index → IsWhole k rest flags
whole-removed l k links rest marks flags index w less linked k_is flags_is =
    let size : length marks ≡ length l = w.marks in
    let within : index < length marks = omega arith in
    record {
      rising = subst (λ (v : Live). IsRising v) (sym k_is) (w.rising.0, removed-rises 0 w.rising.0 l index w.rising.1);
      linked = linked;
      marks =
          let one = removed-size l index less in
          let two = removed-size marks index within in
          let three : length flags ≡ length (remove marks index) = ap length flags_is in
          let four : length k ≡ length (remove l index) = ap length k_is in
          omega arith;
    }

pub on-ok : {A E : Type 0} (r : Result A E) (P : Type 0) → is_err r ≡ false → OnOk r P → P
on-ok (Ok x) P h p = p
on-ok (Err e) P h p = cc

pub on-err : {A E : Type 0} (r : Result A E) (P : Type 0) → is_err r ≡ true → OnErr r P → P
on-err (Ok x) P h p = cc
on-err (Err e) P h p = p

-- the same tables, linked anew
pub whole-same : (l k : Live) (links rest : List Links) (marks flags : List Bool) → IsWhole l links marks → Linked l rest → k ≡ l → flags ≡ marks → IsWhole k rest flags
whole-same l k links rest marks flags w linked k_is flags_is =
    subst (λ (v : Live). IsWhole v rest flags) (sym k_is)
    (subst (λ (v : List Bool). IsWhole l rest v) (sym flags_is) (record { rising = w.rising; linked = linked; marks = w.marks }))

pub stands-in : (l k : Live) (t index : ℕ) → l ≡ k → StandsAt l t index → StandsAt k t index
stands-in l k t index is at = subst (λ (v : Live). StandsAt v t index) is at

pub tops-at : (l k : Live) (f : Event) (kept : List ℕ) → l ≡ k → (found : List ℕ) × Candidates l f found × ((t : ℕ) → In t kept ↔ Topmost l found t) →
    (found : List ℕ) × Candidates k f found × ((t : ℕ) → In t kept ↔ Topmost k found t)
tops-at l k f kept is h = subst (λ (v : Live). (found : List ℕ) × Candidates v f found × ((t : ℕ) → In t kept ↔ Topmost v found t)) is h
