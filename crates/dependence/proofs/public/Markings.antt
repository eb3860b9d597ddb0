-- Marks: what they stand for, and what the passes over them keep.
use Rattle.std.proofs.Common.{◌≡◌, ◌≢◌, ◌⊎◌, ◌↔◌, inl, inr, ℕ, zero, suc, ◌+◌, ◌<◌, ◌≤◌, List, [], ◌∷◌, ◌++◌, Bool, true, false, cond, length, take, drop, get_or, Some, refl, sym, ◌∙◌, ap, subst, arith}
use Rattle.std.specs.Prelude.{slice_get, slice_set}
use Rattle.std.specs.List.{count_by}
use Rattle.std.proofs.lemmas.Bool.{cases_eq, cases_lt}
use Rattle.std.proofs.lemmas.List.Sums.{sum_by-cons}
use Rattle.std.proofs.lemmas.Option.{slice_get_within, slice_get-get_or}
use Rattle.syntax.specs.Lists.{In}
use Rattle.runs.specs.InOrder.{InOrder}
use Rattle.runs.specs.Dependence.{Without, ended, stays, leaves}
use Rattle.runs.specs.Live.{Live, Rising, IsLive, DependsOn, same, ConsequencesList}
use Rattle.runs.specs.declared.event.Event.{Event}
use Rattle.runs.proofs.public.DependsOnLaw.{depends-up}
use Rattle.runs.proofs.public.Lists.{every-of, in-left, in-right, in-parts}
use Rattle.runs.proofs.public.Options.{none-some}
use Rattle.runs.proofs.public.Tickets.{rising-in}
use Rattle.dependence.specs.Followers.{Follower, ListsFollowers, Reached, here, along}
use Rattle.dependence.specs.Shown.{tickets_marked, Greatest, IsSound}
use Rattle.dependence.specs.internal.Tables.{IsRising, StandsAt}
use Rattle.dependence.specs.internal.Marking.{MarkedAt, MarkedBelow, UnmarkedTo, UnmarkedFrom, NoneLess}
use Rattle.dependence.proofs.public.ListPlaces.{in-at, at-one, at-within, take-next, set-here, set-other}
use Rattle.dependence.proofs.public.Linking.{one-index}
use Rattle.dependence.proofs.public.Standing.{lesser-stands}
use Rattle.dependence.proofs.public.Following.{follows-on, follows-live}
use Rattle.dependence.proofs.public.FollowerLaws.{direct-follows, reached-through-followers}

marked-in : (l : Live) (marks : List Bool) (t i : ℕ) (e : Event) → slice_get l i ≡ Some (t, e) → slice_get marks i ≡ Some true → In t (tickets_marked l marks)
marked-in [] marks t i e at on = none-some (t, e) at
marked-in (x ∷ l) [] t i e at on = none-some true on
marked-in (x ∷ l) (true ∷ marks) t zero e at on = inl (sym (ap (λ (y : ℕ × Event). y.0) (at-one (x ∷ l) zero x (t, e) refl at)))
marked-in (x ∷ l) (false ∷ marks) t zero e at on = cc
marked-in (x ∷ l) (true ∷ marks) t (suc i) e at on = inr (marked-in l marks t i e at on)
marked-in (x ∷ l) (false ∷ marks) t (suc i) e at on = marked-in l marks t i e at on

-- one index further
further : (x : ℕ × Event) (l : Live) (m : Bool) (marks : List Bool) (t : ℕ) → MarkedAt l marks t → MarkedAt (x ∷ l) (m ∷ marks) t
further x l m marks t h = (suc h.0, h.1, h.2)

in-marked : (l : Live) (marks : List Bool) (t : ℕ) → In t (tickets_marked l marks) → MarkedAt l marks t
in-marked [] marks t i = absurd i
in-marked (x ∷ l) [] t i = absurd i
in-marked (x ∷ l) (true ∷ marks) t i =
    elim i [
      | inl is ↦ (zero, (x.1, ap (λ (v : ℕ). Some (v, x.1)) (sym is)), refl)
      | inr later ↦ further x l true marks t (in-marked l marks t later)
    ]
in-marked (x ∷ l) (false ∷ marks) t i = further x l false marks t (in-marked l marks t i)

pub is-marked : (l : Live) (marks : List Bool) (t : ℕ) → In t (tickets_marked l marks) ↔ MarkedAt l marks t
is-marked l marks t = (in-marked l marks t, λ h. marked-in l marks t h.0 h.1.0 h.1.1 h.2)

pub marked-ascend : (low next : ℕ) (l : Live) (marks : List Bool) → Rising low l next → InOrder ◌<◌ (tickets_marked l marks)
marked-ascend low next [] marks r = tt
marked-ascend low next (x ∷ l) [] r = tt
marked-ascend low next (x ∷ l) (true ∷ marks) r = (
  every-of (λ u. x.0 < u) (tickets_marked l marks) (λ u i.
      let at = in-marked l marks u i in
      let above : suc x.0 ≤ u = (rising-in (suc x.0) next l u at.1.0 r.1 (in-at l at.0 (u, at.1.0) at.1.1)).0 in
      omega arith),
  marked-ascend (suc x.0) next l marks r.1,
)
marked-ascend low next (x ∷ l) (false ∷ marks) r = marked-ascend (suc x.0) next l marks r.1

pub marked-count : (l : Live) (marks : List Bool) → length marks ≡ length l → count_by (λ m. m) marks ≡ length (tickets_marked l marks)
marked-count [] [] h = refl
marked-count [] (m ∷ marks) h = absurd (omega arith)
marked-count (x ∷ l) [] h = absurd (omega arith)
marked-count (x ∷ l) (true ∷ marks) h =
    let rest : length marks ≡ length l = omega arith in
    let more = marked-count l marks rest in
    let step = sum_by-cons (λ (m : Bool). cond m 1 0) true marks in
    omega arith
marked-count (x ∷ l) (false ∷ marks) h =
    let rest : length marks ≡ length l = omega arith in
    let more = marked-count l marks rest in
    let step = sum_by-cons (λ (m : Bool). cond m 1 0) false marks in
    omega arith

-- ---- the first n marks, of which none is set, are passed
pub passed-first : (m : Bool) (marks : List Bool) (n : ℕ) → UnmarkedTo (m ∷ marks) (suc n) → UnmarkedTo marks n
passed-first m marks n h i less on = h (suc i) (omega arith) on

pub count-passed : (marks : List Bool) (n : ℕ) → UnmarkedTo marks n → count_by (λ m. m) (drop n marks) ≡ count_by (λ m. m) marks
count-passed marks zero h = refl
count-passed [] (suc n) h = refl
count-passed (true ∷ marks) (suc n) h = absurd (h zero (omega arith) refl)
count-passed (false ∷ marks) (suc n) h =
    let rest = count-passed marks n (passed-first false marks n h) in
    let step = sum_by-cons (λ (m : Bool). cond m 1 0) false marks in
    omega arith

no-marks : (l : Live) → tickets_marked l [] ≡ []
no-marks [] = refl
no-marks (x ∷ l) = refl

pub tickets-passed : (l : Live) (marks : List Bool) (n : ℕ) → UnmarkedTo marks n → tickets_marked (drop n l) (drop n marks) ≡ tickets_marked l marks
tickets-passed l marks zero h = refl
tickets-passed [] marks (suc n) h = refl
tickets-passed (x ∷ l) [] (suc n) h = no-marks (drop n l)
tickets-passed (x ∷ l) (true ∷ marks) (suc n) h = absurd (h zero (omega arith) refl)
tickets-passed (x ∷ l) (false ∷ marks) (suc n) h = tickets-passed l marks n (passed-first false marks n h)

-- a mark is set at the index of a ticket
module _ (low next : ℕ) (l : Live) (marks : List Bool) (t index : ℕ) (e : Event) (r : Rising low l next) (size : length marks ≡ length l) (stands : slice_get l index ≡ Some (t, e)) where
  within : index < length marks
  within = let inside : index < length l = slice_get_within l index (t, e) stands in omega arith

  pub set-marked : (u : ℕ) → MarkedAt l (slice_set marks index true) u ↔ (MarkedAt l marks u ⊎ (u ≡ t))
  set-marked u = (
    (λ h. elim (cases_eq h.0 index) [
      | inl is ↦ inr (ap (λ (x : ℕ × Event). x.0) (at-one l index (u, h.1.0) (t, e) (subst (λ (i : ℕ). slice_get l i ≡ Some (u, h.1.0)) is h.1.1) stands))
      | inr differs ↦ inl (h.0, h.1, sym (set-other marks index h.0 true differs) ∙ h.2)
    ]),
    (λ h. elim h [
      | inl old ↦ elim (cases_eq old.0 index) [
        | inl is ↦ (old.0, old.1, subst (λ (i : ℕ). slice_get (slice_set marks index true) i ≡ Some true) (sym is) (set-here marks index true within))
        | inr differs ↦ (old.0, old.1, set-other marks index old.0 true differs ∙ old.2)
      ]
      | inr is ↦ (index, (e, stands ∙ ap (λ (v : ℕ). Some (v, e)) (sym is)), set-here marks index true within)
    ]),
  )

-- nothing was marked, and now t alone is
pub marked-first : (low next : ℕ) (d l : Live) (marks : List Bool) (t index : ℕ) (e : Event) → Rising low d next → length marks ≡ length d → slice_get d index ≡ Some (t, e) →
    ((i : ℕ) → slice_get marks i ≡ Some true → ⊥) → MarkedBelow d l t index (slice_set marks index true)
marked-first low next d l marks t index e r size stands none =
    let only : (u : ℕ) → MarkedAt d (slice_set marks index true) u → u ≡ t = λ u h.
    elim ((set-marked low next d marks t index e r size stands u).0 h) [ inl old ↦ absurd (none old.0 old.2) | inr is ↦ is ] in
    record {
      sound = λ u h. subst (λ (v : ℕ). DependsOn l t v) (sym (only u h)) same;
      start = (set-marked low next d marks t index e r size stands t).1 (inr refl);
      onward = λ s u i at low_i h f.
          let is : s ≡ t = only s h in
          let one : i ≡ index = one-index low next d t at.0 e i index r (subst (λ (v : ℕ). slice_get d i ≡ Some (v, at.0)) is at.1) stands in
          absurd (omega arith);
    }

-- the index is passed: the followers of its event are marked if it is
module _ (low next : ℕ) (d l : Live) (t index s : ℕ) (e : Event) (old new : List Bool) (r : Rising low d next) (stands : slice_get d index ≡ Some (s, e)) (b : MarkedBelow d l t index old) where
  pub pass-marked : (followers : List ℕ) → slice_get old index ≡ Some true → ListsFollowers l s followers →
      ((u : ℕ) → MarkedAt d new u ↔ (MarkedAt d old u ⊎ In u followers)) → MarkedBelow d l t (suc index) new
  pass-marked followers on lists both = record {
    sound = λ u h. elim ((both u).0 h) [
      | inl before ↦ b.sound u before
      | inr added ↦ follows-on l t s u (b.sound s (index, (e, stands), on)) (direct-follows l s u ((lists.exactly u).0 added).dependent)
    ];
    start = (both t).1 (inl b.start);
    onward = λ v u i at less h f. elim (cases_lt i index) [
      | inl below ↦ elim ((both v).0 h) [
        | inl before ↦ (both u).1 (inl (b.onward v u i at below before f))
        | inr added ↦
            let up : s < v = ((lists.exactly v).0 added).dependent.less in
            let above : index < i = lesser-stands low next d index i s v e at.0 r stands at.1 up in
            absurd (omega arith)
      ]
      | inr high ↦
          let is : i ≡ index = omega arith in
          let one : v ≡ s = ap (λ (x : ℕ × Event). x.0) (at-one d index (v, at.0) (s, e) (subst (λ (k : ℕ). slice_get d k ≡ Some (v, at.0)) is at.1) stands) in
          (both u).1 (inr ((lists.exactly u).1 (subst (λ (k : ℕ). Follower l k u) one f)))
    ];
  }

  pub pass-unmarked : slice_get old index ≡ Some false → MarkedBelow d l t (suc index) old
  pass-unmarked off = record {
    sound = b.sound;
    start = b.start;
    onward = λ v u i at less h f. elim (cases_lt i index) [
      | inl below ↦ b.onward v u i at below h f
      | inr high ↦
          let is : i ≡ index = omega arith in
          let same_place : h.0 ≡ i = one-index low next d v h.1.0 at.0 h.0 i r h.1.1 at.1 in
          let on : slice_get old index ≡ Some true = subst (λ (k : ℕ). slice_get old k ≡ Some true) (same_place ∙ is) h.2 in
          let both : true ≡ false = at-one old index true false on off in
          cc
    ];
  }

-- what depends on a live event is live
pub dependents-live : (l : Live) (t u : ℕ) → IsLive l t → DependsOn l t u → IsLive l u
dependents-live l t u live depends = elim (follows-live l t u depends) [ inl is ↦ subst (λ (v : ℕ). IsLive l v) (sym is) live | inr other ↦ other ]

-- once all marks that are set are passed, they are those of all that depends on t
pub all-passed : (d l : Live) (t index : ℕ) (marks : List Bool) → IsRising d → IsRising l → IsLive l t → UnmarkedFrom marks index →
    MarkedBelow d l t index marks → ConsequencesList l t (tickets_marked d marks)
all-passed d l t index marks r rises live past b =
    record {
      exactly = λ u. (
        (λ i.
            let depends = b.sound u ((is-marked d marks u).0 i) in
            let there = dependents-live l t u live depends in
            (there.0, there.1, depends)),
        (λ h. (is-marked d marks u).1 (reached u ((reached-through-followers 0 rises.0 l t u rises.1).0 h.2))),
      );
      ascending = marked-ascend 0 r.0 d marks r.1;
    }
  where
    reached : (u : ℕ) → Reached l t u → MarkedAt d marks u
    reached u here = b.start
    reached u (along {u = v} before f) =
        let at = reached v before in
        let within : at.0 < index = elim (cases_lt at.0 index) [ inl less ↦ less | inr high ↦ absurd (past at.0 high at.2) ] in
        b.onward v u at.0 at.1 within at f

-- one more ticket is marked
pub marked-next : (l : Live) (first marks : List Bool) (tickets : List ℕ) (i index : ℕ) (e : Event) → IsRising l → length marks ≡ length l → i < length tickets →
    slice_get l index ≡ Some (get_or tickets i 0, e) → ((u : ℕ) → MarkedAt l marks u ↔ (MarkedAt l first u ⊎ In u (take i tickets))) →
    (u : ℕ) → MarkedAt l (slice_set marks index true) u ↔ (MarkedAt l first u ⊎ In u (take (i + 1) tickets))
marked-next l first marks tickets i index e r size less stands before u =
    let t : ℕ = get_or tickets i 0 in
    let more : i + 1 ≡ suc i = omega arith in
    let next : take (i + 1) tickets ≡ take i tickets ++ t ∷ [] =
    ap (λ (k : ℕ). take k tickets) more ∙ take-next tickets i t (slice_get-get_or tickets i 0 less) in
    let both = set-marked 0 r.0 l marks t index e r.1 size stands u in (
      (λ h. elim (both.0 h) [
        | inl old ↦ elim ((before u).0 old) [
          | inl a ↦ inl a
          | inr a ↦ inr (subst (λ (k : List ℕ). In u k) (sym next) (in-left u (take i tickets) (t ∷ []) a))
        ]
        | inr is ↦ inr (subst (λ (k : List ℕ). In u k) (sym next) (in-right u (take i tickets) (t ∷ []) (inl is)))
      ]),
      (λ h. both.1 (elim h [
        | inl a ↦ inl ((before u).1 (inl a))
        | inr a ↦ elim (in-parts u (take i tickets) (t ∷ []) (subst (λ (k : List ℕ). In u k) next a)) [
          | inl b ↦ inl ((before u).1 (inr b))
          | inr (inl b) ↦ inr b
          | inr (inr b) ↦ absurd b
        ]
      ])),
    )

-- one more index is without a mark
pub none-marked : (marks : List Bool) (index : ℕ) → index < length marks → get_or marks index false ≡ false →
    UnmarkedFrom marks (suc index) → UnmarkedFrom marks index
none-marked marks index less off none k up on =
    elim (cases_eq k index) [
      | inl is ↦
          let here : slice_get marks index ≡ Some true = subst (λ (i : ℕ). slice_get marks i ≡ Some true) is on in
          let both : true ≡ false = at-one marks index true false here (slice_get-get_or marks index false less ∙ ap (λ (b : Bool). Some b) off) in
          cc
      | inr differs ↦ none k (omega arith) on
    ]

-- the last of the marked places has the greatest ticket
pub last-greatest : (l : Live) (marks : List Bool) (index : ℕ) (x : ℕ × Event) → IsRising l → slice_get l index ≡ Some x → slice_get marks index ≡ Some true →
    UnmarkedFrom marks (suc index) → Greatest (tickets_marked l marks) x.0
last-greatest l marks index x r at on none = record {
  inside = (is-marked l marks x.0).1 (index, (x.1, at), on);
  greatest = λ u i.
      let h = (is-marked l marks u).0 i in
      elim (cases_lt x.0 u) [
        | inl more ↦
            let later : index < h.0 = lesser-stands 0 r.0 l index h.0 x.0 u x.1 h.1.0 r.1 at h.1.1 more in
            absurd (none h.0 (omega arith) h.2)
        | inr less ↦ less
      ];
}

-- without marks there are no marked tickets
pub none-at-all : (l : Live) (marks : List Bool) → UnmarkedFrom marks 0 → tickets_marked l marks ≡ []
none-at-all l marks none = pick (tickets_marked l marks) refl
  where
    pick : (ts : List ℕ) → tickets_marked l marks ≡ ts → tickets_marked l marks ≡ []
    pick [] is = is
    pick (t ∷ ts) is =
        let h = (is-marked l marks t).0 (subst (λ (k : List ℕ). In t k) (sym is) (inl refl)) in
        absurd (none h.0 (omega arith) h.2)

-- where the tickets rise, what is shown is sound
pub all-sound : (l : Live) (marks : List Bool) → IsRising l → IsSound (record { live = l; marked = tickets_marked l marks })
all-sound l marks r = record {
  rising = r;
  live = λ t i. let h = (is-marked l marks t).0 i in (h.1.0, in-at l h.0 (t, h.1.0) h.1.1);
  ascending = marked-ascend 0 r.0 l marks r.1;
}

-- ---- no event of a lesser ticket is marked
-- below the index of the event of this ticket there is no mark
pub unmarked-before : (l : Live) (marks : List Bool) (t index : ℕ) → IsRising l → length marks ≡ length l → StandsAt l t index → NoneLess l marks t → UnmarkedTo marks index
unmarked-before l marks t index r size at none i less on =
    let inside : index < length l = slice_get_within l index (t, at.0) at.1 in
    let here = at-within l i (omega arith) in
    let u : ℕ = here.0.0 in
    let up : t ≤ u = none u ((is-marked l marks u).1 (i, (here.0.1, here.1), on)) in
    elim (cases_eq u t) [
      | inl is ↦
          let one : i ≡ index = one-index 0 r.0 l t here.0.1 at.0 i index r.1 (here.1 ∙ ap (λ (v : ℕ). Some (v, here.0.1)) is) at.1 in
          omega arith
      | inr differs ↦
          let above : t < u = omega arith in
          let later : index < i = lesser-stands 0 r.0 l index i t u at.0 here.0.1 r.1 at.1 here.1 above in
          omega arith
    ]

-- what depends on an event has no lesser ticket
pub dependents-above : (d l : Live) (marks : List Bool) (t : ℕ) → ConsequencesList l t (tickets_marked d marks) → NoneLess d marks t
dependents-above d l marks t all u i = depends-up l t u ((all.exactly u).0 i).2

-- a mark that is set where one was cleared is another, and was set
pub still-set : (marks : List Bool) (index k : ℕ) → index < length marks → slice_get (slice_set marks index false) k ≡ Some true → (k ≢ index) × (slice_get marks k ≡ Some true)
still-set marks index k less on = elim (cases_eq k index) [
  | inl equal ↦
      let off : slice_get (slice_set marks index false) k ≡ Some false =
      ap (slice_get (slice_set marks index false)) equal ∙ set-here marks index false less in
      let both : true ≡ false = at-one (slice_set marks index false) k true false on off in
      cc
  | inr differs ↦ (differs, sym (set-other marks index k false differs) ∙ on)
]

-- an index more without a mark
pub cleared-next : (marks : List Bool) (index next : ℕ) → next ≡ suc index → index < length marks → UnmarkedTo marks index → UnmarkedTo (slice_set marks index false) next
cleared-next marks index next is less none k low on =
    let was = still-set marks index k less on in
    let other : k < index = elim (cases_lt k index) [ inl below ↦ below | inr high ↦ absurd (was.0 (omega arith)) ] in
    none k other was.1

-- tickets that were among others are not less either
pub less-marked : (t : ℕ) (old new : List ℕ) → ((u : ℕ) → In u new → In u old) → ((u : ℕ) → In u old → t ≤ u) → (u : ℕ) → In u new → t ≤ u
less-marked t old new kept low u i = low u (kept u i)

pub without-in : {X : Type 0} (D : X → Type 0) (xs ys : List X) → Without D xs ys → (u : X) → In u ys → In u xs
without-in D xs ys ended u i = i
without-in D xs ys (stays {l = l} {k = k} off rest) u i = elim i [ inl is ↦ inl is | inr later ↦ inr (without-in D l k rest u later) ]
without-in D xs ys (leaves {l = l} {k = k} on rest) u i = inr (without-in D l k rest u i)
