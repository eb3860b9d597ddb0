-- The sweep that finds the topmost of some events, one index after another.
use Rattle.std.proofs.Common.{◌≡◌, ◌≢◌, ◌⊎◌, ◌↔◌, inl, inr, ℕ, zero, suc, ◌+◌, ◌-◌, ◌<◌, ◌≤◌, List, [], ◌∷◌, ◌++◌, Bool, true, false, cond, ◌||◌, ◌&&◌, not, IsTrue, length, get_or, take, drop, Some, refl, sym, ◌∙◌, ap, subst, arith, length-append}
use Rattle.std.specs.Prelude.{slice_get}
use Rattle.std.specs.List.Sorted.{IsPermutation, IsNonDecreasing}
use Rattle.std.proofs.lemmas.Bool.{cases_eq, cases_lt}
use Rattle.std.proofs.lemmas.List.Sorted.{Contains-permutation}
use Rattle.std.proofs.lemmas.Option.{slice_get_within, slice_get-get_or}
use Rattle.syntax.specs.Lists.{In}
use Rattle.system.specs.Expression.{is_in}
use Rattle.runs.specs.InOrder.{InOrder}
use Rattle.runs.specs.Live.{Live, Rising, DependsOn, same, IsLive}
use Rattle.runs.specs.declared.event.Event.{Event}
use Rattle.runs.proofs.public.Lists.{in-left, in-right, in-parts, every-in}
use Rattle.runs.proofs.public.DependsOnLaw.{depends-up}
use Rattle.dependence.specs.Followers.{Follower, ListsFollowers, Reached, here, along}
use Rattle.dependence.specs.internal.Tables.{StandsAt, Falling, Topmost, LeadsBack}
use Rattle.dependence.specs.internal.Sweeping.{StandWithin, FlagAt, Swept}
use Rattle.dependence.proofs.public.ListPlaces.{at-one, index-in, parts-at, in-at, in-read, in-order-more, in-order-right, got-here}
use Rattle.runs.proofs.public.ReadTests.{is-in, in-is}
use Rattle.dependence.proofs.public.Linking.{one-index}
use Rattle.dependence.proofs.public.Standing.{index-rises, lesser-stands}
use Rattle.dependence.proofs.public.Following.{follows-on}
use Rattle.dependence.proofs.public.FollowerLaws.{direct-follows, reached-through-followers}

-- a follower of t, on which u depends or which it is
pub record FirstStep (l : Live) (t u : ℕ) : Type 0 where
  pub ticket : ℕ
  pub follower : Follower l t ticket
  pub on : DependsOn l ticket u

pub first-step : (l : Live) (t u : ℕ) → Reached l t u → u ≢ t → FirstStep l t u
first-step l t u here differs = absurd (differs refl)
first-step l t u (along {u = v} before f) differs = elim (cases_eq v t) [
  | inl is ↦ record { ticket = u; follower = subst (λ (k : ℕ). Follower l k u) is f; on = same }
  | inr other ↦
      let step = first-step l t v before other in
      record { ticket = step.ticket; follower = step.follower; on = follows-on l step.ticket v u step.on (direct-follows l v u f.dependent) }
]

-- at the end of a list, and before it
last-at : {X : Type 0} (xs : List X) (x : X) → slice_get (xs ++ x ∷ []) (length xs) ≡ Some x
last-at [] x = refl
last-at (y ∷ xs) x = last-at xs x

before-last : {X : Type 0} (xs : List X) (x : X) (k : ℕ) → k < length xs → slice_get (xs ++ x ∷ []) k ≡ slice_get xs k
before-last [] x k h = absurd (omega arith)
before-last (y ∷ xs) x zero h = refl
before-last (y ∷ xs) x (suc k) h = let less : k < length xs = omega arith in before-last xs x k less

-- nothing is swept yet
pub swept-none : (l : Live) (cs : List ℕ) (low high : ℕ) → StandWithin l cs low high → (next from : ℕ) → Rising from l next → Swept l cs high high [] []
swept-none l cs low high stand next from r = record {
  count = omega arith;
  flagged = λ t i at up less. absurd (omega arith);
  chosen = λ t. (
    (λ i. absurd i),
    (λ h.
        let at = stand t h.0.0 in
        let up : high ≤ at.0 = h.1 at.0 at.1 in
        let less : at.0 < high = at.3 in
        absurd (omega arith)),
  );
  falling = tt;
}

module _ (from next : ℕ) (l : Live) (cs : List ℕ) (low high index s : ℕ) (e : Event) (flags : List Bool) (kept followers : List ℕ) (r : Rising from l next)
    (stand : StandWithin l cs low high) (at : slice_get l index ≡ Some (s, e)) (less_high : index < high) (lists : ListsFollowers l s followers)
    (swept : Swept l cs high (suc index) flags kept) where
  -- a follower stands above the index
  above : (v i : ℕ) → Follower l s v → StandsAt l v i → suc index ≤ i
  above v i f on = let up : index < i = lesser-stands from next l index i s v e on.0 r at on.1 f.dependent.less in omega arith

  -- what another of cs depends on stands below `high`
  below-high : (v c i : ℕ) → In c cs → DependsOn l v c → StandsAt l v i → i < high
  below-high v c i ic follows on =
      let end = stand c ic in
      let up : v ≤ c = depends-up l v c follows in
      let last : end.0 < high = end.3 in
      elim (cases_lt i end.0) [
        | inl lower ↦ omega arith
        | inr higher ↦ elim (cases_lt end.0 i) [
          | inl over ↦ let down : c < v = index-rises from next l end.0 i c v end.1.0 on.0 r end.1.1 on.1 over in absurd (omega arith)
          | inr equal ↦ omega arith
        ]
      ]

  -- a flag of a follower means that s reaches another of cs
  pub flagged-below : (v : ℕ) × In v followers × FlagAt l high flags v → (c : ℕ) × In c cs × DependsOn l s c × (s < c)
  flagged-below h =
      let v : ℕ = h.0 in
      let f = (lists.exactly v).0 h.1 in
      let flag = h.2 in
      let i : ℕ = flag.0 in
      let high_is : i + flag.1 + 1 ≡ high = flag.3 in
      let less : i < high = omega arith in
      let reach = (swept.flagged v i flag.2 (above v i f flag.2) less).0 flag in
      let up : v ≤ reach.0 = depends-up l v reach.0 reach.2 in
      let more : s < v = f.dependent.less in
      (reach.0, reach.1, follows-on l s v reach.0 (direct-follows l s v f.dependent) reach.2, omega arith)

  -- s reaches another of cs, so a follower is flagged
  pub below-flagged : (c : ℕ) → In c cs → DependsOn l s c → c ≢ s → (v : ℕ) × In v followers × FlagAt l high flags v
  below-flagged c ic follows differs =
      let step = first-step l s c ((reached-through-followers from next l s c r).0 follows) differs in
      let v : ℕ = step.ticket in
      let d = step.follower.dependent in
      let stands = index-in l (v, d.dependent) d.dependent_live in
      let on : StandsAt l v stands.0 = (d.dependent, stands.1) in
      (v, (lists.exactly v).1 step.follower, (swept.flagged v stands.0 on (above v stands.0 step.follower on) (below-high v c stands.0 ic step.on on)).1 (c, ic, step.on))

  module _ (flag : Bool) (told : (flag ≡ true) ↔ (In s cs ⊎ ((v : ℕ) × In v followers × FlagAt l high flags v))) where
    counted : index + length (flags ++ flag ∷ []) ≡ high
    counted =
        let size = length-append flags (flag ∷ []) in
        let before : suc index + length flags ≡ high = swept.count in
        omega arith

    reaches : (flag ≡ true) ↔ LeadsBack l cs s
    reaches = (
      (λ on. elim (told.0 on) [ inl is ↦ (s, is, same) | inr below ↦ let found = flagged-below below in (found.0, found.1, found.2) ]),
      (λ h. elim (cases_eq h.0 s) [
        | inl is ↦ told.1 (inl (subst (λ (k : ℕ). In k cs) is h.1))
        | inr differs ↦ told.1 (inr (below-flagged h.0 h.1 h.2 differs))
      ]),
    )

    flagged-here : FlagAt l high (flags ++ flag ∷ []) s ↔ LeadsBack l cs s
    flagged-here = (
      (λ h.
          let one : h.0 ≡ index = one-index from next l s h.2.0 e h.0 index r h.2.1 at in
          let sum : h.0 + h.1 + 1 ≡ high = h.3 in
          let before : suc index + length flags ≡ high = swept.count in
          let last : h.1 ≡ length flags = omega arith in
          reaches.0 (at-one (flags ++ flag ∷ []) (length flags) flag true (last-at flags flag)
          (subst (λ (k : ℕ). slice_get (flags ++ flag ∷ []) k ≡ Some true) last h.4))),
      (λ h.
          let before : suc index + length flags ≡ high = swept.count in
          (index, length flags, (e, at), omega arith, last-at flags flag ∙ ap (λ (b : Bool). Some b) (reaches.1 h))),
    )

    flagged-more : (t i : ℕ) → StandsAt l t i → index ≤ i → i < high → FlagAt l high (flags ++ flag ∷ []) t ↔ LeadsBack l cs t
    flagged-more t i on up less = elim (cases_lt index i) [
      | inl over ↦
          let old = swept.flagged t i on (omega arith) less in
          let before : suc index + length flags ≡ high = swept.count in (
            (λ h.
                let one : h.0 ≡ i = one-index from next l t h.2.0 on.0 h.0 i r h.2.1 on.1 in
                let sum : h.0 + h.1 + 1 ≡ high = h.3 in
                let within : h.1 < length flags = omega arith in
                old.0 (h.0, h.1, h.2, h.3, sym (before-last flags flag h.1 within) ∙ h.4)),
            (λ h.
                let was = old.1 h in
                (was.0, was.1, was.2, was.3, before-last flags flag was.1 (slice_get_within flags was.1 true was.4) ∙ was.4)),
          )
      | inr equal ↦
          let is : i ≡ index = omega arith in
          let one : t ≡ s = ap (λ (x : ℕ × Event). x.0) (at-one l index (t, on.0) (s, e) (subst (λ (k : ℕ). slice_get l k ≡ Some (t, on.0)) is on.1) at) in
          subst (λ (k : ℕ). FlagAt l high (flags ++ flag ∷ []) k ↔ LeadsBack l cs k) (sym one) flagged-here
    ]

    -- s is kept where it is one of cs and no follower reaches another
    pub swept-kept : In s cs → ((v : ℕ) × In v followers × FlagAt l high flags v → ⊥) → Swept l cs high index (flags ++ flag ∷ []) (kept ++ s ∷ [])
    swept-kept is none =
        let top : Topmost l cs s =
        (is, λ c ic follows. elim (cases_eq c s) [ inl one ↦ one | inr differs ↦ absurd (none (below-flagged c ic follows differs)) ]) in
        record {
          count = counted;
          flagged = flagged-more;
          chosen = λ t. (
            (λ i. elim (in-parts t kept (s ∷ []) i) [
              | inl a ↦ let old = (swept.chosen t).0 a in (old.0, λ j on. let up : suc index ≤ j = old.1 j on in omega arith)
              | inr (inl a) ↦ (
                subst (λ (k : ℕ). Topmost l cs k) (sym a) top,
                λ j on. let one : j ≡ index = one-index from next l s on.0 e j index r (subst (λ (k : ℕ). slice_get l j ≡ Some (k, on.0)) a on.1) at in omega arith,
              )
              | inr (inr a) ↦ absurd a
            ]),
            (λ h. elim (cases_eq t s) [
              | inl one ↦ in-right t kept (s ∷ []) (inl one)
              | inr differs ↦ in-left t kept (s ∷ []) ((swept.chosen t).1 (
                h.0,
                λ j on. elim (cases_lt index j) [
                  | inl over ↦ omega arith
                  | inr under ↦
                      let up : index ≤ j = h.1 j on in
                      let equal : j ≡ index = omega arith in
                      absurd (differs (ap (λ (x : ℕ × Event). x.0) (at-one l index (t, on.0) (s, e) (subst (λ (k : ℕ). slice_get l k ≡ Some (t, on.0)) equal on.1) at)))
                ],
              ))
            ]),
          );
          falling = in-order-more (λ (a : ℕ) (b : ℕ). b < a) kept s swept.falling (λ t i.
              let old = (swept.chosen t).0 i in
              let stands = stand t old.0.0 in
              let up : suc index ≤ stands.0 = old.1 stands.0 stands.1 in
              index-rises from next l index stands.0 s t e stands.1.0 r at stands.1.1 (omega arith));
        }

    -- else it is not
    pub swept-left : (In s cs → ((v : ℕ) × In v followers × FlagAt l high flags v → ⊥) → ⊥) → Swept l cs high index (flags ++ flag ∷ []) kept
    swept-left not_one = record {
      count = counted;
      flagged = flagged-more;
      chosen = λ t. (
        (λ i. let old = (swept.chosen t).0 i in (old.0, λ j on. let up : suc index ≤ j = old.1 j on in omega arith)),
        (λ h. elim (cases_eq t s) [
          | inl one ↦
              let top : Topmost l cs s = subst (λ (k : ℕ). Topmost l cs k) one h.0 in
              absurd (not_one top.0 (λ below.
              let found = flagged-below below in
              let is : found.0 ≡ s = top.1 found.0 found.1 found.2 in
              let up : s < found.0 = found.3 in
              omega arith))
          | inr differs ↦ (swept.chosen t).1 (
            h.0,
            λ j on. elim (cases_lt index j) [
              | inl over ↦ omega arith
              | inr under ↦
                  let up : index ≤ j = h.1 j on in
                  let equal : j ≡ index = omega arith in
                  absurd (differs (ap (λ (x : ℕ × Event). x.0) (at-one l index (t, on.0) (s, e) (subst (λ (k : ℕ). slice_get l k ≡ Some (t, on.0)) equal on.1) at)))
            ],
          )
        ]),
      );
      falling = swept.falling;
    }

-- all places are swept
pub swept-all : (from next : ℕ) (l : Live) (cs : List ℕ) (low high index : ℕ) (flags : List Bool) (kept : List ℕ) → Rising from l next → StandWithin l cs low high →
    index ≤ low → Swept l cs high index flags kept → (t : ℕ) → In t kept ↔ Topmost l cs t
swept-all from next l cs low high index flags kept r stand past swept t = (
  (λ i. ((swept.chosen t).0 i).0),
  (λ top. (swept.chosen t).1 (
    top,
    λ j on.
        let at = stand t top.0 in
        let one : at.0 ≡ j = one-index from next l t at.1.0 on.0 at.0 j r at.1.1 on.1 in
        let up : low ≤ at.0 = at.2 in
        omega arith,
  )),
)

either-true : (a b : Bool) → (a || b) ≡ true → (a ≡ true) ⊎ (b ≡ true)
either-true true b h = inl refl
either-true false b h = inr h

true-either : (a b : Bool) → (a ≡ true) ⊎ (b ≡ true) → (a || b) ≡ true
true-either true b h = refl
true-either false b h = elim h [ inl a ↦ cc | inr a ↦ a ]

alone-true : (a b : Bool) → (a && not b) ≡ true → (a ≡ true) × (b ≡ false)
alone-true true false h = (refl, refl)
alone-true true true h = cc
alone-true false b h = cc

alone-false : (a b : Bool) → (a && not b) ≡ false → a ≡ true → b ≡ true
alone-false true true h is = refl
alone-false true false h is = cc
alone-false false b h is = cc

-- one index further down
pub swept-next : (from next : ℕ) (l : Live) (cs : List ℕ) (low high index p s : ℕ) (e : Event) (flags new_flags : List Bool) (kept new_kept followers : List ℕ)
    (one below flag chosen : Bool) → Rising from l next → StandWithin l cs low high → suc p ≡ index → slice_get l p ≡ Some (s, e) → p < high →
    ListsFollowers l s followers → Swept l cs high index flags kept → one ≡ is_in s cs →
    IsTrue below ↔ ((v : ℕ) × In v followers × FlagAt l high flags v) → flag ≡ (one || below) → chosen ≡ (one && not below) →
    new_flags ≡ flags ++ flag ∷ [] → new_kept ≡ cond chosen (kept ++ s ∷ []) kept → Swept l cs high p new_flags new_kept
swept-next from next l cs low high index p s e flags new_flags kept new_kept followers one below flag chosen r stand step at less lists swept one_is below_is flag_is chosen_is flags_are kept_are =
    subst (λ (k : List Bool). Swept l cs high p k new_kept) (sym flags_are) (pick chosen refl kept_are)
  where
    before : Swept l cs high (suc p) flags kept
    before = subst (λ (k : ℕ). Swept l cs high k flags kept) (sym step) swept

    told : (flag ≡ true) ↔ (In s cs ⊎ ((v : ℕ) × In v followers × FlagAt l high flags v))
    told = (
      (λ on. elim (either-true one below (sym flag_is ∙ on)) [ inl a ↦ inl (is-in s cs (sym one_is ∙ a)) | inr b ↦ inr (below_is.0 b) ]),
      (λ h. flag_is ∙ true-either one below (elim h [ inl i ↦ inl (one_is ∙ in-is s cs i) | inr found ↦ inr (below_is.1 found) ])),
    )

    pick : (b : Bool) → chosen ≡ b → new_kept ≡ cond b (kept ++ s ∷ []) kept → Swept l cs high p (flags ++ flag ∷ []) new_kept
    pick true is now =
        let both = alone-true one below (sym chosen_is ∙ is) in
        subst (λ (k : List ℕ). Swept l cs high p (flags ++ flag ∷ []) k) (sym now)
        (swept-kept from next l cs low high p s e flags kept followers r stand at less lists before flag told (is-in s cs (sym one_is ∙ both.0))
        (λ found. let on : below ≡ true = below_is.1 found in let off : below ≡ false = both.1 in cc))
    pick false is now =
        subst (λ (k : List ℕ). Swept l cs high p (flags ++ flag ∷ []) k) (sym now)
        (swept-left from next l cs low high p s e flags kept followers r stand at less lists before flag told
        (λ i none. none (below_is.0 (alone-false one below (sym chosen_is ∙ is) (one_is ∙ in-is s cs i)))))

-- the flag of an index
pub flag-at : (from next : ℕ) (l : Live) (high : ℕ) (flags : List Bool) (t index : ℕ) (e : Event) (d : Bool) → Rising from l next → slice_get l index ≡ Some (t, e) →
    index < high → high ≤ index + length flags → IsTrue (get_or flags (high - 1 - index) d) ↔ FlagAt l high flags t
flag-at from next l high flags t index e d r at less size =
    let k : ℕ = high - 1 - index in
    let within : k < length flags = omega arith in
    let read = slice_get-get_or flags k d within in (
      (λ on. (index, k, (e, at), omega arith, read ∙ ap (λ (b : Bool). Some b) on)),
      (λ h.
          let one : h.0 ≡ index = one-index from next l t h.2.0 e h.0 index r h.2.1 at in
          let sum : h.0 + h.1 + 1 ≡ high = h.3 in
          let same_flag : h.1 ≡ k = omega arith in
          at-one flags k (get_or flags k d) true read (subst (λ (j : ℕ). slice_get flags j ≡ Some true) same_flag h.4)),
    )

pub last-below : (l : Live) (high : ℕ) (d : ℕ × Event) → 0 < high → high ≤ length l → slice_get l (high - 1) ≡ Some (get_or l (high - 1) d)
last-below l high d some size = slice_get-get_or l (high - 1) d (omega arith)

-- a ticket that is not above that of the last index below `high` stands below it
pub stands-below : (from next : ℕ) (l : Live) (high index t : ℕ) (e : Event) (x : ℕ × Event) → Rising from l next → 0 < high → slice_get l (high - 1) ≡ Some x →
    slice_get l index ≡ Some (t, e) → t ≤ x.0 → index < high
stands-below from next l high index t e x r some last at low = elim (cases_lt index high) [
  | inl below ↦ below
  | inr above ↦
      let over : high - 1 < index = omega arith in
      let more : x.0 < t = index-rises from next l (high - 1) index x.0 t x.1 e r last at over in
      omega arith
]

-- from the first of some ascending tickets on that is above it none has a flag
pub none-above : (from next : ℕ) (l : Live) (high : ℕ) (flags : List Bool) (ts : List ℕ) (i : ℕ) (x : ℕ × Event) → Rising from l next → InOrder ◌<◌ ts → i < length ts →
    0 < high → slice_get l (high - 1) ≡ Some x → x.0 < get_or ts i 0 → ((t : ℕ) → In t (take i ts) → FlagAt l high flags t → ⊥) → (t : ℕ) → In t ts →
    FlagAt l high flags t → ⊥
none-above from next l high flags ts i x r o less some last past none t j flag =
    let y : ℕ = get_or ts i 0 in
    let parts : ts ≡ take i ts ++ y ∷ drop (suc i) ts = parts-at ts i y (slice_get-get_or ts i 0 less) in
    let sum : flag.0 + flag.1 + 1 ≡ high = flag.3 in
    let within : flag.0 ≤ high - 1 = omega arith in
    let low : t ≤ x.0 = not-above t flag.0 flag.2 within in
    elim (in-parts t (take i ts) (y ∷ drop (suc i) ts) (subst (λ (k : List ℕ). In t k) parts j)) [
      | inl a ↦ none t a flag
      | inr (inl is) ↦ omega arith
      | inr (inr later) ↦
          let up : y < t =
          every-in (λ z. y < z) (drop (suc i) ts) t (in-order-right ◌<◌ (take i ts) (y ∷ drop (suc i) ts) (subst (InOrder ◌<◌) parts o)).0 later in
          omega arith
    ]
  where
    not-above : (t index : ℕ) → StandsAt l t index → index ≤ high - 1 → t ≤ x.0
    not-above t index on within = elim (cases_lt x.0 t) [
      | inl more ↦
          let over : high - 1 < index = lesser-stands from next l (high - 1) index x.0 t x.1 on.0 r last on.1 more in
          omega arith
      | inr low ↦ low
    ]

-- between the places of the first and the last of some ascending tickets stand all of them
pub span-of : (from next : ℕ) (l : Live) (ts : List ℕ) (first last : ℕ) (e f : Event) → Rising from l next → 0 < length ts → IsNonDecreasing ts →
    slice_get l first ≡ Some (get_or ts 0 0, e) → slice_get l last ≡ Some (get_or ts (length ts - 1) 0, f) → ((t : ℕ) → In t ts → IsLive l t) →
    (first ≤ last) × StandWithin l ts first (last + 1)
span-of from next l ts first last e f r some rise at on live = (
  between first last (get_or ts 0 0) (get_or ts (length ts - 1) 0) e f at on (rise 0 (length ts - 1) 0 (omega arith) (omega arith)),
  λ t i.
      let k = index-in ts t i in
      let within : k.0 < length ts = slice_get_within ts k.0 t k.1 in
      let here : get_or ts k.0 0 ≡ t = got-here ts k.0 t 0 k.1 in
      let low : get_or ts 0 0 ≤ get_or ts k.0 0 = rise 0 k.0 0 (omega arith) within in
      let high : get_or ts k.0 0 ≤ get_or ts (length ts - 1) 0 = rise k.0 (length ts - 1) 0 (omega arith) (omega arith) in
      let event = live t i in
      let stands = index-in l (t, event.0) event.1 in
      let above : first ≤ stands.0 = between first stands.0 (get_or ts 0 0) t e event.0 at stands.1 (omega arith) in
      let below : stands.0 ≤ last = between stands.0 last t (get_or ts (length ts - 1) 0) event.0 f stands.1 on (omega arith) in
      (stands.0, (event.0, stands.1), above, omega arith),
)
  where
    between : (i j t u : ℕ) (e f : Event) → slice_get l i ≡ Some (t, e) → slice_get l j ≡ Some (u, f) → t ≤ u → i ≤ j
    between i j t u e f a b le = elim (cases_lt j i) [
      | inl back ↦ let more : u < t = index-rises from next l j i u t f e r b a back in absurd (omega arith)
      | inr up ↦ up
    ]

pub not-both : (b : Bool) → b ≡ true → b ≡ false → ⊥
not-both true on off = cc
not-both false on off = cc

-- what a search by halves tells
pub found-among : (ns : List ℕ) (n i : ℕ) → (i < length ns) × (get_or ns i 0 ≡ n) → true ≡ is_in n ns
found-among ns n i h = sym (in-is n ns (subst (λ (k : ℕ). In k ns) h.1 (in-read ns i h.0)))

pub none-among : (ns : List ℕ) (n i : ℕ) → (i ≤ length ns) × ((k : ℕ) → k < i → get_or ns k 0 < n) × ((k : ℕ) → i ≤ k → k < length ns → n < get_or ns k 0) →
    false ≡ is_in n ns
none-among ns n i h = pick (is_in n ns) refl
  where
    pick : (b : Bool) → is_in n ns ≡ b → false ≡ b
    pick false is = refl
    pick true is =
        let at = index-in ns n (is-in n ns is) in
        let k : ℕ = at.0 in
        let within : k < length ns = slice_get_within ns k n at.1 in
        let here : get_or ns k 0 ≡ n = got-here ns k n 0 at.1 in
        elim (cases_lt k i) [
          | inl low ↦ let less : get_or ns k 0 < n = h.1 k low in absurd (omega arith)
          | inr high ↦ let more : n < get_or ns k 0 = h.2 k high within in absurd (omega arith)
        ]

-- the elements of a list in another order
pub permuted : (xs ys : List ℕ) → IsPermutation xs ys → (n : ℕ) → In n xs → In n ys
permuted xs ys p n i =
    let at = index-in xs n i in
    let there = Contains-permutation xs ys n p (at.0, slice_get_within xs at.0 n at.1, got-here xs at.0 n n at.1) in
    in-at ys there.0 n (slice_get-get_or ys there.0 n there.1 ∙ ap (λ (k : ℕ). Some k) there.2)

-- of one event none depends on another
one-of-few : (cs : List ℕ) (c t : ℕ) → length cs ≤ 1 → In c cs → In t cs → c ≡ t
one-of-few [] c t h i j = absurd i
one-of-few (x ∷ []) c t h i j = elim i [ inl a ↦ elim j [ inl b ↦ a ∙ sym b | inr b ↦ absurd b ] | inr a ↦ absurd a ]
one-of-few (x ∷ y ∷ cs) c t h i j = absurd (omega arith)

pub few-falling : (cs : List ℕ) → length cs ≤ 1 → Falling cs
few-falling [] h = tt
few-falling (x ∷ []) h = (tt, tt)
few-falling (x ∷ y ∷ cs) h = absurd (omega arith)

pub few-topmost : (l : Live) (cs : List ℕ) → length cs ≤ 1 → (t : ℕ) → In t cs ↔ Topmost l cs t
few-topmost l cs h t = ((λ i. (i, λ c j on. one-of-few cs c t h j i)), (λ top. top.0))
