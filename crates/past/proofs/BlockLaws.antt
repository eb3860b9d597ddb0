-- A sweep up for the told events of a block: what is known at an event from those that it follows, and what is listed.
use Rattle.std.proofs.Common.{◌≡◌, ◌≢◌, ◌⊎◌, ◌↔◌, inl, inr, ℕ, zero, suc, ◌+◌, ◌-◌, ◌<◌, ◌≤◌, List, [], ◌∷◌, ◌++◌, Bool, true, false, ◌||◌, ◌&&◌, not, cond, length, Some, get_or, take, refl, sym, ◌∙◌, ap, subst, arith}
use Rattle.std.specs.Prelude.{slice_get, slice_set}
use Rattle.std.proofs.lemmas.Bool.{cases_eq, cases_lt, and_parts, and_from, or_cases, or_left, or_right, not-true, not_from_false, false_from_ne_true}
use Rattle.std.proofs.lemmas.Option.{slice_get_within, slice_get-get_or}
use Rattle.syntax.specs.Lists.{In}
use Rattle.runs.proofs.public.Lists.{in-left, in-right, in-parts}
use Rattle.dependence.proofs.public.ListPlaces.{at-one, at-within, in-order-more, set-here, set-other, take-next}
use Rattle.past.specs.declared.blocks.Mark.{Mark}
use Rattle.past.specs.declared.past.PastEvent.{PastEvent}
use Rattle.past.specs.internal.Blocks.{AddsAt, AllOpen, AnyHas, AreLasts, AreMarked, Down, stays, leads_on, IsBehind, IsBehindBelow, IsBelow, IsHandedOn, IsMarked, IsOpen, ListsOpen, OneHas, OpenUpTo, Reaches}
use Rattle.past.specs.internal.Lanes.{AddsLanes, AreThose, IsSet, has}
use Rattle.past.specs.internal.Near.{Falling, LeadDown, ToldAt, told}

-- ---- one place more
pub in-take-next : (xs : List ℕ) (i p : ℕ) → i < length xs → In p (take (i + 1) xs) ↔ (In p (take i xs) ⊎ (p ≡ get_or xs i 0))
in-take-next xs i p less =
    let next : suc i ≡ i + 1 = omega arith in
    let is : take (i + 1) xs ≡ take i xs ++ get_or xs i 0 ∷ [] =
    ap (λ (k : ℕ). take k xs) (sym next) ∙ take-next xs i (get_or xs i 0) (slice_get-get_or xs i 0 less) in (
      (λ h. elim (in-parts p (take i xs) (get_or xs i 0 ∷ []) (subst (λ (k : List ℕ). In p k) is h)) [
        | inl before ↦ inl before
        | inr (inl own) ↦ inr own
        | inr (inr none) ↦ absurd none
      ]),
      (λ h. subst (λ (k : List ℕ). In p k) (sym is) (elim h [
        | inl before ↦ in-left p (take i xs) (get_or xs i 0 ∷ []) before
        | inr own ↦ in-right p (take i xs) (get_or xs i 0 ∷ []) (inl own)
      ])),
    )

-- ---- the lanes of several marks
pub any-none : (part : Mark → ℕ) (marks : List Mark) (first k lanes : ℕ) → has lanes k ≡ false → (has lanes k ≡ true) ↔ AnyHas part marks first [] k
any-none part marks first k lanes off = (
  (λ on. let both : true ≡ false = sym on ∙ off in cc),
  (λ h. absurd h.1),
)

pub any-next : (part : Mark → ℕ) (marks : List Mark) (first : ℕ) (places : List ℕ) (i old one new : ℕ) → i < length places → ((k : ℕ) → has new k ≡ (has old k || has one k)) →
    ((k : ℕ) → (has one k ≡ true) ↔ OneHas part marks first k (get_or places i 0)) → ((k : ℕ) → (has old k ≡ true) ↔ AnyHas part marks first (take i places) k) →
    (k : ℕ) → (has new k ≡ true) ↔ AnyHas part marks first (take (i + 1) places) k
any-next part marks first places i old one new less is own before k = (
  (λ on. elim (or_cases (has old k) (has one k) (sym (is k) ∙ on)) [
    | inl was ↦ let h = (before k).0 was in (h.0, (in-take-next places i h.0 less).1 (inl h.1), h.2)
    | inr more ↦ (get_or places i 0, (in-take-next places i (get_or places i 0) less).1 (inr refl), (own k).0 more)
  ]),
  (λ h. is k ∙ elim ((in-take-next places i h.0 less).0 h.1) [
    | inl was ↦ or_left (has old k) (has one k) ((before k).1 (h.0, was, h.2))
    | inr at ↦ or_right (has old k) (has one k) ((own k).1 (subst (λ (f : ℕ). OneHas part marks first k f) at h.2))
  ]),
)

-- before the block there are none
pub before-block : (part : Mark → ℕ) (marks : List Mark) (first k place lanes : ℕ) → place < first → has lanes k ≡ false → (has lanes k ≡ true) ↔ OneHas part marks first k place
before-block part marks first k place lanes less off = (
  (λ on. let both : true ≡ false = sym on ∙ off in cc),
  (λ h. let up : first ≤ place = h.0 in absurd (omega arith)),
)

pub in-block : (part : Mark → ℕ) (marks : List Mark) (first k place : ℕ) (m : Mark) → first ≤ place → slice_get marks place ≡ Some m →
    (has (part m) k ≡ true) ↔ OneHas part marks first k place
in-block part marks first k place m up at = (
  (λ on. (up, (m, at, on))),
  (λ h. subst (λ (n : Mark). has (part n) k ≡ true) (at-one marks place h.1.0 m h.1.1 at) h.1.2),
)

-- ---- down the lists
module _ (leads : List (List ℕ)) (down : LeadDown leads) where
  pub down-below : (p q : ℕ) → Down leads p q → p ≤ q
  down-below p q stays = omega arith
  down-below p q (leads_on {f = f} places before at i) =
      let less : f < q = down q f places at i in
      let up : p ≤ f = down-below p f before in
      omega arith

  pub down-join : (p v q : ℕ) → Down leads p v → Down leads v q → Down leads p q
  down-join p v q h stays = h
  down-join p v q h (leads_on {f = f} places before at i) = leads_on places (down-join p v f h before) at i

  -- the last step down to another
  pub last-down : (p q : ℕ) → p ≢ q → Down leads p q → (f : ℕ) × ((places : List ℕ) × (slice_get leads q ≡ Some places) × In f places × Down leads p f)
  last-down p q differs stays = absurd (differs refl)
  last-down p q differs (leads_on {f = f} places before at i) = (f, (places, at, i, before))

  module _ (t : ℕ) (whole : List PastEvent) where
    -- what is behind another at one that q follows is so at q
    pub behind-up : (p f q : ℕ) (places : List ℕ) → slice_get leads q ≡ Some places → In f places → IsBehind t whole leads p f → IsBehindBelow t whole leads p q
    behind-up p f q places at i h =
        let v : ℕ = h.1.0 in
        let up : v ≤ f = down-below v f h.1.4 in
        let less : f < q = down q f places at i in
        (h.0, (v, h.1.1, h.1.2, (λ is. let one : v ≡ q = is in absurd (omega arith)), h.1.3, leads_on places h.1.4 at i))

    pub behind-below : (p q : ℕ) → IsBehindBelow t whole leads p q → IsBehind t whole leads p q
    behind-below p q h = (h.0, (h.1.0, h.1.1, h.1.2, h.1.4, h.1.5))

    -- what is known at an event, from those that it follows
    pub gathers : (first end q : ℕ) (marks : List Mark) (places : List ℕ) (m : Mark) → q ≤ length marks → slice_get leads q ≡ Some places →
        AreMarked t whole leads first end q marks → ((k : ℕ) → (has m.reached k ≡ true) ↔ AnyHas (λ n. n.reached) marks first places k) →
        ((k : ℕ) → (has m.behind k ≡ true) ↔ AnyHas (λ n. n.behind) marks first places k) → IsBelow t whole leads first end q m
    gathers first end q marks places m within at are reached behind = record {
      reached = λ k inside. (
        (λ on.
            let h = (reached k).0 on in
            let less : h.0 < q = down q h.0 places at h.1 in
            let found = ((are h.0 h.2.1.0 h.2.0 less h.2.1.1).reached k inside).0 h.2.1.2 in
            let up : first + k ≤ h.0 = down-below (first + k) h.0 found.1 in
            (found.0, (λ is. let one : first + k ≡ q = is in absurd (omega arith)), leads_on places found.1 at h.1)),
        (λ h.
            let step = last-down (first + k) q h.1 h.2 in
            let one = same-list step.1.0 step.1.1 in
            let i : In step.0 places = subst (λ (ps : List ℕ). In step.0 ps) one step.1.2 in
            let less : step.0 < q = down q step.0 places at i in
            let up : first + k ≤ step.0 = down-below (first + k) step.0 step.1.3 in
            let mark = at-within marks step.0 (omega arith) in
            let low : first ≤ step.0 = omega arith in
            (reached k).1 (step.0, i, (low, (mark.0, mark.1, ((are step.0 mark.0 low less mark.1).reached k inside).1 (h.0, step.1.3))))),
      );
      behind = λ k inside. (
        (λ on.
            let h = (behind k).0 on in
            let less : h.0 < q = down q h.0 places at h.1 in
            behind-up (first + k) h.0 q places at h.1 (((are h.0 h.2.1.0 h.2.0 less h.2.1.1).behind k inside).0 h.2.1.2)),
        (λ h.
            let step = last-down h.1.0 q h.1.3 h.1.5 in
            let one = same-list step.1.0 step.1.1 in
            let i : In step.0 places = subst (λ (ps : List ℕ). In step.0 ps) one step.1.2 in
            let less : step.0 < q = down q step.0 places at i in
            let up : first + k ≤ h.1.0 = down-below (first + k) h.1.0 h.1.4 in
            let over : h.1.0 ≤ step.0 = down-below h.1.0 step.0 step.1.3 in
            let mark = at-within marks step.0 (omega arith) in
            let low : first ≤ step.0 = omega arith in
            (behind k).1 (
              step.0,
              i,
              (
                low,
                (
                  mark.0,
                  mark.1,
                  ((are step.0 mark.0 low less mark.1).behind k inside).1 (h.0, (h.1.0, h.1.1, h.1.2, h.1.4, step.1.3)),
                ),
              ),
            )),
      );
    }
      where
        same-list : (some : List ℕ) → slice_get leads q ≡ Some some → some ≡ places
        same-list some at_some = at-one leads q some places at_some at

    -- what is known at it, where it itself counts
    module _ (first end q : ℕ) (below m : Mark) (x : PastEvent) (is_told : Bool) (at_x : slice_get whole q ≡ Some x) (told_is : is_told ≡ told t x)
        (b : IsBelow t whole leads first end q below)
        (reached : (k : ℕ) → first + k < end → (has m.reached k ≡ true) ↔ ((has below.reached k ≡ true) ⊎ ((is_told ≡ true) × (q ≡ first + k)))) where
      told-here : is_told ≡ true → ToldAt t whole q true
      told-here on = (x, at_x, sym told_is ∙ on)

      here-told : ToldAt t whole q true → is_told ≡ true
      here-told h = told_is ∙ ap (λ (y : PastEvent). told t y) (at-one whole q x h.0 at_x h.1) ∙ h.2

      marks-behind : (one : Bool) → is_told ≡ one → m.behind ≡ cond one below.reached below.behind → AreThose m.behind first end (λ p. IsBehind t whole leads p q)
      marks-behind true on is k inside = (
        (λ set.
            let h = (b.reached k inside).0 (subst (λ (w : ℕ). has w k ≡ true) is set) in
            (h.0, (q, told-here on, (λ same. h.1 (sym same)), h.2, stays))),
        (λ h.
            let up : first + k ≤ h.1.0 = down-below (first + k) h.1.0 h.1.3 in
            let over : h.1.0 ≤ q = down-below h.1.0 q h.1.4 in
            subst (λ (w : ℕ). has w k ≡ true) (sym is) ((b.reached k inside).1 (
              h.0,
              (λ same. let one : first + k ≡ q = same in let equal : h.1.0 ≡ first + k = omega arith in h.1.2 equal),
              down-join (first + k) h.1.0 q h.1.3 h.1.4,
            ))),
      )
      marks-behind false off is k inside = (
        (λ set. behind-below (first + k) q ((b.behind k inside).0 (subst (λ (w : ℕ). has w k ≡ true) is set))),
        (λ h. subst (λ (w : ℕ). has w k ≡ true) (sym is) ((b.behind k inside).1 (
          h.0,
          (
            h.1.0,
            h.1.1,
            h.1.2,
            (λ same. let both : true ≡ false = sym (here-told (subst (λ (v : ℕ). ToldAt t whole v true) same h.1.1)) ∙ off in cc),
            h.1.3,
            h.1.4,
          ),
        ))),
      )

      pub marks-here : m.behind ≡ cond is_told below.reached below.behind → IsMarked t whole leads first end q m
      marks-here is = record {
        reached = λ k inside. (
          (λ set. elim ((reached k inside).0 set) [
            | inl under ↦ let h = (b.reached k inside).0 under in (h.0, h.2)
            | inr own ↦
                (subst (λ (v : ℕ). ToldAt t whole v true) own.1 (told-here own.0), subst (λ (v : ℕ). Down leads v q) own.1 stays)
          ]),
          (λ h. (reached k inside).1 (elim (cases_eq (first + k) q) [
            | inl same ↦ inr (here-told (subst (λ (v : ℕ). ToldAt t whole v true) same h.0), sym same)
            | inr differs ↦ inl ((b.reached k inside).1 (h.0, differs, h.1))
          ])),
        );
        behind = marks-behind is_told refl is;
      }

    -- what has no other behind it
    pub opens : (first end q lanes : ℕ) (below : Mark) → end ≤ first + 64 → IsBelow t whole leads first end q below →
        ((k : ℕ) → k < 64 → has lanes k ≡ (has below.reached k && not (has below.behind k))) → AreThose lanes first end (λ p. IsOpen t whole leads p q)
    opens first end q lanes below width b is k inside =
        let low : k < 64 = omega arith in (
          (λ on.
              let parts = and_parts (has below.reached k) (not (has below.behind k)) (sym (is k low) ∙ on) in
              let off : has below.behind k ≡ false = not-true (has below.behind k) parts.1 in (
                (b.reached k inside).0 parts.0,
                (λ h. let both : true ≡ false = sym ((b.behind k inside).1 h) ∙ off in cc),
              )),
          (λ h.
              let off : has below.behind k ≡ false = false_from_ne_true (has below.behind k) (λ on. h.1 ((b.behind k inside).0 on)) in
              is k low ∙ and_from (has below.reached k) (not (has below.behind k)) ((b.reached k inside).1 h.0) (not_from_false (has below.behind k) off)),
        )

    -- the list at a told event gets those of the block
    pub lists-more : (first end q lanes : ℕ) (before after : List ℕ) → first ≤ end → AreThose lanes first end (λ p. IsOpen t whole leads p q) →
        ListsOpen t whole leads end q before → AddsLanes lanes first end before after → ListsOpen t whole leads first q after
    lists-more first end q lanes before after order those old adds = record {
      exactly = λ p. (
        (λ i. elim ((adds.exactly p).0 i) [
          | inl was ↦ let h = (old.exactly p).0 was in let up : end ≤ p = h.0 in (omega arith, h.1)
          | inr set ↦
              let low : first ≤ p = set.0 in
              let high : p < end = set.1 in
              let back : first + (p - first) ≡ p = omega arith in
              (low, subst (λ (k : ℕ). IsOpen t whole leads k q) back ((those (p - first) (omega arith)).0 set.2))
        ]),
        (λ h.
            let low : first ≤ p = h.0 in
            (adds.exactly p).1 (elim (cases_lt p end) [
              | inl inside ↦
                  let back : p ≡ first + (p - first) = omega arith in
                  inr (low, inside, (those (p - first) (omega arith)).1 (subst (λ (k : ℕ). IsOpen t whole leads k q) back h.1))
              | inr behind ↦ inl ((old.exactly p).1 (behind, h.1))
            ])),
      );
      falling = adds.falling;
    }

    -- ---- where nothing is handed on
    none-open : (n first end place p q : ℕ) → IsHandedOn t whole leads first end place place → end ≤ place → first ≤ p → p < end → place ≤ q → q ≤ n →
        IsOpen t whole leads p q → ⊥
    none-open zero first end place p q handed over low inside up most h =
        let step = last-down p q h.0.1 h.0.2 in
        let less : step.0 < q = down q step.0 step.1.0 step.1.1 step.1.2 in
        omega arith
    none-open (suc n) first end place p q handed over low inside up most h =
        let step = last-down p q h.0.1 h.0.2 in
        let f : ℕ = step.0 in
        let less : f < q = down q f step.1.0 step.1.1 step.1.2 in
        let out : IsBehind t whole leads p f → ⊥ = λ b. h.1 (behind-up p f q step.1.0 step.1.1 step.1.2 b) in
        elim (cases_lt f place) [
          | inl before ↦
              let more : q < place = handed p f q step.1.0 low inside before (h.0.0, step.1.3) out step.1.1 step.1.2 in
              omega arith
          | inr behind ↦
              none-open n first end place p f handed over low inside behind (omega arith)
              ((h.0.0, (λ is. let one : p ≡ f = is in absurd (omega arith)), step.1.3), λ b. out (behind-below p f b))
        ]

    -- the list of a told event behind all to which something is handed on is the same with the block
    pub lists-same : (first end place q : ℕ) (places : List ℕ) → first ≤ end → IsHandedOn t whole leads first end place place → end ≤ place → place ≤ q →
        ListsOpen t whole leads end q places → ListsOpen t whole leads first q places
    lists-same first end place q places order handed over up old = record {
      exactly = λ p. (
        (λ i. let h = (old.exactly p).0 i in let behind : end ≤ p = h.0 in (omega arith, h.1)),
        (λ h. (old.exactly p).1 (elim (cases_lt p end) [
          | inl inside ↦ absurd (none-open q first end place p q handed over h.0 inside up (omega arith) h.1)
          | inr behind ↦ (behind, h.1)
        ])),
      );
      falling = old.falling;
    }

    -- ---- one place more
    pub marked-next : (first end place : ℕ) (marks : List Mark) (m : Mark) → place < length marks → IsMarked t whole leads first end place m →
        AreMarked t whole leads first end place marks → AreMarked t whole leads first end (place + 1) (slice_set marks place m)
    marked-next first end place marks m within one before q n low less at = elim (cases_eq q place) [
      | inl is ↦
          let here : n ≡ m = at-one (slice_set marks place m) place n m
          (subst (λ (k : ℕ). slice_get (slice_set marks place m) k ≡ Some n) is at) (set-here marks place m within) in
          subst (λ (k : ℕ). IsMarked t whole leads first end k n) (sym is) (subst (λ (o : Mark). IsMarked t whole leads first end place o) (sym here) one)
      | inr differs ↦ before q n low (omega arith) (sym (set-other marks place q m differs) ∙ at)
    ]

    pub open-next : (first end place lanes : ℕ) (near new : List (List ℕ)) (is_told : Bool) → first ≤ end → (ToldAt t whole place true → is_told ≡ true) →
        length near ≡ length new → AreThose lanes first end (λ p. IsOpen t whole leads p place) → AddsAt near place is_told lanes first end new →
        OpenUpTo t whole leads first end place near → OpenUpTo t whole leads first end (place + 1) new
    open-next first end place lanes near new is_told order told_is size those adds before q places told at = elim (cases_eq q place) [
      | inl is ↦
          let here : ToldAt t whole place true = subst (λ (k : ℕ). ToldAt t whole k true) is told in
          let at_place : slice_get new place ≡ Some places = subst (λ (k : ℕ). slice_get new k ≡ Some places) is at in
          let inside : place < length new = slice_get_within new place places at_place in
          let old = at-within near place (omega arith) in
          let was = (before place old.0 here old.1).1 (omega arith) in
          let lists = lists-more first end place lanes old.0 places order those was (adds.added (told_is here) old.0 places old.1 at_place) in
          ((λ less. subst (λ (k : ℕ). ListsOpen t whole leads first k places) (sym is) lists), (λ up. absurd (omega arith)))
      | inr differs ↦
          let was = before q places told (sym (adds.other q differs) ∙ at) in
          ((λ less. was.0 (omega arith)), (λ up. was.1 (omega arith)))
    ]

    pub handed-next : (first end place until new last : ℕ) (lasts : List ℕ) (m : Mark) → end ≤ first + 64 → IsMarked t whole leads first end place m → AreLasts leads lasts →
        slice_get lasts place ≡ Some last → until ≤ new → ((k : ℕ) → k < 64 → has m.reached k ≡ true → has m.behind k ≡ false → last ≤ new) →
        IsHandedOn t whole leads first end place until → IsHandedOn t whole leads first end (place + 1) new
    handed-next first end place until new last lasts m width marked all at_last more handed before p f q places low inside less reaches out at i =
        elim (cases_lt f place) [
          | inl under ↦ let was : q < until = before p f q places low inside under reaches out at i in omega arith
          | inr over ↦
              let is : f ≡ place = omega arith in
              let k : ℕ = p - first in
              let back : p ≡ first + k = omega arith in
              let in_lanes : first + k < end = omega arith in
              let on : has m.reached k ≡ true = (marked.reached k in_lanes).1
              (subst (λ (v : ℕ). Reaches t whole leads v place) back (subst (λ (v : ℕ). Reaches t whole leads p v) is reaches)) in
              let off : has m.behind k ≡ false = false_from_ne_true (has m.behind k) (λ set. out
              (subst (λ (v : ℕ). IsBehind t whole leads p v) (sym is) (subst (λ (v : ℕ). IsBehind t whole leads v place) (sym back) ((marked.behind k in_lanes).0 set)))) in
              let up : last ≤ new = handed k (omega arith) on off in
              let here : q < last = all.behind q place last places at (subst (λ (v : ℕ). In v places) is i) at_last in
              omega arith
        ]

    -- ---- a block begins, and ends
    pub open-first : (first end : ℕ) (near : List (List ℕ)) → first ≤ end → AllOpen t whole leads end near → OpenUpTo t whole leads first end first near
    open-first first end near order all q places told at =
        let old = all q places told at in (
          (λ less. record {
            exactly = λ p. (
              (λ i. let h = (old.exactly p).0 i in let behind : end ≤ p = h.0 in (omega arith, h.1)),
              (λ h.
                  let low : first ≤ p = h.0 in
                  let up : p ≤ q = down-below p q h.1.0.2 in
                  absurd (omega arith)),
            );
            falling = old.falling;
          }),
          (λ up. old),
        )

    pub marked-first : (first end : ℕ) (marks : List Mark) → AreMarked t whole leads first end first marks
    marked-first first end marks q m low less at = absurd (omega arith)

    pub handed-first : (first end : ℕ) → IsHandedOn t whole leads first end first end
    handed-first first end p f q places low inside less reaches out at i = let up : p ≤ f = down-below p f reaches.1 in absurd (omega arith)

    pub open-last : (first end place : ℕ) (near : List (List ℕ)) → first ≤ end → end ≤ place → IsHandedOn t whole leads first end place place →
        OpenUpTo t whole leads first end place near → AllOpen t whole leads first near
    open-last first end place near order over handed upto q places told at = elim (cases_lt q place) [
      | inl less ↦ (upto q places told at).0 less
      | inr up ↦ lists-same first end place q places order handed over up ((upto q places told at).1 up)
    ]

    -- before the first block all lists are empty
    pub open-none : (near : List (List ℕ)) → length leads ≡ length whole → ((q : ℕ) (places : List ℕ) → slice_get near q ≡ Some places → places ≡ []) →
        AllOpen t whole leads (length whole) near
    open-none near size empty q places told at = record {
      exactly = λ p. (
        (λ i. absurd (subst (λ (k : List ℕ). In p k) (empty q places at) i)),
        (λ h.
            let behind : length whole ≤ p = h.0 in
            let within : p < length whole = slice_get_within whole p h.1.0.0.0 h.1.0.0.1 in
            absurd (omega arith)),
      );
      falling = subst (λ (k : List ℕ). Falling k) (sym (empty q places at)) tt;
    }

-- ---- the lanes of a set are listed
-- those from a place on are, behind what was listed
pub record LanesFrom (lanes first end place : ℕ) (before now : List ℕ) : Type 0 where
  pub exactly : (p : ℕ) → In p now ↔ (In p before ⊎ ((place ≤ p) × IsSet lanes first end p))
  pub falling : Falling now
  pub behind : (p : ℕ) → In p now → place ≤ p

pub lanes-none : (lanes first end : ℕ) (before : List ℕ) → Falling before → ((p : ℕ) → In p before → end ≤ p) → LanesFrom lanes first end end before before
lanes-none lanes first end before falling behind = record {
  exactly = λ p. (
    (λ i. inl i),
    (λ h. elim h [ inl i ↦ i | inr set ↦ let low : end ≤ p = set.0 in let high : p < end = set.1.1 in absurd (omega arith) ]),
  );
  falling = falling;
  behind = behind;
}

pub lanes-set : (lanes first end place : ℕ) (before now : List ℕ) → first ≤ place → place < end → has lanes (place - first) ≡ true →
    LanesFrom lanes first end (place + 1) before now → LanesFrom lanes first end place before (now ++ place ∷ [])
lanes-set lanes first end place before now low high on b = record {
  exactly = λ p. (
    (λ i. elim (in-parts p now (place ∷ []) i) [
      | inl was ↦ elim ((b.exactly p).0 was) [
        | inl old ↦ inl old
        | inr set ↦ let up : place + 1 ≤ p = set.0 in inr (omega arith, set.1)
      ]
      | inr (inl is) ↦
          let back : place ≡ p = sym is in
          inr (omega arith, subst (λ (k : ℕ). IsSet lanes first end k) back (low, high, on))
      | inr (inr none) ↦ absurd none
    ]),
    (λ h. elim h [
      | inl old ↦ in-left p now (place ∷ []) ((b.exactly p).1 (inl old))
      | inr set ↦ elim (cases_lt place p) [
        | inl over ↦ in-left p now (place ∷ []) ((b.exactly p).1 (inr (omega arith, set.1)))
        | inr under ↦ let up : place ≤ p = set.0 in let is : p ≡ place = omega arith in in-right p now (place ∷ []) (inl is)
      ]
    ]),
  );
  falling = in-order-more (λ (x : ℕ) (y : ℕ). y < x) now place b.falling (λ p i. let up : place + 1 ≤ p = b.behind p i in omega arith);
  behind = λ p i. elim (in-parts p now (place ∷ []) i) [
    | inl was ↦ let up : place + 1 ≤ p = b.behind p was in omega arith
    | inr (inl is) ↦ let one : p ≡ place = is in omega arith
    | inr (inr none) ↦ absurd none
  ];
}

pub lanes-unset : (lanes first end place : ℕ) (before now : List ℕ) → has lanes (place - first) ≡ false → LanesFrom lanes first end (place + 1) before now →
    LanesFrom lanes first end place before now
lanes-unset lanes first end place before now off b = record {
  exactly = λ p. (
    (λ i. elim ((b.exactly p).0 i) [
      | inl old ↦ inl old
      | inr set ↦ let up : place + 1 ≤ p = set.0 in inr (omega arith, set.1)
    ]),
    (λ h. elim h [
      | inl old ↦ (b.exactly p).1 (inl old)
      | inr set ↦ elim (cases_eq p place) [
        | inl is ↦
            let both : true ≡ false = sym (subst (λ (k : ℕ). has lanes (k - first) ≡ true) is set.1.2) ∙ off in
            cc
        | inr differs ↦ let up : place ≤ p = set.0 in (b.exactly p).1 (inr (strictly-up p up differs, set.1))
      ]
    ]),
  );
  falling = b.falling;
  behind = λ p i. let up : place + 1 ≤ p = b.behind p i in omega arith;
}
  where
    strictly-up : (p : ℕ) → place ≤ p → p ≢ place → place + 1 ≤ p
    strictly-up p up differs = elim (cases_lt place p) [ inl less ↦ omega arith | inr not_less ↦ absurd (differs (omega arith)) ]

pub lanes-all : (lanes first end place : ℕ) (before now : List ℕ) → place ≤ first → LanesFrom lanes first end place before now → AddsLanes lanes first end before now
lanes-all lanes first end place before now past b = record {
  exactly = λ p. (
    (λ i. elim ((b.exactly p).0 i) [ inl old ↦ inl old | inr set ↦ inr set.1 ]),
    (λ h. (b.exactly p).1 (elim h [ inl old ↦ inl old | inr set ↦ let low : first ≤ p = set.0 in inr (omega arith, set) ])),
  );
  falling = b.falling;
}

pub adds-none : (lanes first end : ℕ) (before : List ℕ) → ((k : ℕ) → has lanes k ≡ false) → Falling before → AddsLanes lanes first end before before
adds-none lanes first end before off falling = record {
  exactly = λ p. (
    (λ i. inl i),
    (λ h. elim h [ inl i ↦ i | inr set ↦ let both : true ≡ false = sym set.2 ∙ off (p - first) in cc ]),
  );
  falling = falling;
}

-- ---- to the list at a place they are added
pub adds-at : (near : List (List ℕ)) (place lanes first end : ℕ) (old new : List ℕ) → place < length near → slice_get near place ≡ Some old →
    AddsLanes lanes first end old new → AddsAt near place true lanes first end (slice_set near place new)
adds-at near place lanes first end old new within at adds = record {
  size = length-set-here near place new;
  other = λ q differs. set-other near place q new differs;
  added = λ on before after was is.
      let one : old ≡ before = at-one near place old before at was in
      let two : new ≡ after = at-one (slice_set near place new) place new after (set-here near place new within) is in
      subst (λ (k : List ℕ). AddsLanes lanes first end before k) two (subst (λ (k : List ℕ). AddsLanes lanes first end k new) one adds);
}
  where
    length-set-here : (xs : List (List ℕ)) (i : ℕ) (v : List ℕ) → length (slice_set xs i v) ≡ length xs
    length-set-here [] i v = refl
    length-set-here (x ∷ xs) zero v = refl
    length-set-here (x ∷ xs) (suc i) v = ap suc (length-set-here xs i v)

pub adds-not : (near : List (List ℕ)) (place lanes first end : ℕ) (is_so : Bool) → is_so ≡ false → AddsAt near place is_so lanes first end near
adds-not near place lanes first end is_so off = record {
  size = refl;
  other = λ q differs. refl;
  added = λ on before after was is. let both : true ≡ false = sym on ∙ off in cc;
}

-- ---- a place behind all that follow
pub raised-next : (old now : List ℕ) (places : List ℕ) (bound i : ℕ) → i < length places → get_or places i 0 < length now →
    ((p : ℕ) → In p (take i places) → slice_get now p ≡ Some bound) →
    (p : ℕ) → In p (take (i + 1) places) → slice_get (slice_set now (get_or places i 0) bound) p ≡ Some bound
raised-next old now places bound i less within before p h = elim (cases_eq p (get_or places i 0)) [
  | inl is ↦ subst (λ (k : ℕ). slice_get (slice_set now (get_or places i 0) bound) k ≡ Some bound) (sym is) (set-here now (get_or places i 0) bound within)
  | inr differs ↦ elim ((in-take-next places i p less).0 h) [
    | inl was ↦ set-other now (get_or places i 0) p bound differs ∙ before p was
    | inr own ↦ absurd (differs own)
  ]
]

pub raised-other : (old now : List ℕ) (bound at : ℕ) → at < length now → ((p : ℕ) → (slice_get now p ≡ slice_get old p) ⊎ (slice_get now p ≡ Some bound)) →
    (p : ℕ) → (slice_get (slice_set now at bound) p ≡ slice_get old p) ⊎ (slice_get (slice_set now at bound) p ≡ Some bound)
raised-other old now bound at within before p = elim (cases_eq p at) [
  | inl is ↦ inr (subst (λ (k : ℕ). slice_get (slice_set now at bound) k ≡ Some bound) (sym is) (set-here now at bound within))
  | inr differs ↦ elim (before p) [
    | inl same ↦ inl (set-other now at p bound differs ∙ same)
    | inr on ↦ inr (set-other now at p bound differs ∙ on)
  ]
]

-- of the lists before a place
pub record LastsUpTo (leads : List (List ℕ)) (place : ℕ) (lasts : List ℕ) : Type 0 where
  pub size : length lasts ≡ length leads
  pub behind : (q p last : ℕ) (places : List ℕ) → q < place → slice_get leads q ≡ Some places → In p places → slice_get lasts p ≡ Some last → q < last
  pub most : (p last : ℕ) → slice_get lasts p ≡ Some last → last ≤ place

pub lasts-none : (leads : List (List ℕ)) (lasts : List ℕ) → length lasts ≡ length leads → ((p last : ℕ) → slice_get lasts p ≡ Some last → last ≡ 0) →
    LastsUpTo leads 0 lasts
lasts-none leads lasts size zeros = record {
  size = size;
  behind = λ q p last places less at i is. absurd (omega arith);
  most = λ p last at. let none : last ≡ 0 = zeros p last at in omega arith;
}

pub lasts-next : (leads : List (List ℕ)) (place : ℕ) (places old new : List ℕ) → slice_get leads place ≡ Some places → length new ≡ length old →
    ((p : ℕ) → In p places → slice_get new p ≡ Some (place + 1)) → ((p : ℕ) → (slice_get new p ≡ slice_get old p) ⊎ (slice_get new p ≡ Some (place + 1))) →
    LastsUpTo leads place old → LastsUpTo leads (place + 1) new
lasts-next leads place places old new at size raised other b = record {
  size = size ∙ b.size;
  behind = λ q p last some less at_q i is. elim (cases_lt q place) [
    | inl under ↦ elim (other p) [
      | inl same ↦ b.behind q p last some under at_q i (sym same ∙ is)
      | inr on ↦ let one : last ≡ place + 1 = at-one new p last (place + 1) is on in omega arith
    ]
    | inr over ↦
        let here : q ≡ place = omega arith in
        let same_list : some ≡ places = at-one leads place some places (subst (λ (k : ℕ). slice_get leads k ≡ Some some) here at_q) at in
        let one : last ≡ place + 1 = at-one new p last (place + 1) is (raised p (subst (λ (k : List ℕ). In p k) same_list i)) in
        omega arith
  ];
  most = λ p last is. elim (other p) [
    | inl same ↦ let low : last ≤ place = b.most p last (sym same ∙ is) in omega arith
    | inr on ↦ let one : last ≡ place + 1 = at-one new p last (place + 1) is on in omega arith
  ];
}

pub lasts-all : (leads : List (List ℕ)) (place : ℕ) (lasts : List ℕ) → length leads ≤ place → place ≤ length leads → LastsUpTo leads place lasts → AreLasts leads lasts
lasts-all leads place lasts past within b = record {
  size = b.size;
  behind = λ q p last places at i is. let less : q < length leads = slice_get_within leads q places at in b.behind q p last places (omega arith) at i is;
  most = λ p last is. let low : last ≤ place = b.most p last is in omega arith;
}
