-- Marks of deadlocked places, from all down to those that hold each other back.
use Rattle.std.proofs.Common.{◌≡◌, ◌⊎◌, inl, inr, ℕ, zero, suc, ◌<◌, ◌≤◌, ◌==◌, List, [], ◌∷◌, ◌++◌, map, length, Bool, true, false, not, ◌&&◌, ◌||◌, Option, Some, None, option_map, slice_get, slice_index, refl, sym, ◌∙◌, ap, ap₂, subst, arith, true≢false}
use Rattle.std.proofs.lemmas.Bool.{and_from, and_parts, cases_Bool, cases_eq, eqb-true, eq-eqb}
use Rattle.std.proofs.lemmas.Option.{slice_get-map, slice_get_within}
use Rattle.runs.proofs.public.Options.{none-some, some-injective}
use Rattle.runs.specs.Moves.{Place}
use Rattle.runs.proofs.public.Lists.{in-parts}
use Rattle.dependence.specs.LastEvents.{Uses}
use Rattle.runs.specs.Tests.{same_place}
use Rattle.syntax.specs.Lists.{In}
use Rattle.system.specs.Residual.{Residual}
use Rattle.local_actions.proofs.public.PlacedActions.{place-true, place-itself, under-true, under-told}
use Rattle.local_actions.specs.internal.At.{is_under}
use Rattle.local_actions.specs.declared.action.LocalAction.{LocalAction}
use Rattle.rings.specs.Partners.{partner_in}
use Rattle.rings.specs.Rings.{Helped, HeldBack, HoldEachOther, TellsDeadlocked}
use Rattle.rings.specs.declared.partner.Partner.{Partner}
use Rattle.rings.specs.declared.partner.Partner.TheVariants as partner
use Rattle.rings.specs.internal.Loosened.{is_free, is_loose, is_marked, stands_under, supports, Firm, Held, Released, Loose, AllFirm, IsLoose}
use Rattle.rings.specs.declared.tables.Tables.{Tables}
use Rattle.rings.specs.internal.Loosening.{Keeps, Loosened, Loosening, Sturdy, count_for}
use Rattle.rings.specs.internal.Search.{place_at, same_places, same_at}
use Rattle.rings.specs.internal.Standing.{HasTables, StandsUnder, group_of, row_at, row_of}
use Rattle.rings.specs.internal.Tally.{Counted, Loosens, Puts, count_of, counts_for, edge, tally}
use Rattle.rings.proofs.Edging.{place-within}
use Rattle.rings.proofs.Tallied.{edge-used, tally-same, tally-some, tally-zero, used-edge}
use Rattle.rings.proofs.Places.{Among, got-in, got-within, in-got, itself, marked-some, one-place}

-- ---- tests
and-not : (m n u : Bool) → (m && u) ≡ false → ((m && n) && u) ≡ false
and-not true true u h = h
and-not true false u h = refl
and-not false n u h = refl

and-false : (m : Bool) → (m && false) ≡ false
and-false true = refl
and-false false = refl

and-left : (m n : Bool) → (m && n) ≡ true → m ≡ true
and-left true n h = refl
and-left false n h = cc

-- ---- a list at an index
past-end : {X : Type 0} (xs : List X) (i : ℕ) → length xs ≤ i → slice_get xs i ≡ None
past-end [] i h = refl
past-end (x ∷ xs) zero h = absurd (omega (arith, h))
past-end (x ∷ xs) (suc i) h = past-end xs i (omega (arith, h))

-- ---- actions at one place
same-some : (x y : Option LocalAction) → same_places x y ≡ true → (z : Option LocalAction) → same_places x z ≡ same_places y z
same-some None y h z = cc
same-some (Some x) None h z = cc
same-some (Some x) (Some y) h None = refl
same-some (Some x) (Some y) h (Some z) = ap (λ (a : Place). same_place a z.place) (place-true x.place y.place h)

same-as : (xs : List LocalAction) (i j k : ℕ) → same_at xs i j ≡ true → same_at xs i k ≡ same_at xs j k
same-as xs i j k h = same-some (slice_get xs i) (slice_get xs j) h (slice_get xs k)

same-places : (xs : List LocalAction) (i j : ℕ) (x y : LocalAction) → slice_get xs i ≡ Some x → slice_get xs j ≡ Some y → x.place ≡ y.place → same_at xs i j ≡ true
same-places xs i j x y at goes e =
    ap₂ (λ (a b : Option LocalAction). same_places a b) at goes ∙ subst (λ (b : Place). same_place x.place b ≡ true) e (place-itself x.place)

same-told : (xs : List LocalAction) (i j : ℕ) (x y : LocalAction) → slice_get xs i ≡ Some x → slice_get xs j ≡ Some y → same_at xs i j ≡ true → x.place ≡ y.place
same-told xs i j x y at goes h =
    place-true x.place y.place (sym (ap₂ (λ (a b : Option LocalAction). same_places a b) at goes) ∙ h)

kept-not : (m s : Bool) → s ≡ false → m ≡ (m && not s)
kept-not true s h = sym (ap not h)
kept-not false s h = refl

gone-not : (m s : Bool) → s ≡ true → false ≡ (m && not s)
gone-not true s h = sym (ap not h)
gone-not false s h = refl

marked-within : (marks : List Bool) (i : ℕ) → is_marked (slice_get marks i) ≡ true → i < length marks
marked-within marks i h = pick (slice_get marks i) refl h
  where
    pick : (o : Option Bool) → slice_get marks i ≡ o → is_marked o ≡ true → i < length marks
    pick None e f = cc
    pick (Some b) e f = slice_get_within marks i b e

-- ---- the tables
module _ (tables : Tables) (xs : List LocalAction) (ps : List Partner) (has : HasTables tables xs ps) where
  -- the row in which an action waits
  the-group : (i : ℕ) (p : Place) → slice_get ps i ≡ Some (partner.Behind p) → (g : ℕ) × (row_at tables.waiters p ≡ Some g) × Uses tables.waiters.uses g i
  the-group i p at = (has.waiters p i).1 at

  count-is : (counts : List ℕ) (i g : ℕ) (p : Place) → slice_get ps i ≡ Some (partner.Behind p) → row_at tables.waiters p ≡ Some g
      → count_for tables.waiters counts ps i ≡ slice_index counts g
  count-is counts i g p at row = ap (λ (o : Option Partner). count_of counts (group_of tables.waiters o)) at ∙ ap (count_of counts) row

  -- above an action stand the rows of places under which it stands
  above-under : (j g : ℕ) (p : Place) → row_at tables.waiters p ≡ Some g → Uses tables.above j g → stands_under p (slice_get xs j) ≡ true
  above-under j g p row u = pick (slice_get xs j) refl
    where
      s : StandsUnder tables.waiters xs g j
      s = (has.above j g).0 u

      same : s.2.0 ≡ p
      same = has.groups.apart s.2.0 p g s.2.2 row

      pick : (o : Option LocalAction) → slice_get xs j ≡ o → stands_under p (slice_get xs j) ≡ true
      pick None e = none-some s.0 (sym (ap (option_map (λ (z : LocalAction). z.place)) e) ∙ s.1)
      pick (Some x) e =
          let placed : x.place ≡ s.0 = some-injective x.place s.0 (sym (ap (option_map (λ (z : LocalAction). z.place)) e) ∙ s.1) in
          ap (stands_under p) e ∙ ap (is_under p) placed ∙ ap (λ (q : Place). is_under q s.0) (sym same) ∙ under-told s.2.0 s.0 s.2.1

  under-above : (j g : ℕ) (p : Place) → row_at tables.waiters p ≡ Some g → stands_under p (slice_get xs j) ≡ true → Uses tables.above j g
  under-above j g p row h = pick (slice_get xs j) refl
    where
      pick : (o : Option LocalAction) → slice_get xs j ≡ o → Uses tables.above j g
      pick None e = absurd (true≢false (sym h ∙ ap (stands_under p) e))
      pick (Some x) e =
          (has.above j g).1 (x.place, ap (option_map (λ (z : LocalAction). z.place)) e, (p, under-true p x.place (sym (ap (stands_under p) e) ∙ h), row))

  -- the row of the place of an action
  the-row : (n : ℕ) → n < length xs → (r : ℕ) × (row_of tables.standing (slice_get xs n) ≡ Some r)
  the-row n within =
      let x = got-within xs n within in
      let s = (has.standing x.0.place n).1 (ap (option_map (λ (z : LocalAction). z.place)) x.1) in
      (s.0, ap (row_of tables.standing) x.1 ∙ s.1)

  -- in it stand those at its place
  row-same : (n r i : ℕ) → row_of tables.standing (slice_get xs n) ≡ Some r → Uses tables.standing.uses r i → same_at xs n i ≡ true
  row-same n r i row u = pick (slice_get xs n) refl
    where
      pick : (o : Option LocalAction) → slice_get xs n ≡ o → same_at xs n i ≡ true
      pick None e = none-some r (sym (ap (row_of tables.standing) e) ∙ row)
      pick (Some x) e =
          let there : place_at xs i ≡ Some x.place = (has.standing x.place i).0 (r, sym (ap (row_of tables.standing) e) ∙ row, u) in
          one-place x.place (slice_get xs n) (slice_get xs i) (ap (option_map (λ (z : LocalAction). z.place)) e) there

  same-row : (n r i : ℕ) → row_of tables.standing (slice_get xs n) ≡ Some r → same_at xs n i ≡ true → Uses tables.standing.uses r i
  same-row n r i row h = pick (slice_get xs n) (slice_get xs i) refl refl h
    where
      pick : (o q : Option LocalAction) → slice_get xs n ≡ o → slice_get xs i ≡ q → same_places o q ≡ true → Uses tables.standing.uses r i
      pick None q e f g = cc
      pick (Some x) None e f g = cc
      pick (Some x) (Some y) e f g =
          let one : x.place ≡ y.place = place-true x.place y.place g in
          let s = (has.standing x.place i).1 (ap (option_map (λ (z : LocalAction). z.place)) f ∙ ap (λ (a : Place). Some a) (sym one)) in
          let is : s.0 ≡ r = some-injective s.0 r (sym s.1 ∙ sym (ap (row_of tables.standing) e) ∙ row) in
          subst (λ (k : ℕ). Uses tables.standing.uses k i) is s.2

  row-within : (n r i : ℕ) → row_of tables.standing (slice_get xs n) ≡ Some r → Uses tables.standing.uses r i → i < length xs
  row-within n r i row u = pick (slice_get xs n) refl
    where
      pick : (o : Option LocalAction) → slice_get xs n ≡ o → i < length xs
      pick None e = none-some r (sym (ap (row_of tables.standing) e) ∙ row)
      pick (Some x) e = place-within xs i x.place ((has.standing x.place i).0 (r, sym (ap (row_of tables.standing) e) ∙ row, u))

  pub above-within : (j g : ℕ) → Uses tables.above j g → g < tables.waiters.count
  above-within j g u = let s = (has.above j g).0 u in has.groups.below s.2.0 g s.2.2

-- ---- all of it
-- the partner of an action, and whether it is helped
partner-of : (r : Residual) (xs : List LocalAction) (ps : List Partner) (i : ℕ) (x : LocalAction) (p : Partner) → ps ≡ map (partner_in r) xs → slice_get xs i ≡ Some x
    → slice_get ps i ≡ Some p → p ≡ partner_in r x
partner-of r xs ps i x p given at got =
    some-injective p (partner_in r x)
    (sym got ∙ ap (λ (qs : List Partner). slice_get qs i) given ∙ slice_get-map (partner_in r) xs i ∙ ap (λ (o : Option LocalAction). option_map (partner_in r) o) at)

helped-at : (help : Helped) (xs : List LocalAction) (hs : List Bool) (i : ℕ) (x : LocalAction) → hs ≡ map help xs → slice_get xs i ≡ Some x → is_marked (slice_get hs i) ≡ help x
helped-at help xs hs i x given at =
    ap is_marked (ap (λ (l : List Bool). slice_get l i) given ∙ slice_get-map help xs i ∙ ap (λ (o : Option LocalAction). option_map help o) at)

within-same : (xs : List LocalAction) (i j : ℕ) → same_at xs i j ≡ true → (i < length xs) × (j < length xs)
within-same xs i j h = pick (slice_get xs i) (slice_get xs j) refl refl h
  where
    pick : (x y : Option LocalAction) → slice_get xs i ≡ x → slice_get xs j ≡ y → same_places x y ≡ true → (i < length xs) × (j < length xs)
    pick None y e f g = cc
    pick (Some x) None e f g = cc
    pick (Some x) (Some y) e f g = (slice_get_within xs i x e, slice_get_within xs j y f)

pub begins : (xs : List LocalAction) (ps : List Partner) (hs marks : List Bool) (tables : Tables) (counts todo : List ℕ) → length marks ≡ length xs
    → ((i : ℕ) → i < length xs → slice_get marks i ≡ Some true) → length counts ≡ tables.waiters.count
    → ((i : ℕ) → slice_index counts i ≡ tally (λ (j : ℕ). edge tables.above j i) (length xs))
    → ((i : ℕ) → i < length xs → In i todo) → Loosening xs ps hs marks tables counts todo
begins xs ps hs marks tables counts todo size all sizes counted later = record {
  size = size;
  sizes = sizes;
  alike = λ i j h. let both = within-same xs i j h in ap is_marked (all i both.0) ∙ sym (ap is_marked (all j both.1));
  keeps = λ r help given told places hold i x at in_places. ap is_marked (all i (slice_get_within xs i x at));
  counted = λ i.
      counted i
      ∙ tally-same (λ (j : ℕ). edge tables.above j i) (counts_for tables.above marks i) (length xs)
      (λ j less. sym (ap (λ (o : Option Bool). is_marked o && edge tables.above j i) (all j less)));
  pending = λ i on. inl (later i (omega (arith, marked-within marks i on, size)));
}

-- an action that is loose is at none of the places that hold each other back
module _ (xs : List LocalAction) (ps : List Partner) (hs marks : List Bool) (keeps : Keeps xs ps hs marks) (r : Residual) (help : Helped) (given : ps ≡ map (partner_in r) xs)
    (told : hs ≡ map help xs) (places : List Place) (hold : HoldEachOther (Among xs) help r places) where
  not-released : (p : Partner) → HeldBack places p → Released xs marks p → ⊥
  not-released (partner.Behind p) back free =
      let there = (hold back.0 back.1).0 in
      let found = in-got xs there.0 there.1 in
      let on : is_marked (slice_get marks found.0) ≡ true =
      keeps r help given told places hold found.0 there.0 found.2 (subst (λ (a : Place). In a places) (sym there.2) back.1) in
      let under : stands_under p (slice_get xs found.0) ≡ true =
      ap (stands_under p) found.2 ∙ ap (is_under p) there.2 ∙ under-told p back.0 back.2 in
      true≢false (sym (and_from (is_marked (slice_get marks found.0)) (stands_under p (slice_get xs found.0)) on under) ∙ free found.0)
  not-released partner.Gone back free = absurd free
  not-released partner.Open back free = absurd back

  pub not-loose : (k : ℕ) (z : LocalAction) → slice_get xs k ≡ Some z → In z.place places → Loose xs ps hs marks k → ⊥
  not-loose k z at there loose =
      let held = (hold z.place there).1 z (got-in xs k z at) refl in
      let same : loose.0 ≡ partner_in r z = partner-of r xs ps k z loose.0 given at loose.1 in
      elim loose.2 [
        | inl helped ↦ true≢false (sym helped ∙ helped-at help xs hs k z told at ∙ held.0)
        | inr free ↦ not-released (partner_in r z) held.1 (subst (λ (p : Partner). Released xs marks p) same free)
      ]

loosened-keeps : (xs : List LocalAction) (ps : List Partner) (hs marks new : List Bool) (index : ℕ) → IsLoose xs ps hs marks index
    → ((i : ℕ) → is_marked (slice_get new i) ≡ (is_marked (slice_get marks i) && not (same_at xs i index))) → Keeps xs ps hs marks → Keeps xs ps hs new
loosened-keeps xs ps hs marks new index loose less keeps = λ r help given told places hold i x at there.
    less i
    ∙ and_from (is_marked (slice_get marks i)) (not (same_at xs i index)) (keeps r help given told places hold i x at there)
    (elim (cases_Bool (same_at xs i index)) [
      | inl same ↦
          let both = within-same xs i index same in
          let z = in-some xs index both.1 in
          let placed : x.place ≡ z.0.place = same-told xs i index x z.0 at z.1 same in
          absurd (not-loose xs ps hs marks keeps r help given told places hold index z.0 z.1 (subst (λ (a : Place). In a places) placed there) loose.2)
      | inr apart ↦ ap not apart
    ])
  where
    in-some : (ys : List LocalAction) (j : ℕ) → j < length ys → (y : LocalAction) × (slice_get ys j ≡ Some y)
    in-some [] j h = absurd (omega (arith, h))
    in-some (y ∷ ys) zero h = (y, refl)
    in-some (y ∷ ys) (suc j) h = in-some ys j (omega (arith, h))

-- ---- a step
-- action i is marked and loose, by the test
pub loose-true : (xs : List LocalAction) (ps : List Partner) (hs marks : List Bool) (tables : Tables) (counts : List ℕ) (i : ℕ) → length ps ≡ length xs → length marks ≡ length xs
    → HasTables tables xs ps → Counted tables.above (length xs) marks counts → is_loose ps hs marks (count_for tables.waiters counts ps i) i ≡ true → IsLoose xs ps hs marks i
loose-true xs ps hs marks tables counts i same size has counted h =
    let parts = and_parts (is_marked (slice_get marks i)) (is_marked (slice_get hs i) || is_free (slice_get ps i) (count_for tables.waiters counts ps i)) h in
    let within : i < length marks = marked-within marks i parts.0 in
    let there = partner-there ps i (omega (arith, within, same, size)) in (
      omega (arith, within, size),
      parts.0,
      (
        there.0,
        there.1,
        elim (or-either (is_marked (slice_get hs i)) (is_free (slice_get ps i) (count_for tables.waiters counts ps i)) parts.1) [
          | inl helped ↦ inl helped
          | inr free ↦ inr (released there.0 there.1 (sym (ap (λ (o : Option Partner). is_free o (count_for tables.waiters counts ps i)) there.1) ∙ free))
        ],
      ),
    )
  where
    or-either : (a b : Bool) → (a || b) ≡ true → (a ≡ true) ⊎ (b ≡ true)
    or-either true b g = inl refl
    or-either false b g = inr g

    partner-there : (qs : List Partner) (k : ℕ) → k < length qs → (q : Partner) × (slice_get qs k ≡ Some q)
    partner-there [] k g = absurd (omega (arith, g))
    partner-there (q ∷ qs) zero g = (q, refl)
    partner-there (q ∷ qs) (suc k) g = partner-there qs k (omega (arith, g))

    released : (p : Partner) → slice_get ps i ≡ Some p → is_free (Some p) (count_for tables.waiters counts ps i) ≡ true → Released xs marks p
    released partner.Gone at free = cc
    released partner.Open at free = tt
    released (partner.Behind p) at free = λ j. elim (cases_Bool (supports xs marks p j)) [
      | inr off ↦ off
      | inl on ↦
          let w = the-group tables xs ps has i p at in
          let both = and_parts (is_marked (slice_get marks j)) (stands_under p (slice_get xs j)) on in
          let goes : edge tables.above j w.0 ≡ true = used-edge tables.above j w.0 (under-above tables xs ps has j w.0 p w.1 both.1) in
          let less : j < length marks = marked-within marks j both.0 in
          let none : tally (counts_for tables.above marks w.0) (length xs) ≡ 0 =
          sym (counted w.0) ∙ sym (count-is tables xs ps has counts i w.0 p at w.1) ∙ eqb-true (count_for tables.waiters counts ps i) 0 free in
          let off : counts_for tables.above marks w.0 j ≡ false = tally-zero (counts_for tables.above marks w.0) (length xs) none j (omega (arith, less, size)) in
          absurd (true≢false (sym (and_from (is_marked (slice_get marks j)) (edge tables.above j w.0) both.0 goes) ∙ off))
    ]

not-zero : (n : ℕ) → (n ≡ 0 → ⊥) → (n == 0) ≡ false
not-zero n h = elim (cases_Bool (n == 0)) [ inl on ↦ absurd (h (eqb-true n 0 on)) | inr off ↦ off ]

-- what is sturdy stays so, or is looked at later
sturdy-on : (xs : List LocalAction) (ps : List Partner) (hs : List Bool) (tables : Tables) (limit : ℕ) (before after todo new : List ℕ) (i : ℕ) → HasTables tables xs ps → length ps ≡ limit
    → Puts tables.waiters.uses limit before after todo new → Sturdy ps hs tables.waiters before i → In i new ⊎ Sturdy ps hs tables.waiters after i
sturdy-on xs ps hs tables limit before after todo new i has size puts s = pick (slice_get ps i) refl
  where
    free : List ℕ → Option Partner → Bool
    free counts o = is_free o (count_of counts (group_of tables.waiters o))

    pick : (o : Option Partner) → slice_get ps i ≡ o → In i new ⊎ Sturdy ps hs tables.waiters after i
    pick None e = inr (s.0, ap (free after) e)
    pick (Some partner.Gone) e = inr (s.0, ap (free after) e)
    pick (Some partner.Open) e = absurd (true≢false (sym (ap (free before) e) ∙ s.1))
    pick (Some (partner.Behind p)) e =
        let w = the-group tables xs ps has i p e in
        let at : (counts : List ℕ) → is_free (slice_get ps i) (count_for tables.waiters counts ps i) ≡ (slice_index counts w.0 == 0) =
        λ counts. ap (free counts) e ∙ ap (λ (k : Option ℕ). count_of counts k == 0) w.1 in
        elim (cases_eq (slice_index after w.0) 0) [
          | inl none ↦ elim (puts.put w.0 none) [
            | inl was ↦ absurd (true≢false (sym (eq-eqb (slice_index before w.0) 0 was) ∙ sym (at before) ∙ s.1))
            | inr later ↦ inl (later i w.2 (let within : i < length ps = slice_get_within ps i (partner.Behind p) e in omega (arith, within, size)))
          ]
          | inr some ↦ inr (s.0, at after ∙ not-zero (slice_index after w.0) some)
        ]

module _ (xs : List LocalAction) (ps : List Partner) (hs marks : List Bool) (tables : Tables) (counts todo rest : List ℕ) (number : ℕ) (same : length ps ≡ length xs)
    (has : HasTables tables xs ps) (l : Loosening xs ps hs marks tables counts todo) (popped : todo ≡ rest ++ number ∷ []) where
  -- the one that is looked at is not loose
  pub passed-by : is_loose ps hs marks (count_for tables.waiters counts ps number) number ≡ false → Loosening xs ps hs marks tables counts rest
  passed-by firm = record {
    size = l.size;
    sizes = l.sizes;
    alike = l.alike;
    keeps = l.keeps;
    counted = l.counted;
    pending = λ i on. elim (l.pending i on) [
      | inl later ↦ elim (in-parts i rest (number ∷ []) (subst (λ (t : List ℕ). In i t) popped later)) [
        | inl there ↦ inl there
        | inr (inl is) ↦ inr (sturdy i is on)
        | inr (inr none) ↦ absurd none
      ]
      | inr s ↦ inr s
    ];
  }
    where
      both-off : (a b : Bool) → (a || b) ≡ false → (a ≡ false) × (b ≡ false)
      both-off false b h = (refl, h)
      both-off true b h = cc

      right-off : (a b : Bool) → a ≡ true → (a && b) ≡ false → b ≡ false
      right-off true b h g = g
      right-off false b h g = cc

      sturdy : (i : ℕ) → i ≡ number → is_marked (slice_get marks i) ≡ true → Sturdy ps hs tables.waiters counts i
      sturdy i is on =
          both-off (is_marked (slice_get hs i)) (is_free (slice_get ps i) (count_for tables.waiters counts ps i))
          (right-off (is_marked (slice_get marks i)) (is_marked (slice_get hs i) || is_free (slice_get ps i) (count_for tables.waiters counts ps i)) on
          (ap (λ (k : ℕ). is_loose ps hs marks (count_for tables.waiters counts ps k) k) is ∙ firm))

  -- or it is
  module _ (loose : is_loose ps hs marks (count_for tables.waiters counts ps number) number ≡ true) where
    pub is-loose : IsLoose xs ps hs marks number
    is-loose = loose-true xs ps hs marks tables counts number same l.size has l.counted loose

    pub row-there : (r : ℕ) × (row_of tables.standing (slice_get xs number) ≡ Some r)
    row-there = the-row tables xs ps has number is-loose.0

    -- and the marks at its place are taken away
    module _ (cleared : List Bool) (after new : List ℕ) (r : ℕ) (row : row_of tables.standing (slice_get xs number) ≡ Some r)
        (took : Loosens tables.above tables.standing.uses tables.waiters.uses r marks cleared counts after rest new) where
      pub less : (i : ℕ) → is_marked (slice_get cleared i) ≡ (is_marked (slice_get marks i) && not (same_at xs i number))
      less i = elim (cases_Bool (same_at xs number i)) [
        | inl at ↦
            took.cleared i (same-row tables xs ps has number r i row at)
            ∙ gone-not (is_marked (slice_get marks i)) (same_at xs i number) (swapped number i at)
        | inr apart ↦
            took.others i (λ u. true≢false (sym (row-same tables xs ps has number r i row u) ∙ apart))
            ∙ kept-not (is_marked (slice_get marks i)) (same_at xs i number) (not-swapped i apart)
      ]
        where
          swapped : (a b : ℕ) → same_at xs a b ≡ true → same_at xs b a ≡ true
          swapped a b h = sym (same-as xs a b a h) ∙ itself xs a (within-same xs a b h).0

          not-swapped : (a : ℕ) → same_at xs number a ≡ false → same_at xs a number ≡ false
          not-swapped a h = elim (cases_Bool (same_at xs a number)) [
            | inl on ↦ absurd (true≢false (sym (swapped a number on) ∙ h))
            | inr off ↦ off
          ]

      pub loosened : Loosening xs ps hs cleared tables after new
      loosened = record {
        size = took.size ∙ l.size;
        sizes = took.counts ∙ l.sizes;
        alike = λ i j h. less i ∙ ap₂ (λ (a b : Bool). a && not b) (l.alike i j h) (same-as xs i j number h) ∙ sym (less j);
        keeps = loosened-keeps xs ps hs marks cleared number is-loose less l.keeps;
        counted = subst (λ (n : ℕ). Counted tables.above n cleared after) l.size took.counted;
        pending = λ i on. elim (l.pending i (and-left (is_marked (slice_get marks i)) (not (same_at xs i number)) (sym (less i) ∙ on))) [
          | inl later ↦ elim (in-parts i rest (number ∷ []) (subst (λ (t : List ℕ). In i t) popped later)) [
            | inl there ↦ inl (took.puts.kept i there)
            | inr (inl is) ↦ absurd (true≢false (sym on ∙ gone i is))
            | inr (inr none) ↦ absurd none
          ]
          | inr s ↦ sturdy-on xs ps hs tables (length marks) counts after rest new i has (same ∙ sym l.size) took.puts s
        ];
      }
        where
          gone : (i : ℕ) → i ≡ number → is_marked (slice_get cleared i) ≡ false
          gone i is =
              less i
              ∙ sym (gone-not (is_marked (slice_get marks i)) (same_at xs i number)
              (ap (λ (k : ℕ). same_at xs k number) is ∙ itself xs number is-loose.0))

-- what the tables lead to is there
pub groups-there : (xs : List LocalAction) (ps : List Partner) (hs marks : List Bool) (tables : Tables) (counts todo : List ℕ) → HasTables tables xs ps → Loosening xs ps hs marks tables counts todo
    → (j g : ℕ) → Uses tables.above j g → g < length counts
groups-there xs ps hs marks tables counts todo has l j g u =
    let less : g < tables.waiters.count = above-within tables xs ps has j g u in let size : length counts ≡ tables.waiters.count = l.sizes in omega (arith, less, size)

pub those-there : (xs : List LocalAction) (ps : List Partner) (hs marks : List Bool) (tables : Tables) (counts todo : List ℕ) → HasTables tables xs ps → Loosening xs ps hs marks tables counts todo
    → (number r i : ℕ) → row_of tables.standing (slice_get xs number) ≡ Some r → Uses tables.standing.uses r i → i < length marks
those-there xs ps hs marks tables counts todo has l number r i row u =
    let less : i < length xs = row-within tables xs ps has number r i row u in let size : length marks ≡ length xs = l.size in omega (arith, less, size)

-- where nothing is left to be looked at, each that is marked is firm
some-partner : (qs : List Partner) (k : ℕ) → k < length qs → (q : Partner) × (slice_get qs k ≡ Some q)
some-partner [] k h = absurd (omega (arith, h))
some-partner (q ∷ qs) zero h = (q, refl)
some-partner (q ∷ qs) (suc k) h = some-partner qs k (omega (arith, h))

sturdy-firm : (xs : List LocalAction) (ps : List Partner) (hs marks : List Bool) (tables : Tables) (counts : List ℕ) (i : ℕ) (p : Partner) → HasTables tables xs ps
    → Counted tables.above (length xs) marks counts → slice_get ps i ≡ Some p → is_marked (slice_get hs i) ≡ false
    → is_free (Some p) (count_for tables.waiters counts ps i) ≡ false → Firm xs ps hs marks i
sturdy-firm xs ps hs marks tables counts i partner.Gone has counted at unhelped unfree = (partner.Gone, at, unhelped, tt)
sturdy-firm xs ps hs marks tables counts i partner.Open has counted at unhelped unfree = absurd (true≢false unfree)
sturdy-firm xs ps hs marks tables counts i (partner.Behind p) has counted at unhelped unfree =
    let w = the-group tables xs ps has i p at in
    let found = tally-some (counts_for tables.above marks w.0) (length xs)
    (λ none. true≢false (sym (eq-eqb (count_for tables.waiters counts ps i) 0 (count-is tables xs ps has counts i w.0 p at w.1 ∙ counted w.0 ∙ none)) ∙ unfree)) in
    let both = and_parts (is_marked (slice_get marks found.0)) (edge tables.above found.0 w.0) found.2 in
    let under : stands_under p (slice_get xs found.0) ≡ true = above-under tables xs ps has found.0 w.0 p w.1 (edge-used tables.above found.0 w.0 both.1) in
    (partner.Behind p, at, unhelped, (found.0, and_from (is_marked (slice_get marks found.0)) (stands_under p (slice_get xs found.0)) both.0 under))

all-firm : (xs : List LocalAction) (ps : List Partner) (hs marks : List Bool) (tables : Tables) (counts : List ℕ) → length ps ≡ length xs → HasTables tables xs ps
    → Loosening xs ps hs marks tables counts [] → AllFirm xs ps hs marks
all-firm xs ps hs marks tables counts same has l i within on = elim (l.pending i on) [
  | inl later ↦ absurd later
  | inr s ↦
      let there = some-partner ps i (omega (arith, within, same)) in
      sturdy-firm xs ps hs marks tables counts i there.0 has l.counted there.1 s.0
      (sym (ap (λ (q : Option Partner). is_free q (count_for tables.waiters counts ps i)) there.1) ∙ s.1)
]

pub loosening-end : (xs : List LocalAction) (ps : List Partner) (hs marks : List Bool) (tables : Tables) (counts old new last : List ℕ) (n : ℕ) → length ps ≡ length xs → HasTables tables xs ps
    → Loosening xs ps hs marks tables counts old → n ≡ length old → n ≡ 0 → old ≡ new ++ last → Loosened xs ps hs marks tables counts new
loosening-end xs ps hs marks tables counts [] [] last n same has l size none is = record { loosening = l; firm = all-firm xs ps hs marks tables counts same has l }
loosening-end xs ps hs marks tables counts [] (x ∷ new) last n same has l size none is = cc
loosening-end xs ps hs marks tables counts (x ∷ old) new last n same has l size none is = absurd (omega (arith, size, none))

-- ---- at the end
-- the places of the actions that are marked
abbrev marked-places : List LocalAction → List Bool → List Place
marked-places [] ms = []
marked-places (x ∷ xs) [] = []
marked-places (x ∷ xs) (true ∷ ms) = x.place ∷ marked-places xs ms
marked-places (x ∷ xs) (false ∷ ms) = marked-places xs ms

in-marked : (xs : List LocalAction) (ms : List Bool) (i : ℕ) (x : LocalAction) → slice_get xs i ≡ Some x → slice_get ms i ≡ Some true → In x.place (marked-places xs ms)
in-marked [] ms i x at on = none-some x at
in-marked (y ∷ xs) [] i x at on = none-some true on
in-marked (y ∷ xs) (true ∷ ms) zero x at on = inl (ap (λ (z : LocalAction). z.place) (sym (some-injective y x at)))
in-marked (y ∷ xs) (false ∷ ms) zero x at on = absurd (true≢false (sym (some-injective false true on)))
in-marked (y ∷ xs) (true ∷ ms) (suc i) x at on = inr (in-marked xs ms i x at on)
in-marked (y ∷ xs) (false ∷ ms) (suc i) x at on = in-marked xs ms i x at on

record Marked (xs : List LocalAction) (ms : List Bool) (a : Place) : Type 0 where
  index : ℕ
  action : LocalAction
  got : slice_get xs index ≡ Some action
  mark : slice_get ms index ≡ Some true
  place : action.place ≡ a

marked-in : (xs : List LocalAction) (ms : List Bool) (a : Place) → In a (marked-places xs ms) → Marked xs ms a
marked-in [] ms a h = absurd h
marked-in (x ∷ xs) [] a h = absurd h
marked-in (x ∷ xs) (true ∷ ms) a (inl is) = record { index = 0; action = x; got = refl; mark = refl; place = sym is }
marked-in (x ∷ xs) (true ∷ ms) a (inr h) =
    let rest = marked-in xs ms a h in record { index = suc rest.index; action = rest.action; got = rest.got; mark = rest.mark; place = rest.place }
marked-in (x ∷ xs) (false ∷ ms) a h =
    let rest = marked-in xs ms a h in record { index = suc rest.index; action = rest.action; got = rest.got; mark = rest.mark; place = rest.place }

module _ (xs : List LocalAction) (ps : List Partner) (hs marks : List Bool) (tables : Tables) (counts todo : List ℕ) (l : Loosening xs ps hs marks tables counts todo)
    (firm : AllFirm xs ps hs marks) (r : Residual) (help : Helped) (given : ps ≡ map (partner_in r) xs) (told : hs ≡ map help xs) where
  back : (p : Partner) → Held xs marks p → HeldBack (marked-places xs marks) p
  back (partner.Behind p) h = pick (slice_get xs h.0) refl
    where
      pick : (o : Option LocalAction) → slice_get xs h.0 ≡ o → HeldBack (marked-places xs marks) (partner.Behind p)
      pick None e = absurd (true≢false (sym (and_parts (is_marked (slice_get marks h.0)) (stands_under p (slice_get xs h.0)) h.1).1 ∙ ap (stands_under p) e))
      pick (Some y) e =
          let parts = and_parts (is_marked (slice_get marks h.0)) (stands_under p (slice_get xs h.0)) h.1 in
          (y.place, in-marked xs marks h.0 y e (marked-some (slice_get marks h.0) parts.0), under-true p y.place (sym (ap (stands_under p) e) ∙ parts.1))
  back partner.Gone h = tt
  back partner.Open h = absurd h

  hold : HoldEachOther (Among xs) help r (marked-places xs marks)
  hold a h =
      let m = marked-in xs marks a h in (
        (m.action, got-in xs m.index m.action m.got, m.place),
        λ y within at.
            let found = in-got xs y within in
            let same : same_at xs m.index found.0 ≡ true = same-places xs m.index found.0 m.action y m.got found.2 (m.place ∙ sym at) in
            let on : is_marked (slice_get marks found.0) ≡ true = sym (l.alike m.index found.0 same) ∙ ap is_marked m.mark in
            let f = firm found.0 found.1 on in (
              sym (helped-at help xs hs found.0 y told found.2) ∙ f.2,
              back (partner_in r y) (subst (λ (p : Partner). Held xs marks p) (partner-of r xs ps found.0 y f.0 given found.2 f.1) f.3),
            ),
      )

  pub tells-deadlocked : TellsDeadlocked help r xs marks
  tells-deadlocked = (
    l.size,
    λ i x at. (
      λ on. (marked-places xs marks, in-marked xs marks i x at on, hold),
      λ dead. marked-some (slice_get marks i) (l.keeps r help given told dead.0 dead.2 i x at dead.1),
    ),
  )
