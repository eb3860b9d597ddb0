-- The index by path holds the place of each lane.
use Rattle.std.proofs.Common.{◌≡◌, ℕ, ◌+◌, List, [], ◌∷◌, ◌++◌, length, map, Bool, true, false, cond, Option, None, Some, is_some, nat_eq, refl, sym, ◌∙◌, ap, subst, arith}
use Rattle.std.specs.Cmp.Lexicographic.{nat_list_eq_equiv, pointwise}
use Rattle.std.specs.Map.{lookup}
use Rattle.indexmap.specs.IndexMap.{insert_entry}
use Rattle.picture_lanes.specs.Lanes.{index_from, lane_if_new, lane_index, with_lane}
use Rattle.picture_lanes.specs.declared.lane.Lane.{Lane}
use Rattle.picture_lanes.specs.internal.Placing.{ArePlaced, Places, numbered, place_of}
use Rattle.picture_lanes.proofs.Paths.{once_more}

-- ---- what the index holds

module _ {K : Type 0} (numbers : K → List ℕ) where
  abbrev pub shown : K × ℕ → List ℕ × ℕ
  shown e = (numbers e.0, e.1)

  pub place_of-shown : (path : List ℕ) (es : List (K × ℕ)) → lookup (λ k. pointwise nat_eq path (numbers k)) es ≡ place_of (map shown es) path
  place_of-shown path [] = refl
  place_of-shown path (e ∷ es) = ap (cond (pointwise nat_eq path (numbers e.0)) (Some e.1)) (place_of-shown path es)

  -- a key that is not there goes last
  shown-insert : (k : K) (place : ℕ) (es : List (K × ℕ)) → place_of (map shown es) (numbers k) ≡ None →
      map shown (insert_entry (λ a b. pointwise nat_eq (numbers a) (numbers b)) es k place) ≡ map shown es ++ (numbers k, place) ∷ []
  shown-insert k place [] absent = refl
  shown-insert k place (e ∷ es) absent = by (pointwise nat_eq (numbers k) (numbers e.0)) refl (shown-insert k place es)
    where
      by : (b : Bool) → pointwise nat_eq (numbers k) (numbers e.0) ≡ b
          → (place_of (map shown es) (numbers k) ≡ None
          → map shown (insert_entry (λ a b. pointwise nat_eq (numbers a) (numbers b)) es k place) ≡ map shown es ++ (numbers k, place) ∷ [])
          → map shown (insert_entry (λ a b. pointwise nat_eq (numbers a) (numbers b)) (e ∷ es) k place) ≡ map shown (e ∷ es) ++ (numbers k, place) ∷ []
      by true same rest = let h = rw same at absent in cc
      by false other rest = rw other (ap (λ more. shown e ∷ more) (rest (rw other at absent)))

  -- the places once a path is added that was not there
  pub added : (k : K) (place : ℕ) (es new : List (K × ℕ)) (old : Places) (path : List ℕ)
      → map shown es ≡ old → numbers k ≡ path → place_of old path ≡ None
      → new ≡ insert_entry (λ a b. pointwise nat_eq (numbers a) (numbers b)) es k place
      → map shown new ≡ old ++ (path, place) ∷ []
  added k place es new old path view named absent inserted =
      rw (inserted, ← view, ← named) (shown-insert k place es (rw (view, named) absent))

-- ---- the places of lanes

placed-from : (n : ℕ) (lanes : List Lane) (path : List ℕ) → place_of (numbered n lanes) path ≡ index_from n lanes path
placed-from n [] path = refl
placed-from n (x ∷ lanes) path =
    ap (λ (o : Option ℕ). cond (pointwise nat_eq path x.path) (Some n) o) (placed-from (n + 1) lanes path)
    ∙ ap (λ (b : Bool). cond b (Some n) (index_from (n + 1) lanes path)) (nat_list_eq_equiv.symm path x.path)

pub is_placed : (lanes : List Lane) (places : Places) (path : List ℕ) → ArePlaced lanes places → place_of places path ≡ lane_index lanes path
is_placed lanes places path placed = ap (λ (ps : Places). place_of ps path) placed.numbers ∙ placed-from 0 lanes path

one-more : (n : ℕ) (lanes : List Lane) (lane : Lane) → numbered n (lanes ++ lane ∷ []) ≡ numbered n lanes ++ (lane.path, n + length lanes) ∷ []
one-more n [] lane = let e : n ≡ n + 0 = omega arith in ap (λ (k : ℕ). (lane.path, k) ∷ []) e
one-more n (x ∷ lanes) lane =
    let e : n + 1 + length lanes ≡ n + length (x ∷ lanes) = omega arith in
    ap (λ (ps : Places). (x.path, n) ∷ ps)
    (one-more (n + 1) lanes lane ∙ ap (λ (k : ℕ). numbered (n + 1) lanes ++ (lane.path, k) ∷ []) e)

-- where none has the path of a lane, it goes last
pub with_one_more : (lanes : List Lane) (places new : Places) (lane : Lane) → ArePlaced lanes places → place_of places lane.path ≡ None →
    new ≡ places ++ (lane.path, length lanes) ∷ [] → ArePlaced (lanes ++ lane ∷ []) new × (with_lane lanes lane ≡ lanes ++ lane ∷ [])
with_one_more lanes places new lane placed absent is =
    let none : lane_index lanes lane.path ≡ None = sym (is_placed lanes places lane.path placed) ∙ absent in
    let from_none : length lanes ≡ 0 + length lanes = omega arith in
    let all : new ≡ numbered 0 (lanes ++ lane ∷ []) =
    is
    ∙ ap (λ (ps : Places). ps ++ (lane.path, length lanes) ∷ []) placed.numbers
    ∙ ap (λ (k : ℕ). numbered 0 lanes ++ (lane.path, k) ∷ []) from_none
    ∙ sym (one-more 0 lanes lane) in
    (record { each = once_more lanes lane none placed.each; numbers = all }, ap (λ (o : Option ℕ). lane_if_new o lanes lane) none)

-- where one has it, all stays as it is
pub as_before : (lanes : List Lane) (places : Places) (lane : Lane) → ArePlaced lanes places → is_some (place_of places lane.path) ≡ true →
    with_lane lanes lane ≡ lanes
as_before lanes places lane placed on = by (lane_index lanes lane.path) refl
  where
    by : (o : Option ℕ) → lane_index lanes lane.path ≡ o → with_lane lanes lane ≡ lanes
    by None none =
        let off : is_some (place_of places lane.path) ≡ false = ap (λ (o : Option ℕ). is_some o) (is_placed lanes places lane.path placed ∙ none) in cc
    by (Some k) at = ap (λ (o : Option ℕ). lane_if_new o lanes lane) at

none-of : (o : Option ℕ) → is_some o ≡ false → o ≡ None
none-of None off = refl
none-of (Some k) off = cc

-- the lanes and the places once a lane went last, of which path is that of the lane, and n how many there were
pub goes_last : (lanes all : List Lane) (places new : Places) (lane : Lane) (path : List ℕ) (n : ℕ) → ArePlaced lanes places →
    is_some (place_of places lane.path) ≡ false → path ≡ lane.path → n ≡ length lanes → new ≡ places ++ (path, n) ∷ [] → all ≡ lanes ++ lane ∷ [] →
    (all ≡ with_lane lanes lane) × ArePlaced all new
goes_last lanes all places new lane path n placed off same size more is =
    let here : new ≡ places ++ (lane.path, length lanes) ∷ [] =
    more
    ∙ ap (λ (p : List ℕ). places ++ (p, n) ∷ []) same
    ∙ ap (λ (k : ℕ). places ++ (lane.path, k) ∷ []) size in
    let one = with_one_more lanes places new lane placed (none-of (place_of places lane.path) off) here in
    (is ∙ sym one.1, subst (λ (ls : List Lane). ArePlaced ls new) (sym is) one.0)
