-- Lanes by their paths: the first that has a path, and that no two have one.
use Rattle.std.proofs.Common.{◌≡◌, ℕ, zero, suc, ◌+◌, List, [], ◌∷◌, ◌++◌, Bool, true, false, true≢false, cond, Option, None, Some, refl, sym, ◌∙◌, ap}
use Rattle.std.specs.Cmp.Lexicographic.{bytes_decides}
use Rattle.std.specs.List.{insert}
use Rattle.std.specs.Prelude.{slice_get}
use Rattle.picture_lanes.specs.Lanes.{index_from, lane_index, leading, same_path, stop_if_new, stop_lane, with_stop_lane}
use Rattle.picture_lanes.specs.internal.Order.{is_along}
use Rattle.picture_lanes.specs.internal.Placing.{EachOnce, NoneHas}
use Rattle.picture_lanes.specs.declared.lane.Lane.{Lane}
use Rattle.picture_lanes.specs.declared.walk.Stop.{Stop}

pub is-one : (a b : List ℕ) → same_path a b ≡ true → a ≡ b
is-one a b on = (bytes_decides a b).0 on

on-one : (a b : List ℕ) → a ≡ b → same_path a b ≡ true
on-one a b is = (bytes_decides a b).1 is

off-none : (a b : List ℕ) → (a ≡ b → ⊥) → same_path a b ≡ false
off-none a b not = by (same_path a b) refl
  where
    by : (t : Bool) → same_path a b ≡ t → same_path a b ≡ false
    by true on = absurd (not (is-one a b on))
    by false off = off

none-differs : (a b : List ℕ) → same_path a b ≡ false → a ≡ b → ⊥
none-differs a b off is = true≢false (sym (on-one a b is) ∙ off)

no-some : (n : ℕ) → Some n ≡ None → ⊥
no-some n e = cc

none-step : (t : Bool) (n : ℕ) (lane : Lane) (lanes : List Lane) (path : List ℕ) → same_path lane.path path ≡ t →
    index_from n (lane ∷ lanes) path ≡ None → (index_from (n + 1) lanes path ≡ None → NoneHas lanes path) → NoneHas (lane ∷ lanes) path
none-step true n lane lanes path on none rest =
    absurd (no-some n (sym (ap (λ (b : Bool). cond b (Some n) (index_from (n + 1) lanes path)) on) ∙ none))
none-step false n lane lanes path off none rest = (
  none-differs lane.path path off,
  rest (sym (ap (λ (b : Bool). cond b (Some n) (index_from (n + 1) lanes path)) off) ∙ none),
)

-- where none is found, none has the path
none-has : (n : ℕ) (lanes : List Lane) (path : List ℕ) → index_from n lanes path ≡ None → NoneHas lanes path
none-has n [] path none = tt
none-has n (lane ∷ lanes) path none =
    none-step (same_path lane.path path) n lane lanes path refl none (λ rest. none-has (n + 1) lanes path rest)

none-append : (lanes : List Lane) (lane : Lane) (path : List ℕ) → NoneHas lanes path → (lane.path ≡ path → ⊥) → NoneHas (lanes ++ lane ∷ []) path
none-append [] lane path none other = (other, tt)
none-append (x ∷ lanes) lane path none other = (none.0, none-append lanes lane path none.1 other)

append-once : (lanes : List Lane) (lane : Lane) → EachOnce lanes → NoneHas lanes lane.path → EachOnce (lanes ++ lane ∷ [])
append-once [] lane each none = (tt, tt)
append-once (x ∷ lanes) lane each none =
    (none-append lanes lane x.path each.0 (λ is. none.0 (sym is)), append-once lanes lane each.1 none.1)

-- one more, where none has its path
pub once_more : (lanes : List Lane) (lane : Lane) → lane_index lanes lane.path ≡ None → EachOnce lanes → EachOnce (lanes ++ lane ∷ [])
once_more lanes lane none each = append-once lanes lane each (none-has 0 lanes lane.path none)

-- where none has it, none is found
none-found : (n : ℕ) (lanes : List Lane) (path : List ℕ) → NoneHas lanes path → index_from n lanes path ≡ None
none-found n [] path none = refl
none-found n (x ∷ lanes) path none =
    ap (λ (b : Bool). cond b (Some n) (index_from (n + 1) lanes path)) (off-none x.path path none.0) ∙ none-found (n + 1) lanes path none.1

-- where one has the path, one is found
found : (n : ℕ) (lanes : List Lane) (path : List ℕ) (k : ℕ) → is_along (slice_get lanes k) path ≡ true → (i : ℕ) × (index_from n lanes path ≡ Some i)
found n [] path k on = absurd (true≢false (sym on))
found n (x ∷ lanes) path zero on = (n, ap (λ (b : Bool). cond b (Some n) (index_from (n + 1) lanes path)) on)
found n (x ∷ lanes) path (suc k) on = by (same_path x.path path) refl (found (n + 1) lanes path k on)
  where
    by : (t : Bool) → same_path x.path path ≡ t → (i : ℕ) × (index_from (n + 1) lanes path ≡ Some i) → (i : ℕ) × (index_from n (x ∷ lanes) path ≡ Some i)
    by true here rest = (n, ap (λ (b : Bool). cond b (Some n) (index_from (n + 1) lanes path)) here)
    by false off rest = (rest.0, ap (λ (b : Bool). cond b (Some n) (index_from (n + 1) lanes path)) off ∙ rest.1)

-- a command in a lane that is there adds none
pub kept_where_there : (lanes : List Lane) (s : Stop) (k : ℕ) → is_along (slice_get lanes k) s.path ≡ true → with_stop_lane lanes s ≡ lanes
kept_where_there lanes s k on = ap (λ (o : Option ℕ). stop_if_new o lanes s) (found 0 lanes s.path k on).1

-- and one in a lane that is not there adds it
pub put_where_none : (lanes : List Lane) (s : Stop) → NoneHas lanes s.path → with_stop_lane lanes s ≡ insert lanes (leading s.path lanes) (stop_lane s)
put_where_none lanes s none = ap (λ (o : Option ℕ). stop_if_new o lanes s) (none-found 0 lanes s.path none)
