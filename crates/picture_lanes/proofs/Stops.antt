-- The lanes with that of one more command.
use Rattle.std.proofs.Common.{◌≡◌, ℕ, List, Bool, true, false, Option, sym, ◌∙◌, ap, subst}
use Rattle.std.specs.List.{insert}
use Rattle.std.specs.Prelude.{slice_get}
use Rattle.picture_lanes.specs.Lanes.{leading, stop_lane, with_stop_lane}
use Rattle.picture_lanes.specs.declared.lane.Lane.{Lane}
use Rattle.picture_lanes.specs.declared.walk.Stop.{Stop}
use Rattle.picture_lanes.specs.internal.Order.{InOrder, is_along}
use Rattle.picture_lanes.proofs.Ordered.{none_there, put_in_order}
use Rattle.picture_lanes.proofs.Paths.{kept_where_there, put_where_none}

looked-at : (lanes standing : List Lane) (s : Stop) (path : List ℕ) (k : ℕ) (o : Option Lane) (t : Bool) → path ≡ s.path → standing ≡ lanes →
    o ≡ slice_get standing k → t ≡ is_along o path → is_along (slice_get lanes k) s.path ≡ t
looked-at lanes standing s path k o t same all is told =
    sym (ap (λ (xs : List Lane). is_along (slice_get xs k) s.path) all)
    ∙ sym (ap (λ (x : Option Lane). is_along x s.path) is)
    ∙ sym (ap (λ (p : List ℕ). is_along o p) same)
    ∙ sym told

-- where its lane is there, all stays
pub stop_kept : (lanes standing : List Lane) (s : Stop) (path : List ℕ) (k : ℕ) (o : Option Lane) → path ≡ s.path → standing ≡ lanes →
    o ≡ slice_get standing k → true ≡ is_along o path → lanes ≡ with_stop_lane lanes s
stop_kept lanes standing s path k o same all is told =
    sym (kept_where_there lanes s k (looked-at lanes standing s path k o true same all is told))

-- where it is not there, it comes behind those before it
pub stop_put : (lanes standing new : List Lane) (s : Stop) (path : List ℕ) (k : ℕ) (o : Option Lane) (lane : Lane) → InOrder lanes → path ≡ s.path →
    standing ≡ lanes → k ≡ leading path standing → o ≡ slice_get standing k → false ≡ is_along o path → lane ≡ stop_lane s →
    new ≡ insert lanes k lane → (new ≡ with_stop_lane lanes s) × InOrder new
stop_put lanes standing new s path k o lane order same all at is told made put =
    let here : k ≡ leading s.path lanes =
    at ∙ ap (λ (p : List ℕ). leading p standing) same ∙ ap (λ (xs : List Lane). leading s.path xs) all in
    let off : is_along (slice_get lanes (leading s.path lanes)) s.path ≡ false =
    sym (ap (λ (i : ℕ). is_along (slice_get lanes i) s.path) here) ∙ looked-at lanes standing s path k o false same all is told in
    let none = none_there lanes s.path order off in
    let whole : new ≡ insert lanes (leading s.path lanes) (stop_lane s) =
    put ∙ ap (λ (i : ℕ). insert lanes i lane) here ∙ ap (λ (l : Lane). insert lanes (leading s.path lanes) l) made in
    (whole ∙ sym (put_where_none lanes s none), subst (λ (xs : List Lane). InOrder xs) (sym whole) (put_in_order lanes (stop_lane s) order none))
