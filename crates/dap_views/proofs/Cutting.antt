-- One step of those in which paths are compared.
use Rattle.std.proofs.Common.{◌≡◌, ◌∙◌, ◌<◌, ◌-◌, ◌+◌, ◌||◌, ℕ, suc, Bool, List, Option, Some, true, false, cond, arith, ap, subst, sym}
use Rattle.std.specs.Option.{option_map_or}
use Rattle.dap_views.specs.Files.{back, cut_last, front, is_nothing, last_name, passing, same_name, same_names}

next-step : (steps step : ℕ) → step < steps → steps - step ≡ suc (steps - (step + 1))
next-step steps step h = omega arith

-- a name is passed over
pub passed_on : (drives : Bool) (steps step above more : ℕ) (rest before name : List ℕ) → step < steps → before ≡ front drives rest →
    name ≡ back drives rest → passing above name ≡ Some more →
    last_name drives (steps - (step + 1)) more before ≡ last_name drives (steps - step) above rest
passed_on drives steps step above more rest before name low front_is back_is passes =
    let here : passing above (back drives rest) ≡ Some more = ap (λ (x : List ℕ). passing above x) (sym back_is) ∙ passes in
    subst (λ (n : ℕ). last_name drives (steps - (step + 1)) more before ≡ last_name drives n above rest) (sym (next-step steps step low))
    (ap (λ (x : List ℕ). last_name drives (steps - (step + 1)) more x) front_is
    ∙ sym (ap (λ (o : Option ℕ). option_map_or (λ (k : ℕ). last_name drives (steps - (step + 1)) k (front drives rest)) o
    (front drives rest, back drives rest)) here))

-- both names are the same
pub same_on : (drives free : Bool) (steps step : ℕ) (a b front_a name_a front_b name_b : List ℕ) → step < steps → front_a ≡ (cut_last drives a).0 →
    name_a ≡ (cut_last drives a).1 → front_b ≡ (cut_last drives b).0 → name_b ≡ (cut_last drives b).1 → is_nothing name_a ≡ false →
    same_name drives name_a name_b ≡ true →
    same_names drives free (steps - (step + 1)) front_a front_b ≡ same_names drives free (steps - step) a b
same_on drives free steps step a b front_a name_a front_b name_b low fa na fb nb some same =
    let here : is_nothing (cut_last drives a).1 ≡ false = ap (λ (x : List ℕ). is_nothing x) (sym na) ∙ some in
    let alike : same_name drives (cut_last drives a).1 (cut_last drives b).1 ≡ true =
    ap (λ (x : List ℕ). same_name drives x (cut_last drives b).1) (sym na) ∙ ap (λ (y : List ℕ). same_name drives name_a y) (sym nb) ∙ same in
    subst (λ (n : ℕ). same_names drives free (steps - (step + 1)) front_a front_b ≡ same_names drives free n a b) (sym (next-step steps step low))
    (ap (λ (x : List ℕ). same_names drives free (steps - (step + 1)) x front_b) fa
    ∙ ap (λ (y : List ℕ). same_names drives free (steps - (step + 1)) (cut_last drives a).0 y) fb
    ∙ sym (ap (λ (t : Bool). cond t (same_names drives free (steps - (step + 1)) (cut_last drives a).0 (cut_last drives b).0) false) alike)
    ∙ sym (ap (λ (t : Bool). cond t (is_nothing (cut_last drives b).1 || free)
    (cond (same_name drives (cut_last drives a).1 (cut_last drives b).1)
    (same_names drives free (steps - (step + 1)) (cut_last drives a).0 (cut_last drives b).0) false)) here))

-- they are not
pub differ_on : (drives free : Bool) (steps step : ℕ) (a b name_a name_b : List ℕ) → step < steps → name_a ≡ (cut_last drives a).1 →
    name_b ≡ (cut_last drives b).1 → is_nothing name_a ≡ false → same_name drives name_a name_b ≡ false →
    false ≡ same_names drives free (steps - step) a b
differ_on drives free steps step a b name_a name_b low na nb some other =
    let here : is_nothing (cut_last drives a).1 ≡ false = ap (λ (x : List ℕ). is_nothing x) (sym na) ∙ some in
    let apart : same_name drives (cut_last drives a).1 (cut_last drives b).1 ≡ false =
    ap (λ (x : List ℕ). same_name drives x (cut_last drives b).1) (sym na) ∙ ap (λ (y : List ℕ). same_name drives name_a y) (sym nb) ∙ other in
    subst (λ (n : ℕ). false ≡ same_names drives free n a b) (sym (next-step steps step low))
    (sym (ap (λ (t : Bool). cond t (same_names drives free (steps - (step + 1)) (cut_last drives a).0 (cut_last drives b).0) false) apart)
    ∙ sym (ap (λ (t : Bool). cond t (is_nothing (cut_last drives b).1 || free)
    (cond (same_name drives (cut_last drives a).1 (cut_last drives b).1)
    (same_names drives free (steps - (step + 1)) (cut_last drives a).0 (cut_last drives b).0) false)) here))
