-- Loops that add to a list item by item: with what those that are left give, it is the whole.
use Rattle.std.proofs.Common.{◌≡◌, ◌∙◌, ℕ, ◌+◌, ◌<◌, ◌≤◌, List, [], ◌∷◌, ◌++◌, drop, length, get_or, append_assoc, refl, sym, ap, arith}
use Rattle.std.proofs.lemmas.List.{append-nil, drop_all, drop_more}

pub some-added : {X Y : Type 0} (F : List X → List Y) (done new part whole : List Y) (xs : List X) (i : ℕ) (d x : X) → i < length xs → x ≡ get_or xs i d → new ≡ done ++ part
    → ((rest : List X) → F (x ∷ rest) ≡ part ++ F rest) → done ++ F (drop i xs) ≡ whole → new ++ F (drop (i + 1) xs) ≡ whole
some-added {X} {Y} F done new part whole xs i d x less is put first was =
    ap (λ (ys : List Y). ys ++ F (drop (i + 1) xs)) put
    ∙ append_assoc done part (F (drop (i + 1) xs))
    ∙ sym (ap (λ (ys : List Y). done ++ ys) (ap F (drop_more xs i d less ∙ ap (λ (z : X). z ∷ drop (i + 1) xs) (sym is)) ∙ first (drop (i + 1) xs)))
    ∙ was

pub all-added : {X Y : Type 0} (F : List X → List Y) (done whole : List Y) (xs : List X) (i : ℕ) → length xs ≤ i → F [] ≡ [] → done ++ F (drop i xs) ≡ whole → done ≡ whole
all-added {X} {Y} F done whole xs i past none was =
    sym (append-nil done) ∙ sym (ap (λ (ys : List Y). done ++ ys) (ap F (drop_all i xs past) ∙ none)) ∙ was

pub none-left : {X : Type 0} (xs : List X) → length xs ≡ 0 → xs ≡ []
none-left [] h = refl
none-left (x ∷ xs) h = absurd (omega (arith, h))

-- the same of a list from which each is taken out
pub part-taken : {X Y : Type 0} (F : List X → List Y) (done new whole : List Y) (old rest : List X) (x : X) (y : Y) → old ≡ x ∷ rest → new ≡ done ++ y ∷ [] → F (x ∷ rest) ≡ y ∷ F rest
    → done ++ F old ≡ whole → new ++ F rest ≡ whole
part-taken {X} {Y} F done new whole old rest x y step put first was =
    ap (λ (ys : List Y). ys ++ F rest) put ∙ append_assoc done (y ∷ []) (F rest) ∙ sym (ap (λ (ys : List Y). done ++ ys) (ap F step ∙ first)) ∙ was

pub all-taken : {X Y : Type 0} (F : List X → List Y) (done whole : List Y) (old : List X) → length old ≡ 0 → F [] ≡ [] → done ++ F old ≡ whole → done ≡ whole
all-taken {X} {Y} F done whole old none first was = sym (append-nil done) ∙ sym (ap (λ (ys : List Y). done ++ ys) (ap F (none-left old none) ∙ first)) ∙ was
