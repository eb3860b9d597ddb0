-- A list that is made from another, item by item: what is there, and what is still to be made, are all.
use Rattle.std.proofs.Common.{◌≡◌, ℕ, ◌+◌, ◌<◌, List, [], ◌∷◌, ◌++◌, map, length, drop, slice_index_or, sym, ap, ◌∙◌}
use Rattle.std.proofs.lemmas.List.{append_assoc, drop_more, map-append}

-- one more item is there
pub one-more : {Y A : Type 0} (made_of : List Y → List A) (done next : List A) (a : A) (ys : List Y) (i : ℕ) (y : Y) → i < length ys → y ≡ slice_index_or ys i y
    → ((rest : List Y) → made_of (y ∷ rest) ≡ a ∷ made_of rest) → next ≡ done ++ a ∷ [] → done ++ made_of (drop i ys) ≡ made_of ys
    → next ++ made_of (drop (i + 1) ys) ≡ made_of ys
one-more made_of done next a ys i y l at step is so =
    ap (λ xs. xs ++ made_of (drop (i + 1) ys)) is
    ∙ append_assoc done (a ∷ []) (made_of (drop (i + 1) ys))
    ∙ ap (λ xs. done ++ xs) (sym (step (drop (i + 1) ys)) ∙ ap (λ z. made_of (z ∷ drop (i + 1) ys)) at ∙ ap made_of (sym (drop_more ys i y l)))
    ∙ so

-- the same of what the items that are there stand for
pub one-more-seen : {X Y A : Type 0} (seen : X → A) (made_of : List Y → List A) (done next : List X) (x : X) (ys : List Y) (i : ℕ) (y : Y) → i < length ys
    → y ≡ slice_index_or ys i y → ((rest : List Y) → made_of (y ∷ rest) ≡ seen x ∷ made_of rest) → next ≡ done ++ x ∷ []
    → map seen done ++ made_of (drop i ys) ≡ made_of ys → map seen next ++ made_of (drop (i + 1) ys) ≡ made_of ys
one-more-seen seen made_of done next x ys i y l at step is so =
    one-more made_of (map seen done) (map seen next) (seen x) ys i y l at step (ap (map seen) is ∙ map-append seen done (x ∷ [])) so
