-- How a text of values grows: a list that is opened, filled and closed is one more value.
use Rattle.std.proofs.Common.{◌≡◌, ◌∙◌, ℕ, List, [], ◌∷◌, ◌++◌, Bool, true, false, refl, sym, ap, append_assoc}
use Rattle.std.specs.List.{flat_map}
use Rattle.std.proofs.lemmas.List.{append-nil}
use Rattle.json_text.specs.Values.{Growing, closed, comma, list_text, member_text, named, object_text, opened, string_text, with_commas, with_value, with_values}

-- the texts of values that are not the first
abbrev further : List (List ℕ) → List ℕ
further xs = flat_map (λ (y : List ℕ). 44 ∷ y) xs

abbrev grown : Bool → List ℕ → Growing
grown first t = record { text = t; first = first }

later-values : (t : List ℕ) (xs : List (List ℕ)) → with_values (grown false t) xs ≡ grown false (t ++ further xs)
unfolding with_value
later-values t [] = ap (grown false) (sym (append-nil t))
later-values t (x ∷ xs) =
    later-values (t ++ 44 ∷ x) xs ∙ ap (grown false) (append_assoc t (44 ∷ x) (further xs))

-- what is opened, filled and closed
filled : (begin end : ℕ) (g : Growing) (xs : List (List ℕ)) →
    closed end (with_values (opened begin g) xs) ≡ with_value g (begin ∷ (with_commas xs ++ end ∷ []))
unfolding with_value opened closed
filled begin end g [] =
    ap (grown false) (append_assoc g.text (comma g.first ++ begin ∷ []) (end ∷ [])
    ∙ ap (λ (t : List ℕ). g.text ++ t) (append_assoc (comma g.first) (begin ∷ []) (end ∷ [])))
filled begin end g (x ∷ xs) =
    let before : List ℕ = g.text ++ (comma g.first ++ begin ∷ []) in
    let rest : List ℕ = x ++ further xs in
    ap (closed end) (later-values (before ++ x) xs)
    ∙ ap (grown false)
    (ap (λ (t : List ℕ). t ++ end ∷ []) (append_assoc before x (further xs))
    ∙ (append_assoc before rest (end ∷ [])
    ∙ (append_assoc g.text (comma g.first ++ begin ∷ []) (rest ++ end ∷ [])
    ∙ ap (λ (t : List ℕ). g.text ++ t) (append_assoc (comma g.first) (begin ∷ []) (rest ++ end ∷ [])))))

pub list_filled : (g : Growing) (xs : List (List ℕ)) → closed 93 (with_values (opened 91 g) xs) ≡ with_value g (list_text xs)
list_filled g xs = filled 91 93 g xs

pub object_filled : (g : Growing) (xs : List (List ℕ)) → closed 125 (with_values (opened 123 g) xs) ≡ with_value g (object_text xs)
object_filled g xs = filled 123 125 g xs

-- a name and then a value are a member
pub member_added : (g : Growing) (name value : List ℕ) → with_value (named g name) value ≡ with_value g (member_text name value)
unfolding with_value named
member_added g name value =
    ap (grown false) (append_assoc g.text (comma g.first ++ (string_text name ++ 58 ∷ [])) value
    ∙ ap (λ (t : List ℕ). g.text ++ t) (append_assoc (comma g.first) (string_text name ++ 58 ∷ []) value
    ∙ ap (λ (t : List ℕ). comma g.first ++ t) (append_assoc (string_text name) (58 ∷ []) value)))

-- a list that is opened behind a name, filled and closed is a member
pub list_member_added : (g : Growing) (name : List ℕ) (xs : List (List ℕ)) →
    closed 93 (with_values (opened 91 (named g name)) xs) ≡ with_value g (member_text name (list_text xs))
list_member_added g name xs = list_filled (named g name) xs ∙ member_added g name (list_text xs)

-- values behind values
pub with_more_values : (g : Growing) (xs ys : List (List ℕ)) → with_values (with_values g xs) ys ≡ with_values g (xs ++ ys)
with_more_values g [] ys = refl
with_more_values g (x ∷ xs) ys = with_more_values (with_value g x) xs ys

-- ---- what the methods add

pub closes : (mark : ℕ) (g h k : Growing) → h ≡ record { text = g.text ++ mark ∷ []; first = g.first } → k ≡ grown false h.text → k ≡ closed mark g
unfolding closed
closes mark g h k one two = two ∙ ap (λ (x : Growing). grown false x.text) one

pub values : (g h k : Growing) (x : List ℕ) → h ≡ grown false (g.text ++ comma g.first) → k ≡ record { text = h.text ++ x; first = h.first } →
    k ≡ with_value g x
unfolding with_value
values g h k x one two =
    two ∙ (ap (λ (y : Growing). grown y.first (y.text ++ x)) one ∙ ap (grown false) (append_assoc g.text (comma g.first) x))

pub opens : (mark : ℕ) (g h k : Growing) → h ≡ with_value g (mark ∷ []) → k ≡ grown true h.text → k ≡ opened mark g
unfolding with_value opened
opens mark g h k one two = two ∙ ap (λ (x : Growing). grown true x.text) one

pub names : (g h k m : Growing) (bytes name : List ℕ) → bytes ≡ name → h ≡ with_value g (string_text bytes) →
    k ≡ record { text = h.text ++ 58 ∷ []; first = h.first } → m ≡ grown true k.text → m ≡ named g name
unfolding with_value named
names g h k m bytes name same one two three =
    let texts : k.text ≡ (g.text ++ (comma g.first ++ string_text bytes)) ++ 58 ∷ [] =
    ap (λ (x : Growing). x.text) two ∙ ap (λ (x : Growing). x.text ++ 58 ∷ []) one in
    three
    ∙ ap (grown true) (texts
    ∙ (append_assoc g.text (comma g.first ++ string_text bytes) (58 ∷ [])
    ∙ (ap (λ (t : List ℕ). g.text ++ t) (append_assoc (comma g.first) (string_text bytes) (58 ∷ []))
    ∙ ap (λ (b : List ℕ). g.text ++ (comma g.first ++ (string_text b ++ 58 ∷ []))) same)))

pub lists : (g h k m : Growing) (xs : List (List ℕ)) → h ≡ opened 91 g → k ≡ with_values h xs → m ≡ closed 93 k → m ≡ with_value g (list_text xs)
lists g h k m xs one two three =
    three ∙ (ap (closed 93) (two ∙ ap (λ (x : Growing). with_values x xs) one) ∙ list_filled g xs)
