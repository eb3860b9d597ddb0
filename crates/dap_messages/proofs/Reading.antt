-- The members of a message that is read, and how deep it nests.
use Rattle.std.proofs.Common.{◌≡◌, ◌<◌, ◌≤◌, ℕ, zero, suc, List, [], ◌∷◌, ◌++◌, length, get_or, take, Some, None, refl, ap, subst, take_all, arith, rules}
use Rattle.serde_json.specs.Data.{Data, null, boolean, number, string, array, object, Members, depth, items_depth, members_depth}
use Rattle.serde_json.specs.Find.{as_object, get, get_member}
use Rattle.serde_json.specs.View.{items_view, members_view, view}
use Rattle.serde_json.specs.declared.value.Value.{Null, Value, the_lemmas}
use Rattle.serde_json.proofs.Views.{Entry}

-- what is no object has no member
pub no_object : (name : List ℕ) (d : Data) → as_object d ≡ None → get name d ≡ None
no_object name null is = refl
no_object name (boolean b) is = refl
no_object name (number n) is = refl
no_object name (string s) is = refl
no_object name (array ds) is = refl
no_object name (object ms) is = absurd (cc)

-- an object has those of its own
pub of_object : (name : List ℕ) (d : Data) (ms : Members) → as_object d ≡ Some ms → get name d ≡ get_member name ms
of_object name null ms is = absurd (cc)
of_object name (boolean b) ms is = absurd (cc)
of_object name (number n) ms is = absurd (cc)
of_object name (string s) ms is = absurd (cc)
of_object name (array ds) ms is = absurd (cc)
of_object name (object ns) ms is = let same : ns ≡ ms = cc in ap (λ (x : Members). get_member name x) same

pub view_null : view Null ≡ null
view_null = search (rules, the_lemmas)

-- a value nests no deeper than the list in which it stands
pub item_deeper : (xs : List Value) (i : ℕ) (v : Value) (n : ℕ) → i < length xs → v ≡ get_or xs i v → n < depth (view v)
    → n < items_depth (items_view xs)
item_deeper [] i v n h is k = absurd (omega arith)
item_deeper (x ∷ xs) zero v n h is k = let same : depth (view v) ≡ depth (view x) = ap (λ (y : Value). depth (view y)) is in omega arith
item_deeper (x ∷ xs) (suc i) v n h is k = let rest = item_deeper xs i v n (omega arith) is k in omega arith

-- one value more nests no deeper
pub items_more : (xs : List Value) (i : ℕ) (v : Value) (n : ℕ) → i < length xs → v ≡ get_or xs i v → items_depth (items_view (take i xs)) ≤ n
    → depth (view v) ≤ n → items_depth (items_view (take (suc i) xs)) ≤ n
items_more [] i v n h is k d = absurd (omega arith)
items_more (x ∷ xs) zero v n h is k d = let same : depth (view v) ≡ depth (view x) = ap (λ (y : Value). depth (view y)) is in omega arith
items_more (x ∷ xs) (suc i) v n h is k d = let rest = items_more xs i v n (omega arith) is (omega arith) d in omega arith

pub items_all : (xs : List Value) (i n : ℕ) → length xs ≤ i → items_depth (items_view (take i xs)) ≤ n → items_depth (items_view xs) ≤ n
items_all xs i n h k = subst (λ (ys : List Value). items_depth (items_view ys) ≤ n) (take_all i xs h) k

-- so do members
pub member_deeper : (done : List Entry) (e : Entry) (rest : List Entry) (n : ℕ) → n < depth (view e.1)
    → n < members_depth (members_view (done ++ e ∷ rest))
member_deeper [] e rest n k = omega arith
member_deeper (x ∷ done) e rest n k = let later = member_deeper done e rest n k in omega arith

pub members_more : (done : List Entry) (e : Entry) (n : ℕ) → members_depth (members_view done) ≤ n → depth (view e.1) ≤ n
    → members_depth (members_view (done ++ e ∷ [])) ≤ n
members_more [] e n k d = omega arith
members_more (x ∷ done) e n k d = let later = members_more done e n (omega arith) d in omega arith
