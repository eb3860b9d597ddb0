-- Names that are declared one after another, each of them once: which declaration is found, and what all of them answer.
use Rattle.std.proofs.Common.{◌≡◌, ℕ, List, [], ◌∷◌, ◌++◌, map, flat_map, true, false, Bool, Option, Some, None, is_some, if◌then◌else◌, nat_eq, refl, ap, sym, subst, ◌∙◌, append_assoc, append-nil, true≢false}
use Rattle.std.proofs.lemmas.List.{map-append}
use Rattle.std.proofs.lemmas.List.Concat.{flat_map-append}
use Rattle.std.specs.Option.{option_or}
use Rattle.std.specs.Cmp.Lexicographic.{pointwise, bytes_decides}
use Rattle.types.specs.Laws.{OnlyOne}
use Rattle.types.specs.Names.{VisibleNames, look_up, declared}
use Rattle.types.specs.Visible.{Declaration, of_all}
use Rattle.types.specs.declared.scope.Meaning.{Meaning}
use Rattle.types.specs.declared.scope.Meaning.TheVariants as meaning
use Rattle.syntax.specs.Lists.{Every}

-- ---- words on lists

pub every-append : {X : Type 0} (P : X → Type 0) (xs ys : List X) → Every P xs → Every P ys → Every P (xs ++ ys)
every-append P [] ys a b = b
every-append P (x ∷ xs) ys a b = (a.0, every-append P xs ys a.1 b)

pub every-front : {X : Type 0} (P : X → Type 0) (xs ys : List X) → Every P (xs ++ ys) → Every P xs
every-front P [] ys a = tt
every-front P (x ∷ xs) ys a = (a.0, every-front P xs ys a.1)

pub every-back : {X : Type 0} (P : X → Type 0) (xs ys : List X) → Every P (xs ++ ys) → Every P ys
every-back P [] ys a = a
every-back P (x ∷ xs) ys a = every-back P xs ys a.1

pub every-weaker : {X : Type 0} (P Q : X → Type 0) → ((x : X) → P x → Q x) → (xs : List X) → Every P xs → Every Q xs
every-weaker P Q f [] a = tt
every-weaker P Q f (x ∷ xs) a = (f x a.0, every-weaker P Q f xs a.1)

-- ---- names

pub look_up-append : (es more : VisibleNames) (n : List ℕ) → look_up (es ++ more) n ≡ option_or (look_up es n) (look_up more n)
look_up-append [] more n = refl
look_up-append (e ∷ es) more n =
    elim (pointwise nat_eq n e.0)
    as (λ b. (if b then Some e.1 else look_up (es ++ more) n) ≡ option_or (if b then Some e.1 else look_up es n) (look_up more n)) [
      | true ↦ refl
      | false ↦ look_up-append es more n
    ]

-- none of these has the name
abbrev pub Lacks : List ℕ → VisibleNames → Type 0
Lacks n = Every (λ (e : List ℕ × Meaning). pointwise nat_eq n e.0 ≡ false)

pub lacking : (n : List ℕ) (es : VisibleNames) → look_up es n ≡ None → Lacks n es
lacking n [] is = tt
lacking n (e ∷ es) is = by (pointwise nat_eq n e.0) refl (lacking n es)
  where
    by : (b : Bool) → pointwise nat_eq n e.0 ≡ b → (look_up es n ≡ None → Lacks n es) → Lacks n (e ∷ es)
    by true same rest = let h : Some e.1 ≡ None = rw same at is in absurd cc
    by false other rest = (other, rest (rw other at is))

-- exactly one of these has the name, and means this
pub record Lone (n : List ℕ) (m : Meaning) (es : VisibleNames) : Type 0 where
  pub before : VisibleNames
  pub name : List ℕ
  pub behind : VisibleNames
  pub all : es ≡ before ++ (name, m) ∷ behind
  pub same : pointwise nat_eq n name ≡ true
  pub none_before : Lacks n before
  pub none_behind : Lacks n behind

-- what is found is declared once
abbrev pub Once : VisibleNames → Type 0
Once es = (n : List ℕ) (m : Meaning) → look_up es n ≡ Some m → Lone n m es

-- nothing is found where nothing is declared
pub none_found : {A : Type 0} (n : List ℕ) (m : Meaning) → look_up [] n ≡ Some m → A
none_found n m found = let h : ◌≡◌ {A = Option Meaning} None (Some m) = found in absurd cc

pub once-none : Once []
once-none n m found = none_found n m found

-- a name that is found is not one that is not
other_name : (es : VisibleNames) (n x : List ℕ) (m : Meaning) → look_up es n ≡ Some m → look_up es x ≡ None → pointwise nat_eq n x ≡ false
other_name es n x m found fresh = by (pointwise nat_eq n x) refl
  where
    by : (b : Bool) → pointwise nat_eq n x ≡ b → pointwise nat_eq n x ≡ false
    by false is = is
    by true is = let h : Some m ≡ None = sym found ∙ ap (look_up es) ((bytes_decides n x).0 is) ∙ fresh in absurd cc

once_old : (es : VisibleNames) (x n : List ℕ) (m k : Meaning) → Lone n k es → pointwise nat_eq n x ≡ false → Lone n k (es ++ (x, m) ∷ [])
once_old es x n m k l other = record {
  before = l.before;
  name = l.name;
  behind = l.behind ++ (x, m) ∷ [];
  all = ap (λ z. z ++ (x, m) ∷ []) l.all ∙ append_assoc l.before ((l.name, k) ∷ l.behind) ((x, m) ∷ []);
  same = l.same;
  none_before = l.none_before;
  none_behind = every-append _ l.behind ((x, m) ∷ []) l.none_behind (other, tt);
}

once_new : (es : VisibleNames) (x n : List ℕ) (m k : Meaning) → look_up es n ≡ None → look_up ((x, m) ∷ []) n ≡ Some k → Lone n k (es ++ (x, m) ∷ [])
once_new es x n m k absent found = by (pointwise nat_eq n x) refl
  where
    by : (b : Bool) → pointwise nat_eq n x ≡ b → Lone n k (es ++ (x, m) ∷ [])
    by true is =
        let h : Some m ≡ Some k = rw is at found in
        let same : m ≡ k = cc in
        record {
          before = es;
          name = x;
          behind = [];
          all = ap (λ (z : Meaning). es ++ (x, z) ∷ []) same;
          same = is;
          none_before = lacking n es absent;
          none_behind = tt;
        }
    by false is = let h : None ≡ Some k = rw is at found in absurd cc

-- a name that is not found yet is declared
pub once-more : (es : VisibleNames) (x : List ℕ) (m : Meaning) → Once es → look_up es x ≡ None → Once (es ++ (x, m) ∷ [])
once-more es x m once fresh n k found = by (look_up es n) refl
  where
    found_in : option_or (look_up es n) (look_up ((x, m) ∷ []) n) ≡ Some k
    found_in = sym (look_up-append es ((x, m) ∷ []) n) ∙ found

    by : (o : Option Meaning) → look_up es n ≡ o → Lone n k (es ++ (x, m) ∷ [])
    by (Some j) is =
        let h : Some j ≡ Some k = rw is at found_in in
        once_old es x n m k (once n k (is ∙ h)) (other_name es n x j is fresh)
    by None is = once_new es x n m k is (rw is at found_in)

-- ---- what all of them answer

-- the width of a type that a name of this meaning is
abbrev pub type_ways : Meaning → List ℕ
type_ways (meaning.TypeName w) = w ∷ []
type_ways _ = []

-- the width of a value that it is, or that passes through it
abbrev pub value_ways : Meaning → List ℕ
value_ways (meaning.Element v) = v.width ∷ []
value_ways (meaning.Input p w) = w ∷ []
value_ways (meaning.Output p w) = w ∷ []
value_ways (meaning.Variable l w) = w ∷ []
value_ways (meaning.Channel l w) = w ∷ []
value_ways _ = []

abbrev pub shown : List ℕ × Meaning → Declaration
shown e = record { name = e.0; as_type = type_ways e.1; as_value = value_ways e.1 }

none_answers : (f : Declaration → List ℕ) (n : List ℕ) (es : VisibleNames) → Lacks n es → of_all f (map shown es) n ≡ []
none_answers f n [] none = refl
none_answers f n (e ∷ es) none = rw (none.0, none_answers f n es none.1) refl

one_answers : (b : Bool) (a rest : List ℕ) → b ≡ true → rest ≡ [] → (if b then a else []) ++ rest ≡ a
one_answers b a rest is none = rw (is, none) (append-nil a)

none_is : (n : List ℕ) (es : VisibleNames) → Lacks n es → Every (λ (d : Declaration). ¬ (d.name ≡ n)) (map shown es)
none_is n [] none = tt
none_is n (e ∷ es) none = (λ is. true≢false (sym ((bytes_decides n e.0).1 (sym is)) ∙ none.0), none_is n es none.1)

module _ (n : List ℕ) (m : Meaning) (es : VisibleNames) (l : Lone n m es) where
  shown_all : map shown es ≡ map shown l.before ++ shown (l.name, m) ∷ map shown l.behind
  shown_all = ap (map shown) l.all ∙ map-append shown l.before ((l.name, m) ∷ l.behind)

  -- the declaration that is found answers alone
  pub lone_answers : (f : Declaration → List ℕ) → of_all f (map shown es) n ≡ f (shown (l.name, m))
  lone_answers f =
      ap (λ z. of_all f z n) shown_all
      ∙ flat_map-append (λ (d : Declaration). if pointwise nat_eq n d.name then f d else []) (map shown l.before) (shown (l.name, m) ∷ map shown l.behind)
      ∙ ap (λ z. z ++ of_all f (shown (l.name, m) ∷ map shown l.behind) n) (none_answers f n l.before l.none_before)
      ∙ one_answers (pointwise nat_eq n l.name) (f (shown (l.name, m))) _ l.same (none_answers f n l.behind l.none_behind)

  -- and is the only one of the name
  pub lone_only : OnlyOne (λ (d : Declaration). d.name ≡ n) (map shown es)
  lone_only = record {
    before = map shown l.before;
    one = shown (l.name, m);
    behind = map shown l.behind;
    all = shown_all;
    is = sym ((bytes_decides n l.name).0 l.same);
    none_before = none_is n l.before l.none_before;
    none_behind = none_is n l.behind l.none_behind;
  }

-- the name is found
abbrev pub IsFound : VisibleNames → List ℕ → Type 0
IsFound es n = (m : Meaning) × (look_up es n ≡ Some m)
