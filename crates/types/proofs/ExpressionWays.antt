-- An expression that is right has one width, and each name in it is found.
use Rattle.std.proofs.Common.{◌≡◌, ℕ, ◌+◌, List, [], ◌∷◌, ◌++◌, map, flat_map, true, false, Bool, Option, Some, None, ◌&&◌, nat_le, max, if◌then◌else◌, Result, Ok, Err, IfOk, refl, ap, sym, subst, ◌∙◌, append-nil}
use Rattle.value.specs.Word.{most_bits, least_width_of}
use Rattle.types.specs.Expressions.{JudgedValue, judged_expression, shape_layer, expression_layer, binary, combined, complement, cast, type_width, width_within, operator_width, declared_width, of_name}
use Rattle.types.specs.Findings.{Verdict, Findings, becomes, if_right, both, one_fault, every}
use Rattle.types.specs.Names.{VisibleNames, look_up, find, found_as, found_for, channel_of, is_among}
use Rattle.types.specs.Parts.{Name, names_of_type, names_of_shape, names_of_layer, names_of_expression}
use Rattle.types.specs.Uses.{meaning_of, type_use, value_use}
use Rattle.types.specs.Visible.{Declaration, of_all, in_range, type_widths, operator_widths, shape_widths, expression_widths, widths_of}
use Rattle.refusals.specs.declared.types.Fault.TheVariants.{TooWide}
use Rattle.types.specs.declared.expression.Valued.{Valued}
use Rattle.types.specs.declared.scope.Found.{Found}
use Rattle.types.specs.declared.scope.Found.TheVariants.{Nothing, Opened, Means}
use Rattle.types.specs.declared.scope.Meaning.{Meaning}
use Rattle.types.specs.declared.scope.Meaning.TheVariants as meaning
use Rattle.types.specs.declared.tree.Binding.{Binding}
use Rattle.types.specs.declared.tree.Binding.TheVariants as binding
use Rattle.syntax.specs.Lists.{Every}
use Rattle.syntax.specs.declared.expression.Expr.{Expr}
use Rattle.syntax.specs.declared.expression.Operator.{Operator}
use Rattle.syntax.specs.declared.expression.Operator.TheVariants.{Add, Subtract, And, Or, Xor, Equal, NotEqual, Less, Greater, LessOrEqual, GreaterOrEqual}
use Rattle.syntax.specs.declared.expression.Shape.{Shape}
use Rattle.syntax.specs.declared.expression.Shape.TheFolds.{map-Shape, fold-Shape, fold-roll-Shape, fold-roll-Expr, ind-Expr}
use Rattle.syntax.specs.declared.expression.Shape.TheOpen.{Shape-F}
use Rattle.syntax.specs.declared.expression.Shape.TheViews.{roll-Expr, roll-Shape}
use Rattle.syntax.specs.declared.expression.TypeName.{TypeName}
use Rattle.syntax.specs.declared.expression.TypeName.TheVariants.{Named, Bits}
use Rattle.syntax.specs.declared.expression.Width.{Width}
use Rattle.types.proofs.Least.{With}
use Rattle.types.proofs.Lookups.{Once, Lone, IsFound, shown, type_ways, value_ways, lone_answers, every-append}

-- ---- types

pub declared-range : (w : Width) (r : ℕ) → declared_width w ≡ Ok r → in_range w.bits ≡ r ∷ []
unfolding declared_width
declared-range w r is = by (nat_le 1 w.bits && nat_le w.bits most_bits) refl
  where
    by : (b : Bool) → (nat_le 1 w.bits && nat_le w.bits most_bits) ≡ b → in_range w.bits ≡ r ∷ []
    by true e = let h : ◌≡◌ {A = Verdict ℕ} (Ok w.bits) (Ok r) = rw e at is in let same : w.bits ≡ r = cc in rw e (ap (λ x. x ∷ []) same)
    by false e = let h = rw e at is in absurd cc

-- a name that is used as a type means one
type_meant : (opened : List Binding) (o : Option Meaning) (offset w : ℕ) → type_use (found_for opened o) offset ≡ Ok w → o ≡ Some (meaning.TypeName w)
unfolding type_use
type_meant opened None offset w is = absurd cc
type_meant opened (Some (meaning.TypeName v)) offset w is = let same : v ≡ w = cc in ap (λ x. Some (meaning.TypeName x)) same
type_meant opened (Some (meaning.Element v)) offset w is = absurd cc
type_meant opened (Some (meaning.Procedure p)) offset w is = absurd cc
type_meant opened (Some (meaning.Variable l v)) offset w is = absurd cc
type_meant opened (Some (meaning.Input p v)) offset w is = absurd (by (is_among opened (binding.Port p)) refl)
  where
    by : (b : Bool) → is_among opened (binding.Port p) ≡ b → ⊥
    by true e = let h = rw e at is in cc
    by false e = let h = rw e at is in cc
type_meant opened (Some (meaning.Output p v)) offset w is = absurd (by (is_among opened (binding.Port p)) refl)
  where
    by : (b : Bool) → is_among opened (binding.Port p) ≡ b → ⊥
    by true e = let h = rw e at is in cc
    by false e = let h = rw e at is in cc
type_meant opened (Some (meaning.SyncPort p)) offset w is = absurd (by (is_among opened (binding.Port p)) refl)
  where
    by : (b : Bool) → is_among opened (binding.Port p) ≡ b → ⊥
    by true e = let h = rw e at is in cc
    by false e = let h = rw e at is in cc
type_meant opened (Some (meaning.Channel l v)) offset w is = absurd (by (is_among opened (binding.Local l)) refl)
  where
    by : (b : Bool) → is_among opened (binding.Local l) ≡ b → ⊥
    by true e = let h = rw e at is in cc
    by false e = let h = rw e at is in cc
type_meant opened (Some (meaning.Sync l)) offset w is = absurd (by (is_among opened (binding.Local l)) refl)
  where
    by : (b : Bool) → is_among opened (binding.Local l) ≡ b → ⊥
    by true e = let h = rw e at is in cc
    by false e = let h = rw e at is in cc

pub type_found : (es : VisibleNames) (opened : List Binding) (n : List ℕ) (offset w : ℕ) → type_use (find es opened n) offset ≡ Ok w
    → look_up es n ≡ Some (meaning.TypeName w)
unfolding find
type_found es opened n offset w is = type_meant opened (look_up es n) offset w is

-- a type that is right has one width, and its name is found
pub type_once : (es : VisibleNames) → Once es → (opened : List Binding) (type : TypeName) (w : ℕ) → type_width es opened type ≡ Ok w
    → (type_widths (map shown es) type ≡ w ∷ []) × Every (IsFound es) (names_of_type type)
type_once es once opened (Named identifier) w is =
    let found = type_found es opened identifier.name identifier.span.start w is in
    (lone_answers identifier.name (meaning.TypeName w) es (once identifier.name (meaning.TypeName w) found) (λ d. d.as_type), ((meaning.TypeName w, found), tt))
type_once es once opened (Bits width) w is = (declared-range width w is, tt)

-- ---- names

-- what a name that is used as a value has
value_way : (opened : List Binding) (m : Meaning) (offset : ℕ)
    → IfOk (one_fault (becomes of_name (value_use (found_as opened m (channel_of m)) offset))) (λ v. value_ways m ≡ v.width ∷ [])
unfolding value_use
value_way opened (meaning.TypeName w) offset = tt
value_way opened (meaning.Element v) offset = refl
value_way opened (meaning.Procedure p) offset = tt
value_way opened (meaning.Variable l w) offset = refl
value_way opened (meaning.Input p w) offset =
    elim (is_among opened (binding.Port p))
    as (λ b. IfOk (one_fault (becomes of_name (value_use (if b then Opened (record { binding = binding.Port p; width = Some w }) else Means (meaning.Input p w)) offset)))
    (λ v. w ∷ [] ≡ v.width ∷ [])) [ true ↦ refl | false ↦ tt ]
value_way opened (meaning.Output p w) offset =
    elim (is_among opened (binding.Port p))
    as (λ b. IfOk (one_fault (becomes of_name (value_use (if b then Opened (record { binding = binding.Port p; width = Some w }) else Means (meaning.Output p w)) offset)))
    (λ v. w ∷ [] ≡ v.width ∷ [])) [ true ↦ refl | false ↦ tt ]
value_way opened (meaning.SyncPort p) offset =
    elim (is_among opened (binding.Port p))
    as (λ b. IfOk (one_fault (becomes of_name (value_use (if b then Opened (record { binding = binding.Port p; width = None }) else Means (meaning.SyncPort p)) offset)))
    (λ v. [] ≡ v.width ∷ [])) [ true ↦ tt | false ↦ tt ]
value_way opened (meaning.Channel l w) offset =
    elim (is_among opened (binding.Local l))
    as (λ b. IfOk (one_fault (becomes of_name (value_use (if b then Opened (record { binding = binding.Local l; width = Some w }) else Means (meaning.Channel l w)) offset)))
    (λ v. w ∷ [] ≡ v.width ∷ [])) [ true ↦ refl | false ↦ tt ]
value_way opened (meaning.Sync l) offset =
    elim (is_among opened (binding.Local l))
    as (λ b. IfOk (one_fault (becomes of_name (value_use (if b then Opened (record { binding = binding.Local l; width = None }) else Means (meaning.Sync l)) offset)))
    (λ v. [] ≡ v.width ∷ [])) [ true ↦ tt | false ↦ tt ]

-- ---- expressions

-- where this is judged right, it has its width alone, and its names are found
abbrev pub RightValue : VisibleNames → Findings every Valued → List ℕ → List Name → Type 0
RightValue es judged widths names = IfOk judged (λ v. (widths ≡ v.width ∷ []) × Every (IsFound es) names)

pub ok-weaker : {A E : Type 0} (P Q : A → Type 0) (r : Result A E) → ((a : A) → P a → Q a) → IfOk r P → IfOk r Q
ok-weaker P Q (Ok a) f p = f a p
ok-weaker P Q (Err e) f p = tt

name_right : (es : VisibleNames) → Once es → (opened : List Binding) (n : Name) (offset : ℕ)
    → RightValue es (one_fault (becomes of_name (value_use (find es opened n) offset))) (of_all (λ d. d.as_value) (map shown es) n) (n ∷ [])
unfolding find value_use
name_right es once opened n offset = by (look_up es n) refl
  where
    by : (o : Option Meaning) → look_up es n ≡ o
        → RightValue es (one_fault (becomes of_name (value_use (found_for opened (look_up es n)) offset))) (of_all (λ d. d.as_value) (map shown es) n) (n ∷ [])
    by None is = rw is tt
    by (Some m) is =
        let way = lone_answers n m es (once n m is) (λ d. d.as_value) in
        let found : Every (IsFound es) (n ∷ []) = ((m, is), tt) in
        subst (λ o. RightValue es (one_fault (becomes of_name (value_use (found_for opened o) offset))) (of_all (λ d. d.as_value) (map shown es) n) (n ∷ [])) (sym is)
        (ok-weaker (λ v. value_ways m ≡ v.width ∷ []) _ (one_fault (becomes of_name (value_use (found_as opened m (channel_of m)) offset)))
        (λ v e. (way ∙ e, found)) (value_way opened m offset))

operator_way : (op : Operator) (start a b : ℕ) → IfOk (width_within start (operator_width op a b) op) (λ w. operator_widths op a b ≡ w ∷ [])
operator_way Add start a b =
    elim (nat_le (max a b + 1) most_bits)
    as (λ t. IfOk (if t then Ok (max a b + 1) else Err (TooWide start)) (λ w. (if t then (max a b + 1) ∷ [] else []) ≡ w ∷ [])) [ true ↦ refl | false ↦ tt ]
operator_way Subtract start a b = refl
operator_way And start a b = refl
operator_way Or start a b = refl
operator_way Xor start a b = refl
operator_way Equal start a b = refl
operator_way NotEqual start a b = refl
operator_way Less start a b = refl
operator_way Greater start a b = refl
operator_way LessOrEqual start a b = refl
operator_way GreaterOrEqual start a b = refl

-- of one width each the operator has what it has of these
single : (f : ℕ → ℕ → List ℕ) (a b : ℕ) (us bs : List ℕ) → us ≡ a ∷ [] → bs ≡ b ∷ [] → flat_map (λ x. flat_map (λ y. f x y) bs) us ≡ f a b
single f a b us bs one two = rw (one, two) (append-nil (f a b ++ []) ∙ append-nil (f a b))

combined_right : (es : VisibleNames) (op : Operator) (a b : Valued) (widths : List ℕ) (names : List Name) (v : Verdict ℕ)
    → IfOk v (λ w. widths ≡ w ∷ []) → Every (IsFound es) names → RightValue es (one_fault (becomes (combined op a b) v)) widths names
combined_right es op a b widths names (Ok w) one found = (one, found)
combined_right es op a b widths names (Err fault) one found = tt

binary_right : (es : VisibleNames) (op : Operator) (start : ℕ) (l r : Findings every Valued) (us bs : List ℕ) (ls rs : List Name)
    → RightValue es l us ls → RightValue es r bs rs
    → RightValue es (binary every op start l r) (flat_map (λ x. flat_map (λ y. operator_widths op x y) bs) us) (ls ++ rs)
unfolding binary
binary_right es op start (Ok a) (Ok b) us bs ls rs left right =
    combined_right es op a b _ (ls ++ rs) (width_within start (operator_width op a.width b.width) op)
    (subst (λ z. IfOk (width_within start (operator_width op a.width b.width) op) (λ w. z ≡ w ∷ []))
    (sym (single (operator_widths op) a.width b.width us bs left.0 right.0)) (operator_way op start a.width b.width))
    (every-append (IsFound es) ls rs left.1 right.1)
binary_right es op start (Ok a) (Err fs) us bs ls rs left right = tt
binary_right es op start (Err fs) (Ok b) us bs ls rs left right = tt
binary_right es op start (Err fs) (Err gs) us bs ls rs left right = tt

not_right : (es : VisibleNames) (operand : Findings every Valued) (widths : List ℕ) (names : List Name)
    → RightValue es operand widths names → RightValue es (becomes complement operand) widths names
not_right es (Ok v) widths names right = right
not_right es (Err fs) widths names right = tt

cast_right : (es : VisibleNames) → Once es → (opened : List Binding) (type : TypeName) (operand : Findings every Valued) (widths : List ℕ) (names : List Name)
    → RightValue es operand widths names
    → RightValue es (becomes (λ p. cast p.0 p.1) (both every operand (one_fault (type_width es opened type))))
    (flat_map (λ _. type_widths (map shown es) type) widths) (names ++ names_of_type type)
cast_right es once opened type operand widths names right = by operand right (type_width es opened type) refl
  where
    by : (operand : Findings every Valued) → RightValue es operand widths names → (t : Verdict ℕ) → type_width es opened type ≡ t
        → RightValue es (becomes (λ p. cast p.0 p.1) (both every operand (one_fault t))) (flat_map (λ _. type_widths (map shown es) type) widths)
        (names ++ names_of_type type)
    by (Ok v) right (Ok w) is =
        let type_is = type_once es once opened type w is in
        (rw (right.0, type_is.0) refl, every-append (IsFound es) names (names_of_type type) right.1 type_is.1)
    by (Ok v) right (Err fault) is = tt
    by (Err fs) right (Ok w) is = tt
    by (Err fs) right (Err fault) is = tt

-- ---- all of an expression

abbrev pub judged_shape : Shape → ℕ → JudgedValue every
judged_shape = fold-Shape (ℕ → JudgedValue every) (JudgedValue every) (shape_layer every) (expression_layer every)

abbrev pub widths_in_shape : List Declaration → Shape → List ℕ
widths_in_shape seen = fold-Shape (List ℕ) (List ℕ) (shape_widths seen) expression_widths

abbrev pub names_in_shape : Shape → List Name
names_in_shape = fold-Shape (List Name) (List Name) names_of_shape names_of_layer

abbrev ShapeIsOnce : Shape → Type 0
ShapeIsOnce s = (start : ℕ) (es : VisibleNames) (opened : List Binding) → Once es
    → RightValue es (judged_shape s start es opened) (widths_in_shape (map shown es) s) (names_in_shape s)

abbrev ExpressionIsOnce : Expr → Type 0
ExpressionIsOnce e = (es : VisibleNames) (opened : List Binding) → Once es
    → RightValue es (judged_expression every e es opened) (widths_of (map shown es) e) (names_of_expression e)

abbrev Open : Type 0
Open = Shape-F (With ShapeIsOnce) (With ExpressionIsOnce)

abbrev plain : Open → Shape-F Shape Expr
plain y = map-Shape (With ShapeIsOnce) (With ExpressionIsOnce) Shape Expr (λ x. x.0) (λ x. x.0) y

open_is : (y : Open) (start : ℕ) (es : VisibleNames) (opened : List Binding) → Once es
    → RightValue es
    (shape_layer every (map-Shape Shape Expr (ℕ → JudgedValue every) (JudgedValue every) judged_shape (judged_expression every) (plain y)) start es opened)
    (shape_widths (map shown es) (map-Shape Shape Expr (List ℕ) (List ℕ) (widths_in_shape (map shown es)) (widths_of (map shown es)) (plain y)))
    (names_of_shape (map-Shape Shape Expr (List Name) (List Name) names_in_shape names_of_expression (plain y)))
open_is (Shape-F.Number n) start es opened once = (refl, tt)
open_is (Shape-F.Name name) start es opened once = name_right es once opened name start
open_is (Shape-F.Binary op a b) start es opened once = binary_right es op start _ _ _ _ _ _ (a.1 es opened once) (b.1 es opened once)
open_is (Shape-F.Not a) start es opened once = not_right es _ _ _ (a.1 es opened once)
open_is (Shape-F.Cast a type) start es opened once = cast_right es once opened type _ _ _ (a.1 es opened once)

moved : (es : VisibleNames) (j j' : Findings every Valued) (w w' : List ℕ) (n n' : List Name) → j ≡ j' → w ≡ w' → n ≡ n'
    → RightValue es j' w' n' → RightValue es j w n
moved es j j' w w' n n' a b c right =
    subst (λ x. RightValue es x w n) (sym a) (subst (λ x. RightValue es j' x n) (sym b) (subst (λ x. RightValue es j' w' x) (sym c) right))

pub expression_once : (e : Expr) → ExpressionIsOnce e
expression_once =
    ind-Expr ShapeIsOnce ExpressionIsOnce
    (λ x y is. subst (λ z. ShapeIsOnce (roll-Shape z)) is (λ start es opened once.
    moved es _ _ _ _ _ _
    (ap (λ f. f start es opened) (fold-roll-Shape (ℕ → JudgedValue every) (JudgedValue every) (shape_layer every) (expression_layer every) _))
    (fold-roll-Shape (List ℕ) (List ℕ) (shape_widths (map shown es)) expression_widths _)
    (fold-roll-Shape (List Name) (List Name) names_of_shape names_of_layer _)
    (open_is y start es opened once)))
    (λ x y is. subst (λ z. ExpressionIsOnce (roll-Expr z)) is (λ es opened once.
    moved es _ _ _ _ _ _
    (ap (λ f. f es opened) (fold-roll-Expr (ℕ → JudgedValue every) (JudgedValue every) (shape_layer every) (expression_layer every) _))
    (fold-roll-Expr (List ℕ) (List ℕ) (shape_widths (map shown es)) expression_widths _)
    (fold-roll-Expr (List Name) (List Name) names_of_shape names_of_layer _)
    (y.shape.1 y.own_start es opened once)))
