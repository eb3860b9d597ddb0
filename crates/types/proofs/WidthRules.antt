-- The widths that an expression can have are those that the rules give it; the operands of one that is right are right.
use Rattle.std.proofs.Common.{◌≡◌, ◌⊎◌, inl, inr, ℕ, ◌+◌, ◌≤◌, List, [], ◌∷◌, ◌++◌, map, flat_map, true, false, Bool, ◌&&◌, nat_eq, nat_le, max, if◌then◌else◌, Ok, Err, refl, ap, sym, subst, ◌∙◌, le-leb, leb-true}
use Rattle.std.specs.Cmp.Lexicographic.{pointwise, bytes_decides}
use Rattle.value.specs.Word.{most_bits, least_width_of}
use Rattle.types.specs.Declarations.{scope_inside}
use Rattle.types.specs.Expressions.{JudgedValue, judged_expression, shape_layer, expression_layer, binary, complement, cast, type_width}
use Rattle.types.specs.Findings.{Findings, becomes, one_fault, every}
use Rattle.types.specs.Names.{VisibleNames}
use Rattle.types.specs.Parts.{Name, Part, named, valued, names_of_expression, expressions_of_part, expressions_in, parts_of_command}
use Rattle.types.specs.Visible.{Declaration, of_all, type_widths, operator_widths, shape_widths, expression_widths, widths_of}
use Rattle.types.specs.declared.expression.Valued.{Valued}
use Rattle.types.specs.declared.tree.Binding.{Binding}
use Rattle.syntax.specs.Lists.{In, Every}
use Rattle.syntax.specs.declared.expression.Expr.{Expr, out-Expr}
use Rattle.syntax.specs.declared.expression.Operator.{Operator}
use Rattle.syntax.specs.declared.expression.Operator.TheVariants.{Add, Subtract, And, Or, Xor, Equal, NotEqual, Less, Greater, LessOrEqual, GreaterOrEqual}
use Rattle.syntax.specs.declared.expression.Shape.{Shape, out-Shape}
use Rattle.syntax.specs.declared.expression.Shape.TheFolds.{map-Shape, fold-roll-Shape, fold-roll-Expr, ind-Expr}
use Rattle.syntax.specs.declared.expression.Shape.TheOpen.{Expr-F, Shape-F}
use Rattle.syntax.specs.declared.expression.Shape.TheViews.{roll-Expr, roll-Shape, out-roll-Expr, out-roll-Shape, roll-out-Expr, roll-out-Shape}
use Rattle.syntax.specs.declared.expression.TypeName.{TypeName}
use Rattle.syntax.specs.declared.expression.TypeName.TheVariants.{Named, Bits}
use Rattle.types.proofs.DeclaredOnce.{in_accepted, both-ok}
use Rattle.types.proofs.Lookups.{Once, shown, every-weaker}
use Rattle.types.proofs.ExpressionWays.{judged_shape, widths_in_shape, expression_once}
use Rattle.types.proofs.Least.{With}
use Rattle.types.proofs.PartsFound.{IsRight}
use Rattle.types.proofs.TypingLaws.{every-flat, right_by, is_sound, all_visible, parts}
use Rattle.types.specs.Widths.{shape_of, TypeHasWidth, OperatorGives, HasWidth, of_number, of_name, of_operator, of_not, of_cast, HasThisAlone, StandsIn, itself, left_of, right_of, inside_not, inside_cast, OperandsHaveOneWidth}

-- ---- elements of lists that are put together

in_either : {X : Type 0} (xs ys : List X) (x : X) → In x (xs ++ ys) → In x xs ⊎ In x ys
in_either [] ys x at = inr at
in_either (z ∷ xs) ys x (inl same) = inl (inl same)
in_either (z ∷ xs) ys x (inr at) = elim (in_either xs ys x at) [ inl here ↦ inl (inr here) | inr there ↦ inr there ]

in_front : {X : Type 0} (xs ys : List X) (x : X) → In x xs → In x (xs ++ ys)
in_front [] ys x at = absurd at
in_front (z ∷ xs) ys x (inl same) = inl same
in_front (z ∷ xs) ys x (inr at) = inr (in_front xs ys x at)

in_back : {X : Type 0} (xs ys : List X) (x : X) → In x ys → In x (xs ++ ys)
in_back [] ys x at = at
in_back (z ∷ xs) ys x at = inr (in_back xs ys x at)

from_flat : {X Y : Type 0} (f : X → List Y) (xs : List X) (y : Y) → In y (flat_map f xs) → (x : X) × In x xs × In y (f x)
from_flat f [] y at = absurd at
from_flat f (x ∷ xs) y at = elim (in_either (f x) (flat_map f xs) y at) [
  | inl here ↦ (x, inl refl, here)
  | inr there ↦ let h = from_flat f xs y there in (h.0, inr h.1, h.2)
]

into_flat : {X Y : Type 0} (f : X → List Y) (xs : List X) (y : Y) (x : X) → In x xs → In y (f x) → In y (flat_map f xs)
into_flat f [] y x at is = absurd at
into_flat f (z ∷ xs) y x (inl same) is = in_front (f z) (flat_map f xs) y (subst (λ u. In y (f u)) same is)
into_flat f (z ∷ xs) y x (inr at) is = in_back (f z) (flat_map f xs) y (into_flat f xs y x at is)

pub in_single : {X : Type 0} (x y : X) → In x (y ∷ []) → x ≡ y
in_single x y (inl same) = same
in_single x y (inr none) = absurd none

-- ---- names, types and operators

module _ (answer : Declaration → List ℕ) (ds : List Declaration) (n : Name) (w : ℕ) where
  abbrev answers : Declaration → List ℕ
  answers d = if pointwise nat_eq n d.name then answer d else []

  answered : In w (of_all answer ds n) → (d : Declaration) × In d ds × (d.name ≡ n) × In w (answer d)
  answered at = let h = from_flat answers ds w at in by h.0 h.1 h.2
    where
      by : (d : Declaration) → In d ds → In w (answers d) → (d : Declaration) × In d ds × (d.name ≡ n) × In w (answer d)
      by d among is = test (pointwise nat_eq n d.name) refl
        where
          test : (b : Bool) → pointwise nat_eq n d.name ≡ b → (d : Declaration) × In d ds × (d.name ≡ n) × In w (answer d)
          test true same = (d, among, sym ((bytes_decides n d.name).0 same), subst (λ b. In w (if b then answer d else [])) same is)
          test false other = absurd (subst (λ b. In w (if b then answer d else [])) other is)

  pub answering : (d : Declaration) → In d ds → d.name ≡ n → In w (answer d) → In w (of_all answer ds n)
  answering d among same is =
      into_flat answers ds w d among (subst (λ b. In w (if b then answer d else [])) (sym ((bytes_decides n d.name).1 (sym same))) is)

both_true : (a b : Bool) → (a && b) ≡ true → (a ≡ true) × (b ≡ true)
both_true true true e = (refl, refl)
both_true true false e = absurd cc
both_true false b e = absurd cc

pub type_from : (ds : List Declaration) (type : TypeName) (w : ℕ) → In w (type_widths ds type) → TypeHasWidth ds type w
type_from ds (Named identifier) w at = answered (λ d. d.as_type) ds identifier.name w at
type_from ds (Bits declared) w at = by (nat_le 1 declared.bits && nat_le declared.bits most_bits) refl
  where
    by : (b : Bool) → (nat_le 1 declared.bits && nat_le declared.bits most_bits) ≡ b → TypeHasWidth ds (Bits declared) w
    by true is =
        let same = in_single w declared.bits (subst (λ b. In w (if b then declared.bits ∷ [] else [])) is at) in
        let h = both_true (nat_le 1 declared.bits) (nat_le declared.bits most_bits) is in
        (same, subst (λ z. 1 ≤ z) (sym same) (leb-true 1 declared.bits h.0), subst (λ z. z ≤ most_bits) (sym same) (leb-true declared.bits most_bits h.1))
    by false is = absurd (subst (λ b. In w (if b then declared.bits ∷ [] else [])) is at)

pub type_into : (ds : List Declaration) (type : TypeName) (w : ℕ) → TypeHasWidth ds type w → In w (type_widths ds type)
type_into ds (Named identifier) w (d, among, same, is) = answering (λ d. d.as_type) ds identifier.name w d among same is
type_into ds (Bits declared) w (same, some, few) =
    let low : nat_le 1 declared.bits ≡ true = le-leb 1 declared.bits (subst (λ z. 1 ≤ z) same some) in
    let high : nat_le declared.bits most_bits ≡ true = le-leb declared.bits most_bits (subst (λ z. z ≤ most_bits) same few) in
    subst (λ b. In w (if b && nat_le declared.bits most_bits then declared.bits ∷ [] else [])) (sym low)
    (subst (λ b. In w (if b then declared.bits ∷ [] else [])) (sym high) (inl same))

gives_from : (op : Operator) (a b w : ℕ) → In w (operator_widths op a b) → OperatorGives op a b w
gives_from Add a b w at = by (nat_le (max a b + 1) most_bits) refl
  where
    by : (t : Bool) → nat_le (max a b + 1) most_bits ≡ t → OperatorGives Add a b w
    by true is =
        let same = in_single w (max a b + 1) (subst (λ t. In w (if t then (max a b + 1) ∷ [] else [])) is at) in
        (same, subst (λ z. z ≤ most_bits) (sym same) (leb-true (max a b + 1) most_bits is))
    by false is = absurd (subst (λ t. In w (if t then (max a b + 1) ∷ [] else [])) is at)
gives_from Subtract a b w at = in_single w (max a b) at
gives_from And a b w at = in_single w (max a b) at
gives_from Or a b w at = in_single w (max a b) at
gives_from Xor a b w at = in_single w (max a b) at
gives_from Equal a b w at = in_single w 1 at
gives_from NotEqual a b w at = in_single w 1 at
gives_from Less a b w at = in_single w 1 at
gives_from Greater a b w at = in_single w 1 at
gives_from LessOrEqual a b w at = in_single w 1 at
gives_from GreaterOrEqual a b w at = in_single w 1 at

gives_into : (op : Operator) (a b w : ℕ) → OperatorGives op a b w → In w (operator_widths op a b)
gives_into Add a b w (same, few) =
    let fits : nat_le (max a b + 1) most_bits ≡ true = le-leb (max a b + 1) most_bits (subst (λ z. z ≤ most_bits) same few) in
    subst (λ t. In w (if t then (max a b + 1) ∷ [] else [])) (sym fits) (inl same)
gives_into Subtract a b w same = inl same
gives_into And a b w same = inl same
gives_into Or a b w same = inl same
gives_into Xor a b w same = inl same
gives_into Equal a b w same = inl same
gives_into NotEqual a b w same = inl same
gives_into Less a b w same = inl same
gives_into Greater a b w same = inl same
gives_into LessOrEqual a b w same = inl same
gives_into GreaterOrEqual a b w same = inl same

-- ---- one layer of an expression

module _ (ds : List Declaration) where
  abbrev Widths : Expr → List ℕ
  Widths e = widths_of ds e

  abbrev open_shape : Shape-F Shape Expr → List ℕ
  open_shape s = shape_widths ds (map-Shape Shape Expr (List ℕ) (List ℕ) (widths_in_shape ds) (widths_of ds) s)

  open_widths : (e : Expr) → Widths e ≡ open_shape (shape_of e)
  open_widths e =
      ap (widths_of ds) (sym (roll-out-Expr e))
      ∙ fold-roll-Expr (List ℕ) (List ℕ) (shape_widths ds) expression_widths (out-Expr e)
      ∙ ap (widths_in_shape ds) (sym (roll-out-Shape (out-Expr e).shape))
      ∙ fold-roll-Shape (List ℕ) (List ℕ) (shape_widths ds) expression_widths (shape_of e)

  -- ---- each width is one by the rules

  abbrev ByRules : Expr → Type 0
  ByRules e = (w : ℕ) → In w (Widths e) → HasWidth ds e w

  abbrev ShapeByRules : Shape → Type 0
  ShapeByRules s = (e : Expr) → (out-Expr e).shape ≡ s → ByRules e

  abbrev Open : Type 0
  Open = Shape-F (With ShapeByRules) (With ByRules)

  abbrev plain : Open → Shape-F Shape Expr
  plain y = map-Shape (With ShapeByRules) (With ByRules) Shape Expr (λ x. x.0) (λ x. x.0) y

  open_by_rules : (y : Open) (e : Expr) → shape_of e ≡ plain y → (w : ℕ) → In w (open_shape (plain y)) → HasWidth ds e w
  open_by_rules (Shape-F.Number n) e is w at = of_number e n w is (in_single w (least_width_of n) at)
  open_by_rules (Shape-F.Name n) e is w at = of_name e n w is (answered (λ d. d.as_value) ds n w at)
  open_by_rules (Shape-F.Binary op a b) e is w at =
      let l = from_flat (λ x. flat_map (λ y. operator_widths op x y) (Widths b.0)) (Widths a.0) w at in
      let r = from_flat (λ y. operator_widths op l.0 y) (Widths b.0) w l.2 in
      of_operator e op a.0 b.0 l.0 r.0 w is (a.1 l.0 l.1) (b.1 r.0 r.1) (gives_from op l.0 r.0 w r.2)
  open_by_rules (Shape-F.Not a) e is w at = of_not e a.0 w is (a.1 w at)
  open_by_rules (Shape-F.Cast a type) e is w at =
      let l = from_flat (λ _. type_widths ds type) (Widths a.0) w at in
      of_cast e a.0 type l.0 w is (a.1 l.0 l.1) (type_from ds type w l.2)

  shape_by_rules : (y : Open) → ShapeByRules (roll-Shape (plain y))
  shape_by_rules y e same w at =
      let is : shape_of e ≡ plain y = ap out-Shape same ∙ out-roll-Shape (plain y) in
      open_by_rules y e is w (subst (λ s. In w (open_shape s)) is (subst (In w) (open_widths e) at))

  by_rules : (e : Expr) → ByRules e
  by_rules =
      ind-Expr ShapeByRules ByRules
      (λ x y is. subst (λ z. ShapeByRules (roll-Shape z)) is (shape_by_rules y))
      (λ x y is. subst (λ z. ByRules (roll-Expr z)) is
      (y.shape.1 (roll-Expr (record { span = y.span; own_start = y.own_start; shape = y.shape.0 }))
      (ap (λ (z : Expr-F Shape Expr). z.shape) (out-roll-Expr (record { span = y.span; own_start = y.own_start; shape = y.shape.0 })))))

  -- ---- and each one by the rules is one of them

  in_widths : {e : Expr} {w : ℕ} → HasWidth ds e w → In w (Widths e)
  in_widths (of_number e n w is same) = subst (In w) (sym (open_widths e)) (subst (λ s. In w (open_shape s)) (sym is) (inl same))
  in_widths (of_name e n w is (d, among, same, has)) =
      subst (In w) (sym (open_widths e)) (subst (λ s. In w (open_shape s)) (sym is) (answering (λ d. d.as_value) ds n w d among same has))
  in_widths (of_operator e op left right a b w is l r gives) =
      subst (In w) (sym (open_widths e)) (subst (λ s. In w (open_shape s)) (sym is)
      (into_flat (λ x. flat_map (λ y. operator_widths op x y) (Widths right)) (Widths left) w a (in_widths l)
      (into_flat (λ y. operator_widths op a y) (Widths right) w b (in_widths r) (gives_into op a b w gives))))
  in_widths (of_not e operand w is o) =
      subst (In w) (sym (open_widths e)) (subst (λ s. In w (open_shape s)) (sym is) (in_widths o))
  in_widths (of_cast e operand type a w is o has) =
      subst (In w) (sym (open_widths e)) (subst (λ s. In w (open_shape s)) (sym is)
      (into_flat (λ _. type_widths ds type) (Widths operand) w a (in_widths o) (type_into ds type w has)))

  -- so one that is alone there is alone by the rules
  pub alone_by_rules : (e : Expr) (w : ℕ) → Widths e ≡ w ∷ [] → HasThisAlone ds e w
  alone_by_rules e w only = (
    by_rules e w (subst (In w) (sym only) (inl refl)),
    λ other has. in_single other w (subst (In other) only (in_widths has)),
  )

-- ---- the operands of what is right

binary_parts : (op : Operator) (start : ℕ) (l r : Findings every Valued) (v : Valued) → binary every op start l r ≡ Ok v
    → ((a : Valued) × (l ≡ Ok a)) × ((b : Valued) × (r ≡ Ok b))
unfolding binary
binary_parts op start (Ok a) (Ok b) v e = ((a, refl), (b, refl))
binary_parts op start (Ok a) (Err fs) v e = absurd cc
binary_parts op start (Err fs) (Ok b) v e = absurd cc
binary_parts op start (Err fs) (Err gs) v e = absurd cc

not_part : (r : Findings every Valued) (v : Valued) → becomes complement r ≡ Ok v → (a : Valued) × (r ≡ Ok a)
not_part (Ok a) v e = (a, refl)
not_part (Err fs) v e = absurd cc

module _ (es : VisibleNames) (opened : List Binding) where
  abbrev judged : Expr → Findings every Valued
  judged e = judged_expression every e es opened

  abbrev open_layer : Shape-F Shape Expr → ℕ → Findings every Valued
  open_layer s start =
      shape_layer every (map-Shape Shape Expr (ℕ → JudgedValue every) (JudgedValue every) judged_shape (judged_expression every) s) start es opened

  open_judged : (e : Expr) → judged e ≡ open_layer (shape_of e) (out-Expr e).own_start
  open_judged e =
      ap judged (sym (roll-out-Expr e))
      ∙ ap (λ f. f es opened) (fold-roll-Expr (ℕ → JudgedValue every) (JudgedValue every) (shape_layer every) (expression_layer every) (out-Expr e))
      ∙ ap (λ z. judged_shape z (out-Expr e).own_start es opened) (sym (roll-out-Shape (out-Expr e).shape))
      ∙ ap (λ f. f (out-Expr e).own_start es opened) (fold-roll-Shape (ℕ → JudgedValue every) (JudgedValue every) (shape_layer every) (expression_layer every) (shape_of e))

  opened_as : (e : Expr) (s : Shape-F Shape Expr) (v : Valued) → shape_of e ≡ s → judged e ≡ Ok v → open_layer s (out-Expr e).own_start ≡ Ok v
  opened_as e s v is right = ap (λ z. open_layer z (out-Expr e).own_start) (sym is) ∙ sym (open_judged e) ∙ right

  operand_right : (x : Expr) {e : Expr} → StandsIn x e → (v : Valued) → judged e ≡ Ok v → (u : Valued) × (judged x ≡ Ok u)
  operand_right x itself v right = (v, right)
  operand_right x (left_of e op left other is at) v right =
      let h = binary_parts op (out-Expr e).own_start (judged left) (judged other) v (opened_as e (Shape-F.Binary op left other) v is right) in
      operand_right x at h.0.0 h.0.1
  operand_right x (right_of e op other left is at) v right =
      let h = binary_parts op (out-Expr e).own_start (judged other) (judged left) v (opened_as e (Shape-F.Binary op other left) v is right) in
      operand_right x at h.1.0 h.1.1
  operand_right x (inside_not e operand is at) v right =
      let h = not_part (judged operand) v (opened_as e (Shape-F.Not operand) v is right) in
      operand_right x at h.0 h.1
  operand_right x (inside_cast e operand type is at) v right =
      let h = both-ok (λ (p : Valued × ℕ). cast p.0 p.1) (judged operand) (one_fault (type_width es opened type)) v (opened_as e (Shape-F.Cast operand type) v is right) in
      operand_right x at h.0 h.2

-- ---- in an accepted description

module _ (es : VisibleNames) (once : Once es) where
  abbrev AllAlone : Expr → Type 0
  AllAlone whole = (e : Expr) → StandsIn e whole → (width : ℕ) × HasThisAlone (map shown es) e width

  part_alone : (q : Part) → IsRight es q → Every AllAlone (expressions_of_part q)
  part_alone (named n) found = tt
  part_alone (valued whole) (opened, v, is) = ((λ e at. by e (operand_right es opened e at v is)), tt)
    where
      by : (e : Expr) → (u : Valued) × (judged es opened e ≡ Ok u) → (width : ℕ) × HasThisAlone (map shown es) e width
      by e (u, right) = (
        u.width,
        alone_by_rules (map shown es) e u.width
            (right_by es (judged_expression every e es opened) (widths_of (map shown es) e) (names_of_expression e) u right (expression_once e es opened once)).0,
      )

pub operands_once : OperandsHaveOneWidth
operands_once d (qs, e) before p later split =
    let here = in_accepted d qs e before p later split in
    let es = (scope_inside every here.scope p).names in
    let once = (is_sound d before p here).once in
    subst (λ ds. Every (λ whole. (x : Expr) → StandsIn x whole → (width : ℕ) × HasThisAlone ds x width) (expressions_in p)) (all_visible d before p here)
    (every-flat (AllAlone es once) expressions_of_part (parts_of_command p.body)
    (every-weaker _ _ (part_alone es once) (parts_of_command p.body) (parts d before p here)))
