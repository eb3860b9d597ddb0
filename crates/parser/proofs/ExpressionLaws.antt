-- The laws of expressions.
use Rattle.std.proofs.Common.{◌≡◌, ℕ, zero, suc, true, false, List, [], ◌∷◌, ◌++◌, refl}
use Rattle.lexer.specs.declared.token.Kind.{Kind}
use Rattle.lexer.specs.declared.token.Kind.TheVariants as kind
use Rattle.lexer.specs.declared.token.Kind.TheVariants.{End}
use Rattle.syntax.specs.declared.span.Span.{Span}
use Rattle.syntax.specs.declared.expression.Expr.{Expr}
use Rattle.parser.specs.Input.{is_one_of, same_kind}
use Rattle.parser.specs.Rules.{Rule}
use Rattle.parser.specs.internal.Readers.{Reader}
use Rattle.parser.specs.Grammar as g
use Rattle.parser.specs.Grammar.{sum_signs, comparison_signs, conjunct_words, expression_words}
use Rattle.parser.specs.internal.Reading as r
use Rattle.parser.proofs.Laws.{HasSentence, Laws, Full}
use Rattle.parser.proofs.Membership.{all_in, none_in}
use Rattle.parser.proofs.BindLaws.{bind_full, bind_sentence}
use Rattle.parser.proofs.TakeLaws.{pure_full, pure_sentence, take_full}
use Rattle.parser.proofs.OpenLaws.{IsDeep, opens}
use Rattle.parser.proofs.ChoiceLaws.{branch_full, inside_full, declared, declared_laws, either_sentence, inside_sentence}
use Rattle.parser.proofs.RepeatLaws.{repeat_full, repeat_sentence}
use Rattle.parser.proofs.ListLaws.{identifier_full, type_name_full}

-- what a factor, and so an expression, begins with
abbrev pub expression_start : List Kind
expression_start = kind.NotWord ∷ kind.LeftParenthesis ∷ kind.Number ∷ kind.Name ∷ []

-- what a sum, a comparison and so on go on with
abbrev pub comparison_follow : List Kind
comparison_follow = sum_signs ++ comparison_signs

abbrev pub conjunct_follow : List Kind
conjunct_follow = comparison_follow ++ conjunct_words

abbrev pub expression_follow : List Kind
expression_follow = conjunct_follow ++ expression_words

number_full : Full r.number r.number g.number g.number (kind.Number ∷ []) false []
unfolding r.number g.number same_kind
number_full = declared (bind_full (take_full _ _ refl refl) (λ token. pure_full _) refl) refl refl

variable_name_full : Full r.variable_name r.variable_name g.variable_name g.variable_name (kind.Name ∷ []) false []
unfolding r.variable_name g.variable_name same_kind
variable_name_full = declared (bind_full identifier_full (λ name. pure_full _) refl) refl refl

module _ (depth : ℕ) {o o' : Reader Expr} {h h' : Rule Expr} {start follow : List Kind} (operand : Full o o' h h' start false follow) where
  operation_laws :
      (signs : List Kind) → is_one_of signs End ≡ false → (left : Expr) →
      Laws (r.operation depth signs o left) (r.operation (suc depth) signs o' left) (g.operation depth signs h left) (g.operation (suc depth) signs h' left) (signs ++ []) false (follow ++ [])
  unfolding r.operation g.operation
  operation_laws signs ends left =
      opens depth signs ends (λ sign. bind_sentence operand.deeper (λ right. pure_sentence _)) (λ _ sign. bind_full operand (λ right. pure_full _) refl)

  grouped_full :
      (signs : List Kind) → is_one_of signs End ≡ false → all_in (signs ++ []) signs ≡ true → none_in (signs ++ []) (follow ++ []) ≡ true → none_in (signs ++ []) follow ≡ true →
      Full (r.grouped depth signs o) (r.grouped (suc depth) signs o') (g.grouped depth signs h) (g.grouped (suc depth) signs h') (start ++ []) false ((signs ++ (follow ++ [])) ++ follow)
  unfolding r.grouped g.grouped
  grouped_full signs ends inner apart apart' = bind_full operand (λ first. repeat_full signs (λ left. operation_laws signs ends left) ends inner apart first) apart'

module _ (depth : ℕ) {f f' : Reader Expr} {h h' : Rule Expr} (factor : Full f f' h h' expression_start false []) where
  sum_full : Full (r.sum_of depth f) (r.sum_of (suc depth) f') (g.sum_of depth h) (g.sum_of (suc depth) h') expression_start false sum_signs
  unfolding r.sum_of g.sum_of same_kind
  sum_full = declared (grouped_full depth factor sum_signs refl refl refl refl) refl refl

  comparison_full : Full (r.comparison_of depth f) (r.comparison_of (suc depth) f') (g.comparison_of depth h) (g.comparison_of (suc depth) h') expression_start false comparison_follow
  unfolding r.comparison_of r.compared g.comparison_of same_kind
  comparison_full = declared (bind_full sum_full (λ left. branch_full _ (operation_laws depth sum_full comparison_signs refl left) (pure_full _) refl refl) refl) refl refl

  conjunct_full : Full (r.conjunct_of depth f) (r.conjunct_of (suc depth) f') (g.conjunct_of depth h) (g.conjunct_of (suc depth) h') expression_start false conjunct_follow
  unfolding r.conjunct_of g.conjunct_of same_kind
  conjunct_full = declared (grouped_full depth comparison_full conjunct_words refl refl refl refl) refl refl

  pub expression_of_full : Full (r.expression_of depth f) (r.expression_of (suc depth) f') (g.expression_of depth h) (g.expression_of (suc depth) h') expression_start false expression_follow
  unfolding r.expression_of g.expression_of same_kind
  expression_of_full = declared (inside_full (grouped_full depth conjunct_full expression_words refl refl refl refl)) refl refl

cast_full : (start : Span) (operand : Expr) → Full (r.cast start operand) (r.cast start operand) (g.cast start operand) (g.cast start operand) (kind.AsWord ∷ []) false []
unfolding r.cast g.cast same_kind
cast_full start operand =
    declared (bind_full (take_full _ _ refl refl) (λ _. bind_full type_name_full (λ to. bind_full (take_full _ _ refl refl) (λ stop. pure_full _) refl) refl) refl) refl refl

closing_full : (start : Span) (operand : Expr) → Full (r.closing start operand) (r.closing start operand) (g.closing start operand) (g.closing start operand) (kind.RightParenthesis ∷ []) false []
unfolding r.closing g.closing same_kind
closing_full start operand = declared (bind_full (take_full _ _ refl refl) (λ stop. pure_full _) refl) refl refl

-- over the laws of what stands a level deeper, where there is such a level
module _ (depth : ℕ) {f f' e e' : Reader Expr} {h h' i i' : Rule Expr} (factor : IsDeep depth → Full f f' h h' expression_start false [])
    (expression : IsDeep depth → Full e e' i i' expression_start false expression_follow) (some_factor : HasSentence h') (some_expression : HasSentence i') where
  negation_laws : Laws (r.negation depth f e) (r.negation (suc depth) f' e') (g.negation depth h i) (g.negation (suc depth) h' i') (kind.NotWord ∷ []) false []
  unfolding r.negation g.negation same_kind
  negation_laws =
      declared_laws (opens depth _ refl (λ start. bind_sentence some_factor (λ operand. pure_sentence _)) (λ deep start. bind_full (factor deep) (λ operand. pure_full _) refl)) refl refl

  parenthesised_laws : Laws (r.parenthesised depth f e) (r.parenthesised (suc depth) f' e') (g.parenthesised depth h i) (g.parenthesised (suc depth) h' i') (kind.LeftParenthesis ∷ []) false []
  unfolding r.parenthesised g.parenthesised same_kind
  parenthesised_laws =
      declared_laws
      (opens depth _ refl (λ start. bind_sentence some_expression (λ operand. either_sentence _ (closing_full _ _).here))
      (λ deep start. bind_full (expression deep)
      (λ operand. branch_full _ (cast_full _ _).laws (closing_full _ _) refl refl) refl))
      refl refl

  factor_of_full : Full (r.factor_of depth f e) (r.factor_of (suc depth) f' e') (g.factor_of depth h i) (g.factor_of (suc depth) h' i') expression_start false []
  unfolding r.factor_of g.factor_of r.any_factor g.any_factor same_kind
  factor_of_full =
      declared (inside_full (branch_full _ negation_laws (branch_full _ parenthesised_laws (branch_full _ number_full.laws variable_name_full refl refl) refl refl) refl refl)) refl refl

factor_of_sentence : (depth : ℕ) (h i : Rule Expr) → HasSentence (g.factor_of depth h i)
unfolding g.factor_of g.any_factor
factor_of_sentence depth h i = inside_sentence (either_sentence _ (either_sentence _ (either_sentence _ variable_name_full.here)))

factor_sentence : (depth : ℕ) → HasSentence (g.factor depth)
factor_sentence zero = factor_of_sentence zero _ _
factor_sentence (suc depth) = factor_of_sentence (suc depth) _ _

-- first ones alone
grouped_sentence : (depth : ℕ) (signs : List Kind) {h : Rule Expr} → HasSentence h → HasSentence (g.grouped depth signs h)
unfolding g.grouped
grouped_sentence depth signs operand = bind_sentence operand (λ first. repeat_sentence _ _)

expression_of_sentence : (depth : ℕ) {h : Rule Expr} → HasSentence h → HasSentence (g.expression_of depth h)
unfolding g.expression_of g.conjunct_of g.comparison_of g.sum_of
expression_of_sentence depth factor =
    inside_sentence (grouped_sentence depth _ (grouped_sentence depth _ (bind_sentence (grouped_sentence depth _ factor) (λ left. either_sentence _ (pure_sentence _)))))

pub factor_full : (depth : ℕ) → Full (r.factor depth) (r.factor (suc depth)) (g.factor depth) (g.factor (suc depth)) expression_start false []
factor_full zero = factor_of_full zero (λ deep. absurd deep) (λ deep. absurd deep) (factor_sentence zero) (expression_of_sentence (suc zero) (factor_sentence zero))
factor_full (suc depth) =
    factor_of_full (suc depth) (λ deep. factor_full depth) (λ deep. expression_of_full (suc depth) (factor_full depth)) (factor_sentence (suc depth))
    (expression_of_sentence (suc (suc depth)) (factor_sentence (suc depth)))

pub expression_full : (depth : ℕ) → Full (r.expression depth) (r.expression (suc depth)) (g.expression depth) (g.expression (suc depth)) expression_start false expression_follow
unfolding r.expression g.expression
expression_full depth = expression_of_full (suc depth) (factor_full depth)

pub expression_sentence : (depth : ℕ) → HasSentence (g.expression depth)
unfolding g.expression
expression_sentence depth = expression_of_sentence (suc depth) (factor_sentence depth)
