-- What a rule of the grammar spells hangs on the kinds of tokens alone: a line for each production.
use Rattle.std.proofs.Common.{◌≡◌, inl, inr, ℕ, zero, suc, true, List, [], ◌∷◌, ◌∙◌, refl, ap, subst, sym}
use Rattle.lexer.specs.declared.token.Kind.{Kind}
use Rattle.lexer.specs.declared.token.Token.{Token}
use Rattle.syntax.specs.declared.command.Action.{Action}
use Rattle.syntax.specs.declared.command.Command.{Command}
use Rattle.syntax.specs.declared.expression.Expr.{Expr}
use Rattle.parser.specs.Input.{Input, input, is_one_of}
use Rattle.parser.specs.Rules.{Rule, bind, pure, take, take_open, either, turns, repeat, inside, nothing}
use Rattle.parser.specs.Grammar as g

-- tokens of the same kinds
abbrev pub AlikeTokens : List Token → List Token → Type 0
AlikeTokens [] [] = Unit {0}
AlikeTokens [] (other ∷ others) = ⊥
AlikeTokens (token ∷ rest) [] = ⊥
AlikeTokens (token ∷ rest) (other ∷ others) = (token.kind ≡ other.kind) × AlikeTokens rest others

abbrev pub Alike : Input → Input → Type 0
Alike i j = (i.levels ≡ j.levels) × AlikeTokens i.tokens j.tokens

-- what the one rule spells, the other spells of tokens of the same kinds
pub record Mirrors {A : Type 0} (rule other : Rule A) : Type 0 where
  pub mirror : (i i' : Input) (a : A) (j : Input) → rule i a j → Alike i i' →
      (a' : A) × (j' : Input) × other i' a' j' × Alike j j'

abbrev pub Blind : {A : Type 0} → Rule A → Type 0
Blind rule = Mirrors rule rule

-- ---- the words in which the grammar is written

pure_mirrors : {A : Type 0} (a a' : A) → Mirrors (pure a) (pure a')
unfolding pure
pure_mirrors a a' = record { mirror = λ i i' b j s like. (a', i', (refl, refl), subst (λ k. Alike k i') s.1 like) }

-- the first of tokens of the same kinds
first_alike : (kinds : List Kind) (token : Token) (rest : List Token) (levels : ℕ) (tokens : List Token)
    → is_one_of kinds token.kind ≡ true → AlikeTokens (token ∷ rest) tokens
    → (token' : Token) × (rest' : List Token) × (is_one_of kinds token'.kind ≡ true)
    × (input levels tokens ≡ input levels (token' ∷ rest')) × AlikeTokens rest rest'
first_alike kinds token rest levels [] is like = absurd like
first_alike kinds token rest levels (token' ∷ rest') is like =
    (token', rest', subst (λ k. is_one_of kinds k ≡ true) like.0 is, refl, like.1)

take_blind : (kinds : List Kind) → Blind (take kinds)
unfolding take
take_blind kinds = record {
  mirror = λ i i' token j s like.
      let here : Alike (input j.levels (token ∷ j.tokens)) i' = subst (λ k. Alike k i') s.1 like in
      let found = first_alike kinds token j.tokens i'.levels i'.tokens s.0 here.1 in
      (found.0, input i'.levels found.1, (found.2, found.3), (here.0, found.4));
}

take_open_blind : (depth : ℕ) (kinds : List Kind) → Blind (take_open depth kinds)
unfolding take_open
take_open_blind zero kinds = record { mirror = λ i i' token j s like. absurd s }
take_open_blind (suc depth) kinds = record {
  mirror = λ i i' token j s like.
      let here : Alike (input (suc j.levels) (token ∷ j.tokens)) i' = subst (λ k. Alike k i') s.1 like in
      let found = first_alike kinds token j.tokens i'.levels i'.tokens s.0 here.1 in (
        found.0,
        input j.levels found.1,
        (found.2, found.3 ∙ ap (λ levels. input levels (found.0 ∷ found.1)) (sym here.0)),
        (refl, found.4),
      );
}

bind_mirrors : {A B : Type 0} {first first' : Rule A} {following following' : A → Rule B} → Mirrors first first'
    → ((a a' : A) → Mirrors (following a) (following' a')) → Mirrors (bind first following) (bind first' following')
unfolding bind
bind_mirrors one other = record {
  mirror = λ i i' b k s like.
      let found = one.mirror i i' s.0 s.1 s.2 like in
      let last = (other s.0 found.0).mirror s.1 found.1 b k s.3 found.3 in
      (last.0, last.1, (found.0, found.1, found.2, last.2), last.3);
}

either_mirrors : {A : Type 0} {first first' second second' : Rule A} → Mirrors first first' → Mirrors second second'
    → Mirrors (either first second) (either first' second')
unfolding either
either_mirrors one other = record {
  mirror = λ i i' a j s like. elim s [
    | inl left ↦ let found = one.mirror i i' a j left like in (found.0, found.1, inl found.2, found.3)
    | inr right ↦ let found = other.mirror i i' a j right like in (found.0, found.1, inr found.2, found.3)
  ];
}

turns_mirrors : {A : Type 0} {turn : A → Rule A} → ((a a' : A) → Mirrors (turn a) (turn a')) → (n : ℕ) (a a' : A)
    → Mirrors (turns turn n a) (turns turn n a')
turns_mirrors one zero a a' = pure_mirrors a a'
turns_mirrors one (suc n) a a' = bind_mirrors (one a a') (λ b b'. turns_mirrors one n b b')

repeat_mirrors : {A : Type 0} {turn : A → Rule A} → ((a a' : A) → Mirrors (turn a) (turn a')) → (a a' : A)
    → Mirrors (repeat turn a) (repeat turn a')
unfolding repeat
repeat_mirrors one a a' = record {
  mirror = λ i i' b j s like.
      let found = (turns_mirrors one s.0 a a').mirror i i' b j s.1 like in
      (found.0, found.1, (s.0, found.2), found.3);
}

inside_blind : {A : Type 0} {rule : Rule A} → Blind rule → Blind (inside rule)
unfolding inside
inside_blind one = record {
  mirror = λ i i' a j s like.
      let found = one.mirror i i' a (input s.0 j.tokens) s.1 like in (
        found.0,
        input i'.levels (found.1).tokens,
        ((found.1).levels, found.2, refl),
        (sym s.2 ∙ like.0, (found.3).1),
      );
}

nothing_blind : {A : Type 0} → Blind (nothing {A = A})
unfolding nothing
nothing_blind = record { mirror = λ i i' a j s like. absurd s }

-- a token, and what is made of it
token_mirrors : {B : Type 0} {following following' : Token → Rule B} (kinds : List Kind)
    → ((a a' : Token) → Mirrors (following a) (following' a')) → Mirrors (bind (take kinds) following) (bind (take kinds) following')
token_mirrors kinds = bind_mirrors (take_blind kinds)

open_mirrors : {B : Type 0} {following following' : Token → Rule B} (depth : ℕ) (kinds : List Kind)
    → ((a a' : Token) → Mirrors (following a) (following' a'))
    → Mirrors (bind (take_open depth kinds) following) (bind (take_open depth kinds) following')
open_mirrors depth kinds = bind_mirrors (take_open_blind depth kinds)

-- ---- items in a row, names and types

module _ {A : Type 0} {item : Rule A} (one : Blind item) where
  several_mirrors : (found found' : List A) → Mirrors (g.several item found) (g.several item found')
  unfolding g.several g.one_more
  several_mirrors found found' = repeat_mirrors (λ a a'. bind_mirrors one (λ b b'. pure_mirrors _ _)) found found'

  behind_blind : (sign : Kind) → Blind (g.behind sign item)
  unfolding g.behind
  behind_blind sign = token_mirrors _ (λ a a'. one)

separated_blind : {A : Type 0} {item : Rule A} → Blind item → (sign : Kind) → Blind (g.separated sign item)
unfolding g.separated
separated_blind one sign = bind_mirrors one (λ a a'. several_mirrors (behind_blind one sign) _ _)

identifier_blind : Blind g.identifier
unfolding g.identifier
identifier_blind = token_mirrors _ (λ a a'. pure_mirrors _ _)

names_blind : Blind g.names
unfolding g.names
names_blind = separated_blind identifier_blind _

width_blind : Blind g.width
unfolding g.width
width_blind = token_mirrors _ (λ a a'. token_mirrors _ (λ b b'. pure_mirrors _ _))

type_name_blind : Blind g.type_name_of
unfolding g.type_name_of g.type_by_width g.type_by_name
type_name_blind = either_mirrors (bind_mirrors width_blind (λ a a'. pure_mirrors _ _))
    (bind_mirrors identifier_blind (λ a a'. pure_mirrors _ _))

type_behind_blind : Blind g.type_behind
unfolding g.type_behind
type_behind_blind = token_mirrors _ (λ a a'. type_name_blind)

labels_blind : Blind g.labels
unfolding g.labels g.label_of g.label_by_number g.label_by_name
labels_blind = separated_blind (either_mirrors (token_mirrors _ (λ a a'. pure_mirrors _ _))
    (bind_mirrors identifier_blind (λ a a'. pure_mirrors _ _))) _

-- ---- expressions

operation_mirrors : (depth : ℕ) (signs : List Kind) {operand : Rule Expr} → Blind operand → (left left' : Expr)
    → Mirrors (g.operation depth signs operand left) (g.operation depth signs operand left')
unfolding g.operation
operation_mirrors depth signs one left left' =
    open_mirrors _ _ (λ a a'. bind_mirrors one (λ b b'. pure_mirrors _ _))

grouped_blind : (depth : ℕ) (signs : List Kind) {operand : Rule Expr} → Blind operand → Blind (g.grouped depth signs operand)
unfolding g.grouped
grouped_blind depth signs one = bind_mirrors one (λ a a'. repeat_mirrors (operation_mirrors depth signs one) a a')

expression_of_blind : (depth : ℕ) {factor : Rule Expr} → Blind factor → Blind (g.expression_of depth factor)
unfolding g.expression_of g.conjunct_of g.comparison_of g.sum_of
expression_of_blind depth one =
    let sum = grouped_blind depth g.sum_signs one in
    let comparison = bind_mirrors sum
    (λ a a'. either_mirrors (operation_mirrors depth g.comparison_signs sum a a') (pure_mirrors a a')) in
    inside_blind (grouped_blind depth g.expression_words (grouped_blind depth g.conjunct_words comparison))

factor_of_blind : (depth : ℕ) {factor expression : Rule Expr} → Blind factor → Blind expression
    → Blind (g.factor_of depth factor expression)
unfolding g.factor_of g.any_factor g.negation g.parenthesised g.cast g.closing g.number g.variable_name
factor_of_blind depth one expression = inside_blind (either_mirrors
    (open_mirrors _ _ (λ a a'. bind_mirrors one (λ b b'. pure_mirrors _ _)))
    (either_mirrors
    (open_mirrors _ _ (λ a a'. bind_mirrors expression (λ b b'. either_mirrors
    (token_mirrors _ (λ c c'. bind_mirrors type_name_blind (λ d d'. token_mirrors _ (λ e e'. pure_mirrors _ _))))
    (token_mirrors _ (λ c c'. pure_mirrors _ _)))))
    (either_mirrors (token_mirrors _ (λ a a'. pure_mirrors _ _))
    (bind_mirrors identifier_blind (λ a a'. pure_mirrors _ _)))))

factor_blind : (depth : ℕ) → Blind (g.factor depth)
factor_blind zero = factor_of_blind zero nothing_blind nothing_blind
factor_blind (suc depth) =
    factor_of_blind (suc depth) (factor_blind depth) (expression_of_blind (suc depth) (factor_blind depth))

expression_blind : (depth : ℕ) → Blind (g.expression depth)
unfolding g.expression
expression_blind depth = expression_of_blind (suc depth) (factor_blind depth)

-- ---- commands

alone_or_joined_blind : (sign : Kind) (make : List Command → Action) {item : Rule Command} → Blind item
    → Blind (g.alone_or_joined sign make item)
unfolding g.alone_or_joined g.joined
alone_or_joined_blind sign make one = bind_mirrors one (λ a a'. either_mirrors
    (bind_mirrors (behind_blind one sign)
    (λ b b'. bind_mirrors (several_mirrors (behind_blind one sign) _ _) (λ c c'. pure_mirrors _ _)))
    (pure_mirrors _ _))

command_of_blind : {simple : Rule Command} → Blind simple → Blind (g.command_of simple)
unfolding g.command_of g.parallel_of
command_of_blind one = alone_or_joined_blind _ _ (alone_or_joined_blind _ _ one)

-- what opens a level, over a command and an expression in it
module _ (depth : ℕ) {beside inner_expression : Rule Expr} {inner_command : Rule Command}
    (around : Blind beside) (expression : Blind inner_expression) (command : Blind inner_command) where
  body_blind : Blind (g.body inner_command inner_expression)
  unfolding g.body
  body_blind = token_mirrors _ (λ a a'. command)

  otherwise_blind : Blind (g.otherwise inner_command inner_expression)
  unfolding g.otherwise g.last_body
  otherwise_blind =
      either_mirrors (token_mirrors _ (λ a a'. bind_mirrors command (λ b b'. pure_mirrors _ _))) (pure_mirrors _ _)

  arm_blind : Blind (g.arm_of inner_command inner_expression)
  unfolding g.arm_of
  arm_blind = bind_mirrors identifier_blind (λ a a'. bind_mirrors body_blind (λ b b'. pure_mirrors _ _))

  looping_blind : Blind (g.looping depth beside inner_command inner_expression)
  unfolding g.looping g.while_loop g.endless
  looping_blind = open_mirrors _ _ (λ a a'. either_mirrors
      (token_mirrors _ (λ b b'. bind_mirrors expression (λ c c'. bind_mirrors body_blind
      (λ d d'. token_mirrors _ (λ e e'. pure_mirrors _ _)))))
      (bind_mirrors command (λ b b'. token_mirrors _ (λ c c'. pure_mirrors _ _))))

  branching_blind : Blind (g.branching depth beside inner_command inner_expression)
  unfolding g.branching g.guarded
  branching_blind = open_mirrors _ _ (λ a a'. bind_mirrors
      (separated_blind (bind_mirrors expression (λ b b'. bind_mirrors body_blind (λ c c'. pure_mirrors _ _))) _)
      (λ b b'. bind_mirrors otherwise_blind (λ c c'. token_mirrors _ (λ d d'. pure_mirrors _ _))))

  casing_blind : Blind (g.casing depth beside inner_command inner_expression)
  unfolding g.casing g.case_arm
  casing_blind = open_mirrors _ _ (λ a a'. bind_mirrors expression (λ v v'. token_mirrors _ (λ o o'. bind_mirrors
      (separated_blind (bind_mirrors labels_blind (λ b b'. bind_mirrors body_blind (λ c c'. pure_mirrors _ _))) _)
      (λ b b'. bind_mirrors otherwise_blind (λ c c'. token_mirrors _ (λ d d'. pure_mirrors _ _))))))

  selecting_blind : Blind (g.selecting depth beside inner_command inner_expression)
  unfolding g.selecting
  selecting_blind = open_mirrors _ _ (λ a a'. bind_mirrors (separated_blind arm_blind _)
      (λ b b'. token_mirrors _ (λ c c'. pure_mirrors _ _)))

  arbitrating_blind : Blind (g.arbitrating depth beside inner_command inner_expression)
  unfolding g.arbitrating
  arbitrating_blind = open_mirrors _ _ (λ a a'. bind_mirrors arm_blind (λ b b'. token_mirrors _
      (λ c c'. bind_mirrors arm_blind (λ d d'. token_mirrors _ (λ e e'. pure_mirrors _ _)))))

  incoming_mirrors : (channel channel' : _)
      → Mirrors (g.incoming depth beside inner_command inner_expression channel)
      (g.incoming depth beside inner_command inner_expression channel')
  unfolding g.incoming g.enclosing g.receiving
  incoming_mirrors channel channel' = token_mirrors _ (λ a a'. either_mirrors
      (open_mirrors _ _ (λ b b'. bind_mirrors command (λ c c'. token_mirrors _ (λ d d'. pure_mirrors _ _))))
      (bind_mirrors identifier_blind (λ b b'. pure_mirrors _ _)))

  named_blind : Blind (g.named depth beside inner_command inner_expression)
  unfolding g.named g.assignment g.sending g.call g.arguments
  named_blind = bind_mirrors identifier_blind (λ a a'. either_mirrors
      (token_mirrors _ (λ b b'. bind_mirrors around (λ c c'. pure_mirrors _ _)))
      (either_mirrors (token_mirrors _ (λ b b'. bind_mirrors around (λ c c'. pure_mirrors _ _)))
      (either_mirrors (incoming_mirrors a a')
      (token_mirrors _ (λ b b'. bind_mirrors (either_mirrors names_blind (pure_mirrors _ _))
      (λ c c'. token_mirrors _ (λ d d'. pure_mirrors _ _)))))))

  simple_of_blind : Blind (g.simple_of depth beside inner_command inner_expression)
  unfolding g.simple_of g.any_simple g.bracketed g.synchronisation g.word
  simple_of_blind = inside_blind (either_mirrors
      (open_mirrors _ _ (λ a a'. bind_mirrors command (λ b b'. token_mirrors _ (λ c c'. pure_mirrors _ _))))
      (either_mirrors looping_blind (either_mirrors branching_blind (either_mirrors casing_blind
      (either_mirrors selecting_blind (either_mirrors arbitrating_blind (either_mirrors
      (token_mirrors _ (λ a a'. bind_mirrors identifier_blind (λ b b'. pure_mirrors _ _)))
      (either_mirrors named_blind (either_mirrors (token_mirrors _ (λ a a'. pure_mirrors _ _))
      (token_mirrors _ (λ a a'. pure_mirrors _ _)))))))))))

simple_blind : (depth : ℕ) → Blind (g.simple depth)
simple_blind zero = simple_of_blind zero (expression_blind zero) nothing_blind nothing_blind
simple_blind (suc depth) =
    simple_of_blind (suc depth) (expression_blind (suc depth)) (expression_blind depth) (command_of_blind (simple_blind depth))

command_blind : (depth : ℕ) → Blind (g.command depth)
unfolding g.command
command_blind depth = command_of_blind (simple_blind depth)

-- ---- declarations

type_declaration_blind : Blind g.type_declaration
unfolding g.type_declaration g.type_definition g.bits g.enumeration
type_declaration_blind = token_mirrors _ (λ a a'. bind_mirrors identifier_blind (λ b b'. token_mirrors _
    (λ c c'. bind_mirrors (either_mirrors (bind_mirrors width_blind (λ d d'. pure_mirrors _ _))
    (token_mirrors _ (λ d d'. bind_mirrors names_blind (λ e e'. token_mirrors _ (λ f f'. pure_mirrors _ _)))))
    (λ d d'. pure_mirrors _ _))))

port_blind : Blind g.port_of
unfolding g.port_of g.input_port g.output_port g.sync_port
port_blind = either_mirrors
    (token_mirrors _ (λ a a'. bind_mirrors names_blind (λ b b'. bind_mirrors type_behind_blind (λ c c'. pure_mirrors _ _))))
    (either_mirrors
    (token_mirrors _ (λ a a'. bind_mirrors names_blind (λ b b'. bind_mirrors type_behind_blind (λ c c'. pure_mirrors _ _))))
    (token_mirrors _ (λ a a'. bind_mirrors names_blind (λ b b'. pure_mirrors _ _))))

ports_blind : Blind g.ports
unfolding g.ports g.port_list
ports_blind = either_mirrors
    (token_mirrors _ (λ a a'. bind_mirrors (separated_blind port_blind _) (λ b b'. token_mirrors _ (λ c c'. pure_mirrors _ _))))
    (pure_mirrors _ _)

local_blind : Blind g.local_of
unfolding g.local_of g.variables g.shared_variables g.channels g.syncs
local_blind = either_mirrors
    (token_mirrors _ (λ a a'. bind_mirrors names_blind (λ b b'. bind_mirrors type_behind_blind (λ c c'. pure_mirrors _ _))))
    (either_mirrors
    (token_mirrors _ (λ z z'. token_mirrors _
    (λ a a'. bind_mirrors names_blind (λ b b'. bind_mirrors type_behind_blind (λ c c'. pure_mirrors _ _)))))
    (either_mirrors
    (token_mirrors _ (λ a a'. bind_mirrors names_blind (λ b b'. bind_mirrors type_behind_blind (λ c c'. pure_mirrors _ _))))
    (token_mirrors _ (λ a a'. bind_mirrors names_blind (λ b b'. pure_mirrors _ _)))))

procedure_blind : (depth : ℕ) → Blind (g.procedure depth)
unfolding g.procedure g.procedure_of g.block
procedure_blind depth = token_mirrors _ (λ a a'. bind_mirrors identifier_blind (λ b b'. bind_mirrors ports_blind
    (λ c c'. token_mirrors _ (λ d d'. bind_mirrors (several_mirrors local_blind _ _) (λ e e'. bind_mirrors
    (token_mirrors _ (λ f f'. bind_mirrors (command_blind depth) (λ h h'. token_mirrors _ (λ i i'. pure_mirrors _ _))))
    (λ f f'. pure_mirrors _ _))))))

pub description_blind : (depth : ℕ) → Blind (g.description depth)
unfolding g.description g.procedures
description_blind depth = bind_mirrors (several_mirrors type_declaration_blind _ _) (λ a a'. bind_mirrors
    (bind_mirrors (procedure_blind depth) (λ b b'. several_mirrors (procedure_blind depth) _ _))
    (λ b b'. pure_mirrors _ _))
