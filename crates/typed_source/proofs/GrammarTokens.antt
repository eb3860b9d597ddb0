-- What a rule of the grammar spells comes of the tokens before it: names that it declares are texts of names there.
use Rattle.std.proofs.Common.{◌≡◌, ◌⊎◌, inl, inr, ℕ, zero, suc, Bool, true, false, ◌||◌, List, [], ◌∷◌, ◌++◌, flat_map, map, refl, ap, sym, subst, ◌∙◌}
use denote.Enum.Bare.{same_true}
use Rattle.lexer.specs.contracts.token.Kind.{the_type}
use Rattle.lexer.specs.declared.token.Kind.{Kind}
use Rattle.lexer.specs.declared.token.Kind.TheVariants as kind
use Rattle.lexer.specs.declared.token.Token.{Token}
use Rattle.parser.specs.Accepted.{Parses, most_levels}
use Rattle.parser.specs.Grammar as g
use Rattle.parser.specs.Input.{Input, input, is_one_of, same_kind}
use Rattle.parser.specs.Rules.{Rule, bind, pure, take, take_open, either, turns, repeat, inside, nothing}
use Rattle.syntax.specs.Lists.{In, Every}
use Rattle.syntax.specs.Texts.{Text}
use Rattle.syntax.specs.declared.span.Span.{Span}
use Rattle.syntax.specs.declared.name.Identifier.{Identifier}
use Rattle.syntax.specs.declared.expression.Expr.{Expr}
use Rattle.syntax.specs.declared.command.Action.{Action}
use Rattle.syntax.specs.declared.command.Command.{Command}
use Rattle.syntax.specs.declared.declaration.Description.{Description}
use Rattle.syntax.specs.declared.declaration.Local.{Local}
use Rattle.syntax.specs.declared.declaration.Port.{Port}
use Rattle.syntax.specs.declared.declaration.Procedure.{Procedure}
use Rattle.types.specs.Laws.{written_names}

-- ---- the words of the grammar

module _ (Good : Token → Type 0) where
  -- what the rule spells is so, where the tokens before it are good, and those behind it are good
  pub record Keeps {A : Type 0} (P : A → Type 0) (rule : Rule A) : Type 0 where
    pub keeps : (i : Input) (a : A) (j : Input) → rule i a j → Every Good i.tokens → P a × Every Good j.tokens

  keeps_bind : {A B : Type 0} {P : A → Type 0} {Q : B → Type 0} {rule : Rule A} {following : A → Rule B} → Keeps P rule
      → ((a : A) → P a → Keeps Q (following a)) → Keeps Q (bind rule following)
  unfolding bind
  keeps_bind first second = record {
    keeps = λ i b k (a, j, one, two) good. let before = first.keeps i a j one good in (second a before.0).keeps j b k two before.1;
  }

  keeps_pure : {A : Type 0} {P : A → Type 0} (a : A) → P a → Keeps P (pure a)
  unfolding pure
  keeps_pure {P = P} a is = record { keeps = λ i b j (same, stays) good. (subst P same is, subst (λ (x : Input). Every Good x.tokens) stays good) }

  -- a token of one of these kinds
  abbrev Of : List Kind → Token → Type 0
  Of kinds token = (is_one_of kinds token.kind ≡ true) × Good token

  keeps_take : (kinds : List Kind) → Keeps (Of kinds) (take kinds)
  unfolding take
  keeps_take kinds = record {
    keeps = λ i token j (is, all) good. let both : Every Good (token ∷ j.tokens) = subst (λ (x : Input). Every Good x.tokens) all good in ((is, both.0), both.1);
  }

  keeps_either : {A : Type 0} {P : A → Type 0} {first second : Rule A} → Keeps P first → Keeps P second → Keeps P (either first second)
  unfolding either
  keeps_either one two = record {
    keeps = λ i a j spelled good. elim spelled [ inl x ↦ one.keeps i a j x good | inr y ↦ two.keeps i a j y good ];
  }

  keeps_turns : {A : Type 0} {P : A → Type 0} {turn : A → Rule A} → ((a : A) → P a → Keeps P (turn a)) → (n : ℕ) (a : A) → P a → Keeps P (turns turn n a)
  keeps_turns each zero a is = keeps_pure a is
  keeps_turns each (suc n) a is = keeps_bind (each a is) (λ b so. keeps_turns each n b so)

  keeps_repeat : {A : Type 0} {P : A → Type 0} {turn : A → Rule A} → ((a : A) → P a → Keeps P (turn a)) → (a : A) → P a → Keeps P (repeat turn a)
  unfolding repeat
  keeps_repeat each a is = record { keeps = λ i b j (n, spelled) good. (keeps_turns each n a is).keeps i b j spelled good }

  every_more : {A : Type 0} (P : A → Type 0) (xs : List A) (x : A) → Every P xs → P x → Every P (xs ++ x ∷ [])
  every_more P [] x all is = (is, tt)
  every_more P (y ∷ xs) x all is = (all.0, every_more P xs x all.1 is)

  keeps_several : {A : Type 0} {P : A → Type 0} {item : Rule A} → Keeps P item → (found : List A) → Every P found → Keeps (Every P) (g.several item found)
  unfolding g.several g.one_more
  keeps_several {P = P} item found all =
      keeps_repeat (λ before is. keeps_bind item (λ another so. keeps_pure _ (every_more P before another is so))) found all

  -- ---- rules of which nothing is said but that they read on

  abbrev Any : {A : Type 0} → A → Type 0
  Any a = Unit {0}

  abbrev Goes : {A : Type 0} → Rule A → Type 0
  Goes rule = Keeps Any rule

  goes : {A : Type 0} {P : A → Type 0} {rule : Rule A} → Keeps P rule → Goes rule
  goes h = record { keeps = λ i a j spelled good. (tt, (h.keeps i a j spelled good).1) }

  infixr 5 ◌then◌
  ◌then◌ : {A B : Type 0} {rule : Rule A} {following : A → Rule B} → Goes rule → ((a : A) → Goes (following a)) → Goes (bind rule following)
  first then second = keeps_bind first (λ a is. second a)

  done : {A : Type 0} (a : A) → Goes (pure a)
  done a = keeps_pure a tt

  one : (kinds : List Kind) → Goes (take kinds)
  one kinds = goes (keeps_take kinds)

  open_one : (depth : ℕ) (kinds : List Kind) → Goes (take_open depth kinds)
  unfolding take_open
  open_one zero kinds = record { keeps = λ i token j spelled good. absurd spelled }
  open_one (suc depth) kinds = record {
    keeps = λ i token j (is, all) good. let both : Every Good (token ∷ j.tokens) = subst (λ (x : Input). Every Good x.tokens) all good in (tt, both.1);
  }

  within : {A : Type 0} {rule : Rule A} → Goes rule → Goes (inside rule)
  unfolding inside
  within h = record { keeps = λ i a j (unclosed, spelled, levels) good. h.keeps i a (input unclosed j.tokens) spelled good }

  none : {A : Type 0} → Goes (nothing {A = A})
  unfolding nothing
  none = record { keeps = λ i a j spelled good. absurd spelled }

  row : {A : Type 0} {item : Rule A} → Goes item → (found : List A) → Goes (g.several item found)
  unfolding g.several g.one_more
  row item found = keeps_repeat (λ before is. item then λ another. done _) found tt

  sign_and : {A : Type 0} {item : Rule A} (sign : Kind) → Goes item → Goes (g.behind sign item)
  unfolding g.behind
  sign_and sign item = one _ then λ _. item

  row_by : {A : Type 0} {item : Rule A} (sign : Kind) → Goes item → Goes (g.separated sign item)
  unfolding g.separated
  row_by sign item = item then λ first. row (sign_and sign item) _

  -- ---- names and types

  identifier_goes : Goes g.identifier
  unfolding g.identifier
  identifier_goes = one _ then λ token. done _

  names_go : Goes g.names
  unfolding g.names
  names_go = row_by _ identifier_goes

  width_goes : Goes g.width
  unfolding g.width
  width_goes = one _ then λ token. one _ then λ _. done _

  type_name_goes : Goes g.type_name_of
  unfolding g.type_name_of g.type_by_width g.type_by_name
  type_name_goes = keeps_either (width_goes then λ bits. done _) (identifier_goes then λ name. done _)

  type_behind_goes : Goes g.type_behind
  unfolding g.type_behind
  type_behind_goes = one _ then λ _. type_name_goes

  labels_go : Goes g.labels
  unfolding g.labels g.label_of g.label_by_number g.label_by_name
  labels_go = row_by _ (keeps_either (one _ then λ token. done _) (identifier_goes then λ name. done _))

  -- ---- expressions

  operation_goes : {operand : Rule Expr} (depth : ℕ) (signs : List Kind) (left : Expr) → Goes operand → Goes (g.operation depth signs operand left)
  unfolding g.operation
  operation_goes depth signs left operand = open_one depth _ then λ sign. operand then λ right. done _

  grouped_goes : {operand : Rule Expr} (depth : ℕ) (signs : List Kind) → Goes operand → Goes (g.grouped depth signs operand)
  unfolding g.grouped
  grouped_goes depth signs operand = operand then λ first. keeps_repeat (λ left is. operation_goes depth signs left operand) first tt

  module _ (depth : ℕ) {factor : Rule Expr} (factor_goes : Goes factor) where
    sum_goes : Goes (g.sum_of depth factor)
    unfolding g.sum_of
    sum_goes = grouped_goes depth _ factor_goes

    comparison_goes : Goes (g.comparison_of depth factor)
    unfolding g.comparison_of
    comparison_goes = sum_goes then λ left. keeps_either (operation_goes depth _ left sum_goes) (done _)

    conjunct_goes : Goes (g.conjunct_of depth factor)
    unfolding g.conjunct_of
    conjunct_goes = grouped_goes depth _ comparison_goes

    whole_goes : Goes (g.expression_of depth factor)
    unfolding g.expression_of
    whole_goes = within (grouped_goes depth _ conjunct_goes)

  module _ (depth : ℕ) {inner_factor inner_expression : Rule Expr} (factor_goes : Goes inner_factor) (expression_goes : Goes inner_expression) where
    factor_of_goes : Goes (g.factor_of depth inner_factor inner_expression)
    unfolding g.factor_of g.any_factor g.negation g.parenthesised g.cast g.closing g.number g.variable_name
    factor_of_goes =
        within
        (keeps_either (open_one depth _ then λ start. factor_goes then λ operand. done _)
        (keeps_either
        (open_one depth _ then λ start. expression_goes then λ operand.
        keeps_either (one _ then λ _. type_name_goes then λ to. one _ then λ stop. done _) (one _ then λ stop. done _))
        (keeps_either (one _ then λ token. done _) (identifier_goes then λ name. done _))))

  factor_goes : (depth : ℕ) → Goes (g.factor depth)
  factor_goes zero = factor_of_goes zero none none
  factor_goes (suc depth) = factor_of_goes (suc depth) (factor_goes depth) (whole_goes (suc depth) (factor_goes depth))

  expression_goes : (depth : ℕ) → Goes (g.expression depth)
  unfolding g.expression
  expression_goes depth = whole_goes (suc depth) (factor_goes depth)

  -- ---- commands

  joined_goes : {item : Rule Command} (sign : Kind) (make : List Command → Action) → Goes item → Goes (g.alone_or_joined sign make item)
  unfolding g.alone_or_joined g.joined
  joined_goes sign make item = item then λ first. keeps_either (sign_and sign item then λ second. row (sign_and sign item) _ then λ children. done _) (done _)

  command_of_goes : {simple : Rule Command} → Goes simple → Goes (g.command_of simple)
  unfolding g.command_of g.parallel_of
  command_of_goes simple = joined_goes _ _ (joined_goes _ _ simple)

  module _ {command : Rule Command} {expression : Rule Expr} (command_goes : Goes command) (expression_goes : Goes expression) where
    body_goes : Goes (g.body command expression)
    unfolding g.body
    body_goes = one _ then λ _. command_goes

    otherwise_goes : Goes (g.otherwise command expression)
    unfolding g.otherwise g.last_body
    otherwise_goes = keeps_either (one _ then λ _. command_goes then λ last. done _) (done _)

    arm_goes : Goes (g.arm_of command expression)
    unfolding g.arm_of
    arm_goes = identifier_goes then λ channel. body_goes then λ chosen. done _

    while_goes : (start : Span) → Goes (g.while_loop command expression start)
    unfolding g.while_loop
    while_goes start = one _ then λ _. expression_goes then λ guard. body_goes then λ repeated. one _ then λ stop. done _

    endless_goes : (start : Span) → Goes (g.endless command expression start)
    unfolding g.endless
    endless_goes start = command_goes then λ repeated. one _ then λ stop. done _

    guarded_goes : Goes (g.guarded command expression)
    unfolding g.guarded
    guarded_goes = expression_goes then λ guard. body_goes then λ chosen. done _

    case_arm_goes : Goes (g.case_arm command expression)
    unfolding g.case_arm
    case_arm_goes = labels_go then λ given. body_goes then λ chosen. done _

  module _ (depth : ℕ) {expression : Rule Expr} {command : Rule Command} {inner : Rule Expr}
      (here : Goes expression) (command_goes : Goes command) (inner_goes : Goes inner)
    where
      bracketed_goes : Goes (g.bracketed depth expression command inner)
      unfolding g.bracketed
      bracketed_goes = open_one depth _ then λ _. command_goes then λ held. one _ then λ _. done _

      looping_goes : Goes (g.looping depth expression command inner)
      unfolding g.looping
      looping_goes =
          open_one depth _ then λ start.
          keeps_either (while_goes command_goes inner_goes start.span) (endless_goes command_goes inner_goes start.span)

      branching_goes : Goes (g.branching depth expression command inner)
      unfolding g.branching
      branching_goes =
          open_one depth _ then λ start. row_by _ (guarded_goes command_goes inner_goes) then λ arms.
          otherwise_goes command_goes inner_goes then λ last. one _ then λ stop. done _

      casing_goes : Goes (g.casing depth expression command inner)
      unfolding g.casing
      casing_goes =
          open_one depth _ then λ start. inner_goes then λ value. one _ then λ _. row_by _ (case_arm_goes command_goes inner_goes) then λ arms.
          otherwise_goes command_goes inner_goes then λ last. one _ then λ stop. done _

      selecting_goes : Goes (g.selecting depth expression command inner)
      unfolding g.selecting
      selecting_goes = open_one depth _ then λ start. row_by _ (arm_goes command_goes inner_goes) then λ arms. one _ then λ stop. done _

      arbitrating_goes : Goes (g.arbitrating depth expression command inner)
      unfolding g.arbitrating
      arbitrating_goes =
          open_one depth _ then λ start. arm_goes command_goes inner_goes then λ first. one _ then λ _.
          arm_goes command_goes inner_goes then λ second. one _ then λ stop. done _

      incoming_goes : (channel : Identifier) → Goes (g.incoming depth expression command inner channel)
      unfolding g.incoming g.enclosing g.receiving
      incoming_goes channel =
          one _ then λ _. keeps_either (open_one depth _ then λ _. command_goes then λ held. one _ then λ stop. done _) (identifier_goes then λ variable. done _)

      call_goes : (procedure : Identifier) → Goes (g.call procedure)
      unfolding g.call g.arguments
      call_goes procedure = one _ then λ _. keeps_either names_go (done _) then λ given. one _ then λ stop. (done _)

      named_goes : Goes (g.named depth expression command inner)
      unfolding g.named g.assignment g.sending
      named_goes =
          identifier_goes then λ name.
          keeps_either (one _ then λ _. here then λ value. done _)
          (keeps_either (one _ then λ _. here then λ value. done _) (keeps_either (incoming_goes name) (call_goes name)))

      simple_of_goes : Goes (g.simple_of depth expression command inner)
      unfolding g.simple_of g.any_simple g.word g.synchronisation
      simple_of_goes =
          within
          (keeps_either bracketed_goes (keeps_either looping_goes (keeps_either branching_goes (keeps_either casing_goes
          (keeps_either selecting_goes (keeps_either arbitrating_goes (keeps_either (one _ then λ start. identifier_goes then λ channel. done _)
          (keeps_either named_goes (keeps_either (one _ then λ token. done _) (one _ then λ token. done _))))))))))

  simple_goes : (depth : ℕ) → Goes (g.simple depth)
  simple_goes zero = simple_of_goes zero (expression_goes zero) none none
  simple_goes (suc depth) =
      simple_of_goes (suc depth) (expression_goes (suc depth)) (command_of_goes (simple_goes depth)) (expression_goes depth)

  block_goes : (depth : ℕ) → Goes (g.block depth)
  unfolding g.block g.command
  block_goes depth = one _ then λ _. command_of_goes (simple_goes depth) then λ held. one _ then λ _. done _

  type_declaration_goes : Goes g.type_declaration
  unfolding g.type_declaration g.type_definition g.bits g.enumeration
  type_declaration_goes =
      one _ then λ _. identifier_goes then λ name. one _ then λ _.
      keeps_either (width_goes then λ given. done _) (one _ then λ _. names_go then λ elements. one _ then λ _. done _) then λ given. (done _)

-- ---- the names that are declared

named_kind : (k : Kind) → is_one_of (kind.Name ∷ []) k ≡ true → k ≡ kind.Name
unfolding same_kind
named_kind k e = same_true the_type tt k kind.Name (first (same_kind k kind.Name) e)
  where
    first : (a : Bool) → a || false ≡ true → a ≡ true
    first true h = refl
    first false h = h

-- Names of tokens are so.
module _ (P : Text → Type 0) where
  abbrev pub NamesAre : Token → Type 0
  NamesAre token = token.kind ≡ kind.Name → P token.text

  abbrev IsSo : Identifier → Type 0
  IsSo name = P name.name

  abbrev pub AreSo : List Identifier → Type 0
  AreSo names = Every IsSo names

  identifier_so : Keeps NamesAre IsSo g.identifier
  unfolding g.identifier
  identifier_so = keeps_bind NamesAre (keeps_take NamesAre _) (λ token (is, good). keeps_pure NamesAre _ (good (named_kind token.kind is)))

  names_so : Keeps NamesAre AreSo g.names
  unfolding g.names g.separated g.behind
  names_so =
      keeps_bind NamesAre identifier_so (λ first so.
      keeps_several NamesAre (keeps_bind NamesAre (keeps_take NamesAre _) (λ _ _. identifier_so)) (first ∷ []) (so, tt))

  abbrev PortIsSo : Port → Type 0
  PortIsSo p = AreSo p.names

  abbrev LocalIsSo : Local → Type 0
  LocalIsSo l = AreSo l.names

  port_so : Keeps NamesAre PortIsSo g.port_of
  unfolding g.port_of g.input_port g.output_port g.sync_port
  port_so =
      keeps_either NamesAre
      (keeps_bind NamesAre (keeps_take NamesAre _) (λ _ _. keeps_bind NamesAre names_so (λ names so. keeps_bind NamesAre (type_behind_goes NamesAre) (λ type _. keeps_pure NamesAre _ so))))
      (keeps_either NamesAre
      (keeps_bind NamesAre (keeps_take NamesAre _) (λ _ _. keeps_bind NamesAre names_so (λ names so. keeps_bind NamesAre (type_behind_goes NamesAre) (λ type _. keeps_pure NamesAre _ so))))
      (keeps_bind NamesAre (keeps_take NamesAre _) (λ _ _. keeps_bind NamesAre names_so (λ names so. keeps_pure NamesAre _ so))))

  ports_so : Keeps NamesAre (Every PortIsSo) g.ports
  unfolding g.ports g.port_list g.separated g.behind
  ports_so =
      keeps_either NamesAre
      (keeps_bind NamesAre (keeps_take NamesAre _) (λ _ _.
      keeps_bind NamesAre
      (keeps_bind NamesAre port_so (λ first so.
      keeps_several NamesAre (keeps_bind NamesAre (keeps_take NamesAre _) (λ _ _. port_so)) (first ∷ []) (so, tt)))
      (λ declared so. keeps_bind NamesAre (keeps_take NamesAre _) (λ _ _. keeps_pure NamesAre _ so))))
      (keeps_pure NamesAre _ tt)

  local_so : Keeps NamesAre LocalIsSo g.local_of
  unfolding g.local_of g.variables g.shared_variables g.channels g.syncs
  local_so =
      keeps_either NamesAre
      (keeps_bind NamesAre (keeps_take NamesAre _) (λ _ _. keeps_bind NamesAre names_so (λ names so. keeps_bind NamesAre (type_behind_goes NamesAre) (λ type _. keeps_pure NamesAre _ so))))
      (keeps_either NamesAre
      (keeps_bind NamesAre (keeps_take NamesAre _) (λ _ _. keeps_bind NamesAre (keeps_take NamesAre _) (λ _ _.
      keeps_bind NamesAre names_so (λ names so. keeps_bind NamesAre (type_behind_goes NamesAre) (λ type _. keeps_pure NamesAre _ so)))))
      (keeps_either NamesAre
      (keeps_bind NamesAre (keeps_take NamesAre _) (λ _ _. keeps_bind NamesAre names_so (λ names so. keeps_bind NamesAre (type_behind_goes NamesAre) (λ type _. keeps_pure NamesAre _ so))))
      (keeps_bind NamesAre (keeps_take NamesAre _) (λ _ _. keeps_bind NamesAre names_so (λ names so. keeps_pure NamesAre _ so)))))

  abbrev pub ProcedureIsSo : Procedure → Type 0
  ProcedureIsSo p = Every P (written_names p)

  texts_so : (names : List Identifier) → AreSo names → Every P (map (λ (name : Identifier). name.name) names)
  texts_so [] so = tt
  texts_so (n ∷ names) so = (so.0, texts_so names so.1)

  every_append : (xs ys : List Text) → Every P xs → Every P ys → Every P (xs ++ ys)
  every_append [] ys a b = b
  every_append (x ∷ xs) ys a b = (a.0, every_append xs ys a.1 b)

  all_so : {X : Type 0} (names : X → List Identifier) (xs : List X) → Every (λ x. AreSo (names x)) xs
      → Every P (flat_map (λ x. map (λ (name : Identifier). name.name) (names x)) xs)
  all_so names [] so = tt
  all_so names (x ∷ xs) so = every_append _ _ (texts_so (names x) so.0) (all_so names xs so.1)

  procedure_so : (depth : ℕ) → Keeps NamesAre ProcedureIsSo (g.procedure depth)
  unfolding g.procedure g.procedure_of
  procedure_so depth =
      keeps_bind NamesAre (keeps_take NamesAre _) (λ _ _.
      keeps_bind NamesAre identifier_so (λ name _.
      keeps_bind NamesAre ports_so (λ ports ports_are.
      keeps_bind NamesAre (keeps_take NamesAre _) (λ _ _.
      keeps_bind NamesAre (keeps_several NamesAre local_so [] tt) (λ locals locals_are.
      keeps_bind NamesAre (block_goes NamesAre depth) (λ held _.
      keeps_pure NamesAre _
      (every_append _ _ (all_so (λ (p : Port). p.names) ports ports_are) (all_so (λ (l : Local). l.names) locals locals_are))))))))

  abbrev DescriptionIsSo : Description → Type 0
  DescriptionIsSo d = Every ProcedureIsSo d.procedures

  description_so : (depth : ℕ) → Keeps NamesAre DescriptionIsSo (g.description depth)
  unfolding g.description g.procedures
  description_so depth =
      keeps_bind NamesAre (row NamesAre (type_declaration_goes NamesAre) []) (λ types _.
      keeps_bind NamesAre
      (keeps_bind NamesAre (procedure_so depth) (λ first so. keeps_several NamesAre (procedure_so depth) (first ∷ []) (so, tt)))
      (λ procedures so. keeps_pure NamesAre _ so))

  -- what all names among the tokens are, the names are that a description declares
  pub parsed_so : (tokens : List Token) (d : Description) → Parses tokens d → Every NamesAre tokens → Every ProcedureIsSo d.procedures
  parsed_so tokens d spells good =
      ((description_so most_levels).keeps (input most_levels tokens) d (input spells.unclosed spells.rest) spells.spelled good).0
