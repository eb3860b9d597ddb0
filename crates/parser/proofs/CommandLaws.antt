-- The laws of commands.
use Rattle.std.proofs.Common.{◌≡◌, ℕ, zero, suc, true, false, List, [], ◌∷◌, refl}
use Rattle.lexer.specs.declared.token.Kind.{Kind}
use Rattle.lexer.specs.declared.token.Kind.TheVariants as kind
use Rattle.lexer.specs.declared.token.Kind.TheVariants.{End}
use Rattle.syntax.specs.declared.span.Span.{Span}
use Rattle.syntax.specs.declared.name.Identifier.{Identifier}
use Rattle.syntax.specs.declared.expression.Expr.{Expr}
use Rattle.syntax.specs.declared.command.Command.{Command}
use Rattle.syntax.specs.declared.command.Action.{Action}
use Rattle.syntax.specs.declared.command.Action.TheVariants as action
use Rattle.parser.specs.Input.{is_one_of, same_kind}
use Rattle.parser.specs.Rules.{Rule}
use Rattle.parser.specs.internal.Readers.{Reader}
use Rattle.parser.specs.Grammar as g
use Rattle.parser.specs.internal.Reading as r
use Rattle.parser.proofs.Laws.{HasSentence, Laws, Full}
use Rattle.parser.proofs.BindLaws.{bind_full, bind_sentence}
use Rattle.parser.proofs.TakeLaws.{pure_full, pure_sentence, take_full, take_sentence}
use Rattle.parser.proofs.OpenLaws.{IsDeep, opens}
use Rattle.parser.proofs.ChoiceLaws.{branch_full, inside_full, declared, declared_laws, either_sentence, inside_sentence}
use Rattle.parser.proofs.ListLaws.{identifier_full, names_full, labels_full, several_full, separated_full, separated_sentence, behind_full}
use Rattle.parser.proofs.ExpressionLaws.{expression_start, expression_follow, expression_full, expression_sentence}

-- what a command begins with
abbrev pub command_start : List Kind
command_start =
    kind.LeftBracket ∷ kind.LoopWord ∷ kind.IfWord ∷ kind.CaseWord ∷ kind.SelectWord ∷ kind.ArbitrateWord ∷ kind.SyncWord ∷ kind.Name ∷ kind.ContinueWord ∷ kind.HaltWord ∷ []

-- what a command goes on with
abbrev pub parallel_follow : List Kind
parallel_follow = kind.DoubleBar ∷ expression_follow

abbrev pub command_follow : List Kind
command_follow = kind.Semicolon ∷ parallel_follow

word_full : (spelled : Kind) → is_one_of (spelled ∷ []) End ≡ false → is_one_of (spelled ∷ []) spelled ≡ true → (action : Action) →
    Full (r.word spelled action) (r.word spelled action) (g.word spelled action) (g.word spelled action) (spelled ∷ []) false []
unfolding r.word g.word
word_full spelled ends is action = bind_full (take_full _ _ ends is) (λ token. pure_full _) refl

synchronisation_full : Full r.synchronisation r.synchronisation g.synchronisation g.synchronisation (kind.SyncWord ∷ []) false []
unfolding r.synchronisation g.synchronisation same_kind
synchronisation_full = declared (bind_full (take_full _ _ refl refl) (λ start. bind_full identifier_full (λ channel. pure_full _) refl) refl) refl refl

receiving_full : (channel : Identifier) → Full (r.receiving channel) (r.receiving channel) (g.receiving channel) (g.receiving channel) (kind.Name ∷ []) false []
unfolding r.receiving g.receiving same_kind
receiving_full channel = declared (bind_full identifier_full (λ variable. pure_full _) refl) refl refl

arguments_full : Full r.arguments r.arguments g.arguments g.arguments (kind.Name ∷ []) true (kind.Comma ∷ kind.Name ∷ [])
unfolding r.arguments g.arguments same_kind
arguments_full = declared (branch_full _ names_full.laws (pure_full _) refl refl) refl refl

call_full : (procedure : Identifier) → Full (r.call procedure) (r.call procedure) (g.call procedure) (g.call procedure) (kind.LeftParenthesis ∷ []) false []
unfolding r.call g.call same_kind
call_full procedure =
    declared (bind_full (take_full _ _ refl refl) (λ _. bind_full arguments_full (λ given. bind_full (take_full _ _ refl refl) (λ stop. pure_full _) refl) refl) refl) refl refl

module _ {e e' : Reader Expr} {i i' : Rule Expr} (expression : Full e e' i i' expression_start false expression_follow) where
  assignment_full : (variable : Identifier) → Full (r.assignment e variable) (r.assignment e' variable) (g.assignment i variable) (g.assignment i' variable) (kind.AssignSign ∷ []) false expression_follow
  unfolding r.assignment g.assignment same_kind
  assignment_full variable = declared (bind_full (take_full _ _ refl refl) (λ _. bind_full expression (λ value. pure_full _) refl) refl) refl refl

  sending_full : (channel : Identifier) → Full (r.sending e channel) (r.sending e' channel) (g.sending i channel) (g.sending i' channel) (kind.SendSign ∷ []) false expression_follow
  unfolding r.sending g.sending same_kind
  sending_full channel = declared (bind_full (take_full _ _ refl refl) (λ _. bind_full expression (λ value. pure_full _) refl) refl) refl refl

-- ---- commands with a sign between them

module _ {c c' : Reader Command} {h h' : Rule Command} where
  parallel_full : Full c c' h h' command_start false expression_follow → Full (r.parallel_of c) (r.parallel_of c') (g.parallel_of h) (g.parallel_of h') command_start false parallel_follow
  unfolding r.parallel_of g.parallel_of r.alone_or_joined g.alone_or_joined r.joined g.joined same_kind
  parallel_full simple =
      declared
      (bind_full simple (λ first. branch_full _
      (bind_full (behind_full simple kind.DoubleBar refl refl) (λ second. bind_full (several_full (behind_full simple kind.DoubleBar refl refl) _ refl refl refl _) (λ children. pure_full _) refl) refl).laws
      (pure_full _) refl refl) refl)
      refl refl

  sequence_full : Full c c' h h' command_start false parallel_follow →
      Full (r.alone_or_joined kind.Semicolon action.Sequence c) (r.alone_or_joined kind.Semicolon action.Sequence c') (g.alone_or_joined kind.Semicolon action.Sequence h) (g.alone_or_joined kind.Semicolon action.Sequence h')
      command_start false command_follow
  unfolding r.alone_or_joined g.alone_or_joined r.joined g.joined same_kind
  sequence_full parallel =
      declared
      (bind_full parallel (λ first. branch_full _
      (bind_full (behind_full parallel kind.Semicolon refl refl) (λ second. bind_full (several_full (behind_full parallel kind.Semicolon refl refl) _ refl refl refl _) (λ children. pure_full _) refl) refl).laws
      (pure_full _) refl refl) refl)
      refl refl

pub command_of_full :
    {c c' : Reader Command} {h h' : Rule Command} → Full c c' h h' command_start false expression_follow → Full (r.command_of c) (r.command_of c') (g.command_of h) (g.command_of h') command_start false command_follow
unfolding r.command_of g.command_of
command_of_full simple = sequence_full (parallel_full simple)

alone_or_joined_sentence : (sign : Kind) (make : List Command → Action) {h : Rule Command} → HasSentence h → HasSentence (g.alone_or_joined sign make h)
unfolding g.alone_or_joined
alone_or_joined_sentence sign make item = bind_sentence item (λ first. either_sentence _ (pure_sentence _))

pub command_of_sentence : {h : Rule Command} → HasSentence h → HasSentence (g.command_of h)
unfolding g.command_of g.parallel_of
command_of_sentence simple = alone_or_joined_sentence _ _ (alone_or_joined_sentence _ _ simple)

-- ---- the parts of what opens a level

module _ {c c' : Reader Command} {e e' : Reader Expr} {h h' : Rule Command} {i i' : Rule Expr} (command : Full c c' h h' command_start false command_follow)
    (expression : Full e e' i i' expression_start false expression_follow) where
  body_full : Full (r.body c e) (r.body c' e') (g.body h i) (g.body h' i') (kind.ThenWord ∷ []) false command_follow
  unfolding r.body g.body same_kind
  body_full = declared (bind_full (take_full _ _ refl refl) (λ _. command) refl) refl refl

  last_body_full : Full (r.last_body c e) (r.last_body c' e') (g.last_body h i) (g.last_body h' i') (kind.ElseWord ∷ []) false command_follow
  unfolding r.last_body g.last_body same_kind
  last_body_full = declared (bind_full (take_full _ _ refl refl) (λ _. bind_full command (λ last. pure_full _) refl) refl) refl refl

  otherwise_full : Full (r.otherwise c e) (r.otherwise c' e') (g.otherwise h i) (g.otherwise h' i') (kind.ElseWord ∷ []) true (kind.ElseWord ∷ command_follow)
  unfolding r.otherwise g.otherwise same_kind
  otherwise_full = declared (branch_full _ last_body_full.laws (pure_full _) refl refl) refl refl

  while_loop_full : (start : Span) → Full (r.while_loop c e start) (r.while_loop c' e' start) (g.while_loop h i start) (g.while_loop h' i' start) (kind.WhileWord ∷ []) false []
  unfolding r.while_loop g.while_loop same_kind
  while_loop_full start =
      declared
      (bind_full (take_full _ _ refl refl) (λ _. bind_full expression (λ guard. bind_full body_full (λ repeated. bind_full (take_full _ _ refl refl) (λ stop. pure_full _) refl) refl) refl) refl)
      refl refl

  endless_full : (start : Span) → Full (r.endless c e start) (r.endless c' e' start) (g.endless h i start) (g.endless h' i' start) command_start false []
  unfolding r.endless g.endless same_kind
  endless_full start = declared (bind_full command (λ repeated. bind_full (take_full _ _ refl refl) (λ stop. pure_full _) refl) refl) refl refl

  guarded_full : Full (r.guarded c e) (r.guarded c' e') (g.guarded h i) (g.guarded h' i') expression_start false command_follow
  unfolding r.guarded g.guarded same_kind
  guarded_full = declared (bind_full expression (λ guard. bind_full body_full (λ chosen. pure_full _) refl) refl) refl refl

  case_arm_full : Full (r.case_arm c e) (r.case_arm c' e') (g.case_arm h i) (g.case_arm h' i') (kind.Number ∷ kind.Name ∷ []) false command_follow
  unfolding r.case_arm g.case_arm same_kind
  case_arm_full = declared (bind_full labels_full (λ given. bind_full body_full (λ chosen. pure_full _) refl) refl) refl refl

  arm_full : Full (r.arm_of c e) (r.arm_of c' e') (g.arm_of h i) (g.arm_of h' i') (kind.Name ∷ []) false command_follow
  unfolding r.arm_of g.arm_of same_kind
  arm_full = declared (bind_full identifier_full (λ channel. bind_full body_full (λ chosen. pure_full _) refl) refl) refl refl

module _ {h : Rule Command} {i : Rule Expr} (command : HasSentence h) (expression : HasSentence i) where
  body_sentence : HasSentence (g.body h i)
  unfolding g.body same_kind
  body_sentence = bind_sentence (take_sentence _ _ refl) (λ _. command)

  otherwise_sentence : HasSentence (g.otherwise h i)
  unfolding g.otherwise
  otherwise_sentence = either_sentence _ (pure_sentence _)

  endless_sentence : (start : Span) → HasSentence (g.endless h i start)
  unfolding g.endless same_kind
  endless_sentence start = bind_sentence command (λ repeated. bind_sentence (take_sentence _ _ refl) (λ stop. pure_sentence _))

  guarded_sentence : HasSentence (g.guarded h i)
  unfolding g.guarded
  guarded_sentence = bind_sentence expression (λ guard. bind_sentence body_sentence (λ chosen. pure_sentence _))

  case_arm_sentence : HasSentence (g.case_arm h i)
  unfolding g.case_arm
  case_arm_sentence = bind_sentence labels_full.here (λ given. bind_sentence body_sentence (λ chosen. pure_sentence _))

  arm_sentence : HasSentence (g.arm_of h i)
  unfolding g.arm_of
  arm_sentence = bind_sentence identifier_full.here (λ channel. bind_sentence body_sentence (λ chosen. pure_sentence _))

-- ---- what a command begins with, over the laws of what stands a level deeper, where there is such a level

module _ (depth : ℕ) {b b' : Reader Expr} {c c' : Reader Command} {e e' : Reader Expr} {l l' : Rule Expr} {h h' : Rule Command} {i i' : Rule Expr}
    (beside : Full b b' l l' expression_start false expression_follow) (command : IsDeep depth → Full c c' h h' command_start false command_follow)
    (expression : IsDeep depth → Full e e' i i' expression_start false expression_follow) (some_command : HasSentence h') (some_expression : HasSentence i') where
  bracketed_laws : Laws (r.bracketed depth b c e) (r.bracketed (suc depth) b' c' e') (g.bracketed depth l h i) (g.bracketed (suc depth) l' h' i') (kind.LeftBracket ∷ []) false []
  unfolding r.bracketed g.bracketed same_kind
  bracketed_laws =
      declared_laws
      (opens depth _ refl (λ start. bind_sentence some_command (λ held. bind_sentence (take_sentence _ _ refl) (λ _. pure_sentence _)))
      (λ deep start. bind_full (command deep) (λ held. bind_full (take_full _ _ refl refl) (λ _. pure_full _) refl) refl))
      refl refl

  looping_laws : Laws (r.looping depth b c e) (r.looping (suc depth) b' c' e') (g.looping depth l h i) (g.looping (suc depth) l' h' i') (kind.LoopWord ∷ []) false []
  unfolding r.looping g.looping same_kind
  looping_laws =
      declared_laws
      (opens depth _ refl (λ start. either_sentence _ (endless_sentence some_command some_expression _))
      (λ deep start. branch_full _ (while_loop_full (command deep) (expression deep) _).laws (endless_full (command deep) (expression deep) _) refl refl))
      refl refl

  branching_laws : Laws (r.branching depth b c e) (r.branching (suc depth) b' c' e') (g.branching depth l h i) (g.branching (suc depth) l' h' i') (kind.IfWord ∷ []) false []
  unfolding r.branching g.branching same_kind
  branching_laws =
      declared_laws
      (opens depth _ refl
      (λ start. bind_sentence (separated_sentence (guarded_sentence some_command some_expression) _)
      (λ arms. bind_sentence (otherwise_sentence some_command some_expression) (λ last. bind_sentence (take_sentence _ _ refl) (λ stop. pure_sentence _))))
      (λ deep start. bind_full (separated_full (guarded_full (command deep) (expression deep)) _ refl refl refl refl refl)
      (λ arms. bind_full (otherwise_full (command deep) (expression deep)) (λ last. bind_full (take_full _ _ refl refl) (λ stop. pure_full _) refl) refl) refl))
      refl refl

  casing_laws : Laws (r.casing depth b c e) (r.casing (suc depth) b' c' e') (g.casing depth l h i) (g.casing (suc depth) l' h' i') (kind.CaseWord ∷ []) false []
  unfolding r.casing g.casing same_kind
  casing_laws =
      declared_laws
      (opens depth _ refl
      (λ start. bind_sentence some_expression (λ value. bind_sentence (take_sentence _ _ refl) (λ _.
      bind_sentence (separated_sentence (case_arm_sentence some_command some_expression) _)
      (λ arms. bind_sentence (otherwise_sentence some_command some_expression) (λ last. bind_sentence (take_sentence _ _ refl) (λ stop. pure_sentence _))))))
      (λ deep start. bind_full (expression deep) (λ value. bind_full (take_full _ _ refl refl) (λ _.
      bind_full (separated_full (case_arm_full (command deep) (expression deep)) _ refl refl refl refl refl)
      (λ arms. bind_full (otherwise_full (command deep) (expression deep)) (λ last. bind_full (take_full _ _ refl refl) (λ stop. pure_full _) refl) refl) refl) refl) refl))
      refl refl

  selecting_laws : Laws (r.selecting depth b c e) (r.selecting (suc depth) b' c' e') (g.selecting depth l h i) (g.selecting (suc depth) l' h' i') (kind.SelectWord ∷ []) false []
  unfolding r.selecting g.selecting same_kind
  selecting_laws =
      declared_laws
      (opens depth _ refl
      (λ start. bind_sentence (separated_sentence (arm_sentence some_command some_expression) _) (λ arms. bind_sentence (take_sentence _ _ refl) (λ stop. pure_sentence _)))
      (λ deep start. bind_full (separated_full (arm_full (command deep) (expression deep)) _ refl refl refl refl refl)
      (λ arms. bind_full (take_full _ _ refl refl) (λ stop. pure_full _) refl) refl))
      refl refl

  arbitrating_laws : Laws (r.arbitrating depth b c e) (r.arbitrating (suc depth) b' c' e') (g.arbitrating depth l h i) (g.arbitrating (suc depth) l' h' i') (kind.ArbitrateWord ∷ []) false []
  unfolding r.arbitrating g.arbitrating same_kind
  arbitrating_laws =
      declared_laws
      (opens depth _ refl
      (λ start. bind_sentence (arm_sentence some_command some_expression) (λ first. bind_sentence (take_sentence _ _ refl) (λ _.
      bind_sentence (arm_sentence some_command some_expression) (λ second. bind_sentence (take_sentence _ _ refl) (λ stop. pure_sentence _)))))
      (λ deep start. bind_full (arm_full (command deep) (expression deep)) (λ first. bind_full (take_full _ _ refl refl) (λ _.
      bind_full (arm_full (command deep) (expression deep)) (λ second. bind_full (take_full _ _ refl refl) (λ stop. pure_full _) refl) refl) refl) refl))
      refl refl

  enclosing_laws : (channel : Identifier) → Laws (r.enclosing depth b c e channel) (r.enclosing (suc depth) b' c' e' channel) (g.enclosing depth l h i channel) (g.enclosing (suc depth) l' h' i' channel) (kind.ThenWord ∷ []) false []
  unfolding r.enclosing g.enclosing same_kind
  enclosing_laws channel =
      declared_laws
      (opens depth _ refl (λ start. bind_sentence some_command (λ held. bind_sentence (take_sentence _ _ refl) (λ stop. pure_sentence _)))
      (λ deep start. bind_full (command deep) (λ held. bind_full (take_full _ _ refl refl) (λ stop. pure_full _) refl) refl))
      refl refl

  incoming_full : (channel : Identifier) → Full (r.incoming depth b c e channel) (r.incoming (suc depth) b' c' e' channel) (g.incoming depth l h i channel) (g.incoming (suc depth) l' h' i' channel) (kind.ReceiveSign ∷ []) false []
  unfolding r.incoming g.incoming same_kind
  incoming_full channel = declared (bind_full (take_full _ _ refl refl) (λ _. branch_full _ (enclosing_laws channel) (receiving_full channel) refl refl) refl) refl refl

  named_full : Full (r.named depth b c e) (r.named (suc depth) b' c' e') (g.named depth l h i) (g.named (suc depth) l' h' i') (kind.Name ∷ []) false expression_follow
  unfolding r.named g.named same_kind
  named_full =
      declared
      (bind_full identifier_full (λ name.
      branch_full _ (assignment_full beside name).laws (branch_full _ (sending_full beside name).laws (branch_full _ (incoming_full name).laws (call_full name) refl refl) refl refl) refl refl) refl)
      refl refl

  simple_of_full : Full (r.simple_of depth b c e) (r.simple_of (suc depth) b' c' e') (g.simple_of depth l h i) (g.simple_of (suc depth) l' h' i') command_start false expression_follow
  unfolding r.simple_of g.simple_of r.any_simple g.any_simple same_kind
  simple_of_full =
      declared
      (inside_full (branch_full _ bracketed_laws (branch_full _ looping_laws (branch_full _ branching_laws (branch_full _ casing_laws (branch_full _ selecting_laws (branch_full _ arbitrating_laws
      (branch_full _ synchronisation_full.laws (branch_full _ named_full.laws (branch_full _ (word_full kind.ContinueWord refl refl _).laws (word_full kind.HaltWord refl refl _)
      refl refl) refl refl) refl refl) refl refl) refl refl) refl refl) refl refl) refl refl) refl refl))
      refl refl

simple_of_sentence : (depth : ℕ) (l : Rule Expr) (h : Rule Command) (i : Rule Expr) → HasSentence (g.simple_of depth l h i)
unfolding g.simple_of g.any_simple g.word same_kind
simple_of_sentence depth l h i =
    inside_sentence (either_sentence _ (either_sentence _ (either_sentence _ (either_sentence _ (either_sentence _ (either_sentence _ (either_sentence _ (either_sentence _ (either_sentence _
    (bind_sentence (take_sentence _ _ refl) (λ token. pure_sentence _)))))))))))

simple_sentence : (depth : ℕ) → HasSentence (g.simple depth)
simple_sentence zero = simple_of_sentence zero _ _ _
simple_sentence (suc depth) = simple_of_sentence (suc depth) _ _ _

simple_full : (depth : ℕ) → Full (r.simple depth) (r.simple (suc depth)) (g.simple depth) (g.simple (suc depth)) command_start false expression_follow
simple_full zero =
    simple_of_full zero (expression_full zero) (λ deep. absurd deep) (λ deep. absurd deep) (command_of_sentence (simple_sentence zero)) (expression_sentence zero)
simple_full (suc depth) =
    simple_of_full (suc depth) (expression_full (suc depth)) (λ deep. command_of_full (simple_full depth)) (λ deep. expression_full depth)
    (command_of_sentence (simple_sentence (suc depth))) (expression_sentence (suc depth))

pub command_full : (depth : ℕ) → Full (r.command depth) (r.command (suc depth)) (g.command depth) (g.command (suc depth)) command_start false command_follow
unfolding r.command g.command
command_full depth = command_of_full (simple_full depth)
