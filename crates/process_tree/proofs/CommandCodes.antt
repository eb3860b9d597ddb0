-- The code of a command by what it does, as `code_of` in `Translation.antt` says layer by layer.
use Rattle.std.proofs.Common.{◌≡◌, ℕ, List, map, Bool, Option, Some, None, is_some, option_map, refl, sym, ap, ◌∙◌, rules}
use Rattle.system.specs.Expression.{by_guards, by_labels}
use Rattle.system.specs.Translation.{expression_of}
use Rattle.system.specs.declared.command.Action as action
use Rattle.system.specs.declared.command.Action.{Action}
use Rattle.system.specs.declared.command.Action.TheFolds.{the_lemmas}
use Rattle.system.specs.declared.command.Arm.{Arm}
use Rattle.system.specs.declared.command.Command.{Command}
use Rattle.system.specs.declared.command.Guarded.{Guarded}
use Rattle.system.specs.declared.command.Labelled.{Labelled}
use Rattle.system.specs.declared.expression.Expression.{Expression}
use Rattle.process_tree.specs.Code.{Code, repeats, decides, in_turn, side_by_side, Codes}
use Rattle.process_tree.specs.Translation.{code_of, row_of, row_with, if_of, case_of, awaits_of}
use Rattle.process_tree.specs.internal.Arms.{guarded_of, labelled_of, arm_of}

-- a command is known by what it does
does : (c : Command) (a b : Action) → a ≡ c.action → a ≡ b → code_of c ≡ code_of (record { line = c.line; action = b })
does c a b got is = ap (λ x. code_of (record { line = c.line; action = x })) (sym got ∙ is)

loops : (n : ℕ) (body : Command) → code_of (record { line = n; action = action.Loop body }) ≡ repeats None (code_of body)
loops n body = search (rules, the_lemmas)

loops-while : (n : ℕ) (e : Expression) (body : Command) → code_of (record { line = n; action = action.While e body }) ≡ repeats (Some (expression_of e)) (code_of body)
loops-while n e body = search (rules, the_lemmas)

tests : (n : ℕ) (arms : List Guarded) (last : Option Command) → code_of (record { line = n; action = action.If arms last }) ≡ if_of (map guarded_of arms) (option_map code_of last)
tests n arms last = search (rules, the_lemmas)

picks : (n : ℕ) (e : Expression) (arms : List Labelled) (last : Option Command)
    → code_of (record { line = n; action = action.Case e arms last }) ≡ case_of (expression_of e) (map labelled_of arms) (option_map code_of last)
picks n e arms last = search (rules, the_lemmas)

selects : (n : ℕ) (arms : List Arm) → code_of (record { line = n; action = action.Select arms }) ≡ awaits_of (map arm_of arms)
selects n arms = search (rules, the_lemmas)

arbitrates : (n : ℕ) (arms : List Arm) → code_of (record { line = n; action = action.Arbitrate arms }) ≡ awaits_of (map arm_of arms)
arbitrates n arms = search (rules, the_lemmas)

follows : (n : ℕ) (cs : List Command) → code_of (record { line = n; action = action.Sequence cs }) ≡ in_turn (row_of (map code_of cs))
follows n cs = search (rules, the_lemmas)

joins : (n : ℕ) (cs : List Command) → code_of (record { line = n; action = action.Parallel cs }) ≡ side_by_side (row_of (map code_of cs))
joins n cs = search (rules, the_lemmas)

-- a loop
pub loop-made : (c : Command) (a : Action) (body : Command) (x made : Code) → a ≡ c.action → a ≡ action.Loop body → x ≡ code_of body → made ≡ repeats None x → made ≡ code_of c
loop-made c a body x made got is b m = m ∙ ap (repeats None) b ∙ sym (does c a _ got is ∙ loops c.line body)

pub while-made : (c : Command) (a : Action) (e : Expression) (body : Command) (x made : Code) → a ≡ c.action → a ≡ action.While e body → x ≡ code_of body
    → made ≡ repeats (Some (expression_of e)) x → made ≡ code_of c
while-made c a e body x made got is b m = m ∙ ap (repeats (Some (expression_of e))) b ∙ sym (does c a _ got is ∙ loops-while c.line e body)

-- whether there is an else
last-there : (last : Option Command) → is_some last ≡ is_some (option_map code_of last)
last-there None = refl
last-there (Some c) = refl

-- a test
pub if-made : (c : Command) (a : Action) (arms xs ys : List Guarded) (last : Option Command) (ends : Bool) (bodies : List Code) (row : Codes) (made : Code) → a ≡ c.action
    → a ≡ action.If arms last → xs ≡ arms → ys ≡ arms → ends ≡ is_some last → bodies ≡ map (λ a. a.1) (map guarded_of xs)
    → row ≡ row_with bodies (option_map code_of last) → made ≡ decides (by_guards (map (λ a. a.0) (map guarded_of ys)) ends) row → made ≡ code_of c
if-made c a arms xs ys last ends bodies row made got is x y e b r m =
    m
    ∙ ap (λ ys. decides (by_guards (map (λ a. a.0) (map guarded_of ys)) ends) row) y
    ∙ ap (λ t. decides (by_guards (map (λ a. a.0) (map guarded_of arms)) t) row) (e ∙ last-there last)
    ∙ ap (decides (by_guards (map (λ a. a.0) (map guarded_of arms)) (is_some (option_map code_of last))))
    (r ∙ ap (λ bs. row_with bs (option_map code_of last)) (b ∙ ap (λ xs. map (λ a. a.1) (map guarded_of xs)) x))
    ∙ sym (does c a _ got is ∙ tests c.line arms last)

pub case-made : (c : Command) (a : Action) (s : Expression) (arms xs ys : List Labelled) (last : Option Command) (ends : Bool) (bodies : List Code) (row : Codes) (made : Code)
    → a ≡ c.action → a ≡ action.Case s arms last → xs ≡ arms → ys ≡ arms → ends ≡ is_some last → bodies ≡ map (λ a. a.1) (map labelled_of xs)
    → row ≡ row_with bodies (option_map code_of last) → made ≡ decides (by_labels (expression_of s) (map (λ a. a.0) (map labelled_of ys)) ends) row → made ≡ code_of c
case-made c a s arms xs ys last ends bodies row made got is x y e b r m =
    m
    ∙ ap (λ ys. decides (by_labels (expression_of s) (map (λ a. a.0) (map labelled_of ys)) ends) row) y
    ∙ ap (λ t. decides (by_labels (expression_of s) (map (λ a. a.0) (map labelled_of arms)) t) row) (e ∙ last-there last)
    ∙ ap (decides (by_labels (expression_of s) (map (λ a. a.0) (map labelled_of arms)) (is_some (option_map code_of last))))
    (r ∙ ap (λ bs. row_with bs (option_map code_of last)) (b ∙ ap (λ xs. map (λ a. a.1) (map labelled_of xs)) x))
    ∙ sym (does c a _ got is ∙ picks c.line s arms last)

-- commands in a row
pub sequence-made : (c : Command) (a : Action) (cs xs : List Command) (codes : List Code) (made : Code) → a ≡ c.action → a ≡ action.Sequence cs → xs ≡ cs → codes ≡ map code_of xs
    → made ≡ in_turn (row_of codes) → made ≡ code_of c
sequence-made c a cs xs codes made got is x b m =
    m ∙ ap (λ xs. in_turn (row_of xs)) (b ∙ ap (map code_of) x) ∙ sym (does c a _ got is ∙ follows c.line cs)

pub parallel-made : (c : Command) (a : Action) (cs xs : List Command) (codes : List Code) (made : Code) → a ≡ c.action → a ≡ action.Parallel cs → xs ≡ cs → codes ≡ map code_of xs
    → made ≡ side_by_side (row_of codes) → made ≡ code_of c
parallel-made c a cs xs codes made got is x b m =
    m ∙ ap (λ xs. side_by_side (row_of xs)) (b ∙ ap (map code_of) x) ∙ sym (does c a _ got is ∙ joins c.line cs)

-- an arm by its parts
pub guarded-guard : (a : Guarded) → (guarded_of a).0 ≡ expression_of a.guard
guarded-guard a = search (rules, the_lemmas)

pub guarded-body : (a : Guarded) → (guarded_of a).1 ≡ code_of a.body
guarded-body a = search (rules, the_lemmas)

pub labelled-labels : (a : Labelled) → (labelled_of a).0 ≡ a.labels
labelled-labels a = search (rules, the_lemmas)

pub labelled-body : (a : Labelled) → (labelled_of a).1 ≡ code_of a.body
labelled-body a = search (rules, the_lemmas)

pub arm-channel : (a : Arm) → (arm_of a).0 ≡ a.channel.number
arm-channel a = search (rules, the_lemmas)

pub arm-body : (a : Arm) → (arm_of a).1 ≡ code_of a.body
arm-body a = search (rules, the_lemmas)
