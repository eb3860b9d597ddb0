-- What is made of a call, gone along call by call.
use Rattle.std.proofs.Common.{◌≡◌, ℕ, zero, suc, ◌+◌, ◌<◌, ◌≤◌, List, [], ◌∷◌, ◌++◌, length, get_or, take, refl, ap, sym, ◌∙◌, arith, rules, length-append}
use Rattle.elaborate.specs.internal.Instances.{entrance_of}
use Rattle.elaborate.specs.internal.Making.{locals_onto, instance_of, entered}
use Rattle.elaborate.specs.internal.Makers.{WithMade, Maker, ProcedureMaker, command, next_call, after_call, missing, called, action_maker, arm_maker, command_maker, guarded_maker, labelled_maker, maker_of, procedure_maker, makers_onto, makers}
use Rattle.elaborate.specs.declared.made.Made.{Made}
use Rattle.elaborate.specs.declared.instance.Instance.{Instance}
use Rattle.elaborate.specs.declared.instance.Entrance.{Entrance}
use Rattle.system.specs.declared.command.Action as tree
use Rattle.system.specs.declared.command.Arm as tree_arm
use Rattle.system.specs.declared.command.Command as tree_command
use Rattle.system.specs.declared.command.Guarded as tree_guarded
use Rattle.system.specs.declared.command.Labelled as tree_labelled
use Rattle.types.specs.declared.tree.Action.{Action, Call}
use Rattle.types.specs.declared.tree.ChannelUse.{ChannelUse}
use Rattle.types.specs.declared.tree.Command.{Command}
use Rattle.types.specs.declared.tree.Procedure.{Procedure}
use Rattle.types.specs.declared.tree.Action.TheFolds.{fold-Action, the_lemmas}

-- elements of a list with more behind it
at_front : {X : Type 0} (xs ys : List X) (j : ℕ) (d : X) → j < length xs → get_or (xs ++ ys) j d ≡ get_or xs j d
at_front [] ys j d h = absurd (omega (arith, h))
at_front (x ∷ xs) ys zero d h = refl
at_front (x ∷ xs) ys (suc j) d h = let lt : j < length xs = omega (arith, h) in at_front xs ys j d lt

at_end : {X : Type 0} (xs : List X) (n : ℕ) (x d : X) → n ≡ length xs → get_or (xs ++ x ∷ []) n d ≡ x
at_end [] zero x d h = refl
at_end [] (suc n) x d h = absurd (omega (arith, h))
at_end (y ∷ ys) zero x d h = absurd (omega (arith, h))
at_end (y ∷ ys) (suc n) x d h = let e : n ≡ length ys = omega (arith, h) in at_end ys n x d e

past_end : {X : Type 0} (xs : List X) (n : ℕ) (d : X) → length xs ≤ n → get_or xs n d ≡ d
past_end [] n d h = refl
past_end (y ∷ ys) zero d h = absurd (omega (arith, h))
past_end (y ∷ ys) (suc n) d h = let le : length ys ≤ n = omega (arith, h) in past_end ys n d le

-- the makers found first are kept
kept : (found : List ProcedureMaker) (ps : List Procedure) (j : ℕ) → j < length found → get_or (makers_onto found ps) j missing ≡ get_or found j missing
kept found [] j h = refl
kept found (p ∷ ps) j h =
    let more : j < length (found ++ procedure_maker found p ∷ []) = omega (arith, h, length-append found (procedure_maker found p ∷ [])) in
    kept (found ++ procedure_maker found p ∷ []) ps j more ∙ at_front found (procedure_maker found p ∷ []) j missing h

at_place : (found : List ProcedureMaker) (ps : List Procedure) (k n : ℕ) (p : Procedure) → n ≡ length found + k → k < length ps
    → get_or (makers_onto found ps) n missing ≡ procedure_maker (makers_onto found (take k ps)) (get_or ps k p)
at_place found [] k n p e h = absurd (omega (arith, h))
at_place found (q ∷ ps) zero n p e h =
    let m : ProcedureMaker = procedure_maker found q in
    let here : n ≡ length found = omega (arith, e) in
    let less : n < length (found ++ m ∷ []) = omega (arith, here, length-append found (m ∷ [])) in
    kept (found ++ m ∷ []) ps n less ∙ at_end found n m missing here
at_place found (q ∷ ps) (suc k) n p e h =
    let m : ProcedureMaker = procedure_maker found q in
    let there : n ≡ length (found ++ m ∷ []) + k = omega (arith, e, length-append found (m ∷ [])) in
    let lt : k < length ps = omega (arith, h) in
    at_place (found ++ m ∷ []) ps k n p there lt

not_there : (found : List ProcedureMaker) (ps : List Procedure) (n : ℕ) → length found + length ps ≤ n → get_or (makers_onto found ps) n missing ≡ missing
not_there found [] n h = past_end found n missing (omega (arith, h))
not_there found (p ∷ ps) n h =
    let m : ProcedureMaker = procedure_maker found p in
    let le : length (found ++ m ∷ []) + length ps ≤ n = omega (arith, h, length-append found (m ∷ [])) in
    not_there (found ++ m ∷ []) ps n le

-- a call of a procedure that is there
entered_maker : (ps : List Procedure) (k : ℕ) (p : Procedure) → k < length ps → p ≡ get_or ps k p
    → called (makers ps) k ≡ procedure_maker (makers (take k ps)) p
entered_maker ps k p lt is =
    let here : k ≡ 0 + k = omega arith in
    at_place [] ps k k p here lt ∙ ap (procedure_maker (makers (take k ps))) (sym is)

-- a body that is a call alone
action_maker_of : List ProcedureMaker → Action → ℕ → Maker tree_command.Command
action_maker_of ps =
    fold-Action (ℕ → Maker tree_command.Command) (Maker tree_arm.Arm) (Maker tree_command.Command) (Maker tree_guarded.Guarded) (Maker tree_labelled.Labelled)
    (action_maker ps) arm_maker command_maker guarded_maker labelled_maker

body_maker : (ps : List ProcedureMaker) (c : Command) → maker_of ps c ≡ action_maker_of ps c.action c.line
unfolding action_maker_of
body_maker ps c = search (rules, the_lemmas)

call_alone : (ps : List ProcedureMaker) (p : ℕ) (arguments : List ChannelUse) (line : ℕ) (instance : Instance) (made : Made)
    → action_maker_of ps (Call p arguments) line instance made
    ≡ after_call (next_call made) (called ps p (entrance_of instance arguments (next_call made)) made)
unfolding action_maker_of
call_alone ps p arguments line instance made = search (rules, the_lemmas)

call_maker : (ps : List ProcedureMaker) (c : Command) (p : ℕ) (arguments : List ChannelUse) (instance : Instance) (made : Made)
    → c.action ≡ Call p arguments
    → maker_of ps c instance made ≡ after_call (next_call made) (called ps p (entrance_of instance arguments (next_call made)) made)
call_maker ps c p arguments instance made is =
    ap (λ (m : Maker tree_command.Command). m instance made) (body_maker ps c)
    ∙ (ap (λ a. action_maker_of ps a c.line instance made) is ∙ call_alone ps p arguments c.line instance made)

-- a procedure whose body is a call alone makes what that call makes
pub goes_along : (ps : List Procedure) (k : ℕ) (p : Procedure) (next : ℕ) (arguments : List ChannelUse) (entrance : Entrance) (made : Made)
    (instance : Instance) (made' : Made) (entrance' : Entrance)
    → k < length ps → p ≡ get_or ps k p → p.body.action ≡ Call next arguments
    → instance ≡ instance_of entrance (locals_onto [] entrance.prefix made p.locals)
    → made' ≡ entered (locals_onto [] entrance.prefix made p.locals)
    → entrance' ≡ entrance_of instance arguments 1
    → after_call 0 (called (makers (take k ps)) next entrance' made') ≡ after_call 0 (called (makers ps) k entrance made)
goes_along ps k p next arguments entrance made instance made' entrance' lt is body s m e =
    let locals = locals_onto [] entrance.prefix made p.locals in
    let before = makers (take k ps) in
    (ap (λ (x : Entrance). after_call 0 (called before next x made')) e
    ∙ (ap (λ (x : Instance). after_call 0 (called before next (entrance_of x arguments 1) made')) s
    ∙ ap (λ (x : Made). after_call 0 (called before next (entrance_of (instance_of entrance locals) arguments 1) x)) m))
    ∙ sym
    (ap (λ (f : ProcedureMaker). after_call 0 (f entrance made)) (entered_maker ps k p lt is)
    ∙ ap (after_call 0) (call_maker before p.body next arguments (instance_of entrance locals) (entered locals) body))

-- any other body
pub enters : (ps : List Procedure) (k : ℕ) (p : Procedure) (entrance : Entrance) (made : Made) (instance : Instance) (made' new : Made) (result : tree_command.Command)
    → k < length ps → p ≡ get_or ps k p
    → instance ≡ instance_of entrance (locals_onto [] entrance.prefix made p.locals)
    → made' ≡ entered (locals_onto [] entrance.prefix made p.locals)
    → result ≡ (maker_of (makers (take k ps)) p.body instance made').0
    → new ≡ (maker_of (makers (take k ps)) p.body instance made').1
    → let r : WithMade tree_command.Command = (result, record new { calls = 0 }) in r ≡ after_call 0 (called (makers ps) k entrance made)
enters ps k p entrance made instance made' new result lt is s m t n =
    let locals = locals_onto [] entrance.prefix made p.locals in
    let before = makers (take k ps) in
    (ap (λ (x : tree_command.Command). let r : WithMade tree_command.Command = (x, record new { calls = 0 }) in r) t
    ∙ (ap (λ (x : Made). let r : WithMade tree_command.Command = ((maker_of before p.body instance made').0, record x { calls = 0 }) in r) n
    ∙ (ap (λ (x : Instance). after_call 0 (maker_of before p.body x made')) s
    ∙ ap (λ (x : Made). after_call 0 (maker_of before p.body (instance_of entrance locals) x)) m)))
    ∙ sym (ap (λ (f : ProcedureMaker). after_call 0 (f entrance made)) (entered_maker ps k p lt is))

-- a procedure that is not there
pub ends : (ps : List Procedure) (k : ℕ) (entrance : Entrance) (made : Made) → length ps ≤ k
    → let r : WithMade tree_command.Command = (command 0 tree.Continue, record made { calls = 0 }) in r ≡ after_call 0 (called (makers ps) k entrance made)
ends ps k entrance made h =
    let le : 0 + length ps ≤ k = omega (arith, h) in
    sym (ap (λ (f : ProcedureMaker). after_call 0 (f entrance made)) (not_there [] ps k le))
