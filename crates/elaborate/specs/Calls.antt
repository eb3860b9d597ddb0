-- What a procedure becomes where it is called: a body of its own, over copies of its locals.
use Rattle.std.specs.Prelude.{ℕ, ◌+◌, List, [], ◌∷◌, ◌++◌, slice_index_or}
use Rattle.elaborate.specs.Body.{Call, part_of, nothing_to_do}
use Rattle.elaborate.specs.Copies.{all_copied, numbers_behind}
use Rattle.elaborate.specs.Naming.{Names, channels_of}
use Rattle.syntax.specs.Texts.{Text}
use Rattle.system.specs.Named.{prefix_of_call}
use Rattle.system.specs.declared.command.Command as tree_command
use Rattle.types.specs.declared.tree.Local.{Local}
use Rattle.types.specs.declared.tree.Procedure.{Procedure}

-- how a procedure is entered: what stands before the names of its copies, the copies that come before them, and the
-- channel that stands for each of its ports
pub record Entered : Type 0 where
  pub prefix : Text
  pub before : List Local
  pub ports : List ℕ

-- what a procedure becomes: the copies that are made where this stands before their names, those for its calls among
-- them, and its body
pub record Expansion : Type 0 where
  pub copies : Text → List Local
  pub body : Entered → tree_command.Command

-- a procedure that is not there does nothing (a typed description calls none)
abbrev pub missing : Expansion
missing = record { copies = λ prefix. []; body = λ entered. nothing_to_do }

-- what the procedure of this number becomes
abbrev pub called : List Expansion → ℕ → Expansion
called earlier p = slice_index_or earlier p missing

-- the copies for calls of a body, in which so many stand before them: a call's number, from 1, goes before its names
abbrev pub copies_of_calls : List Expansion → Text → ℕ → List Call → List Local
copies_of_calls earlier prefix passed [] = []
copies_of_calls earlier prefix passed (c ∷ cs) =
    (called earlier c.procedure).copies (prefix_of_call prefix (passed + 1))
    ++ copies_of_calls earlier prefix (passed + 1) cs

-- the bodies that stand for calls of a body, in which so many stand before them: each has the channels of its arguments
-- for its ports, and its copies come behind those of the calls before it
abbrev pub bodies_of_calls : List Expansion → Names → Text → List Local → ℕ → List Call → List tree_command.Command
bodies_of_calls earlier names prefix before passed [] = []
bodies_of_calls earlier names prefix before passed (c ∷ cs) =
    let p = called earlier c.procedure in
    let own = prefix_of_call prefix (passed + 1) in
    p.body (record { prefix = own; before = before; ports = channels_of names c.arguments })
    ∷ bodies_of_calls earlier names prefix (before ++ p.copies own) (passed + 1) cs

-- what the names of a procedure stand for where it is entered so
abbrev pub names_in : Procedure → Entered → Names
names_in p entered =
    record { ports = entered.ports; locals = numbers_behind entered.before (all_copied entered.prefix p.locals) }

-- the copies of its locals, and then those of its calls
abbrev pub copies_of : List Expansion → Procedure → Text → List Local
copies_of earlier p prefix = all_copied prefix p.locals ++ copies_of_calls earlier prefix 0 (part_of p.body).calls

-- its body with the bodies of its calls
abbrev pub body_of : List Expansion → Procedure → Entered → tree_command.Command
body_of earlier p entered =
    let names = names_in p entered in
    let before = entered.before ++ all_copied entered.prefix p.locals in
    (part_of p.body).becomes names (bodies_of_calls earlier names entered.prefix before 0 (part_of p.body).calls)

-- what a procedure becomes, over those before it
abbrev pub expansion_of : List Expansion → Procedure → Expansion
expansion_of earlier p = record { copies = copies_of earlier p; body = body_of earlier p }

-- the procedures in order, each of which calls those before it
abbrev pub expansions_onto : List Expansion → List Procedure → List Expansion
expansions_onto earlier [] = earlier
expansions_onto earlier (p ∷ ps) = expansions_onto (earlier ++ expansion_of earlier p ∷ []) ps

-- what each procedure becomes
abbrev pub expansions : List Procedure → List Expansion
expansions procedures = expansions_onto [] procedures
