-- What is found in a walk through the bodies of procedures, that of a called one where its call stands: the calls, and
-- the variables that they make, both in the order in which a system is made of them.
use Rattle.std.specs.Prelude.{ℕ, ◌+◌, ◌-◌, nat_lt, cond, List, [], ◌∷◌, ◌++◌, Option, None, Some, length, slice_get, slice_index_or, take}
use Rattle.address.specs.declared.Entry.TheVariants.{Branch}
use Rattle.system.specs.Named.{prefix_of_call}
use Rattle.types.specs.declared.tree.Local.{Local}
use Rattle.types.specs.declared.tree.LocalKind.{LocalKind}
use Rattle.types.specs.declared.tree.LocalKind.TheVariants as local
use Rattle.types.specs.declared.tree.Procedure.{Procedure}
use Rattle.described.specs.Calls.{calls_in}
use Rattle.described.specs.declared.body_calls.BodyCall.{BodyCall}
use Rattle.described.specs.declared.found.Found as found
use Rattle.described.specs.declared.walk.Entered.{Entered}

abbrev pub Found : Type 0
Found = found.Found

abbrev pub nothing_found : Found
nothing_found = record { calls = []; deeper = 0; variables = [] }

-- ---- calls

-- a call is told that stands in fewer others than these
abbrev pub most_calls : ℕ
most_calls = 64

-- a call that is counted and not told
abbrev pub one_deeper : Found → Found
one_deeper f = record f { deeper = f.deeper + 1 }

-- one more call on this line: the body of the procedure of this name is entered so
abbrev pub with_call : Entered → List ℕ → ℕ → Found → Found
with_call e name line f =
    cond (nat_lt most_calls e.depth) (one_deeper f)
    (record f { calls = f.calls ++ record { name = e.prefix ++ name; place = e.place; line = line } ∷ [] })

-- ---- variables

-- a local that is declared there, if it is a variable
abbrev pub with_local : ℕ → LocalKind → Found → Found
with_local declared (local.Variable w) f = record f { variables = f.variables ++ declared ∷ [] }
with_local declared (local.SharedVariable w) f = record f { variables = f.variables ++ declared ∷ [] }
with_local declared (local.Channel w) f = f
with_local declared local.Sync f = f

abbrev pub with_locals : List Local → Found → Found
with_locals [] f = f
with_locals (l ∷ ls) f = with_locals ls (with_local l.declared l.kind f)

-- ---- procedures

-- what a procedure tells where it is called on this line and entered so, behind what is found
abbrev pub Telling : Type 0
Telling = Entered → ℕ → Found → Found

-- a procedure that is not there tells nothing (a typed description calls none)
abbrev pub missing : Telling
missing e line f = f

-- what the procedure of this number tells
abbrev pub told_by : List Telling → ℕ → Telling
told_by earlier p = slice_index_or earlier p missing

-- how the body of a call is entered that has this number, from 1, in a body that is entered so
abbrev pub entered_by : Entered → ℕ → BodyCall → Entered
entered_by e number c = record { prefix = prefix_of_call e.prefix number; place = c.place; depth = e.depth + 1 }

-- the calls of a body that is entered so, in which so many stand before them
abbrev pub tell_calls : List Telling → Entered → ℕ → List BodyCall → Found → Found
tell_calls earlier e passed [] f = f
tell_calls earlier e passed (c ∷ cs) f =
    tell_calls earlier e (passed + 1) cs (told_by earlier c.procedure (entered_by e (passed + 1) c) c.line f)

-- the variables of a procedure that is entered so, and the calls in its body
abbrev pub tell_body : List Telling → Procedure → Entered → Found → Found
tell_body earlier p e f = tell_calls earlier e 0 (calls_in p.body e.place) (with_locals p.locals f)

-- what a procedure tells, over those before it: its call, and what is in its body
abbrev pub telling_of : List Telling → Procedure → Telling
telling_of earlier p e line f = tell_body earlier p e (with_call e p.name line f)

-- the procedures in order, each of which calls those before it
abbrev pub tellings_onto : List Telling → List Procedure → List Telling
tellings_onto earlier [] = earlier
tellings_onto earlier (p ∷ ps) = tellings_onto (earlier ++ telling_of earlier p ∷ []) ps

abbrev pub tellings : List Procedure → List Telling
tellings procedures = tellings_onto [] procedures

-- ---- the root

-- the root is entered at /0, with nothing before its names
abbrev pub at_root : Entered
at_root = record { prefix = []; place = Branch 0 ∷ []; depth = 0 }

-- what a root tells that comes behind these
abbrev pub from : List Procedure → Option Procedure → Found → Found
from earlier None f = f
from earlier (Some root) f = tell_body (tellings earlier) root at_root f

-- the last procedure is the root
abbrev pub from_root : List Procedure → Found → Found
from_root procedures f =
    let before = length procedures - 1 in
    from (take before procedures) (slice_get procedures before) f

-- what is found in a description
abbrev pub found_in : List Procedure → Found
found_in procedures = from_root procedures nothing_found
