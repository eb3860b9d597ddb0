-- What `Typing` stands for: a description whose types and first procedures are judged.
-- No reader has to believe it: `check_types` goes through `new`, `add` and `finish`, and its clauses cite
-- `found_description` alone.
use Rattle.std.specs.Prelude.{◌≡◌, List, [], ◌∷◌, Err}
use Rattle.types.specs.Commands.{Scope}
use Rattle.types.specs.Declarations.{after_procedure, types_of, judged_description}
use Rattle.types.specs.internal.Least.{least}
use Rattle.types.specs.Findings.{Verdict}
use Rattle.refusals.specs.declared.types.Fault.TheVariants.{Memory}
use Rattle.types.specs.declared.tree.Procedure as typed
use Rattle.syntax.specs.declared.declaration.Description.{Description}
use Rattle.syntax.specs.declared.declaration.Procedure.{Procedure}

-- the scope behind what is judged so far, and its procedures, or the fault that would be answered
pub record Judgement : Type 0 where
  pub scope : Scope
  pub found : Verdict (List typed.Procedure)

-- the scope behind procedures that follow this scope
abbrev pub scope_behind : Scope → List Procedure → Scope
scope_behind scope [] = scope
scope_behind scope (p ∷ rest) = scope_behind (after_procedure least scope p) rest

-- the scope behind all that a description declares
abbrev pub last_scope : Description → Scope
last_scope d = scope_behind (record { names = (types_of least d).names; procedures = [] }) d.procedures

-- the types and the procedures that were given so far are those of this description
pub record Judges (judged : Judgement) (d : Description) : Type 0 where
  pub scope : judged.scope ≡ last_scope d
  pub found : judged.found ≡ judged_description least d

-- there was no memory, which is all that is answered from then on
abbrev pub IsSpent : Judgement → Type 0
IsSpent judged = judged.found ≡ Err Memory
