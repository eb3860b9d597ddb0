-- Where parts of a command touch variables, and the least offset at which two of them clash as branches of a parallel.
-- No reader has to believe it: `proofs/AddsCommand.antt` and `proofs/TableClashes.antt` tie what is found to
-- `ClashesAt` of `Refusal.antt`.
use Rattle.std.specs.Prelude.{ℕ, min, List, [], ◌∷◌, length, Bool, true, false, cond, nat_eq, nat_lt, Option, None, Some, is_some, unwrap_or, slice_get}
use Rattle.std.specs.Map.{lookup}
use Rattle.indexmap.specs.IndexMap.{insert_entry}
use Rattle.system.specs.declared.system.Variable.{Variable}
use Rattle.sharing_rule.specs.Rule.{is_shared_variable}
use Rattle.sharing_check.specs.declared.touched.Touched.{Touched}

-- the lesser of two offsets, where there are two
abbrev pub lesser : Option ℕ → Option ℕ → Option ℕ
lesser (Some l) (Some o) = Some (min l o)
lesser (Some l) None = Some l
lesser None o = o

-- a variable that is neither read nor written
abbrev pub nowhere : Touched
nowhere = record { read = None; written = None }

-- read at the offset, or written there
abbrev pub touched_here : ℕ → Bool → Touched
touched_here o true = record { read = None; written = Some o }
touched_here o false = record { read = Some o; written = None }

-- two parts together
abbrev pub together : Touched → Touched → Touched
together a b = record { read = lesser a.read b.read; written = lesser a.written b.written }

-- the least offset of a that clashes with b
abbrev pub clashing : Touched → Touched → Option ℕ
clashing a b = cond (is_some b.written) (lesser a.read a.written) (cond (is_some b.read) a.written None)

-- the least offset of both
abbrev pub clash : Touched → Touched → Option ℕ
clash a b = lesser (clashing a b) (clashing b a)

-- where variables are touched, by their numbers
abbrev pub Table : Type 0
Table = List (ℕ × Touched)

-- where the variable x is touched
abbrev pub touched_at : Table → ℕ → Touched
touched_at t x = unwrap_or (lookup (nat_eq x) t) nowhere

-- with more of the variable x
abbrev pub with_touched : Table → ℕ → Touched → Table
with_touched t x s = insert_entry nat_eq t x (together (touched_at t x) s)

-- with all that another table has
abbrev pub noted_all : Table → Table → Table
noted_all [] t = t
noted_all (e ∷ es) t = noted_all es (with_touched t e.0 e.1)

-- the least of `least` and of an offset at which branches clash in the variable x, if they may not share it
abbrev pub with_clash : List Variable → ℕ → Option ℕ → Option ℕ → Option ℕ
with_clash variables x offset least = cond (is_shared_variable (slice_get variables x)) least (lesser least offset)

-- the least of `least` and of the offset at which a table clashes with what another one has of a variable
abbrev pub least_after : List Variable → Table → Option ℕ → ℕ × Touched → Option ℕ
least_after variables t least e = with_clash variables e.0 (clash (touched_at t e.0) e.1) least

-- and with all that it has, each put into the table behind the ones before
abbrev pub least_with : List Variable → Table → Table → Option ℕ → Option ℕ
least_with variables [] t least = least
least_with variables (e ∷ es) t least =
    least_with variables es (with_touched t e.0 e.1) (least_after variables t least e)

-- of two tables the one with more variables, and the other one
abbrev pub larger : Table → Table → Table
larger a b = cond (nat_lt (length a) (length b)) b a

abbrev pub smaller : Table → Table → Table
smaller a b = cond (nat_lt (length a) (length b)) a b
