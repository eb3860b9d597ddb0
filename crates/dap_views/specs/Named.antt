-- What a name means in a call.
use Rattle.std.specs.Prelude.{ℕ, ◌+◌, ◌==◌, ◌&&◌, ◌||◌, not, nat_eq, if◌then◌else◌, List, [], ◌∷◌, Bool, false, Option, None, Some, option_and_then, string_bytes}
use Rattle.std.specs.Cmp.Lexicographic.{pointwise}
use Rattle.std.specs.Option.{option_or}
use Rattle.source_calls.specs.declared.calls.Call.{Call}
use Rattle.dap_views.specs.declared.index.Index.{Index}
use Rattle.dap_views.specs.declared.index.Named.{Named}
use Rattle.dap_views.specs.declared.index.Thing.{Thing}

-- whether it has the name
abbrev pub has_name : List ℕ → Named → Bool
has_name name n = pointwise nat_eq (string_bytes n.own) name

-- whether it is declared in this call, and has the name
abbrev pub is_named : ℕ → List ℕ → Named → Bool
is_named call name n = (n.instance == call) && has_name name n

-- what the call declares by the name
abbrev pub declared : List Named → ℕ → List ℕ → Option Thing
declared [] call name = None
declared (n ∷ ns) call name = if is_named call name n then Some n.thing else declared ns call name

-- whether both are one thing
abbrev pub same_thing : Thing → Thing → Bool
same_thing (Thing.Variable m) (Thing.Variable n) = m == n
same_thing (Thing.Channel m) (Thing.Channel n) = m == n
same_thing _ _ = false

-- whether the thing is another one than was found
abbrev pub differs : Option Thing → Thing → Bool
differs None thing = false
differs (Some found) thing = not (same_thing found thing)

-- the one thing that all mean that have the name, where this was found before; none where they mean more than one
abbrev pub agreed : Option Thing → List Named → List ℕ → Option Thing
agreed found [] name = found
agreed found (n ∷ ns) name =
    if has_name name n then (if differs found n.thing then None else agreed (Some n.thing) ns name)
    else agreed found ns name

-- what the name means in this call: what that declares by it; where it does not, what all mean that declare it
abbrev pub meant : List Named → ℕ → List ℕ → Option Thing
meant names call name = option_or (declared names call name) (agreed None names name)

-- whether something has the name, wherever it is declared
abbrev pub is_declared : List Named → List ℕ → Bool
is_declared [] name = false
is_declared (n ∷ ns) name = has_name name n || is_declared ns name

-- whether a `:` is among these bytes
abbrev pub has_colon : List ℕ → Bool
has_colon [] = false
has_colon (x ∷ xs) = (x == 58) || has_colon xs

-- the numbers of calls that stand before a name, up to the last `:`; nothing where there is none
abbrev pub prefix_in : List ℕ → List ℕ
prefix_in [] = []
prefix_in (x ∷ xs) = if has_colon (x ∷ xs) then x ∷ prefix_in xs else []

-- the name behind them
abbrev pub own_in : List ℕ → List ℕ
own_in [] = []
own_in (x ∷ xs) = if has_colon (x ∷ xs) then own_in xs else x ∷ xs

-- the index of the call whose names begin so, where the first of these has this index
abbrev pub call_named : ℕ → List Call → List ℕ → Option ℕ
call_named index [] prefix = None
call_named index (c ∷ cs) prefix =
    if pointwise nat_eq (string_bytes c.prefix) prefix then Some index else call_named (index + 1) cs prefix

-- what is meant by a name with these numbers of calls before it; by one without them, what it means in this call
abbrev pub found_behind : Index → ℕ → List ℕ → List ℕ → Option Thing
found_behind index call [] own = meant index.names.items call own
found_behind index call (x ∷ xs) own =
    option_and_then (λ k. declared index.names.items k own) (call_named 0 index.calls.list.items (x ∷ xs))

-- what is meant by a name that is read in this call, a whole one as `1:x` or another
abbrev pub found : Index → ℕ → List ℕ → Option Thing
found index call name = found_behind index call (prefix_in name) (own_in name)
