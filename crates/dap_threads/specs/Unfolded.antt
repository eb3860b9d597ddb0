-- What is unfolded, by its numbers.
use Rattle.std.specs.Prelude.{ℕ, ◌≡◌, ◌-◌, ◌&&◌, min, nat_lt, Bool, true, Option, None, Some, length}
use Rattle.dap_views.specs.Handles.{reference}
use Rattle.dap_views.specs.declared.handles.Handle.{Handle}
use Rattle.dap_views.specs.declared.index.Index.{Index}

-- how many instances there are: the calls, 4294967295 where they are more
abbrev pub instance_count : Index → ℕ
instance_count index = min (length index.calls.list.items) 4294967295

-- whether it is one of so many instances, or a thread of so many, which count from 1
abbrev pub is_shown : ℕ → ℕ → Handle → Bool
is_shown instances threads (Handle.Variables n) = nat_lt n instances
is_shown instances threads (Handle.Channels n) = nat_lt n instances
is_shown instances threads (Handle.Steps n) = nat_lt 0 n && nat_lt (n - 1) threads
is_shown instances threads (Handle.Instance n) = nat_lt n instances

-- the number is that of this, which the state has
abbrev pub HasHandle : ℕ → ℕ → ℕ → Handle → Type 0
HasHandle instances threads number handle = (is_shown instances threads handle ≡ true) × (reference handle ≡ number)

-- the state has nothing of this number
abbrev pub HasNoHandle : ℕ → ℕ → ℕ → Type 0
HasNoHandle instances threads number = (handle : Handle) → HasHandle instances threads number handle → ⊥

-- what was found by a number: what has it, or nothing where nothing does
abbrev pub IsFound : ℕ → ℕ → ℕ → Option Handle → Type 0
IsFound instances threads number None = HasNoHandle instances threads number
IsFound instances threads number (Some handle) = HasHandle instances threads number handle

-- what was found by the number that is named; nothing where none is
abbrev pub NamesHandle : ℕ → ℕ → Option ℕ → Option Handle → Type 0
NamesHandle instances threads None found = found ≡ None
NamesHandle instances threads (Some number) found = IsFound instances threads number found
