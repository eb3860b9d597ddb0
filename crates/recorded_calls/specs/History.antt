-- Histories of recorded calls, and which of them are legal.
use Rattle.std.specs.Prelude.{◌≡◌, ℕ, ◌≤◌, List, [], ◌∷◌, Bool, true, false, ◌==◌}
use Rattle.recorded_calls.specs.declared.entry.Entry.{Entry}

-- a call of the pass of this number
abbrev pub entry_of : {C R : Type 0} → ℕ → C → R → Entry C R
entry_of n c r = record { pass = n; command = c; reply = r }

-- the element first, where the test holds
abbrev pub kept_if : {X : Type 0} → Bool → X → List X → List X
kept_if true x xs = x ∷ xs
kept_if false x xs = xs

-- the entries of the pass of this number, in their order
abbrev pub calls_by : {C R : Type 0} → ℕ → List (Entry C R) → List (Entry C R)
calls_by n [] = []
calls_by n (e ∷ es) = kept_if (n == e.pass) e (calls_by n es)

-- no call is of a pass of this number or of a greater one
abbrev pub NoCallsFrom : {C R : Type 0} → ℕ → List (Entry C R) → Type 0
NoCallsFrom count log = (n : ℕ) → count ≤ n → calls_by n log ≡ []

-- from the state s the object replies to each call what its entry says, and is then in the state t
abbrev pub Replays : {O C R : Type 0} → (O → ℕ → C → R → O → Type 0) → O → List (Entry C R) → O → Type 0
Replays performs s [] t = t ≡ s
Replays {O} performs s (e ∷ es) t = (m : O) × performs s e.pass e.command e.reply m × Replays performs m es t

-- a legal history: each reply is what the object replies after the entries before it
abbrev pub IsLegal : {O C R : Type 0} → (O → ℕ → C → R → O → Type 0) → O → List (Entry C R) → Type 0
IsLegal {O} performs opening log = (t : O) × Replays performs opening log t
