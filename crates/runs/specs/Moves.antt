-- Local moves: what a residual offers, at which place, and what it is afterwards.
use Rattle.std.specs.Prelude.{◌≡◌, ◌⊎◌, ℕ, ◌+◌, ◌*◌, List, [], ◌∷◌, Bool, true, false, Option, Some, None, slice_get}
use Rattle.address.specs.declared.Entry.{Entry}
use Rattle.address.specs.declared.Entry.TheVariants.{Ordered, Branch}
use Rattle.value.specs.Word.{Word}
use Rattle.system.specs.Expression.{Expression, Decision, by_guards}
use Rattle.system.specs.Residual.{Residual, done, halted, inside, beside, assign, send, receive, sync, held, loop, while, test, choose, closing, drain, within, along, arm_at, opened}

-- an address in a residual
abbrev pub Place : Type 0
Place = List Entry

-- a local move; it carries expressions and not their values
pub data Move : Type 0 where
  -- writes the value of the expression to the variable, at a width
  assigns : ℕ → ℕ → Expression → Move
  -- decides, and takes this arm or none
  tests : Decision → Option ℕ → Move
  turns : Move
  -- sends on a channel, at a width; true: to one that opens, and is held until the close
  sends : ℕ → ℕ → Expression → Bool → Move
  -- receives on a channel into a variable, or into none
  receives : ℕ → Option ℕ → Move
  -- a handshake without data; true: with one that opens, and is held until the close
  syncs : ℕ → Bool → Move
  -- opens an arm on a channel with the value received, if the channel has data
  opens : ℕ → ℕ → Option Word → Move
  releases : ℕ → Move
  closes : ℕ → Move

-- the residual r offers the move m at the place a, and is q after it
abbrev pub Local : Residual → Place → Move → Residual → Type 0
Local done a m q = ⊥
Local halted a m q = ⊥
Local (inside i child next) a m q =
    (b : Place) × (t : Residual) × (a ≡ Ordered i ∷ b) × Local child b m t × (q ≡ within i t next)
Local (beside k child rest) a m q =
    ((b : Place) × (t : Residual) × (a ≡ Branch k ∷ b) × Local child b m t × (q ≡ along k t rest))
    ⊎ ((t : Residual) × Local rest a m t × (q ≡ along k child t))
Local (assign x w e) a m q = (a ≡ []) × (m ≡ assigns x w e) × (q ≡ done)
Local (send c w e) a m q =
    (a ≡ Ordered 0 ∷ []) × (((m ≡ sends c w e false) × (q ≡ done)) ⊎ ((m ≡ sends c w e true) × (q ≡ held c)))
Local (receive c x) a m q = (a ≡ []) × (m ≡ receives c (Some x)) × (q ≡ done)
Local (sync c) a m q = (a ≡ Ordered 0 ∷ []) × (((m ≡ syncs c false) × (q ≡ done)) ⊎ ((m ≡ syncs c true) × (q ≡ held c)))
Local (held c) a m q = (a ≡ Ordered 1 ∷ []) × (m ≡ releases c) × (q ≡ done)
Local (loop k body) a m q = (a ≡ Ordered (2 * k) ∷ []) × (m ≡ turns) × (q ≡ within (2 * k + 1) body (loop (k + 1) body))
Local (while k e body) a m q =
    (a ≡ Ordered (2 * k) ∷ [])
    × (((m ≡ tests (by_guards (e ∷ []) false) (Some 0)) × (q ≡ within (2 * k + 1) body (while (k + 1) e body)))
    ⊎ ((m ≡ tests (by_guards (e ∷ []) false) None) × (q ≡ done)))
Local (test d arms) a m q =
    (a ≡ Ordered 0 ∷ [])
    × (((k : ℕ) × (m ≡ tests d (Some k)) × (q ≡ within 1 (arm_at arms k) done)) ⊎ ((m ≡ tests d None) × (q ≡ done)))
Local (choose channels arms) a m q =
    (a ≡ Ordered 0 ∷ [])
    × (c : ℕ) × (k : ℕ) × (v : Option Word) × (slice_get channels k ≡ Some c) × (m ≡ opens c k v)
    × (q ≡ within 1 (opened c v (arm_at arms k)) (closing c))
Local (closing c) a m q = (a ≡ Ordered 2 ∷ []) × (m ≡ closes c) × (q ≡ done)
Local (drain c k) a m q = (a ≡ Ordered k ∷ []) × (m ≡ receives c None) × (q ≡ drain c (k + 1))
