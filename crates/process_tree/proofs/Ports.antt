-- What the environment does at a port, as a row of commands.
use Rattle.std.proofs.Common.{◌≡◌, ℕ, zero, suc, List, [], ◌∷◌, map, refl, ap}
use Rattle.std.specs.Prelude.{replicate}
use Rattle.value.specs.Word.{Word}
use Rattle.system.specs.Expression.{constant}
use Rattle.process_tree.specs.Code.{sending, syncing, may_be_held, code}
use Rattle.process_tree.specs.Translation.{row_of, feed_of, syncs_of}

-- a feed is a row of sends
pub feed_is : (c w : ℕ) (vs : List Word) → feed_of c w vs ≡ row_of (map (λ v. may_be_held (sending c w (constant v))) vs)
feed_is c w [] = refl
feed_is c w (v ∷ vs) = ap (code (may_be_held (sending c w (constant v)))) (feed_is c w vs)

-- handshakes are a row of syncs
pub syncs_is : (c n : ℕ) → syncs_of c n ≡ row_of (replicate n (may_be_held (syncing c)))
syncs_is c zero = refl
syncs_is c (suc n) = ap (code (may_be_held (syncing c))) (syncs_is c n)
