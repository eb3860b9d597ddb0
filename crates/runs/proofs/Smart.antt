-- The smart constructors of residuals: what a move of one was, and how a move of a part is one of the whole.
use Rattle.std.proofs.Common.{◌≡◌, ◌⊎◌, inl, inr, ℕ, ◌∷◌, refl}
use Rattle.runs.specs.Moves.{Place, Move, Local}
use Rattle.address.specs.declared.Entry.TheVariants.{Ordered, Branch}
use Rattle.system.specs.Residual.{Residual, done, inside, beside, within, along}

-- a move of `within` is one of `inside`, or of what comes next if the child is finished
pub local_within : (i : ℕ) (child next : Residual) (a : Place) (m : Move) (q : Residual) →
    Local (within i child next) a m q → ((child ≡ done) × Local next a m q) ⊎ Local (inside i child next) a m q
local_within i done next a m q h = inl (refl, h)
local_within i child next a m q h = inr h

-- a move of the child is one of `within`
pub within_local : (i : ℕ) (child next : Residual) (b : Place) (m : Move) (t : Residual) →
    Local child b m t → Local (within i child next) (Ordered i ∷ b) m (within i t next)
within_local i done next b m t h = absurd h
within_local i child next b m t h = (b, t, refl, h, refl)

-- a move of `along` is one of `beside`, or of the rest if the branch is finished
pub local_along : (k : ℕ) (child rest : Residual) (a : Place) (m : Move) (q : Residual) →
    Local (along k child rest) a m q → ((child ≡ done) × Local rest a m q) ⊎ Local (beside k child rest) a m q
local_along k done rest a m q h = inl (refl, h)
local_along k child rest a m q h = inr h

-- a move of the branch is one of `along`
pub along_left : (k : ℕ) (child rest : Residual) (b : Place) (m : Move) (t : Residual) →
    Local child b m t → Local (along k child rest) (Branch k ∷ b) m (along k t rest)
along_left k done rest b m t h = absurd h
along_left k child rest b m t h = inl (b, t, refl, h, refl)

-- and so is a move of the rest
pub along_right : (k : ℕ) (child rest : Residual) (b : Place) (m : Move) (t : Residual) →
    Local rest b m t → Local (along k child rest) b m (along k child t)
along_right k done rest b m t h = h
along_right k child rest b m t h = inr (t, h, refl)
