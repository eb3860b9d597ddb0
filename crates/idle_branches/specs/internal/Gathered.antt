-- What is gathered from the branches of a system, one after another.
-- No reader has to believe it: what it leads to are the laws of `Idle.antt`.
use Rattle.std.specs.Prelude.{◌≡◌, ℕ, ◌+◌, List, length}
use Rattle.system.specs.Residual.{Residual}
use Rattle.idle_branches.specs.declared.ends.Ends.{Ends}
use Rattle.idle_branches.specs.internal.Known.{FitEach, Grows, known_at}

-- branches that are to do this were added: where all that was gathered afterwards is known, so was all before, and what
-- these are to do fits
pub record AddsParts (before : Ends) (rs : List Residual) (after : Ends) : Type 0 where
  pub count : after.count ≡ before.count + length rs
  pub fits : (acting giving : List (List ℕ)) →
      Grows after.used.acting.items acting × Grows after.used.giving.items giving →
      (Grows before.used.acting.items acting × Grows before.used.giving.items giving)
      × FitEach (known_at acting giving) before.count rs
