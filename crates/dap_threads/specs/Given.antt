-- The lists that responses give.
use Rattle.std.specs.Prelude.{ℕ, zero, suc, ◌≡◌, ◌<◌, ◌+◌, ◌^◌, List, [], ◌∷◌, ◌++◌, Some, codes, map}
use Rattle.serde_json.specs.Data.{Data, array}
use Rattle.serde_json.specs.Find.{get}
use Rattle.serde_json.specs.View.{items_of}
use Rattle.dap_messages.specs.Arguments.{number_named}
use Rattle.dap_messages.specs.Notes.{IsDoneWith}
use Rattle.dap_messages.specs.declared.answer.Outcome.{Outcome}
use Rattle.dap_views.specs.Handles.{number_of, reference}
use Rattle.dap_views.specs.declared.handles.Handle.{Handle}

-- a request is done, and its response gives a list of this name with these items
pub record Gives (name : List ℕ) (items : List Data) (outcome : Outcome) : Type 0 where
  pub body : Data
  pub done : IsDoneWith body outcome
  pub listed : get name body ≡ Some (array (items_of items))

-- the numbers from 1 on, so many
abbrev pub numbers_to : ℕ → List ℕ
numbers_to zero = []
numbers_to (suc n) = numbers_to n ++ (n + 1) ∷ []

-- the items have these numbers, in order
abbrev pub AreNumbered : List Data → List ℕ → Type 0
AreNumbered items ids = map (number_named (codes "id")) items ≡ map (λ (id : ℕ). Some id) ids

-- the number by which a client unfolds an item is that of this
abbrev pub IsUnfoldedBy : Data → Handle → Type 0
IsUnfoldedBy d handle =
    number_of handle < 2 ^ 32 → number_named (codes "variablesReference") d ≡ Some (reference handle)

-- so it is of each item, in order
abbrev pub AreUnfoldedBy : List Data → List Handle → Type 0
AreUnfoldedBy [] [] = Unit {0}
AreUnfoldedBy (d ∷ ds) (handle ∷ handles) = IsUnfoldedBy d handle × AreUnfoldedBy ds handles
AreUnfoldedBy _ _ = ⊥
