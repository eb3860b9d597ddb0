-- How two lists of events are compared. (The contract of `same_run`, which cites none of this, is tied to it by the
-- proofs.)
use Rattle.std.specs.Prelude.{◌≡◌, ◌≢◌, ◌⊎◌, ◌↔◌, ℕ, ◌<◌, List, Vec, Option, Some, MatchOption, slice_get}
use Rattle.std.specs.Global.{Global}
use Rattle.std.specs.Map.{lookup}
use Rattle.std.specs.Ordering.{is_eq}
use Rattle.address.specs.Order.{order_of}
use Rattle.address.specs.declared.Entry.{Entry}
use Rattle.syntax.specs.Lists.{In}
use Rattle.dependence.specs.LastEvents as last
use Rattle.runs.specs.Dependence.{OnOneVariable, Earlier, Rearranged}
use Rattle.runs.specs.Events.{acting}
use Rattle.runs.specs.declared.event.Event.{Event}
use Rattle.calculus.specs.declared.index.Index.{Index}
use Rattle.calculus.specs.declared.uses.Uses.{Uses}

-- no two events of the list have one acting address
abbrev pub ActsOnce : List Event → Type 0
ActsOnce h = (e f : Event) → Earlier h e f → acting e ≡ acting f → ⊥

-- the lists have the same events, and any two on one variable, one of them writing it, stand in one order
pub record Alike (a b : List Event) : Type 0 where
  pub same_events : Rearranged a b
  pub one_order : (e f : Event) → Earlier a e f → OnOneVariable e f → Earlier b e f

-- the place that the index has for an address
abbrev pub place_at : Index → List Entry → Option ℕ
place_at index a = lookup (λ (k : Vec Entry Global). is_eq (order_of a k.items)) index.map.entries

-- the index has this place for the address a, and for each other address what it had
pub record PutAt (old : Index) (a : List Entry) (p : ℕ) (new : Index) : Type 0 where
  pub here : place_at new a ≡ Some p
  pub others : (b : List Entry) → b ≢ a → place_at new b ≡ place_at old b

-- the index has for each address the place of the event of h that acts there
abbrev pub Indexes : Index → List Event → Type 0
Indexes index h = (a : List Entry) →
    MatchOption (place_at index a)
    ((e : Event) → In e h → acting e ≡ a → ⊥) (λ p. (e : Event) × (slice_get h p ≡ Some e) × (acting e ≡ a))

-- nothing has been used
abbrev pub NoUses : Uses → Type 0
NoUses u = ((x t : ℕ) → last.Uses u.writers x t → ⊥) × ((x t : ℕ) → last.Uses u.users x t → ⊥)

-- of the places below n, those of events that wrote what e reads, and of those that used what e writes, are less than p
pub record AllBefore (u : Uses) (e : Event) (p n : ℕ) : Type 0 where
  pub read : (x t : ℕ) → In x e.read → last.Uses u.writers x t → t < n → t < p
  pub written : (x t : ℕ) → e.written ≡ Some x → last.Uses u.users x t → t < n → t < p

-- the uses of e are put at the place p
pub record UsesPut (old : Uses) (e : Event) (p : ℕ) (new : Uses) : Type 0 where
  pub writers : (x t : ℕ) → last.Uses new.writers x t ↔ (last.Uses old.writers x t ⊎ ((e.written ≡ Some x) × (t ≡ p)))
  pub users : (x t : ℕ) →
      last.Uses new.users x t ↔ (last.Uses old.users x t ⊎ ((In x e.read ⊎ (e.written ≡ Some x)) × (t ≡ p)))
