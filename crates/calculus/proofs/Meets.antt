-- Two moves that make an event, and those that make none.
use Rattle.std.proofs.Common.{◌≡◌, ℕ, List, Bool, Option, None, refl}
use Rattle.value.specs.Word.{Word}
use Rattle.system.specs.Expression.{Expression, Store, variables, ascending}
use Rattle.runs.specs.Moves as model
use Rattle.runs.specs.Moves.{Place}
use Rattle.runs.specs.Events.{sent}
use Rattle.runs.specs.internal.Made.{made_by_send, made_by_held_send, made_by_held_sync, made_by_release, made_by_sync}
use Rattle.calculus.specs.internal.Meets.{met, opened_by_send}
use Rattle.calculus.specs.internal.Meanings.{move_of}
use Rattle.calculus.specs.declared.moves.Move.{Move}
use Rattle.calculus.specs.declared.moves.Move.TheVariants.{Receives, Syncs, Opens, Closes}

-- a send and the move that meets it
pub met_is : (s : Store) (a : Place) (c w : ℕ) (e : Expression) (b : Place) (m : model.Move)
    → made_by_send s a c w e b m ≡ met a b c (sent s w e) (ascending (variables e)) m
met_is s a c w e b (model.receives d x) = refl
met_is s a c w e b _ = refl

-- a send that is held, and the open that meets it
pub opened_by_send_is : (s : Store) (a : Place) (c w : ℕ) (e : Expression) (b : Place) (m : model.Move)
    → made_by_held_send s a c w e b m ≡ opened_by_send a b c (sent s w e) (ascending (variables e)) m
opened_by_send_is s a c w e b (model.opens d k v) = refl
opened_by_send_is s a c w e b _ = refl

pub not_met : (a b : Place) (c : ℕ) (v : Word) (read : List ℕ) (m : Move) → ((d : ℕ) (x : Option ℕ) → m ≡ Receives d x → ⊥)
    → met a b c v read (move_of m) ≡ None
not_met a b c v read (Receives d x) h = absurd (h d x refl)
not_met a b c v read _ h = refl

pub not_opened_by_send : (a b : Place) (c : ℕ) (v : Word) (read : List ℕ) (m : Move) → ((d k : ℕ) (u : Option Word) → m ≡ Opens d k u → ⊥)
    → opened_by_send a b c v read (move_of m) ≡ None
not_opened_by_send a b c v read (Opens d k u) h = absurd (h d k u refl)
not_opened_by_send a b c v read _ h = refl

pub not_opened_by_sync : (a : Place) (c : ℕ) (b : Place) (m : Move) → ((d k : ℕ) (u : Option Word) → m ≡ Opens d k u → ⊥)
    → made_by_held_sync a c b (move_of m) ≡ None
not_opened_by_sync a c b (Opens d k u) h = absurd (h d k u refl)
not_opened_by_sync a c b _ h = refl

pub not_closed : (a : Place) (c : ℕ) (b : Place) (m : Move) → ((d : ℕ) → m ≡ Closes d → ⊥) → made_by_release a c b (move_of m) ≡ None
not_closed a c b (Closes d) h = absurd (h d refl)
not_closed a c b _ h = refl

pub not_synced : (a : Place) (c : ℕ) (b : Place) (m : Move) → ((d : ℕ) (held : Bool) → m ≡ Syncs d held → ⊥) → made_by_sync a c b (move_of m) ≡ None
not_synced a c b (Syncs d held) h = absurd (h d held refl)
not_synced a c b _ h = refl
