-- A partner that makes no event.
use Rattle.std.proofs.Common.{◌≡◌, ℕ, List, Option, None, refl}
use Rattle.value.specs.Word.{Word}
use Rattle.runs.specs.Moves.{Place}
use Rattle.allowed_events.specs.internal.Meeting.{received, opened, closed, synced}
use Rattle.local_actions.specs.declared.action.ActionKind.{ActionKind}
use Rattle.local_actions.specs.declared.action.ActionKind.TheVariants.{Sends, Syncs, Releases}

pub not_received : (b : Place) (c : ℕ) (x : Option ℕ) (a : Place) (y : ActionKind) → ((d : ℕ) (v : Word) (read : List ℕ) → y ≡ Sends d v read → ⊥) →
    received b c x a y ≡ None
not_received b c x a (Sends d v read) h = absurd (h d v read refl)
not_received b c x a _ h = refl

pub not_opened : (b : Place) (c k : ℕ) (a : Place) (y : ActionKind) → ((d : ℕ) (v : Word) (read : List ℕ) → y ≡ Sends d v read → ⊥) → ((d : ℕ) → y ≡ Syncs d → ⊥) →
    opened b c k a y ≡ None
not_opened b c k a (Sends d v read) h g = absurd (h d v read refl)
not_opened b c k a (Syncs d) h g = absurd (g d refl)
not_opened b c k a _ h g = refl

pub not_closed : (b : Place) (c : ℕ) (a : Place) (y : ActionKind) → ((d : ℕ) → y ≡ Releases d → ⊥) → closed b c a y ≡ None
not_closed b c a (Releases d) h = absurd (h d refl)
not_closed b c a _ h = refl

pub not_synced : (b : Place) (c : ℕ) (a : Place) (y : ActionKind) → ((d : ℕ) → y ≡ Syncs d → ⊥) → synced b c a y ≡ None
not_synced b c a (Syncs d) h = absurd (h d refl)
not_synced b c a _ h = refl
