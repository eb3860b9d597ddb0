-- How deadlocked places are found by the indexes of actions: all are marked, and a mark is taken away where nothing
-- that is marked holds an action back. No reader has to believe it: the contract of `deadlocked_among` ties it to
-- `TellsDeadlocked`.
use Rattle.std.specs.Prelude.{◌≡◌, ◌⊎◌, ℕ, ◌<◌, ◌==◌, List, length, Bool, true, false, ◌&&◌, ◌||◌, Option, Some, None, slice_get}
use Rattle.runs.specs.Moves.{Place}
use Rattle.local_actions.specs.internal.At.{is_under}
use Rattle.local_actions.specs.declared.action.LocalAction.{LocalAction}
use Rattle.rings.specs.declared.partner.Partner.{Partner}
use Rattle.rings.specs.declared.partner.Partner.TheVariants as partner

-- whether there is a mark, and it is set
abbrev pub is_marked : Option Bool → Bool
is_marked (Some b) = b
is_marked None = false

-- whether there is an action at place p or below it
abbrev pub stands_under : Place → Option LocalAction → Bool
stands_under p (Some x) = is_under p x.place
stands_under p None = false

-- whether action j is marked and stands at place p or below it
abbrev pub supports : List LocalAction → List Bool → Place → ℕ → Bool
supports actions marks p j = is_marked (slice_get marks j) && stands_under p (slice_get actions j)

-- what is marked holds the partner back
abbrev pub Held : List LocalAction → List Bool → Partner → Type 0
Held actions marks (partner.Behind p) = (j : ℕ) × (supports actions marks p j ≡ true)
Held actions marks partner.Gone = Unit {0}
Held actions marks partner.Open = ⊥

-- nothing that is marked does
abbrev pub Released : List LocalAction → List Bool → Partner → Type 0
Released actions marks (partner.Behind p) = (j : ℕ) → supports actions marks p j ≡ false
Released actions marks partner.Gone = ⊥
Released actions marks partner.Open = Unit {0}

-- whether nothing holds a partner back, of one that may be there and waits for so many
abbrev pub is_free : Option Partner → ℕ → Bool
is_free (Some (partner.Behind p)) n = n == 0
is_free (Some partner.Open) n = true
is_free (Some partner.Gone) n = false
is_free None n = false

-- whether action i is marked, and is helped or not held back, where its partner waits for so many
abbrev pub is_loose : List Partner → List Bool → List Bool → ℕ → ℕ → Bool
is_loose partners helped marks count i =
    is_marked (slice_get marks i)
    && (is_marked (slice_get helped i) || is_free (slice_get partners i) count)

-- action i is not helped and held back
abbrev pub Firm : List LocalAction → List Partner → List Bool → List Bool → ℕ → Type 0
Firm actions partners helped marks i =
    (p : Partner) × (slice_get partners i ≡ Some p) × (is_marked (slice_get helped i) ≡ false) × Held actions marks p

-- it is helped, or not held back
abbrev pub Loose : List LocalAction → List Partner → List Bool → List Bool → ℕ → Type 0
Loose actions partners helped marks i =
    (p : Partner) × (slice_get partners i ≡ Some p)
    × ((is_marked (slice_get helped i) ≡ true) ⊎ Released actions marks p)

-- each action that is marked is firm
abbrev pub AllFirm : List LocalAction → List Partner → List Bool → List Bool → Type 0
AllFirm actions partners helped marks =
    (i : ℕ) → i < length actions → is_marked (slice_get marks i) ≡ true → Firm actions partners helped marks i

-- action i is marked, and loose
abbrev pub IsLoose : List LocalAction → List Partner → List Bool → List Bool → ℕ → Type 0
IsLoose actions partners helped marks i =
    (i < length actions) × (is_marked (slice_get marks i) ≡ true) × Loose actions partners helped marks i
