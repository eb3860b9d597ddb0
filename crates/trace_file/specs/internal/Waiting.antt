-- Events that are taken one by one, each once none is left on which it depends directly: for how many each still waits,
-- and the queue of those that wait for none.
-- No reader has to believe it: `proofs/Taking.antt` ties it to `IsCanonicalOrder` of `Canonical.antt`.
use Rattle.std.specs.Prelude.{◌≡◌, ◌⊎◌, ◌↔◌, ◌==◌, ℕ, suc, ◌<◌, List, [], ◌∷◌, length, Bool, true, Some, slice_get, slice_set}
use Rattle.std.specs.List.{AllByRecursion, IsDistinct, list_any}
use Rattle.std.specs.List.Sorted.{IsPermutation}
use Rattle.std.specs.BinaryHeap.{IsHeap}
use Rattle.std.specs.Cmp.Lexicographic.{slice_cmp}
use Rattle.std.specs.Ordering.{nat_cmp, ordering_then}
use Rattle.std.specs.declared.cmp.Ordering.{Ordering}
use Rattle.std.specs.declared.cmp.Reverse.{Reverse}
use Rattle.address.specs.contracts.EntryOrd.TheImpl.{cmp-value}
use Rattle.syntax.specs.Lists.{In}
use Rattle.runs.specs.Dependence.{Directly}
use Rattle.runs.specs.Events.{acting}
use Rattle.runs.specs.InOrder.{InOrder}
use Rattle.runs.specs.Live.{Live, Rising, LiveAt, IsLive}
use Rattle.runs.specs.declared.event.Event.{Event}
use Rattle.dependence.specs.Followers.{Follower}
use Rattle.trace_file.specs.declared.queue.Free.{Free}

-- rest is what is left of l: some of it in order of tickets, and all that depends directly on one of these
pub record IsRest (l rest : Live) : Type 0 where
  pub rising : (next : ℕ) × Rising 0 rest next
  pub inside : (t : ℕ) (e : Event) → LiveAt rest t e → LiveAt l t e
  pub onward : (t u : ℕ) (e f : Event) → IsLive rest t → LiveAt l t e → LiveAt l u f → t < u → Directly e f →
      LiveAt rest u f

-- of the events that that of ticket u follows, n have a ticket of which Q holds
pub record WaitsFor (l : Live) (Q : ℕ → Type 0) (u n : ℕ) : Type 0 where
  pub tickets : List ℕ
  pub exactly : (t : ℕ) → In t tickets ↔ (Follower l t u × Q t)
  pub falling : InOrder (λ (a : ℕ) (b : ℕ). b < a) tickets
  pub count : length tickets ≡ n

-- at the index of each event for how many it waits, of those of which Q holds
pub record Counts (l : Live) (Q : ℕ → ℕ → Type 0) (left : List ℕ) : Type 0 where
  pub size : length left ≡ length l
  pub waits : (i u n : ℕ) (f : Event) → slice_get l i ≡ Some (u, f) → slice_get left i ≡ Some n →
      WaitsFor l (λ (t : ℕ). Q t u) u n

-- for that of ticket u is left what is left of all, and that of ticket t, where u is none of those to which its taking
-- was told
abbrev pub LeftFor : Live → ℕ → List ℕ → ℕ → ℕ → Type 0
LeftFor rest t told s u = IsLive rest s ⊎ ((s ≡ t) × (In u told → ⊥))

-- the index is that of an event of rest that waits for none
abbrev pub IsFree : Live → Live → List ℕ → ℕ → Type 0
IsFree l rest left i =
    ((t : ℕ) × (e : Event) × (slice_get l i ≡ Some (t, e)) × LiveAt rest t e) × (slice_get left i ≡ Some 0)

-- an entry of the queue has the acting address of the event at its index
abbrev pub IsEntry : Live → Reverse Free → Type 0
IsEntry l x = (t : ℕ) × (e : Event) × (slice_get l x.0.index ≡ Some (t, e)) × (x.0.acting.now ≡ acting e)

-- the order of the queue, of which the greatest comes first: that of the least acting address
abbrev pub queue_order : Reverse Free → Reverse Free → Ordering
queue_order x y = ordering_then (slice_cmp cmp-value.it y.0.acting.now x.0.acting.now) (nat_cmp y.0.index x.0.index)

-- whether both stand for one index
abbrev pub same_index : Reverse Free → Reverse Free → Bool
same_index x y = x.0.index == y.0.index

-- the queue has each event of rest that waits for none, once, and no others
pub record IsQueue (l rest : Live) (left : List ℕ) (items : List (Reverse Free)) : Type 0 where
  pub heap : IsHeap queue_order items
  pub entries : AllByRecursion (λ (x : Reverse Free). IsEntry l x × IsFree l rest left x.0.index) items
  pub once : IsDistinct same_index items
  pub all : (i : ℕ) → IsFree l rest left i → list_any (λ (x : Reverse Free). x.0.index == i) items ≡ true

-- new has what old has, and an entry of the event at the index
pub record Joins (l : Live) (index : ℕ) (old new : List (Reverse Free)) : Type 0 where
  pub entry : Reverse Free
  pub is : IsEntry l entry
  pub at : entry.0.index ≡ index
  pub permutation : IsPermutation (entry ∷ old) new
  pub heap : IsHeap queue_order old → IsHeap queue_order new

-- the event of ticket t, which is not left, was taken, and told to these
pub record Telling (l rest : Live) (t : ℕ) (told : List ℕ) (left : List ℕ) (items : List (Reverse Free)) : Type 0 where
  pub gone : IsLive rest t → ⊥
  pub followers : (u : ℕ) → Follower l t u → IsLive rest u
  pub within : (u : ℕ) (e : Event) → LiveAt rest u e → LiveAt l u e
  pub counts : Counts l (LeftFor rest t told) left
  pub queue : IsQueue l rest left items

-- each event of rest waits for those of rest that it follows
pub record Ready (l rest : Live) (left : List ℕ) (items : List (Reverse Free)) : Type 0 where
  pub counts : Counts l (λ (s : ℕ) (u : ℕ). IsLive rest s) left
  pub queue : IsQueue l rest left items

-- the event at the index was taken, and told to none yet
abbrev pub TellingAt : Live → Live → ℕ → List ℕ → List (Reverse Free) → Type 0
TellingAt l rest index left items =
    (t : ℕ) × (e : Event) × (slice_get l index ≡ Some (t, e)) × Telling l rest t [] left items

-- so it is for some rest
abbrev pub SomeTelling : Live → ℕ → List ℕ → List (Reverse Free) → Type 0
SomeTelling l index left items = (rest : Live) × TellingAt l rest index left items

-- it was told to all its followers
abbrev pub TellsAll : Live → ℕ → List ℕ → List (Reverse Free) → List ℕ → List (Reverse Free) → Type 0
TellsAll l index left items after more = (rest : Live) → TellingAt l rest index left items → Ready l rest after more

-- the event at the index waits for one at least
abbrev pub CanTell : Live → List ℕ → ℕ → Type 0
CanTell l left index = (index < length l) × ((n : ℕ) × (slice_get left index ≡ Some (suc n)))

-- it waits for one less, and is put into the queue where it waits for none
abbrev pub TellsOne : Live → ℕ → List ℕ → List (Reverse Free) → List ℕ → List (Reverse Free) → Type 0
TellsOne l index left items after more =
    (n : ℕ) → slice_get left index ≡ Some (suc n)
    → (after ≡ slice_set left index n) × (((n ≡ 0) × Joins l index items more) ⊎ ((n ≡ 0 → ⊥) × (more ≡ items)))
