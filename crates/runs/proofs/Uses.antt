-- The moves of an event use its channel and its variables.
use Rattle.std.proofs.Common.{◌≡◌, ◌⊎◌, ℕ, ◌≤◌, max, List, [], ◌∷◌, Some, None, true, false, Bool, ◌==◌, nat_lt, if◌then◌else◌, inl, inr, ⊎_elim, refl, arith, le_trans}
use Rattle.std.proofs.Math.Nat.{le-max_left, le-max_right}
use Rattle.syntax.specs.Lists.{In}
use Rattle.address.specs.Places.{Apart}
use Rattle.system.specs.Expression.{Store, variables, decision_variables, ascending, inserted}
use Rattle.runs.specs.Moves.{sends, receives, syncs, opens, releases, closes, assigns, tests}
use Rattle.runs.specs.Events.{Located, at, Makes, assigning, testing, turning, meeting, opening, opening_without_data, shutting, syncing as syncs_together, places}
use Rattle.sharing_rule.specs.Measure.{Measure, most, only, sending, syncing}
use Rattle.runs.proofs.public.SharingWidths.{on_variable}
use Rattle.runs.specs.declared.event.Event.{Event}
use Rattle.runs.proofs.Most.{only_least, most_least}
use Rattle.runs.proofs.Clash.{count}

-- one of the moves ls of f counts k or more, at an address of f
abbrev pub Uses : Measure → List Located → Event → ℕ → Type 0
Uses M ls f k = (l : Located) × In l ls × In l.place (places f) × (k ≤ count M l.move)

-- an equal number counts in a maximum
pub only_left : (n c d k : ℕ) → d ≡ c → n ≤ max (only n c d) k
only_left n c d k e = le_trans (only_least n c d e) (le-max_left _ _)

-- each event on a channel has a move on its sending side
pub sender : (s : Store) (ls : List Located) (f : Event) (c : ℕ) → Makes s ls f → f.channel ≡ Some c → Uses (sending c) ls f 1
sender s ls f c (assigning a x w e) h = cc
sender s ls f c (testing a d k g) h = cc
sender s ls f c (turning a) h = cc
sender s ls f c (meeting a b d w e x p) h = (at a (sends d w e false), inl refl, inl refl, only_left 1 c d _ (cc))
sender s ls f c (opening a b d w k e p) h = (at a (sends d w e true), inl refl, inl refl, only_left 1 c d _ (cc))
sender s ls f c (opening_without_data a b d k p) h = (at a (syncs d true), inl refl, inl refl, only_least 1 c d (cc))
sender s ls f c (shutting a b d p) h = (at a (releases d), inl refl, inl refl, only_least 1 c d (cc))
sender s ls f c (syncs_together a b d p o) h = (at a (syncs d false), inl refl, inl refl, only_least 1 c d (cc))

-- ls are two moves at addresses of f, apart, and each uses the channel c
pub record Two (c : ℕ) (ls : List Located) (f : Event) : Type 0 where
  pub one : Located
  pub other : Located
  pub both : ls ≡ one ∷ other ∷ []
  pub apart : Apart one.place other.place
  pub of_one : In one.place (places f)
  pub of_other : In other.place (places f)
  pub counts_one : 1 ≤ count (syncing c) one.move
  pub counts_other : 1 ≤ count (syncing c) other.move

-- each event on a channel has two moves on it
pub two : (s : Store) (ls : List Located) (f : Event) (c : ℕ) → Makes s ls f → f.channel ≡ Some c → Two c ls f
two s ls f c (assigning a x w e) h = cc
two s ls f c (testing a d k g) h = cc
two s ls f c (turning a) h = cc
two s ls f c (meeting a b d w e None p) h = record {
  one = at a (sends d w e false);
  other = at b (receives d None);
  both = refl;
  apart = p;
  of_one = inl refl;
  of_other = inr (inl refl);
  counts_one = only_left 1 c d _ (cc);
  counts_other = only_least 1 c d (cc);
}
two s ls f c (meeting a b d w e (Some x) p) h = record {
  one = at a (sends d w e false);
  other = at b (receives d (Some x));
  both = refl;
  apart = p;
  of_one = inl refl;
  of_other = inr (inl refl);
  counts_one = only_left 1 c d _ (cc);
  counts_other = only_left 1 c d _ (cc);
}
two s ls f c (opening a b d w k e p) h = record {
  one = at a (sends d w e true);
  other = _;
  both = refl;
  apart = p;
  of_one = inl refl;
  of_other = inr (inl refl);
  counts_one = only_left 1 c d _ (cc);
  counts_other = only_least 1 c d (cc);
}
two s ls f c (opening_without_data a b d k p) h = record {
  one = at a (syncs d true);
  other = at b (opens d k None);
  both = refl;
  apart = p;
  of_one = inl refl;
  of_other = inr (inl refl);
  counts_one = only_least 1 c d (cc);
  counts_other = only_least 1 c d (cc);
}
two s ls f c (shutting a b d p) h = record {
  one = at a (releases d);
  other = at b (closes d);
  both = refl;
  apart = p;
  of_one = inl refl;
  of_other = inr (inl refl);
  counts_one = only_least 1 c d (cc);
  counts_other = only_least 1 c d (cc);
}
two s ls f c (syncs_together a b d p o) h = record {
  one = at a (syncs d false);
  other = at b (syncs d false);
  both = refl;
  apart = p;
  of_one = inl refl;
  of_other = inr (inl refl);
  counts_one = only_least 1 c d (cc);
  counts_other = only_least 1 c d (cc);
}

-- an event that writes a variable has a move that writes it
pub writer : (s : Store) (ls : List Located) (f : Event) (x : ℕ) → Makes s ls f → f.written ≡ Some x → Uses (on_variable x) ls f 2
writer s ls f x (assigning a y w e) h = (at a (assigns y w e), inl refl, inl refl, only_left 2 x y _ (cc))
writer s ls f x (testing a d k g) h = cc
writer s ls f x (turning a) h = cc
writer s ls f x (meeting a b d w e None p) h = cc
writer s ls f x (meeting a b d w e (Some y) p) h =
    (at b (receives d (Some y)), inr (inl refl), inr (inl refl), le_trans (only_least 2 x y (cc)) (le-max_right 0 _))
writer s ls f x (opening a b d w k e p) h = cc
writer s ls f x (opening_without_data a b d k p) h = cc
writer s ls f x (shutting a b d p) h = cc
writer s ls f x (syncs_together a b d p o) h = cc

-- what is in a list with one more is that one or in the list
inserted_in : (x y : ℕ) (ys : List ℕ) → In x (inserted y ys) → (x ≡ y) ⊎ In x ys
inserted_in x y [] h = h
inserted_in x y (z ∷ ys) h = go (y == z) (nat_lt y z) (inserted_in x y ys) h
  where
    go : (p q : Bool) → (In x (inserted y ys) → (x ≡ y) ⊎ In x ys) →
        In x (if p then (z ∷ ys) else (if q then (y ∷ z ∷ ys) else (z ∷ inserted y ys))) → (x ≡ y) ⊎ (x ≡ z) ⊎ In x ys
    go true q ih k = inr k
    go false true ih k = k
    go false false ih (inl e) = inr (inl e)
    go false false ih (inr k) = ⊎_elim inl (λ i. inr (inr i)) (ih k)

-- a number of the ascending list is one of the list
ascending_in : (x : ℕ) (xs : List ℕ) → In x (ascending xs) → In x xs
ascending_in x [] h = h
ascending_in x (y ∷ ys) h = ⊎_elim inl (λ k. inr (ascending_in x ys k)) (inserted_in x y (ascending ys) h)

-- a variable of the list is counted
read_least : (x : ℕ) (xs : List ℕ) → In x (ascending xs) → 1 ≤ most (only 1 x) xs
read_least x xs h = most_least x xs (ascending_in x xs h)

-- an event that reads a variable has a move that reads it
pub reader : (s : Store) (ls : List Located) (f : Event) (x : ℕ) → Makes s ls f → In x f.read → Uses (on_variable x) ls f 1
reader s ls f x (assigning a y w e) h = (at a (assigns y w e), inl refl, inl refl, le_trans (read_least x (variables e) h) (le-max_right (only 2 x y) _))
reader s ls f x (testing a d k g) h = (at a (tests d k), inl refl, inl refl, read_least x (decision_variables d) h)
reader s ls f x (turning a) h = elim h [ ]
reader s ls f x (meeting a b d w e y p) h = (at a (sends d w e false), inl refl, inl refl, le_trans (read_least x (variables e) h) (le-max_right 0 _))
reader s ls f x (opening a b d w k e p) h = (at a (sends d w e true), inl refl, inl refl, le_trans (read_least x (variables e) h) (le-max_right 0 _))
reader s ls f x (opening_without_data a b d k p) h = elim h [ ]
reader s ls f x (shutting a b d p) h = elim h [ ]
reader s ls f x (syncs_together a b d p o) h = elim h [ ]

-- an event that reads or writes a variable has a move that uses it
pub user : (s : Store) (ls : List Located) (f : Event) (x : ℕ) → Makes s ls f → In x f.read ⊎ (f.written ≡ Some x) → Uses (on_variable x) ls f 1
user s ls f x m (inl h) = reader s ls f x m h
user s ls f x m (inr h) = let u = writer s ls f x m h in (u.0, u.1, u.2, omega arith)
