-- Moves that a residual may make now or later, and where those of a sequence and of a parallel are.
use Rattle.runs.proofs.public.Lists.{every-right}
use Rattle.std.proofs.Common.{◌≡◌, ◌⊎◌, ℕ, ◌+◌, List, [], ◌∷◌, ◌++◌, Some, inl, inr, sym, refl, subst, ⊎_elim, arith}
use Rattle.address.specs.declared.Entry.TheVariants.{Ordered, Branch}
use Rattle.syntax.specs.Lists.{In}
use Rattle.runs.specs.Moves.{Place, Move, Local, receives}
use Rattle.address.specs.Places.{Apart}
use Rattle.system.specs.Residual.{Residual, done, inside, beside, receive, within, along}
use Rattle.runs.specs.Events.{Located, at}
use Rattle.runs.specs.Steps.{Moves}
use Rattle.runs.proofs.public.WellFormed.{WellFormed, StartsFrom}
use Rattle.runs.proofs.Clear.{Clear, ever}

-- after the moves ls, r offers the move n at the place b
abbrev pub Later : Residual → List Located → Place → Move → Type 0
Later r [] b n = (q : Residual) × Local r b n q
Later r (l ∷ ls) b n = (t : Residual) × Local r l.place l.move t × Later t ls b n

-- b is in the child, or is a place of what comes next
abbrev pub LaterInside : ℕ → Residual → Residual → Place → Move → Type 0
LaterInside i child next b n =
    ((c : Place) × (ls : List Located) × (b ≡ Ordered i ∷ c) × Later child ls c n) ⊎ ((ls : List Located) × Later next ls b n)

-- b is in the child, or is a place of the other branches
abbrev pub LaterBeside : ℕ → Residual → Residual → Place → Move → Type 0
LaterBeside k child rest b n =
    ((c : Place) × (ls : List Located) × (b ≡ Branch k ∷ c) × Later child ls c n) ⊎ ((ls : List Located) × Later rest ls b n)

-- a later move of `within` is one of `inside` or of what comes next
within_later : (i : ℕ) (child next : Residual) (ls : List Located) (b : Place) (n : Move) →
    Later (within i child next) ls b n → Later (inside i child next) ls b n ⊎ Later next ls b n
within_later i done next ls b n h = inr h
within_later i _ next ls b n h = inl h

-- a move of the child comes first
ahead_inside : (i : ℕ) (child t next : Residual) (a b : Place) (m n : Move) →
    Local child a m t → LaterInside i t next b n → LaterInside i child next b n
ahead_inside i child t next a b m n h (inl (c, ls, e, k)) = inl (c, at a m ∷ ls, e, (t, h, k))
ahead_inside i child t next a b m n h (inr k) = inr k

-- where a later move of `inside` is
pub later_inside : (i : ℕ) (child next : Residual) (ls : List Located) (b : Place) (n : Move) →
    Later (inside i child next) ls b n → LaterInside i child next b n
later_inside i child next [] b n (q, (c, t, e, h, f)) = inl (c, [], e, (t, h))
later_inside i child next (l ∷ ls) b n (t, (c, s, e, h, f), k) =
    ahead_inside i child s next c b l.move n h
    (⊎_elim (λ j. later_inside i s next ls b n j) (λ j. inr (ls, j))
    (within_later i s next ls b n (subst (λ r. Later r ls b n) f k)))

-- a move of `along` is one of `beside`
pub along_local : (k : ℕ) (child rest : Residual) (a : Place) (m : Move) (q : Residual) →
    Local (along k child rest) a m q → Local (beside k child rest) a m q
along_local k done rest a m q h = inr (q, h, refl)
along_local k _ rest a m q h = h

-- a later move of `along` is one of `beside`
along_later : (k : ℕ) (child rest : Residual) (ls : List Located) (b : Place) (n : Move) →
    Later (along k child rest) ls b n → Later (beside k child rest) ls b n
along_later k child rest [] b n (q, h) = (q, along_local k child rest b n q h)
along_later k child rest (l ∷ ls) b n (t, h, j) = (t, along_local k child rest l.place l.move t h, j)

-- a move of the branch comes first
ahead_child : (k : ℕ) (child t rest : Residual) (a b : Place) (m n : Move) →
    Local child a m t → LaterBeside k t rest b n → LaterBeside k child rest b n
ahead_child k child t rest a b m n h (inl (c, ls, e, j)) = inl (c, at a m ∷ ls, e, (t, h, j))
ahead_child k child t rest a b m n h (inr j) = inr j

-- a move of the other branches comes first
ahead_rest : (k : ℕ) (child rest t : Residual) (a b : Place) (m n : Move) →
    Local rest a m t → LaterBeside k child t b n → LaterBeside k child rest b n
ahead_rest k child rest t a b m n h (inl j) = inl j
ahead_rest k child rest t a b m n h (inr (ls, j)) = inr (at a m ∷ ls, (t, h, j))

-- where a later move of `beside` is
pub later_beside : (k : ℕ) (child rest : Residual) (ls : List Located) (b : Place) (n : Move) →
    Later (beside k child rest) ls b n → LaterBeside k child rest b n
later_beside k child rest [] b n (q, inl (c, t, e, h, f)) = inl (c, [], e, (t, h))
later_beside k child rest [] b n (q, inr (t, h, f)) = inr ([], (t, h))
later_beside k child rest (l ∷ ls) b n (t, inl (c, s, e, h, f), j) =
    ahead_child k child s rest c b l.move n h
    (later_beside k s rest ls b n (along_later k s rest ls b n (subst (λ r. Later r ls b n) f j)))
later_beside k child rest (l ∷ ls) b n (t, inr (s, h, f), j) =
    ahead_rest k child rest s l.place b l.move n h
    (later_beside k child s ls b n (along_later k child s ls b n (subst (λ r. Later r ls b n) f j)))

-- a move of a list of moves is one that may come later
pub later_of : (r q : Residual) (ls : List Located) (l : Located) → Moves r ls q → In l ls → (before : List Located) × Later r before l.place l.move
later_of r q [] l h k = elim k [ ]
later_of r q (x ∷ ls) l (t, h, hs) (inl e) = ([], (t, subst (λ y. Local r y.place y.move t) (sym e) h))
later_of r q (x ∷ ls) l (t, h, hs) (inr k) = let j = later_of t q ls l hs k in (x ∷ j.0, (t, h, j.1))

-- a later move is the last of a list of moves
later_moves : (r : Residual) (ls : List Located) (b : Place) (n : Move) → Later r ls b n → (q : Residual) × Moves r (ls ++ at b n ∷ []) q
later_moves r [] b n (q, h) = (q, (q, h, refl))
later_moves r (l ∷ ls) b n (t, h, k) = let j = later_moves t ls b n k in (j.0, (t, h, j.1))

-- nothing is apart from a place that ends in an ordered number
pub alone : (i : ℕ) (b : Place) → Apart (Ordered i ∷ []) b → ⊥
alone i [] h = h
alone i (Ordered j ∷ b) h = h.1
alone i (Branch j ∷ b) h = h

-- what is clear of a child is not apart from a place in it
not_apart : (i : ℕ) (a b : Place) → Clear (Ordered i ∷ []) b → Apart (Ordered i ∷ a) b → ⊥
not_apart i a [] c h = h
not_apart i a (Branch j ∷ b) c h = h
not_apart i a (Ordered j ∷ b) (inl (inl less)) h = let e = h.0 in absurd (omega arith)
not_apart i a (Ordered j ∷ b) (inl (inr same)) h = same.1
not_apart i a (Ordered j ∷ b) (inr c) h = c.1

-- what comes after a child is not apart from its places: any move could stand in the child's place
pub after_child : (i : ℕ) (next : Residual) (ls : List Located) (a b : Place) (n : Move) →
    WellFormed next → StartsFrom (i + 1) next → Later next ls b n → Apart (Ordered i ∷ a) b → ⊥
after_child i next ls a b n w s h =
    let j = later_moves next ls b n h in
    not_apart i a b
    (every-right (λ k. Clear (Ordered i ∷ []) k.place) ls (at b n ∷ [])
    (ever (inside i (receive 0 0) next) j.0 (at (Ordered i ∷ []) (receives 0 (Some 0))) (ls ++ at b n ∷ [])
    (tt, w, s) (next, ([], done, refl, (refl, refl, refl), refl), j.1))).0
