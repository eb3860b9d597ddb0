-- Breakpoints that are set again, one after another.
use Rattle.std.proofs.Common.{◌≡◌, ◌⊎◌, inl, inr, ℕ, ◌+◌, ◌<◌, ◌≤◌, arith, true, false, List, [], ◌∷◌, ◌++◌, refl, sym, ◌∙◌, subst}
use Rattle.std.specs.Prelude.{Contains}
use Rattle.std.proofs.Math.Nat.{eq-or-lt_of_le}
use Rattle.std.proofs.lemmas.List.Elements.{Contains-append_left, Contains-append_right}
use Rattle.syntax.specs.Lists.{Every}
use Rattle.system.specs.Expression.{is_in}
use Rattle.locked_execution.specs.AtDesk.{AtDesk, breaks_of}
use Rattle.locked_execution.specs.Performs.{Answers}
use Rattle.locked_execution.specs.declared.command.Command.{Command}
use Rattle.locked_execution.specs.declared.command.Reply.{Reply}
use Rattle.locked_execution.proofs.public.AskedLists.{answered-joins}
use Rattle.shell_desk.specs.internal.Again.{SetsAgain, IsAt, IsUpTo, IsOfFirst}
use Rattle.shell_desk.proofs.DeedLemmas.{true-false}

-- what holds of the elements of two lists holds of those of both
every-joins : {X : Type 0} (P : X → Type 0) (xs ys : List X) → Every P xs → Every P ys → Every P (xs ++ ys)
every-joins P [] ys h k = k
every-joins P (x ∷ xs) ys h k = (h.0, every-joins P xs ys h.1 k)

-- what is asked of a breakpoint
abbrev IsBreakAt : AtDesk → ℕ × Command → Type 0
IsBreakAt d x = (line : ℕ) × (x.1 ≡ Command.Break line) × (is_in line (breaks_of d x.0) ≡ true)

-- none is due
again-none : (before d m : AtDesk) (IsDue : ℕ → ℕ → Type 0) → m ≡ d
    → ((session line : ℕ) → IsDue session line → is_in line (breaks_of before session) ≡ true → ⊥) → SetsAgain before IsDue d m
again-none before d m IsDue e none = ([], [], tt, (refl, e), λ session line due there. absurd (none session line due there))

-- a line that is due, and is not there
not-there : (before : AtDesk) (session line s l : ℕ) → is_in line (breaks_of before session) ≡ false → IsAt session line s l
    → is_in l (breaks_of before s) ≡ true → ⊥
not-there before session line s l none (e, f) there =
    true-false (sym (subst (λ (x : ℕ). is_in x (breaks_of before session) ≡ true) f
    (subst (λ (x : ℕ). is_in l (breaks_of before x) ≡ true) e there)) ∙ none)

-- a line without a breakpoint
pub again-lacks : (before d : AtDesk) (session line : ℕ) → is_in line (breaks_of before session) ≡ false
    → SetsAgain before (IsAt session line) d d
again-lacks before d session line none =
    again-none before d d (IsAt session line) refl (λ s l due there. not-there before session line s l none due there)

-- the one that is set is among those that are set
among-one : (session line s l : ℕ) → IsAt session line s l → Contains {X = ℕ × Command} ((session, Command.Break line) ∷ []) (s, Command.Break l)
among-one session line s l (e, f) =
    let less : 0 < 1 = omega arith in
    subst (λ (x : ℕ). Contains {X = ℕ × Command} ((session, Command.Break line) ∷ []) (x, Command.Break l)) (sym e)
    (subst (λ (x : ℕ). Contains {X = ℕ × Command} ((session, Command.Break line) ∷ []) (session, Command.Break x)) (sym f) (0, less, refl))

-- a line with a breakpoint
pub again-one : (before d m : AtDesk) (session line : ℕ) (reply : Reply) → is_in line (breaks_of before session) ≡ true
    → Answers d session (Command.Break line) reply m → SetsAgain before (IsAt session line) d m
again-one before d m session line reply there answers = (
  (session, Command.Break line) ∷ [],
  reply ∷ [],
  ((line, refl, there), tt),
  (reply, [], m, refl, answers, (refl, refl)),
  λ s l due set. among-one session line s l due,
)

-- what is due in one of two parts
pub again-then : (before d m d' : AtDesk) (P Q R : ℕ → ℕ → Type 0) → SetsAgain before P d m → SetsAgain before Q m d'
    → ((s l : ℕ) → R s l → P s l ⊎ Q s l) → SetsAgain before R d d'
again-then before d m d' P Q R (xs, rs, are, answered, all) (ys, qs, are', answered', all') split = (
  xs ++ ys,
  rs ++ qs,
  every-joins (IsBreakAt before) xs ys are are',
  answered-joins d m d' xs ys rs qs answered answered',
  λ s l due there. elim (split s l due) [
    | inl p ↦ Contains-append_left xs ys (s, Command.Break l) (all s l p there)
    | inr q ↦ Contains-append_right xs ys (s, Command.Break l) (all' s l q there)
  ],
)

-- what is due in another way
pub again-by : (before d d' : AtDesk) (P Q : ℕ → ℕ → Type 0) → SetsAgain before P d d' → ((s l : ℕ) → Q s l → P s l)
    → SetsAgain before Q d d'
again-by before d d' P Q (xs, rs, are, answered, all) f = (xs, rs, are, answered, λ s l due there. all s l (f s l due) there)

-- no line is 0
no-line : (l : ℕ) → 0 < l → l ≤ 0 → ⊥
no-line l p q = omega arith

-- no session is before the first
no-session : (s : ℕ) → s < 0 → ⊥
no-session s p = omega arith

-- what is within a part is within the whole
within : (l last i : ℕ) → l ≤ last → last ≤ i → l ≤ i
within l last i p q = omega arith

below : (s count i : ℕ) → s < count → count ≤ i → s < i
below s count i p q = omega arith

-- one line less
at-most : (n i : ℕ) → n < i + 1 → n ≤ i
at-most n i less = omega arith

-- at first no line is due
pub lines-begin : (before d m : AtDesk) (session : ℕ) → m ≡ d → SetsAgain before (IsUpTo session 0) d m
lines-begin before d m session e =
    again-none before d m (IsUpTo session 0) e (λ s l due there. no-line l due.1 due.2)

-- one line more
line-more : (session i s l : ℕ) → IsUpTo session (i + 1) s l → IsUpTo session i s l ⊎ IsAt session (i + 1) s l
line-more session i s l (e, p, q) =
    elim (eq-or-lt_of_le q) [ inl same ↦ inr (e, same) | inr less ↦ inl (e, p, at-most l i less) ]

pub lines-more : (before d m d' : AtDesk) (session i : ℕ) → SetsAgain before (IsUpTo session i) d m
    → SetsAgain before (IsAt session (i + 1)) m d' → SetsAgain before (IsUpTo session (i + 1)) d d'
lines-more before d m d' session i first second =
    again-then before d m d' (IsUpTo session i) (IsAt session (i + 1)) (IsUpTo session (i + 1)) first second (line-more session i)

-- all lines
pub lines-end : (before d d' : AtDesk) (session last i : ℕ) → last ≤ i → SetsAgain before (IsUpTo session i) d d'
    → SetsAgain before (IsUpTo session last) d d'
lines-end before d d' session last i past h =
    again-by before d d' (IsUpTo session i) (IsUpTo session last) h
    (λ s l due. (due.0, due.1, within l last i due.2 past))

-- at first no session is due
pub sessions-begin : (before d m : AtDesk) (last : ℕ) → m ≡ d → SetsAgain before (IsOfFirst 0 last) d m
sessions-begin before d m last e =
    again-none before d m (IsOfFirst 0 last) e (λ s l due there. no-session s due.0)

-- one session more
session-more : (i last s l : ℕ) → IsOfFirst (i + 1) last s l → IsOfFirst i last s l ⊎ IsUpTo i last s l
session-more i last s l (p, q, r) =
    elim (eq-or-lt_of_le (at-most s i p)) [ inl same ↦ inr (same, q, r) | inr less ↦ inl (less, q, r) ]

pub sessions-more : (before d m d' : AtDesk) (i last : ℕ) → SetsAgain before (IsOfFirst i last) d m
    → SetsAgain before (IsUpTo i last) m d' → SetsAgain before (IsOfFirst (i + 1) last) d d'
sessions-more before d m d' i last first second =
    again-then before d m d' (IsOfFirst i last) (IsUpTo i last) (IsOfFirst (i + 1) last) first second (session-more i last)

-- all sessions
pub sessions-end : (before d d' : AtDesk) (last count i : ℕ) → count ≤ i → SetsAgain before (IsOfFirst i last) d d'
    → SetsAgain before (IsOfFirst count last) d d'
sessions-end before d d' last count i past h =
    again-by before d d' (IsOfFirst i last) (IsOfFirst count last) h (λ s l due. (below s count i due.0 past, due.1, due.2))
