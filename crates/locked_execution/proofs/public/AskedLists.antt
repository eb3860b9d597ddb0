-- Lists of commands that sessions ask, one more at a time.
use Rattle.std.proofs.Common.{◌≡◌, inl, inr, ℕ, zero, suc, ◌+◌, ◌<◌, ◌≤◌, List, [], ◌∷◌, ◌++◌, length, take, get_or, refl, sym, ap, subst, arith}
use Rattle.syntax.specs.Lists.{In, Every}
use Rattle.runs.proofs.public.Lists.{every-in}
use Rattle.machine.proofs.public.Gathering.{take-more, take-all}
use Rattle.locked_execution.specs.AtDesk.{AtDesk}
use Rattle.locked_execution.specs.Answered.{Answered}
use Rattle.locked_execution.specs.Performs.{Answers}
use Rattle.locked_execution.specs.Replies.{AnsweredJoins}
use Rattle.locked_execution.specs.declared.command.Command.{Command}
use Rattle.locked_execution.specs.declared.command.Reply.{Reply}

-- commands that are answered, and then others
pub answered-joins : AnsweredJoins
answered-joins d m d' [] ds rs qs h k =
    subst (λ (r : List Reply). Answered d ds (r ++ qs) d') (sym h.0) (subst (λ (a : AtDesk). Answered a ds qs d') h.1 k)
answered-joins d m d' (c ∷ cs) ds rs qs h k =
    (h.0, h.1 ++ qs, h.2, ap (λ (r : List Reply). r ++ qs) h.3, h.4, answered-joins h.2 m d' cs ds h.1 qs h.5 k)

-- commands that are answered, and one behind them
answered-then : (d m d' : AtDesk) (xs : List (ℕ × Command)) (x : ℕ × Command) (replies : List Reply) (reply : Reply) →
    Answered d xs replies m → Answers m x.0 x.1 reply d' → Answered d (xs ++ x ∷ []) (replies ++ reply ∷ []) d'
answered-then d m d' xs x replies reply before now =
    answered-joins d m d' xs (x ∷ []) replies (reply ∷ []) before (reply, [], d', refl, now, (refl, refl))

-- one more command
pub answered-more : (d m d' : AtDesk) (xs : List (ℕ × Command)) (i : ℕ) (x : ℕ × Command) (replies after : List Reply) (reply : Reply) →
    i < length xs → x ≡ get_or xs i x → Answered d (take i xs) replies m → Answers m x.0 x.1 reply d' → after ≡ replies ++ reply ∷ [] →
    Answered d (take (i + 1) xs) after d'
answered-more d m d' xs i x replies after reply less is before now e =
    subst (λ (rs : List Reply). Answered d (take (i + 1) xs) rs d') (sym e)
    (subst (λ (ys : List (ℕ × Command)). Answered d ys (replies ++ reply ∷ []) d') (sym (take-more xs i x less is))
    (answered-then d m d' (take i xs) x replies reply before now))

pub answered-all : (d d' : AtDesk) (xs : List (ℕ × Command)) (i : ℕ) (replies : List Reply) → length xs ≤ i → Answered d (take i xs) replies d' → Answered d xs replies d'
answered-all d d' xs i replies past h = subst (λ (ys : List (ℕ × Command)). Answered d ys replies d') (take-all xs i past) h

-- the element of a loop is one of the list
in-item : {X : Type 0} (l : List X) (i : ℕ) (x : X) → i < length l → x ≡ get_or l i x → In x l
in-item [] i x less is = absurd (omega arith)
in-item (y ∷ l) zero x less is = inl is
in-item (y ∷ l) (suc i) x less is = inr (in-item l i x (omega arith) is)

-- each session is one of the sixteen
pub session-within : (xs : List (ℕ × Command)) (i : ℕ) (x : ℕ × Command) → Every (λ (y : ℕ × Command). y.0 < 16) xs → i < length xs → x ≡ get_or xs i x → x.0 < 16
session-within xs i x all less is = every-in (λ (y : ℕ × Command). y.0 < 16) xs x all (in-item xs i x less is)
