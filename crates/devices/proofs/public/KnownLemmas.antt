-- Known bytes that are read or written one text after another.
use Rattle.std.proofs.Common.{◌≡◌, ℕ, List, [], ◌++◌, Option, Some, None, refl, sym, ap, ◌∙◌, append_assoc, append-nil, take, drop, length, length-append, length-take, subst, arith, ◌+◌, ◌≤◌, MatchResult, Result, Err}
use Rattle.std.proofs.lemmas.List.{take-append-drop}
use Rattle.devices.specs.Counting.{IsBeginning}
use Rattle.std.specs.Option.{IfSome}
use Rattle.std.specs.Io.KnownBytes.{Appends, Consumes, Keeps, IsAtEnd}

-- nothing is written
pub Appends-none : (u : Option (List ℕ)) → Appends u u []
Appends-none None = tt
Appends-none (Some xs) = sym (append-nil xs)

-- nothing is read
pub Consumes-none : (u : Option (List ℕ)) → Consumes u u []
Consumes-none None = tt
Consumes-none (Some xs) = refl

-- one text is written, and then another
pub Appends-then : (u v w : Option (List ℕ)) (a b : List ℕ) → Appends u v a → Appends v w b → Appends u w (a ++ b)
Appends-then None v w a b x y = tt
Appends-then (Some xs) None w a b x y = absurd x
Appends-then (Some xs) (Some ys) None a b x y = y
Appends-then (Some xs) (Some ys) (Some zs) a b x y = y ∙ ap (λ (t : List ℕ). t ++ b) x ∙ append_assoc xs a b

-- a text is written, and then nothing
pub Appends-kept : (u v w : Option (List ℕ)) (a : List ℕ) → Appends u v a → Keeps v w → Appends u w a
Appends-kept None v w a x y = tt
Appends-kept (Some xs) None w a x y = absurd x
Appends-kept (Some xs) (Some ys) None a x y = absurd y
Appends-kept (Some xs) (Some ys) (Some zs) a x y = y ∙ x

-- one text is read, and then another
pub Consumes-then : (u v w : Option (List ℕ)) (a b : List ℕ) → Consumes u v a → Consumes v w b → Consumes u w (a ++ b)
Consumes-then None v w a b x y = tt
Consumes-then (Some xs) None w a b x y = absurd x
Consumes-then (Some xs) (Some ys) None a b x y = y
Consumes-then (Some xs) (Some ys) (Some zs) a b x y = x ∙ ap (λ (t : List ℕ). a ++ t) y ∙ sym (append_assoc a b zs)

-- where the bytes were known at first they are known to be at their end
pub end-known : (u v w : Option (List ℕ)) (a : List ℕ) → Consumes u v a → IfSome v (λ _. IsAtEnd w) → IfSome u (λ _. IsAtEnd w)
end-known None v w a x y = tt
end-known (Some xs) None w a x y = absurd x
end-known (Some xs) (Some ys) w a x y = y

-- a writer took some of the rest
pub write-more : (u v w : Option (List ℕ)) (given rest left bytes : List ℕ) (count first unsent unsent' : ℕ) → Appends u v given → given ++ rest ≡ bytes
    → unsent ≤ first + length given → Appends v w (take count rest) → left ≡ drop count rest → count ≤ length rest → unsent' ≤ unsent + count
    → (x : List ℕ) × Appends u w x × (x ++ left ≡ bytes) × (unsent' ≤ first + length x)
write-more u v w given rest left bytes count first unsent unsent' x e n y l some more = (
  given ++ take count rest,
  Appends-then u v w given (take count rest) x y,
  append_assoc given (take count rest) left
      ∙ (ap (λ t. given ++ (take count rest ++ t)) l ∙ (ap (λ t. given ++ t) (take-append-drop count rest) ∙ e)),
  omega (arith, n, more, some, length-append given (take count rest), length-take count rest),
)

-- what is kept has nothing more
pub Keeps-none : (u v : Option (List ℕ)) → Keeps u v → Appends u v []
Keeps-none None v h = tt
Keeps-none (Some xs) None h = absurd h
Keeps-none (Some xs) (Some ys) h = h ∙ sym (append-nil xs)

-- nothing more is kept
none-Keeps : (u v : Option (List ℕ)) → Appends u v [] → Keeps u v
none-Keeps None v h = tt
none-Keeps (Some xs) None h = absurd h
none-Keeps (Some xs) (Some ys) h = h ∙ append-nil xs

-- where nothing is taken: it was interrupted, or it took none of the bytes and failed
pub nothing-taken : (u v : Option (List ℕ)) (bytes : List ℕ) → Appends u v (take 0 bytes) → Keeps u v
nothing-taken u v bytes h = none-Keeps u v h

-- a writer failed with some of the bytes taken
pub write-failed : {E : Type 0} (u v w : Option (List ℕ)) (given rest bytes : List ℕ) (first unsent unsent' wanted : ℕ) (fault : E) (r : Result (Unit {0}) E)
    → Appends u v given → given ++ rest ≡ bytes → unsent ≤ first + length given → Keeps v w → (unsent' ≤ unsent) × (wanted ≡ length rest) → r ≡ Err fault
    → (x : List ℕ) × Appends u w x × MatchResult r (λ _. x ≡ bytes) (λ _. IsBeginning bytes x)
    × MatchResult r (λ _. unsent' ≡ 0) (λ _. (length x + wanted ≡ length bytes) × (unsent' ≤ first + length x))
write-failed u v w given rest bytes first unsent unsent' wanted fault r x e n h (less, all) is =
    subst (λ q. (x : List ℕ) × Appends u w x × MatchResult q (λ _. x ≡ bytes) (λ _. IsBeginning bytes x)
    × MatchResult q (λ _. unsent' ≡ 0) (λ _. (length x + wanted ≡ length bytes) × (unsent' ≤ first + length x))) (sym is) (
      given,
      Appends-kept u v w given x h,
      (rest, sym e),
      (omega (arith, all, length-append given rest, ap length e), omega (arith, n, less)),
    )
