-- A line that the buffer of a reader has whole.
use Rattle.std.proofs.Common.{◌≡◌, ℕ, ◌+◌, ◌<◌, Bool, true, false, cond, eqb, List, [], ◌∷◌, ◌++◌, Option, Some, None, length, take, drop, get_or, sym, ap, ◌∙◌, subst, arith, eqb-true, append_assoc, length-take}
use Rattle.std.specs.List.{All}
use Rattle.std.specs.Io.KnownBytes.{Consumes, prepend_known}
use Rattle.std.proofs.lemmas.List.{get_or-take, take_more, take-append-drop}
use Rattle.std.proofs.lemmas.List.Elements.{All-from_get_or}
use Rattle.std.proofs.Math.Seq.{drop-append-add}
use Rattle.memchr.specs.Find.{is_byte, Passes, Nowhere, NoneBefore}
use Rattle.devices.specs.Counting.{IsNoEnd}
use Rattle.devices.specs.Taking.{StandsFirst}

-- where no byte is found there is no end of a line
pub no-end : (hay : List ℕ) → Nowhere (Passes (is_byte 10) hay) 0 (length hay) → All IsNoEnd hay
no-end hay none = All-from_get_or IsNoEnd hay 0 (λ i h is. none i (omega arith) h (ap (λ x. eqb x 10) is))

-- nor before the first that is found
pub line-before : (hay : List ℕ) (k : ℕ) → NoneBefore (Passes (is_byte 10) hay) 0 (length hay) k → All IsNoEnd (take k hay)
line-before hay k h =
    All-from_get_or IsNoEnd (take k hay) 0 (λ i below is.
    let before : i < k = omega (arith, length-take k hay, below) in
    h.before i (omega arith) before (ap (λ x. eqb x 10) (sym (get_or-take k hay i 0 before) ∙ is)))

-- the bytes are the line, its end and the rest
pub line-split : (hay : List ℕ) (k : ℕ) → k < length hay → Passes (is_byte 10) hay k → hay ≡ (take k hay ++ 10 ∷ []) ++ drop (k + 1) hay
line-split hay k lt is =
    sym (take-append-drop (k + 1) hay)
    ∙ ap (λ t. t ++ drop (k + 1) hay) (take_more hay k 0 lt ∙ ap (λ b. take k hay ++ b ∷ []) (eqb-true (get_or hay k 0) 10 is))

-- the line before the first end stands first
pub line-first : (hay line : List ℕ) (k : ℕ) → NoneBefore (Passes (is_byte 10) hay) 0 (length hay) k → Passes (is_byte 10) hay k → line ≡ take k hay
    → StandsFirst hay line
line-first hay line k before is e = (
  subst (All IsNoEnd) (sym e) (line-before hay k before),
  (
    drop (k + 1) hay,
    line-split hay k before.high is ∙ (append_assoc (take k hay) (10 ∷ []) (drop (k + 1) hay) ∙ ap (λ t. t ++ 10 ∷ drop (k + 1) hay) (sym e)),
  ),
)

-- where the line and its end are dropped the rest is left
pub line-passed : (bytes left line : List ℕ) → (rest : List ℕ) × (bytes ≡ line ++ 10 ∷ rest) → left ≡ drop (length line + 1) bytes → bytes ≡ line ++ 10 ∷ left
line-passed bytes left line (rest, e) d =
    let same : left ≡ rest = d ∙ (ap (drop (length line + 1)) e ∙ drop-append-add line (10 ∷ rest) 1) in
    e ∙ ap (λ t. line ++ 10 ∷ t) (sym same)

-- what is taken from the front of the buffer is taken from the bytes that are left
taken-from : (b : Bool) (buffer left text : List ℕ) (rest : Option (List ℕ)) → buffer ≡ text ++ left
    → Consumes (cond b None (prepend_known buffer rest)) (cond b None (prepend_known left rest)) text
taken-from true buffer left text rest e = tt
taken-from false buffer left text None e = tt
taken-from false buffer left text (Some xs) e = ap (λ t. t ++ xs) e ∙ append_assoc text left xs

-- the same of a reader whose device is as before
pub taken-front : (capacity capacity' : ℕ) (buffer left text : List ℕ) (rest rest' : Option (List ℕ)) → capacity' ≡ capacity → rest' ≡ rest
    → buffer ≡ text ++ left
    → Consumes (cond (eqb capacity 0) None (prepend_known buffer rest)) (cond (eqb capacity' 0) None (prepend_known left rest')) text
taken-front capacity capacity' buffer left text rest rest' same kept e =
    subst (λ n. Consumes (cond (eqb capacity 0) None (prepend_known buffer rest)) (cond (eqb n 0) None (prepend_known left rest')) text) (sym same)
    (subst (λ r. Consumes (cond (eqb capacity 0) None (prepend_known buffer rest)) (cond (eqb capacity 0) None (prepend_known left r)) text) (sym kept)
    (taken-from (eqb capacity 0) buffer left text rest e))
