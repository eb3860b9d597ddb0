-- From where on tokens count.
use Rattle.std.proofs.Common.{◌≡◌, inl, inr, ℕ, zero, suc, ◌-◌, ◌≤◌, Bool, true, false, List, [], ◌∷◌, ◌++◌, take, drop, sym, ◌∙◌, ap, subst, append_assoc, arith}
use Rattle.std.proofs.Math.Seq.{take-nil}
use Rattle.std.proofs.lemmas.List.{take-append-drop}
use Rattle.std.specs.Prelude.{slice_range}
use Rattle.std.specs.Bool.{MatchBool}
use Rattle.lexer.specs.declared.token.Kind.{Kind}
use Rattle.lexer.specs.declared.token.Token.{Token}
use Rattle.lexer.specs.internal.Parts.{BeginsProcedure}
use Rattle.parser.specs.Accepted.{Begins, IsRefused, Parses}
use Rattle.parser.specs.internal.Parts.{Opens, joined}
use Rattle.parser.proofs.public.PartLaws.{begins_on, opens}
use Rattle.viable_tokens.specs.Viable.{CanStand}
use Rattle.viable_tokens.specs.internal.Trials.{Counts, IsHopeless, IsWhole, Passes}
use Rattle.viable_tokens.proofs.Ends.{begins_alike, not_both}

-- behind what is whole
pub passes_whole : (before : List Token) → IsWhole before → Passes before
passes_whole before whole =
    let opened : Opens before (whole.0).0 = opens before (whole.0).0 (whole.0).1 whole.1 in
    record {
      begins = λ part begins b.
          let p = opened.parses (part ++ b.tail) (begins_on part b.tail begins) b.whole b.spells in
          record {
            tail = b.tail;
            whole = joined (whole.0).0 b.whole;
            spells = subst (λ tokens. Parses tokens (joined (whole.0).0 b.whole)) (sym (append_assoc before part b.tail)) p;
          };
      refused = opened.refused;
    }

-- behind what passes and then what is whole, which begins with `procedure` or has no token
pub passes_on : (before part : List Token) → ((next : List Token) → BeginsProcedure next → BeginsProcedure (part ++ next))
    → Passes before → Passes part → Passes (before ++ part)
passes_on before part begins first second = record {
  begins = λ next is b. subst Begins (sym (append_assoc before part next))
      (first.begins (part ++ next) (begins next is) (second.begins next is b));
  refused = λ next is fault r. subst (λ tokens. IsRefused tokens fault) (sym (append_assoc before part next))
      (first.refused (part ++ next) (begins next is) fault (second.refused next is fault r));
}

no_less : (index : ℕ) → index - 0 ≡ index
no_less index = omega arith

one_less : (first index : ℕ) → suc index - suc first ≡ index - first
one_less first index = omega arith

-- tokens up to an index, cut in two
cut : (tokens : List Token) (first index : ℕ) → first ≤ index
    → take first tokens ++ take (index - first) (drop first tokens) ≡ take index tokens
cut tokens zero index fits = ap (λ n. take n tokens) (no_less index)
cut [] (suc first) index fits = take-nil (index - suc first) ∙ sym (take-nil index)
cut (token ∷ rest) (suc first) zero fits = absurd (omega (arith, fits))
cut (token ∷ rest) (suc first) (suc index) fits =
    ap (λ n. token ∷ (take first rest ++ take n (drop first rest))) (one_less first index)
    ∙ ap (λ t. token ∷ t) (cut rest first index (omega (arith, fits)))

-- a part of tokens that begin with `procedure` begins so, or has no token
part_begins : (tokens : List Token) (size : ℕ) → BeginsProcedure tokens → (next : List Token) → BeginsProcedure next
    → BeginsProcedure (take size tokens ++ next)
part_begins [] size is next begins = absurd is
part_begins (token ∷ rest) zero is next begins = begins
part_begins (token ∷ rest) (suc size) is next begins = is

-- where a part is whole, the tokens behind it count, if they begin with `procedure`
pub counts_on : (tokens : List Token) (first index : ℕ) → first ≤ index → Counts tokens first
    → IsWhole (slice_range tokens first index) → BeginsProcedure (drop index tokens) → Counts tokens index
counts_on tokens first index fits (inl none) whole begins =
    let here : slice_range tokens first index ≡ take index tokens = ap (λ n. slice_range tokens n index) none
    ∙ ap (λ n. take n tokens) (no_less index) in
    inr (begins, subst Passes here (passes_whole (slice_range tokens first index) whole))
counts_on tokens first index fits (inr (is, passes)) whole begins =
    inr (
      begins,
      subst Passes (cut tokens first index fits) (passes_on (take first tokens) (slice_range tokens first index)
          (part_begins (drop first tokens) (index - first) is) passes (passes_whole (slice_range tokens first index) whole)),
    )

-- ---- what is tried

-- the tokens that count, with one more behind
behind_all : (tokens : List Token) (first : ℕ) (token : Token)
    → tokens ++ token ∷ [] ≡ take first tokens ++ (drop first tokens ++ token ∷ [])
behind_all tokens first token =
    ap (λ t. t ++ token ∷ []) (sym (take-append-drop first tokens))
    ∙ append_assoc (take first tokens) (drop first tokens) (token ∷ [])

-- where a description begins with those that count, one begins with all
begins_all : (tokens : List Token) (first : ℕ) (token : Token) → Counts tokens first
    → Begins (drop first tokens ++ token ∷ []) → Begins (tokens ++ token ∷ [])
begins_all tokens first token (inl none) b = subst (λ n. Begins (drop n tokens ++ token ∷ [])) none b
begins_all tokens first token (inr (is, passes)) b = subst Begins (sym (behind_all tokens first token))
    (passes.begins (drop first tokens ++ token ∷ []) (begins_on (drop first tokens) (token ∷ []) is) b)

-- where those that count are hopeless, all are
hopeless_all : (tokens : List Token) (first : ℕ) (token : Token) → Counts tokens first
    → IsHopeless (drop first tokens ++ token ∷ []) → IsHopeless (tokens ++ token ∷ [])
hopeless_all tokens first token (inl none) h = subst (λ n. IsHopeless (drop n tokens ++ token ∷ [])) none h
hopeless_all tokens first token (inr (is, passes)) h = subst IsHopeless (sym (behind_all tokens first token)) (λ later.
    let counted : List Token = drop first tokens ++ token ∷ [] in
    let found = h later in (
      found.0,
      subst (λ t. IsRefused t found.0) (sym (append_assoc (take first tokens) counted later))
          (passes.refused (counted ++ later)
          (begins_on counted later (begins_on (drop first tokens) (token ∷ []) is)) found.0 found.1),
    ))

-- a description begins with no hopeless tokens
no_hope : (tokens : List Token) → IsHopeless tokens → Begins tokens → ⊥
no_hope tokens h b = let found = h b.tail in not_both (tokens ++ b.tail) b.whole found.0 b.spells found.1

can_stand : (tokens : List Token) (first : ℕ) (token : Token) (kind : Kind) → token.kind ≡ kind → Counts tokens first
    → Begins (drop first tokens ++ token ∷ []) → CanStand tokens kind
can_stand tokens first token kind is counts b = (token, is, begins_all tokens first token counts b)

cannot_stand : (tokens : List Token) (first : ℕ) (token : Token) (kind : Kind) → token.kind ≡ kind → Counts tokens first
    → IsHopeless (drop first tokens ++ token ∷ []) → CanStand tokens kind → ⊥
cannot_stand tokens first token kind is counts h can =
    no_hope (tokens ++ token ∷ []) (hopeless_all tokens first token counts h)
    (begins_alike tokens can.0 token (can.1 ∙ sym is) can.2)

-- what is tried tells it
pub tells : (b : Bool) (tokens counted : List Token) (first : ℕ) (token : Token) (kind : Kind) → token.kind ≡ kind
    → Counts tokens first → counted ≡ drop first tokens ++ token ∷ [] → MatchBool b (Begins counted) (IsHopeless counted)
    → MatchBool b (CanStand tokens kind) (CanStand tokens kind → ⊥)
tells true tokens counted first token kind is counts same h =
    can_stand tokens first token kind is counts (subst Begins same h)
tells false tokens counted first token kind is counts same h =
    cannot_stand tokens first token kind is counts (subst IsHopeless same h)
