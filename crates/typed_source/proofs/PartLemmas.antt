-- What one part of a source tells of all of it.
use Rattle.std.proofs.Common.{◌≡◌, ◌≢◌, ◌⊎◌, inl, inr, ℕ, Option, Some, None, Result, Ok, Err, IfOk, IfErr, IfSome, Bool, true, false, List, [], ◌++◌, refl, sym, ap, subst, append_assoc, append-nil, length-append, arith}
use Rattle.std.proofs.lemmas.List.Elements.{All-append}
use Rattle.lexer.specs.Tokens.{AreTokens}
use Rattle.lexer.specs.declared.lexing.Lexing.{Lexing}
use Rattle.lexer.specs.declared.token.Token.{Token}
use Rattle.lexer.specs.declared.lexing.Stop.{Stop}
use Rattle.lexer.specs.declared.lexing.Stop.TheVariants.{Full, Procedure, EndOfSource}
use Rattle.lexer.specs.declared.token.Kind.TheVariants.{End}
use Rattle.lexer.specs.internal.Parts.{HasNoEnd, Goes, Ends, Refuses, IsRest, IsPart, TakesBytes}
use Rattle.lexer.proofs.public.PartLemmas.{goes_on, goes_to_end}
use Rattle.parser.specs.Accepted as parser
use Rattle.lexer.specs.internal.Parts.{BeginsProcedure}
use Rattle.parser.proofs.public.PartLaws.{begins_on}
use Rattle.refusals.specs.declared.lexer.Fault as lexer_fault
use Rattle.refusals.specs.declared.lexer.Fault.TheVariants as no_tokens
use Rattle.refusals.specs.declared.parser.Fault as parser_fault
use Rattle.refusals.specs.declared.parser.Fault.TheVariants as no_description
use Rattle.typed_source.specs.Wrapping.{of_lexer, of_parser}
use Rattle.typed_source.specs.declared.fault.Fault.{Fault}
use Rattle.typed_source.specs.declared.part.Part.{Part}
use Rattle.typed_source.specs.internal.InParts.{IsNext, ReadsOn, ReadsPart, RefusesPart, RefusesNext, is_end}

-- the same, where the tokens are put together otherwise
AreTokens_by : (source : List ℕ) (tokens other : List Token) → tokens ≡ other → AreTokens source tokens → AreTokens source other
AreTokens_by source tokens other e = subst (AreTokens source) e

-- what is left behind a part is refused, so all that was left before it
pub refuses_behind : (old new : Lexing) (part : List Token) (fault : lexer_fault.Fault) → Goes old part new
    → (fault ≡ no_tokens.Memory) ⊎ Refuses new fault → RefusesPart old part (of_lexer fault)
refuses_behind old new part no_tokens.Memory goes h = tt
refuses_behind old new part (no_tokens.BadCharacter offset) goes h =
    λ source before read. elim h [ inl e ↦ absurd (cc) | inr refuses ↦ refuses source (before ++ part) (goes source before read) ]
refuses_behind old new part (no_tokens.OpenComment offset) goes h =
    λ source before read. elim h [ inl e ↦ absurd (cc) | inr refuses ↦ refuses source (before ++ part) (goes source before read) ]
refuses_behind old new part (no_tokens.NumberTooLarge offset) goes h =
    λ source before read. elim h [ inl e ↦ absurd (cc) | inr refuses ↦ refuses source (before ++ part) (goes source before read) ]

-- no description begins with the part, and what is left behind it can be read
pub refuses_within : (old new : Lexing) (part : List Token) (fault : parser_fault.Fault) → Goes old part new → IsRest new
    → (fault ≡ no_description.Memory) ⊎ ((later : List Token) → parser.IsRefused (part ++ later) fault) → RefusesPart old part (of_parser fault)
refuses_within old new part no_description.Memory goes rest h = tt
refuses_within old new part (no_description.Unexpected offset) goes rest h = λ source before read.
    let (later, tokens) = rest source (before ++ part) (goes source before read) in (
      later,
      AreTokens_by source ((before ++ part) ++ later) (before ++ (part ++ later)) (append_assoc before part later) tokens,
      elim h [ inl e ↦ absurd (cc) | inr refused ↦ refused later ],
    )
refuses_within old new part (no_description.TooDeep offset) goes rest h = λ source before read.
    let (later, tokens) = rest source (before ++ part) (goes source before read) in (
      later,
      AreTokens_by source ((before ++ part) ++ later) (before ++ (part ++ later)) (append_assoc before part later) tokens,
      elim h [ inl e ↦ absurd (cc) | inr refused ↦ refused later ],
    )

-- no description begins with the part, which is all that was left
pub refuses_last : (old : Lexing) (part : List Token) (fault : parser_fault.Fault) → Ends old part
    → (fault ≡ no_description.Memory) ⊎ ((later : List Token) → parser.IsRefused (part ++ later) fault) → RefusesPart old part (of_parser fault)
refuses_last old part no_description.Memory ends h = tt
refuses_last old part (no_description.Unexpected offset) ends h = λ source before read. (
  [],
  AreTokens_by source (before ++ part) (before ++ (part ++ [])) (ap (λ (t : List Token). before ++ t) (sym (append-nil part))) (ends source before read),
  elim h [ inl e ↦ absurd (cc) | inr refused ↦ refused [] ],
)
refuses_last old part (no_description.TooDeep offset) ends h = λ source before read. (
  [],
  AreTokens_by source (before ++ part) (before ++ (part ++ [])) (ap (λ (t : List Token). before ++ t) (sym (append-nil part))) (ends source before read),
  elim h [ inl e ↦ absurd (cc) | inr refused ↦ refused [] ],
)

-- the same by whether the part is the last
pub refuses_some : (is_last : Bool) (old new : Lexing) (part : List Token) (fault : parser_fault.Fault) → is_last ≡ false → ReadsPart is_last old part new → IsRest new
    → (fault ≡ no_description.Memory) ⊎ ((later : List Token) → parser.IsRefused (part ++ later) fault) → RefusesPart old part (of_parser fault)
refuses_some false old new part fault e reads rest h = refuses_within old new part fault reads.0 rest h
refuses_some true old new part fault e reads rest h = absurd (cc)

pub refuses_all : (is_last : Bool) (old new : Lexing) (part : List Token) (fault : parser_fault.Fault) → is_last ≡ true → ReadsPart is_last old part new
    → (fault ≡ no_description.Memory) ⊎ ((later : List Token) → parser.IsRefused (part ++ later) fault) → RefusesPart old part (of_parser fault)
refuses_all true old new part fault e reads h = refuses_last old part fault reads h
refuses_all false old new part fault e reads h = absurd (cc)

-- a fault of the last part is due wherever it is
end_refused : (old new : Lexing) (part : List Token) (fault : parser_fault.Fault) → Ends old part → (fault ≡ no_description.Memory) ⊎ parser.IsRefused part fault
    → RefusesPart old part (of_parser fault)
end_refused old new part no_description.Memory ends h = tt
end_refused old new part (no_description.Unexpected offset) ends h = λ source before read. (
  [],
  AreTokens_by source (before ++ part) (before ++ (part ++ [])) (ap (λ (t : List Token). before ++ t) (sym (append-nil part))) (ends source before read),
  elim h [ inl e ↦ absurd (cc) | inr refused ↦ subst (λ tokens. parser.IsRefused tokens (no_description.Unexpected offset)) (sym (append-nil part)) refused ],
)
end_refused old new part (no_description.TooDeep offset) ends h = λ source before read. (
  [],
  AreTokens_by source (before ++ part) (before ++ (part ++ [])) (ap (λ (t : List Token). before ++ t) (sym (append-nil part))) (ends source before read),
  elim h [ inl e ↦ absurd (cc) | inr refused ↦ subst (λ tokens. parser.IsRefused tokens (no_description.TooDeep offset)) (sym (append-nil part)) refused ],
)

pub refuses_end : (is_last : Bool) (old new : Lexing) (part : List Token) (fault : parser_fault.Fault) → is_last ≡ true → ReadsPart is_last old part new
    → (fault ≡ no_description.Memory) ⊎ parser.IsRefused part fault → RefusesPart old part (of_parser fault)
refuses_end true old new part fault e reads h = end_refused old new part fault reads h
refuses_end false old new part fault e reads h = absurd (cc)

-- two parts, one behind the other
goes_far : (old mid new : Lexing) (first second : List Token) → ReadsPart false old first mid → Goes mid second new → HasNoEnd second → TakesBytes mid second new
    → ReadsPart false old (first ++ second) new
goes_far old mid new first second reads goes none bytes =
    let taken = reads.2 in
    (goes_on old mid new first second reads.0 goes, All-append (λ (token : Token). token.kind ≢ End) first second reads.1 none, omega (arith, taken, bytes, length-append first second))

-- a part that was cut short, with what was missing
pub reads_on : (old mid new : Lexing) (first second part : List Token) (stop : Stop) (most : ℕ) → ReadsPart false old first mid → part ≡ first ++ second
    → IsPart stop most mid second new → ReadsOn (is_end stop) old first part new
reads_on old mid new first second part Full most reads same h = ((second, same), subst (λ tokens. ReadsPart false old tokens new) (sym same) (goes_far old mid new first second reads h.0 h.1 h.3))
reads_on old mid new first second part Procedure most reads same h = ((second, same), subst (λ tokens. ReadsPart false old tokens new) (sym same) (goes_far old mid new first second reads h.0 h.1 h.3))
reads_on old mid new first second part EndOfSource most reads same h = ((second, same), subst (λ tokens. ReadsPart true old tokens new) (sym same) (goes_to_end old mid first second reads.0 h.0))

-- where reading did not stop at the end
pub not_end : (stop : Stop) → (stop ≡ EndOfSource → ⊥) → false ≡ is_end stop
not_end Full other = refl
not_end Procedure other = refl
not_end EndOfSource other = absurd (other refl)

-- tokens are refused with more behind them, so they are
refuses_front : (old : Lexing) (part more tokens : List Token) (fault : Fault) → tokens ≡ part ++ more → RefusesPart old tokens fault → RefusesPart old part fault
refuses_front old part more tokens Fault.Memory same h = tt
refuses_front old part more tokens (Fault.Lexer fault) same h = h
refuses_front old part more tokens (Fault.Parser fault) same h = λ source before read.
    let (later, cut, refused) = subst (λ tokens. RefusesPart old tokens (Fault.Parser fault)) same h source before read in (
      more ++ later,
      AreTokens_by source (before ++ ((part ++ more) ++ later)) (before ++ (part ++ (more ++ later))) (ap (λ (t : List Token). before ++ t) (append_assoc part more later)) cut,
      subst (λ tokens. parser.IsRefused tokens fault) (append_assoc part more later) refused,
    )
refuses_front old part more tokens (Fault.Types fault) same h = h

-- the same of what `refuse` answers about a part with the tokens that follow
pub refuses_ahead : {A : Type 0} (is_last : Bool) (stop : Stop) (most : ℕ) (old mid new : Lexing) (part more tokens : List Token) → is_last ≡ is_end stop → ReadsPart false old part mid
    → tokens ≡ part ++ more → IsPart stop most mid more new → (result : Result A Fault)
    → (ReadsPart is_last old tokens new → IfErr result (λ fault. RefusesPart old tokens fault)) → IfErr result (λ fault. RefusesPart old part fault)
refuses_ahead is_last stop most old mid new part more tokens which reads same h (Ok done) refused = tt
refuses_ahead is_last stop most old mid new part more tokens which reads same h (Err fault) refused =
    let on = reads_on old mid new part more tokens stop most reads same h in
    refuses_front old part more tokens fault same (refused (subst (λ (b : Bool). ReadsPart b old tokens new) (sym which) on.1))

-- the first tokens of a part
pub reads_first : (old new : Lexing) (added part : List Token) (stop : Stop) (most : ℕ) → part ≡ [] ++ added → IsPart stop most old added new → ReadsPart (is_end stop) old part new
reads_first old new added part Full most same h = subst (λ tokens. ReadsPart false old tokens new) (sym same) (h.0, h.1, h.3)
reads_first old new added part Procedure most same h = subst (λ tokens. ReadsPart false old tokens new) (sym same) (h.0, h.1, h.3)
reads_first old new added part EndOfSource most same h = subst (λ tokens. ReadsPart true old tokens new) (sym same) h.0

-- the lexer refuses what comes next
pub refuses_cut : (is_first : Bool) (old : Lexing) (fault : lexer_fault.Fault) → (fault ≡ no_tokens.Memory) ⊎ Refuses old fault → RefusesNext is_first old (of_lexer fault)
refuses_cut is_first old no_tokens.Memory h = tt
refuses_cut is_first old (no_tokens.BadCharacter offset) h = λ source before read. elim h [ inl e ↦ absurd (cc) | inr refuses ↦ refuses source before read ]
refuses_cut is_first old (no_tokens.OpenComment offset) h = λ source before read. elim h [ inl e ↦ absurd (cc) | inr refuses ↦ refuses source before read ]
refuses_cut is_first old (no_tokens.NumberTooLarge offset) h = λ source before read. elim h [ inl e ↦ absurd (cc) | inr refuses ↦ refuses source before read ]

-- a part refuses what comes next
pub refuses_next : (is_first : Bool) (old : Lexing) (part : List Token) (fault : Fault) → (is_first ≡ false → BeginsProcedure part) → RefusesPart old part fault → RefusesNext is_first old fault
refuses_next is_first old part Fault.Memory begins h = tt
refuses_next is_first old part (Fault.Lexer fault) begins h = h
refuses_next is_first old part (Fault.Parser fault) begins h = (part, begins, h)
refuses_next is_first old part (Fault.Types fault) begins h = h

-- what was read in a part, and its tree
pub is_next : (is_first : Bool) (old new : Lexing) (front tokens : List Token) (part : Part) → (is_first ≡ false → BeginsProcedure front) → ReadsOn part.is_last old front tokens new
    → parser.Parses tokens part.description → IsNext is_first old part new
is_next is_first old new front tokens part begins ((added, same), reads) parses =
    (tokens, (λ e. subst BeginsProcedure (sym same) (begins_on front added (begins e))), reads, parses)

-- the same of what `tree_of` answers
pub next_read : (is_first is_last : Bool) (old new : Lexing) (front tokens : List Token) → (is_first ≡ false → BeginsProcedure front) → ReadsOn is_last old front tokens new
    → (result : Result (Option Part) Fault) → IfOk result (λ read. IfSome read (λ (part : Part). (part.is_last ≡ is_last) × parser.Parses tokens part.description))
    → IfOk result (λ read. IfSome read (λ (part : Part). IsNext is_first old part new))
next_read is_first is_last old new front tokens begins reads (Ok (Some part)) (same, parses) =
    is_next is_first old new front tokens part begins (subst (λ (b : Bool). ReadsOn b old front tokens new) (sym same) reads) parses
next_read is_first is_last old new front tokens begins reads (Ok None) h = tt
next_read is_first is_last old new front tokens begins reads (Err fault) h = tt

pub next_refused : (is_first is_last : Bool) (old new : Lexing) (front tokens : List Token) → (is_first ≡ false → BeginsProcedure front) → ReadsOn is_last old front tokens new
    → (result : Result (Option Part) Fault) → IfErr result (λ fault. RefusesPart old tokens fault) → IfErr result (λ fault. RefusesNext is_first old fault)
next_refused is_first is_last old new front tokens begins reads (Ok read) h = tt
next_refused is_first is_last old new front tokens begins ((added, same), reads) (Err fault) h =
    refuses_next is_first old tokens fault (λ e. subst BeginsProcedure (sym same) (begins_on front added (begins e))) h
