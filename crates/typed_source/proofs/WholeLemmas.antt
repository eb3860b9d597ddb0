-- From the parts to the whole source.
use Rattle.std.proofs.Common.{◌≡◌, ◌≢◌, ◌⊎◌, inl, inr, ℕ, Bool, true, false, List, Result, Ok, Err, [], ◌++◌, refl, sym, subst}
use Rattle.std.specs.Result.{IfErr, IsErrAnd}
use Rattle.lexer.specs.Tokens.{AreTokens}
use Rattle.lexer.specs.Refusal as lexer
use Rattle.lexer.specs.declared.lexing.Lexing.{Lexing}
use Rattle.lexer.specs.declared.token.Token.{Token}
use Rattle.lexer.specs.internal.Parts.{HasRead}
use Rattle.parser.specs.Accepted as parser
use Rattle.parser.specs.internal.Parts.{joined}
use Rattle.parser.proofs.public.PartLaws.{begins_on, opens, opens_on}
use Rattle.refusals.specs.declared.lexer.Fault as lexer_fault
use Rattle.refusals.specs.declared.lexer.Fault.TheVariants as no_tokens
use Rattle.refusals.specs.declared.parser.Fault as parser_fault
use Rattle.refusals.specs.declared.parser.Fault.TheVariants as no_description
use Rattle.refusals.specs.declared.types.Fault as types_fault
use Rattle.refusals.specs.declared.types.Fault.TheVariants as not_typed
use Rattle.syntax.specs.declared.declaration.Description.{Description}
use Rattle.types.specs.Declarations.{found_description}
use Rattle.types.specs.Findings as types
use Rattle.types.specs.declared.typing.Typing.{Typing}
use Rattle.types.specs.internal.Judged.{Judges}
use Rattle.typed_source.specs.Source.{Describes, IsRefused}
use Rattle.typed_source.specs.Wrapping.{of_lexer, of_parser, of_types}
use Rattle.typed_source.specs.declared.fault.Fault.{Fault}
use Rattle.typed_source.specs.declared.part.Part.{Part}
use Rattle.typed_source.specs.internal.InParts.{ReadsPart, RefusesNext, IsNext, Stands}

-- a fault of typing is want of memory or another one
other_than_memory : (fault : types_fault.Fault) → (of_types fault ≡ Fault.Memory) ⊎ ((of_types fault ≡ Fault.Types fault) × (fault ≢ not_typed.Memory))
other_than_memory not_typed.Memory = inl refl
other_than_memory (not_typed.UnknownName offset) = inr (refl, λ e. cc)
other_than_memory (not_typed.NameTwice offset) = inr (refl, λ e. cc)
other_than_memory (not_typed.WrongKind offset) = inr (refl, λ e. cc)
other_than_memory (not_typed.TooWide offset) = inr (refl, λ e. cc)
other_than_memory (not_typed.GuardNotOneBit offset) = inr (refl, λ e. cc)
other_than_memory (not_typed.BadArm offset) = inr (refl, λ e. cc)
other_than_memory (not_typed.PortMismatch offset) = inr (refl, λ e. cc)
other_than_memory (not_typed.EnclosedTwice offset) = inr (refl, λ e. cc)

second : {A B : Type 0} → (A → ⊥) → A ⊎ B → B
second never h = elim h [ inl a ↦ absurd (never a) | inr b ↦ b ]

-- typing refuses
pub untyped : (source : List ℕ) (description : Description) (fault : types_fault.Fault) → Describes source description
    → (fault ≡ not_typed.Memory) ⊎ types.IsRefused (found_description description) fault → IsRefused source (of_types fault)
untyped source description fault described h =
    elim (other_than_memory fault) [
      | inl memory ↦ subst (IsRefused source) (sym memory) tt
      | inr (same, other) ↦ subst (IsRefused source) (sym same) (other, (description, described, second other h))
    ]

-- the lexer refuses
pub uncut : (source : List ℕ) (fault : lexer_fault.Fault) → (fault ≡ no_tokens.Memory) ⊎ lexer.IsRefused source fault → IsRefused source (of_lexer fault)
uncut source no_tokens.Memory h = tt
uncut source (no_tokens.BadCharacter offset) h = second (λ e. cc) h
uncut source (no_tokens.OpenComment offset) h = second (λ e. cc) h
uncut source (no_tokens.NumberTooLarge offset) h = second (λ e. cc) h

-- the parser refuses
pub unparsed : (source : List ℕ) (tokens slice : List Token) (fault : parser_fault.Fault) → AreTokens source tokens
    → slice ≡ tokens → (fault ≡ no_description.Memory) ⊎ parser.IsRefused slice fault → IsRefused source (of_parser fault)
unparsed source tokens slice no_description.Memory cut same h = tt
unparsed source tokens slice (no_description.Unexpected offset) cut same h = (slice, subst (AreTokens source) (sym same) cut, second (λ e. cc) h)
unparsed source tokens slice (no_description.TooDeep offset) cut same h = (slice, subst (AreTokens source) (sym same) cut, second (λ e. cc) h)

-- ---- parts

-- the first part refuses the source
pub refused_first : (source : List ℕ) (old : Lexing) (fault : Fault) → HasRead source [] old → RefusesNext true old fault → IsRefused source fault
refused_first source old Fault.Memory read refuses = tt
refused_first source old (Fault.Lexer fault) read refuses = refuses source [] read
refused_first source old (Fault.Parser fault) read (part, _, refuses) = let (later, tokens, refused) = refuses source [] read in (part ++ later, tokens, refused)
refused_first source old (Fault.Types fault) read refuses = absurd refuses

-- a later part refuses the source
pub refused_next : (source : List ℕ) (old : Lexing) (typing : Typing) (fault : Fault) → Stands source false old typing → RefusesNext false old fault → IsRefused source fault
refused_next source old typing Fault.Memory stands refuses = tt
refused_next source old typing (Fault.Lexer fault) stands refuses = refuses source stands.before (stands.some refl).0
refused_next source old typing (Fault.Parser fault) stands (part, begins, refuses) =
    let (later, tokens, refused) = refuses source stands.before (stands.some refl).0 in
    (stands.before ++ (part ++ later), tokens, (stands.some refl).1.refused (part ++ later) (begins_on part later (begins refl)) fault refused)
refused_next source old typing (Fault.Types fault) stands refuses = absurd refuses

-- behind the first part
pub stands_first : (source : List ℕ) (old new : Lexing) (part : Part) (typing : Typing) → HasRead source [] old → IsNext true old part new → Judges typing part.description
    → Stands source part.is_last new typing
stands_first source old new part typing read (tokens, _, reads, parses) judged = go part.is_last reads where
  go : (is_last : Bool) → ReadsPart is_last old tokens new → Stands source is_last new typing
  go true reads = record { before = tokens; given = part.description; all = λ e. (reads source [] read, parses); some = λ e. absurd (cc); judged = judged }
  go false reads = record { before = tokens; given = part.description; all = λ e. absurd (cc); some = λ e. (reads.0 source [] read, opens tokens part.description parses reads.1); judged = judged }

-- behind a further part
pub stands_next : (source : List ℕ) (old new : Lexing) (part : Part) (typing typing' : Typing) → Stands source false old typing → IsNext false old part new
    → ((d : Description) → Judges typing d → Judges typing' (joined d part.description)) → Stands source part.is_last new typing'
stands_next source old new part typing typing' stands (tokens, begins, reads, parses) judges = go part.is_last reads where
  both : List Token
  both = stands.before ++ tokens

  given : Description
  given = joined stands.given part.description

  go : (is_last : Bool) → ReadsPart is_last old tokens new → Stands source is_last new typing'
  go true reads = record {
    before = both;
    given = given;
    all = λ e. (reads source stands.before (stands.some refl).0, (stands.some refl).1.parses tokens (begins refl) part.description parses);
    some = λ e. absurd (cc);
    judged = judges stands.given stands.judged;
  }
  go false reads = record {
    before = both;
    given = given;
    all = λ e. absurd (cc);
    some = λ e. (reads.0 source stands.before (stands.some refl).0, opens_on stands.before stands.given tokens part.description (stands.some refl).1 (begins refl) parses reads.1);
    judged = judges stands.given stands.judged;
  }

-- behind the last part
pub described : (source : List ℕ) (lexing : Lexing) (typing : Typing) (stands : Stands source true lexing typing) → Describes source stands.given
described source lexing typing stands = (stands.before, (stands.all refl).0, (stands.all refl).1)

-- a fault that was handed on is what it was made of
pub told : {A : Type 0} (r : Result A Fault) (fault : Fault) (P : Fault → Type 0) → IsErrAnd r (λ given. given ≡ fault) → P fault → IfErr r P
told (Ok a) fault P e p = tt
told (Err given) fault P e p = subst P (sym e) p
