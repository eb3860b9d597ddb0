-- A line says one thing.
use Rattle.std.proofs.Common.{◌≡◌, ℕ, List, [], ◌∷◌, ◌++◌, refl, sym, ap, ◌∙◌, subst, inl, inr, arith}
use Rattle.system.specs.declared.system.System.{System}
use Rattle.locked_execution.specs.declared.command.Command.{Command}
use Rattle.debug_session.specs.declared.line.Line.{Line}
use Rattle.line_text.specs.declared.keyword.Keyword.{Keyword}
use Rattle.line_text.specs.declared.keyword.Keyword.TheVariants as keywords
use Rattle.line_text.specs.Keywords.{spelling}
use Rattle.debug_session.specs.Lines.{IsSession, AsksBy, Asks, Says}
use Rattle.line_text.proofs.public.CutLemmas.{cut-same}
use Rattle.line_text.proofs.public.KeywordLemmas.{spelling-no-space, one-keyword}
use Rattle.line_text.proofs.public.OneOperand.{one-number, one-branch, one-variable, one-choice}
use Rattle.debug_session.proofs.AskLemmas.{behind-begins}

-- one session stands in a field
one-session : (m n : ℕ) (rest : List ℕ) → IsSession m rest → IsSession n rest → m ≡ n
one-session m n rest h k = one-number m n rest (omega (arith, h.0), h.1) (omega (arith, k.0), k.1)

-- a keyword and what is behind it ask for one thing
one-behind : (system : System) (w : Keyword) (rest : List ℕ) (c d : Line) → AsksBy system w rest c → AsksBy system w rest d → c ≡ d
one-behind system keywords.Step rest c d (a, h, e) (b, k, f) = e ∙ (ap (λ x. Line.Asked (Command.Step x)) (one-choice a b rest h k) ∙ sym f)
one-behind system keywords.Undo rest c d (t, h, e) (u, k, f) = e ∙ (ap (λ x. Line.Asked (Command.Undo x)) (one-number t u rest h k) ∙ sym f)
one-behind system keywords.Roll rest c d (t, h, e) (u, k, f) = e ∙ (ap (λ x. Line.Asked (Command.Roll x)) (one-number t u rest h k) ∙ sym f)
one-behind system keywords.RollValue rest c d (x, h, e) (y, k, f) = e ∙ (ap (λ x. Line.Asked (Command.RollValue x)) (one-variable system x y rest h k) ∙ sym f)
one-behind system keywords.Blame rest c d (x, h, e) (y, k, f) = e ∙ (ap (λ x. Line.Asked (Command.Blame x)) (one-variable system x y rest h k) ∙ sym f)
one-behind system keywords.Ready rest c d (h, e) (k, f) = e ∙ sym f
one-behind system keywords.Consequences rest c d (t, h, e) (u, k, f) = e ∙ (ap (λ x. Line.Asked (Command.Consequences x)) (one-number t u rest h k) ∙ sym f)
one-behind system keywords.Live rest c d (h, e) (k, f) = e ∙ sym f
one-behind system keywords.Value rest c d (x, h, e) (y, k, f) = e ∙ (ap (λ x. Line.Asked (Command.Value x)) (one-variable system x y rest h k) ∙ sym f)
one-behind system keywords.Branch rest c d (m, h, e) (n, k, f) = e ∙ (ap (λ x. Line.Asked (Command.Branch x)) (one-branch m n rest h k) ∙ sym f)
one-behind system keywords.Break rest c d (m, h, e) (n, k, f) = e ∙ (ap (λ x. Line.Asked (Command.Break x)) (one-number m n rest h k) ∙ sym f)
one-behind system keywords.Clear rest c d (m, h, e) (n, k, f) = e ∙ (ap (λ x. Line.Asked (Command.Clear x)) (one-number m n rest h k) ∙ sym f)
one-behind system keywords.Session rest c d (m, h, e) (n, k, f) = e ∙ (ap Line.Session (one-session m n rest h k) ∙ sym f)
one-behind system keywords.View rest c d (h, e) (k, f) = e ∙ sym f
one-behind system keywords.Trace rest c d (h, e) (k, f) = e ∙ sym f

-- a line asks for one thing
one-asked : (system : System) (line : List ℕ) (c d : Line) → Asks system line c → Asks system line d → c ≡ d
one-asked system line c d a b =
    let both : (spelling a.keyword ≡ spelling b.keyword) × (a.rest ≡ b.rest) =
    cut-same (spelling a.keyword) (spelling b.keyword) a.rest b.rest (spelling-no-space a.keyword) (spelling-no-space b.keyword)
    (behind-begins system a.keyword a.rest c a.asked) (behind-begins system b.keyword b.rest d b.asked) (sym a.spelled ∙ b.spelled) in
    let same : a.keyword ≡ b.keyword = one-keyword a.keyword b.keyword (spelling b.keyword) both.0 refl in
    one-behind system b.keyword b.rest c d
    (subst (λ r. AsksBy system b.keyword r c) both.1 (subst (λ w. AsksBy system w a.rest c) same a.asked)) b.asked

-- a text with a byte is not empty
some-text : (b : ℕ) (bs : List ℕ) → b ∷ bs ≡ [] → ⊥
some-text b bs e = cc

-- the keyword of a line is not empty
some-keyword : (w : Keyword) (rest : List ℕ) → spelling w ++ rest ≡ [] → ⊥
some-keyword keywords.Step rest e = some-text _ _ e
some-keyword keywords.Undo rest e = some-text _ _ e
some-keyword keywords.Roll rest e = some-text _ _ e
some-keyword keywords.RollValue rest e = some-text _ _ e
some-keyword keywords.Blame rest e = some-text _ _ e
some-keyword keywords.Ready rest e = some-text _ _ e
some-keyword keywords.Consequences rest e = some-text _ _ e
some-keyword keywords.Live rest e = some-text _ _ e
some-keyword keywords.Value rest e = some-text _ _ e
some-keyword keywords.Branch rest e = some-text _ _ e
some-keyword keywords.Break rest e = some-text _ _ e
some-keyword keywords.Clear rest e = some-text _ _ e
some-keyword keywords.Session rest e = some-text _ _ e
some-keyword keywords.View rest e = some-text _ _ e
some-keyword keywords.Trace rest e = some-text _ _ e

-- an empty line asks for nothing
empty-asks : (system : System) (line : List ℕ) (c : Line) → line ≡ [] → Asks system line c → ⊥
empty-asks system line c e a = some-keyword a.keyword a.rest (sym a.spelled ∙ e)

-- a line says one thing
pub one-thing : (system : System) (line : List ℕ) (x y : Line) → Says system line x → Says system line y → x ≡ y
one-thing system line x y (inl h) (inl k) = one-asked system line x y h k
one-thing system line x y (inl h) (inr k) = absurd (empty-asks system line x k.0 h)
one-thing system line x y (inr h) (inl k) = absurd (empty-asks system line y h.0 k)
one-thing system line x y (inr h) (inr k) = h.1 ∙ sym k.1
