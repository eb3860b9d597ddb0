-- What texts stand for, and that they are refused for one reason.
use Rattle.std.proofs.Common.{◌≡◌, ◌⊎◌, inl, inr, ℕ, suc, ◌+◌, ◌≤◌, List, [], ◌∷◌, ◌++◌, length, refl, sym, ap, ◌∙◌, subst, arith, append_assoc, append-nil, length-append, get_or}
use Rattle.std.specs.List.{All, flat_map}
use Rattle.syntax.specs.Lists.{Every}
use Rattle.system.specs.declared.system.System.{System}
use Rattle.sharing_rule.specs.Rule.{SharesWell}
use Rattle.runs.specs.Choices.{choice_of}
use Rattle.runs.specs.Dependence.{Respecting}
use Rattle.runs.specs.Live.{events}
use Rattle.runs.specs.Object.{most_live}
use Rattle.runs.specs.Steps.{State, Step, Run, opening}
use Rattle.runs.specs.declared.event.Choice.{Choice}
use Rattle.runs.specs.declared.event.Event.{Event}
use Rattle.runs.proofs.public.FromOpening.{one_choice}
use Rattle.runs.proofs.public.Opening.{opening-formed}
use Rattle.runs.proofs.public.Orders.{run-join, run-part, run-formed}
use Rattle.runs.proofs.public.StepOf.{step-determined, run-determined}
use Rattle.runs.specs.Sound.{Sound}
use Rattle.machine.specs.AtMachine.{AtMachine, object}
use Rattle.trace_file.specs.TraceText.{header_of, choice_line, event_line, trace_text, IsTrace, IsWritable, HasSteps, Begins}
use Rattle.trace_file.specs.Loading.{IsFirstLine, IsNoEnd, IsStep, CannotStep}
use Rattle.trace_file.specs.declared.version.Version.{Version}
use Rattle.trace_file.specs.declared.version.Version.TheVariants.{First, Second}
use Rattle.trace_file.proofs.public.Canonicals.{canonical-rearranged, canonical-runs, is-its-own-order, orders-agree}
use Rattle.trace_file.specs.Canonical.{IsCanonicalOrder}
use Rattle.runs.proofs.public.Elements.{in-rearranged}
use Rattle.runs.proofs.public.FromOpening.{one_state}
use Rattle.runs.proofs.public.Lists.{every-in, every-of}
use Rattle.trace_file.specs.Laws.{OneList, EqualBytes, TraceStands, LoadsTheSame}
use Rattle.trace_file.proofs.LineLemmas.{cut-same, has-one, step-same, clear-by-test}
use Rattle.trace_file.proofs.EventLemmas.{events-length, ticketed-events}

-- the lines of events can be written
abbrev pub Writable : List Event → Type 0
Writable h = Every (λ e. IsWritable (choice_of e)) h

-- the lines of events
abbrev pub lines_of : List Event → List ℕ
lines_of h = flat_map event_line h

-- h goes on from g by the events k, whose lines and y are x
pub record GoesOn (g h : List Event) (x y : List ℕ) : Type 0 where
  pub more : List Event
  pub is : h ≡ g ++ more
  pub text : x ≡ lines_of more ++ y
  pub lines : Writable more

-- one of two lists goes on from the other
abbrev pub OneGoesOn : List Event → List Event → List ℕ → List ℕ → Type 0
OneGoesOn g h x y = GoesOn g h x y ⊎ GoesOn h g y x

-- one event before both
goes-on-behind : (e f : Event) (g h : List Event) (x y : List ℕ) → e ≡ f → OneGoesOn g h x y → OneGoesOn (e ∷ g) (f ∷ h) x y
goes-on-behind e f g h x y same (inl on) = inl (record {
  more = on.more;
  is = ap (λ (d : Event). d ∷ h) (sym same) ∙ ap (λ (k : List Event). e ∷ k) on.is;
  text = on.text;
  lines = on.lines;
})
goes-on-behind e f g h x y same (inr on) = inr (record {
  more = on.more;
  is = ap (λ (d : Event). d ∷ g) same ∙ ap (λ (k : List Event). f ∷ k) on.is;
  text = on.text;
  lines = on.lines;
})

-- the line of an event and what is behind it
line-step : (e : Event) (h : List Event) (x : List ℕ) → Writable (e ∷ h) → IsStep (choice_of e) (lines_of (e ∷ h) ++ x) (lines_of h ++ x)
line-step e h x w = (append_assoc (event_line e) (lines_of h) x, w.0)

-- of two lists of events that run behind others and whose lines begin one text, one goes on from the other
one-goes-on : (system : System) (p : List Event) (S T U : State) (g h : List Event) (x y : List ℕ) → SharesWell system
    → Run (opening system) p S → Run S g T → Run S h U → Writable g → Writable h → lines_of g ++ x ≡ lines_of h ++ y → OneGoesOn g h x y
one-goes-on system p S T U [] h x y shares r a b v w same = inl (record { more = h; is = refl; text = same; lines = w })
one-goes-on system p S T U (e ∷ g) [] x y shares r a b v w same = inr (record { more = e ∷ g; is = refl; text = sym same; lines = v })
one-goes-on system p S T U (e ∷ g) (f ∷ h) x y shares r a b v w same =
    let first = step-same (choice_of e) (choice_of f) (lines_of (e ∷ g) ++ x) (lines_of g ++ x) (lines_of h ++ y)
    (line-step e g x v) (same ∙ append_assoc (event_line f) (lines_of h) y, w.0) in
    let one : e ≡ f = one_choice system p S e f shares r (a.0, a.1) (b.0, b.1) first.0 in
    let formed = run-formed (opening system) S p (opening-formed system) r in
    let there : a.0 ≡ b.0 = step-determined S e a.0 b.0 formed a.1 (subst (λ (d : Event). Step S d b.0) (sym one) b.1) in
    let rest : Run a.0 h U = subst (λ (V : State). Run V h U) (sym there) b.2 in
    goes-on-behind e f g h x y one
    (one-goes-on system (p ++ e ∷ []) a.0 T U g h x y shares
    (run-join (opening system) S a.0 p (e ∷ []) r (a.0, a.1, refl)) a.2 rest v.1 w.1 first.1)

-- two beginnings of one text
pub begins-on : (system : System) (steps : List ℕ) (g h : List Event) (x y : List ℕ) → SharesWell system
    → Begins system steps g x → Begins system steps h y → OneGoesOn g h x y
begins-on system steps g h x y shares one other =
    one-goes-on system [] (opening system) one.runs.0 other.runs.0 g h x y shares refl one.runs.1 other.runs.1 one.lines other.lines
    (sym one.written ∙ other.written)

-- a line is not empty
line-some : (e : Event) (u v : List ℕ) → [] ≡ (event_line e ++ u) ++ v → ⊥
line-some e u v is = cc

-- what goes on by lines is empty where nothing is left
none-more : (k : List Event) (y : List ℕ) → [] ≡ lines_of k ++ y → (k ≡ []) × (y ≡ [])
none-more [] y e = (refl, sym e)
none-more (d ∷ k) y e = absurd (line-some d (lines_of k) y e)

-- no event more
pub no-more : (g h : List Event) (x y : List ℕ) (on : GoesOn g h x y) → x ≡ [] → (h ≡ g) × (y ≡ [])
no-more g h x y on none =
    let nothing = none-more on.more y (sym none ∙ on.text) in
    (on.is ∙ (ap (λ (k : List Event). g ++ k) nothing.0 ∙ append-nil g), nothing.1)

-- the lines of a text are those of one list
pub one-list-steps : (system : System) (steps : List ℕ) (g h : List Event) → SharesWell system → Begins system steps g [] → Begins system steps h [] → g ≡ h
one-list-steps system steps g h shares one other =
    elim (begins-on system steps g h [] [] shares one other) [
      | inl on ↦ sym (no-more g h [] [] on refl).0
      | inr on ↦ (no-more h g [] [] on refl).0
    ]

-- a header has no end of a line
pub header-clear : (v : Version) → All IsNoEnd (header_of v)
header-clear First = clear-by-test 10 (header_of First) refl
header-clear Second = clear-by-test 10 (header_of Second) refl

-- the last bytes of the headers differ
other-header : header_of First ≡ header_of Second → ⊥
other-header e =
    let last : 49 ≡ 50 = ap (λ (l : List ℕ). get_or l 15 0) e in
    omega (arith, last)

-- a header is that of one version
version-same : (v w : Version) → header_of v ≡ header_of w → v ≡ w
version-same First First e = refl
version-same First Second e = absurd (other-header e)
version-same Second First e = absurd (other-header (sym e))
version-same Second Second e = refl

-- a text has one header, and one text behind it
pub same-steps : (v w : Version) (text s t : List ℕ) → HasSteps v text s → HasSteps w text t → (v ≡ w) × (s ≡ t)
same-steps v w text s t one other =
    let cut = cut-same 10 (header_of v) (header_of w) s t (header-clear v) (header-clear w) (sym one ∙ other) in
    (version-same v w cut.0, cut.1)

-- the first line of a text that begins with a header
pub first-is-header : (v : Version) (text steps line : List ℕ) → HasSteps v text steps → IsFirstLine text line → line ≡ header_of v
first-is-header v text steps line has (clear, inl whole) =
    absurd (has-one 10 (header_of v) steps (subst (λ (t : List ℕ). All IsNoEnd t) (sym whole ∙ has) clear))
first-is-header v text steps line has (clear, inr (behind, cut)) =
    (cut-same 10 line (header_of v) behind steps clear (header-clear v) (sym cut ∙ has)).0

-- a text with a header and its end is not a bare header
pub not-bare : (v w : Version) (text steps : List ℕ) → HasSteps v text steps → text ≡ header_of w → ⊥
not-bare v w text steps has bare =
    has-one 10 (header_of v) steps (subst (λ (t : List ℕ). All IsNoEnd t) (sym bare ∙ has) (header-clear w))

-- a text stands for one list
pub one-list : OneList
one-list system text g h shares (v, s, has, one, _) (w, t, same, other, _) =
    one-list-steps system s g h shares one
    (subst (λ (x : List ℕ). Begins system x h []) (sym (same-steps v w text s t has same).1) other)

-- the line of a choice is not empty
choice-some : (c : Choice) (after : List ℕ) → [] ≡ choice_line c ++ after → ⊥
choice-some c after is = cc

-- a step is not empty
pub step-some : (c : Choice) (rest after : List ℕ) → IsStep c rest after → rest ≡ [] → ⊥
step-some c rest after step none = choice-some c after (sym none ∙ step.0)

-- behind these events the step of the next can be taken
pub next-can : (system : System) (g k : List Event) (e : Event) (T : State) → Run (opening system) (g ++ e ∷ k) T → length (g ++ e ∷ k) ≤ most_live
    → CannotStep system g (choice_of e) → ⊥
next-can system g k e T r room (inl (U, run, none)) =
    let parts = run-part (opening system) T g (e ∷ k) r in
    let same : parts.middle ≡ U = run-determined (opening system) g parts.middle U (opening-formed system) parts.first run in
    none (e, (parts.second.0, subst (λ (V : State). Step V e parts.second.0) same parts.second.1), refl)
next-can system g k e T r room (inr full) =
    let more : length (g ++ e ∷ k) ≡ length g + suc (length k) = length-append g (e ∷ k) in
    omega (arith, room, full, more)

-- the canonical order has as many events
pub canonical-length : (h g : List Event) → IsCanonicalOrder h g → length g ≡ length h
canonical-length h [] c = ap (λ (l : List Event). length l) (sym c)
canonical-length h (e ∷ g) c =
    let rest : length g ≡ length (c.0 ++ c.1) = canonical-length (c.0 ++ c.1) g c.4 in
    let whole : length h ≡ length (c.0 ++ e ∷ c.1) = ap (λ (l : List Event). length l) c.2 in
    let more : length (c.0 ++ e ∷ c.1) ≡ length c.0 + suc (length c.1) = length-append c.0 (e ∷ c.1) in
    let less : length (c.0 ++ c.1) ≡ length c.0 + length c.1 = length-append c.0 c.1 in
    omega (arith, rest, whole, more, less)

-- lines that can be written in one order can be in canonical order
pub canonical-writable : (h g : List Event) → IsCanonicalOrder h g → Writable h → Writable g
canonical-writable h g c w =
    every-of (λ e. IsWritable (choice_of e)) g
    (λ e i. every-in (λ f. IsWritable (choice_of f)) h e w (in-rearranged g h e (canonical-rearranged h g c) i))

-- the traces of respecting orders
pub equal-bytes : EqualBytes
equal-bytes system h k T one other r there back (g, c, is) (f, o, too) =
    is ∙ (ap (λ (l : List Event). trace_text Second l) (orders-agree system h k g f T r there back c o) ∙ sym too)

-- no list of its events that is a respecting order of them, as they are of it, has another trace
pub only-trace : (m : AtMachine) (text : List ℕ) (k : List Event) (other : List ℕ) → Sound (object m) → Respecting (events m.live) k → Respecting k (events m.live)
    → IsTrace (events m.live) text → IsTrace k other → other ≡ text
only-trace m text k other s there back trace too = sym (equal-bytes m.checked (events m.live) k s.runs.0 text other s.runs.1 there back trace too)

-- the trace of a machine stands for its events in canonical order
pub trace-stands : TraceStands
trace-stands m text s lines (g, c, is) =
    let begins : Begins m.checked (lines_of g) g [] = record {
      written = sym (append-nil (lines_of g));
      lines = canonical-writable (events m.live) g c lines;
      runs = (s.runs.0, canonical-runs m.checked (events m.live) g s.runs.0 s.runs.1 c);
      room = omega (arith, s.room, events-length m.live, canonical-length (events m.live) g c);
    } in
    (g, c, (Second, lines_of g, is, begins, is-its-own-order m.checked (events m.live) g s.runs.0 s.runs.1 c))

-- what is loaded from it has the same events and the same state
pub loads-the-same : LoadsTheSame
loads-the-same m m' text shares s lines trace (h, stands, is) =
    let saved = trace-stands m text s lines trace in
    let same : h ≡ saved.0 = one-list m.checked text h saved.0 shares stands saved.2 in
    let live : events m'.live ≡ saved.0 = ap (λ (n : AtMachine). events n.live) is ∙ (ticketed-events 1 h ∙ same) in
    let checked : m'.checked ≡ m.checked = ap (λ (n : AtMachine). n.checked) is in
    let order : IsCanonicalOrder (events m.live) (events m'.live) =
    subst (λ (k : List Event). IsCanonicalOrder (events m.live) k) (sym live) saved.1 in
    let whole : Run (opening m.checked) (events m.live) s.runs.0 = s.runs.1 in
    let ordered : Run (opening m.checked) (events m'.live) s.runs.0 = canonical-runs m.checked (events m.live) (events m'.live) s.runs.0 whole order in (
      order,
      λ T. (
        λ r. subst (λ (U : State). Run (opening m.checked) (events m.live) U)
            (one_state m.checked (events m'.live) s.runs.0 T ordered
            (subst (λ (c : System). Run (opening c) (events m'.live) T) checked r)) whole,
        λ r. subst (λ (c : System). Run (opening c) (events m'.live) T) (sym checked)
            (canonical-runs m.checked (events m.live) (events m'.live) T r order),
      ),
    )
