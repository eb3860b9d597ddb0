-- A text is refused for one reason.
use Rattle.std.proofs.Common.{◌≡◌, inl, inr, ℕ, suc, ◌+◌, ◌≤◌, List, [], ◌∷◌, ◌++◌, length, refl, sym, ap, ◌∙◌, subst, append_assoc, append-nil}
use Rattle.std.specs.List.{All}
use Rattle.system.specs.declared.system.System.{System}
use Rattle.sharing_rule.specs.Rule.{SharesWell}
use Rattle.runs.specs.Choices.{choice_of}
use Rattle.runs.specs.Object.{most_live}
use Rattle.runs.specs.Steps.{State, Run, opening}
use Rattle.runs.specs.declared.event.Choice.{Choice}
use Rattle.runs.specs.declared.event.Event.{Event}
use Rattle.trace_file.specs.declared.fault.Fault.{Fault}
use Rattle.trace_file.specs.TraceText.{header_of, event_line, HasSteps, Begins}
use Rattle.trace_file.specs.Loading.{IsFirstLine, IsNoEnd, IsStep, IsNoStep, CannotStep, DiffersAt, IsRefused}
use Rattle.trace_file.specs.declared.version.Version.{Version}
use Rattle.trace_file.specs.declared.version.Version.TheVariants.{First, Second}
use Rattle.trace_file.proofs.public.Canonicals.{one-canonical-order}
use Rattle.trace_file.specs.Canonical.{IsCanonicalOrder}
use Rattle.trace_file.specs.Laws.{NotRefused, OneFault}
use Rattle.trace_file.proofs.LineLemmas.{has-one, step-same}
use Rattle.trace_file.proofs.LawLemmas.{Writable, lines_of, begins-on, no-more, one-list-steps, same-steps, first-is-header, not-bare, next-can, step-some, header-clear}

-- behind the events g no event has the line with which the text begins
abbrev Stuck : System → List Event → List ℕ → Type 0
Stuck system g x =
    (e : Event) (l : List Event) (T : State) (after : List ℕ) → Run (opening system) (g ++ e ∷ l) T → length (g ++ e ∷ l) ≤ most_live
    → IsStep (choice_of e) x after → ⊥

-- where the text is no step
stuck-none : (system : System) (g : List Event) (x : List ℕ) → IsNoStep x → Stuck system g x
stuck-none system g x none e l T after r room s = none (choice_of e) after s

-- where the step can not be taken
stuck-cannot : (system : System) (g : List Event) (x after : List ℕ) (c : Choice) → IsStep c x after → CannotStep system g c → Stuck system g x
stuck-cannot system g x after c step cannot e l T behind r room s =
    let same : c ≡ choice_of e = (step-same c (choice_of e) x after behind step s).0 in
    next-can system g l e T r room (subst (CannotStep system g) same cannot)

-- a list does not go on where it is stuck
stuck-parts : (system : System) (steps : List ℕ) (g h : List Event) (x y : List ℕ) → Begins system steps h y → Stuck system g x
    → (k : List Event) → h ≡ g ++ k → x ≡ lines_of k ++ y → Writable k → (g ≡ h) × (x ≡ y)
stuck-parts system steps g h x y b stuck [] is same lines = (sym (is ∙ append-nil g), same)
stuck-parts system steps g h x y b stuck (e ∷ l) is same lines =
    absurd (stuck e l b.runs.0 (lines_of l ++ y) (subst (λ (k : List Event). Run (opening system) k b.runs.0) is b.runs.1)
    (subst (λ (k : List Event). length k ≤ most_live) is b.room)
    (same ∙ append_assoc (event_line e) (lines_of l) y, lines.0))

-- a text is stuck at one place
stuck-same : (system : System) (steps : List ℕ) (g h : List Event) (x y : List ℕ) → SharesWell system
    → Begins system steps g x → Stuck system g x → Begins system steps h y → Stuck system h y → (g ≡ h) × (x ≡ y)
stuck-same system steps g h x y shares one this other that =
    elim (begins-on system steps g h x y shares one other) [
      | inl on ↦ stuck-parts system steps g h x y other this on.more on.is on.text on.lines
      | inr on ↦ let turned = stuck-parts system steps h g y x one that on.more on.is on.text on.lines in (sym turned.0, sym turned.1)
    ]

-- lines that all are taken are not stuck
whole-stuck : (system : System) (steps : List ℕ) (h g : List Event) (rest : List ℕ) → SharesWell system
    → Begins system steps h [] → Begins system steps g rest → Stuck system g rest → (rest ≡ [] → ⊥) → ⊥
whole-stuck system steps h g rest shares whole begins stuck some =
    elim (begins-on system steps g h rest [] shares begins whole) [
      | inl on ↦ some (stuck-parts system steps g h rest [] whole stuck on.more on.is on.text on.lines).1
      | inr on ↦ some (no-more h g [] rest on refl).1
    ]

-- the first of two events behind the same events
heads-behind : (p k l : List Event) (e f : Event) → p ++ e ∷ k ≡ p ++ f ∷ l → e ≡ f
heads-behind [] k l e f same = cc
heads-behind (x ∷ p) k l e f same = let rest : p ++ e ∷ k ≡ p ++ f ∷ l = cc in heads-behind p k l e f rest

-- a list does not differ from itself
differs-not : (h : List Event) (n : ℕ) → DiffersAt h h n → ⊥
differs-not h n (p, e, f, k, l, one, two, other, _) = other (ap event_line (heads-behind p k l e f (sym one ∙ two)))

-- two lists begin to differ at one place
same-length : (p q k l k' l' : List Event) (e f e' f' : Event) → p ++ e ∷ k ≡ q ++ e' ∷ k' → p ++ f ∷ l ≡ q ++ f' ∷ l'
    → (event_line e ≡ event_line f → ⊥) → (event_line e' ≡ event_line f' → ⊥) → length p ≡ length q
same-length [] [] k l k' l' e f e' f' one two n m = refl
same-length [] (x ∷ q) k l k' l' e f e' f' one two n m =
    let this : e ≡ x = cc in
    let that : f ≡ x = cc in
    absurd (n (ap event_line (this ∙ sym that)))
same-length (x ∷ p) [] k l k' l' e f e' f' one two n m =
    let this : x ≡ e' = cc in
    let that : x ≡ f' = cc in
    absurd (m (ap event_line (sym this ∙ that)))
same-length (x ∷ p) (y ∷ q) k l k' l' e f e' f' one two n m =
    let first : p ++ e ∷ k ≡ q ++ e' ∷ k' = cc in
    let second : p ++ f ∷ l ≡ q ++ f' ∷ l' = cc in
    ap suc (same-length p q k l k' l' e f e' f' first second n m)

differs-once : (h g : List Event) (m n : ℕ) → DiffersAt h g m → DiffersAt h g n → m ≡ n
differs-once h g m n (p, e, f, k, l, one, two, other, is) (q, e', f', k', l', one', two', other', is') =
    is ∙ (ap (λ (i : ℕ). 2 + i) (same-length p q k l k' l' e f e' f' (sym one ∙ one') (sym two ∙ two') other other') ∙ sym is')

-- what holds of a text behind its header holds by each other name of it
behind-same : (system : System) (v w : Version) (text s t : List ℕ) (h : List Event) (rest : List ℕ) → HasSteps v text s → HasSteps w text t
    → Begins system t h rest → Begins system s h rest
behind-same system v w text s t h rest one other b =
    subst (λ (x : List ℕ). Begins system x h rest) (sym (same-steps v w text s t one other).1) b

-- the versions are two
first-second : First ≡ Second → ⊥
first-second e = cc

-- a text that stands for events is not refused
pub not-refused : NotRefused
not-refused system text h Fault.Memory shares stands refused = refl
not-refused system text h Fault.BadHeader shares (v, steps, has, _, _) (line, first, other) =
    absurd (other v (first-is-header v text steps line has first))
not-refused system text h (Fault.BadLine n) shares (v, steps, has, _, _) (inl (_, (w, bare))) = absurd (not-bare v w text steps has bare)
not-refused system text h (Fault.BadLine n) shares (v, steps, has, begins, _) (inr (w, t, same, (g, rest, b, _, some, none))) =
    absurd (whole-stuck system steps h g rest shares begins (behind-same system v w text steps t g rest has same b) (stuck-none system g rest none) some)
not-refused system text h (Fault.NotAStep n) shares (v, steps, has, begins, _) (w, t, same, (g, rest, b, _, (c, after, step, cannot))) =
    absurd (whole-stuck system steps h g rest shares begins (behind-same system v w text steps t g rest has same b)
    (stuck-cannot system g rest after c step cannot) (step-some c rest after step))
not-refused system text h (Fault.NotCanonical n) shares (First, steps, has, begins, order) (t, g, same, b, (k, canonical, differs)) =
    absurd (first-second (same-steps First Second text steps t has same).0)
not-refused system text h (Fault.NotCanonical n) shares (Second, steps, has, begins, order) (t, g, same, b, (k, canonical, differs)) =
    let one : g ≡ h = one-list-steps system steps g h shares (behind-same system Second Second text steps t g [] has same b) begins in
    let here : IsCanonicalOrder h k = subst (λ (l : List Event). IsCanonicalOrder l k) one canonical in
    let own : k ≡ h = one-canonical-order system h k h begins.runs.0 begins.runs.1 here order in
    absurd (differs-not h n (subst (λ (l : List Event). DiffersAt h l n) own (subst (λ (l : List Event). DiffersAt l k n) one differs)))
not-refused system text h Fault.ReadFailed shares stands refused = absurd refused
not-refused system text h Fault.WriteFailed shares stands refused = absurd refused

-- the first line of a bare header
bare-header : (v : Version) (text line : List ℕ) → text ≡ header_of v → IsFirstLine text line → line ≡ header_of v
bare-header v text line bare (clear, inl whole) = sym whole ∙ bare
bare-header v text line bare (clear, inr (behind, cut)) =
    absurd (has-one 10 line behind (subst (λ (t : List ℕ). All IsNoEnd t) (sym bare ∙ cut) (header-clear v)))

-- a refusal that names no line goes with no other
no-header-alone : (system : System) (text line : List ℕ) (other : Fault) → IsFirstLine text line → ((v : Version) → line ≡ header_of v → ⊥)
    → IsRefused system text other → (other ≡ Fault.Memory → ⊥) → Fault.BadHeader ≡ other
no-header-alone system text line Fault.Memory first not refused some = absurd (some refl)
no-header-alone system text line Fault.BadHeader first not refused some = refl
no-header-alone system text line (Fault.BadLine n) first not (inl (_, (v, bare))) some = absurd (not v (bare-header v text line bare first))
no-header-alone system text line (Fault.BadLine n) first not (inr (v, steps, has, _)) some = absurd (not v (first-is-header v text steps line has first))
no-header-alone system text line (Fault.NotAStep n) first not (v, steps, has, _) some = absurd (not v (first-is-header v text steps line has first))
no-header-alone system text line (Fault.NotCanonical n) first not (steps, _, has, _, _) some =
    absurd (not Second (first-is-header Second text steps line has first))
no-header-alone system text line Fault.ReadFailed first not refused some = absurd refused
no-header-alone system text line Fault.WriteFailed first not refused some = absurd refused

-- a number that is told of two lists that are one
same-number : (m n : ℕ) (g h : List Event) → m ≡ 2 + length g → n ≡ 2 + length h → g ≡ h → m ≡ n
same-number m n g h a b same = a ∙ (ap (λ (k : List Event). 2 + length k) same ∙ sym b)

-- a bare header is refused for no other reason
bare-alone : (system : System) (text : List ℕ) (v : Version) (m : ℕ) (other : Fault) → m ≡ 1 → text ≡ header_of v → IsRefused system text other
    → (other ≡ Fault.Memory → ⊥) → Fault.BadLine m ≡ other
bare-alone system text v m Fault.Memory one bare refused some = absurd (some refl)
bare-alone system text v m Fault.BadHeader one bare (line, first, not) some = absurd (not v (bare-header v text line bare first))
bare-alone system text v m (Fault.BadLine n) one bare (inl (is, _)) some = ap Fault.BadLine (one ∙ sym is)
bare-alone system text v m (Fault.BadLine n) one bare (inr (w, steps, has, _)) some = absurd (not-bare w v text steps has bare)
bare-alone system text v m (Fault.NotAStep n) one bare (w, steps, has, _) some = absurd (not-bare w v text steps has bare)
bare-alone system text v m (Fault.NotCanonical n) one bare (steps, _, has, _, _) some = absurd (not-bare Second v text steps has bare)
bare-alone system text v m Fault.ReadFailed one bare refused some = absurd refused
bare-alone system text v m Fault.WriteFailed one bare refused some = absurd refused

-- a line that is no step, behind these events
line-alone : (system : System) (v : Version) (text steps : List ℕ) (m : ℕ) (g : List Event) (x : List ℕ) (other : Fault) → SharesWell system
    → HasSteps v text steps → Begins system steps g x → m ≡ 2 + length g → (x ≡ [] → ⊥) → IsNoStep x → IsRefused system text other
    → (other ≡ Fault.Memory → ⊥) → Fault.BadLine m ≡ other
line-alone system v text steps m g x Fault.Memory shares has b is left none refused some = absurd (some refl)
line-alone system v text steps m g x Fault.BadHeader shares has b is left none (line, first, not) some =
    absurd (not v (first-is-header v text steps line has first))
line-alone system v text steps m g x (Fault.BadLine n) shares has b is left none (inl (_, (w, bare))) some = absurd (not-bare v w text steps has bare)
line-alone system v text steps m g x (Fault.BadLine n) shares has b is left none (inr (w, t, too, (h, y, o, is', _, none'))) some =
    let same = stuck-same system steps g h x y shares b (stuck-none system g x none) (behind-same system v w text steps t h y has too o) (stuck-none system h y none') in
    ap Fault.BadLine (same-number m n g h is is' same.0)
line-alone system v text steps m g x (Fault.NotAStep n) shares has b is left none (w, t, too, (h, y, o, _, (c, after, step, cannot))) some =
    let same = stuck-same system steps g h x y shares b (stuck-none system g x none) (behind-same system v w text steps t h y has too o)
    (stuck-cannot system h y after c step cannot) in
    absurd (none c after (subst (λ (z : List ℕ). IsStep c z after) (sym same.1) step))
line-alone system v text steps m g x (Fault.NotCanonical n) shares has b is left none (t, h, too, o, _) some =
    absurd (whole-stuck system steps h g x shares (behind-same system v Second text steps t h [] has too o) b (stuck-none system g x none) left)
line-alone system v text steps m g x Fault.ReadFailed shares has b is left none refused some = absurd refused
line-alone system v text steps m g x Fault.WriteFailed shares has b is left none refused some = absurd refused

-- a text is refused for one reason, but for want of memory
pub one-fault : OneFault
one-fault system text Fault.Memory other shares one two some more = absurd (some refl)
one-fault system text Fault.ReadFailed other shares one two some more = absurd one
one-fault system text Fault.WriteFailed other shares one two some more = absurd one
one-fault system text Fault.BadHeader other shares (line, first, not) two some more = no-header-alone system text line other first not two more
one-fault system text (Fault.BadLine m) other shares (inl (is, (v, bare))) two some more = bare-alone system text v m other is bare two more
one-fault system text (Fault.BadLine m) other shares (inr (v, s, has, (g, x, a, is, left, none))) two some more =
    line-alone system v text s m g x other shares has a is left none two more
one-fault system text (Fault.NotAStep m) Fault.Memory shares one two some more = absurd (more refl)
one-fault system text (Fault.NotAStep m) Fault.ReadFailed shares one two some more = absurd two
one-fault system text (Fault.NotAStep m) Fault.WriteFailed shares one two some more = absurd two
one-fault system text (Fault.NotAStep m) Fault.BadHeader shares one (line, first, not) some more = sym (no-header-alone system text line (Fault.NotAStep m) first not one some)
one-fault system text (Fault.NotAStep m) (Fault.BadLine n) shares one (inl (is, (v, bare))) some more =
    sym (bare-alone system text v n (Fault.NotAStep m) is bare one some)
one-fault system text (Fault.NotAStep m) (Fault.BadLine n) shares one (inr (v, s, has, (g, x, a, is, left, none))) some more =
    sym (line-alone system v text s n g x (Fault.NotAStep m) shares has a is left none one some)
one-fault system text (Fault.NotAStep m) (Fault.NotAStep n) shares (v, s, has, (g, x, a, is, (c, r, step, cannot))) (w, t, too, (h, y, b, is', (d, q, step', cannot'))) some more =
    let same = stuck-same system s g h x y shares a (stuck-cannot system g x r c step cannot) (behind-same system v w text s t h y has too b)
    (stuck-cannot system h y q d step' cannot') in
    ap Fault.NotAStep (same-number m n g h is is' same.0)
one-fault system text (Fault.NotAStep m) (Fault.NotCanonical n) shares (v, s, has, (g, x, a, is, (c, r, step, cannot))) (t, h, too, b, _) some more =
    absurd (whole-stuck system s h g x shares (behind-same system v Second text s t h [] has too b) a (stuck-cannot system g x r c step cannot) (step-some c x r step))
one-fault system text (Fault.NotCanonical m) Fault.Memory shares one two some more = absurd (more refl)
one-fault system text (Fault.NotCanonical m) Fault.ReadFailed shares one two some more = absurd two
one-fault system text (Fault.NotCanonical m) Fault.WriteFailed shares one two some more = absurd two
one-fault system text (Fault.NotCanonical m) Fault.BadHeader shares one (line, first, not) some more = sym (no-header-alone system text line (Fault.NotCanonical m) first not one some)
one-fault system text (Fault.NotCanonical m) (Fault.BadLine n) shares one (inl (is, (v, bare))) some more =
    sym (bare-alone system text v n (Fault.NotCanonical m) is bare one some)
one-fault system text (Fault.NotCanonical m) (Fault.BadLine n) shares one (inr (v, s, has, (g, x, a, is, left, none))) some more =
    sym (line-alone system v text s n g x (Fault.NotCanonical m) shares has a is left none one some)
one-fault system text (Fault.NotCanonical m) (Fault.NotAStep n) shares (t, h, too, b, _) (v, s, has, (g, x, a, is, (c, r, step, cannot))) some more =
    absurd (whole-stuck system s h g x shares (behind-same system v Second text s t h [] has too b) a (stuck-cannot system g x r c step cannot) (step-some c x r step))
one-fault system text (Fault.NotCanonical m) (Fault.NotCanonical n) shares (s, g, has, a, (k, c, differs)) (t, h, too, b, (l, o, differs')) some more =
    let one : g ≡ h = one-list-steps system s g h shares a (behind-same system Second Second text s t h [] has too b) in
    let here : IsCanonicalOrder g l = subst (λ (z : List Event). IsCanonicalOrder z l) (sym one) o in
    let same : l ≡ k = one-canonical-order system g l k a.runs.0 a.runs.1 here c in
    ap Fault.NotCanonical (differs-once g k m n differs
    (subst (λ (z : List Event). DiffersAt g z n) same (subst (λ (z : List Event). DiffersAt z l n) (sym one) differs')))
