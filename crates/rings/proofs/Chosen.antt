-- The ends on a channel, and the partner of an action among them.
use Rattle.std.proofs.Common.{◌≡◌, ◌⊎◌, ◌↔◌, inl, inr, ℕ, zero, suc, ◌+◌, ◌<◌, ◌≤◌, List, [], ◌∷◌, ◌++◌, drop, length, map, Bool, true, false, Option, Some, None, slice_get, slice_set, slice_index_or, refl, sym, ap, ap₂, ◌∙◌, subst, arith, true≢false}
use Rattle.std.proofs.lemmas.Bool.{cases_eq, cases_lt}
use Rattle.std.proofs.lemmas.Option.{slice_get-get_or}
use Rattle.syntax.specs.Lists.{In}
use Rattle.runs.proofs.public.Options.{none-some, some-injective}
use Rattle.runs.specs.Moves.{Place, Move, Local}
use Rattle.system.specs.Expression.{Store}
use Rattle.system.specs.Residual.{Residual}
use Rattle.process_tree.specs.Proc.{Proc}
use Rattle.process_tree.specs.Remaining.{remaining}
use Rattle.process_tree.specs.View.{tree_view}
use Rattle.process_tree.specs.declared.tree.Tree.{Tree}
use Rattle.local_actions.specs.Actions.{Offered}
use Rattle.local_actions.specs.View.{state_of}
use Rattle.local_actions.specs.declared.action.LocalAction.{LocalAction}
use Rattle.dependence.specs.LastEvents.{Uses, LastUse}
use Rattle.dependence.specs.declared.uses.UseTable.{UseTable}
use Rattle.rings.specs.Partners.{Standing, sought_by, partner_standing, partner_of, partner_in}
use Rattle.rings.specs.declared.partner.Partner.{Partner}
use Rattle.rings.specs.declared.partner.Partner.TheVariants.{Behind, Gone, Open}
use Rattle.rings.specs.declared.sought.Sought.{Sought}
use Rattle.rings.specs.internal.Placed.{Placed}
use Rattle.rings.specs.internal.Ends.{channel_of, channels, same_sought, with_end, counted, partner_by, partner_from, is_open, HasEnds, wants, MarksAlso, WantsEach, Sum, finished, working, ends_in, proc_sum}
use Rattle.rings.specs.internal.Loosened.{is_marked}
use Rattle.rings.specs.internal.Seen.{seen}
use Rattle.rings.proofs.Counted.{other-end, open-more, same-sought-true}
use Rattle.rings.proofs.Tallied.{bool-same, bool-other}
use Rattle.rings.proofs.Left.{left-seen}
use Rattle.rings.proofs.Summed.{Tells, proc-sums}

-- ---- the numbers of the ends on each channel
abbrev pub HasFirst : UseTable → List Placed → ℕ → Type 0
HasFirst uses es n = (c i : ℕ) → Uses uses c i ↔ ((i < n) × (slice_get (channels es) i ≡ Some c))

get-within : (xs : List ℕ) (i x : ℕ) → slice_get xs i ≡ Some x → i < length xs
get-within [] i x h = none-some x h
get-within (y ∷ xs) zero x h = omega arith
get-within (y ∷ xs) (suc i) x h = let less : i < length xs = get-within xs i x h in omega arith

pub channels-length : (es : List Placed) → length (channels es) ≡ length es
channels-length [] = refl
channels-length (e ∷ es) = ap suc (channels-length es)

pub channel-at : (es : List Placed) (i : ℕ) (e : Placed) → slice_get es i ≡ Some e → slice_get (channels es) i ≡ Some (channel_of e.sought)
channel-at [] i e h = none-some e h
channel-at (x ∷ es) zero e h = ap (λ (y : Placed). Some (channel_of y.sought)) (some-injective x e h)
channel-at (x ∷ es) (suc i) e h = channel-at es i e h

last-or-before : (old : UseTable) (es : List Placed) (n channel c i : ℕ) → HasFirst old es n → slice_get (channels es) n ≡ Some channel → i < n + 1 → slice_get (channels es) i ≡ Some c
    → Uses old c i ⊎ ((c ≡ channel) × (i ≡ n))
last-or-before old es n channel c i h here less is = elim (cases_lt i n) [
  | inl below ↦ inl ((h c i).1 (below, is))
  | inr above ↦ let at : i ≡ n = omega arith in inr (some-injective c channel (sym is ∙ ap (slice_get (channels es)) at ∙ here), at)
]

pub has-more : (old new : UseTable) (es : List Placed) (n channel : ℕ) → HasFirst old es n → slice_get (channels es) n ≡ Some channel
    → ((x t : ℕ) → Uses new x t ↔ (Uses old x t ⊎ ((x ≡ channel) × (t ≡ n)))) → HasFirst new es (n + 1)
has-more old new es n channel h here put c i = (
  λ u. elim ((put c i).0 u) [
    | inl was ↦ let told = (h c i).0 was in let less : i < n = told.0 in (omega arith, told.1)
    | inr is ↦ let at : i ≡ n = is.1 in (omega arith, subst (λ k. slice_get (channels es) k ≡ Some c) (sym is.1) (here ∙ ap Some (sym is.0)))
  ],
  λ u. (put c i).1 (last-or-before old es n channel c i h here u.0 u.1),
)

pub has-none : (uses : UseTable) (es : List Placed) → ((x t : ℕ) → Uses uses x t → ⊥) → HasFirst uses es 0
has-none uses es h c i = (λ u. absurd (h c i u), λ u. let less : i < 0 = u.0 in absurd (omega arith))

pub has-all : (uses : UseTable) (es : List Placed) (n : ℕ) → HasFirst uses es n → length es ≤ n → HasEnds uses es
has-all uses es n h all c i = (
  λ u. ((h c i).0 u).1,
  λ is.
      let less : i < length (channels es) = get-within (channels es) i c is in
      (h c i).1 (omega (arith, less, all, channels-length es), is),
)

-- ---- the search from the last end
drop-nil : (i : ℕ) → drop {A = Placed} i [] ≡ []
drop-nil zero = refl
drop-nil (suc i) = refl

drop-at : (es : List Placed) (i : ℕ) (e : Placed) → slice_get es i ≡ Some e → drop i es ≡ e ∷ drop (suc i) es
drop-at [] i e h = none-some e h
drop-at (x ∷ es) zero e h = ap (λ (y : Placed). y ∷ es) (some-injective x e h)
drop-at (x ∷ es) (suc i) e h = drop-at es i e h

-- what lies between counts for nothing
skip : (s : Sought) (own : Option Place) (es : List Placed) (i j : ℕ) → i ≤ j → ((t : ℕ) → i ≤ t → t < j → slice_get (channels es) t ≡ Some (channel_of s) → ⊥)
    → counted s own (drop i es) ≡ counted s own (drop j es)
skip s own [] i j h none = ap (counted s own) (drop-nil i ∙ sym (drop-nil j))
skip s own (e ∷ es) zero zero h none = refl
skip s own (e ∷ es) zero (suc j) h none =
    other-end s own e (counted s own es) (other (same_sought s e.sought) refl)
    ∙ skip s own es zero j (omega arith) (λ t a b g. none (suc t) (omega arith) (omega (arith, b)) g)
  where
    other : (b : Bool) → same_sought s e.sought ≡ b → b ≡ false
    other true g = absurd (none zero (omega arith) (omega arith) (ap (λ (z : Sought). Some (channel_of z)) (sym (same-sought-true s e.sought g))))
    other false g = refl
skip s own (e ∷ es) (suc i) zero h none = absurd (omega (arith, h))
skip s own (e ∷ es) (suc i) (suc j) h none = skip s own es i j (omega (arith, h)) (λ t a b g. none (suc t) (omega (arith, a)) (omega (arith, b)) g)

pub next-end : (uses : UseTable) (es : List Placed) (s : Sought) (own : Place) (below number : ℕ) (e : Placed) (old new : Partner)
    → HasEnds uses es → LastUse uses (channel_of s) below number → number < length es → e ≡ slice_index_or es number e
    → old ≡ counted s (Some own) (drop below es) → new ≡ with_end s (Some own) e old → new ≡ counted s (Some own) (drop number es)
next-end uses es s own below number e old new has found within at was is =
    let there : slice_get es number ≡ Some e = slice_get-get_or es number e within ∙ ap (λ (z : Placed). Some z) (sym at) in
    let more : number + 1 ≡ suc number = omega arith in
    let passed : counted s (Some own) (drop (suc number) es) ≡ counted s (Some own) (drop below es) =
    skip s (Some own) es (suc number) below (omega (arith, found.less))
    (λ t a b g. let up : t ≤ number = found.last t ((has (channel_of s) t).1 g) b in absurd (omega (arith, a, up))) in
    is ∙ ap (with_end s (Some own) e) (was ∙ sym passed) ∙ ap (counted s (Some own)) (sym (drop-at es number e there))

pub no-more-ends : (uses : UseTable) (es : List Placed) (s : Sought) (own : Place) (below : ℕ) (p : Partner)
    → HasEnds uses es → ((t : ℕ) → Uses uses (channel_of s) t → t < below → ⊥) → p ≡ counted s (Some own) (drop below es) → p ≡ counted s (Some own) es
no-more-ends uses es s own below p has none is =
    is ∙ sym (skip s (Some own) es zero below (omega arith) (λ t a b g. none t ((has (channel_of s) t).1 g) b))

open-dropped : (s : Sought) (own : Option Place) (es : List Placed) (i : ℕ) → counted s own (drop i es) ≡ Open → counted s own es ≡ Open
open-dropped s own [] i h = sym (ap (counted s own) (drop-nil i)) ∙ h
open-dropped s own (e ∷ es) zero h = h
open-dropped s own (e ∷ es) (suc i) h = open-more s own (e ∷ []) es (open-dropped s own es i h)

is-open-open : (p : Partner) → is_open p ≡ true → p ≡ Open
is-open-open (Behind a) h = cc
is-open-open Gone h = cc
is-open-open Open h = refl

pub open-ends : (s : Sought) (own : Place) (es : List Placed) (i : ℕ) (p : Partner) (b : Bool) → b ≡ is_open p → b ≡ true → p ≡ counted s (Some own) (drop i es) → Open ≡ counted s (Some own) es
open-ends s own es i p b told is h = sym (open-dropped s (Some own) es i (sym h ∙ is-open-open p (sym told ∙ is)))

-- ---- the channels that are wanted
pub push-keeps : (w : List Bool) (i : ℕ) → wants w i ≡ true → wants (w ++ false ∷ []) i ≡ true
push-keeps [] i h = absurd (true≢false (sym h))
push-keeps (b ∷ w) zero h = h
push-keeps (b ∷ w) (suc i) h = push-keeps w i h

pub set-marks : (old w : List Bool) (n : ℕ) → n < length w → ((i : ℕ) → wants old i ≡ true → wants w i ≡ true) → MarksAlso n old (slice_set w n true)
set-marks old w n less kept = (
  ap is_marked (bool-same w n true less),
  λ i h. elim (cases_eq i n) [
    | inl is ↦ ap (λ (k : ℕ). wants (slice_set w n true) k) is ∙ ap is_marked (bool-same w n true less)
    | inr apart ↦ ap is_marked (bool-other w n i true (λ e. apart (sym e))) ∙ kept i h
  ],
)

-- ---- what is found from the root is the partner of an action that is offered
told-partner : (x : Sum) (s : Sought) (a : Place) (y : Standing) → Tells x s (Some a) y → counted s (Some a) (ends_in x) ≡ partner_standing y
told-partner finished s a y h = sym (ap partner_standing h)
told-partner (working e es) s a y h = sym h.0

module _ (w : List Bool) (tree : Proc) (x : LocalAction) (m : Move) (t : Residual) (l : Local (remaining [] tree) x.place m t) where
  found : (o : Option Sought) → ((s : Sought) → o ≡ Some s → wants w (channel_of s) ≡ true)
      → partner_by (ends_in (proc_sum w tree)) x.place o ≡ partner_of (remaining [] tree) x.place o
  found None h = refl
  found (Some s) h =
      told-partner (proc_sum w tree) s x.place (seen s tree (Some x.place)) (proc-sums w tree s (h s refl) (Some x.place) ([], m, t, l))
      ∙ ap partner_standing (sym (left-seen s tree [] (Some x.place)))

map-alike : (f g : LocalAction → Partner) (xs : List LocalAction) → ((x : LocalAction) → In x xs → f x ≡ g x) → map f xs ≡ map g xs
map-alike f g [] h = refl
map-alike f g (x ∷ xs) h = ap₂ (λ (p : Partner) (ps : List Partner). p ∷ ps) (h x (inl refl)) (map-alike f g xs (λ y i. h y (inr i)))

pub found-partners : (w : List Bool) (tree : Tree) (p : Proc) (values : Store) (xs : List LocalAction) (x : Sum) (es : List Placed) (ps : List Partner)
    → p ≡ tree_view tree → WantsEach xs w → ((y : LocalAction) → In y xs → Offered (state_of tree values) y) → x ≡ proc_sum w p → es ≡ ends_in x
    → ps ≡ map (partner_from es) xs → ps ≡ map (partner_in (remaining [] (tree_view tree))) xs
found-partners w tree p values xs x es ps root wanted offers found_all here is =
    is ∙ ap (λ (fs : List Placed). map (partner_from fs) xs) (here ∙ ap ends_in (found_all ∙ ap (proc_sum w) root))
    ∙ map-alike (partner_from (ends_in (proc_sum w (tree_view tree)))) (partner_in (remaining [] (tree_view tree))) xs
    (λ y i. let o = offers y i in found w (tree_view tree) y o.move o.after o.possible (sought_by y.action) (λ s e. wanted y s i e))
