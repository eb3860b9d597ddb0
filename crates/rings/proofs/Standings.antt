-- Standings of a child with what comes behind it, and of branches; and where an action is offered in them.
use Rattle.std.proofs.Common.{◌≡◌, ◌⊎◌, inl, inr, ℕ, ◌+◌, ◌<◌, ◌≤◌, List, [], ◌∷◌, ◌++◌, Bool, true, false, ◌||◌, cond, Option, Some, None, refl, sym, ap, ap₂, ◌∙◌, subst, ne_eqb, true≢false, arith}
use Rattle.address.specs.declared.Entry.{Entry}
use Rattle.address.specs.declared.Entry.TheVariants.{Ordered, Branch}
use Rattle.system.specs.Residual.{Residual, done, halted, inside, beside, assign, send, receive, sync, held, loop, while, test, choose, closing, drain, within, along}
use Rattle.runs.specs.Moves.{Place, Move, Local}
use Rattle.runs.specs.Tests.{same_entry}
use Rattle.process_tree.specs.Remaining.{Received, remaining, remaining_sequence, remaining_parallel}
use Rattle.process_tree.specs.Proc.{Proc, Procs, no_procs, proc}
use Rattle.rings.specs.Partners as standing
use Rattle.rings.specs.Partners.{Standing, over, nowhere, never, behind, at_hand, is_receive, is_sync, is_close, is_arm, is_found, below, there, ahead, at_arms, in_branch, together, stands, partner_standing}
use Rattle.rings.specs.declared.partner.Partner.{Partner}
use Rattle.rings.specs.declared.partner.Partner.TheVariants as partner
use Rattle.rings.specs.declared.sought.Sought.{Sought}
use Rattle.rings.specs.internal.Ends as sums
use Rattle.rings.specs.internal.Placed.{Placed}
use Rattle.rings.specs.internal.Ends.{under, later, here, Sum, finished, working, after, in_turns, sum_abreast}
use Rattle.rings.specs.internal.Seen.{Walk, walk_abreast, seen, procs_seen}
use Rattle.rings.proofs.Counted.{gone_as, shown, pre, tog, StartsApart, AllApart}
use Rattle.rings.proofs.Left.{left-seen}

abbrev pub is_over : Standing → Bool
is_over over = true
is_over nowhere = false
is_over never = false
is_over (behind a) = false
is_over at_hand = false

-- ---- standings
pub not-over : (e : Bool) (r : Partner) → is_over (shown e r) ≡ false
not-over true partner.Gone = refl
not-over false partner.Gone = refl
not-over e (partner.Behind p) = refl
not-over e partner.Open = refl

pub over-shown : (e : Bool) (r : Partner) → shown e r ≡ over → ⊥
over-shown e r h = true≢false (sym (ap is_over h) ∙ not-over e r)

-- in the child, where the action stands there
pub inner : (x : Entry) (b : Place) (y z : Standing) → is_over y ≡ false
    → (partner_standing (standing.after x (Some b) y z) ≡ pre x (partner_standing y)) × (is_over (standing.after x (Some b) y z) ≡ false)
inner x b over z h = cc
inner x b nowhere z h = (refl, refl)
inner x b never z h = (refl, refl)
inner x b (behind a) z h = (refl, refl)
inner x b at_hand z h = (refl, refl)

pub after-endless : (x : Entry) (c : Partner) (z : Standing) → standing.after x None (shown true c) z ≡ shown true (pre x c)
after-endless x partner.Gone z = refl
after-endless x (partner.Behind p) z = refl
after-endless x partner.Open z = refl

pub after-last : (x : Entry) (c : Partner) → standing.after x None (shown false c) over ≡ shown false (pre x c)
after-last x partner.Gone = refl
after-last x (partner.Behind p) = refl
after-last x partner.Open = refl

pub after-held : (x : Entry) (f : Bool) (c : Partner) (z : Standing) → (c ≡ partner.Gone → ⊥) → standing.after x None (shown false c) z ≡ shown f (pre x c)
after-held x f partner.Gone z h = absurd (h refl)
after-held x f (partner.Behind p) z h = refl
after-held x f partner.Open z h = refl

pub after-none : (x : Entry) (f : Bool) → standing.later x None (gone_as f) ≡ gone_as f
after-none x true = refl
after-none x false = refl

-- side by side
pub tog-standing : (x : Entry) (y z : Standing) → partner_standing (together (in_branch x y) z) ≡ tog (pre x (partner_standing y)) (partner_standing z)
tog-standing x over z = refl
tog-standing x nowhere over = refl
tog-standing x nowhere nowhere = refl
tog-standing x nowhere never = refl
tog-standing x nowhere (behind b) = refl
tog-standing x nowhere at_hand = refl
tog-standing x never over = refl
tog-standing x never nowhere = refl
tog-standing x never never = refl
tog-standing x never (behind b) = refl
tog-standing x never at_hand = refl
tog-standing x (behind a) over = refl
tog-standing x (behind a) nowhere = refl
tog-standing x (behind a) never = refl
tog-standing x (behind a) (behind b) = refl
tog-standing x (behind a) at_hand = refl
tog-standing x at_hand z = refl

pub tog-over : (x : Entry) (y z : Standing) → is_over y ≡ false → is_over (together (in_branch x y) z) ≡ false
tog-over x over z h = cc
tog-over x nowhere over h = refl
tog-over x nowhere nowhere h = refl
tog-over x nowhere never h = refl
tog-over x nowhere (behind b) h = refl
tog-over x nowhere at_hand h = refl
tog-over x never over h = refl
tog-over x never nowhere h = refl
tog-over x never never h = refl
tog-over x never (behind b) h = refl
tog-over x never at_hand h = refl
tog-over x (behind a) over h = refl
tog-over x (behind a) nowhere h = refl
tog-over x (behind a) never h = refl
tog-over x (behind a) (behind b) h = refl
tog-over x (behind a) at_hand h = refl
tog-over x at_hand z h = refl

pub tog-last : (x : Entry) (e : Bool) (c : Partner) → together (in_branch x (shown e c)) over ≡ shown e (pre x c)
tog-last x true partner.Gone = refl
tog-last x false partner.Gone = refl
tog-last x e (partner.Behind p) = refl
tog-last x e partner.Open = refl

pub tog-shown : (x : Entry) (e f : Bool) (c r : Partner) → together (in_branch x (shown e c)) (shown f r) ≡ shown (e || f) (tog (pre x c) r)
tog-shown x true true partner.Gone partner.Gone = refl
tog-shown x true false partner.Gone partner.Gone = refl
tog-shown x false true partner.Gone partner.Gone = refl
tog-shown x false false partner.Gone partner.Gone = refl
tog-shown x true f partner.Gone (partner.Behind q) = refl
tog-shown x false f partner.Gone (partner.Behind q) = refl
tog-shown x true f partner.Gone partner.Open = refl
tog-shown x false f partner.Gone partner.Open = refl
tog-shown x e true (partner.Behind p) partner.Gone = refl
tog-shown x e false (partner.Behind p) partner.Gone = refl
tog-shown x e f (partner.Behind p) (partner.Behind q) = refl
tog-shown x e f (partner.Behind p) partner.Open = refl
tog-shown x e f partner.Open r = refl

-- ---- what is over offers nothing
after-over : (x : Entry) (own : Option Place) (y z : Standing) → standing.after x own y z ≡ over → y ≡ over
after-over x own over z h = refl
after-over x None nowhere over h = cc
after-over x None nowhere nowhere h = cc
after-over x None nowhere never h = cc
after-over x None nowhere (behind a) h = cc
after-over x None nowhere at_hand h = cc
after-over x (Some b) nowhere z h = cc
after-over x own never z h = cc
after-over x own (behind a) z h = cc
after-over x own at_hand z h = cc

branch-over : (x : Entry) (y z : Standing) → together (in_branch x y) z ≡ over → (y ≡ over) × (z ≡ over)
branch-over x over z h = (refl, h)
branch-over x nowhere over h = cc
branch-over x nowhere nowhere h = cc
branch-over x nowhere never h = cc
branch-over x nowhere (behind b) h = cc
branch-over x nowhere at_hand h = cc
branch-over x never over h = cc
branch-over x never nowhere h = cc
branch-over x never never h = cc
branch-over x never (behind b) h = cc
branch-over x never at_hand h = cc
branch-over x (behind a) over h = cc
branch-over x (behind a) nowhere h = cc
branch-over x (behind a) never h = cc
branch-over x (behind a) (behind b) h = cc
branch-over x (behind a) at_hand h = cc
branch-over x at_hand z h = cc

there-over : (own : Option Place) (b : Bool) → there own b ≡ over → ⊥
there-over None true h = cc
there-over None false h = cc
there-over (Some a) b h = cc

ahead-over : (b : Bool) → ahead b ≡ over → ⊥
ahead-over true h = cc
ahead-over false h = cc

turns-over : (e b : Bool) → standing.in_turns e b ≡ over → ⊥
turns-over true true h = cc
turns-over true false h = cc
turns-over false b h = ahead-over b h

arms-over : (own : Option Place) (o l : Bool) → at_arms own o l ≡ over → ⊥
arms-over None true l h = cc
arms-over None false l h = ahead-over l h
arms-over (Some a) o l h = cc

nothing-left : (s : Sought) (r : Residual) (own : Option Place) → stands s r own ≡ over → (a : Place) (m : Move) (q : Residual) → Local r a m q → ⊥
nothing-left s done own h a m q l = absurd l
nothing-left s halted own h a m q l = absurd l
nothing-left s (inside i child next) own h a m q l =
    nothing-left s child (below own (Ordered i)) (after-over (Ordered i) (below own (Ordered i)) (stands s child (below own (Ordered i))) (stands s next own) h) l.0 m l.1 l.3
nothing-left s (beside k child rest) own h a m q l =
    let both = branch-over (Branch k) (stands s child (below own (Branch k))) (stands s rest own) h in
    elim l [
      | inl here ↦ nothing-left s child (below own (Branch k)) both.0 here.0 m here.1 here.3
      | inr other ↦ nothing-left s rest own both.1 a m other.0 other.1
    ]
nothing-left s (assign x w e) own h a m q l = cc
nothing-left s (send c w e) own h a m q l = there-over own (standing.is_send s c) h
nothing-left s (receive c x) own h a m q l = there-over own (is_receive s c) h
nothing-left s (sync c) own h a m q l = there-over own (is_sync s c) h
nothing-left s (held c) own h a m q l = cc
nothing-left s (loop k body) own h a m q l = turns-over true (is_found (stands s body None)) h
nothing-left s (while k e body) own h a m q l = turns-over false (is_found (stands s body None)) h
nothing-left s (test d arms) own h a m q l = ahead-over (standing.in_arms s arms) h
nothing-left s (choose cs arms) own h a m q l = arms-over own (is_arm s cs) (standing.in_arms s arms) h
nothing-left s (closing c) own h a m q l = there-over own (is_close s c) h
nothing-left s (drain c k) own h a m q l = there-over own (is_receive s c) h

-- a move in a child or in what comes behind it
within-local : (i : ℕ) (r q : Residual) (a : Place) (m : Move) (t : Residual) → Local (within i r q) a m t
    → ((b : Place) × (u : Residual) × (a ≡ Ordered i ∷ b) × Local r b m u) ⊎ ((r ≡ done) × Local q a m t)
within-local i done q a m t l = inr (refl, l)
within-local i r q a m t l = inl (l.0, l.1, l.2, l.3)

-- in a branch or beside it
along-local : (k : ℕ) (r q : Residual) (a : Place) (m : Move) (t : Residual) → Local (along k r q) a m t
    → ((b : Place) × (u : Residual) × (a ≡ Branch k ∷ b) × Local r b m u) ⊎ ((u : Residual) × Local q a m u)
along-local k done q a m t l = inr (t, l)
along-local k r q a m t l = elim l [
  | inl here ↦ inl (here.0, here.1, here.2, here.3)
  | inr other ↦ inr (other.0, other.1)
]

-- where a process, or some of them, offer something
abbrev pub Fronts : Proc → Place → Type 0
Fronts p a = (env : Received) × (m : Move) × (t : Residual) × Local (remaining env p) a m t

abbrev pub FrontsInTurn : ℕ → Procs → Place → Type 0
FrontsInTurn n ps a = (env : Received) × (m : Move) × (t : Residual) × Local (remaining_sequence env n ps) a m t

abbrev pub FrontsAbreast : ℕ → Procs → Place → Type 0
FrontsAbreast n ps a = (env : Received) × (m : Move) × (t : Residual) × Local (remaining_parallel env n ps) a m t

pub alive : (p : Proc) (b : Place) → Fronts p b → (s : Sought) → seen s p (Some b) ≡ over → ⊥
alive p b f s h = nothing-left s (remaining f.0 p) (Some b) (left-seen s p f.0 (Some b) ∙ h) b f.1 f.2 f.3

done-over : (p : Proc) (env : Received) → remaining env p ≡ done → (s : Sought) (own : Option Place) → seen s p own ≡ over
done-over p env is s own = sym (left-seen s p env own) ∙ ap (λ (r : Residual). stands s r own) is

-- an action in a child, or in what comes behind it
pub enter-child : (i : ℕ) (q : Proc) (a : Place) (env : Received) (m : Move) (r t : Residual) → Local (within i (remaining env q) r) a m t
    → ((b : Place) × (a ≡ Ordered i ∷ b) × Fronts q b) ⊎ (((s : Sought) (own : Option Place) → seen s q own ≡ over) × Unit {0})
enter-child i q a env m r t l = elim (within-local i (remaining env q) r a m t l) [
  | inl child ↦ inl (child.0, child.2, (env, m, child.1, child.3))
  | inr behind_it ↦ inr ((λ s own. done-over q env behind_it.0 s own), tt)
]

pub enter-turn : (n : ℕ) (p : Proc) (ps : Procs) (a : Place) → FrontsInTurn n (proc p ps) a
    → ((b : Place) × (a ≡ Ordered n ∷ b) × Fronts p b) ⊎ (((s : Sought) (own : Option Place) → seen s p own ≡ over) × FrontsInTurn (n + 1) ps a)
enter-turn n p ps a f = elim (within-local n (remaining f.0 p) (remaining_sequence f.0 (n + 1) ps) a f.1 f.2 f.3) [
  | inl child ↦ inl (child.0, child.2, (f.0, f.1, child.1, child.3))
  | inr behind_it ↦ inr ((λ s own. done-over p f.0 behind_it.0 s own), (f.0, f.1, f.2, behind_it.1))
]

-- branches have numbers of their own
branch-apart : (n k : ℕ) → n < k → (same_entry (Branch n) (Branch k) ≡ false) × (same_entry (Branch k) (Branch n) ≡ false)
branch-apart n k h = (ne_eqb n k (λ e. omega (arith, e, h)), ne_eqb k n (λ e. omega (arith, e, h)))

abreast-elsewhere : (fs : List Walk) (k n : ℕ) (b : Place) → n < k → walk_abreast k fs (Some (Branch n ∷ b)) ≡ walk_abreast k fs None
abreast-elsewhere [] k n b h = refl
abreast-elsewhere (f ∷ fs) k n b h =
    ap₂ (λ (o : Option Place) (z : Standing). together (in_branch (Branch k) (f o)) z)
    (ap (λ (t : Bool). cond t (Some b) None) (branch-apart n k h).0) (abreast-elsewhere fs (k + 1) n b (omega (arith, h)))

abreast-heads : (ps : Procs) (env : Received) (k : ℕ) (a : Place) (m : Move) (t : Residual) → Local (remaining_parallel env k ps) a m t
    → (j : ℕ) × (b : Place) × (a ≡ Branch j ∷ b) × (k ≤ j)
abreast-heads no_procs env k a m t l = absurd l
abreast-heads (proc p ps) env k a m t l = elim (along-local k (remaining env p) (remaining_parallel env (k + 1) ps) a m t l) [
  | inl child ↦ (k, child.0, child.2, omega arith)
  | inr other ↦ let rest = abreast-heads ps env (k + 1) a m other.0 other.1 in (rest.0, rest.1, rest.2, omega (arith, rest.3))
]

pub enter-branch : (n : ℕ) (p : Proc) (ps : Procs) (a : Place) → FrontsAbreast n (proc p ps) a
    → ((b : Place) × (a ≡ Branch n ∷ b) × Fronts p b × ((s : Sought) → walk_abreast (n + 1) (procs_seen s ps) (Some a) ≡ walk_abreast (n + 1) (procs_seen s ps) None))
    ⊎ ((below (Some a) (Branch n) ≡ None) × FrontsAbreast (n + 1) ps a)
enter-branch n p ps a f = elim (along-local n (remaining f.0 p) (remaining_parallel f.0 (n + 1) ps) a f.1 f.2 f.3) [
  | inl child ↦ inl (
    child.0,
    child.2,
    (f.0, f.1, child.1, child.3),
    λ s. ap (λ (z : Place). walk_abreast (n + 1) (procs_seen s ps) (Some z)) child.2 ∙ abreast-elsewhere (procs_seen s ps) (n + 1) n child.0 (omega arith),
  )
  | inr other ↦
      let head = abreast-heads ps f.0 (n + 1) a f.1 other.0 other.1 in
      inr (ap (λ (z : Place). below (Some z) (Branch n)) head.2 ∙ ap (λ (t : Bool). cond t (Some head.1) None) (branch-apart n head.0 (omega (arith, head.3))).1, (f.0, f.1, other.0, other.1))
]

-- the ends in branches from number k on begin with the numbers of their branches
abbrev From : ℕ → List Placed → Type 0
From k [] = Unit {0}
From k (e ∷ es) = ((j : ℕ) × (p : Place) × (e.place ≡ Branch j ∷ p) × (k ≤ j)) × From k es

abbrev FromIn : ℕ → Sum → Type 0
FromIn k finished = Unit {0}
FromIn k (working e es) = From k es

from-under : (k : ℕ) (es : List Placed) → From k (under (Branch k) es)
from-under k [] = tt
from-under k (e ∷ es) = ((k, e.place, refl, omega arith), from-under k es)

from-less : (k : ℕ) (es fs : List Placed) → From (k + 1) es → From k fs → From k (es ++ fs)
from-less k [] fs h g = g
from-less k (e ∷ es) fs h g = ((h.0.0, h.0.1, h.0.2, omega (arith, h.0.3)), from-less k es fs h.1 g)

from-fewer : (k : ℕ) (es : List Placed) → From (k + 1) es → From k es
from-fewer k [] h = tt
from-fewer k (e ∷ es) h = ((h.0.0, h.0.1, h.0.2, omega (arith, h.0.3)), from-fewer k es h.1)

from-beside : (k : ℕ) (c r : Sum) → FromIn (k + 1) r → FromIn k (sums.beside (Branch k) c r)
from-beside k finished finished h = tt
from-beside k finished (working d rs) h = from-fewer k rs h
from-beside k (working e es) finished h = from-under k es
from-beside k (working e es) (working d rs) h = from-less k rs (under (Branch k) es) h (from-under k es)

from-abreast : (k : ℕ) (xs : List Sum) → FromIn k (sum_abreast k xs)
from-abreast k [] = tt
from-abreast k (x ∷ xs) = from-beside k x (sum_abreast (k + 1) xs) (from-abreast (k + 1) xs)

from-apart : (n : ℕ) (es : List Placed) → From (n + 1) es → AllApart (Branch n) es
from-apart n [] h = tt
from-apart n (e ∷ es) h =
    (subst (λ (p : Place). StartsApart (Branch n) p) (sym h.0.2) (branch-apart n h.0.0 (omega (arith, h.0.3))), from-apart n es h.1)

abbrev pub ApartIn : Entry → Sum → Type 0
ApartIn x finished = Unit {0}
ApartIn x (working d rs) = AllApart x rs

apart-in : (n : ℕ) (r : Sum) → FromIn (n + 1) r → ApartIn (Branch n) r
apart-in n finished h = tt
apart-in n (working d rs) h = from-apart n rs h

pub apart-abreast : (n : ℕ) (xs : List Sum) → ApartIn (Branch n) (sum_abreast (n + 1) xs)
apart-abreast n xs = apart-in n (sum_abreast (n + 1) xs) (from-abreast (n + 1) xs)
