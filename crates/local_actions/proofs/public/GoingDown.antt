-- A walk down along a place, by the forms of what it comes through.
use Rattle.std.proofs.Common.{◌≡◌, ℕ, zero, suc, ◌+◌, ◌*◌, ◌<◌, ◌≤◌, List, [], ◌∷◌, ◌++◌, map, length, Bool, true, false, ◌&&◌, cond, Option, Some, None, slice_index_or, refl, sym, ap, ap₂, ◌∙◌, subst, arith}
use Rattle.std.specs.Borrow.{Bor}
use Rattle.address.specs.declared.Entry.{Entry}
use Rattle.address.specs.declared.Entry.TheVariants.{Ordered, Branch}
use Rattle.value.specs.Word.{Word}
use Rattle.system.specs.Expression.{Store, Expression}
use Rattle.runs.specs.Moves.{Place}
use Rattle.process_tree.specs.Children.{proc_at}
use Rattle.process_tree.specs.Code.{Code as MCode, Codes}
use Rattle.process_tree.specs.Remaining.{Received, with_value}
use Rattle.process_tree.specs.Proc.{Proc, Procs, no_procs, proc, sequence, parallel}
use Rattle.process_tree.specs.Tidy.{last_moved}
use Rattle.process_tree.specs.View.{proc_view, procs_of, repeat_view, turn_of, opened_of}
use Rattle.process_tree.specs.internal.Received.{puts_guard}
use Rattle.process_tree.specs.declared.code.Repeat.{Repeat}
use Rattle.process_tree.specs.declared.proc.Proc as made
use Rattle.runs.proofs.public.Options.{none-some}
use Rattle.local_actions.specs.internal.At.{Leads, at_site, is_under, only_kind, under}
use Rattle.local_actions.specs.Walk.{action_at, below}
use Rattle.local_actions.specs.internal.Listed.{behind, again_at, Listing, nothing, at_work, one_after, listed, listed_sequence}
use Rattle.local_actions.specs.declared.action.LocalAction.{LocalAction}
use Rattle.local_actions.specs.declared.action.ActionKind.TheVariants.{Closes}
use Rattle.local_actions.specs.declared.site.Only.TheVariants.{Again, Close}
use Rattle.local_actions.specs.declared.site.Site.{Site}
use Rattle.local_actions.specs.declared.site.Site.TheVariants.{Nothing}
use Rattle.local_actions.proofs.public.OneByOne.{over-nothing}
use Rattle.local_actions.proofs.public.PlacedActions.{entry-itself, under-other, under-again, under-child, under-open, under-come, past-all, none-after, under-no-child, under-branch, under-no-branch, under-not-branch}
use Rattle.local_actions.proofs.public.Sites.{again_alone}

-- below an entry
behind-cond : (x : Entry) (b : Bool) (r : LocalAction) (rs : List LocalAction) → behind x (cond b (r ∷ rs) rs) ≡ cond b (action_at (x ∷ r.place) r.action ∷ behind x rs) (behind x rs)
behind-cond x true r rs = refl
behind-cond x false r rs = refl

under-front : (x : Entry) (b : Place) (rs : List LocalAction) → under (x ∷ b) (behind x rs) ≡ behind x (under b rs)
under-front x b [] = refl
under-front x b (r ∷ rs) =
    ap₂ (λ c l. cond (c && is_under b r.place) (action_at (x ∷ r.place) r.action ∷ l) l) (entry-itself x) (under-front x b rs) ∙ sym (behind-cond x (is_under b r.place) r (under b rs))

behind-below : (x : Entry) (b : Place) (rs : List LocalAction) → behind x (below b rs) ≡ below (x ∷ b) rs
behind-below x b [] = refl
behind-below x b (r ∷ rs) = ap (λ l. action_at (x ∷ (b ++ r.place)) r.action ∷ l) (behind-below x b rs)

-- on from a part
pub into : (a b : Place) (x : Entry) (old env new : Received) (y : Site) (p q : Proc) → a ≡ x ∷ b → Leads p b env new y
    → ((s : Store) → under (x ∷ b) (behind x (listed s env p).actions) ≡ under (x ∷ b) (listed s old q).actions) → Leads q a old new y
into a b x old env new y p q e h same s =
    subst (λ (c : Place). under c (listed s old q).actions ≡ below c (at_site s new y)) (sym e)
    (sym (same s) ∙ under-front x b (listed s env p).actions ∙ ap (behind x) (h s) ∙ behind-below x b (at_site s new y))

-- ---- a turn of a loop
turn-at : (s : Store) (env : Received) (g : Option Expression) (c : MCode) (n : ℕ) (q : Proc) (over : Bool) → over ≡ false
    → listed s env (turn_of over g c n q) ≡ one_after (2 * n + 1) (listed s env q) (at_work (again_at s (n + 1) (puts_guard env g)))
turn-at s env g c n q over f = ap (λ o. listed s env (turn_of o g c n q)) f

pub turn-into : (a b : Place) (j n : ℕ) (old new : Received) (y : Site) (g : Option Expression) (c : MCode) (q : Proc) (over : Bool) → over ≡ false → j ≡ 2 * n + 1 → a ≡ Ordered j ∷ b
    → Leads q b old new y → Leads (turn_of over g c n q) a old new y
turn-into a b j n old new y g c q over f k e h =
    into a b (Ordered j) old old new y q (turn_of over g c n q) e h
    (λ s. subst (λ i. under (Ordered i ∷ b) (behind (Ordered i) (listed s old q).actions) ≡ under (Ordered i ∷ b) (listed s old (turn_of over g c n q)).actions) (sym k)
    (under-child (2 * n + 1) (listed s old q) (at_work (again_at s (n + 1) (puts_guard old g))) b (over-nothing s old q) (under-again s (n + 1) (2 * n + 1) (puts_guard old g) b (λ same. omega (arith, same)))
    ∙ ap (λ (l : Listing). under (Ordered (2 * n + 1) ∷ b) l.actions) (sym (turn-at s old g c n q over f))))

pub turn-open : (a : Place) (j n : ℕ) (env : Received) (g : Option Expression) (c : MCode) (q : Proc) (over o : Bool) → 0 < length a → over ≡ false → j ≡ 2 * n + 1 → ((d : Place) → a ≡ Ordered j ∷ d → ⊥)
    → ((s : Store) (r : Received) → o ≡ (listed s r q).over) → o ≡ false → Leads (turn_of over g c n q) a env env Nothing
turn-open a j n env g c q over o l f k h told t s =
    ap (λ (x : Listing). under a x.actions) (turn-at s env g c n q over f)
    ∙ under-open (2 * n + 1) (listed s env q) (at_work (again_at s (n + 1) (puts_guard env g))) a o l (λ d e. h d (e ∙ ap (λ i. Ordered i ∷ d) (sym k))) (told s env) t

-- behind what is finished
after-over : (i : ℕ) (x rest : Listing) (o : Bool) → o ≡ x.over → o ≡ true → one_after i x rest ≡ rest
after-over i x rest o told t = ap (λ b. cond b rest (at_work (behind (Ordered i) x.actions))) (sym told ∙ t)

pub turn-again : (a : Place) (m n : ℕ) (env : Received) (r : Bor Repeat) (y : Site) (q : Proc) (over o : Bool) → over ≡ false → m ≡ 2 * (n + 1) → ((s : Store) (v : Received) → o ≡ (listed s v q).over) → o ≡ true
    → ((s : Store) (v : Received) → under a (action_at (Ordered m ∷ []) (only_kind s v (Again r)) ∷ []) ≡ below a (at_site s v y)) → Leads (turn_of over (repeat_view r.now).0 (repeat_view r.now).1 n q) a env env y
turn-again a m n env r y q over o f k told t h s =
    let g = (repeat_view r.now).0 in
    ap (λ (x : Listing). under a x.actions) (turn-at s env g (repeat_view r.now).1 n q over f ∙ after-over (2 * n + 1) (listed s env q) (at_work (again_at s (n + 1) (puts_guard env g))) o (told s env) t)
    ∙ ap (under a) (again_alone s (n + 1) (puts_guard env g)) ∙ ap (λ i. under a (action_at (Ordered i ∷ []) (only_kind s env (Again r)) ∷ [])) (sym k) ∙ h s env

-- ---- an arm that was taken
only-child : (s : Store) (env : Received) (q : Proc) (d : Place) → under d (behind (Ordered 1) (listed s env q).actions) ≡ under d (one_after 1 (listed s env q) nothing).actions
only-child s env q d = pick (listed s env q).over refl
  where
    pick : (b : Bool) → (listed s env q).over ≡ b → under d (behind (Ordered 1) (listed s env q).actions) ≡ under d (cond b nothing (at_work (behind (Ordered 1) (listed s env q).actions))).actions
    pick true e = ap (λ (l : List LocalAction). under d (behind (Ordered 1) l)) (over-nothing s env q e)
    pick false e = refl

pub took-into : (a b : Place) (old new : Received) (y : Site) (p q : Proc) (took_q : (s : Store) → listed s old p ≡ one_after 1 (listed s old q) nothing) → a ≡ Ordered 1 ∷ b → Leads q b old new y → Leads p a old new y
took-into a b old new y p q is e h =
    into a b (Ordered 1) old old new y q p e h (λ s. only-child s old q (Ordered 1 ∷ b) ∙ ap (λ (l : Listing). under (Ordered 1 ∷ b) l.actions) (sym (is s)))

pub took-open : (a : Place) (env : Received) (p q : Proc) → ((s : Store) → listed s env p ≡ one_after 1 (listed s env q) nothing) → 0 < length a → ((b : Place) → a ≡ Ordered 1 ∷ b → ⊥) → Leads p a env env Nothing
took-open a env p q is l h s =
    ap (λ (x : Listing). under a x.actions) (is s) ∙ sym (only-child s env q a) ∙ under-other a (Ordered 1) (listed s env q).actions l h

-- ---- an arm that opened
arm-at : (s : Store) (env : Received) (ds : List ℕ) (cs : Codes) (c : ℕ) (v : Option Word) (q : Proc) (over : Bool) → over ≡ false
    → listed s env (opened_of over ds cs c v q) ≡ one_after 1 (listed s (with_value c v env) q) (at_work (action_at (Ordered 2 ∷ []) (Closes c) ∷ []))
arm-at s env ds cs c v q over f = ap (λ o. listed s env (opened_of o ds cs c v q)) f

pub arm-into : (a b : Place) (old env new : Received) (y : Site) (ds : List ℕ) (cs : Codes) (c : ℕ) (v : Option Word) (q : Proc) (over : Bool) → over ≡ false → env ≡ with_value c v old → a ≡ Ordered 1 ∷ b
    → Leads q b env new y → Leads (opened_of over ds cs c v q) a old new y
arm-into a b old env new y ds cs c v q over f is e h =
    into a b (Ordered 1) old (with_value c v old) new y q (opened_of over ds cs c v q) e (subst (λ r. Leads q b r new y) is h)
    (λ s. under-child 1 (listed s (with_value c v old) q) (at_work (action_at (Ordered 2 ∷ []) (Closes c) ∷ [])) b (over-nothing s (with_value c v old) q) refl
    ∙ ap (λ (l : Listing). under (Ordered 1 ∷ b) l.actions) (sym (arm-at s old ds cs c v q over f)))

pub arm-open : (a : Place) (env : Received) (ds : List ℕ) (cs : Codes) (c : ℕ) (v : Option Word) (q : Proc) (over o : Bool) → 0 < length a → over ≡ false → ((b : Place) → a ≡ Ordered 1 ∷ b → ⊥)
    → ((s : Store) (r : Received) → o ≡ (listed s r q).over) → o ≡ false → Leads (opened_of over ds cs c v q) a env env Nothing
arm-open a env ds cs c v q over o l f h told t s =
    ap (λ (x : Listing). under a x.actions) (arm-at s env ds cs c v q over f)
    ∙ under-open 1 (listed s (with_value c v env) q) (at_work (action_at (Ordered 2 ∷ []) (Closes c) ∷ [])) a o l h (told s (with_value c v env)) t

pub arm-close : (a : Place) (env : Received) (ds : List ℕ) (cs : Codes) (c : ℕ) (v : Option Word) (y : Site) (q : Proc) (over o : Bool) → over ≡ false → ((s : Store) (r : Received) → o ≡ (listed s r q).over) → o ≡ true
    → ((s : Store) (r : Received) → under a (action_at (Ordered 2 ∷ []) (only_kind s r (Close c)) ∷ []) ≡ below a (at_site s r y)) → Leads (opened_of over ds cs c v q) a env env y
arm-close a env ds cs c v y q over o f told t h s =
    ap (λ (x : Listing). under a x.actions) (arm-at s env ds cs c v q over f
    ∙ after-over 1 (listed s (with_value c v env) q) (at_work (action_at (Ordered 2 ∷ []) (Closes c) ∷ [])) o (told s (with_value c v env)) t) ∙ h s env

-- ---- a sequence
abbrev pub CameTo : ℕ → Procs → Type 0
CameTo i ps = (s : Store) (env : Received) → listed_sequence s env i 0 ps ≡ listed_sequence s env (last_moved ps) 0 ps

pub sequence-into : (ps : Procs) (i : ℕ) (p : Proc) (a b : Place) (old new : Received) (y : Site) → CameTo i ps → proc_at ps i ≡ Some p → a ≡ Ordered i ∷ b → Leads p b old new y → Leads (sequence ps) a old new y
sequence-into ps i p a b old new y came is e h =
    into a b (Ordered i) old old new y p (sequence ps) e h (λ s. under-come s old ps i p b is ∙ ap (λ (l : Listing). under (Ordered i ∷ b) l.actions) (came s old))

pub sequence-nowhere : (ps : Procs) (i : ℕ) (a b : Place) (env : Received) → CameTo i ps → proc_at ps i ≡ None → a ≡ Ordered i ∷ b → Leads (sequence ps) a env env Nothing
sequence-nowhere ps i a b env came none e s =
    ap (λ (c : Place). under c (listed s env (sequence ps)).actions) e ∙ ap (λ (l : Listing). under (Ordered i ∷ b) l.actions) (sym (came s env) ∙ past-all s env ps i 0 none)

pub sequence-elsewhere : (ps : Procs) (i : ℕ) (a b : Place) (env : Received) → ((s : Store) (v : Received) (d : Place) → under (Ordered i ∷ d) (listed_sequence s v (last_moved ps) 0 ps).actions ≡ []) → a ≡ Ordered i ∷ b
    → Leads (sequence ps) a env env Nothing
sequence-elsewhere ps i a b env none e s = ap (λ (c : Place). under c (listed s env (sequence ps)).actions) e ∙ none s env b

pub sequence-beside : (ps : Procs) (a : Place) (env : Received) → 0 < length a → ((i : ℕ) (b : Place) → a ≡ Ordered i ∷ b → ⊥) → Leads (sequence ps) a env env Nothing
sequence-beside ps a env l h s = under-no-child s env ps (last_moved ps) 0 a l h

-- where there is no such child a sequence offers nothing there
past-end-of : (s : Store) (env : Received) (ps : Procs) (k n i : ℕ) (b : Place) → proc_at ps i ≡ None → under (Ordered (n + i) ∷ b) (listed_sequence s env k n ps).actions ≡ []
past-end-of s env no_procs zero n i b h = refl
past-end-of s env no_procs (suc k) n i b h = refl
past-end-of s env (proc p ps) k n zero b h = none-some p (sym h)
past-end-of s env (proc p ps) zero n (suc i) b h =
    let next : n + 1 + i ≡ n + suc i = omega arith in
    none-after (n + suc i) n b (listed s env p) (listed_sequence s env zero (n + 1) ps) (λ e. omega (arith, e))
    (subst (λ m. under (Ordered m ∷ b) (listed_sequence s env zero (n + 1) ps).actions ≡ []) next (past-end-of s env ps zero (n + 1) i b h))
past-end-of s env (proc p ps) (suc k) n (suc i) b h =
    let next : n + 1 + i ≡ n + suc i = omega arith in
    subst (λ m. under (Ordered m ∷ b) (listed_sequence s env k (n + 1) ps).actions ≡ []) next (past-end-of s env ps k (n + 1) i b h)

pub past-end : (s : Store) (env : Received) (ps : Procs) (i : ℕ) (b : Place) → proc_at ps i ≡ None → under (Ordered i ∷ b) (listed_sequence s env 0 0 ps).actions ≡ []
past-end s env ps i b h =
    let same : 0 + i ≡ i = omega arith in
    subst (λ m. under (Ordered m ∷ b) (listed_sequence s env 0 0 ps).actions ≡ []) same (past-end-of s env ps 0 0 i b h)

-- ---- a parallel
pub parallel-into : (ps : Procs) (k : ℕ) (p : Proc) (a b : Place) (old new : Received) (y : Site) → proc_at ps k ≡ Some p → a ≡ Branch k ∷ b → Leads p b old new y → Leads (parallel ps) a old new y
parallel-into ps k p a b old new y is e h =
    into a b (Branch k) old old new y p (parallel ps) e h (λ s. under-branch s old ps k 0 k p b is (omega arith))

pub parallel-nowhere : (ps : Procs) (k : ℕ) (a b : Place) (env : Received) → proc_at ps k ≡ None → a ≡ Branch k ∷ b → Leads (parallel ps) a env env Nothing
parallel-nowhere ps k a b env none e s = ap (λ (c : Place). under c (listed s env (parallel ps)).actions) e ∙ under-no-branch s env ps k 0 k b none (omega arith)

pub parallel-beside : (ps : Procs) (a : Place) (env : Received) → 0 < length a → ((i : ℕ) (b : Place) → a ≡ Branch i ∷ b → ⊥) → Leads (parallel ps) a env env Nothing
parallel-beside ps a env l h s = under-not-branch s env ps 0 a l h

-- processes in memory, by their numbers
pub procs-at : (xs : List made.Proc) (i : ℕ) (x : made.Proc) → i < length xs → x ≡ slice_index_or xs i x → proc_at (procs_of (map proc_view xs)) i ≡ Some (proc_view x)
procs-at [] i x l e = absurd (omega (arith, l))
procs-at (y ∷ xs) zero x l e = ap (λ (z : made.Proc). Some (proc_view z)) (sym e)
procs-at (y ∷ xs) (suc i) x l e = procs-at xs i x (omega (arith, l)) e

pub procs-end : (xs : List made.Proc) (i : ℕ) → length xs ≤ i → proc_at (procs_of (map proc_view xs)) i ≡ None
procs-end [] i l = refl
procs-end (y ∷ xs) zero l = absurd (omega (arith, l))
procs-end (y ∷ xs) (suc i) l = procs-end xs i (omega (arith, l))
