-- What is lent is the part at the place; where nothing is, there is none, or it has not begun.
use Rattle.std.proofs.Common.{◌≡◌, ℕ, zero, suc, ◌+◌, ◌<◌, ◌≤◌, ◌↔◌, List, [], ◌∷◌, map, length, Option, Some, None, option_map, IsSome, IfSome, MutBor, drop, get_or, vec_len, slice_index_or, refl, sym, ap, ◌∙◌, subst, inl, inr, arith}
use Rattle.std.proofs.lemmas.List.{drop_more}
use Rattle.std.specs.Global.{Vec}
use Rattle.address.specs.declared.Entry.{Entry}
use Rattle.address.specs.declared.Entry.TheVariants.{Ordered, Branch}
use Rattle.runs.proofs.public.Options.{none-some, some-injective, and_then-at}
use Rattle.runs.specs.Moves.{Place}
use Rattle.process_tree.proofs.BackSteps.{started-at, unbegun}
use Rattle.process_tree.proofs.public.Asking.{then-elim}
use Rattle.process_tree.proofs.public.Steps.{none-is, is-some, branch-within, begun-in-row}
use Rattle.process_tree.proofs.public.Views.{row_codes}
use Rattle.process_tree.specs.Children.{proc_at}
use Rattle.process_tree.specs.Code.{Code, in_turn, side_by_side}
use Rattle.process_tree.specs.Lent.{child_at, part_at, NotBegunAt}
use Rattle.process_tree.specs.Proc.{Proc, sequence, parallel, started}
use Rattle.process_tree.specs.View.{code_view, row_view, proc_view, procs_of, begun_of}
use Rattle.process_tree.specs.Translation.{row_of}
use Rattle.process_tree.specs.declared.code.Code as made_code
use Rattle.process_tree.specs.declared.code.Row.{Row}
use Rattle.process_tree.specs.declared.proc.Proc as made
use Rattle.process_tree.specs.internal.Lending.{IsLent}

-- the same of a process that is seen as this
pub lent-as : (e : Entry) (p v : Proc) (o : Option Proc) → p ≡ v → IsLent e v o → IsLent e p o
lent-as e p v o same h = subst (λ x. IsLent e x o) (sym same) h

-- a branch in memory
branch-here : (xs : List made.Proc) (i : ℕ) (x : made.Proc) → i < length xs → x ≡ slice_index_or xs i x → proc_at (procs_of (map proc_view xs)) i ≡ Some (proc_view x)
branch-here [] i x l e = absurd (omega (arith, l))
branch-here (y ∷ xs) zero x l e = ap (λ p. Some (proc_view p)) (sym e)
branch-here (y ∷ xs) (suc i) x l e = branch-here xs i x (omega (arith, l)) e

pub branch-lent : (v : Vec made.Proc) (i : ℕ) (o : Option (MutBor made.Proc)) → (IsSome o ↔ (i < vec_len v)) → IfSome o (λ x. x.now ≡ slice_index_or v.items i x.now)
    → IsLent (Branch i) (parallel (procs_of (map proc_view v.items))) (option_map (λ x. proc_view x.now) o)
branch-lent v i None h e = λ q d.
    let l = branch-within v.items i q d in
    absurd (none-is (h.1 (omega (arith, l, v.ok.0))))
branch-lent v i (Some x) h e = branch-here v.items i x.now (omega (arith, h.0 refl, v.ok.0)) e

-- a child of a sequence in memory that has begun
begun-here : (xs : List made.Proc) (cs : List made_code.Code) (i : ℕ) (x : made.Proc) → i < length xs → i < length cs → x ≡ slice_index_or xs i x
    → proc_at (begun_of (map proc_view xs) (row_of (map code_view cs))) i ≡ Some (proc_view x)
begun-here [] cs i x l m e = absurd (omega (arith, l))
begun-here (y ∷ xs) [] i x l m e = absurd (omega (arith, m))
begun-here (y ∷ xs) (c ∷ cs) zero x l m e = ap (λ p. Some (proc_view p)) (sym e)
begun-here (y ∷ xs) (c ∷ cs) (suc i) x l m e = begun-here xs cs i x (omega (arith, l)) (omega (arith, m)) e

pub begun-lent : (v : Vec made.Proc) (row : Row) (i : ℕ) (o : Option (MutBor made.Proc)) → i < length row.codes → (IsSome o ↔ (i < vec_len v))
    → IfSome o (λ x. x.now ≡ slice_index_or v.items i x.now)
    → IsLent (Ordered i) (sequence (begun_of (map proc_view v.items) (row_view row))) (option_map (λ x. proc_view x.now) o)
begun-lent v row i None m h e = λ q d.
    let past : i < vec_len v → ⊥ = λ l. none-is (h.1 l) in
    let c = unbegun v.items (row_view row) i q (omega (arith, past, v.ok.0)) d in
    record { row = begun_of (map proc_view v.items) (row_view row); number = i; command = c.0; is = refl; entry_is = refl; child = d ∙ ap Some c.1 }
begun-lent v row i (Some x) m h e =
    subst (λ cs. proc_at (begun_of (map proc_view v.items) cs) i ≡ Some (proc_view x.now)) (sym (row_codes row))
    (begun-here v.items row.codes i x.now (omega (arith, h.0 refl, v.ok.0)) m e)

-- past the last command of a sequence is no child
pub past-row : (xs : List made.Proc) (row : Row) (i : ℕ) → length row.codes ≤ i
    → IsLent (Ordered i) (sequence (begun_of (map proc_view xs) (row_view row))) None
past-row xs row i m = λ q d.
    let l = begun-in-row xs row i (is-some (proc_at (begun_of (map proc_view xs) (row_view row)) i) q d) in
    absurd (omega (arith, l, m))

-- a part of a command that has made no move has made none
started-child : (e : Entry) (c : Code) (q : Proc) → child_at e (started c) ≡ Some q → (d : Code) × (q ≡ started d)
started-child (Ordered i) (in_turn cs) q h = started-at cs i q h
started-child (Branch i) (in_turn cs) q h = none-some q h
started-child (Ordered i) (side_by_side cs) q h = none-some q h
started-child (Branch i) (side_by_side cs) q h = started-at cs i q h
started-child e _ q h = none-some q h

started-part : (a : Place) (c : Code) (q : Proc) → part_at a (started c) ≡ Some q → (d : Code) × (q ≡ started d)
started-part [] c q h = (c, sym (some-injective (started c) q h))
started-part (e ∷ a) c q h =
    then-elim (part_at a) (child_at e (started c)) q ((d : Code) × (q ≡ started d)) h
    (λ p child below. let d = started-child e c p child in started-part a d.0 q (subst (λ p. part_at a p ≡ Some q) d.1 below))

pub not-begun : (a : Place) (p q : Proc) → NotBegunAt a p → part_at a p ≡ Some q → (c : Code) × (q ≡ started c)
not-begun [] p q n h = absurd n
not-begun (e ∷ a) p q (inl n) h =
    let child : child_at e p ≡ Some (started n.command) = ap (λ p. child_at e p) n.is ∙ ap (λ e. child_at e (sequence n.row)) n.entry_is ∙ n.child in
    started-part a n.command q (sym (and_then-at (part_at a) (child_at e p) (started n.command) child) ∙ h)
not-begun (e ∷ a) p q (inr n) h = not-begun a n.0 q n.2 (sym (and_then-at (part_at a) (child_at e p) n.0 n.1) ∙ h)

-- what has been found on the way down a place: the part at the place is that of the process reached at the rest of it
pub record Reached (place : Place) (whole : Proc) (rest : Place) (here : Proc) : Type 0 where
  pub same : part_at place whole ≡ part_at rest here
  pub above : NotBegunAt rest here → NotBegunAt place whole

-- one step down
pub step-down : (place : Place) (whole : Proc) (e : Entry) (a : Place) (p q : Proc) → Reached place whole (e ∷ a) p → IsLent e p (Some q) → Reached place whole a q
step-down place whole e a p q r lent =
    record { same = r.same ∙ and_then-at (part_at a) (child_at e p) q lent; above = λ n. r.above (inr (q, lent, n)) }

-- no step down
pub no-step : (place : Place) (whole : Proc) (e : Entry) (a : Place) (p : Proc) → Reached place whole (e ∷ a) p → IsLent e p None
    → (part : Proc) → part_at place whole ≡ Some part → NotBegunAt place whole × ((c : Code) × (part ≡ started c))
no-step place whole e a p r lent part h =
    then-elim (part_at a) (child_at e p) part (NotBegunAt place whole × ((c : Code) × (part ≡ started c))) (sym r.same ∙ h)
    (λ q child below. let n = r.above (inl (lent q child)) in (n, not-begun place whole part n h))

-- the rest of a place begins with its next entry
pub next-entry : (place : Place) (whole : Proc) (entries : Place) (i : ℕ) (p : Proc) → i < length entries → Reached place whole (drop i entries) p
    → Reached place whole (get_or entries i (Ordered 0) ∷ drop (i + 1) entries) p
next-entry place whole entries i p l r = subst (λ a. Reached place whole a p) (drop_more entries i (Ordered 0) l) r
