-- A walk past the children of a row.
use Rattle.std.proofs.Common.{◌≡◌, ℕ, suc, ◌+◌, ◌*◌, ◌<◌, List, [], ◌∷◌, map, length, drop, Bool, true, false, ◌&&◌, cond, Option, Some, option_map, slice_index_or, refl, sym, ap, ◌∙◌, subst, rules}
use Rattle.std.specs.Global.{Box}
use Rattle.std.proofs.lemmas.List.{drop_more}
use Rattle.address.specs.declared.Entry.TheVariants.{Ordered, Branch}
use Rattle.value.specs.Word.{Word}
use Rattle.system.specs.Expression.{Expression, Decision}
use Rattle.system.specs.Translation.{expression_of}
use Rattle.process_tree.specs.Code.{Code as MCode, Codes}
use Rattle.process_tree.specs.Children.{proc_at}
use Rattle.process_tree.specs.Proc.{Proc, Procs, proc, took, all_started, started}
use Rattle.process_tree.specs.Translation.{row_of}
use Rattle.process_tree.specs.View.{code_view, repeat_view, proc_view, procs_of, turn_of, opened_of}
use Rattle.process_tree.specs.declared.code.Code as made_code
use Rattle.process_tree.specs.declared.code.Code.{Code}
use Rattle.process_tree.specs.declared.code.Code.TheFolds.{the_lemmas as code_lemmas}
use Rattle.process_tree.specs.declared.code.Repeat.{Repeat}
use Rattle.process_tree.specs.declared.code.Row.{Row}
use Rattle.process_tree.specs.declared.finder.Finder.{Finder}
use Rattle.process_tree.specs.declared.offer.Offer.{Offer}
use Rattle.process_tree.specs.declared.offer.OfferKind.TheVariants.{Closes}
use Rattle.process_tree.specs.declared.proc.Proc as made
use Rattle.process_tree.specs.declared.proc.Gate as made_gate
use Rattle.process_tree.specs.declared.proc.Gate.{Gate}
use Rattle.process_tree.specs.declared.proc.Gate.TheFolds.{the_lemmas}
use Rattle.process_tree.specs.declared.proc.Tested as made_tested
use Rattle.process_tree.specs.declared.proc.Tested.{Tested}
use Rattle.process_tree.specs.internal.Listed.{offer_at, behind, again_at, Listing, nothing, at_work, one_after, listed, listed_sequence, listed_parallel, added, lists, lists_at}
use Rattle.process_tree.specs.internal.Parts.{tested_view, gate_view}
use Rattle.process_tree.proofs.Finding.{added-none, added-both}
use Rattle.process_tree.proofs.OneByOne.{over-nothing, step-over, step-here}
use Rattle.process_tree.proofs.public.Views.{code_in_turn}

-- a child that is finished leaves the finder as it was
pub passed : (p : Proc) (j : ℕ) (w v : Finder) (b : Bool) → v ≡ lists_at (Ordered j) p w → b ≡ (listed p).over → b ≡ true → v ≡ w
passed p j w v b e o t =
    e ∙ ap (λ (l : List Offer). added (behind (Ordered j) l) w) (over-nothing p (sym o ∙ t)) ∙ added-none w

-- what is left of a sequence after one of its children
pub record Onwards (start v : Finder) (m from : ℕ) (ps : Procs) : Type 0 where
  pub as_it_was : v ≡ start
  pub rest : listed_sequence m 0 ps ≡ listed_sequence from 0 ps

pub onwards : (start w v : Finder) (k m from : ℕ) (ps : Procs) (p : Proc) (b : Bool) → w ≡ start
    → listed_sequence k 0 ps ≡ listed_sequence from 0 ps → proc_at ps k ≡ Some p → v ≡ lists_at (Ordered k) p w
    → b ≡ (listed p).over → b ≡ true → m ≡ suc k → Onwards start v m from ps
onwards start w v k m from ps p b e f h i o t n = record {
  as_it_was = passed p k w v b i o t ∙ e;
  rest = step-over ps k m p h n (sym o ∙ t) ∙ f;
}

-- the child at work is all that is listed
pub record AtWork (start v : Finder) (from : ℕ) (ps : Procs) : Type 0 where
  pub offers : v ≡ added (listed_sequence from 0 ps).offers start
  pub over : false ≡ (listed_sequence from 0 ps).over

pub at-work : (start w v : Finder) (k from : ℕ) (ps : Procs) (p : Proc) (b : Bool) → w ≡ start
    → listed_sequence k 0 ps ≡ listed_sequence from 0 ps → proc_at ps k ≡ Some p → v ≡ lists_at (Ordered k) p w
    → b ≡ (listed p).over → b ≡ false → AtWork start v from ps
at-work start w v k from ps p b e f h i o t =
    let here = step-here ps k p h (sym o ∙ t) in
    let all : at_work (behind (Ordered k) (listed p).offers) ≡ listed_sequence from 0 ps = sym here ∙ f in
    record {
      offers = i ∙ ap (λ (u : Finder). lists_at (Ordered k) p u) e ∙ ap (λ (l : Listing). added l.offers start) all;
      over = ap (λ (l : Listing). l.over) all;
    }

-- the end of a row
pub at-end : (start w : Finder) (L : Listing) → w ≡ start → L ≡ nothing → (w ≡ added L.offers start) × (true ≡ L.over)
at-end start w L e n = (e ∙ sym (added-none start) ∙ sym (ap (λ (l : Listing). added l.offers start) n), sym (ap (λ (l : Listing). l.over) n))

-- one branch more
and-moves : (a b c d : Bool) → c ≡ (a && b) → (c && d) ≡ (a && (b && d))
and-moves true b c d e = ap (λ x. x && d) e
and-moves false b c d e = ap (λ x. x && d) e

pub one-open : (a b c : Bool) → b ≡ false → c ≡ false → c ≡ (a && b)
one-open true b c e f = f ∙ sym e
one-open false b c e f = f

pub one-over : (a b c : Bool) → b ≡ true → c ≡ a → c ≡ (a && b)
one-over true b c e f = f ∙ sym e
one-over false b c e f = f

abbrev pub Beside : Finder → Finder → Bool → ℕ → Procs → Listing → Type 0
Beside start w over n ps all =
    (added (listed_parallel n ps).offers w ≡ added all.offers start) × ((over && (listed_parallel n ps).over) ≡ all.over)

pub beside : (start w v : Finder) (over next b : Bool) (n m : ℕ) (p : Proc) (ps rest : Procs) (all : Listing) → Beside start w over n ps all → m ≡ n + 1
    → ps ≡ proc p rest → v ≡ lists_at (Branch n) p w → b ≡ (listed p).over → next ≡ (over && b) → Beside start v next m rest all
beside start w v over next b n m p ps rest all inv num is e o k =
    let x = listed p in
    let later = listed_parallel (n + 1) rest in
    subst (λ j. Beside start v next j rest all) (sym num) (
      ap (added later.offers) e ∙ added-both (behind (Branch n) x.offers) later.offers w ∙ sym (ap (λ (q : Procs). added (listed_parallel n q).offers w) is) ∙ inv.0,
      and-moves over x.over next later.over (k ∙ ap (λ c. over && c) o) ∙ sym (ap (λ (q : Procs). over && (listed_parallel n q).over) is) ∙ inv.1,
    )

-- the next of the commands and processes in memory
pub fresh-next : (cs : List Code) (i : ℕ) (c : Code) → i < length cs → c ≡ slice_index_or cs i c
    → all_started (row_of (map code_view (drop i cs))) ≡ proc (started (code_view c)) (all_started (row_of (map code_view (drop (i + 1) cs))))
fresh-next cs i c l e =
    ap (λ (xs : List Code). all_started (row_of (map code_view xs))) (drop_more cs i c l ∙ ap (λ (x : Code). x ∷ drop (i + 1) cs) (sym e))

pub proc-next : (ps : List made.Proc) (i : ℕ) (p : made.Proc) → i < length ps → p ≡ slice_index_or ps i p
    → procs_of (map proc_view (drop i ps)) ≡ proc (proc_view p) (procs_of (map proc_view (drop (i + 1) ps)))
proc-next ps i p l e =
    ap (λ (xs : List made.Proc). procs_of (map proc_view xs)) (drop_more ps i p l ∙ ap (λ (x : made.Proc). x ∷ drop (i + 1) ps) (sym e))

-- a sequence before its first move
pub fresh-in-turn : (c : Code) (row : Row) (cs : List Code) → c ≡ made_code.InTurn row → cs ≡ row.codes
    → listed_sequence 0 0 (all_started (row_of (map code_view cs))) ≡ listed (started (code_view c))
fresh-in-turn c row cs is e =
    ap (λ (xs : List Code). listed_sequence 0 0 (all_started (row_of (map code_view xs)))) e
    ∙ sym (ap (λ (x : MCode). listed (started x)) (ap code_view is ∙ code_in_turn row))

-- an arm that was taken, as it stands in memory
took-view : (d : Decision) (cs : Codes) (j : ℕ) (q : Box made.Proc) → tested_view (made_tested.Took j q) d cs ≡ took d cs j (proc_view q.value)
took-view d cs j q = search (rules, the_lemmas)

opened-view : (ds : List ℕ) (cs : Codes) (c : ℕ) (v : Option Word) (over : Bool) (q : Box made.Proc) → gate_view (made_gate.Opened c v over q) ds cs ≡ opened_of over ds cs c v (proc_view q.value)
opened-view ds cs c v over q = search (rules, the_lemmas)

-- the body of an arm that was taken is all that is listed of it
pub taken-offers : (d : Decision) (cs : Codes) (j : ℕ) (t : Tested) (q : Box made.Proc) (p : made.Proc) (w v : Finder) → t ≡ made_tested.Took j q → p ≡ q.value
    → v ≡ lists_at (Ordered 1) (proc_view p) w → v ≡ lists (tested_view t d cs) w
taken-offers d cs j t q p w v is here e =
    e ∙ ap (λ (l : List Offer). added l w) (only (listed (proc_view p)) (over-nothing (proc_view p)))
    ∙ sym (ap (λ (x : Proc). lists x w) (ap (λ (z : Tested). tested_view z d cs) is ∙ took-view d cs j q ∙ ap (λ (z : made.Proc). took d cs j (proc_view z)) (sym here)))
  where
    pick : (b : Bool) (l : List Offer) → (b ≡ true → l ≡ []) → behind (Ordered 1) l ≡ (cond b nothing (at_work (behind (Ordered 1) l))).offers
    pick true l h = ap (behind (Ordered 1)) (h refl)
    pick false l h = refl

    only : (x : Listing) → (x.over ≡ true → x.offers ≡ []) → behind (Ordered 1) x.offers ≡ (one_after 1 x nothing).offers
    only x h = pick x.over x.offers h

-- an arm that opened, as it stands in memory, tells whether it is closed
pub opened-over : (ds : List ℕ) (cs : Codes) (c : ℕ) (v : Option Word) (over o : Bool) (g : Gate) (q : Box made.Proc) (p : made.Proc)
    → g ≡ made_gate.Opened c v over q → p ≡ q.value → o ≡ (listed (opened_of over ds cs c v (proc_view p))).over → o ≡ (listed (gate_view g ds cs)).over
opened-over ds cs c v over o g q p is here e =
    e ∙ sym (ap (λ (x : Proc). (listed x).over)
    (ap (λ (z : Gate). gate_view z ds cs) is ∙ opened-view ds cs c v over q ∙ ap (λ (z : made.Proc). opened_of over ds cs c v (proc_view z)) (sym here)))

-- the guard of a loop in memory
pub repeat-guard : (r : Repeat) → (repeat_view r).0 ≡ option_map expression_of r.guard
repeat-guard r = search (rules, code_lemmas)

-- a loop whose body is finished goes on
pub turn-again : (w v u : Finder) (n m j : ℕ) (g : Option Expression) (c : MCode) (q : Proc) (over b : Bool) → over ≡ false → v ≡ lists_at (Ordered j) q w
    → j ≡ 2 * n + 1 → b ≡ (listed q).over → b ≡ true → u ≡ added (again_at m g) v → m ≡ n + 1 → u ≡ lists (turn_of over g c n q) w
turn-again w v u n m j g c q over b f e k o t a next =
    a ∙ ap (λ (x : Finder). added (again_at m g) x) (passed q j w v b e o t)
    ∙ ap (λ i. added (again_at i g) w) next
    ∙ sym (ap (λ b. added (cond b (at_work (again_at (n + 1) g)) (at_work (behind (Ordered (2 * n + 1)) (listed q).offers))).offers w) (sym o ∙ t))
    ∙ sym (ap (λ z. lists (turn_of z g c n q) w) f)

-- an arm whose body is finished is closed
pub arm-close : (w v u : Finder) (ds : List ℕ) (cs : Codes) (c : ℕ) (x : Option Word) (q : Proc) (over b : Bool) → over ≡ false
    → v ≡ lists_at (Ordered 1) q w → b ≡ (listed q).over → b ≡ true
    → u ≡ added (offer_at (Ordered 2 ∷ []) (Closes c) ∷ []) v → u ≡ lists (opened_of over ds cs c x q) w
arm-close w v u ds cs c x q over b f e o t a =
    a ∙ ap (added (offer_at (Ordered 2 ∷ []) (Closes c) ∷ [])) (passed q 1 w v b e o t)
    ∙ sym (ap (λ b. added (cond b (at_work (offer_at (Ordered 2 ∷ []) (Closes c) ∷ [])) (at_work (behind (Ordered 1) (listed q).offers))).offers w) (sym o ∙ t))
    ∙ sym (ap (λ z. lists (opened_of z ds cs c x q) w) f)
