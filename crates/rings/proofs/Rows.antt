-- Walks over the children of a row, child by child from the last.
use Rattle.std.proofs.Common.{◌≡◌, ℕ, zero, suc, ◌+◌, ◌<◌, ◌≤◌, List, ◌∷◌, map, length, drop, Bool, Option, Some, None, slice_index_or, refl, sym, ap, ap₂, ◌∙◌, subst, arith, rules}
use Rattle.std.proofs.lemmas.List.{drop_more, drop_all}
use Rattle.std.specs.Global.{Box}
use Rattle.address.specs.declared.Entry.{Entry}
use Rattle.address.specs.declared.Entry.TheVariants.{Ordered, Branch}
use Rattle.runs.proofs.public.Options.{none-some, some-injective}
use Rattle.process_tree.specs.Children.{proc_at}
use Rattle.process_tree.specs.Proc.{Proc, Procs, no_procs, proc, started, all_started}
use Rattle.process_tree.specs.Translation.{row_of}
use Rattle.process_tree.specs.Code.{Codes}
use Rattle.process_tree.specs.View.{code_view, opened_of, proc_view, procs_of}
use Rattle.process_tree.specs.internal.Parts.{gate_view}
use Rattle.process_tree.specs.declared.proc.Gate as made_gate
use Rattle.process_tree.specs.declared.proc.Gate.{Gate}
use Rattle.process_tree.specs.declared.proc.Gate.TheFolds.{the_lemmas}
use Rattle.value.specs.Word.{Word}
use Rattle.process_tree.specs.declared.code.Code.{Code}
use Rattle.process_tree.specs.declared.code.Row.{Row}
use Rattle.process_tree.specs.declared.proc.Proc as made
use Rattle.local_actions.proofs.public.Begun.{begun-row, row-at}
use Rattle.local_actions.proofs.public.Endings.{row-past-at}
use Rattle.local_actions.proofs.public.OneByOne.{fresh-at}
use Rattle.rings.specs.internal.Ends.{Sum, finished, in_row, beside, Tail, no_tail, tail_before, tail_in_turn, sum_in_turn, sum_abreast, code_sum, codes_sum, proc_sum, procs_sum, SumAt}
use Rattle.rings.proofs.Summed.{started-sum}

-- ---- one child, as the code looks at it
pub turned : (X : Sum) (e entry : Entry) (x rest y : Sum) (t : Tail) → entry ≡ e → x ≡ X → y ≡ in_row entry x rest t → y ≡ in_row e X rest t
turned X e entry x rest y t is found made = made ∙ ap₂ (λ (z : Entry) (c : Sum). in_row z c rest t) is found

pub branched : (X : Sum) (e entry : Entry) (x rest y : Sum) → entry ≡ e → x ≡ X → y ≡ beside entry x rest → y ≡ beside e X rest
branched X e entry x rest y is found made = made ∙ ap₂ (λ (z : Entry) (c : Sum). beside z c rest) is found

-- ---- commands

-- those from this index on
abbrev pub fresh-in-turn : List Bool → List Code → ℕ → Sum
fresh-in-turn w cs i = sum_in_turn i (codes_sum w (row_of (map code_view (drop i cs))))

abbrev pub fresh-tail : List Bool → List Code → ℕ → Tail
fresh-tail w cs i = tail_in_turn (codes_sum w (row_of (map code_view (drop i cs))))

abbrev pub fresh-abreast : List Bool → List Code → ℕ → Sum
fresh-abreast w cs i = sum_abreast i (codes_sum w (row_of (map code_view (drop i cs))))

next-code : (cs : List Code) (i : ℕ) (c : Code) → i < length cs → c ≡ slice_index_or cs i c → drop i cs ≡ c ∷ drop (i + 1) cs
next-code cs i c l e = drop_more cs i c l ∙ ap (λ (x : Code). x ∷ drop (i + 1) cs) (sym e)

pub fresh-turn : (w : List Bool) (cs : List Code) (i j : ℕ) (c : Code) (rest y : Sum) (t : Tail) → j ≡ i + 1 → i < length cs → c ≡ slice_index_or cs i c
    → rest ≡ fresh-in-turn w cs j → t ≡ fresh-tail w cs j → y ≡ in_row (Ordered i) (code_sum w (code_view c)) rest t → y ≡ fresh-in-turn w cs i
fresh-turn w cs i j c rest y t n l e r b is =
    is ∙ ap₂ (in_row (Ordered i) (code_sum w (code_view c))) (r ∙ ap (fresh-in-turn w cs) n) (b ∙ ap (fresh-tail w cs) n)
    ∙ sym (ap (λ (xs : List Code). sum_in_turn i (codes_sum w (row_of (map code_view xs)))) (next-code cs i c l e))

pub fresh-behind : (w : List Bool) (cs : List Code) (i j : ℕ) (c : Code) (x : Sum) (t y : Tail) → j ≡ i + 1 → i < length cs → c ≡ slice_index_or cs i c
    → x ≡ code_sum w (code_view c) → t ≡ fresh-tail w cs j → y ≡ tail_before x t → y ≡ fresh-tail w cs i
fresh-behind w cs i j c x t y n l e f b is =
    is ∙ ap₂ tail_before f (b ∙ ap (fresh-tail w cs) n)
    ∙ sym (ap (λ (xs : List Code). tail_in_turn (codes_sum w (row_of (map code_view xs)))) (next-code cs i c l e))

pub fresh-branch : (w : List Bool) (cs : List Code) (i j : ℕ) (c : Code) (rest y : Sum) → j ≡ i + 1 → i < length cs → c ≡ slice_index_or cs i c
    → rest ≡ fresh-abreast w cs j → y ≡ beside (Branch i) (code_sum w (code_view c)) rest → y ≡ fresh-abreast w cs i
fresh-branch w cs i j c rest y n l e r is =
    is ∙ ap (beside (Branch i) (code_sum w (code_view c))) (r ∙ ap (fresh-abreast w cs) n)
    ∙ sym (ap (λ (xs : List Code). sum_abreast i (codes_sum w (row_of (map code_view xs)))) (next-code cs i c l e))

pub fresh-end : (w : List Bool) (cs : List Code) (i : ℕ) → length cs ≤ i → finished ≡ fresh-in-turn w cs i
fresh-end w cs i l = sym (ap (λ (xs : List Code). sum_in_turn i (codes_sum w (row_of (map code_view xs)))) (drop_all i cs l))

pub fresh-no-tail : (w : List Bool) (cs : List Code) (i : ℕ) → length cs ≤ i → no_tail ≡ fresh-tail w cs i
fresh-no-tail w cs i l = sym (ap (λ (xs : List Code). tail_in_turn (codes_sum w (row_of (map code_view xs)))) (drop_all i cs l))

pub fresh-last : (w : List Bool) (cs : List Code) (i : ℕ) → length cs ≤ i → finished ≡ fresh-abreast w cs i
fresh-last w cs i l = sym (ap (λ (xs : List Code). sum_abreast i (codes_sum w (row_of (map code_view xs)))) (drop_all i cs l))

-- ---- processes

-- those from this number on
abbrev pub from-number : ℕ → Procs → Procs
from-number zero ps = ps
from-number (suc k) no_procs = no_procs
from-number (suc k) (proc p ps) = from-number k ps

pub from-some : (ps : Procs) (i : ℕ) (p : Proc) → proc_at ps i ≡ Some p → from-number i ps ≡ proc p (from-number (suc i) ps)
from-some no_procs i p h = none-some p h
from-some (proc q ps) zero p h = ap (λ (x : Proc). proc x ps) (some-injective q p h)
from-some (proc q ps) (suc i) p h = from-some ps i p h

pub from-none : (ps : Procs) (i : ℕ) → proc_at ps i ≡ None → from-number i ps ≡ no_procs
from-none no_procs zero h = refl
from-none no_procs (suc i) h = refl
from-none (proc q ps) zero h = none-some q (sym h)
from-none (proc q ps) (suc i) h = from-none ps i h

abbrev pub procs-in-turn : List Bool → Procs → ℕ → Sum
procs-in-turn w ps i = sum_in_turn i (procs_sum w (from-number i ps))

abbrev pub procs-tail : List Bool → Procs → ℕ → Tail
procs-tail w ps i = tail_in_turn (procs_sum w (from-number i ps))

tail-next : (w : List Bool) (ps : Procs) (i j : ℕ) → j ≡ i + 1 → procs-tail w ps j ≡ procs-tail w ps (suc i)
tail-next w ps i j n =
    let more : i + 1 ≡ suc i = omega arith in
    ap (procs-tail w ps) n ∙ ap (procs-tail w ps) more

pub procs-turn : (w : List Bool) (ps : Procs) (i j : ℕ) (p : Proc) (e : Entry) (x rest y : Sum) (t : Tail) → j ≡ i + 1 → proc_at ps i ≡ Some p → e ≡ Ordered i
    → rest ≡ procs-in-turn w ps j → t ≡ procs-tail w ps j → SumAt w ps i x → y ≡ in_row e x rest t → y ≡ procs-in-turn w ps i
procs-turn w ps i j p e x rest y t n at entry r b found is =
    let more : i + 1 ≡ suc i = omega arith in
    is ∙ ap₂ (λ (z : Entry) (c : Sum). in_row z c rest t) entry (found p at)
    ∙ ap₂ (in_row (Ordered i) (proc_sum w p))
    (r ∙ ap (λ k. sum_in_turn k (procs_sum w (from-number k ps))) n ∙ ap (λ k. sum_in_turn (i + 1) (procs_sum w (from-number k ps))) more)
    (b ∙ tail-next w ps i j n)
    ∙ sym (ap (λ (xs : Procs). sum_in_turn i (procs_sum w xs)) (from-some ps i p at))

pub procs-behind : (w : List Bool) (ps : Procs) (i j : ℕ) (p : Proc) (x : Sum) (t y : Tail) → j ≡ i + 1 → proc_at ps i ≡ Some p
    → t ≡ procs-tail w ps j → SumAt w ps i x → y ≡ tail_before x t → y ≡ procs-tail w ps i
procs-behind w ps i j p x t y n at b found is =
    is ∙ ap₂ tail_before (found p at) (b ∙ tail-next w ps i j n)
    ∙ sym (ap (λ (xs : Procs). tail_in_turn (procs_sum w xs)) (from-some ps i p at))

pub procs-no-tail : (w : List Bool) (ps : Procs) (i : ℕ) → proc_at ps i ≡ None → no_tail ≡ procs-tail w ps i
procs-no-tail w ps i h = sym (ap (λ (xs : Procs). tail_in_turn (procs_sum w xs)) (from-none ps i h))

pub procs-end : (w : List Bool) (ps : Procs) (i : ℕ) → proc_at ps i ≡ None → finished ≡ procs-in-turn w ps i
procs-end w ps i h = sym (ap (λ (xs : Procs). sum_in_turn i (procs_sum w xs)) (from-none ps i h))

-- side by side, as they stand in memory
abbrev pub procs-abreast : List Bool → List made.Proc → ℕ → Sum
procs-abreast w ps i = sum_abreast i (procs_sum w (procs_of (map proc_view (drop i ps))))

pub procs-branch : (w : List Bool) (ps : List made.Proc) (i j : ℕ) (p : made.Proc) (rest y : Sum) → j ≡ i + 1 → i < length ps → p ≡ slice_index_or ps i p
    → rest ≡ procs-abreast w ps j → y ≡ beside (Branch i) (proc_sum w (proc_view p)) rest → y ≡ procs-abreast w ps i
procs-branch w ps i j p rest y n l e r is =
    is ∙ ap (beside (Branch i) (proc_sum w (proc_view p))) (r ∙ ap (procs-abreast w ps) n)
    ∙ sym (ap (λ (xs : List made.Proc). sum_abreast i (procs_sum w (procs_of (map proc_view xs))))
    (drop_more ps i p l ∙ ap (λ (z : made.Proc). z ∷ drop (i + 1) ps) (sym e)))

pub procs-last : (w : List Bool) (ps : List made.Proc) (i : ℕ) → length ps ≤ i → finished ≡ procs-abreast w ps i
procs-last w ps i l = sym (ap (λ (xs : List made.Proc). sum_abreast i (procs_sum w (procs_of (map proc_view xs)))) (drop_all i ps l))

-- a child that has not begun is its command
pub fresh-sum-at : (w : List Bool) (xs : List made.Proc) (row : Row) (i : ℕ) (cs : List Code) (c : Code) (y : Sum)
    → length xs ≤ i → cs ≡ row.codes → i < length row.codes → c ≡ slice_index_or cs i c
    → y ≡ code_sum w (code_view c) → SumAt w (begun-row xs row) i y
fresh-sum-at w xs row i cs c y past all less e is p at =
    let within : i < length cs = subst (λ (k : List Code). i < length k) (sym all) less in
    let there : proc_at (begun-row xs row) i ≡ Some (started (code_view c)) =
    row-past-at xs row i (omega (arith, past)) ∙ ap (λ (k : List Code). proc_at (all_started (row_of (map code_view k))) i) (sym all) ∙ fresh-at cs i c within e in
    let same : started (code_view c) ≡ p = some-injective (started (code_view c)) p (sym there ∙ at) in
    is ∙ sym (started-sum w (code_view c)) ∙ ap (proc_sum w) same

-- one that has begun is a process
pub begun-sum-at : (w : List Bool) (xs : List made.Proc) (row : Row) (i : ℕ) (x : made.Proc) (y : Sum)
    → i < length xs → i < length row.codes → x ≡ slice_index_or xs i x
    → y ≡ proc_sum w (proc_view x) → SumAt w (begun-row xs row) i y
begun-sum-at w xs row i x y l m e is p at =
    let same : proc_view x ≡ p = some-injective (proc_view x) p (sym (row-at xs row i x l m e) ∙ at) in
    is ∙ ap (proc_sum w) same

-- an arm that opened, as it stands in memory
opened-view : (ds : List ℕ) (cs : Codes) (c : ℕ) (v : Option Word) (closed : Bool) (q : Box made.Proc) → gate_view (made_gate.Opened c v closed q) ds cs ≡ opened_of closed ds cs c v (proc_view q.value)
opened-view ds cs c v closed q = search (rules, the_lemmas)

pub opened-sum : (w : List Bool) (ds : List ℕ) (cs : Codes) (c : ℕ) (v : Option Word) (closed : Bool) (g : Gate) (q : Box made.Proc) (p : made.Proc) (x : Sum)
    → g ≡ made_gate.Opened c v closed q → p ≡ q.value → x ≡ proc_sum w (opened_of closed ds cs c v (proc_view p)) → x ≡ proc_sum w (gate_view g ds cs)
opened-sum w ds cs c v closed g q p x is here e =
    e ∙ sym (ap (proc_sum w)
    (ap (λ (z : Gate). gate_view z ds cs) is ∙ opened-view ds cs c v closed q ∙ ap (λ (z : made.Proc). opened_of closed ds cs c v (proc_view z)) (sym here)))
