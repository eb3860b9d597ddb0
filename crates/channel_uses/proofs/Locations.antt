-- What is known of the parts of children.
use Rattle.std.proofs.Common.{◌≡◌, ℕ, zero, suc, ◌+◌, ◌≤◌, List, [], ◌∷◌, length, Some, None, Option, IfSome, slice_get, Bor, sym, ◌∙◌, subst, arith}
use Rattle.std.specs.Option.{option_copied}
use Rattle.runs.proofs.public.Options.{none-some, some-injective}
use Rattle.process_tree.specs.Code.{Code, Codes, no_code, code, code_at, in_turn, side_by_side}
use Rattle.dependence.specs.LastEvents.{Uses}
use Rattle.dependence.specs.declared.uses.UseTable.{UseTable}
use Rattle.channel_uses.specs.Uses.{used, all_used}
use Rattle.channel_uses.specs.Table.{IsTableOf}
use Rattle.channel_uses.specs.declared.table.ChannelUses.{ChannelUses}
use Rattle.channel_uses.specs.internal.Located.{LocatedCode, LocatedRow}
use Rattle.channel_uses.specs.internal.Parts.{end, parts, IsPart, AreParts, InTable, UnusedFrom, UnusedBetween}
use Rattle.channel_uses.specs.declared.part.Part.{Part}
use Rattle.channel_uses.proofs.Searches.{get-first, get-second}

-- the number of the first use of child k
start : ℕ → Codes → ℕ → ℕ
start n no_code k = n
start n (code c cs) zero = n
start n (code c cs) (suc k) = start (n + length (used c)) cs k

-- the uses of a child are told
told-child : (table : UseTable) (n : ℕ) (cs : Codes) (k : ℕ) → InTable table n (all_used cs) → InTable table (start n cs k) (used (code_at cs k))
unfolding start
told-child table n no_code k h e i is = none-some e is
told-child table n (code c cs) zero h e i is = h e i (get-first (used c) (all_used cs) i e is)
told-child table n (code c cs) (suc k) h e i is =
    told-child table (n + length (used c)) cs k (λ d j at.
    let same : n + (length (used c) + j) ≡ n + length (used c) + j = omega arith in
    subst (Uses table d) same (h d (length (used c) + j) (get-second (used c) (all_used cs) j ∙ at))) e i is

part-child : (n : ℕ) (cs : Codes) (ps : List Part) (k : ℕ) (p : Part) → AreParts cs n ps → slice_get ps k ≡ Some p → IsPart (code_at cs k) (start n cs k) p
unfolding start
part-child n no_code ps k p h is = none-some p (subst (λ qs. slice_get qs k ≡ Some p) h is)
part-child n (code c cs) [] k p h is = absurd h
part-child n (code c cs) (q ∷ ps) zero p h is = subst (IsPart c n) (some-injective q p is) h.0
part-child n (code c cs) (q ∷ ps) (suc k) p h is = part-child (n + length (used c)) cs ps k p h.1 is

-- of a child whose part is not known
pub child-unknown : (table : UseTable) (part : Option (Bor Part)) (cs : Codes) (k : ℕ) → LocatedRow table part cs → LocatedCode table None (code_at cs k)
child-unknown table part cs k h = record { number = start h.number cs k; told = told-child table h.number cs k h.told; is = tt }

-- of one whose part is looked up
pub child-known : (table : UseTable) (part : Option (Bor Part)) (q : Bor Part) (cs : Codes) (k : ℕ) (r : Option (Bor Part)) → part ≡ Some q → option_copied r ≡ slice_get (parts q.now) k
    → LocatedRow table part cs → LocatedCode table r (code_at cs k)
child-known table part q cs k None e is h = child-unknown table part cs k h
child-known table part q cs k (Some p) e is h =
    let are = subst (λ o. IfSome o (λ (q : Bor Part). AreParts cs h.number (parts q.now) × (end q.now ≡ h.number + length (all_used cs)))) e h.are in
    record { number = start h.number cs k; told = told-child table h.number cs k h.told; is = part-child h.number cs (parts q.now) k p.now are.0 (sym is) }

-- none between a number and itself
pub unused-here : (e : ℕ) (cs : Codes) (k : ℕ) → UnusedBetween e cs k k
unused-here e cs k i low high u = omega (arith, low, high)

-- fewer
pub unused-less : (e : ℕ) (cs : Codes) (j k n : ℕ) → n ≤ k → UnusedBetween e cs j k → UnusedBetween e cs j n
unused-less e cs j k n l h i low high u = h i low (omega (arith, l, high)) u

pub unused-all : (e : ℕ) (cs : Codes) (j n : ℕ) → UnusedFrom e cs j → UnusedBetween e cs j n
unused-all e cs j n h i low high u = h i low u

-- the row of a sequence
pub row-in-turn : (table : UseTable) (part : Option (Bor Part)) (c : Code) (cs : Codes) → c ≡ in_turn cs → LocatedCode table part c → LocatedRow table part cs
row-in-turn table None c cs e h = record { number = h.number; told = subst (λ k. InTable table h.number (used k)) e h.told; are = tt }
row-in-turn table (Some q) c cs e h =
    let is = subst (λ k. IsPart k h.number q.now) e h.is in
    record { number = h.number; told = subst (λ k. InTable table h.number (used k)) e h.told; are = (is.1, is.0.1) }

-- of a parallel
pub row-side-by-side : (table : UseTable) (part : Option (Bor Part)) (c : Code) (cs : Codes) → c ≡ side_by_side cs → LocatedCode table part c → LocatedRow table part cs
row-side-by-side table None c cs e h = record { number = h.number; told = subst (λ k. InTable table h.number (used k)) e h.told; are = tt }
row-side-by-side table (Some q) c cs e h =
    let is = subst (λ k. IsPart k h.number q.now) e h.is in
    record { number = h.number; told = subst (λ k. InTable table h.number (used k)) e h.told; are = (is.1, is.0.1) }

-- the whole command
pub whole-located : (c : Code) (t : ChannelUses) (q : Bor Part) → q.now ≡ t.whole → IsTableOf c t → LocatedCode t.table (Some q) c
whole-located c t q e h = record {
  number = 0;
  told = λ d i is. let same : i ≡ 0 + i = omega arith in subst (Uses t.table d) same ((h.uses d i).1 is);
  is = subst (IsPart c 0) (sym e) h.parts;
}
