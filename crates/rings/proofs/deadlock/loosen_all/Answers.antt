use Rattle.std.proofs.Common.{◌≡◌, ◌≤◌, ◌∙◌, ℕ, ◌+◌, List, Bool, true, false, [], ◌∷◌, ◌++◌, length, Option, sym, ap, ap₂, subst, arith, length-append}
use Rattle.std.specs.Option.{option_to_list}
use Rattle.rings.specs.internal.Loosened.{is_loose}
use Rattle.rings.specs.internal.Loosening.{count_for}
use Rattle.rings.specs.internal.Tally.{Counted, times, total}
use Rattle.rings.proofs.Holding.{groups-there, loosened, loosening-end, passed-by, row-there, those-there}
use Rattle.rings.proofs.deadlock.loosen_all.Goals as goal

pub loosening-preserved : goal.loosening-preserved
loosening-preserved c =
    let popped : c.loosening.todo.items ≡ c.pop.new.self.items ++ c.in-Some.number ∷ [] =
    c.pop.ensures.items ∙ ap (λ (o : Option ℕ). c.pop.new.self.items ++ option_to_list o) c.in-Some.is in
    let count : count_for c.args.tables.now.waiters c.loosening.counts.items c.args.partners.now c.in-Some.number ≡ c.count_for-count.result =
    ap (λ (cs : List ℕ). count_for c.args.tables.now.waiters cs c.args.partners.now c.in-Some.number) (sym c.as_slice.ensures.value) ∙ sym c.count_for-count.ensures in
    let firm : is_loose c.args.partners.now c.args.helped.now c.loosening.marks.items
    (count_for c.args.tables.now.waiters c.loosening.counts.items c.args.partners.now c.in-Some.number) c.in-Some.number ≡ false =
    ap₂ (λ (ms : List Bool) (k : ℕ). is_loose c.args.partners.now c.args.helped.now ms k c.in-Some.number) (sym c.as_slice-in-Some.ensures.value) count
    ∙ sym c.is_loose.ensures ∙ c.if-is_loose.false in
    passed-by c.args.actions.now c.args.partners.now c.args.helped.now c.loosening.marks.items c.args.tables.now c.loosening.counts.items c.loosening.todo.items c.pop.new.self.items
    c.in-Some.number c.requires.partners c.requires.tables c.loosening.invariant popped firm

pub loosen_at-requires-clause-groups : goal.loosen_at-requires-clause-groups
loosen_at-requires-clause-groups c =
    groups-there c.args.actions.now c.args.partners.now c.args.helped.now c.loosening.marks.items c.args.tables.now c.loosening.counts.items c.loosening.todo.items c.requires.tables
    c.loosening.invariant

pub loosen_at-requires-clause-standing : goal.loosen_at-requires-clause-standing
loosen_at-requires-clause-standing c =
    those-there c.args.actions.now c.args.partners.now c.args.helped.now c.loosening.marks.items c.args.tables.now c.loosening.counts.items c.loosening.todo.items c.requires.tables
    c.loosening.invariant c.in-Some.number

pub loosen_at-requires-clause-counted : goal.loosen_at-requires-clause-counted
loosen_at-requires-clause-counted c =
    subst (λ (n : ℕ). Counted c.args.tables.now.above n c.loosening.marks.items c.loosening.counts.items) (sym c.loosening.invariant.size) c.loosening.invariant.counted

pub loosening-preserved-in-Continue-1 : goal.loosening-preserved-in-Continue-1
loosening-preserved-in-Continue-1 c =
    let popped : c.loosening.todo.items ≡ c.pop.new.self.items ++ c.in-Some.number ∷ [] =
    c.pop.ensures.items ∙ ap (λ (o : Option ℕ). c.pop.new.self.items ++ option_to_list o) c.in-Some.is in
    let count : count_for c.args.tables.now.waiters c.loosening.counts.items c.args.partners.now c.in-Some.number ≡ c.count_for-count.result =
    ap (λ (cs : List ℕ). count_for c.args.tables.now.waiters cs c.args.partners.now c.in-Some.number) (sym c.as_slice.ensures.value) ∙ sym c.count_for-count.ensures in
    let loose : is_loose c.args.partners.now c.args.helped.now c.loosening.marks.items
    (count_for c.args.tables.now.waiters c.loosening.counts.items c.args.partners.now c.in-Some.number) c.in-Some.number ≡ true =
    ap₂ (λ (ms : List Bool) (k : ℕ). is_loose c.args.partners.now c.args.helped.now ms k c.in-Some.number) (sym c.as_slice-in-Some.ensures.value) count
    ∙ sym c.is_loose.ensures ∙ c.if-is_loose.true in
    let row =
    row-there c.args.actions.now c.args.partners.now c.args.helped.now c.loosening.marks.items c.args.tables.now c.loosening.counts.items c.loosening.todo.items c.pop.new.self.items
    c.in-Some.number c.requires.partners c.requires.tables c.loosening.invariant popped loose in
    loosened c.args.actions.now c.args.partners.now c.args.helped.now c.loosening.marks.items c.args.tables.now c.loosening.counts.items c.loosening.todo.items c.pop.new.self.items
    c.in-Some.number c.requires.partners c.requires.tables c.loosening.invariant popped loose c.loosen_at.new.marks.items c.loosen_at.new.counts.items c.loosen_at.new.todo.items row.0 row.1
    (c.in_ok-loosen_at.ensures row.0 row.1)

pub loosening-smaller : goal.loosening-smaller
loosening-smaller c =
    let popped : c.loosening.todo.items ≡ c.pop.new.self.items ++ c.in-Some.number ∷ [] =
    c.pop.ensures.items ∙ ap (λ (o : Option ℕ). c.pop.new.self.items ++ option_to_list o) c.in-Some.is in
    let size : length c.loosening.todo.items ≡ length c.pop.new.self.items + 1 =
    ap (λ (l : List ℕ). length l) popped ∙ length-append c.pop.new.self.items (c.in-Some.number ∷ []) in
    omega (arith, size)

pub loosening-smaller-in-Continue-1 : goal.loosening-smaller-in-Continue-1
loosening-smaller-in-Continue-1 c =
    let popped : c.loosening.todo.items ≡ c.pop.new.self.items ++ c.in-Some.number ∷ [] =
    c.pop.ensures.items ∙ ap (λ (o : Option ℕ). c.pop.new.self.items ++ option_to_list o) c.in-Some.is in
    let size : length c.loosening.todo.items ≡ length c.pop.new.self.items + 1 =
    ap (λ (l : List ℕ). length l) popped ∙ length-append c.pop.new.self.items (c.in-Some.number ∷ []) in
    let count : count_for c.args.tables.now.waiters c.loosening.counts.items c.args.partners.now c.in-Some.number ≡ c.count_for-count.result =
    ap (λ (cs : List ℕ). count_for c.args.tables.now.waiters cs c.args.partners.now c.in-Some.number) (sym c.as_slice.ensures.value) ∙ sym c.count_for-count.ensures in
    let loose : is_loose c.args.partners.now c.args.helped.now c.loosening.marks.items
    (count_for c.args.tables.now.waiters c.loosening.counts.items c.args.partners.now c.in-Some.number) c.in-Some.number ≡ true =
    ap₂ (λ (ms : List Bool) (k : ℕ). is_loose c.args.partners.now c.args.helped.now ms k c.in-Some.number) (sym c.as_slice-in-Some.ensures.value) count
    ∙ sym c.is_loose.ensures ∙ c.if-is_loose.true in
    let row =
    row-there c.args.actions.now c.args.partners.now c.args.helped.now c.loosening.marks.items c.args.tables.now c.loosening.counts.items c.loosening.todo.items c.pop.new.self.items
    c.in-Some.number c.requires.partners c.requires.tables c.loosening.invariant popped loose in
    let took = c.in_ok-loosen_at.ensures row.0 row.1 in
    let less : times (total c.loosen_at.new.counts.items) (length c.args.actions.now) + length c.loosen_at.new.todo.items
    ≤ times (total c.loosening.counts.items) (length c.args.actions.now) + length c.pop.new.self.items =
    subst (λ (k : ℕ). times (total c.loosen_at.new.counts.items) k + length c.loosen_at.new.todo.items ≤ times (total c.loosening.counts.items) k + length c.pop.new.self.items)
    c.loosening.invariant.size took.puts.less in
    omega (arith, size, less)

pub returns : goal.returns
returns c =
    loosening-end c.args.actions.now c.args.partners.now c.args.helped.now c.loosening.marks.items c.args.tables.now c.loosening.counts.items c.loosening.todo.items c.pop.new.self.items _ _
    c.requires.partners c.requires.tables c.loosening.invariant c.loosening.todo.ok.0 c.in_default.ensures.cases.0 c.pop.ensures.items
