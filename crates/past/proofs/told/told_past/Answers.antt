use Rattle.std.proofs.Common.{◌≡◌, ◌∙◌, ℕ, List, length, sym, ap, subst, arith}
use Rattle.past.specs.internal.Near.{AllNear, LeadDown}
use Rattle.past.specs.internal.Blocks.{AllOpen}
use Rattle.past.proofs.Telling.{leads-down, near-all, written-back}
use Rattle.past.proofs.told.told_past.Goals as goal

pub find_near-requires-clause-down : goal.find_near-requires-clause-down
find_near-requires-clause-down c =
    subst (λ (k : List (List ℕ)). LeadDown k) (sym c.as_slice-2.ensures)
    (leads-down 0 c.is_sound.ensures.rising.0 c.args.live.now.live c.args.asked c.requires.live.0 c.is_sound.ensures.rising.1 c.requires.live.1 c.args.whole.now
    c.requires.whole c.add_leads.new.leads c.in_ok-add_leads.ensures)

pub list_told-requires-clause-near : goal.list_told-requires-clause-near
list_told-requires-clause-near c =
    let lent = ap (λ (k : List (List ℕ)). length k) c.as_mut_slice.ensures.value in
    let count = c.as_mut_slice.ensures.len in
    let size = c.in_ok-add_empty.ensures.size in
    let found = c.in_ok-find_near.ensures.0 in
    let near_is : c.as_slice-4.result.now ≡ c.find_near.new.near =
    c.as_slice-4.ensures.value ∙ written-back c.find_near.new.near c.add_empty.new.lists.items c.add_empty.new.lists.len (omega arith) (omega arith) in
    subst (λ (k : List (List ℕ)). AllNear c.args.live.now.live c.args.asked c.args.whole.now k) (sym near_is)
    (near-all 0 c.is_sound.ensures.rising.0 c.args.live.now.live c.args.asked c.requires.live.0 c.is_sound.ensures.rising.1 c.requires.live.1 c.args.whole.now
    c.requires.whole c.add_leads.new.leads c.in_ok-add_leads.ensures c.find_near.new.near c.in_ok-find_near.ensures.0
    (subst (λ (k : List (List ℕ)). AllOpen c.args.asked c.args.whole.now k 0 c.find_near.new.near) c.as_slice-2.ensures c.in_ok-find_near.ensures.1))
