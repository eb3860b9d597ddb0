use Rattle.std.proofs.Common.{◌≡◌, ◌≤◌, ◌-◌, ℕ, List, Some, length}
use Rattle.std.specs.Prelude.{slice_get}
use Rattle.past.specs.Past.{tickets_of}
use Rattle.past.specs.internal.Near.{AreLeads}
use Rattle.past.proofs.told.add_leads.Given as goal

-- those of the places passed are known
abbrev pub invariant-places : goal.invariant-places
invariant-places l = record {
  within : length l.leads ≤ length l.whole;
  lists : (q s : ℕ) (places : List ℕ) → slice_get (tickets_of l.whole) q ≡ Some s → slice_get l.leads q ≡ Some places
      → AreLeads l.live.live (tickets_of l.whole) s places;
}

abbrev pub decreases-places : goal.decreases-places
decreases-places l = length l.whole - length l.leads
