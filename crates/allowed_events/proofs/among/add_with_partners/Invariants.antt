use Rattle.std.proofs.Common.{◌≤◌, length}
use Rattle.allowed_events.proofs.ByChannel.{MadeFrom}
use Rattle.allowed_events.proofs.among.add_with_partners.Given as goal

-- those from the index on are looked at
abbrev pub invariant-partners : goal.invariant-partners
invariant-partners l = (l.below ≤ length l.actions) × MadeFrom l.fn.events l.events l.below l.one l.channel l.actions

abbrev pub decreases-partners : goal.decreases-partners
decreases-partners l = l.below
