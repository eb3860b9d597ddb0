-- By the steps that are left it is as far as by all.
use Rattle.std.proofs.Common.{◌≡◌, drop}
use Rattle.dap_views.specs.Ranks.{rank_among, rank_of}
use Rattle.dap_views.proofs.sight.rank_among.Given as goal

abbrev pub invariant-loop-event : goal.invariant-loop-event
invariant-loop-event l = rank_among l.rank (drop l.event-index l.events) l.place ≡ rank_of l.events l.place
