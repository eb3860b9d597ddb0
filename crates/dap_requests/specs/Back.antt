-- Steps back.
use Rattle.std.specs.Prelude.{◌≡◌, ℕ, Bool, List, Option, None, Some, codes, unwrap_or}
use Rattle.serde_json.specs.View.{view}
use Rattle.machine.specs.AtMachine.{AtMachine}
use Rattle.system_places.specs.SystemBranches.{branch_at, branch_count}
use Rattle.runs.specs.Events.{acting}
use Rattle.runs.specs.Live.{LiveAt}
use Rattle.runs.specs.declared.event.Choice.{Choice}
use Rattle.runs.specs.declared.event.Event.{Event}
use Rattle.runs.specs.declared.command.Refusal.TheVariants.{NeededBy}
use Rattle.locked_execution.specs.AtDesk.{AtDesk}
use Rattle.locked_execution.specs.declared.command.Reply.{Reply}
use Rattle.dap_messages.specs.Arguments.{is_single, number_named}
use Rattle.dap_messages.specs.declared.request.Request.{Request}
use Rattle.dap_messages.specs.declared.told.Stop.{Stop}
use Rattle.dap_moves.specs.Moves.{StepsBack}
use Rattle.dap_moves.specs.TakingBack.{GoesBack}
use Rattle.dap_moves.specs.declared.back.Back.{Back}
use Rattle.dap_moves.specs.declared.taken_back.Rewound.{Rewound}
use Rattle.dap_threads.specs.Threads.{branch_named}
use Rattle.dap_views.specs.declared.program.Program.{Program}
use Rattle.dap_requests.specs.Forth.{SeenAfter, alone, stop_of}

-- how a thread stands behind a step back
abbrev pub stop_back : Bool → Back → Stop
stop_back excepts Back.AtBeginning = Stop.Stepped
stop_back excepts (Back.Asked t reply) = stop_of excepts reply

-- the thread of which branch stands behind it where the step was one of branch k: where another step depends on it, the
-- thread of the branch in which that acts
abbrev pub StandsBack : AtMachine → ℕ → Back → ℕ → Type 0
StandsBack m k (Back.Asked t (Reply.Refused (NeededBy u))) branch =
    (e : Event) × LiveAt m.live u e × (branch ≡ unwrap_or (branch_at m.checked (acting e)) k)
StandsBack m k _ branch = branch ≡ k

-- which steps stay in mind of those before which a run has stood: all, where there was no step to take back
abbrev pub SeenBehind : Back → List Choice → List Choice → Type 0
SeenBehind Back.AtBeginning before after = after ≡ before
SeenBehind (Back.Asked t reply) before after = SeenAfter reply before after

-- the newest step of branch k is taken back, if there is one, and how it went is told
abbrev pub Backs : Bool → AtDesk → ℕ → List Choice → Stop → ℕ → AtDesk → List Choice → Type 0
Backs excepts d k before stop branch d' after =
    (moved : Back) × StepsBack d k moved d' × (stop ≡ stop_back excepts moved) × StandsBack d'.machine k moved branch
    × SeenBehind moved before after

-- how a thread stands behind a run back that ended so
abbrev pub stop_behind : Rewound → Stop
stop_behind Rewound.AtBeginning = Stop.Entry
stop_behind (Rewound.AtLine branch line) = Stop.AtLine
stop_behind (Rewound.Watched branch ticket) = Stop.Watched

-- and the thread of which branch, where it was asked for branch k
abbrev pub stands_behind : ℕ → Rewound → ℕ
stands_behind k Rewound.AtBeginning = k
stands_behind k (Rewound.AtLine branch line) = branch
stands_behind k (Rewound.Watched branch ticket) = branch

-- a run back for branch k, of all or of a branch alone, which stops as the program is set, and how that ended is told.
-- `after` are the steps before which a run has stood that are kept in mind
abbrev pub Reverses : Program → ℕ → Option ℕ → AtDesk → Stop → ℕ → AtDesk → List Choice → Type 0
Reverses program k only d stop branch d' after =
    (ended : Rewound) × GoesBack only program.stops.items program.watched.items d d' ended after
    × (stop ≡ stop_behind ended) × (branch ≡ stands_behind k ended)

-- the same for the branch of the thread that a request names, if there is one
abbrev pub ReversesIn : Program → Option ℕ → Request → AtDesk → Stop → ℕ → AtDesk → List Choice → Type 0
ReversesIn program None request d stop branch d' after = ⊥
ReversesIn program (Some k) request d stop branch d' after =
    Reverses program k (alone k (is_single request)) d stop branch d' after

abbrev pub ReversesFor : Program → AtDesk → Request → Stop → ℕ → AtDesk → List Choice → Type 0
ReversesFor program d request stop branch d' after =
    ReversesIn program
    (branch_named (branch_count d.machine.checked) (number_named (codes "threadId") (view request.arguments)))
    request d stop branch d' after
