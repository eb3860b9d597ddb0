use Rattle.std.proofs.Common.{ap, sym, ◌∙◌}
use Rattle.system.specs.declared.system.System.{System}
use Rattle.system_places.specs.SystemBranches.{branch_count}
use Rattle.dap_threads.proofs.Numbers.{among_frames, no-branch}
use Rattle.dap_threads.proofs.frames.frame_named.Goals as goal

pub returns-in_ok-frames-in-Some : goal.returns-in_ok-frames-in-Some
returns-in_ok-frames-in-Some c =
    among_frames c.args.machine.now c.args.index.now c.args.sight.now c.args.id c.branch_count.result c.in-Some.branch c.frame_of-thread.result
    c.as_slice.result.now c.frame_among.result c.frame_of-thread.ensures
    (c.branch_count.ensures ∙ ap (λ (s : System). branch_count s) (c.system.ensures ∙ c.checked.ensures))
    (sym c.branch_of.ensures.branch ∙ c.in-Some.is) (c.as_slice.ensures.value ∙ c.in_ok-frames-in-Some.ensures) c.frame_among.ensures

pub returns-in-None : goal.returns-in-None
returns-in-None c =
    no-branch c.args.machine.now c.args.index.now c.args.sight.now c.args.id c.branch_count.result c.frame_of-thread.result c.frame_of-thread.ensures
    (c.branch_count.ensures ∙ ap (λ (s : System). branch_count s) (c.system.ensures ∙ c.checked.ensures))
    (sym c.branch_of.ensures.branch ∙ c.in-None.is)
