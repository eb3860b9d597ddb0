use Rattle.std.proofs.Common.{sym, ◌∙◌, ◌++◌, ◌∷◌, [], ◌+◌}
use Rattle.dap_views.specs.Handles.{frame_id}
use Rattle.dap_threads.specs.Stack.{asked_ids}
use Rattle.dap_threads.proofs.Listing.{asked_more, asked_same, listed_more, lists_on}
use Rattle.dap_threads.proofs.frames.asked_frames.Goals as goal
use Rattle.dap_threads.proofs.frames.asked_frames.Goals.{then-is_asked, else-is_asked}

pub loop-index-preserved : goal.loop-index-preserved
loop-index-preserved c = elim c.if-is_asked.branch [
  | then-is_asked w ↦
      lists_on w.push.new.self c.if-is_asked.list
      (asked_ids c.args.first c.args.levels c.args.branch c.loop-index.index ++ frame_id (c.args.branch + 1) c.loop-index.index ∷ [])
      (asked_ids c.args.first c.args.levels c.args.branch (c.loop-index.index + 1)) w.list-is
      (asked_more c.args.first c.args.levels c.args.branch c.loop-index.index (sym c.is_asked.ensures ∙ w.if-is_asked.true))
      (listed_more c.loop-index.list w.push.new.self w.shown-frame.result w.number.new.self
      (asked_ids c.args.first c.args.levels c.args.branch c.loop-index.index) (frame_id (c.args.branch + 1) c.loop-index.index) w.id_of.result
      c.loop-index.invariant w.id_of.ensures w.number.ensures w.push.ensures)
  | else-is_asked w ↦
      lists_on c.loop-index.list c.if-is_asked.list (asked_ids c.args.first c.args.levels c.args.branch c.loop-index.index)
      (asked_ids c.args.first c.args.levels c.args.branch (c.loop-index.index + 1)) w.list-is
      (asked_same c.args.first c.args.levels c.args.branch c.loop-index.index (sym c.is_asked.ensures ∙ w.if-is_asked.false))
      c.loop-index.invariant
]
