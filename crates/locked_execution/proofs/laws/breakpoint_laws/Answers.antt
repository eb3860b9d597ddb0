-- What commands leave.
use Rattle.locked_execution.proofs.FrameLaws.{only-breaks-and-clears, others-keep-theirs, others-keep-theirs-over-lists, break-leaves-execution, clear-leaves-execution, refusal-leaves-all, break-sets, clear-clears}
use Rattle.locked_execution.proofs.laws.breakpoint_laws.Goals as goal

pub returns : goal.returns
returns c = record {
  changes = only-breaks-and-clears;
  others = others-keep-theirs;
  lists = others-keep-theirs-over-lists;
  break_leaves = break-leaves-execution;
  clear_leaves = clear-leaves-execution;
  refusal = refusal-leaves-all;
  sets = break-sets;
  clears = clear-clears;
}
