-- What parts of a process in memory stand for, beside what they are parts of.
-- No reader has to believe it: `View.antt` says what a whole process stands for, layer by layer, and these are its
-- layers.
use Rattle.process_tree.specs.declared.proc.Gate.{Gate}
use Rattle.process_tree.specs.declared.proc.Gate.TheFolds.{fold-Gate, fold-Tested, fold-Turns}
use Rattle.process_tree.specs.declared.proc.Tested.{Tested}
use Rattle.process_tree.specs.declared.proc.Turns.{Turns}
use Rattle.process_tree.specs.Proc as model_proc
use Rattle.process_tree.specs.View.{OfArms, OfTest, OfLoop, gate_layer, proc_layer, tested_layer, turns_layer}

-- how far a loop in memory is
abbrev pub turns_view : Turns → OfLoop
turns_view = fold-Turns OfArms model_proc.Proc OfTest OfLoop gate_layer proc_layer tested_layer turns_layer

-- how far a test in memory is
abbrev pub tested_view : Tested → OfTest
tested_view = fold-Tested OfArms model_proc.Proc OfTest OfLoop gate_layer proc_layer tested_layer turns_layer

-- how far arms in memory are
abbrev pub gate_view : Gate → OfArms
gate_view = fold-Gate OfArms model_proc.Proc OfTest OfLoop gate_layer proc_layer tested_layer turns_layer
