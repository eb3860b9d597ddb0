-- One child of a row moves.
use Rattle.process_tree.proofs.Children.{in-sequence, in-parallel, back-in-sequence, back-in-parallel, from-0}
use Rattle.process_tree.proofs.laws.one_child_moves.Goals as goal

pub returns : goal.returns
returns c = record {
  sequence = λ row i b k x h. in-sequence row 0 i i b k x (from-0 i) h;
  parallel = λ row i b k x h. in-parallel row 0 i i b k x (from-0 i) h;
  back_in_sequence = λ row i b old x h. back-in-sequence row 0 i i b old x (from-0 i) h;
  back_in_parallel = λ row i b old x h. back-in-parallel row 0 i i b old x (from-0 i) h;
}
