-- The table of a command: which numbers use which channel, and which of them lie in which part of the command.
use Rattle.process_tree.specs.Code.{Code}
use Rattle.channel_uses.specs.Uses.{HoldsExactly, used}
use Rattle.channel_uses.specs.internal.Parts.{IsPart}
use Rattle.channel_uses.specs.declared.table.ChannelUses.{ChannelUses}

-- the table has exactly the uses of the command, each with its number, and knows of each part of the command which are
-- its own
pub record IsTableOf (c : Code) (t : ChannelUses) : Type 0 where
  pub uses : HoldsExactly t.table (used c)
  pub parts : IsPart c 0 t.whole
