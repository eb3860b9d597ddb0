-- A system, a checked one, a tree and an inverse may cross threads.
use denote.Param.Send.{IsSend, IsSync}
use denote.Param.SendFields.{as_row_send, as_row_sync}
use Rattle.locked_execution.proofs.ExpressionCrossing.{basics, command_field_send, command_field_sync}
use Rattle.locked_execution.proofs.TreeCrossing.{proc_field_send, proc_field_sync, proc_send, proc_sync}
use Rattle.system.proofs.prefix.Prefix.TheLaws.TheKnot as prefixKnot
use Rattle.system.proofs.system.Branch.TheSendSync as branchSend
use Rattle.system.proofs.system.ChannelKind.TheSendSync as kindSend
use Rattle.system.specs.contracts.prefix.Prefix as prefix
use Rattle.system.specs.contracts.qualified_name.QualifiedName as qualified
use Rattle.system.specs.contracts.system.System as whole
use Rattle.system.specs.contracts.system.Variable as variable
use Rattle.system.specs.contracts.system.Channel as channel
use Rattle.system.specs.contracts.variable_table.VariableTable as table
use Rattle.sharing_check.specs.contracts.checked.Checked as checked
use Rattle.process_tree.specs.contracts.tree.Tree as tree
use Rattle.event_inverse.specs.contracts.record.Inverse as inverse
use Rattle.arrayvec.proofs.array_vec.ArrayVec.TheSendSync as arrayVecCrosses
use Rattle.arrayvec.proofs.cells.Cells.TheSendSync as cellsCrosses
use Rattle.indexmap.proofs.columns.Columns.TheSendSync as columnsCrosses
use Rattle.indexmap.proofs.index_table.Bucket.TheSendSync as bucketCrosses
use Rattle.indexmap.proofs.index_table.IndexTable.TheSendSync as indexTableCrosses
use Rattle.indexmap.proofs.index_table.group.Group.TheSendSync as groupCrosses
use Rattle.indexmap.proofs.map.IndexMap.TheSendSync as indexMapCrosses
use Rattle.smallvec.proofs.small_vec.SmallVec.TheSendSync as smallVecCrosses
use Rattle.smallvec.proofs.storage.Data.TheSendSync as dataCrosses
use Rattle.std.proofs.alloc.Global.TheSendSync as globalCrosses
use Rattle.std.proofs.hash.BuildHasherDefault.TheSendSync as buildHasherDefaultCrosses
use Rattle.std.proofs.hash.FoldHasher.TheSendSync as foldHasherCrosses
use Rattle.std.proofs.option.Option.TheSendSync as optionCrosses
use Rattle.std.proofs.rt.Memory.TheSendSync as memoryCrosses
use Rattle.std.proofs.sync.Arc.TheSendSync as arcCrosses
use Rattle.std.proofs.vec.Vec.TheSendSync as vecCrosses
use Rattle.syntax.proofs.items.Items.TheSendSync as itemsCrosses
use Rattle.syntax.proofs.name.Name.TheSendSync as nameCrosses
use Rattle.system.proofs.hash_positions.HashPositions.TheSendSync as hashPlacesCrosses
use Rattle.value.proofs.width.Width.TheSendSync as widthCrosses

pub ruleset maps = (arrayVecCrosses.the_send, arrayVecCrosses.the_sync, cellsCrosses.the_field_send, cellsCrosses.the_field_sync, cellsCrosses.the_send, cellsCrosses.the_sync, buildHasherDefaultCrosses.the_field_send, buildHasherDefaultCrosses.the_field_sync, buildHasherDefaultCrosses.the_send, buildHasherDefaultCrosses.the_sync, indexMapCrosses.the_send, indexMapCrosses.the_sync, smallVecCrosses.the_send, smallVecCrosses.the_sync, dataCrosses.the_field_send, dataCrosses.the_field_sync, dataCrosses.the_send, dataCrosses.the_sync, arcCrosses.the_send, arcCrosses.the_sync, vecCrosses.the_send, vecCrosses.the_sync, globalCrosses.the_field_send, globalCrosses.the_field_sync, globalCrosses.the_send, globalCrosses.the_sync, itemsCrosses.the_send, itemsCrosses.the_sync, nameCrosses.the_send, nameCrosses.the_sync, hashPlacesCrosses.the_send, hashPlacesCrosses.the_sync, widthCrosses.the_send, widthCrosses.the_sync, foldHasherCrosses.the_field_send, foldHasherCrosses.the_field_sync, foldHasherCrosses.the_send, foldHasherCrosses.the_sync, optionCrosses.the_field_send, optionCrosses.the_field_sync, optionCrosses.the_send, optionCrosses.the_sync, memoryCrosses.the_field_send, memoryCrosses.the_field_sync, memoryCrosses.the_send, memoryCrosses.the_sync, columnsCrosses.the_send, columnsCrosses.the_sync, bucketCrosses.the_field_send, bucketCrosses.the_field_sync, bucketCrosses.the_send, bucketCrosses.the_sync, indexTableCrosses.the_send, indexTableCrosses.the_sync, groupCrosses.the_field_send, groupCrosses.the_field_sync, groupCrosses.the_send, groupCrosses.the_sync, branchSend.the_send, branchSend.the_sync, branchSend.the_field_send, branchSend.the_field_sync, kindSend.the_send, kindSend.the_sync, kindSend.the_field_send, kindSend.the_field_sync)

pub prefix_send : IsSend prefix.the_row
prefix_send = search (prefixKnot.crosses, maps, basics) depth 60 fits 20000

pub prefix_sync : IsSync prefix.the_row
prefix_sync = search (prefixKnot.crosses, maps, basics) depth 60 fits 20000

pub qualified_send : IsSend qualified.the_row
qualified_send = search (prefix_send, maps, basics) depth 60 fits 20000

pub qualified_sync : IsSync qualified.the_row
qualified_sync = search (prefix_sync, maps, basics) depth 60 fits 20000

pub variable_field_send : IsSend (variable.the_field).row
variable_field_send = search (qualified_send, maps, basics) depth 60 fits 20000

pub variable_send : IsSend variable.the_row
variable_send = as_row_send variable.the_field variable_field_send

pub variable_field_sync : IsSync (variable.the_field).row
variable_field_sync = search (qualified_sync, maps, basics) depth 60 fits 20000

pub variable_sync : IsSync variable.the_row
variable_sync = as_row_sync variable.the_field variable_field_sync

pub channel_field_send : IsSend (channel.the_field).row
channel_field_send = search (qualified_send, maps, basics) depth 60 fits 20000

pub channel_send : IsSend channel.the_row
channel_send = as_row_send channel.the_field channel_field_send

pub channel_field_sync : IsSync (channel.the_field).row
channel_field_sync = search (qualified_sync, maps, basics) depth 60 fits 20000

pub channel_sync : IsSync channel.the_row
channel_sync = as_row_sync channel.the_field channel_field_sync

pub table_send : IsSend table.the_row
table_send = search (variable_send, maps, basics) depth 60 fits 20000

pub table_sync : IsSync table.the_row
table_sync = search (variable_sync, maps, basics) depth 60 fits 20000

pub whole_field_send : IsSend (whole.the_field).row
whole_field_send = search (command_field_send, channel_send, table_send, maps, basics) depth 60 fits 20000

pub whole_send : IsSend whole.the_row
whole_send = as_row_send whole.the_field whole_field_send

pub whole_field_sync : IsSync (whole.the_field).row
whole_field_sync = search (command_field_sync, channel_sync, table_sync, maps, basics) depth 60 fits 20000

pub whole_sync : IsSync whole.the_row
whole_sync = as_row_sync whole.the_field whole_field_sync

pub checked_send : IsSend checked.the_row
checked_send = search (whole_send, whole_sync, maps, basics) depth 60 fits 20000

pub checked_sync : IsSync checked.the_row
checked_sync = search (whole_send, whole_sync, maps, basics) depth 60 fits 20000

pub tree_field_send : IsSend (tree.the_field).row
tree_field_send = search (proc_field_send, maps, basics) depth 60 fits 20000

pub tree_send : IsSend tree.the_row
tree_send = as_row_send tree.the_field tree_field_send

pub tree_field_sync : IsSync (tree.the_field).row
tree_field_sync = search (proc_field_sync, maps, basics) depth 60 fits 20000

pub tree_sync : IsSync tree.the_row
tree_sync = as_row_sync tree.the_field tree_field_sync

pub inverse_field_send : IsSend (inverse.the_field).row
inverse_field_send = search (proc_send, maps, basics) depth 60 fits 20000

pub inverse_send : IsSend inverse.the_row
inverse_send = as_row_send inverse.the_field inverse_field_send

pub inverse_field_sync : IsSync (inverse.the_field).row
inverse_field_sync = search (proc_sync, maps, basics) depth 60 fits 20000

pub inverse_sync : IsSync inverse.the_row
inverse_sync = as_row_sync inverse.the_field inverse_field_sync
