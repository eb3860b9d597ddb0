-- A machine may cross threads.
use denote.Param.Send.{IsSend, IsSync}
use Rattle.locked_execution.proofs.ExpressionCrossing.{basics}
use Rattle.locked_execution.proofs.SystemCrossing.{checked_send, checked_sync, tree_field_send, tree_field_sync, inverse_send, inverse_sync, maps}
use Rattle.std.proofs.MapsCrossing as crossingMaps
use Rattle.channel_uses.proofs.part.Part.TheLaws.TheKnot as partKnot
use Rattle.address.proofs.Address.TheSendSync as addressCrosses
use Rattle.address.proofs.Entry.TheSendSync as entryCrosses
use Rattle.dependence.proofs.kept.Kept.TheSendSync as keptCrosses
use Rattle.dependence.proofs.links.Links.TheSendSync as linksCrosses
use Rattle.dependence.specs.contracts.live.Live as live
use Rattle.dependence.proofs.branch.BranchEvents.TheLaws.TheKnot as branchKnot
use Rattle.runs.proofs.event.Event.TheSendSync as eventCrosses
use Rattle.runs.proofs.event.Kind.TheSendSync as kindCrosses
use Rattle.system.proofs.variables.Variables.TheSendSync as variablesCrosses
use Rattle.store.proofs.Store.TheSendSync as storeSend
use Rattle.channel_uses.specs.contracts.ChannelUses as uses
use Rattle.machine.specs.contracts.machine.Machine as machine
use Rattle.dependence.proofs.uses.UseTable.TheSendSync as useTableCrosses
use Rattle.std.below.std_collections.proofs.btree.node.Node.TheSendSync as nodeCrosses
use Rattle.std.below.std_collections.proofs.btree.node.root.Root.TheSendSync as rootCrosses
use Rattle.std.below.std_collections.proofs.btree.tree.Tree.TheSendSync as treeCrosses
use Rattle.std.proofs.alloc.Global.TheSendSync as globalCrosses
use Rattle.std.proofs.collections.BTreeMap.TheSendSync as bTreeMapCrosses
use Rattle.std.proofs.collections.BTreeSet.TheSendSync as bTreeSetCrosses
use Rattle.std.proofs.option.Option.TheSendSync as optionCrosses
use Rattle.std.proofs.rt.Memory.TheSendSync as memoryCrosses
use Rattle.std.proofs.vec.Vec.TheSendSync as vec
use Rattle.syntax.proofs.items.Items.TheSendSync as itemsCrosses

pub ruleset trees = (optionCrosses.the_field_send, optionCrosses.the_field_sync, optionCrosses.the_send, optionCrosses.the_sync, memoryCrosses.the_field_send, memoryCrosses.the_field_sync, memoryCrosses.the_send, memoryCrosses.the_sync, useTableCrosses.the_send, useTableCrosses.the_sync, itemsCrosses.the_send, itemsCrosses.the_sync, vec.the_send, vec.the_sync, nodeCrosses.the_send, nodeCrosses.the_sync, rootCrosses.the_field_send, rootCrosses.the_field_sync, rootCrosses.the_send, rootCrosses.the_sync, treeCrosses.the_field_send, treeCrosses.the_field_sync, treeCrosses.the_send, treeCrosses.the_sync, bTreeMapCrosses.the_send, bTreeMapCrosses.the_sync, bTreeSetCrosses.the_send, bTreeSetCrosses.the_sync, globalCrosses.the_field_send, globalCrosses.the_field_sync, globalCrosses.the_send, globalCrosses.the_sync, crossingMaps.crosses)

pub ruleset lives = (vec.the_send, vec.the_sync, globalCrosses.the_field_send, globalCrosses.the_send, globalCrosses.the_field_sync, globalCrosses.the_sync, storeSend.the_send, storeSend.the_sync)

pub uses_field_send : IsSend (uses.the_field).row
uses_field_send = search (partKnot.crosses, trees, basics) depth 60 fits 20000

pub uses_field_sync : IsSync (uses.the_field).row
uses_field_sync = search (partKnot.crosses, trees, basics) depth 60 fits 20000

pub ruleset events = (addressCrosses.the_send, addressCrosses.the_sync, entryCrosses.the_field_send, entryCrosses.the_field_sync, entryCrosses.the_send, entryCrosses.the_sync, keptCrosses.the_send, keptCrosses.the_sync, linksCrosses.the_send, linksCrosses.the_sync, eventCrosses.the_send, eventCrosses.the_sync, kindCrosses.the_field_send, kindCrosses.the_field_sync, kindCrosses.the_send, kindCrosses.the_sync, variablesCrosses.the_send, variablesCrosses.the_sync)

-- live events, whose table of places is a tree of branches
pub live_field_send : IsSend (live.the_field).row
live_field_send = search (branchKnot.crosses, events, trees, maps, basics) depth 60 fits 20000

pub live_field_sync : IsSync (live.the_field).row
live_field_sync = search (branchKnot.crosses, events, trees, maps, basics) depth 60 fits 20000

pub machine_send : IsSend machine.the_row
machine_send = search (checked_send, live_field_send, uses_field_send, tree_field_send, inverse_send, lives, basics) depth 60 fits 20000

pub machine_sync : IsSync machine.the_row
machine_sync = search (checked_sync, live_field_sync, uses_field_sync, tree_field_sync, inverse_sync, lives, basics) depth 60 fits 20000
