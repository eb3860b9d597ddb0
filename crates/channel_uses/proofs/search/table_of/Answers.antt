use Rattle.std.proofs.Common.{◌<◌, length, get_or, arith}
use Rattle.std.proofs.lemmas.Option.{slice_get-get_or}
use Rattle.channel_uses.proofs.Searches.{holds-none, holds-more, holds-all}
use Rattle.channel_uses.proofs.search.table_of.Goals as goal

pub loop-number-init : goal.loop-number-init
loop-number-init c = holds-none c.new-table.result c.args.channels.now c.new-table.ensures

pub loop-number-preserved : goal.loop-number-preserved
loop-number-preserved c =
    let within : c.loop-number.number < length c.args.channels.now = omega arith in
    holds-more c.loop-number.table c.put.new.self c.args.channels.now c.loop-number.number (get_or c.args.channels.now c.loop-number.number 0) c.loop-number.invariant
    (slice_get-get_or c.args.channels.now c.loop-number.number 0 within) c.in_ok-put.ensures.put

pub returns : goal.returns
returns c = holds-all c.loop-number.table c.args.channels.now c.loop-number.number c.loop-number.invariant c.loop-number-test.false
