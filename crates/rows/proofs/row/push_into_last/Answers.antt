use Rattle.std.proofs.Common.{◌≡◌, ◌<◌, ◌-◌, suc, length, arith}
use Rattle.rows.proofs.FlatLaws.{read-at, flat-pushed, flat-same}
use Rattle.rows.proofs.row.push_into_last.Goals as goal

pub returns-in-Ok-clause-pushed : goal.returns-in-Ok-clause-pushed
returns-in-Ok-clause-pushed g c =
    let less : c.len-last.result - 1 < length c.args.rows.now.items = omega (arith, c.len-last.ensures, c.requires, c.args.rows.now.ok) in
    let at = read-at c.args.rows.now.items (c.len-last.result - 1) c.index_mut-row.result.now less c.index_mut-row.ensures.value in
    let last : suc (c.len-last.result - 1) ≡ length c.args.rows.now.items = omega (arith, c.len-last.ensures, c.requires, c.args.rows.now.ok) in
    flat-pushed c.args.rows.now.items (c.len-last.result - 1) c.index_mut-row.result.now record { items = c.push.new.self }
    c.args.item at last c.in-Ok.ensures.items

pub returns-in-Err-clause-refused : goal.returns-in-Err-clause-refused
returns-in-Err-clause-refused g c =
    let less : c.len-last.result - 1 < length c.args.rows.now.items = omega (arith, c.len-last.ensures, c.requires, c.args.rows.now.ok) in
    let at = read-at c.args.rows.now.items (c.len-last.result - 1) c.index_mut-row.result.now less c.index_mut-row.ensures.value in
    flat-same c.args.rows.now.items (c.len-last.result - 1) c.index_mut-row.result.now record { items = c.push.new.self }
    at c.in-Err.ensures.items
