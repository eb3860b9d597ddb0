use Rattle.std.proofs.Common.{◌∙◌, ◌≤◌, length, refl, sym, arith}
use Rattle.std.proofs.lemmas.Bool.Decides.{nat_tests}
use Rattle.picture_lanes.proofs.Blocks.{is_entered, not_there}
use Rattle.picture_lanes.proofs.calls.enter.Goals as goal

pub returns-in_default-get : goal.returns-in_default-get
returns-in_default-get c =
    let h = c.in_default-get.ensures.lookup in
    let past : length c.args.procedures.now ≤ c.in-Call.number = grind (arith, nat_tests, h) in (
      not_there c.args.procedures.now (record { written = c.args.written.now; block = c.args.block; instances = c.args.instances.now })
          c.in-Call.number c.in-Call.arguments (sym c.get.ensures ∙ c.in-Call.is) past,
      refl,
    )

pub returns : goal.returns
returns c =
    let found = c.in-Some.ensures.lookup in
    is_entered c.args.procedures.now (record { written = c.args.written.now; block = c.args.block; instances = c.args.instances.now })
    c.in-Call.number c.in-Call.arguments c.as_slice-2.result.now c.in-Some.called.now c.as_slice.result.now c.push.new.self c.in_ok-made.made
    (sym c.get.ensures ∙ c.in-Call.is) found.3.0 found.1 c.as_slice.ensures c.as_slice-2.ensures c.in_ok-made.ensures
    c.in_ok-push.ensures.ok
