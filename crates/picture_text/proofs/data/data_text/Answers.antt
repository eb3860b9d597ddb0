use Rattle.std.proofs.Common.{◌∙◌}
use Rattle.picture_text.specs.DataText.{head_members, run_members, system_members}
use Rattle.picture_text.proofs.Rows.{object-text}
use Rattle.picture_text.proofs.data.data_text.Goals as goal

pub returns-clause-text : goal.returns-clause-text
returns-clause-text c =
    c.into_bytes.ensures.text
    ∙ object-text c.new-json.result c.open_object.new.self c.add_head.new.json c.add_system.new.json c.add_run.new.json
    c.close_object.new.self
    (head_members c.args.names.file.now c.args.names.stimulus.now c.args.names.trace.now c.args.source.now)
    (system_members c.args.machine.now.checked c.args.picture.now)
    (run_members c.args.machine.now.checked c.args.machine.now.live c.args.picture.now) c.new-json.ensures
    c.in_ok-open_object.ensures c.in_ok-add_head.ensures c.in_ok-add_system.ensures c.in_ok-add_run.ensures
    c.in_ok-close_object.ensures
