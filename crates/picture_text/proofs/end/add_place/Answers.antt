use Rattle.std.proofs.Common.{◌∙◌}
use Rattle.std.proofs.lemmas.Result.{on_ok_weaker}
use Rattle.address.specs.Text.{text_of}
use Rattle.picture_text.specs.DataText.{flag, role_text}
use Rattle.picture_text.proofs.Rows.{place-told}
use Rattle.picture_text.proofs.end.add_place.Goals as goal

pub returns : goal.returns
returns c =
    on_ok_weaker c.close_list.result
    (λ is. place-told c.args.json.now c.open_list.new.self c.items.new.self c.add_wanted.new.json c.number.new.self c.close_list.new.self
    c.optional.result c.args.place.now.lane c.as_slice.result.now (text_of c.args.place.now.place) c.as_bytes.result.now
    (role_text c.args.place.now.role) c.args.place.now.line c.flag.result (flag c.args.place.now.is_ready) c.as_slice-2.result.now
    c.args.place.now.wanted.items c.optional.ensures (c.as_slice.ensures.value ∙ c.in_ok-write_place.ensures)
    (c.as_bytes.ensures.value ∙ c.role_text.ensures) c.as_slice-2.ensures.value c.flag.ensures c.in_ok-open_list.ensures
    c.in_ok-items.ensures c.in_ok-add_wanted.ensures c.in_ok-number.ensures is)
    c.close_list.ensures
