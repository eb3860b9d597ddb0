use Rattle.picture_text.specs.declared.page_before.TheConstants.{BEFORE}
use Rattle.picture_text.specs.declared.page_drawing.TheConstants.{DRAWING}
use Rattle.picture_text.specs.declared.page_panel.TheConstants.{PANEL}
use Rattle.picture_text.specs.PageText.{script_text}
use Rattle.picture_text.proofs.PageParts.{of-parts}
use Rattle.picture_text.proofs.page.page_text.Goals as goal

pub returns : goal.returns
returns c =
    of-parts c.new-made.result.items c.extend_from_slice.new.self.items c.add_script.new.made.items
    c.extend_from_slice-2.new.self.items c.extend_from_slice-3.new.self.items c.as_bytes.result.now c.as_bytes-2.result.now
    c.as_bytes-3.result.now BEFORE.now (script_text c.args.json.now) DRAWING.now PANEL.now c.new-made.ensures.items
    c.as_bytes.ensures.value c.as_bytes-2.ensures.value c.as_bytes-3.ensures.value c.in_ok-extend_from_slice.ensures.items
    c.in_ok-add_script.ensures c.in_ok-extend_from_slice-2.ensures.items c.in_ok-extend_from_slice-3.ensures.items
