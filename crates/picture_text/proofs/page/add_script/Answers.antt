use Rattle.std.specs.Prelude.{codes}
use Rattle.std.proofs.lemmas.Result.{on_ok_weaker}
use Rattle.picture_text.proofs.PageParts.{behind-parts}
use Rattle.picture_text.proofs.page.add_script.Goals as goal

pub returns : goal.returns
returns c =
    on_ok_weaker c.add_words-2.result
    (λ ended. behind-parts c.args.made.now.items c.add_words.new.out.items c.extend_from_slice.new.self.items c.add_words-2.new.out.items
    (codes "<script id=\"run\" type=\"application/json\">") c.args.json.now (codes "</script>") c.in_ok-add_words.ensures
    c.in_ok-extend_from_slice.ensures.items ended)
    c.add_words-2.ensures
