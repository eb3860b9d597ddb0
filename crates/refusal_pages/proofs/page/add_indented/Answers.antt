use Rattle.std.proofs.Common.{◌++◌, ℕ, List, Bor, ◌∙◌, codes, string_bytes}
use Rattle.std.proofs.lemmas.Iterator.Consumers.{YieldsList-end}
use Rattle.std.proofs.lemmas.Iterator.Splits.{YieldsList-from_lines}
use Rattle.std.proofs.lemmas.List.{flat_map_more}
use Rattle.std.specs.Prelude.{flat_map}
use Rattle.refusal_pages.specs.PageText.{indented_line}
use Rattle.refusal_pages.proofs.PageLemmas.{all-added, then-added, three-added}
use Rattle.refusal_pages.proofs.page.add_indented.Goals as goal

pub loop-line-preserved : goal.loop-line-preserved
loop-line-preserved c =
    let was : List ℕ = string_bytes c.args.text.now in
    let f = λ (line : Bor (List ℕ)). indented_line line.now in
    let now : List ℕ = was ++ flat_map f c.loop-line.yielded in
    let one = then-added _ _ now (codes "    ") c.loop-line.invariant c.in_ok-push_str.ensures.bytes in
    let two = then-added _ _ (now ++ codes "    ") c.in-Some.line.now one c.in_ok-push_str-2.ensures.bytes in
    let three =
    then-added _ _ (now ++ codes "    " ++ c.in-Some.line.now) (codes "\n") two c.in_ok-push_str-3.ensures.bytes in
    three ∙ three-added now (codes "    ") c.in-Some.line.now (codes "\n")
    ∙ flat_map_more f was c.loop-line.yielded c.in-Some.line

pub returns : goal.returns
returns c =
    c.loop-line.invariant
    ∙ all-added (string_bytes c.args.text.now) c.args.shown.now c.loop-line.yielded
    (YieldsList-end (YieldsList-from_lines {s = c.into_iter-line-iterator.result} c.args.shown.now (cc)) c.loop-line.yielded _
    c.loop-line.yielded_by _ _ c.in-None.is c.next.ensures.steps).0
