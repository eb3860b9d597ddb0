use Rattle.std.proofs.Common.{◌∙◌, ◌<◌, ℕ, List, [], ◌∷◌, length, ap, arith}
use Rattle.std.proofs.lemmas.Bool.Decides.{nat_tests}
use Rattle.std.proofs.lemmas.Result.{on_ok_weaker}
use Rattle.json_text.specs.Values.{with_value}
use Rattle.picture_text.specs.DataText.{numbers_text}
use Rattle.picture_text.proofs.Rows.{listed, rings-some}
use Rattle.picture_text.proofs.end.add_rings.Goals as goal

pub returns : goal.returns
returns c =
    let more : 0 < length c.args.ring.now = grind (arith, nat_tests) in
    on_ok_weaker c.close_list.result
    (λ is. listed c.args.json.now c.open_list.new.self c.add_indexes.new.json c.close_list.new.self (numbers_text c.args.ring.now ∷ [])
    c.in_ok-open_list.ensures c.in_ok-add_indexes.ensures is
    ∙ ap (λ (t : List ℕ). with_value c.args.json.now t) (rings-some c.args.ring.now more))
    c.close_list.ensures
