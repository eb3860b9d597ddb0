use Rattle.std.proofs.Common.{◌∙◌, ℕ, List, sym, subst}
use Rattle.std.specs.List.{All}
use Rattle.json_text.specs.Strings.{IsPlain}
use Rattle.json_text.proofs.Plain.{plain-decimal}
use Rattle.json_text.proofs.writer.Json.number.Goals as goal

pub value-requires : goal.value-requires
value-requires c =
    subst (λ (bs : List ℕ). All IsPlain bs) (sym (c.as_bytes.ensures.value ∙ c.format-digits.ensures.text))
    (plain-decimal c.args.number c.ranges.number.fits)
