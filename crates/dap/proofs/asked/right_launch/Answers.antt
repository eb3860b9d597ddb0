use Rattle.std.proofs.Common.{Option, ap, inr, refl, sym, ◌∙◌}
use Rattle.std.specs.Prelude.{String, string_bytes}
use Rattle.std.specs.Option.{option_map}
use Rattle.std.specs.declared.alloc.Global.{Global}
use Rattle.dap.proofs.Refusing.{refused_by}
use Rattle.dap.proofs.asked.right_launch.Goals as goal

pub returns-in-Ok-None : goal.returns-in-Ok-None
returns-in-Ok-None c =
    inr (
      108,
      refused_by c.args.answer.now c.refuse.new.self c.refuse.new.self 108 108 _ refl c.refuse.ensures.says refl,
      inr (
        refl,
        sym c.in-Ok-None.ensures ∙ ap (λ (o : Option (String Global)). option_map (λ p. string_bytes p) o) c.in-Ok-None.field-0-is,
      ),
    )
