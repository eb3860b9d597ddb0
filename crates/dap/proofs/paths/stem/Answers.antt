use Rattle.std.proofs.Common.{◌-◌, Bool, codes, false, if◌then◌else◌, length, take, ap}
use Rattle.std.proofs.lemmas.Str.Pattern.{ends_text}
use Rattle.dap.proofs.paths.stem.Goals as goal

pub returns-in-None : goal.returns-in-None
returns-in-None c =
    let program = c.args.program.now in
    ap (λ (b : Bool). if b then take (length program - 6) program else program)
    (ends_text false (codes ".balsa") program c.in-None.ensures.cases)
