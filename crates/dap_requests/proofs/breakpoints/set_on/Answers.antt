use Rattle.std.proofs.Common.{◌≡◌, ap, false, inl, inr, length, refl, true}
use Rattle.dap_views.specs.declared.program.Program.{Program}
use Rattle.dap_requests.proofs.Listing.{lists_kept}
use Rattle.dap_requests.proofs.Moving.{tells_moved}
use Rattle.dap_requests.proofs.Placed.{places_anew}
use Rattle.dap_requests.proofs.breakpoints.set_on.Goals as goal

pub returns-in-Some-clause-sets : goal.returns-in-Some-clause-sets
returns-in-Some-clause-sets c =
    let set = c.keep_on.ensures.set in
    inl (
      places_anew c.args.own c.args.machine.now.checked.main c.args.lines.now (length c.args.lines.now) c.args.program.now c.keep_on.new.program
          c.in-Some.placing refl c.in-Some.ensures.0 set,
      lists_kept c.args.program.now.counting.lines c.in-Some.placing c.keep_on.new.program c.keep_on.new.answer c.in-Some.ensures.1
          (ap (λ (x : Program). x.asked) set) c.keep_on.ensures.told,
    )

pub returns-in-Some-clause-tells : goal.returns-in-Some-clause-tells
returns-in-Some-clause-tells c =
    tells_moved c.args.answer.now c.keep_on.new.answer c.in-Some.placing c.keep_on.new.program c.in-Some.ensures.2
    (ap (λ (x : Program). x.asked) c.keep_on.ensures.set) c.keep_on.ensures.tells

pub returns-in-None-clause-sets : goal.returns-in-None-clause-sets
returns-in-None-clause-sets c = inr (refl, refl)

pub returns-in-None-clause-tells : goal.returns-in-None-clause-tells
returns-in-None-clause-tells c = λ full. let no : true ≡ false = full in absurd (cc)
