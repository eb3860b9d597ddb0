use Rattle.std.proofs.Common.{◌≡◌, ◌∙◌, ℕ, sym, ap, subst}
use Rattle.runs.specs.Live.{LiveAt}
use Rattle.runs.specs.declared.event.Event.{Event}
use Rattle.runs.proofs.public.Options.{some-injective}
use Rattle.dependence.proofs.public.ListPlaces.{in-at}
use Rattle.run_depths.proofs.RaceLaws.{no-race}
use Rattle.run_depths.proofs.races.race_with.Goals as goal

pub returns-in-None : goal.returns-in-None
returns-in-None c = λ e here v.
    let rising = c.is_sound.ensures.rising in
    let found = c.in-Some.ensures in
    let same : found.0 ≡ c.in-Some-pair_at.earlier.now =
    ap (λ (y : ℕ × Event). y.1) (some-injective _ _ (sym found.1 ∙ c.in-Some-pair_at.ensures)) in
    let live : LiveAt c.args.live.now.live c.args.lead c.in-Some-pair_at.earlier.now =
    subst (λ (d : Event). LiveAt c.args.live.now.live c.args.lead d) same
    (in-at c.args.live.now.live c.in-Some.cause (c.args.lead, found.0) found.1) in
    no-race 0 rising.0 c.args.live.now.live c.args.lead c.args.ticket c.in-Some-pair_at.earlier.now e c.args.event.now rising.1 live
    (in-at c.args.live.now.live c.args.index (c.args.ticket, c.args.event.now) c.requires.stands) c.in-None.ensures here v
