use Rattle.std.proofs.Common.{ℕ, ◌++◌, ◌∙◌, Option, ap, map, sym}
use Rattle.picture_data.specs.Spots.{on_channel, want_of}
use Rattle.picture_data.proofs.SpotLaws.{wants-more}
use Rattle.picture_data.proofs.places.add_channel.Goals as goal

pub returns-in_ok-push-in-Some : goal.returns-in_ok-push-in-Some
returns-in_ok-push-in-Some c =
    wants-more c.args.wanted.now.items c.push.new.self.items c.wanted_on-made.result _ c.wanted_on-made.ensures c.in_ok-push-in-Some.ensures.items
    ∙ ap (λ (o : Option ℕ). map want_of c.args.wanted.now.items ++ on_channel o) (sym c.in-Some.is)
