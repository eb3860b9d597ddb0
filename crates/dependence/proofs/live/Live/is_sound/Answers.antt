use Rattle.std.proofs.Common.{subst}
use Rattle.dependence.specs.Shown.{Shown, IsSound}
use Rattle.dependence.proofs.public.Markings.{all-sound}
use Rattle.dependence.proofs.live.Live.is_sound.Goals as goal

pub returns : goal.returns
returns c =
    subst (λ (s : Shown). IsSound s) c.self.view_is (all-sound c.self.inside.list.live c.self.inside.marks.items c.self.invariant.0.rising)
