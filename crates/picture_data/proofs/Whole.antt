-- The whole picture.
use Rattle.std.proofs.Common.{◌≡◌, ◌∙◌, ℕ, List, [], ap, subst, sym}
use Rattle.system.specs.declared.system.System.{System}
use Rattle.types.specs.declared.tree.Procedure.{Procedure}
use Rattle.machine.specs.AtMachine.{AtMachine}
use Rattle.picture_lanes.specs.Ground.{IsGround, found_in, lanes_of, uses_of, with_feeds}
use Rattle.picture_lanes.specs.declared.ground.Ground.{Ground}
use Rattle.picture_lanes.specs.declared.lane.Lane.{Lane}
use Rattle.picture_lanes.specs.declared.walk.ChannelUse.{ChannelUse}
use Rattle.picture_data.specs.Shown.{Shows, ShowsEnd, ShowsSteps}
use Rattle.picture_data.specs.declared.picture.Picture.{Picture}

pub shows_all : (m : AtMachine) (procedures : List Procedure) (system : System) (g : Ground) (picture : Picture) (uses : List ChannelUse) (depths : List ℕ) →
    system ≡ m.checked → IsGround procedures system g → picture.instances.items ≡ g.instances → picture.lanes.items ≡ g.table →
    picture.feeds.items ≡ g.feeds → uses ≡ g.uses → depths ≡ picture.steps.depths.items → ShowsSteps m g.table picture.steps →
    ShowsEnd m g.table uses depths picture.end → Shows m procedures picture
shows_all m procedures system g picture uses depths is ground instances lanes feeds used deep steps end = record {
  instances = instances ∙ ground.instances ∙ ap (λ (s : System). (found_in procedures s).instances) is;
  lanes = lanes ∙ ground.lanes ∙ ap (lanes_of procedures) is;
  feeds =
      feeds
      ∙ ground.feeds
      ∙ ap (λ (ls : List Lane). with_feeds ls 0 system.environment []) (sym lanes)
      ∙ ap (λ (s : System). with_feeds picture.lanes.items 0 s.environment []) is;
  steps = subst (λ (ls : List Lane). ShowsSteps m ls picture.steps) (sym lanes) steps;
  end =
      subst (λ (ls : List Lane). ShowsEnd m ls (uses_of procedures m.checked) picture.steps.depths.items picture.end) (sym lanes)
      (subst (λ (us : List ChannelUse). ShowsEnd m g.table us picture.steps.depths.items picture.end)
      (used ∙ ground.uses ∙ ap (uses_of procedures) is)
      (subst (λ (ds : List ℕ). ShowsEnd m g.table uses ds picture.end) deep end));
}
