use Rattle.std.proofs.Common.{ap}
use Rattle.allowed_events.specs.internal.Meeting.{solo}
use Rattle.allowed_events.proofs.ActedActions.{receives-on, opens-on, closes-on, syncs-on}
use Rattle.allowed_events.proofs.acting_events.channel_of.Goals as goal

pub returns-in-Receives : goal.returns-in-Receives
returns-in-Receives c = record {
  looks = receives-on c.args.action.now c.in-Receives.channel _ c.in-Receives.is;
  never_alone = λ a. ap (solo a) c.in-Receives.is;
}

pub returns-in-Opens : goal.returns-in-Opens
returns-in-Opens c = record {
  looks = opens-on c.args.action.now c.in-Opens.channel _ c.in-Opens.is;
  never_alone = λ a. ap (solo a) c.in-Opens.is;
}

pub returns-in-Closes : goal.returns-in-Closes
returns-in-Closes c = record {
  looks = closes-on c.args.action.now c.in-Closes.channel c.in-Closes.is;
  never_alone = λ a. ap (solo a) c.in-Closes.is;
}

pub returns-in-Syncs : goal.returns-in-Syncs
returns-in-Syncs c = record {
  looks = syncs-on c.args.action.now c.in-Syncs.channel c.in-Syncs.is;
  never_alone = λ a. ap (solo a) c.in-Syncs.is;
}
