use Rattle.std.proofs.Common.{refl}
use Rattle.dap_moves.specs.declared.taken_back.Rewound.{Rewound}
use Rattle.dap_requests.proofs.Forward.{tells_rewound}
use Rattle.dap_requests.proofs.backward.tell_rewound.Goals as goal

pub returns-in-AtBeginning : goal.returns-in-AtBeginning
returns-in-AtBeginning c =
    tells_rewound c.args.answer.now c.stop.new.answer c.args.branch c.args.branch Rewound.AtBeginning c.args.ended c.in-AtBeginning.is refl c.stop.ensures

pub returns-in-AtLine : goal.returns-in-AtLine
returns-in-AtLine c =
    tells_rewound c.args.answer.now c.stop_at_line.new.answer c.args.branch c.in-AtLine.action (Rewound.AtLine c.in-AtLine.action c.in-AtLine.line)
    c.args.ended c.in-AtLine.is refl c.stop_at_line.ensures

pub returns-in-Watched : goal.returns-in-Watched
returns-in-Watched c =
    tells_rewound c.args.answer.now c.stop_before.new.answer c.args.branch c.in-Watched.branch
    (Rewound.Watched c.in-Watched.branch c.in-Watched.ticket) c.args.ended c.in-Watched.is refl c.stop_before.ensures
