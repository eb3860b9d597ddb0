-- What holds of all frames.
use Rattle.std.specs.Prelude.{ℕ, ◌≡◌, ◌+◌, ◌≤◌, List, ◌++◌, length}
use Rattle.dap_frames.specs.Frames.{framed, header_of}
use Rattle.dap_frames.specs.Unframing.{Unframes}
use Rattle.dap_frames.specs.declared.body.Unframed.{Unframed}
use Rattle.dap_frames.specs.declared.body.TheConstants.{MOST_BODY}

-- at the beginning of a frame and of anything behind it stands just this frame, with its body
abbrev pub FramesComeBack : Type 0
FramesComeBack =
    (body rest : List ℕ) (unframed : Unframed) → length body ≤ MOST_BODY → Unframes (framed body ++ rest) unframed →
    let start = length (header_of (length body)) in unframed ≡ Unframed.Whole start (start + length body)
