-- The numbers of frames, and of what is unfolded.
use Rattle.std.specs.Prelude.{ℕ, ◌+◌, ◌*◌, ◌^◌}
use Rattle.dap_views.specs.declared.handles.Handle.{Handle}

-- the number of a frame
abbrev pub frame_id : ℕ → ℕ → ℕ
frame_id thread index = thread * 2 ^ 15 + index

-- the number that a handle has
abbrev pub number_of : Handle → ℕ
number_of (Handle.Variables n) = n
number_of (Handle.Channels n) = n
number_of (Handle.Steps n) = n
number_of (Handle.Instance n) = n

-- the number by which it is unfolded
abbrev pub reference : Handle → ℕ
reference (Handle.Variables n) = n * 8 + 1
reference (Handle.Channels n) = n * 8 + 2
reference (Handle.Steps n) = n * 8 + 3
reference (Handle.Instance n) = n * 8 + 4
