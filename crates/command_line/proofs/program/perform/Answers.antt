use Rattle.std.proofs.Common.{refl}
use Rattle.command_line.proofs.program.perform.Goals as goal

pub returns-in-Debug : goal.returns-in-Debug
returns-in-Debug g c = rw c.in-Debug.is c.debug_files.ensures

pub returns-in-Shell : goal.returns-in-Shell
returns-in-Shell g c = rw c.in-Shell.is c.shell_files.ensures

pub returns-in-Check : goal.returns-in-Check
returns-in-Check g c = rw c.in-Check.is (refl, c.check.ensures)

pub returns-in-Replay : goal.returns-in-Replay
returns-in-Replay g c = rw c.in-Replay.is (refl, c.replay_files.ensures)

pub returns-in-Work : goal.returns-in-Work
returns-in-Work g c = rw c.in-Work.is (refl, c.work_files.ensures)

pub returns-in-Explain : goal.returns-in-Explain
returns-in-Explain g c = rw c.in-Explain.is (refl, c.show_page.ensures)

pub returns-in-Dap : goal.returns-in-Dap
returns-in-Dap g c = rw c.in-Dap.is (refl, c.serve_editor.ensures)

pub returns-in-Outline : goal.returns-in-Outline
returns-in-Outline g c = rw c.in-Outline.is (refl, c.outline_file.ensures)

pub returns-in-Waiting : goal.returns-in-Waiting
returns-in-Waiting g c = rw c.in-Waiting.is (refl, c.waiting_files.ensures)

pub returns-in-Why : goal.returns-in-Why
returns-in-Why g c = rw c.in-Why.is (refl, c.why_files.ensures)

pub returns-in-Picture : goal.returns-in-Picture
returns-in-Picture g c = rw c.in-Picture.is (refl, c.picture_files.ensures)
