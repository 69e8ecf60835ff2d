-- An accepted frame and a tick before its end have what `window_of` asks of them.
use Rattle.std.proofs.Common.{sym}
use Rattle.major_frame.proofs.FrameLaws.{accepted_inv}
use Rattle.major_frame.proofs.MajorFrame.find.Goals as goal

pub window_of-requires-clause-frame_inv : goal.window_of-requires-clause-frame_inv
window_of-requires-clause-frame_inv c = accepted_inv c.args.self (sym c.in_ok-check.ensures)

pub window_of-requires-clause-t_bound : goal.window_of-requires-clause-t_bound
window_of-requires-clause-t_bound c = c.if-t-self.false
