use Rattle.mm_frame.proofs.Frames.FrameLaws.{mandatory_unique}
use Rattle.mm_frame.proofs.laws.one_frame.Goals as goal

pub returns : goal.returns
returns c = mandatory_unique
