use Rattle.cpl_strip.proofs.Listed.{face_strips_agree}
use Rattle.cpl_strip.proofs.laws.face_strips_law.Goals as goal

pub returns : goal.returns
returns c = face_strips_agree
