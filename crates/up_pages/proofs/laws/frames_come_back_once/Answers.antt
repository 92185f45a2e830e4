use Rattle.up_pages.proofs.FramesOfPages.{stood, comes_back, as_many}
use Rattle.up_pages.proofs.laws.frames_come_back_once.Goals as goal

pub returns-clause-stood : goal.returns-clause-stood
returns-clause-stood c = stood

pub returns-clause-all : goal.returns-clause-all
returns-clause-all c = comes_back

pub returns-clause-many : goal.returns-clause-many
returns-clause-many c = as_many
