use Rattle.up_model.proofs.RefusalCauses.{refused_range, refused_detached, refused_pager, refused_frames}
use Rattle.up_model.proofs.causes.a_refused_access_has_its_cause.Goals as goal

pub returns-clause-range : goal.returns-clause-range
returns-clause-range c = refused_range

pub returns-clause-detached : goal.returns-clause-detached
returns-clause-detached c = refused_detached

pub returns-clause-pager : goal.returns-clause-pager
returns-clause-pager c = refused_pager

pub returns-clause-no_frames : goal.returns-clause-no_frames
returns-clause-no_frames c = refused_frames
