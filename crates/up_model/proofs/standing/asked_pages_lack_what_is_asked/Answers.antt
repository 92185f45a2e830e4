use Rattle.up_model.proofs.Asked.{read_asked, dirty_asked, dirty_asked_undirty}
use Rattle.up_model.proofs.standing.asked_pages_lack_what_is_asked.Goals as goal

pub returns-clause-absent : goal.returns-clause-absent
returns-clause-absent c = λ birth h legal p is. (read_asked birth h legal p is).gone

pub returns-clause-within : goal.returns-clause-within
returns-clause-within c = λ birth h legal p is. (read_asked birth h legal p is).low

pub returns-clause-there : goal.returns-clause-there
returns-clause-there c = λ birth h legal p is. (dirty_asked birth h legal p is).here

pub returns-clause-not_dirty : goal.returns-clause-not_dirty
returns-clause-not_dirty c = dirty_asked_undirty
