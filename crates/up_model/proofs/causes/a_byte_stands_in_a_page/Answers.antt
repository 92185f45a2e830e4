use Rattle.up_model.proofs.Presence.{bytes_stand, pages_within}
use Rattle.up_model.proofs.causes.a_byte_stands_in_a_page.Goals as goal

pub returns-clause-bytes : goal.returns-clause-bytes
returns-clause-bytes c = bytes_stand

pub returns-clause-pages : goal.returns-clause-pages
returns-clause-pages c = pages_within
