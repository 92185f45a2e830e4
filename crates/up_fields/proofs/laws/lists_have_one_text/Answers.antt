use Rattle.up_fields.proofs.OneText.{tickets_back, tickets_only, pages_back, pages_only, runs_back, runs_only}
use Rattle.up_fields.proofs.laws.lists_have_one_text.Goals as goal

pub returns : goal.returns
returns c = record { tickets = tickets_back; only_tickets = tickets_only; pages = pages_back; only_pages = pages_only; runs = runs_back; only_runs = runs_only }
