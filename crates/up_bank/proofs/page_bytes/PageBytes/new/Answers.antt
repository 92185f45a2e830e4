use Rattle.up_bank.specs.Bytes.{zero_bytes}
use Rattle.up_bank.proofs.page_bytes.PageBytes.new.Goals as goal

pub returns : goal.returns
unfolding zero_bytes
returns c = c.in_ok-bytes.ensures.ok
