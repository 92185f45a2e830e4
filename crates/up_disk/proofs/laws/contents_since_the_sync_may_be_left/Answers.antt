use Rattle.up_disk.proofs.Contents.{content_left, left_among}
use Rattle.up_disk.proofs.laws.contents_since_the_sync_may_be_left.Goals as goal

pub returns : goal.returns
returns c start done p content low = (content_left start done p content low, left_among start done p content low)
