use Rattle.up_disk.proofs.laws.other_calls_add_no_content.Goals as goal

pub returns : goal.returns
returns g c old new adds since p content low left = (left.0, adds since left.0 low left.1, left.2)
