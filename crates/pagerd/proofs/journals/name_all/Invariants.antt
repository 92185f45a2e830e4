use Rattle.std.proofs.Common.{◌≡◌}
use Rattle.pagerd.specs.Journals.{named_from}
use Rattle.pagerd.proofs.journals.name_all.Given as goal

abbrev pub invariant-loop-entries : goal.invariant-loop-entries
invariant-loop-entries l = l.journals ≡ record { version = l.version; list = named_from l.objects l.yielded }
