-- A call that is given the frames that it brought is that call, and only the last word on its frames counts.
use Rattle.std.proofs.Common.{◌≡◌, refl}
use Rattle.up_model.specs.Bringing.{brought_by, bringing}
use Rattle.up_model.specs.declared.entry.Brought.{Brought}
use Rattle.up_model.specs.declared.entry.Call.{Call}
use Rattle.up_model.specs.declared.entry.Call.TheVariants as calls

pub own_brought : (call : Call) → bringing (brought_by call) call ≡ call
own_brought (calls.Read piece last brought) = refl
own_brought _ = refl

pub bringing_again : (b c : Brought) (call : Call) → bringing b (bringing c call) ≡ bringing b call
bringing_again b c (calls.Read piece last old) = refl
bringing_again b c _ = refl
