use Rattle.std.proofs.Common.{◌≡◌, ◌+◌, length, take, sum_by}
use Rattle.up_object.specs.OneCall.{frames_of}
use Rattle.up_core.specs.declared.requests.Request.{Request}
use Rattle.up_core.proofs.listing.most_back.Given as goal

abbrev pub invariant-loop-place : goal.invariant-loop-place
invariant-loop-place l = l.most ≡ sum_by (λ (request : Request). length (frames_of request.frames)) (take l.place l.list) + l.fn.pages
