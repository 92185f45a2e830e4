use Rattle.std.proofs.Common.{◌≡◌}
use Rattle.up_evictor.proofs.PassSteps.{Asked}
use Rattle.up_evictor.proofs.passes.pass.Given as goal

-- the objects so far were asked, and the herd is the same one
abbrev pub invariant-loop-object : goal.invariant-loop-object
invariant-loop-object g l = record {
  asked : Asked l.want l.left l.limit (g.H.Herd.size l.fn.herd) l.object (g.H.Herd.reclaims l.fn.herd) (g.H.Herd.reclaims l.herd);
  size : g.H.Herd.size l.herd ≡ g.H.Herd.size l.fn.herd;
  origin : g.H.Herd.origin l.herd ≡ g.H.Herd.origin l.fn.herd;
}
