use Rattle.std.proofs.Common.{◌≡◌, ◌+◌, ◌<◌, ◌^◌, ◌&&◌, nat_lt, true, false, sym}
use Rattle.std.proofs.Common.{◌∙◌, arith, rules}
use Rattle.up_span.specs.Runs.{run_of}
use Rattle.up_claims.specs.Sited.{goes_with}
use Rattle.up_site.specs.Sought.{among_of}
use Rattle.up_site.proofs.Looked.{run_first, run_last, run_on, run_stops, run_free}
use Rattle.up_site.proofs.imaged.Imaged.run_from.Goals as goal

pub loop-count-init : goal.loop-count-init
loop-count-init g c =
    let h = c.requires.free in (
      omega arith,
      omega arith,
      c.requires.small,
      run_first c.args.self.now.whole.birth c.args.self.now.whole.journal (among_of c.args.among.now)
          c.args.first h,
    )

pub returns-clause-count : goal.returns-clause-count
returns-clause-count g c =
    let stops : c.runs_on.result ≡ false = search rules in
    run_last (goes_with c.args.self.now.whole.birth c.args.self.now.whole.journal (among_of
    c.args.among.now) c.args.first) c.args.first c.loop-count.count c.loop-count.invariant.1
    (λ low. run_stops c.loop-count.count _ low (sym c.runs_on.ensures.value ∙ stops)) c.loop-count.invariant.3

pub returns-clause-all : goal.returns-clause-all
returns-clause-all g c = run_free c.args.self.now.whole.birth c.args.self.now.whole.journal (among_of
    c.args.among.now) c.args.first c.loop-count.count (returns-clause-count g c)

pub loop-count-preserved : goal.loop-count-preserved
loop-count-preserved g c =
    let both : (nat_lt c.loop-count.count 8 && goes_with c.args.self.now.whole.birth
    c.args.self.now.whole.journal (among_of c.args.among.now) c.args.first (c.args.first +
    c.loop-count.count)) ≡ true = search rules in
    let small : c.args.first + (c.loop-count.count + 1) < 2 ^ 32 = search rules in
    let next = run_on (goes_with c.args.self.now.whole.birth c.args.self.now.whole.journal (among_of
    c.args.among.now) c.args.first) c.args.first c.loop-count.count
    (run_of (goes_with c.args.self.now.whole.birth c.args.self.now.whole.journal (among_of
    c.args.among.now) c.args.first) c.args.first 8) both c.loop-count.invariant.3 in
    (omega arith, next.0, small, next.1)
