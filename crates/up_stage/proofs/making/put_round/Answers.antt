use Rattle.up_stage.specs.Rounds.{page_in, supplies, accesses}
use Rattle.up_stage.proofs.GeneratedRounds.{put_two, short_round, long_round, on_ok}
use Rattle.up_stage.proofs.making.put_round.Goals as goal

pub returns-then-round-eq0 : goal.returns-then-round-eq0
returns-then-round-eq0 c =
    let two = put_two _ _ _ (supplies (page_in c.args.number)) (accesses c.args.number c.args.round) _ _ c.in_ok-supply_page.ensures c.in_ok-access_page.ensures c.in_ok-put_line.ensures c.in_ok-put_line-2.ensures in
    on_ok c.put_writeback.result (λ more. long_round _ _ _ c.args.number c.args.round two more c.if-round-eq0.true) c.put_writeback.ensures

pub returns : goal.returns
returns c =
    let two = put_two _ _ _ (supplies (page_in c.args.number)) (accesses c.args.number c.args.round) _ _ c.in_ok-supply_page.ensures c.in_ok-access_page.ensures c.in_ok-put_line.ensures c.in_ok-put_line-2.ensures in
    short_round _ _ c.args.number c.args.round two c.if-round-eq0.false
