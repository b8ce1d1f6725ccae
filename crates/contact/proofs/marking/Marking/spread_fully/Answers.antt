use Rattle.contact.proofs.Marks.{rests, round_made, spreads}
use Rattle.contact.proofs.marking.Marking.spread_fully.Goals as goal

pub loop-round-preserved : goal.loop-round-preserved
loop-round-preserved g c =
    let first = c.args.self.now in
    let marking = c.loop-round.self in
    let next = c.spread.new.self in
    spreads g.S.Site.meaning first.site.now first.configuration.now c.loop-round._round marking c.loop-round.invariant (g.met.S.Site.lawful marking.site.now) next
    (round_made g.S.Site.meaning marking next c.spread.result c.spread.ensures)

pub returns-then-not-spread : goal.returns-then-not-spread
returns-then-not-spread g c =
    let first = c.args.self.now in
    let marking = c.loop-round.self in
    let (round, same) = c.if-not-spread.ensures in
    rw same
    (rests g.S.Site.meaning first.site.now first.configuration.now c.loop-round._round marking c.loop-round.invariant (g.met.S.Site.lawful marking.site.now) round)
