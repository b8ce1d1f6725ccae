use Rattle.std.proofs.Common.{rules}
use Rattle.contact.proofs.Marks.{none_heard, rests, round_made, spreads, unheard}
use Rattle.contact.proofs.Relays.{relayed_by, not_relayed}
use Rattle.contact.proofs.relay_of.Goals as goal

pub loop-round-init : goal.loop-round-init
loop-round-init g c = (c.new-marking.ensures.first, none_heard g.S.Site.meaning c.args.site.now c.args.configuration.now c.new-marking.result c.new-marking.ensures.first c.in_ok-place.place)

pub returns-then-not-spread : goal.returns-then-not-spread
returns-then-not-spread g c =
    let site = c.args.site.now in
    let configuration = c.args.configuration.now in
    let marking = c.loop-round.marking in
    let rest = rests g.S.Site.meaning site configuration c.loop-round._round marking c.loop-round.invariant.0 (g.met.S.Site.lawful marking.site.now) c.if-not-spread.ensures.0 in
    not_relayed g.S.Site.meaning site configuration c.args.carrier c.in_ok-place.place (search rules) (search rules) marking rest c.loop-round.invariant.1

pub returns-in-Some : goal.returns-in-Some
returns-in-Some g c =
    let site = c.args.site.now in
    let configuration = c.args.configuration.now in
    let k = c.loop-round._round in
    let marking = c.loop-round.marking in
    let next = c.spread.new.self in
    let round = round_made g.S.Site.meaning marking next c.spread.result c.spread.ensures in
    let one_more = spreads g.S.Site.meaning site configuration k marking c.loop-round.invariant.0 (g.met.S.Site.lawful marking.site.now) next round in
    relayed_by g.S.Site.meaning site configuration c.args.carrier c.in_ok-place.place (search rules) (search rules) k marking next
    c.loop-round.invariant.0 c.loop-round.invariant.1 one_more c.in-Some.i c.in-Some.ensures

pub loop-round-preserved : goal.loop-round-preserved
loop-round-preserved g c =
    let marking = c.loop-round.marking in
    let next = c.spread.new.self in
    let round = round_made g.S.Site.meaning marking next c.spread.result c.spread.ensures in (
      spreads g.S.Site.meaning c.args.site.now c.args.configuration.now c.loop-round._round marking c.loop-round.invariant.0 (g.met.S.Site.lawful marking.site.now) next round,
      unheard g.S.Site.meaning next c.in_ok-place.place c.in_default.ensures,
    )

pub returns-after-loop-round : goal.returns-after-loop-round
returns-after-loop-round g c =
    let configuration = c.args.configuration.now in
    not_relayed g.S.Site.meaning c.args.site.now configuration c.args.carrier c.in_ok-place.place (search rules) (search rules) c.loop-round.marking (search rules) c.loop-round.invariant.1
