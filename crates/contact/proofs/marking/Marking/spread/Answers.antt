use Rattle.std.proofs.Common.{refl, arith}
use Rattle.contact.proofs.Marks.{round_of, round_at_rest}
use Rattle.contact.proofs.marking.Marking.spread.Goals as goal

pub returns-then-has_more : goal.returns-then-has_more
returns-then-has_more g c =
    let self = c.args.self.now in
    let (pass, _, grown) = c.loop-p.invariant in
    rw c.if-has_more.true
    (round_of g.S.Site.meaning self (g.met.S.Site.lawful self.site.now) c.loop-p.marks c.loop-p.p-index (omega arith) pass, grown c.if-has_more.true)

pub returns-else-has_more : goal.returns-else-has_more
returns-else-has_more g c =
    let self = c.args.self.now in
    let (pass, still, _) = c.loop-p.invariant in
    rw c.if-has_more.false
    (round_at_rest g.S.Site.meaning self (g.met.S.Site.lawful self.site.now) c.loop-p.marks c.loop-p.p-index (omega arith) pass (still c.if-has_more.false), refl)
