use Rattle.contact.specs.Marking.{IsAfter}
use Rattle.contact.proofs.marking.Marking.spread_fully.Given as goal

abbrev pub invariant-loop-round : goal.invariant-loop-round
invariant-loop-round g l = IsAfter g.S.Site.meaning l.initial.self.site.now l.initial.self.configuration.now l._round l.self
