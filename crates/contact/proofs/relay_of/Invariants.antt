use Rattle.std.proofs.Common.{◌≡◌, false}
use Rattle.contact.specs.Marking.{IsAfter, is_heard}
use Rattle.contact.proofs.relay_of.Given as goal

abbrev pub invariant-loop-round : goal.invariant-loop-round
invariant-loop-round g l =
    IsAfter g.S.Site.meaning l.site l.configuration l._round l.marking
    × (is_heard g.S.Site.meaning l.marking l.place ≡ false)
