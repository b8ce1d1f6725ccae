use Rattle.std.proofs.Common.{◌≡◌, ◌≢◌, true, false}
use Rattle.contact.proofs.Marks.{Pass}
use Rattle.contact.proofs.marking.Marking.spread.Given as goal

abbrev pub invariant-loop-p : goal.invariant-loop-p
invariant-loop-p g l =
    Pass g.S.Site.meaning l.self l.marks l.p-index
    × (l.has_more ≡ false → l.marks ≡ l.self.marks)
    × (l.has_more ≡ true → l.marks ≢ l.self.marks)
