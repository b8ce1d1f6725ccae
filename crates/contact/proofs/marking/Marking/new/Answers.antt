use Rattle.std.proofs.Common.{false, refl}
use Rattle.model.specs.Limits.{most_places}
use Rattle.model.proofs.Tables.{same_everywhere}
use Rattle.contact.proofs.Marks.{none_marked}
use Rattle.contact.proofs.marking.Marking.new.Goals as goal

pub returns-clause-first : goal.returns-clause-first
returns-clause-first g c = record { site_is = refl; configuration_is = refl; marked = none_marked c.args.configuration.now }

pub returns-clause-unmarked : goal.returns-clause-unmarked
returns-clause-unmarked g c = same_everywhere most_places false
