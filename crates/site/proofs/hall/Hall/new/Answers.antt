use Rattle.std.proofs.Common.{arith}
use Rattle.std.proofs.lemmas.Bool.Decides.{nat_tests}
use Rattle.model.proofs.Tables.{same_everywhere}
use Rattle.site.proofs.hall.Hall.new.Goals as goal

pub returns : goal.returns
returns c = (grind (arith, nat_tests), simp same_everywhere)
