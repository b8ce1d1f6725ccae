use Rattle.std.proofs.Common.{None}
use Rattle.std.proofs.Math.Path.{fun_ext}
use Rattle.model.specs.Limits.{most_places}
use Rattle.model.proofs.Tables.{same_everywhere}
use Rattle.site.proofs.window.Window.new.Goals as goal

pub returns-clause-readings : goal.returns-clause-readings
returns-clause-readings g c = fun_ext (same_everywhere most_places None)
