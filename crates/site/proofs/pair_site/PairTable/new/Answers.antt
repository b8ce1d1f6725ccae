use Rattle.std.proofs.Math.Path.{fun_ext}
use Rattle.model.specs.Limits.{most_places}
use Rattle.site.proofs.PairTables.{none_marked}
use Rattle.site.proofs.pair_site.PairTable.new.Goals as goal

pub returns : goal.returns
returns c = fun_ext (λ p. fun_ext (none_marked most_places p))
