use Rattle.std.proofs.Common.{arith}
use Rattle.std.proofs.Math.Path.{fun_ext}
use Rattle.site.proofs.PairTables.{one_more}
use Rattle.site.proofs.pair_site.PairTable.add.Goals as goal

pub returns-clause-after : goal.returns-clause-after
returns-clause-after c =
    fun_ext (λ a. fun_ext (one_more c.args.self.now _ _ _ _ c.min.ensures c.max.ensures (omega arith) (omega arith) a))
