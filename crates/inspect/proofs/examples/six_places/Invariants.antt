use Rattle.std.proofs.Common.{◌≡◌, [], fold, take}
use Rattle.model.specs.PairSite.{bare_network, with_move, with_contact}
use Rattle.model.specs.Examples.{network_with}
use Rattle.site.specs.PairSites.{network}
use Rattle.inspect.proofs.examples.six_places.Given as goal

-- The moves so far are listed, and then, besides all moves, the contacts so far.
abbrev pub invariant-loop-from : goal.invariant-loop-from
invariant-loop-from l = network l.site ≡ fold (λ w m. with_move m.0 m.1 w) (bare_network 6 0) (take l.from-index l.from-items)

abbrev pub invariant-loop-p : goal.invariant-loop-p
invariant-loop-p l = network l.site ≡ fold (λ w c. with_contact c.0 c.1 w) (network_with []) (take l.p-index l.p-items)
