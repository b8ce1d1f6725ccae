use Rattle.std.proofs.Common.{◌≡◌, fold, take}
use Rattle.model.specs.Hall.{bare_grid, with_wall}
use Rattle.site.specs.Halls.{grid}
use Rattle.inspect.proofs.examples.hall.Given as goal

abbrev pub invariant-loop-wall : goal.invariant-loop-wall
invariant-loop-wall l = grid l.hall ≡ fold (λ g p. with_wall p g) (bare_grid 3 6 2 0) (take l.wall-index l.wall-items)
