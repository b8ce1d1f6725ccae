-- The example sites.
use Rattle.model.specs.Hall.{Grid, bare_grid, with_wall}

-- A hall of 3 rows and 6 columns with three walls in its middle row.
abbrev pub walled_hall : Grid
walled_hall = with_wall 10 (with_wall 9 (with_wall 8 (bare_grid 3 6 2 0)))
