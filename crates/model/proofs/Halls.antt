-- Halls are lawful, and their moves and contacts are those of a grid.
use Rattle.std.proofs.Common.{◌≡◌, ℕ, ◌+◌, ◌*◌, ◌<◌, ◌≤◌, true, ◌&&◌, nat_le, ◌↔◌, arith}
use Rattle.std.proofs.lemmas.Nat.{div-mul-add, mod-mul-add, div-add-mod', mul-add-lt}
use Rattle.std.proofs.lemmas.Bool.Decides.{nat_tests}
use Rattle.model.specs.Limits.{most_places}
use Rattle.model.specs.Site.{Lawful}
use Rattle.model.specs.Hall.{Grid, cells, cell, row_of, column_of, apart, hall_site, HallsAreSites}

module _ (g : Grid) where
  hall_lawful : cells g ≤ most_places → g.base < cells g → Lawful (hall_site g)
  hall_lawful few is_place = grind (arith, nat_tests)

  -- Rows and columns.

  rows_and_columns : (r c : ℕ) → c < g.columns → (row_of g (cell g r c) ≡ r) × (column_of g (cell g r c) ≡ c)
  rows_and_columns r c h = (div-mul-add r g.columns c h, mod-mul-add r g.columns c h)

  places_are_cells : (p : ℕ) → cell g (row_of g p) (column_of g p) ≡ p
  places_are_cells p = div-add-mod' p g.columns

  cell_inside : (r c : ℕ) → r < g.rows → c < g.columns → cell g r c < cells g
  cell_inside r c hr hc = omega (arith, mul-add-lt r g.columns c g.rows hr hc)

  module _ (r c s d : ℕ) (hr : r < g.rows) (hc : c < g.columns) (hs : s < g.rows) (hd : d < g.columns) where
    move_is : (hall_site g).has_move (cell g r c) (cell g s d) ≡ (nat_le (apart r s) 1 && nat_le (apart c d) 1)
    move_is = grind (arith, nat_tests, rows_and_columns r c hc, rows_and_columns s d hd, cell_inside r c hr hc, cell_inside s d hs hd)

    moves_to_neighbours : ((hall_site g).has_move (cell g r c) (cell g s d) ≡ true) ↔ ((apart r s ≤ 1) × (apart c d ≤ 1))
    moves_to_neighbours = grind (arith, nat_tests, move_is)

    contact_within_radius : ((hall_site g).in_contact (cell g r c) (cell g s d) ≡ true) ↔ (apart r s * apart r s + apart c d * apart c d ≤ g.radius * g.radius)
    contact_within_radius = grind (arith, nat_tests, rows_and_columns r c hc, rows_and_columns s d hd, cell_inside r c hr hc, cell_inside s d hs hd)

pub halls_are_sites : HallsAreSites
halls_are_sites = record {
  lawful = hall_lawful;
  rows_and_columns = rows_and_columns;
  places_are_cells = places_are_cells;
  moves_to_neighbours = moves_to_neighbours;
  contact_within_radius = contact_within_radius;
}
