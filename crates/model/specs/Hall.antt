-- Halls: grids of cells with walls, in which carriers step to neighbouring cells and hear each other within a radius.
use Rattle.std.specs.Prelude.{◌≡◌, ℕ, ◌+◌, ◌-◌, ◌*◌, ◌/◌, ◌%◌, ◌<◌, ◌≤◌, Bool, true, false, if◌then◌else◌, not, ◌&&◌, ◌↔◌, Ok, Err, Result, nat_le, nat_lt}
use Rattle.model.specs.declared.refusal.Refusal.{Refusal}
use Rattle.model.specs.declared.refusal.Refusal.TheVariants.{NumberOutOfRange, GivenTwice}
use Rattle.model.specs.Limits.{most_places, most_rows, most_columns, most_radius}
use Rattle.model.specs.Site.{Site, Lawful, at_place}

-- A grid: how many rows and columns it has, how far carriers hear each other, which place is the base, and which are walls.
pub record Grid : Type 0 where
  pub rows : ℕ
  pub columns : ℕ
  pub radius : ℕ
  pub base : ℕ
  pub is_wall : ℕ → Bool

-- How many cells there are, and so places.
abbrev pub cells : Grid → ℕ
cells g = g.rows * g.columns

-- The cell of row r and column c, both from 0, is place r × columns + c.
abbrev pub cell : Grid → ℕ → ℕ → ℕ
cell g r c = r * g.columns + c

-- The row and the column of a place.
abbrev pub row_of : Grid → ℕ → ℕ
row_of g p = p / g.columns

abbrev pub column_of : Grid → ℕ → ℕ
column_of g p = p % g.columns

-- How far two numbers are apart.
abbrev pub apart : ℕ → ℕ → ℕ
apart a b = (a - b) + (b - a)

-- How many rows and how many columns two places are apart.
abbrev pub rows_apart : Grid → ℕ → ℕ → ℕ
rows_apart g p q = apart (row_of g p) (row_of g q)

abbrev pub columns_apart : Grid → ℕ → ℕ → ℕ
columns_apart g p q = apart (column_of g p) (column_of g q)

-- Rows and columns each differ by at most 1. The cells beside a diagonal do not count.
abbrev pub beside : Grid → ℕ → ℕ → Bool
beside g p q = nat_le (rows_apart g p q) 1 && nat_le (columns_apart g p q) 1

-- The squares of both differences add up to at most the radius squared.
abbrev pub within : Grid → ℕ → ℕ → Bool
within g p q = nat_le (rows_apart g p q * rows_apart g p q + columns_apart g p q * columns_apart g p q) (g.radius * g.radius)

-- A hall: walls are closed, other cells open; cells beside each other have a move, cells within the radius are in contact.
abbrev pub hall_site : Grid → Site
hall_site g = record {
  places = cells g;
  base = g.base;
  is_open = λ p. nat_lt p (cells g) && not (g.is_wall p);
  has_move = λ p q. nat_lt p (cells g) && nat_lt q (cells g) && beside g p q;
  in_contact = λ p q. nat_lt p (cells g) && nat_lt q (cells g) && within g p q;
}

-- A hall is made of 1 to 16 rows and 1 to 16 columns, with a radius up to 30 and a base inside.
abbrev pub grid_fits : ℕ → ℕ → ℕ → ℕ → Bool
grid_fits rows columns radius base =
    nat_le 1 rows && nat_le rows most_rows && nat_le 1 columns && nat_le columns most_columns && nat_le radius most_radius && nat_lt base (rows * columns)

-- A grid without walls.
abbrev pub bare_grid : ℕ → ℕ → ℕ → ℕ → Grid
bare_grid rows columns radius base = record { rows = rows; columns = columns; radius = radius; base = base; is_wall = λ _. false }

-- One wall more.
abbrev pub with_wall : ℕ → Grid → Grid
with_wall p g = record { rows = g.rows; columns = g.columns; radius = g.radius; base = g.base; is_wall = at_place p true g.is_wall }

-- What is answered to one wall more: a number that is no place is refused first, then a wall that is there already.
abbrev pub wall_answer : Grid → ℕ → Result (Unit {0}) Refusal
wall_answer g p = if nat_lt p (cells g) then (if g.is_wall p then Err GivenTwice else Ok tt) else Err NumberOutOfRange

-- What is said of halls.
pub record HallsAreSites : Type 0 where
  -- They are lawful.
  pub lawful : (g : Grid) → cells g ≤ most_places → g.base < cells g → Lawful (hall_site g)
  -- Each cell has its row and column, and each place is the cell of its row and column.
  pub rows_and_columns : (g : Grid) (r c : ℕ) → c < g.columns → (row_of g (cell g r c) ≡ r) × (column_of g (cell g r c) ≡ c)
  pub places_are_cells : (g : Grid) (p : ℕ) → cell g (row_of g p) (column_of g p) ≡ p
  -- Cells have a move if their rows and columns each differ by at most 1, and only then.
  pub moves_to_neighbours : (g : Grid) (r c s d : ℕ) → r < g.rows → c < g.columns → s < g.rows → d < g.columns
      → ((hall_site g).has_move (cell g r c) (cell g s d) ≡ true) ↔ ((apart r s ≤ 1) × (apart c d ≤ 1))
  -- Cells are in contact if they lie within the radius of each other, and only then.
  pub contact_within_radius : (g : Grid) (r c s d : ℕ) → r < g.rows → c < g.columns → s < g.rows → d < g.columns
      → ((hall_site g).in_contact (cell g r c) (cell g s d) ≡ true) ↔ (apart r s * apart r s + apart c d * apart c d ≤ g.radius * g.radius)
