-- What a hall means: the grid that it keeps.
use Rattle.std.specs.Prelude.{◌≡◌, ℕ, ◌*◌, ◌≤◌, true, false, Ok, Err, Result, slice_index_or}
use Rattle.std.proofs.lemmas.Nat.{mul-le}
use Rattle.model.specs.declared.refusal.Refusal.{Refusal}
use Rattle.model.specs.declared.refusal.Refusal.TheVariants.{NumberOutOfRange}
use Rattle.model.specs.Limits.{most_places, most_rows, most_columns}
use Rattle.model.specs.Site.{Site, Lawful}
use Rattle.model.specs.Hall.{Grid, bare_grid, grid_fits, hall_site}
use Rattle.model.proofs.Halls.{halls_are_sites}
use Rattle.site.specs.declared.hall.Hall.{Hall}

-- The grid of a hall, and the site that it means.
abbrev pub grid : Hall → Grid
grid h = record { rows = h.rows; columns = h.columns; radius = h.radius; base = h.base; is_wall = λ p. slice_index_or h.walls p false }

abbrev pub hall_meaning : Hall → Site
hall_meaning h = hall_site (grid h)

-- A grid of at most 16 rows and columns has at most 256 places.
pub few_cells : (h : Hall) → h.rows * h.columns ≤ most_places
few_cells h = mul-le h.rows h.columns most_rows most_columns h.long h.wide

pub hall_lawful : (h : Hall) → Lawful (hall_meaning h)
hall_lawful h = halls_are_sites.lawful (grid h) (few_cells h) h.inside

-- What is made: the bare grid, if the numbers are in range.
abbrev pub Made : ℕ → ℕ → ℕ → ℕ → Result Hall Refusal → Type 0
Made rows columns radius base (Ok h) = (grid_fits rows columns radius base ≡ true) × (grid h ≡ bare_grid rows columns radius base)
Made rows columns radius base (Err e) = (grid_fits rows columns radius base ≡ false) × (e ≡ NumberOutOfRange)
