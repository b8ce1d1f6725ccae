-- The limits, each by its name.
use Rattle.std.specs.Prelude.{ℕ, ℤ, pos, negsuc}

-- The most places that a site may have.
abbrev pub most_places : ℕ
most_places = 256

-- The most rows and columns of a hall, and its largest radius.
abbrev pub most_rows : ℕ
most_rows = 16

abbrev pub most_columns : ℕ
most_columns = 16

abbrev pub most_radius : ℕ
most_radius = 30

-- The lowest and the highest reading that is stored, in tenths of a degree: -40.0 and 60.0 degrees.
abbrev pub lowest_reading : ℤ
lowest_reading = negsuc 399

abbrev pub highest_reading : ℤ
highest_reading = pos 600

-- The coolest and the warmest reading at which a place is open: 5.0 and 30.0 degrees.
abbrev pub coolest_open : ℤ
coolest_open = pos 50

abbrev pub warmest_open : ℤ
warmest_open = pos 300

-- The most carriers of a task, and its farthest horizon, which is the highest cost too.
abbrev pub most_carriers : ℕ
most_carriers = 8

abbrev pub most_steps : ℕ
most_steps = 64

-- The most nodes that are made.
abbrev pub most_nodes : ℕ
most_nodes = 4096

-- The most turns that one call may ask for.
abbrev pub most_turns : ℕ
most_turns = 10000
