-- Windows: temperature readings over a site, which close the places where gauges cannot be calibrated.
use Rattle.std.specs.Prelude.{ℕ, Bool, false, if◌then◌else◌, ◌&&◌, ℤ, Some, None, Ok, Err, Option, Result, int_le, nat_lt}
use Rattle.model.specs.declared.refusal.Refusal.{Refusal}
use Rattle.model.specs.declared.refusal.Refusal.TheVariants.{NoSuchPlaceOrReading}
use Rattle.model.specs.Limits.{lowest_reading, highest_reading, coolest_open, warmest_open}
use Rattle.model.specs.Site.{Site, Lawful, at_place}

-- The reading at each place, in tenths of a degree, where there is one.
abbrev pub Readings : Type 0
Readings = ℕ → Option ℤ

-- There is none yet.
abbrev pub no_readings : Readings
no_readings p = None

-- A reading is stored, or replaced.
abbrev pub with_reading : ℕ → ℤ → Readings → Readings
with_reading p t = at_place p (Some t)

-- There is a reading, and the gauges' certificate holds at it: it is from 5.0 to 30.0 degrees.
abbrev pub mild : Option ℤ → Bool
mild None = false
mild (Some t) = int_le coolest_open t && int_le t warmest_open

-- A window over a site: a place is open in it exactly when it is open below and its reading is mild. All other answers are
-- those below.
abbrev pub window : Readings → Site → Site
window readings s = record {
  places = s.places;
  base = s.base;
  is_open = λ p. s.is_open p && mild (readings p);
  has_move = s.has_move;
  in_contact = s.in_contact;
}

-- What is answered to a reading: it is stored at a place, from -40.0 to 60.0 degrees, and refused otherwise.
abbrev pub set_answer : Site → ℕ → ℤ → Result (Unit {0}) Refusal
set_answer s p t = if nat_lt p s.places && int_le lowest_reading t && int_le t highest_reading then Ok tt else Err NoSuchPlaceOrReading

-- A window over a lawful site is lawful.
abbrev pub WindowsAreSites : Type 0
WindowsAreSites = (readings : Readings) (s : Site) → Lawful s → Lawful (window readings s)
