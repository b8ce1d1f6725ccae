-- Where a plan is out of contact.
use Rattle.std.specs.Prelude.{◌≡◌, ℕ, ◌<◌, true, false, List, [], length, Some, None, Option, slice_index_or}
use Rattle.model.specs.Site.{Site}
use Rattle.model.specs.Contact.{is_connected}

-- The first moment at which a list of configurations, one for each moment, is out of contact, if there is one.
abbrev pub FirstBreak : Site → List (List ℕ) → Option ℕ → Type 0
FirstBreak s plan None = (m : ℕ) → m < length plan → is_connected s (slice_index_or plan m []) ≡ true
FirstBreak s plan (Some b) = (b < length plan) × (is_connected s (slice_index_or plan b []) ≡ false) × ((m : ℕ) → m < b → is_connected s (slice_index_or plan m []) ≡ true)
