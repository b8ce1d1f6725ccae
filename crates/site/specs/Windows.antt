-- What a window means, given what the site below it means.
use Rattle.std.specs.Prelude.{None, slice_index_or}
use Rattle.model.specs.Site.{Site, Lawful}
use Rattle.model.specs.Window.{Readings, window}
use Rattle.model.proofs.Windows.{windows_are_sites}
use Rattle.site.specs.declared.window.Window.{Window}

-- The site below a window.
abbrev pub below_of : {S : Type 0} → Window S → S
below_of w = w.below

-- The readings that a window keeps.
abbrev pub readings_of : {S : Type 0} → Window S → Readings
readings_of w p = slice_index_or w.readings p None

-- The site that it means: those readings over the site below.
abbrev pub window_meaning : {S : Type 0} → (S → Site) → Window S → Site
window_meaning meaning w = window (readings_of w) (meaning (below_of w))

-- It is lawful if whatever lies below is.
pub window_lawful : {S : Type 0} (meaning : S → Site) → ((s : S) → Lawful (meaning s)) → (w : Window S) → Lawful (window_meaning meaning w)
window_lawful meaning lawful w = windows_are_sites (readings_of w) (meaning (below_of w)) (lawful (below_of w))
