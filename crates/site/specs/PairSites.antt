-- What a pair site means: the network that its tables list.
use Rattle.std.specs.Prelude.{◌≡◌, ℕ, min, max, Bool, true, false, [], Ok, Err, Result, slice_index_or}
use Rattle.std.proofs.Math.Nat.{min_comm, max_comm}
use Rattle.std.proofs.Math.Path.{ap₂}
use Rattle.model.specs.declared.refusal.Refusal.{Refusal}
use Rattle.model.specs.declared.refusal.Refusal.TheVariants.{NumberOutOfRange}
use Rattle.model.specs.Site.{Site, Lawful}
use Rattle.model.specs.PairSite.{Pairs, BothWays, Network, bare_network, network_fits, pair_site}
use Rattle.model.proofs.PairSites.{pair_sites_are_sites}
use Rattle.site.specs.declared.pair_site.PairTable.{PairTable}
use Rattle.site.specs.declared.pair_site.PairSite.{PairSite}

-- The mark in a row and a column of a table.
abbrev pub mark_at : PairTable → ℕ → ℕ → Bool
mark_at t row column = slice_index_or (slice_index_or t.marks row []) column false

-- The pairs that a table lists: those marked in the row of the lower place and the column of the higher one.
abbrev pub pairs_of : PairTable → Pairs
pairs_of t p q = mark_at t (min p q) (max p q)

-- They hold both ways round.
pub pairs_both_ways : (t : PairTable) → BothWays (pairs_of t)
pairs_both_ways t p q = ap₂ (mark_at t) (min_comm p q) (max_comm p q)

-- The network of a pair site, and the site that it means.
abbrev pub network : PairSite → Network
network s = record { places = s.places; base = s.base; moves = pairs_of s.moves; contacts = pairs_of s.contacts }

abbrev pub pair_meaning : PairSite → Site
pair_meaning s = pair_site (network s)

pub pair_lawful : (s : PairSite) → Lawful (pair_meaning s)
pair_lawful s = pair_sites_are_sites.lawful (network s) s.few s.inside (pairs_both_ways s.moves) (pairs_both_ways s.contacts)

-- What is made: the bare network, if the numbers are in range.
abbrev pub Made : ℕ → ℕ → Result PairSite Refusal → Type 0
Made n base (Ok s) = (network_fits n base ≡ true) × (network s ≡ bare_network n base)
Made n base (Err e) = (network_fits n base ≡ false) × (e ≡ NumberOutOfRange)
