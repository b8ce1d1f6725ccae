-- Pair sites: networks of galleries whose moves and contacts are listed pair by pair.
use Rattle.std.specs.Prelude.{◌≡◌, ℕ, ◌<◌, ◌≤◌, Bool, true, false, if◌then◌else◌, ◌&&◌, ◌||◌, ◌⊎◌, ◌↔◌, List, [], ◌∷◌, Ok, Err, Result, ◌==◌, nat_le, nat_lt}
use mathlib.Core.List.{Memᴰ}
use Rattle.model.specs.declared.refusal.Refusal.{Refusal}
use Rattle.model.specs.declared.refusal.Refusal.TheVariants.{NumberOutOfRange, GivenTwice}
use Rattle.model.specs.Limits.{most_places}
use Rattle.model.specs.Site.{Site, Lawful}

-- Which pairs of places are listed under one word.
abbrev pub Pairs : Type 0
Pairs = ℕ → ℕ → Bool

-- None is listed yet.
abbrev pub no_pairs : Pairs
no_pairs a b = false

-- The same pairs, and the pair of p and q either way round.
abbrev pub with_pair : ℕ → ℕ → Pairs → Pairs
with_pair p q pairs a b = (a == p && b == q) || (a == q && b == p) || pairs a b

-- The pairs of a list.
abbrev pub listed : List (ℕ × ℕ) → Pairs
listed [] = no_pairs
listed ((p, q) ∷ list) = with_pair p q (listed list)

-- A network: how many places there are, which is the base, and which pairs are listed as moves and which as contacts.
pub record Network : Type 0 where
  pub places : ℕ
  pub base : ℕ
  pub moves : Pairs
  pub contacts : Pairs

-- A network of so many places with this base, in which nothing is listed yet.
abbrev pub bare_network : ℕ → ℕ → Network
bare_network n base = record { places = n; base = base; moves = no_pairs; contacts = no_pairs }

-- One move or one contact more.
abbrev pub with_move : ℕ → ℕ → Network → Network
with_move p q w = record { places = w.places; base = w.base; moves = with_pair p q w.moves; contacts = w.contacts }

abbrev pub with_contact : ℕ → ℕ → Network → Network
with_contact p q w = record { places = w.places; base = w.base; moves = w.moves; contacts = with_pair p q w.contacts }

-- A place is joined with itself and with those that it is paired with.
abbrev pub joined : ℕ → Pairs → ℕ → ℕ → Bool
joined n pairs p q = nat_lt p n && nat_lt q n && (p == q || pairs p q)

-- A pair site has exactly the listed moves and contacts, besides those of a place with itself. All its places are open.
abbrev pub pair_site : Network → Site
pair_site w = record {
  places = w.places;
  base = w.base;
  is_open = λ p. nat_lt p w.places;
  has_move = joined w.places w.moves;
  in_contact = joined w.places w.contacts;
}

-- A network is made of 1 to 256 places, with the base among them.
abbrev pub network_fits : ℕ → ℕ → Bool
network_fits n base = nat_le n most_places && nat_lt base n

-- What is answered to one pair more: a number that is no place is refused first, then a place that is paired with itself or a
-- pair that is listed already, either way round.
abbrev pub pair_answer : ℕ → Pairs → ℕ → ℕ → Result (Unit {0}) Refusal
pair_answer n pairs p q = if nat_lt p n && nat_lt q n then (if p == q || pairs p q then Err GivenTwice else Ok tt) else Err NumberOutOfRange

-- The pairs hold both ways round.
abbrev pub BothWays : Pairs → Type 0
BothWays pairs = (p q : ℕ) → pairs p q ≡ pairs q p

-- What is said of pair sites.
pub record PairSitesAreSites : Type 0 where
  -- They are lawful.
  pub lawful : (w : Network) → w.places ≤ most_places → w.base < w.places → BothWays w.moves → BothWays w.contacts → Lawful (pair_site w)
  -- A pair is listed exactly if it stands in the list, either way round.
  pub exactly_the_listed : (list : List (ℕ × ℕ)) (p q : ℕ) → (listed list p q ≡ true) ↔ (Memᴰ (p, q) list ⊎ Memᴰ (q, p) list)
  pub listed_both_ways : (list : List (ℕ × ℕ)) → BothWays (listed list)
