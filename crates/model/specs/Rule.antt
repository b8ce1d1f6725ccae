-- Splitting rules and their laws.
use Rattle.std.specs.Prelude.{◌≡◌, ℕ, ◌<◌, ◌≤◌, Bool, true, false, List, length, slice_index}
use Rattle.model.specs.declared.item.Item.{Item}
use Rattle.model.specs.Contact.{place_of, Connected}
use Rattle.model.specs.Item.{Meets}
use Rattle.model.specs.Site.{Site, Lawful}

-- A rule is told a site and a configuration, and says yes or no to each item. Those that it says yes to are listed.
abbrev pub Rule : Type 0
Rule = Site → List ℕ → Item → Bool

-- A configuration meets an item if its carrier stands there or, for "must not be", elsewhere.
abbrev pub MeetsItem : List ℕ → Item → Type 0
MeetsItem c i = Meets i.demand i.place (place_of c i.carrier)

-- Every carrier of the configuration is at a place.
abbrev pub AtPlaces : Site → List ℕ → Type 0
AtPlaces s c = (k : ℕ) → k < length c → slice_index c k < s.places

-- Every carrier is at an open place.
abbrev pub AtOpenPlaces : Site → List ℕ → Type 0
AtOpenPlaces s c = (k : ℕ) → k < length c → s.is_open (slice_index c k) ≡ true

-- The numbers of an item and of a configuration are carriers and places.
pub record InRange (s : Site) (c : List ℕ) (i : Item) : Type 0 where
  pub from_one : 1 ≤ i.carrier
  pub carrier : i.carrier ≤ length c
  pub place : i.place < s.places
  pub everyone : AtPlaces s c

-- The laws of a rule, on every lawful site.
pub record RuleLaws (rule : Rule) : Type 0 where
  -- It says no where a number is out of range, and of a configuration in contact.
  pub in_range : (s : Site) (c : List ℕ) (i : Item) → Lawful s → rule s c i ≡ true → InRange s c i
  pub quiet : (s : Site) (c : List ℕ) (i : Item) → Lawful s → Connected s c → rule s c i ≡ false
  -- Of a configuration out of contact: every configuration of the same carriers at open places that is in contact meets at
  -- least one listed item (cover),
  pub cover : (s : Site) (c d : List ℕ) → Lawful s → (¬ Connected s c) → AtPlaces s c → length d ≡ length c → AtOpenPlaces s d → Connected s d
      → (i : Item) × (rule s c i ≡ true) × MeetsItem d i
  -- and it meets none itself (bite).
  pub bite : (s : Site) (c : List ℕ) (i : Item) → Lawful s → rule s c i ≡ true → ¬ MeetsItem c i
