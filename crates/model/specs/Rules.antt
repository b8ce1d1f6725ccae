-- The rules Yield and Three-way, computed; all items in order; and what the two rules list, in words.
use Rattle.std.specs.Prelude.{◌≡◌, ℕ, suc, ◌≤◌, Bool, true, false, if◌then◌else◌, not, ◌&&◌, ◌||◌, ◌⊎◌, ◌↔◌, List, [], ◌∷◌, map, length, Some, None, filter, Option, ◌==◌, nat_le, nat_lt, ◌≢◌}
use Rattle.std.specs.List.{range_with_len, flat_map}
use Rattle.model.specs.declared.item.Demand.{Demand}
use Rattle.model.specs.declared.item.Demand.TheVariants.{MustBe, MustNotBe}
use Rattle.model.specs.declared.item.Item.{Item}
use Rattle.model.specs.Contact.{place_of, Connected, lost, is_connected}
use Rattle.model.specs.Item.{must_be}
use Rattle.model.specs.Rule.{Rule, InRange, RuleLaws}
use Rattle.model.specs.Site.{Site}

-- Each of these numbers is below n.
abbrev pub each_below : ℕ → List ℕ → Bool
each_below n [] = true
each_below n (p ∷ c) = nat_lt p n && each_below n c

-- The numbers of the item and of the configuration are carriers and places.
abbrev pub in_range : Site → List ℕ → Item → Bool
in_range s c i = nat_le 1 i.carrier && nat_le i.carrier (length c) && nat_lt i.place s.places && each_below s.places c

-- Both rules say no where a number is out of range, and of a configuration in contact.
abbrev pub speaks : Site → List ℕ → Item → Bool
speaks s c i = in_range s c i && not (is_connected s c)

-- The item is that its carrier must not be at its own place.
abbrev pub leaves : List ℕ → Item → Bool
leaves c i = not (must_be i.demand) && i.place == place_of c i.carrier

-- The item is that its carrier must be at another place than its own.
abbrev pub goes : List ℕ → Item → Bool
goes c i = must_be i.demand && not (i.place == place_of c i.carrier)

-- The place v is in contact with that of a carrier other than a; the list has the places of the carriers from number k on.
abbrev pub hears_another : Site → ℕ → ℕ → List ℕ → ℕ → Bool
hears_another s a k [] v = false
hears_another s a k (p ∷ c) v = (not (k == a) && s.in_contact p v) || hears_another s a (suc k) c v

-- There the lost carrier a would hear the base or another carrier.
abbrev pub self : Site → List ℕ → ℕ → ℕ → Bool
self s c a v = s.in_contact s.base v || hears_another s a 1 c v

-- There another carrier would hear the lost carrier a.
abbrev pub other : Site → List ℕ → ℕ → ℕ → Bool
other s c a v = s.in_contact (place_of c a) v

-- The item's place is one where its carrier would mend the loss of carrier a: where it hears the base or another carrier if it
-- is lost itself, and where it hears the lost one if it is another.
abbrev pub mends : Site → List ℕ → Option ℕ → Item → Bool
mends s c None i = false
mends s c (Some a) i = if i.carrier == a then self s c a i.place else other s c a i.place

-- Yield lists that each carrier must not be at its own place.
abbrev pub yields : Rule
yields s c i = speaks s c i && leaves c i

-- Three-way lists Yield's items and, besides, that a carrier must be at another place than its own, where it mends the loss.
abbrev pub three_way : Rule
three_way s c i = speaks s c i && (leaves c i || (goes c i && mends s c (lost s c) i))

-- The items of one demand and one carrier, by place,
abbrev pub items_of : ℕ → Demand → ℕ → List Item
items_of places d a = map (λ p. record { carrier = a; place = p; demand = d }) (range_with_len 0 places)

-- those of one demand, by carrier and then place,
abbrev pub items_with : ℕ → ℕ → Demand → List Item
items_with carriers places d = flat_map (items_of places d) (range_with_len 1 carriers)

-- and all items in order: every "must be" before every "must not be".
abbrev pub items : ℕ → ℕ → List Item
items carriers places = flat_map (items_with carriers places) (MustBe ∷ MustNotBe ∷ [])

-- Those that a rule says yes to.
abbrev pub listed_items : Rule → Site → List ℕ → List Item
listed_items rule s c = filter (rule s c) (items (length c) s.places)

-- What the two rules list, in words.

-- An item of Yield: the carrier must not be at its own place.
pub record IsYield (c : List ℕ) (i : Item) : Type 0 where
  pub must_not_be : i.demand ≡ MustNotBe
  pub own_place : i.place ≡ place_of c i.carrier

-- The carrier of number b is another than a, and at its place one is in contact with v.
pub record HeardBy (s : Site) (c : List ℕ) (a v b : ℕ) : Type 0 where
  pub from_one : 1 ≤ b
  pub carrier : b ≤ length c
  pub another : b ≢ a
  pub contact : s.in_contact (place_of c b) v ≡ true

-- An item SELF: the lost carrier must be at a place, but not its own, in contact with the base or with another carrier's place.
pub record IsSelf (s : Site) (c : List ℕ) (i : Item) : Type 0 where
  pub must_be : i.demand ≡ MustBe
  pub lost_itself : lost s c ≡ Some i.carrier
  pub elsewhere : i.place ≢ place_of c i.carrier
  pub heard : (s.in_contact s.base i.place ≡ true) ⊎ ((b : ℕ) × HeardBy s c i.carrier i.place b)

-- An item OTHER: another carrier than the lost one must be at a place, but not its own, in contact with the lost one's place.
pub record IsOther (s : Site) (c : List ℕ) (i : Item) : Type 0 where
  pub must_be : i.demand ≡ MustBe
  pub lost_one : ℕ
  pub lost_is : lost s c ≡ Some lost_one
  pub another : i.carrier ≢ lost_one
  pub elsewhere : i.place ≢ place_of c i.carrier
  pub heard : s.in_contact (place_of c lost_one) i.place ≡ true

-- A rule lists an item only where all numbers are in range and the configuration is out of contact.
pub record Speaks (s : Site) (c : List ℕ) (i : Item) : Type 0 where
  pub range : InRange s c i
  pub out_of_contact : ¬ Connected s c

-- What is said of the two rules: they keep the laws of a rule, and list exactly these items.
pub record RulesKeepTheLaws : Type 0 where
  pub yield_laws : RuleLaws yields
  pub three_way_laws : RuleLaws three_way
  pub yield_lists : (s : Site) (c : List ℕ) (i : Item) → (yields s c i ≡ true) ↔ (Speaks s c i × IsYield c i)
  pub three_way_lists : (s : Site) (c : List ℕ) (i : Item) → (three_way s c i ≡ true) ↔ (Speaks s c i × (IsYield c i ⊎ IsSelf s c i ⊎ IsOther s c i))
