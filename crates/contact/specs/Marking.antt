-- Which places are marked, and how marks spread over a configuration.
use Rattle.std.specs.Prelude.{◌≡◌, ℕ, ◌<◌, Bool, true, false, ◌&&◌, ◌||◌, List, map, length, ◌==◌, ◌≢◌, slice_index, slice_index_or}
use Rattle.std.specs.List.{list_any}
use Rattle.model.specs.Site.{Site}
use Rattle.model.specs.Contact.{rounds}
use Rattle.contact.specs.declared.marking.Marking.{Marking}

-- The place p is marked.
abbrev pub is_marked : {S : Type 0} → Marking S → ℕ → Bool
is_marked m p = slice_index_or m.marks p false

-- Which carriers stand at marked places.
abbrev pub carriers_marked : {S : Type 0} → Marking S → List Bool
carriers_marked m = map (is_marked m) m.configuration.now

-- The place q is marked, and in contact with p.
abbrev pub is_relay : {S : Type 0} → (S → Site) → Marking S → ℕ → ℕ → Bool
is_relay meaning m q p = is_marked m q && (meaning m.site.now).in_contact q p

-- The marked place of some carrier is in contact with p.
abbrev pub is_heard : {S : Type 0} → (S → Site) → Marking S → ℕ → Bool
is_heard meaning m p = list_any (λ q. is_relay meaning m q p) m.configuration.now

-- The place p is in contact with the base, or with the marked place of a carrier.
abbrev pub is_near : {S : Type 0} → (S → Site) → Marking S → ℕ → Bool
is_near meaning m p = (meaning m.site.now).in_contact (meaning m.site.now).base p || is_heard meaning m p

-- A carrier stands at the place p.
abbrev pub is_taken : {S : Type 0} → Marking S → ℕ → Bool
is_taken m p = list_any (λ q. q == p) m.configuration.now

-- The marking after k rounds, at this site and over this configuration.
pub record IsAfter {S : Type 0} (meaning : S → Site) (site : S) (configuration : List ℕ) (k : ℕ) (m : Marking S) : Type 0 where
  pub site_is : m.site.now ≡ site
  pub configuration_is : m.configuration.now ≡ configuration
  pub marked : carriers_marked m ≡ rounds k (meaning site) configuration

-- One round more, at the same site and over the same configuration: no mark is lost, and of the other places those are marked that are
-- near and have a carrier.
pub record Round {S : Type 0} (meaning : S → Site) (before after : Marking S) : Type 0 where
  pub site_is : after.site.now ≡ before.site.now
  pub configuration_is : after.configuration.now ≡ before.configuration.now
  pub kept : (p : ℕ) → is_marked before p ≡ true → is_marked after p ≡ true
  pub only : (p : ℕ) → is_marked after p ≡ true → (is_marked before p || (is_taken before p && is_near meaning before p)) ≡ true
  pub done : (i : ℕ) → i < length before.configuration.now → is_near meaning before (slice_index before.configuration.now i) ≡ true
      → is_marked after (slice_index before.configuration.now i) ≡ true

-- What a round makes of a marking, and whether it marks a place more. Where it marks none, the marking stays as it is.
abbrev pub Spreads : {S : Type 0} → (S → Site) → Marking S → Marking S → Bool → Type 0
Spreads meaning before after true = Round meaning before after × (after.marks ≢ before.marks)
Spreads meaning before after false = Round meaning before before × (after ≡ before)
