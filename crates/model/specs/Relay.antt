-- Through whom a carrier is reached, on a shortest chain of contacts from the base.
use Rattle.std.specs.Prelude.{◌≡◌, ℕ, zero, suc, ◌<◌, true, ◌↔◌, List, length, Some, None, Option, slice_index}
use Rattle.model.specs.declared.relay.Relay.{Relay}
use Rattle.model.specs.declared.relay.Relay.TheVariants.{Base, Carrier}
use Rattle.model.specs.Site.{Site}
use Rattle.model.specs.Contact.{Reached}

-- A chain of so many contacts leads from the base, through the places of carriers, to the carrier at index i.
pub data Chain (s : Site) (c : List ℕ) : ℕ → ℕ → Type 0 where
  straight : {i : ℕ} → i < length c → s.in_contact s.base (slice_index c i) ≡ true → Chain s c 1 i
  onward : {k i j : ℕ} → Chain s c k j → i < length c → s.in_contact (slice_index c j) (slice_index c i) ≡ true → Chain s c (suc k) i

-- The carrier at index j is the last relay of the one at index i: it ends a chain, hears i, and so makes a chain to i that is as
-- short as any; and no lower-numbered carrier does.
pub record LastRelay (s : Site) (c : List ℕ) (i j : ℕ) : Type 0 where
  pub contacts : ℕ
  pub chain : Chain s c contacts j
  pub hears : s.in_contact (slice_index c j) (slice_index c i) ≡ true
  pub shortest : (k : ℕ) → Chain s c k i → contacts < k
  pub lowest : (h k : ℕ) → h < j → Chain s c k h → s.in_contact (slice_index c h) (slice_index c i) ≡ true → contacts < k

-- Whom the carrier at index i hears last: nobody if it is not reached; the base if it is in contact with that; else its last relay.
abbrev pub RelayedBy : Site → List ℕ → ℕ → Option Relay → Type 0
RelayedBy s c i None = ¬ Reached s c i
RelayedBy s c i (Some Base) = (i < length c) × (s.in_contact s.base (slice_index c i) ≡ true)
RelayedBy s c i (Some (Carrier zero)) = ⊥
RelayedBy s c i (Some (Carrier (suc j))) = (i < length c) × LastRelay s c i j

-- The same by the carrier's number. A number that is no carrier's is relayed by nobody.
abbrev pub RelayOf : Site → List ℕ → ℕ → Option Relay → Type 0
RelayOf s c zero r = r ≡ None
RelayOf s c (suc i) r = RelayedBy s c i r

-- A carrier is reached exactly if some chain leads to it.
abbrev pub ChainsReach : Type 0
ChainsReach = (s : Site) (c : List ℕ) (i : ℕ) → Reached s c i ↔ ((k : ℕ) × Chain s c k i)
