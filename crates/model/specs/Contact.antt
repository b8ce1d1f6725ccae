-- Contact of a configuration: the list of the carriers' places, that of carrier 1 first. Carriers (agents) are numbered from 1,
-- and indices of the list count from 0, so that carrier i + 1 has index i.
use Rattle.std.specs.Prelude.{◌≡◌, ℕ, zero, suc, ◌<◌, Bool, true, false, not, ◌&&◌, ◌||◌, ◌↔◌, List, [], ◌∷◌, map, length, replicate, is_some, Some, None, Option, slice_index, slice_index_or}
use Rattle.model.specs.Site.{Site}

-- The place of the carrier of this number.
abbrev pub place_of : List ℕ → ℕ → ℕ
place_of c zero = 0
place_of c (suc i) = slice_index c i

-- The carrier at index i is reached from the base, straight or relayed by another that is reached.
pub data Reached (s : Site) (c : List ℕ) : ℕ → Type 0 where
  straight : {i : ℕ} → i < length c → s.in_contact s.base (slice_index c i) ≡ true → Reached s c i
  relayed : {i j : ℕ} → Reached s c j → i < length c → s.in_contact (slice_index c j) (slice_index c i) ≡ true → Reached s c i

-- The configuration is in contact: every carrier is reached.
abbrev pub Connected : Site → List ℕ → Type 0
Connected s c = (i : ℕ) → i < length c → Reached s c i

-- The same, computed: in as many rounds as there are carriers, whoever hears the base or one that was marked in the round before
-- is marked.

-- The place p is in contact with the place of a carrier that is marked.
abbrev pub hears : Site → List ℕ → List Bool → ℕ → Bool
hears s [] marks p = false
hears s (q ∷ c) [] p = false
hears s (q ∷ c) (m ∷ marks) p = (m && s.in_contact q p) || hears s c marks p

-- One round more.
abbrev pub spread : Site → List ℕ → List Bool → List Bool
spread s c marks = map (λ p. s.in_contact s.base p || hears s c marks p) c

-- Who is marked after k rounds.
abbrev pub rounds : ℕ → Site → List ℕ → List Bool
rounds zero s c = replicate (length c) false
rounds (suc k) s c = spread s c (rounds k s c)

-- Which carriers are reached.
abbrev pub reached_marks : Site → List ℕ → List Bool
reached_marks s c = rounds (length c) s c

-- The carrier of this number is reached. A number that is no carrier's gets no.
abbrev pub is_reached : Site → List ℕ → ℕ → Bool
is_reached s c zero = false
is_reached s c (suc i) = slice_index_or (reached_marks s c) i false

-- The number of the first that is not marked, where the first of all has the number k.
abbrev pub first_unmarked : ℕ → List Bool → Option ℕ
first_unmarked k [] = None
first_unmarked k (true ∷ marks) = first_unmarked (suc k) marks
first_unmarked k (false ∷ marks) = Some k

-- The lost carrier: the lowest-numbered one that is not reached.
abbrev pub lost : Site → List ℕ → Option ℕ
lost s c = first_unmarked 1 (reached_marks s c)

-- The configuration is in contact: nobody is lost.
abbrev pub is_connected : Site → List ℕ → Bool
is_connected s c = not (is_some (lost s c))

-- What is computed is contact.
pub record ContactIsComputed : Type 0 where
  -- The carriers that are computed as reached are those that are reached.
  pub marked_are_reached : (s : Site) (c : List ℕ) (i : ℕ) → (is_reached s c (suc i) ≡ true) ↔ Reached s c i
  -- A configuration is computed to be in contact exactly if it is.
  pub connected_is_contact : (s : Site) (c : List ℕ) → (is_connected s c ≡ true) ↔ Connected s c
  -- The lost carrier is not reached, and every lower-numbered one is.
  pub lost_is_lowest : (s : Site) (c : List ℕ) (k : ℕ) → lost s c ≡ Some k
      → (i : ℕ) × (k ≡ suc i) × (i < length c) × (¬ Reached s c i) × ((j : ℕ) → j < i → Reached s c j)
