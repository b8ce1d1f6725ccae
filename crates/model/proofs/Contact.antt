-- The computed marks are the carriers that are reached, and the lost carrier is the lowest that is not.
use Rattle.std.proofs.Common.{◌≡◌, ℕ, zero, suc, ◌+◌, ◌<◌, ◌≤◌, Bool, true, false, not, if◌then◌else◌, ◌&&◌, ◌||◌, ◌⊎◌, ◌↔◌, List, [], ◌∷◌, length, get_or, replicate, is_some, Some, refl, inl, inr, ⊎_elim, arith}
use Rattle.std.proofs.lemmas.List.{get_or-map, get_or_past, length-map, length-replicate}
use Rattle.std.proofs.lemmas.Bool.{and_parts, cases_eq, or_cases, both_ways, false_from_ne_true}
use Rattle.model.specs.Contact.{Reached, Connected, hears, spread, rounds, reached_marks, is_connected, first_unmarked, lost, ContactIsComputed}
use Rattle.model.specs.Contact.Reached.{straight, relayed}
use Rattle.model.specs.Site.{Site}
use Rattle.model.proofs.Tables.{from_first, same_everywhere}

-- The carrier at index i is marked.
abbrev pub Marked : List Bool → ℕ → Type 0
Marked marks i = get_or marks i false ≡ true

marked_in : (marks : List Bool) (i : ℕ) → Marked marks i → i < length marks
marked_in marks i h = grind (arith, get_or_past)

-- Of two lists of marks of which the second has all the marks of the first: they are the same, or the second has more.

-- how many are marked
abbrev count : List Bool → ℕ
count [] = 0
count (m ∷ marks) = if m then suc (count marks) else count marks

count_le_length : (marks : List Bool) → count marks ≤ length marks
count_le_length [] = omega arith
count_le_length (m ∷ marks) = grind (arith, count_le_length marks)

-- All marks of the first are marks of the second.
abbrev AllOf : List Bool → List Bool → Type 0
AllOf marks more = (i : ℕ) → Marked marks i → Marked more i

more_or_same : (marks more : List Bool) → length marks ≡ length more → AllOf marks more → (marks ≡ more) ⊎ (count marks < count more)
more_or_same [] [] e h = inl refl
more_or_same [] (n ∷ more) e h = grind arith
more_or_same (m ∷ marks) [] e h = grind arith
more_or_same (m ∷ marks) (n ∷ more) e h = grind (arith, h 0, more_or_same marks more (omega arith) (λ i. h (suc i)))

-- `hears` finds a marked carrier in contact.

-- A marked carrier is in contact with the place p.
abbrev Heard : Site → List ℕ → List Bool → ℕ → Type 0
Heard s c marks p = (j : ℕ) × (j < length c) × Marked marks j × (s.in_contact (get_or c j 0) p ≡ true)

heard : (s : Site) (c : List ℕ) (marks : List Bool) (p : ℕ) → hears s c marks p ≡ true → Heard s c marks p
heard s [] marks p h = cc
heard s (q ∷ c) [] p h = cc
heard s (q ∷ c) (m ∷ marks) p h = ⊎_elim
    (λ here. let (marked, t) = and_parts m _ here in (0, omega arith, marked, t))
    (λ later. let (j, l, marked, t) = heard s c marks p later in (suc j, omega arith, marked, t))
    (or_cases (m && s.in_contact q p) _ h)

hears_from : (s : Site) (c : List ℕ) (marks : List Bool) (p j : ℕ) → j < length c → Marked marks j → s.in_contact (get_or c j 0) p ≡ true → hears s c marks p ≡ true
hears_from s [] marks p j l h t = grind arith
hears_from s (q ∷ c) [] p j l h t = grind arith
hears_from s (q ∷ c) (m ∷ marks) p zero l h t = grind arith
hears_from s (q ∷ c) (m ∷ marks) p (suc j) l h t = grind (arith, hears_from s c marks p j (omega arith) h t)

pub no_mark : (n i : ℕ) → Marked (replicate n false) i → ⊥
no_mark n i h = grind (arith, same_everywhere)

module _ (s : Site) (c : List ℕ) where
  pub reached_in : {i : ℕ} → Reached s c i → i < length c
  reached_in (straight l t) = l
  reached_in (relayed r l t) = l

  pub length_rounds : (k : ℕ) → length (rounds k s c) ≡ length c
  length_rounds zero = length-replicate (length c) false
  length_rounds (suc k) = length-map c _

  -- One spread, at carrier i.

  pub spread_at : (marks : List Bool) (i : ℕ) → i < length c → get_or (spread s c marks) i false ≡ (s.in_contact s.base (get_or c i 0) || hears s c marks (get_or c i 0))
  spread_at marks i l = get_or-map _ c i 0 false l

  pub spread_in : (marks : List Bool) (i : ℕ) → Marked (spread s c marks) i → i < length c
  spread_in marks i h = rw length-map at (marked_in (spread s c marks) i h)

  pub spread_cases : (marks : List Bool) (i : ℕ) → Marked (spread s c marks) i → (s.in_contact s.base (get_or c i 0) ≡ true) ⊎ Heard s c marks (get_or c i 0)
  spread_cases marks i h = ⊎_elim inl (λ t. inr (heard s c marks _ t)) (or_cases _ _ (rw (← spread_at marks i (spread_in marks i h)) h))

  pub spread_straight : (marks : List Bool) (i : ℕ) → i < length c → s.in_contact s.base (get_or c i 0) ≡ true → Marked (spread s c marks) i
  spread_straight marks i l t = grind (arith, spread_at)

  pub spread_relayed : (marks : List Bool) (i j : ℕ) → i < length c → j < length c → Marked marks j → s.in_contact (get_or c j 0) (get_or c i 0) ≡ true → Marked (spread s c marks) i
  spread_relayed marks i j l k h t = grind (arith, spread_at, hears_from s c marks (get_or c i 0) j k h t)

  spread_all_of : (marks more : List Bool) → AllOf marks more → AllOf (spread s c marks) (spread s c more)
  spread_all_of marks more a i h =
      let l = spread_in marks i h in
      ⊎_elim (spread_straight more i l) (λ (j, k, m, t). spread_relayed more i j l k (a j m) t) (spread_cases marks i h)

  -- Whom a round marks is reached.

  reached_of_round : (k i : ℕ) → Marked (rounds k s c) i → Reached s c i
  reached_of_round zero i h = absurd (no_mark (length c) i h)
  reached_of_round (suc k) i h =
      let l = spread_in (rounds k s c) i h in
      ⊎_elim (straight l) (λ (j, _, m, t). relayed (reached_of_round k j m) l t) (spread_cases (rounds k s c) i h)

  -- No round loses a mark, and as many rounds as there are carriers come to rest.

  pub rounds_all_of : (k : ℕ) → AllOf (rounds k s c) (rounds (suc k) s c)
  rounds_all_of zero i h = absurd (no_mark (length c) i h)
  rounds_all_of (suc k) i h = spread_all_of (rounds k s c) (rounds (suc k) s c) (rounds_all_of k) i h

  same_or_more : (k : ℕ) → (rounds k s c ≡ rounds (suc k) s c) ⊎ (count (rounds k s c) < count (rounds (suc k) s c))
  same_or_more k = more_or_same _ _ (omega (arith, length_rounds)) (rounds_all_of k)

  rest_or_marks : (k : ℕ) → (rounds k s c ≡ rounds (suc k) s c) ⊎ (k < count (rounds (suc k) s c))
  rest_or_marks zero = grind (arith, same_or_more 0)
  rest_or_marks (suc k) = grind (arith, same_or_more (suc k), rest_or_marks k)

  pub rounds_rest : reached_marks s c ≡ spread s c (reached_marks s c)
  rounds_rest = grind (arith, rest_or_marks (length c), count_le_length (rounds (suc (length c)) s c), length_rounds (suc (length c)))

  -- Once a round adds nothing, no later one does.
  pub rounds_stay : (k : ℕ) → rounds (suc k) s c ≡ rounds k s c → (n : ℕ) → k ≤ n → rounds n s c ≡ rounds k s c
  rounds_stay k e zero l = let same : k ≡ 0 = omega arith in rw same
  rounds_stay k e (suc n) l = ⊎_elim (λ same. rw same) (λ other. rw (rounds_stay k e n (omega arith)) e) (cases_eq k (suc n))

  -- So whoever is reached is marked.

  marked_of_reached : {i : ℕ} → Reached s c i → Marked (reached_marks s c) i
  marked_of_reached (straight {i} l t) = rw rounds_rest (spread_straight (reached_marks s c) i l t)
  marked_of_reached (relayed {i} {j} r l t) = rw rounds_rest (spread_relayed (reached_marks s c) i j l (reached_in r) (marked_of_reached r) t)

  pub marked_iff_reached : (i : ℕ) → Marked (reached_marks s c) i ↔ Reached s c i
  marked_iff_reached i = (reached_of_round (length c) i, marked_of_reached)

-- The first mark that is missing has index j.
record FirstUnmarked (marks : List Bool) (j : ℕ) : Type 0 where
  pub inside : j < length marks
  pub unmarked : get_or marks j false ≡ false
  pub before : (i : ℕ) → i < j → Marked marks i

first_unmarked_is : (k : ℕ) (marks : List Bool) (n : ℕ) → first_unmarked k marks ≡ Some n → (j : ℕ) × (n ≡ k + j) × FirstUnmarked marks j
first_unmarked_is k [] n e = cc
first_unmarked_is k (false ∷ marks) n e =
    let same : k ≡ n = cc in
    (0, omega arith, record { inside = omega arith; unmarked = refl; before = λ i l. absurd (omega arith) })
first_unmarked_is k (true ∷ marks) n e =
    let (j, at, f) = first_unmarked_is (suc k) marks n e in
    (suc j, omega arith, record { inside = omega (arith, f.inside); unmarked = f.unmarked; before = from_first (Marked (true ∷ marks)) refl f.before })

-- No mark is missing.

all_marked : (k : ℕ) (marks : List Bool) → not (is_some (first_unmarked k marks)) ≡ true → (i : ℕ) → i < length marks → Marked marks i
all_marked k [] e i l = grind arith
all_marked k (false ∷ marks) e i l = grind arith
all_marked k (true ∷ marks) e i l = from_first (Marked (true ∷ marks)) refl (all_marked (suc k) marks e) i l

none_unmarked : (k : ℕ) (marks : List Bool) → ((i : ℕ) → i < length marks → Marked marks i) → not (is_some (first_unmarked k marks)) ≡ true
none_unmarked k [] h = refl
none_unmarked k (false ∷ marks) h = grind (arith, h 0)
none_unmarked k (true ∷ marks) h = none_unmarked (suc k) marks (λ i l. h (suc i) (omega arith))

-- Contact, and the lost carrier.

module _ (s : Site) (c : List ℕ) where
  pub connected_is_contact : (is_connected s c ≡ true) ↔ Connected s c
  connected_is_contact = (
    λ e i l. (marked_iff_reached s c i).0 (all_marked 1 (reached_marks s c) e i (rw length_rounds l)),
    λ r. none_unmarked 1 (reached_marks s c) (λ i l. (marked_iff_reached s c i).1 (r i (rw length_rounds at l))),
  )

  pub out_of_contact : (Connected s c → ⊥) → is_connected s c ≡ false
  out_of_contact out = false_from_ne_true _ (λ e. out (connected_is_contact.0 e))

  pub lost_is_lowest : (k : ℕ) → lost s c ≡ Some k → (i : ℕ) × (k ≡ suc i) × (i < length c) × (Reached s c i → ⊥) × ((j : ℕ) → j < i → Reached s c j)
  lost_is_lowest k e =
      let (i, at, f) = first_unmarked_is 1 (reached_marks s c) k e in (
        i,
        omega arith,
        rw length_rounds at f.inside,
        λ r. both_ways _ f.unmarked ((marked_iff_reached s c i).1 r),
        λ j l. (marked_iff_reached s c j).0 (f.before j l),
      )

pub contact_is_computed : ContactIsComputed
contact_is_computed = record { marked_are_reached = marked_iff_reached; connected_is_contact = connected_is_contact; lost_is_lowest = lost_is_lowest }
