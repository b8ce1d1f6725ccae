-- The computed path is the chosen one.
use Rattle.std.proofs.Common.{◌≡◌, ℕ, zero, suc, ◌+◌, ◌-◌, ◌<◌, ◌≤◌, Bool, true, if◌then◌else◌, ◌&&◌, ◌==◌, ◌↔◌, List, [], ◌∷◌, map, length, slice_index, slice_index_or, Some, None, ◌⊎◌, Option, sym, refl, inl, inr, ap, ◌∙◌, ⊎_elim, zero-add, arith}
use mathlib.Core.Bool.{beq}
use mathlib.Core.List.Memᴰ
use mathlib.Core.List.{Memᴰ}
use Rattle.std.specs.List.{range_with_len}
use Rattle.std.proofs.lemmas.List.{get_or_past, ext_get_or}
use Rattle.std.proofs.lemmas.List.FromFn.{get_or-map-range_with_len, length-map-range_with_len}
use Rattle.std.proofs.lemmas.Bool.Decides.{nat_tests}
use Rattle.std.proofs.lemmas.Bool.{and_parts, and_from, cases_lt, cases_eq, cond_both, both_ways}
use Rattle.model.specs.declared.item.Condition.{Condition}
use Rattle.model.specs.declared.item.Demand.{Demand}
use Rattle.model.specs.Chosen.{allowed, may_stand, onward, ways, first_way, arriving, least_arrival, chosen, PathsAreComputed}
use Rattle.model.specs.Item.{Meets, must_be}
use Rattle.model.specs.Path.{Errand, under, IsPath, Stays, Arrives, NotAfter, TimedPath, IsChosen}
use Rattle.model.specs.Site.{Site, Lawful}

-- The first in order of the lists that are G, or that there is none.
abbrev FirstOf : (List ℕ → Type 0) → Option (List ℕ) → Type 0
FirstOf G None = (q : List ℕ) → G q → ⊥
FirstOf G (Some p) = G p × ((q : List ℕ) → G q → NotAfter p q)

first_of_same : (G H : List ℕ → Type 0) → ((q : List ℕ) → G q ↔ H q) → (o : Option (List ℕ)) → FirstOf G o → FirstOf H o
first_of_same G H same None h = λ q t. h q ((same q).1 t)
first_of_same G H same (Some p) h = ((same p).0 h.0, λ q t. h.1 q ((same q).1 t))

not_after_cons : (a b : ℕ) (p q : List ℕ) → a ≤ b → (a ≡ b → NotAfter p q) → NotAfter (a ∷ p) (b ∷ q)
not_after_cons a b p q l h zero agree = l
not_after_cons a b p q l h (suc m) agree = h (agree 0 (omega arith)) m (λ j k. agree (suc j) (omega arith))

-- A step to a place from q on, with a way that is G from there.
abbrev Step : (ℕ → Bool) → (ℕ → List ℕ → Type 0) → ℕ → List ℕ → Type 0
Step move G q [] = ⊥
Step move G q (r ∷ w) = (q ≤ r) × (move r ≡ true) × G r w

module _ (move : ℕ → Bool) (G : ℕ → List ℕ → Type 0) where
  step_later : (q : ℕ) → ((w : List ℕ) → move q ≡ true → G q w → ⊥) → (w : List ℕ) → Step move G (suc q) w ↔ Step move G q w
  step_later q never [] = grind arith
  step_later q never (r ∷ w) = grind (arith, never w)

  step_first : (q : ℕ) (way : List ℕ) → move q ≡ true → FirstOf (G q) (Some way) → FirstOf (Step move G q) (Some (q ∷ way))
  step_first q way m (g, first) = ((omega arith, m, g), least)
    where
      least : (w : List ℕ) → Step move G q w → NotAfter (q ∷ way) w
      least [] t = absurd t
      least (r ∷ w) (l, _, t) = not_after_cons q r way w l (λ e. first w (rw e t))

  onward_first : (q : ℕ) (ways : List (Option (List ℕ))) → ((j r : ℕ) → q + j ≡ r → FirstOf (G r) (slice_index_or ways j None)) → FirstOf (Step move G q) (onward move q ways)
  onward_first q [] h = none
    where
      none : (w : List ℕ) → Step move G q w → ⊥
      none [] t = t
      none (r ∷ w) (l, _, g) = h (r - q) r (omega arith) w g
  onward_first q (None ∷ ways) h =
      first_of_same _ _ (step_later q (λ w m g. h 0 q (omega arith) w g)) _ (onward_first (suc q) ways (λ j r e. h (suc j) r (omega arith)))
  onward_first q (Some way ∷ ways) h =
      let later = onward_first (suc q) ways (λ j r e. h (suc j) r (omega arith)) in
      cond_both (move q) _ _ (FirstOf (Step move G q)) (λ m. step_first q way m (h 0 q (omega arith)))
      (λ m. first_of_same _ _ (step_later q (λ w n g. both_ways _ m n)) _ later)

  onward_first_of_all : (ways : List (Option (List ℕ))) → ((r : ℕ) → FirstOf (G r) (slice_index_or ways r None)) → FirstOf (Step move G 0) (onward move 0 ways)
  onward_first_of_all ways h = onward_first 0 ways (λ j r at. rw (← at, zero-add) (h j))

-- A table of the first ways from each place.
table_first : (n : ℕ) (f : ℕ → Option (List ℕ)) (G : ℕ → List ℕ → Type 0) → ((p : ℕ) → FirstOf (G p) (f p)) → ((p : ℕ) (w : List ℕ) → G p w → p < n)
    → (p : ℕ) → FirstOf (G p) (slice_index_or (map f (range_with_len 0 n)) p None)
table_first n f G h inside p = ⊎_elim
    (λ l. rw (get_or-map-range_with_len f 0 n p p None l (omega arith)) (h p))
    (λ l. rw (get_or_past (map f (range_with_len 0 n)) p None (rw length-map-range_with_len l)) (λ w g. absurd (omega (arith, inside p w g))))
    (cases_lt p n)

-- A way onward from p at moment m, which is k moments before the horizon: the places after p, the last of them the goal.
abbrev Way : Site → Errand → ℕ → ℕ → ℕ → ℕ → List ℕ → Type 0
Way s e b zero m p [] = (may_stand s e b m p ≡ true) × (p ≡ e.goal)
Way s e b zero m p (q ∷ w) = ⊥
Way s e b (suc k) m p [] = ⊥
Way s e b (suc k) m p (q ∷ w) = (may_stand s e b m p ≡ true) × (s.has_move p q ≡ true) × Way s e b k (suc m) q w

module _ (s : Site) (e : Errand) (b : ℕ) where
  way_stands : (k m p : ℕ) (w : List ℕ) → Way s e b k m p w → may_stand s e b m p ≡ true
  way_stands k m p w h = grind arith

  way_inside : Lawful s → (k m p : ℕ) (w : List ℕ) → Way s e b k m p w → p < s.places
  way_inside lawful k m p w h = lawful.open_is_place p (grind (arith, way_stands k m p w h))

  last_first : (m p : ℕ) → FirstOf (Way s e b 0 m p) (if may_stand s e b m p && p == e.goal then Some [] else None)
  last_first m p = cond_both (may_stand s e b m p && p == e.goal) _ _ (FirstOf (Way s e b 0 m p))
      (λ there. (grind (arith, nat_tests), λ q g j _. grind arith))
      (λ not_there q g. grind (arith, nat_tests))

  step_way : (k m p : ℕ) → may_stand s e b m p ≡ true → (w : List ℕ) → Step (s.has_move p) (Way s e b k (suc m)) 0 w ↔ Way s e b (suc k) m p w
  step_way k m p stand w = grind arith

  next_first : (k m p : ℕ) (next : List (Option (List ℕ))) → ((q : ℕ) → FirstOf (Way s e b k (suc m) q) (slice_index_or next q None))
      → FirstOf (Way s e b (suc k) m p) (if may_stand s e b m p then onward (s.has_move p) 0 next else None)
  next_first k m p next h = cond_both (may_stand s e b m p) _ _ (FirstOf (Way s e b (suc k) m p))
      (λ stand. first_of_same _ _ (step_way k m p stand) _ (onward_first_of_all (s.has_move p) (Way s e b k (suc m)) next h))
      (λ closed w g. grind (arith, way_stands (suc k) m p w g))

  ways_first : Lawful s → (k m p : ℕ) → FirstOf (Way s e b k m p) (slice_index_or (ways s e b m k) p None)
  ways_first lawful zero m p = table_first s.places _ (Way s e b 0 m) (last_first m) (way_inside lawful 0 m) p
  ways_first lawful (suc k) m p =
      table_first s.places _ (Way s e b (suc k) m) (λ q. next_first k m q (ways s e b (suc m) k) (ways_first lawful k (suc m))) (way_inside lawful (suc k) m) p

-- What `may_stand` says.

-- Standing at p at moment m, carrier a keeps the condition.
abbrev pub Keeps : ℕ → ℕ → ℕ → Condition → Type 0
Keeps a m p c = c.item.carrier ≡ a → c.moment ≡ m → Meets c.item.demand c.item.place p

-- The carrier may stand at p at moment m, if it is to be at the goal from moment b on.
record Stands (s : Site) (e : Errand) (b m p : ℕ) : Type 0 where
  pub open_place : s.is_open p ≡ true
  pub keeps : (c : Condition) → Memᴰ c e.conditions → Keeps e.carrier m p c
  pub at_goal : b ≤ m → p ≡ e.goal

meets : (d : Demand) (q p : ℕ) → beq (p == q) (must_be d) ≡ true → Meets d q p
meets d q p h = grind (arith, nat_tests)

test_of_meets : (d : Demand) (q p : ℕ) → Meets d q p → beq (p == q) (must_be d) ≡ true
test_of_meets d q p h = grind (arith, nat_tests)

keeps_one : (a m p : ℕ) (c : Condition) → (if c.item.carrier == a && c.moment == m then beq (p == c.item.place) (must_be c.item.demand) else true) ≡ true → Keeps a m p c
keeps_one a m p c h at on = meets c.item.demand c.item.place p (grind (arith, nat_tests))

test_of_keeps : (a m p : ℕ) (c : Condition) → Keeps a m p c → (if c.item.carrier == a && c.moment == m then beq (p == c.item.place) (must_be c.item.demand) else true) ≡ true
test_of_keeps a m p c h = grind (arith, nat_tests, test_of_meets c.item.demand c.item.place p)

pub allowed_keeps : (a m p : ℕ) (cs : List Condition) → allowed a cs m p ≡ true → (c : Condition) → Memᴰ c cs → Keeps a m p c
allowed_keeps a m p [] h c t = elim t [ ]
allowed_keeps a m p (x ∷ cs) h c (Memᴰ.head e) = rw e (keeps_one a m p x (and_parts _ _ h).0)
allowed_keeps a m p (x ∷ cs) h c (Memᴰ.tail t) = allowed_keeps a m p cs (and_parts _ _ h).1 c t

pub allowed_of_keeps : (a m p : ℕ) (cs : List Condition) → ((c : Condition) → Memᴰ c cs → Keeps a m p c) → allowed a cs m p ≡ true
allowed_of_keeps a m p [] h = refl
allowed_of_keeps a m p (x ∷ cs) h = and_from _ _ (test_of_keeps a m p x (h x (Memᴰ.head refl))) (allowed_of_keeps a m p cs (λ c t. h c (Memᴰ.tail t)))

may_stand_stands : (s : Site) (e : Errand) (b m p : ℕ) → may_stand s e b m p ≡ true ↔ Stands s e b m p
may_stand_stands s e b m p = (to, from)
  where
    to : may_stand s e b m p ≡ true → Stands s e b m p
    to h = record { open_place = grind arith; keeps = allowed_keeps _ m p _ (grind arith); at_goal = λ l. grind (arith, nat_tests) }

    from : Stands s e b m p → may_stand s e b m p ≡ true
    from t = grind (arith, nat_tests, allowed_of_keeps e.carrier m p e.conditions t.keeps)

-- A way, moment by moment.

module _ (s : Site) (e : Errand) (b : ℕ) where
  way_long : (k m p : ℕ) (w : List ℕ) → Way s e b k m p w → length w ≡ k
  way_long zero m p w h = grind arith
  way_long (suc k) m p w h = grind (arith, way_long k (suc m))

  way_ends : (k m p : ℕ) (w : List ℕ) → Way s e b k m p w → slice_index (p ∷ w) k ≡ e.goal
  way_ends zero m p w h = grind arith
  way_ends (suc k) m p w h = grind (arith, way_ends k (suc m))

  way_moves : (k m p : ℕ) (w : List ℕ) → Way s e b k m p w → (i : ℕ) → i < k → s.has_move (slice_index (p ∷ w) i) (slice_index (p ∷ w) (suc i)) ≡ true
  way_moves zero m p w h i l = absurd (omega arith)
  way_moves (suc k) m p w h zero l = grind arith
  way_moves (suc k) m p w h (suc i) l = grind (arith, way_moves k (suc m))

  way_at : (k m p : ℕ) (w : List ℕ) → Way s e b k m p w → (i j : ℕ) → m + i ≡ j → i ≤ k → may_stand s e b j (slice_index (p ∷ w) i) ≡ true
  way_at k m p w h zero j at l = grind (arith, way_stands s e b k m p w h)
  way_at zero m p w h (suc i) j at l = absurd (omega arith)
  way_at (suc k) m p w h (suc i) j at l = grind (arith, way_at k (suc m))

  way_from : (k m p : ℕ) (w : List ℕ) → length w ≡ k → ((i j : ℕ) → m + i ≡ j → i ≤ k → may_stand s e b j (slice_index (p ∷ w) i) ≡ true)
      → ((i : ℕ) → i < k → s.has_move (slice_index (p ∷ w) i) (slice_index (p ∷ w) (suc i)) ≡ true) → slice_index (p ∷ w) k ≡ e.goal → Way s e b k m p w
  way_from zero m p w long stand move ends = grind (arith, stand 0 m)
  way_from (suc k) m p [] long stand move ends = absurd (omega arith)
  way_from (suc k) m p (q ∷ w) long stand move ends = (
    stand 0 m (omega arith) (omega arith),
    move 0 (omega arith),
    way_from k (suc m) q w (omega arith) (λ i j at l. stand (suc i) j (omega arith) (omega arith)) (λ i l. move (suc i) (omega arith)) ends,
  )

  -- The ways from the start are the paths that stay at the goal from moment b on.

  path_of_way : (w : List ℕ) → Way s e b e.horizon 0 e.start w → IsPath s e (e.start ∷ w) × Stays e (e.start ∷ w) b
  path_of_way w h = (
    record {
      long = ap suc (way_long e.horizon 0 e.start w h);
      begins = refl;
      ends = way_ends e.horizon 0 e.start w h;
      moves = way_moves e.horizon 0 e.start w h;
      through_open = λ m l. (stands m l).open_place;
      keeps = λ c t a l. (stands c.moment l).keeps c t a refl;
    },
    λ m l k. (stands m k).at_goal l,
  )
    where
      stands : (m : ℕ) → m ≤ e.horizon → Stands s e b m (slice_index (e.start ∷ w) m)
      stands m l = (may_stand_stands s e b m _).0 (way_at e.horizon 0 e.start w h m m (zero-add m) l)

  way_of_path : (w : List ℕ) → IsPath s e (e.start ∷ w) → Stays e (e.start ∷ w) b → Way s e b e.horizon 0 e.start w
  way_of_path w path stays = way_from e.horizon 0 e.start w (omega arith) stand path.moves path.ends
    where
      stand : (i j : ℕ) → 0 + i ≡ j → i ≤ e.horizon → may_stand s e b j (slice_index (e.start ∷ w) i) ≡ true
      stand i j at l = rw (← at, zero-add) ((may_stand_stands s e b i _).1 record {
        open_place = path.through_open i l;
        keeps = λ c t a on. rw on at (path.keeps c t a (omega arith));
        at_goal = λ k. stays i k l;
      })

-- A way onward from the start, to be at the goal from moment b on.
abbrev Onward : Site → Errand → ℕ → List ℕ → Type 0
Onward s e b w = Way s e b e.horizon 0 e.start w

onward_of_path : (s : Site) (e : Errand) (b : ℕ) (q : List ℕ) → IsPath s e q → Stays e q b → (w : List ℕ) × (e.start ∷ w ≡ q) × Onward s e b w
onward_of_path s e b [] path stays = absurd (omega arith)
onward_of_path s e b (p ∷ w) path stays =
    let same : p ∷ w ≡ e.start ∷ w = ap (λ x. x ∷ w) path.begins in
    (w, sym same, way_of_path s e b w (rw same at path) (rw same at stays))

-- Of the arrivals from b on, a is the least that has a way onward, and w is the first such way.
record Least (s : Site) (e : Errand) (b a : ℕ) (w : List ℕ) : Type 0 where
  pub way : Onward s e a w
  pub first : (q : List ℕ) → Onward s e a q → NotAfter w q
  pub least : (i : ℕ) (q : List ℕ) → b ≤ i → Onward s e i q → a ≤ i

-- The least of the k arrivals from b on, or that none of them has a way.
abbrev LeastOf : Site → Errand → ℕ → ℕ → Option TimedPath → Type 0
LeastOf s e b k None = (i : ℕ) (q : List ℕ) → b ≤ i → i < b + k → Onward s e i q → ⊥
LeastOf s e b k (Some x) = (w : List ℕ) × (e.start ∷ w ≡ x.places) × (x.arrival < b + k) × Least s e b x.arrival w

module _ (s : Site) (e : Errand) where
  arriving_least : (b k : ℕ) (o : Option (List ℕ)) (later : Option TimedPath) → FirstOf (Onward s e b) o → LeastOf s e (suc b) k later → LeastOf s e b (suc k) (arriving e.start b o later)
  arriving_least b k (Some w) later (way, first) h = (w, refl, omega arith, record { way = way; first = first; least = λ i q l _. l })
  arriving_least b k None None never h = λ i q l m g. grind (arith, never q, h i q)
  arriving_least b k None (Some x) never (w, at, l, h) = (
    w,
    at,
    omega arith,
    record {
      way = h.way;
      first = h.first;
      least = λ i q m g. grind (arith, never q, h.least i q);
    },
  )

  least_arrival_least : Lawful s → (k b : ℕ) → LeastOf s e b k (least_arrival s e b k)
  least_arrival_least lawful zero b = λ i q l m g. omega arith
  least_arrival_least lawful (suc k) b = arriving_least b k (first_way s e b) _ (ways_first s e b lawful e.horizon 0 e.start) (least_arrival_least lawful k (suc b))

  least_chosen : (a : ℕ) (w : List ℕ) → a < 0 + suc e.horizon → Least s e 0 a w → IsChosen s e (record { places = e.start ∷ w; arrival = a })
  least_chosen a w l h = let (path, stays) = path_of_way s e a w h.way in record {
    is_path = path;
    arrives = record { in_time = omega arith; stays = stays; not_sooner = λ b _ sooner. earliest _ b path sooner };
    earliest = λ q b path arrives. earliest q b path arrives.stays;
    first = λ q path arrives. first q (onward_of_path s e a q path arrives.stays);
  }
    where
      earliest : (q : List ℕ) (b : ℕ) → IsPath s e q → Stays e q b → a ≤ b
      earliest q b path stays = let (v, _, way) = onward_of_path s e b q path stays in h.least b v (omega arith) way

      first : (q : List ℕ) → (v : List ℕ) × (e.start ∷ v ≡ q) × Onward s e a v → NotAfter (e.start ∷ w) q
      first q (v, at, way) = rw at at (not_after_cons e.start e.start w v (omega arith) (λ _. h.first v way))

pub chosen_sound : (s : Site) (e : Errand) (x : TimedPath) → Lawful s → chosen s e ≡ Some x → IsChosen s e x
chosen_sound s e x lawful is =
    let (w, at, l, h) = rw is at (least_arrival_least s e lawful (suc e.horizon) 0) in
    rw at at (least_chosen s e x.arrival w l h)

-- A path is at the goal from the horizon on.
pub stays_at_end : (s : Site) (e : Errand) (q : List ℕ) → IsPath s e q → Stays e q e.horizon
stays_at_end s e q path m l k = let same : e.horizon ≡ m = omega arith in rw same at path.ends

pub nothing_chosen : (s : Site) (e : Errand) (q : List ℕ) → Lawful s → chosen s e ≡ None → IsPath s e q → ⊥
nothing_chosen s e q lawful none path =
    let (w, _, way) = onward_of_path s e e.horizon q path (stays_at_end s e q path) in
    (rw none at (least_arrival_least s e lawful (suc e.horizon) 0)) e.horizon w (omega arith) (omega arith) way

some_or_none : {A : Type 0} (o : Option A) → ((x : A) × (o ≡ Some x)) ⊎ (o ≡ None)
some_or_none (Some x) = inl (x, refl)
some_or_none None = inr refl

pub chosen_complete : (s : Site) (e : Errand) (q : List ℕ) → Lawful s → IsPath s e q → (x : TimedPath) × (chosen s e ≡ Some x)
chosen_complete s e q lawful path = ⊎_elim (λ found. found) (λ none. absurd (nothing_chosen s e q lawful none path)) (some_or_none (chosen s e))

pub chosen_none : (s : Site) (e : Errand) → Lawful s → ((q : List ℕ) → IsPath s e q → ⊥) → chosen s e ≡ None
chosen_none s e lawful never = ⊎_elim (λ (x, is). absurd (never x.places (chosen_sound s e x lawful is).is_path)) (λ none. none) (some_or_none (chosen s e))

-- There is one chosen path.

same_until : (p q : List ℕ) → NotAfter p q → NotAfter q p → (m j : ℕ) → j < m → slice_index p j ≡ slice_index q j
same_until p q h k zero j l = absurd (omega arith)
same_until p q h k (suc m) j l =
    let same = same_until p q h k m in
    grind (arith, h m same, k m (λ i t. sym (same i t)), same j)

pub chosen_unique : (s : Site) (e : Errand) (x y : TimedPath) → IsChosen s e x → IsChosen s e y → x ≡ y
chosen_unique s e x y cx cy = grind (arith, same, same_places)
  where
    same : x.arrival ≡ y.arrival
    same = omega (arith, cx.earliest y.places y.arrival cy.is_path cy.arrives, cy.earliest x.places x.arrival cx.is_path cx.arrives)

    x_first : NotAfter x.places y.places
    x_first = cx.first y.places cy.is_path (rw same cy.arrives)

    y_first : NotAfter y.places x.places
    y_first = cy.first x.places cx.is_path (rw same at cx.arrives)

    same_places : x.places ≡ y.places
    same_places = ext_get_or 0 x.places y.places (cx.is_path.long ∙ sym cy.is_path.long) (λ i l. same_until x.places y.places x_first y_first (suc i) i (omega arith))

pub chosen_is : (s : Site) (e : Errand) (x : TimedPath) → Lawful s → IsChosen s e x → chosen s e ≡ Some x
chosen_is s e x lawful h =
    let (y, is) = chosen_complete s e x.places lawful h.is_path in
    let same : y ≡ x = chosen_unique s e y x (chosen_sound s e y lawful is) h in
    is ∙ ap Some same

-- Every path has an arrival.

arrival_from : (e : Errand) (q : List ℕ) (b : ℕ) → b ≤ e.horizon → Stays e q b → (a : ℕ) × Arrives e q a
arrival_from e q zero l h = (0, record { in_time = l; stays = h; not_sooner = λ b _ _. omega arith })
arrival_from e q (suc b) l h = ⊎_elim
    (λ at. arrival_from e q b (omega arith) (λ m k n. grind (arith, at, h m)))
    (λ away. (suc b, record { in_time = l; stays = h; not_sooner = λ c _ sooner. grind (arith, away, sooner b) }))
    (cases_eq (slice_index q b) e.goal)

pub arrival_exists : (s : Site) (e : Errand) (q : List ℕ) → IsPath s e q → (a : ℕ) × Arrives e q a
arrival_exists s e q path = arrival_from e q e.horizon (omega arith) (stays_at_end s e q path)

pub arrives_once : (e : Errand) (q : List ℕ) (a b : ℕ) → Arrives e q a → Arrives e q b → a ≡ b
arrives_once e q a b h k = omega (arith, h.not_sooner b k.in_time k.stays, k.not_sooner a h.in_time h.stays)

-- The same errand under other conditions.

arrives_under : (e : Errand) (cs : List Condition) (q : List ℕ) (a : ℕ) → Arrives e q a → Arrives (under e cs) q a
arrives_under e cs q a h = assumption

chosen_under : (s : Site) (e : Errand) (cs : List Condition) (x : TimedPath) → ((q : List ℕ) → IsPath s e q ↔ IsPath s (under e cs) q) → IsChosen s e x → IsChosen s (under e cs) x
chosen_under s e cs x same h = record {
  is_path = (same x.places).0 h.is_path;
  arrives = arrives_under e cs x.places x.arrival h.arrives;
  earliest = λ q b path arrives. h.earliest q b ((same q).1 path) (arrives_under (under e cs) e.conditions q b arrives);
  first = λ q path arrives. h.first q ((same q).1 path) (arrives_under (under e cs) e.conditions q x.arrival arrives);
}

pub chosen_same : (s : Site) (e : Errand) (cs : List Condition) → Lawful s → ((q : List ℕ) → IsPath s e q ↔ IsPath s (under e cs) q) → chosen s e ≡ chosen s (under e cs)
chosen_same s e cs lawful same = ⊎_elim
    (λ (x, is). is ∙ sym (chosen_is s (under e cs) x lawful (chosen_under s e cs x same (chosen_sound s e x lawful is))))
    (λ none. none ∙ sym (chosen_none s (under e cs) lawful (λ q path. nothing_chosen s e q lawful none ((same q).1 path))))
    (some_or_none (chosen s e))

-- One condition more.

path_with_less : (s : Site) (e : Errand) (c : Condition) (q : List ℕ) → IsPath s (under e (c ∷ e.conditions)) q → IsPath s e q
path_with_less s e c q h = let kept = λ (d : Condition) (t : Memᴰ d e.conditions). h.keeps d (Memᴰ.tail t) in assumption

path_with_other : (s : Site) (e : Errand) (c : Condition) (q : List ℕ) → (c.item.carrier ≡ e.carrier → ⊥) → IsPath s e q → IsPath s (under e (c ∷ e.conditions)) q
path_with_other s e c q other h = record {
  long = h.long;
  begins = h.begins;
  ends = h.ends;
  moves = h.moves;
  through_open = h.through_open;
  keeps = λ d t own l. ⊎_elim (λ same. absurd (other (rw same at own))) (λ old. h.keeps d old own l) (Memᴰ.cases_cons t);
}

-- A condition on another carrier changes nothing.
pub chosen_with_other : (s : Site) (e : Errand) (c : Condition) → Lawful s → (c.item.carrier ≡ e.carrier → ⊥) → chosen s e ≡ chosen s (under e (c ∷ e.conditions))
chosen_with_other s e c lawful other = chosen_same s e (c ∷ e.conditions) lawful (λ q. (path_with_other s e c q other, path_with_less s e c q))

-- No condition makes the arrival earlier.
pub chosen_no_sooner : (s : Site) (e : Errand) (c : Condition) (x y : TimedPath) → Lawful s → chosen s e ≡ Some x → chosen s (under e (c ∷ e.conditions)) ≡ Some y → x.arrival ≤ y.arrival
chosen_no_sooner s e c x y lawful is js =
    let h = chosen_sound s (under e (c ∷ e.conditions)) y lawful js in
    (chosen_sound s e x lawful is).earliest y.places y.arrival (path_with_less s e c y.places h.is_path)
    (arrives_under (under e (c ∷ e.conditions)) e.conditions y.places y.arrival h.arrives)

pub paths_are_computed : PathsAreComputed
paths_are_computed = record {
  computed_is_chosen = λ s e x lawful. (chosen_sound s e x lawful, chosen_is s e x lawful);
  only_one = chosen_unique;
  none_is_no_path = λ s e lawful. ((λ none q path. nothing_chosen s e q lawful none path), chosen_none s e lawful);
  every_path_arrives = arrival_exists;
  arrives_once = arrives_once;
  others_do_not_count = chosen_with_other;
  no_sooner = chosen_no_sooner;
}
