-- What an execution is: the chosen path of every carrier; what it makes when nothing breaks contact; and where contact breaks first.
use Rattle.std.proofs.Common.{◌≡◌, ℕ, zero, suc, ◌+◌, ◌<◌, ◌≤◌, true, false, ◌⊎◌, List, [], ◌∷◌, length, get_or, Some, None, Option, refl, ap, ◌∙◌, ⊎_elim, arith}
use Rattle.std.proofs.Math.ListN.{get_or-map}
use Rattle.std.proofs.lemmas.List.{ext_get_or, length-map}
use Rattle.std.proofs.lemmas.List.Recursion.{max_bounds, max_least}
use Rattle.std.proofs.lemmas.Bool.{cases_lt, both_ways}
use Rattle.model.specs.declared.item.Condition.{Condition}
use Rattle.model.specs.Chosen.{chosen}
use Rattle.model.specs.Contact.{is_connected}
use Rattle.model.specs.Execution.{errand, with_path, chosen_paths, execution, latest, at_moment, first_break, no_path, ExecutionsAreChosen}
use Rattle.model.specs.Path.{TimedPath, IsChosen}
use Rattle.model.specs.Plan.{Task, IsPlan}
use Rattle.model.specs.Site.{Site, Lawful}
use Rattle.model.specs.State.{Problem}
use Rattle.model.proofs.Chosen.{chosen_sound, nothing_chosen, chosen_no_sooner}
use Rattle.model.proofs.Contact.{connected_is_contact}
use Rattle.model.proofs.Tables.{from_first}

-- how many carriers there are
abbrev pub carriers : Problem → ℕ
carriers p = length p.task.starts

-- Every arrival is at most the latest, and the latest is the least such number.
pub arrival_at_most : (x : List TimedPath) (i : ℕ) → i < length x → (get_or x i no_path).arrival ≤ latest x
arrival_at_most x i h = max_bounds latest (λ t. t.arrival) refl (λ _ _. refl) x i no_path h

pub latest_at_most : (x : List TimedPath) (b : ℕ) → ((i : ℕ) → i < length x → (get_or x i no_path).arrival ≤ b) → latest x ≤ b
latest_at_most x b h = max_least latest (λ t. t.arrival) refl (λ _ _. refl) x no_path b h

-- The execution has one chosen path for every carrier.
pub record Executes (p : Problem) (cs : List Condition) (x : List TimedPath) : Type 0 where
  pub everyone : length x ≡ carriers p
  pub chosen_path : (i : ℕ) → i < carriers p → chosen p.site (errand p.task cs i) ≡ Some (get_or x i no_path)

-- A path more and the others make an execution only if both are there.
with_path_parts : (c : Option TimedPath) (r : Option (List TimedPath)) (x : List TimedPath) → with_path c r ≡ Some x
    → (p : TimedPath) × (ps : List TimedPath) × (c ≡ Some p) × (r ≡ Some ps) × (x ≡ p ∷ ps)
with_path_parts None r x e = cc
with_path_parts (Some p) None x e = cc
with_path_parts (Some p) (Some ps) x e = (p, ps, refl, refl, cc)

with_path_lacks : (c : Option TimedPath) (r : Option (List TimedPath)) → with_path c r ≡ None → (c ≡ None) ⊎ (r ≡ None)
with_path_lacks c r e = grind arith

module _ (s : Site) (t : Task) (cs : List Condition) where
  -- the chosen paths of the k carriers from index i on
  pub record Choices (i k : ℕ) (x : List TimedPath) : Type 0 where
    pub so_many : length x ≡ k
    pub each : (j : ℕ) → j < k → chosen s (errand t cs (i + j)) ≡ Some (get_or x j no_path)

  choices_more : (i k : ℕ) (c : TimedPath) (x : List TimedPath) → chosen s (errand t cs i) ≡ Some c → Choices (suc i) k x → Choices i (suc k) (c ∷ x)
  choices_more i k c x here rest = record {
    so_many = ap suc rest.so_many;
    each = from_first (λ j. chosen s (errand t cs (i + j)) ≡ Some (get_or (c ∷ x) j no_path)) (grind (arith, here)) (λ j l. grind (arith, rest.each j l));
  }

  choices : (i k : ℕ) (x : List TimedPath) → chosen_paths s t cs i k ≡ Some x → Choices i k x
  choices i zero x e = let none : x ≡ [] = cc in rw none (record { so_many = refl; each = λ j h. absurd (omega arith) })
  choices i (suc k) x e =
      let (c, y, here, rest, all) = with_path_parts (chosen s (errand t cs i)) (chosen_paths s t cs (suc i) k) x e in
      rw all (choices_more i k c y here (choices (suc i) k y rest))

  -- If every carrier has a chosen path, there is an execution.
  all_chosen : (i k : ℕ) → ((j : ℕ) → j < k → (c : TimedPath) × (chosen s (errand t cs (i + j)) ≡ Some c)) → (x : List TimedPath) × (chosen_paths s t cs i k ≡ Some x)
  all_chosen i zero h = ([], refl)
  all_chosen i (suc k) h =
      let (c, here) = h zero (omega arith) in
      let (x, rest) = all_chosen (suc i) k (λ j l. let (d, more) = h (suc j) (omega arith) in (d, grind (arith, more))) in
      (c ∷ x, grind (arith, here, rest))

  -- If there is none, some carrier has no chosen path.
  some_lacks : (i k : ℕ) → chosen_paths s t cs i k ≡ None → (j : ℕ) × (j < k) × (chosen s (errand t cs (i + j)) ≡ None)
  some_lacks i zero e = cc
  some_lacks i (suc k) e = ⊎_elim
      (λ here. (0, omega arith, grind (arith, here)))
      (λ later. let (j, l, none) = some_lacks (suc i) k later in (suc j, omega arith, grind (arith, none)))
      (with_path_lacks (chosen s (errand t cs i)) (chosen_paths s t cs (suc i) k) e)

pub executes : (p : Problem) (cs : List Condition) (x : List TimedPath) → execution p.site p.task cs ≡ Some x → Executes p cs x
executes p cs x e = record { everyone = all.so_many; chosen_path = λ i h. grind (arith, all.each i h) }
  where
    all : Choices p.site p.task cs 0 (carriers p) x
    all = choices p.site p.task cs 0 (carriers p) x e

pub execution_exists : (p : Problem) (cs : List Condition) → ((i : ℕ) → i < carriers p → (c : TimedPath) × (chosen p.site (errand p.task cs i) ≡ Some c)) → (x : List TimedPath) × (execution p.site p.task cs ≡ Some x)
execution_exists p cs h = all_chosen p.site p.task cs 0 (carriers p) (λ i l. let (c, here) = h i l in (c, grind (arith, here)))

-- The place of the carrier at index i, and the configuration.
abbrev pub stands : List TimedPath → ℕ → ℕ → ℕ
stands x i m = get_or (get_or x i no_path).places m 0

pub at_moment_is : (x : List TimedPath) (m i : ℕ) → get_or (at_moment x m) i 0 ≡ stands x i m
at_moment_is x m i = get_or-map (λ (t : TimedPath). get_or t.places m 0) x i no_path

pub at_moment_length : {p : Problem} {cs : List Condition} {x : List TimedPath} → Executes p cs x → (m : ℕ) → length (at_moment x m) ≡ carriers p
at_moment_length {x = x} ex m = length-map x (λ t. get_or t.places m 0) ∙ ex.everyone

-- What executions do over a lawful site.
module _ (p : Problem) (lawful : Lawful p.site) where
  pub chosen_in : (cs : List Condition) (x : List TimedPath) → Executes p cs x → (i : ℕ) → i < carriers p
      → IsChosen p.site (errand p.task cs i) (get_or x i no_path)
  chosen_in cs x ex i h = chosen_sound p.site (errand p.task cs i) (get_or x i no_path) lawful (ex.chosen_path i h)

  pub latest_in_time : (cs : List Condition) (x : List TimedPath) → Executes p cs x → latest x ≤ p.task.horizon
  latest_in_time cs x ex = latest_at_most x p.task.horizon (λ i h. (chosen_in cs x ex i (omega (arith, ex.everyone))).arrives.in_time)

  -- One condition more never lowers the cost.
  pub cost_never_falls : (c : Condition) (cs : List Condition) (x y : List TimedPath) → Executes p cs x → Executes p (c ∷ cs) y → latest x ≤ latest y
  cost_never_falls c cs x y ex ey = latest_at_most x (latest y) each
    where
      each : (i : ℕ) → i < length x → (get_or x i no_path).arrival ≤ latest y
      each i h =
          let inside : i < carriers p = omega (arith, ex.everyone) in
          let no_sooner = chosen_no_sooner p.site (errand p.task cs i) c (get_or x i no_path) (get_or y i no_path) lawful (ex.chosen_path i inside) (ey.chosen_path i inside) in
          omega (arith, arrival_at_most y i)

  -- An execution that is in contact up to its cost is a plan of so many steps.
  pub unbroken_is_plan : (cs : List Condition) (x : List TimedPath) → length p.task.starts ≡ length p.task.goals → Executes p cs x
      → ((m : ℕ) → m ≤ latest x → is_connected p.site (at_moment x m) ≡ true) → IsPlan p.site p.task (latest x) (at_moment x)
  unbroken_is_plan cs x crew ex unbroken = record {
    everyone = λ m h. at_moment_length ex m;
    begins = ext_get_or 0 (at_moment x 0) p.task.starts (at_moment_length ex 0)
        (λ i h. at_moment_is x 0 i ∙ (way i (omega (arith, at_moment_length ex 0))).is_path.begins);
    ends = ext_get_or 0 (at_moment x (latest x)) p.task.goals (at_moment_length ex (latest x) ∙ crew)
        (λ i h. at_moment_is x (latest x) i ∙ at_goal i (omega (arith, at_moment_length ex (latest x))));
    moves = λ m i h k. rw (at_moment_is x m i, at_moment_is x (suc m) i) ((way i k).is_path.moves m (omega (arith, in_time)));
    through_open = λ m i h k. rw (at_moment_is x m i) ((way i k).is_path.through_open m (omega (arith, in_time)));
    connected = λ m h. (connected_is_contact p.site (at_moment x m)).0 (unbroken m h);
  }
    where
      in_time : latest x ≤ p.task.horizon
      in_time = latest_in_time cs x ex

      way : (i : ℕ) → i < carriers p → IsChosen p.site (errand p.task cs i) (get_or x i no_path)
      way i h = chosen_in cs x ex i h

      at_goal : (i : ℕ) → i < carriers p → stands x i (latest x) ≡ get_or p.task.goals i 0
      at_goal i h = (way i h).arrives.stays (latest x) (arrival_at_most x i (omega (arith, ex.everyone))) in_time

-- Breaks.

module _ (s : Site) (x : List TimedPath) where
  -- If there is no break, contact is kept throughout.
  pub unbroken : (m k : ℕ) → first_break s x m k ≡ None → (j : ℕ) → m ≤ j → j < m + k → is_connected s (at_moment x j) ≡ true
  unbroken m zero e j low high = absurd (omega arith)
  unbroken m (suc k) e j low high = grind (arith, unbroken (suc m) k)

  -- At a break contact is lost.
  pub broken : (m k b : ℕ) → first_break s x m k ≡ Some b → (b < m + k) × (is_connected s (at_moment x b) ≡ false)
  broken m zero b e = cc
  broken m (suc k) b e = grind (arith, broken (suc m) k b)

  -- and before it, it is kept.
  before_break : (m k b : ℕ) → first_break s x m k ≡ Some b → (j : ℕ) → m ≤ j → j < b → is_connected s (at_moment x j) ≡ true
  before_break m zero b e j low high = cc
  before_break m (suc k) b e j low high = grind (arith, before_break (suc m) k b)

pub latest_is_one : (x : List TimedPath) → 1 ≤ length x → (i : ℕ) × (i < length x) × ((get_or x i no_path).arrival ≡ latest x)
latest_is_one [] h = absurd (omega arith)
latest_is_one (t ∷ []) h = (0, omega arith, omega arith)
latest_is_one (t ∷ u ∷ x) h =
    let (i, l, is) = latest_is_one (u ∷ x) (omega arith) in
    ⊎_elim (λ (later : t.arrival < latest (u ∷ x)). (suc i, omega arith, omega arith)) (λ (sooner : latest (u ∷ x) ≤ t.arrival). (0, omega arith, omega arith))
    (cases_lt t.arrival (latest (u ∷ x)))

pub executions_are_chosen : ExecutionsAreChosen
executions_are_chosen = record {
  a_path_for_each = λ s t cs xs e. (choices s t cs 0 (length t.starts) xs e).so_many;
  each_is_chosen = λ s t cs xs lawful e i l.
      chosen_sound s (errand t cs i) (get_or xs i no_path) lawful (grind (arith, (choices s t cs 0 (length t.starts) xs e).each i l));
  none_lacks_a_path = λ s t cs lawful e.
      let (i, l, none) = some_lacks s t cs 0 (length t.starts) e in
      (i, l, λ q path. nothing_chosen s (errand t cs i) q lawful (grind (arith, none)) path);
  no_arrival_later = arrival_at_most;
  one_arrives_then = latest_is_one;
  broken_first_there = λ s xs k m e.
      let (l, lack) = broken s xs 0 k m e in (
        omega arith,
        (λ there. both_ways _ lack ((connected_is_contact s (at_moment xs m)).1 there)),
        λ j h. (connected_is_contact s (at_moment xs j)).0 (before_break s xs 0 k m e j (omega arith) h),
      );
  never_broken = λ s xs k e j h. (connected_is_contact s (at_moment xs j)).0 (unbroken s xs 0 k e j (omega arith) (omega arith));
}
