-- Tasks and plans: what is to be found.
use Rattle.std.specs.Prelude.{◌≡◌, ℕ, suc, ◌<◌, ◌≤◌, true, List, length, slice_index}
use Rattle.model.specs.Contact.{Connected}
use Rattle.model.specs.Site.{Site}

-- Where each carrier (an agent) starts, where it is to go, carrier 1 first, and by which moment (a time step) at the latest.
pub record Task : Type 0 where
  pub starts : List ℕ
  pub goals : List ℕ
  pub horizon : ℕ

-- `plan m` is the configuration at moment m. A plan (a connected execution) of so many steps (its makespan) leads from the
-- starts to the goals, each carrier by moves and through open places, with every configuration in contact.
pub record IsPlan (s : Site) (t : Task) (steps : ℕ) (plan : ℕ → List ℕ) : Type 0 where
  pub everyone : (m : ℕ) → m ≤ steps → length (plan m) ≡ length t.starts
  pub begins : plan 0 ≡ t.starts
  pub ends : plan steps ≡ t.goals
  pub moves : (m i : ℕ) → m < steps → i < length t.starts → s.has_move (slice_index (plan m) i) (slice_index (plan (suc m)) i) ≡ true
  pub through_open : (m i : ℕ) → m ≤ steps → i < length t.starts → s.is_open (slice_index (plan m) i) ≡ true
  pub connected : (m : ℕ) → m ≤ steps → Connected s (plan m)

-- No plan within the horizon exists.
abbrev pub NoPlanExists : Site → Task → Type 0
NoPlanExists s t = (steps : ℕ) (plan : ℕ → List ℕ) → steps ≤ t.horizon → ¬ IsPlan s t steps plan

-- No plan, however long, has fewer steps.
abbrev pub NoPlanBelow : Site → Task → ℕ → Type 0
NoPlanBelow s t floor = (steps : ℕ) (plan : ℕ → List ℕ) → IsPlan s t steps plan → floor ≤ steps
