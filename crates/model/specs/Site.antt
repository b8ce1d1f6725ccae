-- A site (a topological graph): numbered places with moves and radio contacts between them, one of them the base.
use Rattle.std.specs.Prelude.{◌≡◌, ℕ, ◌<◌, ◌≤◌, Bool, true, if◌then◌else◌, ◌==◌}
use Rattle.model.specs.Limits.{most_places}

-- A site's whole meaning is what it answers: how many places (vertices) there are, numbered from 0; which of them is the base;
-- whether carriers may stand at a place; whether one step leads from a place to another; whether carriers there hear each other.
pub record Site : Type 0 where
  pub places : ℕ
  pub base : ℕ
  pub is_open : ℕ → Bool
  pub has_move : ℕ → ℕ → Bool
  pub in_contact : ℕ → ℕ → Bool

-- What holds of every site. The base is a place; a number that is no place gets no; each place has a move and contact with
-- itself; moves and contacts hold both ways round. The base need not be open.
pub record Lawful (s : Site) : Type 0 where
  pub few_places : s.places ≤ most_places
  pub base_is_place : s.base < s.places
  pub open_is_place : (p : ℕ) → s.is_open p ≡ true → p < s.places
  pub move_is_place : (p q : ℕ) → s.has_move p q ≡ true → p < s.places
  pub contact_is_place : (p q : ℕ) → s.in_contact p q ≡ true → p < s.places
  pub self_move : (p : ℕ) → p < s.places → s.has_move p p ≡ true
  pub self_contact : (p : ℕ) → p < s.places → s.in_contact p p ≡ true
  pub move_both_ways : (p q : ℕ) → s.has_move p q ≡ s.has_move q p
  pub contact_both_ways : (p q : ℕ) → s.in_contact p q ≡ s.in_contact q p

-- The same answers, but for the place p, where it is v.
abbrev pub at_place : {A : Type 0} → ℕ → A → (ℕ → A) → ℕ → A
at_place p v f q = if q == p then v else f q
