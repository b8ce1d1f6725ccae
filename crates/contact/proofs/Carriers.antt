-- Carriers by their number.
use Rattle.std.proofs.Common.{◌≡◌, ℕ, zero, suc, ◌+◌, Bool, false, not, List, [], ◌∷◌, map, length, Some, None, Option, refl, ap, ◌∙◌, arith}
use Rattle.std.proofs.lemmas.List.{get_or_past}
use Rattle.std.proofs.lemmas.Iterator.Adapters.{position_from-zero}
use Rattle.std.proofs.lemmas.Option.{slice_get_within, slice_get_cases, get_or_from_slice_get}
use Rattle.std.specs.List.{position, position_from}
use Rattle.std.specs.Option.{option_map}
use Rattle.model.specs.Site.{Site}
use Rattle.model.specs.Contact.{is_reached, first_unmarked, lost, reached_marks}
use Rattle.model.proofs.Contact.{length_rounds}
use Rattle.contact.specs.declared.marking.Marking.{Marking}
use Rattle.contact.specs.Carrier.{find_place}
use Rattle.contact.specs.Marking.{is_marked, IsAfter}
use Rattle.contact.proofs.Marks.{marked_is}

-- A number that is no carrier's is not reached.
pub no_carrier : (s : Site) (c : List ℕ) (k : ℕ) → find_place c k ≡ None → is_reached s c k ≡ false
no_carrier s c zero none = refl
no_carrier s c (suc i) none = grind (arith, slice_get_cases c i, get_or_past (reached_marks s c) i false, length_rounds s c (length c))

-- The first that is not marked, by its index and by its number.
first_is : (marked : ℕ → Bool) (c : List ℕ) (k : ℕ) → option_map (λ i. i + 1) (position_from (λ p. not (marked p)) k c) ≡ first_unmarked (k + 1) (map marked c)
first_is marked [] k = refl
first_is marked (q ∷ c) k = grind (arith, first_is marked c (k + 1))

module _ {S : Type 0} (meaning : S → Site) (site : S) (c : List ℕ) (m : Marking S) (after : IsAfter meaning site c (length c) m) where
  -- After all rounds, a carrier stands at a marked place if it is reached.
  pub reached_is : (k p : ℕ) → find_place c k ≡ Some p → is_marked m p ≡ is_reached (meaning site) c k
  reached_is zero p some = cc
  reached_is (suc i) p some = cc (get_or_from_slice_get c i p 0 some, marked_is meaning site c (length c) m after i (slice_get_within c i p some))

  -- After all rounds, the first that stands at no marked place is lost.
  pub lost_is : (index : Option ℕ) → index ≡ position (λ p. not (is_marked m p)) m.configuration.now → option_map (λ i. i + 1) index ≡ lost (meaning site) c
  lost_is index found =
      ap (option_map (λ i. i + 1)) (found ∙ position_from-zero (λ p. not (is_marked m p)) m.configuration.now) ∙ first_is (is_marked m) m.configuration.now 0 ∙ ap (first_unmarked 1) after.marked
