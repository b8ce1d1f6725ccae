-- Marks on places, and how they spread.
use Rattle.std.proofs.Common.{◌≡◌, ℕ, suc, ◌+◌, ◌<◌, ◌≤◌, Bool, true, false, ◌&&◌, ◌||◌, List, [], ◌∷◌, map, length, get_or, replicate, is_some, Some, None, subst, sym, refl, ap, ◌∙◌, ⊎_elim, add-one, arith}
use Rattle.std.proofs.lemmas.Bool.{and_parts, cases_lt, or_cases}
use Rattle.std.proofs.lemmas.Grind.{common_steps}
use Rattle.std.proofs.lemmas.List.{get_or-map}
use Rattle.std.proofs.lemmas.List.Folds.{Any-from_list_any}
use Rattle.std.proofs.lemmas.List.Quantifiers.{position-Some}
use Rattle.std.specs.List.{list_any, position}
use Rattle.model.specs.Limits.{most_places}
use Rattle.model.specs.Site.{Site, Lawful}
use Rattle.model.specs.Contact.{hears, rounds}
use Rattle.model.proofs.Tables.{same_everywhere}
use Rattle.model.proofs.Contact.{spread_at, rounds_all_of, rounds_rest, rounds_stay}
use Rattle.contact.specs.declared.marking.Marking.{Marking}
use Rattle.contact.specs.Marking.{is_marked, is_relay, is_heard, is_near, is_taken, IsAfter, Round, Spreads}

-- The carrier at index i is marked after k rounds, and in contact with p.
abbrev pub relays : Site → List ℕ → ℕ → ℕ → ℕ → Bool
relays s c k i p = get_or (rounds k s c) i false && s.in_contact (get_or c i 0) p

-- The base, or a carrier that is marked after k rounds, is in contact with p.
abbrev pub reaches : Site → List ℕ → ℕ → ℕ → Bool
reaches s c k p = s.in_contact s.base p || hears s c (rounds k s c) p

-- A round, as far as the first k carriers: no mark is lost, only places that are near and have a carrier are marked, and those of the
-- first k carriers that are near are.
pub record Pass {S : Type 0} (meaning : S → Site) (m : Marking S) (marks : List Bool) (k : ℕ) : Type 0 where
  pub sized : length marks ≡ most_places
  pub kept : (p : ℕ) → is_marked m p ≡ true → get_or marks p false ≡ true
  pub only : (p : ℕ) → get_or marks p false ≡ true → (is_marked m p || (is_taken m p && is_near meaning m p)) ≡ true
  pub done : (i : ℕ) → i < k → get_or m.configuration.now i 0 < length marks → is_near meaning m (get_or m.configuration.now i 0) ≡ true → get_or marks (get_or m.configuration.now i 0) false ≡ true

-- Two functions agree on a list if they agree at each of its elements.
map_same : {A : Type 0} (f g : ℕ → A) (xs : List ℕ) → ((i : ℕ) → i < length xs → f (get_or xs i 0) ≡ g (get_or xs i 0)) → map f xs ≡ map g xs
map_same f g [] same = refl
map_same f g (x ∷ xs) same = cc (same 0 (omega arith), map_same f g xs (λ i l. same (suc i) (omega arith)))

-- Some element passes a test if one that does is found.
any_found : {X : Type 0} (test : X → Bool) (xs : List X) → list_any test xs ≡ is_some (position test xs)
any_found test [] = refl
any_found test (x ∷ xs) = grind (arith, common_steps, any_found test xs)

-- Before the first round nobody is marked.
pub none_marked : (c : List ℕ) → map (λ p. get_or (replicate most_places false) p false) c ≡ replicate (length c) false
none_marked [] = refl
none_marked (q ∷ c) = cc (same_everywhere most_places false q, none_marked c)

-- Being heard by carriers at marked places, in the words of the definitions.
heard_is : (s : Site) (marked : ℕ → Bool) (c : List ℕ) (p : ℕ) → list_any (λ q. marked q && s.in_contact q p) c ≡ hears s c (map marked c) p
heard_is s marked [] p = refl
heard_is s marked (q ∷ c) p = cc (heard_is s marked c p)

module _ {S : Type 0} (meaning : S → Site) (m : Marking S) where
  -- Where nobody is found, nobody is heard.
  pub unheard : (p : ℕ) → None ≡ position (λ q. is_relay meaning m q p) m.configuration.now → is_heard meaning m p ≡ false
  unheard p none = cc (any_found (λ q. is_relay meaning m q p) m.configuration.now)

  -- What is near is a place.
  near_is_place : Lawful (meaning m.site.now) → (p : ℕ) → is_near meaning m p ≡ true → p < most_places
  near_is_place lawful p h =
      ⊎_elim (place (meaning m.site.now).base)
      (λ heard. let (_, q, _, _, t) = Any-from_list_any (λ q. is_relay meaning m q p) m.configuration.now heard in place q (and_parts (is_marked m q) _ t).1) (or_cases _ _ h)
    where
      place : (q : ℕ) → (meaning m.site.now).in_contact q p ≡ true → p < most_places
      place q t = let l = lawful.contact_is_place p q (lawful.contact_both_ways p q ∙ t) in omega (arith, lawful.few_places)

  -- What a pass over all carriers makes is a round.
  pub round_of : Lawful (meaning m.site.now) → (marks : List Bool) (n : ℕ) → length m.configuration.now ≤ n → Pass meaning m marks n → Round meaning m (record m { marks = marks })
  round_of lawful marks n all pass = record {
    site_is = refl;
    configuration_is = refl;
    kept = pass.kept;
    only = pass.only;
    done = λ i l near. let place = near_is_place lawful _ near in pass.done i (omega arith) (omega (arith, pass.sized)) near;
  }

  -- Where it marks nothing more, the round is made already.
  pub round_at_rest : Lawful (meaning m.site.now) → (marks : List Bool) (n : ℕ) → length m.configuration.now ≤ n → Pass meaning m marks n → marks ≡ m.marks → Round meaning m m
  round_at_rest lawful marks n all pass still = subst (λ ms. Round meaning m (record m { marks = ms })) still (round_of lawful marks n all pass)

-- Whether it marks a place more or not, a round is made.
pub round_made : {S : Type 0} (meaning : S → Site) (before after : Marking S) (more : Bool) → Spreads meaning before after more → Round meaning before after
round_made meaning before after true spread = spread.0
round_made meaning before after false spread = subst (Round meaning before) (sym spread.1) spread.0

module _ {S : Type 0} (meaning : S → Site) (site : S) (c : List ℕ) (k : ℕ) (m : Marking S) (after : IsAfter meaning site c k m) where
  -- A carrier stands at a marked place if it is marked after that many rounds.
  pub marked_is : (i : ℕ) → i < length c → is_marked m (get_or c i 0) ≡ get_or (rounds k (meaning site) c) i false
  marked_is i l = cc (get_or-map (is_marked m) m.configuration.now i 0 false (omega (arith, ap length after.configuration_is)))

  -- Who is heard, and what is near, after that many rounds.
  pub heard_after : (p : ℕ) → is_heard meaning m p ≡ hears (meaning site) c (rounds k (meaning site) c) p
  heard_after p = cc (heard_is (meaning m.site.now) (is_marked m) m.configuration.now p)

  near_after : (p : ℕ) → is_near meaning m p ≡ reaches (meaning site) c k p
  near_after p = cc (heard_after p)

  module _ (lawful : Lawful (meaning m.site.now)) (next : Marking S) (round : Round meaning m next) where
    same_carriers : next.configuration.now ≡ c
    same_carriers = round.configuration_is ∙ after.configuration_is

    -- What the round marks.
    at : (i : ℕ) → i < length c → is_marked next (get_or c i 0) ≡ reaches (meaning site) c k (get_or c i 0)
    at i l =
        let p = get_or c i 0 in
        let here : get_or m.configuration.now i 0 ≡ p = ap (λ d. get_or d i 0) after.configuration_is in
        let done : is_near meaning m p ≡ true → is_marked next p ≡ true = λ near. cc (round.done i (omega (arith, ap length after.configuration_is)) (cc)) in
        let grows : is_marked m p ≡ true → is_near meaning m p ≡ true = λ h. near_after p ∙ sym (spread_at (meaning site) c (rounds k (meaning site) c) i l) ∙ rounds_all_of (meaning site) c k i (sym (marked_is i l) ∙ h) in
        grind (arith, round.kept p, round.only p, done, grows, near_after p)

    -- It is one round more.
    pub spreads : IsAfter meaning site c (k + 1) next
    spreads = rw add-one record { site_is = round.site_is ∙ after.site_is; configuration_is = same_carriers; marked = ap (map (is_marked next)) same_carriers ∙ map_same _ _ c at }

  -- Where a round leads nowhere, all rounds are made.
  pub rests : Lawful (meaning m.site.now) → Round meaning m m → IsAfter meaning site c (length c) m
  rests lawful round =
      let same : rounds (suc k) (meaning site) c ≡ rounds k (meaning site) c = sym (rw add-one at (spreads lawful m round).marked) ∙ after.marked in
      let last : rounds k (meaning site) c ≡ rounds (length c) (meaning site) c =
      ⊎_elim (λ l. sym (rounds_stay (meaning site) c k same (length c) (omega arith))) (rounds_stay (meaning site) c (length c) (sym (rounds_rest (meaning site) c)) k) (cases_lt k (length c)) in
      record { site_is = after.site_is; configuration_is = after.configuration_is; marked = after.marked ∙ last }

  -- The first carrier that is heard at p is the first of those that are marked after that many rounds.
  pub first_relay : (p j : ℕ) → Some j ≡ position (λ q. is_relay meaning m q p) m.configuration.now
      → (relays (meaning site) c k j p ≡ true) × ((h : ℕ) → h < j → relays (meaning site) c k h p ≡ false)
  first_relay p j found =
      let (l, here, lower) = position-Some (λ q. is_relay meaning m q p) c j 0 (subst (λ d. position (λ q. is_relay meaning m q p) d ≡ Some j) after.configuration_is (sym found)) in
      (sym (relay_at j l) ∙ here, λ h b. sym (relay_at h (omega arith)) ∙ lower h b)
    where
      relay_at : (i : ℕ) → i < length c → is_relay meaning m (get_or c i 0) p ≡ relays (meaning site) c k i p
      relay_at i l = cc (marked_is i l)

-- Before the first round nobody is heard.
pub none_heard : {S : Type 0} (meaning : S → Site) (site : S) (c : List ℕ) (m : Marking S) → IsAfter meaning site c 0 m → (p : ℕ) → is_heard meaning m p ≡ false
none_heard meaning site c m after p = heard_after meaning site c 0 m after p ∙ nobody (meaning site) c p
  where
    nobody : (s : Site) (c : List ℕ) (p : ℕ) → hears s c (replicate (length c) false) p ≡ false
    nobody s [] p = refl
    nobody s (q ∷ c) p = nobody s c p
