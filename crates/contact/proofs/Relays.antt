-- The last relay of a carrier.
use Rattle.std.proofs.Common.{◌≡◌, ℕ, zero, suc, ◌+◌, ◌-◌, ◌<◌, ◌≤◌, true, false, List, length, get_or, Some, None, Option, sym, ◌∙◌, subst, add-one, arith}
use Rattle.std.proofs.lemmas.Bool.{and_from, and_parts, both_ways}
use Rattle.std.proofs.lemmas.Option.{slice_get_within, get_or_from_slice_get}
use Rattle.std.specs.List.{position}
use Rattle.model.specs.declared.relay.Relay.{Relay}
use Rattle.model.specs.declared.relay.Relay.TheVariants.{Carrier}
use Rattle.model.specs.Site.{Site}
use Rattle.model.specs.Contact.{Reached, hears, rounds}
use Rattle.model.specs.Relay.{LastRelay, RelayedBy, RelayOf}
use Rattle.model.proofs.Contact.{Marked, spread_at, rounds_rest, marked_iff_reached}
use Rattle.model.proofs.Chains.{chain_of_round, round_of_chain}
use Rattle.contact.specs.declared.marking.Marking.{Marking}
use Rattle.contact.specs.Carrier.{find_place}
use Rattle.contact.specs.Marking.{is_heard, is_relay, IsAfter}
use Rattle.contact.proofs.Marks.{relays, first_relay, heard_after}

module _ (s : Site) (c : List ℕ) (i p : ℕ) (inside : i < length c) (at : get_or c i 0 ≡ p) (apart : s.in_contact s.base p ≡ false) where
  -- A carrier that hears neither the base nor whom round k marks is not marked in the next.
  unmarked_next : (k : ℕ) → hears s c (rounds k s c) p ≡ false → Marked (rounds (suc k) s c) i → ⊥
  unmarked_next k silent m = grind (arith, spread_at s c (rounds k s c) i inside)

  -- The first that is heard in a round is the last relay, if nobody was heard in the round before.
  last_relay : (k j : ℕ) → hears s c (rounds k s c) p ≡ false → relays s c (suc k) j p ≡ true → ((h : ℕ) → h < j → relays s c (suc k) h p ≡ false) → LastRelay s c i j
  last_relay k j silent here lower =
      let (m, short, chain) = chain_of_round s c (suc k) j (and_parts _ _ here).0 in
      record {
        contacts = m;
        chain = chain;
        hears = rw at (and_parts _ _ here).1;
        shortest = λ n other. let late : n ≤ suc k → ⊥ = λ l. unmarked_next k silent (round_of_chain s c other (suc k) l) in grind (arith, late);
        lowest = λ h n l other t. let late : n ≤ suc k → ⊥ = λ b. both_ways _ (lower h l) (and_from _ _ (round_of_chain s c other (suc k) b) (rw (← at) t)) in grind (arith, late);
      }

  -- Who hears nobody after all the rounds is not reached.
  not_reached : hears s c (rounds (length c) s c) p ≡ false → Reached s c i → ⊥
  not_reached silent r = unmarked_next (length c) silent (subst (λ all. Marked all i) (rounds_rest s c) ((marked_iff_reached s c i).1 r))

-- By a carrier's number: what holds at its index, and what holds at the index of whoever stands at its place.
pub by_number : (s : Site) (c : List ℕ) (k : ℕ) (r : Option Relay) → 1 ≤ k → RelayedBy s c (k - 1) r → RelayOf s c k r
by_number s c zero r some h = absurd (omega arith)
by_number s c (suc i) r some h = let index : suc i - 1 ≡ i = omega arith in subst (λ j. RelayedBy s c j r) index h

by_place : (s : Site) (c : List ℕ) (n p : ℕ) (r : Option Relay) → find_place c n ≡ Some p → ((i : ℕ) → i < length c → get_or c i 0 ≡ p → RelayedBy s c i r) → RelayOf s c n r
by_place s c zero p r some h = absurd (cc)
by_place s c (suc i) p r some h = h i (slice_get_within c i p some) (get_or_from_slice_get c i p 0 some)

module _ {S : Type 0} (meaning : S → Site) (site : S) (c : List ℕ) (n p : ℕ) (some : find_place c n ≡ Some p) (apart : (meaning site).in_contact (meaning site).base p ≡ false) where
  -- The first that is heard, where nobody was a round before.
  pub relayed_by : (k : ℕ) (before after : Marking S) → IsAfter meaning site c k before → is_heard meaning before p ≡ false → IsAfter meaning site c (k + 1) after
      → (j : ℕ) → Some j ≡ position (λ q. is_relay meaning after q p) after.configuration.now → RelayOf (meaning site) c n (Some (Carrier (j + 1)))
  relayed_by k before after was silent is j found =
      let (here, lower) = first_relay meaning site c (suc k) after (rw add-one at is) p j found in
      rw add-one (by_place (meaning site) c n p (Some (Carrier (suc j))) some (λ i inside at. (inside, last_relay (meaning site) c i p inside at apart k j (sym (heard_after meaning site c k before was p) ∙ silent) here lower)))

  -- Nobody, where nobody is heard after all rounds.
  pub not_relayed : (m : Marking S) → IsAfter meaning site c (length c) m → is_heard meaning m p ≡ false → RelayOf (meaning site) c n None
  not_relayed m after silent = by_place (meaning site) c n p None some (λ i inside at. not_reached (meaning site) c i p inside at apart (sym (heard_after meaning site c (length c) m after p) ∙ silent))
