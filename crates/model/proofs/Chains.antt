-- Chains of contacts, and the rounds in which carriers are marked.
use Rattle.std.proofs.Common.{ℕ, zero, suc, ◌<◌, ◌≤◌, List, length, ⊎_elim, arith}
use Rattle.model.specs.Site.{Site}
use Rattle.model.specs.Contact.{Reached, rounds}
use Rattle.model.specs.Contact.Reached.{straight as reached_straight, relayed as reached_relayed}
use Rattle.model.specs.Relay.{Chain, ChainsReach}
use Rattle.model.specs.Relay.Chain.{straight, onward}
use Rattle.model.proofs.Contact.{Marked, no_mark, spread_in, spread_cases, spread_straight, spread_relayed}

module _ (s : Site) (c : List ℕ) where
  pub chain_in : {k i : ℕ} → Chain s c k i → i < length c
  chain_in (straight l t) = l
  chain_in (onward r l t) = l

  reached_of_chain : {k i : ℕ} → Chain s c k i → Reached s c i
  reached_of_chain (straight l t) = reached_straight l t
  reached_of_chain (onward r l t) = reached_relayed (reached_of_chain r) l t

  chain_of_reached : {i : ℕ} → Reached s c i → (k : ℕ) × Chain s c k i
  chain_of_reached (reached_straight l t) = (1, straight l t)
  chain_of_reached (reached_relayed r l t) = let (k, chain) = chain_of_reached r in (suc k, onward chain l t)

  -- Whom round k marks has a chain of at most k contacts.
  pub chain_of_round : (k i : ℕ) → Marked (rounds k s c) i → (m : ℕ) × (m ≤ k) × Chain s c m i
  chain_of_round zero i h = absurd (no_mark (length c) i h)
  chain_of_round (suc k) i h =
      let l = spread_in s c (rounds k s c) i h in
      ⊎_elim (λ t. (1, omega arith, straight l t))
      (λ (j, _, marked, t). let (m, short, chain) = chain_of_round k j marked in (suc m, omega arith, onward chain l t))
      (spread_cases s c (rounds k s c) i h)

  -- Who has a chain of at most k contacts is marked in round k.
  pub round_of_chain : {m i : ℕ} → Chain s c m i → (k : ℕ) → m ≤ k → Marked (rounds k s c) i
  round_of_chain (straight {i} l t) zero short = absurd (omega arith)
  round_of_chain (straight {i} l t) (suc k) short = spread_straight s c (rounds k s c) i l t
  round_of_chain (onward {k = m} {i} {j} r l t) zero short = absurd (omega arith)
  round_of_chain (onward {k = m} {i} {j} r l t) (suc k) short = spread_relayed s c (rounds k s c) i j l (chain_in r) (round_of_chain r k (omega arith)) t

pub chains_reach : ChainsReach
chains_reach s c i = (chain_of_reached s c, λ (k, chain). reached_of_chain s c chain)
