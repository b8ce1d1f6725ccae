-- Pair sites are lawful, and have exactly the listed pairs.
use Rattle.std.proofs.Common.{◌≡◌, ℕ, ◌<◌, ◌≤◌, true, ◌⊎◌, ◌↔◌, List, [], ◌∷◌, refl, arith}
use mathlib.Core.List.Memᴰ
use mathlib.Core.List.{Memᴰ}
use Rattle.std.proofs.lemmas.Bool.Decides.{nat_tests}
use Rattle.model.specs.Limits.{most_places}
use Rattle.model.specs.Site.{Lawful}
use Rattle.model.specs.PairSite.{Pairs, with_pair, listed, Network, pair_site, BothWays, PairSitesAreSites}

pair_site_lawful : (w : Network) → w.places ≤ most_places → w.base < w.places → BothWays w.moves → BothWays w.contacts → Lawful (pair_site w)
pair_site_lawful w few is_place moves_both contacts_both = grind (arith, nat_tests)

-- One pair more holds both ways round.
with_pair_both_ways : (p q : ℕ) (pairs : Pairs) → BothWays pairs → BothWays (with_pair p q pairs)
with_pair_both_ways p q pairs both a b = grind (arith, both a b)

listed_both_ways : (list : List (ℕ × ℕ)) → BothWays (listed list)
listed_both_ways [] a b = refl
listed_both_ways ((p, q) ∷ list) a b = with_pair_both_ways p q (listed list) (listed_both_ways list) a b

-- A pair stands in the list, either way round.
abbrev Stands : List (ℕ × ℕ) → ℕ → ℕ → Type 0
Stands list p q = Memᴰ (p, q) list ⊎ Memᴰ (q, p) list

-- A pair is listed exactly if it stands in the list.
exactly_the_listed : (list : List (ℕ × ℕ)) (p q : ℕ) → (listed list p q ≡ true) ↔ Stands list p q
exactly_the_listed [] p q = grind (arith, Memᴰ.not-nil)
exactly_the_listed ((a, b) ∷ list) p q = grind (arith, nat_tests, exactly_the_listed list p q, Memᴰ.cases_cons, Memᴰ.head, Memᴰ.tail)

pub pair_sites_are_sites : PairSitesAreSites
pair_sites_are_sites = record { lawful = pair_site_lawful; exactly_the_listed = exactly_the_listed; listed_both_ways = listed_both_ways }
