-- Yield and Three-way keep the laws of a rule.
use Rattle.std.proofs.Common.{◌≡◌, ℕ, zero, suc, ◌+◌, ◌<◌, ◌≤◌, true, false, not, ◌&&◌, ◌||◌, nat_lt, ◌==◌, ◌⊎◌, ◌↔◌, List, [], ◌∷◌, length, slice_index, Some, None, Decides, Option, refl, inl, inr, ⊎_elim, arith}
use mathlib.Core.List.Memᴰ
use mathlib.Core.List.{Memᴰ}
use Rattle.std.specs.List.{range_with_len, flat_map}
use Rattle.std.proofs.lemmas.List.Elements.{All-from_get_or}
use Rattle.std.proofs.lemmas.Bool.{cases_eq, or_cases}
use Rattle.std.proofs.lemmas.Bool.Decides.{nat_tests, Decides-by_and, Decides-like, Decides-ltb, Decides-and, Decides-or}
use Rattle.model.specs.declared.item.Demand.{Demand}
use Rattle.model.specs.declared.item.Demand.TheVariants.{MustBe, MustNotBe}
use Rattle.model.specs.declared.item.Item.{Item}
use Rattle.model.specs.Contact.{is_connected, lost}
use Rattle.model.specs.Rule.{Rule, InRange, RuleLaws}
use Rattle.model.specs.Rules.{each_below, in_range, speaks, leaves, goes, hears_another, self, mends, yields, three_way, items_of, items_with, items, IsYield, HeardBy, IsSelf, IsOther, Speaks, RulesKeepTheLaws}
use Rattle.model.specs.Site.{Site}
use Rattle.model.proofs.Contact.{connected_is_contact, out_of_contact}

-- The test of a configuration's range says what `InRange` says.
each_below_decides : (n : ℕ) (c : List ℕ) → Decides (each_below n c) ((k : ℕ) → k < length c → slice_index c k < n)
each_below_decides n c =
    Decides-like _ (λ all k h. all k 0 h) (All-from_get_or (λ p. p < n) c 0)
    (Decides-by_and (λ p. nat_lt p n) (λ p. p < n) (each_below n) (λ p. Decides-ltb p n) refl (λ _ _. refl) c)

is_in_range : (s : Site) (c : List ℕ) (i : Item) → in_range s c i ≡ true → InRange s c i
is_in_range s c i e = grind (arith, nat_tests, (each_below_decides s.places c).0)

-- Some carrier stands elsewhere in d than in c.
abbrev Moved : List ℕ → List ℕ → Type 0
Moved c d = (k : ℕ) × (k < length c) × (slice_index d k ≡ slice_index c k → ⊥)

same_or_moved : (c d : List ℕ) → length d ≡ length c → (d ≡ c) ⊎ Moved c d
same_or_moved [] [] l = inl refl
same_or_moved [] (q ∷ d) l = absurd (omega arith)
same_or_moved (p ∷ c) [] l = absurd (omega arith)
same_or_moved (p ∷ c) (q ∷ d) l = ⊎_elim
    (λ (here : q ≡ p). ⊎_elim (λ (rest : d ≡ c). inl (cc)) (λ (k, h, n). inr (suc k, omega arith, n)) (same_or_moved c d (omega arith)))
    (λ n. inr (0, omega arith, n))
    (cases_eq q p)

-- Yield's item for the carrier at index k: it must not be at its own place.
abbrev away : List ℕ → ℕ → Item
away c k = record { carrier = suc k; place = slice_index c k; demand = MustNotBe }

yields_away : (s : Site) (c : List ℕ) (k : ℕ) → is_connected s c ≡ false → ((j : ℕ) → j < length c → slice_index c j < s.places) → k < length c → yields s c (away c k) ≡ true
yields_away s c k out places h = grind (arith, nat_tests, places k h, (each_below_decides s.places c).1 places)

-- A rule keeps the laws if it lists Yield's items and, besides them, only that a carrier must be at another place than its own.
rule_laws : (rule : Rule)
    → ((s : Site) (c : List ℕ) (i : Item) → yields s c i ≡ true → rule s c i ≡ true)
    → ((s : Site) (c : List ℕ) (i : Item) → rule s c i ≡ true → (speaks s c i && (leaves c i || goes c i)) ≡ true)
    → RuleLaws rule
rule_laws rule enough no_more = record {
  in_range = λ s c i _ e. is_in_range s c i (grind (arith, no_more s c i e));
  quiet = λ s c i _ there. grind (arith, nat_tests, (connected_is_contact s c).1 there, no_more s c i);
  cover = λ s c d _ out places l _ there. elim (same_or_moved c d l) [
    | inl same ↦ absurd (out (rw same at there))
    | inr (k, h, moved) ↦ (away c k, enough s c (away c k) (yields_away s c k (out_of_contact s c out) places h), moved)
  ];
  bite = λ s c i _ e m. grind (arith, nat_tests, no_more s c i e);
}

-- What the rules list, in words.

speaks_decides : (s : Site) (c : List ℕ) (i : Item) → (speaks s c i ≡ true) ↔ Speaks s c i
speaks_decides s c i = (
  λ e. record { range = is_in_range s c i (grind arith); out_of_contact = λ there. grind (arith, (connected_is_contact s c).1 there) },
  λ h. grind (arith, nat_tests, (each_below_decides s.places c).1 h.range.everyone, out_of_contact s c h.out_of_contact),
)

leaves_decides : (c : List ℕ) (i : Item) → (leaves c i ≡ true) ↔ IsYield c i
leaves_decides c i = grind (arith, nat_tests)

-- Among the carriers from number k on, that of index j is another than a, and there one is in contact with v.
record Hearer (s : Site) (a v k : ℕ) (c : List ℕ) : Type 0 where
  pub index : ℕ
  pub inside : index < length c
  pub another : k + index ≡ a → ⊥
  pub contact : s.in_contact (slice_index c index) v ≡ true

hearer : (s : Site) (a k : ℕ) (c : List ℕ) (v : ℕ) → hears_another s a k c v ≡ true → Hearer s a v k c
hearer s a k [] v e = cc
hearer s a k (p ∷ c) v e = ⊎_elim
    (λ here. record { index = 0; inside = omega arith; another = grind (arith, nat_tests, here); contact = grind (arith, here) })
    (λ later. let h = hearer s a (suc k) c v later in
    record { index = suc h.index; inside = omega (arith, h.inside); another = λ same. h.another (omega arith); contact = h.contact })
    (or_cases (not (k == a) && s.in_contact p v) (hears_another s a (suc k) c v) e)

of_hearer : (s : Site) (a k : ℕ) (c : List ℕ) (v j : ℕ) → j < length c → (k + j ≡ a → ⊥) → s.in_contact (slice_index c j) v ≡ true → hears_another s a k c v ≡ true
of_hearer s a k [] v j l n t = absurd (omega arith)
of_hearer s a k (p ∷ c) v zero l n t = grind (arith, nat_tests)
of_hearer s a k (p ∷ c) v (suc j) l n t = grind (arith, of_hearer s a (suc k) c v j (omega arith) (λ e. n (omega arith)) t)

-- The lost carrier would hear the base or another there.
abbrev HeardThere : Site → List ℕ → ℕ → ℕ → Type 0
HeardThere s c a v = (s.in_contact s.base v ≡ true) ⊎ ((b : ℕ) × HeardBy s c a v b)

self_decides : (s : Site) (c : List ℕ) (a v : ℕ) → (self s c a v ≡ true) ↔ HeardThere s c a v
self_decides s c a v = Decides-or (s.in_contact s.base v) (hears_another s a 1 c v) (λ t. t, λ t. t) (λ t. let h = hearer s a 1 c v t in (suc h.index, heard h), λ (b, by). from b by)
  where
    heard : (h : Hearer s a v 1 c) → HeardBy s c a v (suc h.index)
    heard h = grind arith

    from : (b : ℕ) → HeardBy s c a v b → hears_another s a 1 c v ≡ true
    from zero by = absurd (omega arith)
    from (suc j) by = of_hearer s a 1 c v j (omega (arith, by.carrier)) (λ e. by.another (omega arith)) by.contact

-- An item that goes and mends the loss is SELF or OTHER.
mends_decides : (s : Site) (c : List ℕ) (i : Item) → ((goes c i && mends s c (lost s c) i) ≡ true) ↔ (IsSelf s c i ⊎ IsOther s c i)
mends_decides s c i = (to (lost s c) refl, ⊎_elim of_self of_other)
  where
    to : (o : Option ℕ) → lost s c ≡ o → (goes c i && mends s c o i) ≡ true → IsSelf s c i ⊎ IsOther s c i
    to None at e = grind arith
    to (Some a) at e = grind (arith, nat_tests, at, (self_decides s c i.carrier i.place).0)

    of_self : IsSelf s c i → (goes c i && mends s c (lost s c) i) ≡ true
    of_self h = grind (arith, nat_tests, (self_decides s c i.carrier i.place).1 h.heard)

    of_other : IsOther s c i → (goes c i && mends s c (lost s c) i) ≡ true
    of_other h = grind (arith, nat_tests)

three_way_decides : (s : Site) (c : List ℕ) (i : Item) → ((leaves c i || (goes c i && mends s c (lost s c) i)) ≡ true) ↔ (IsYield c i ⊎ IsSelf s c i ⊎ IsOther s c i)
three_way_decides s c i = Decides-or (leaves c i) _ (leaves_decides c i) (mends_decides s c i)

pub rules_keep_the_laws : RulesKeepTheLaws
rules_keep_the_laws = record {
  yield_laws = rule_laws yields (λ s c i e. e) (λ s c i e. grind arith);
  three_way_laws = rule_laws three_way (λ s c i e. grind arith) (λ s c i e. grind arith);
  yield_lists = λ s c i. Decides-and (speaks s c i) (leaves c i) (speaks_decides s c i) (leaves_decides c i);
  three_way_lists = λ s c i. Decides-and (speaks s c i) _ (speaks_decides s c i) (three_way_decides s c i);
}

-- Every item whose numbers are in range is among all items.
counted : (a m k : ℕ) → m ≤ a → a < m + k → Memᴰ a (range_with_len m k)
counted a m zero low high = absurd (omega arith)
counted a m (suc k) low high = grind (arith, counted a (m + 1) k, Memᴰ.head, Memᴰ.tail)

demands_have : (d : Demand) → Memᴰ d (MustBe ∷ MustNotBe ∷ [])
demands_have d = grind (arith, Memᴰ.head, Memᴰ.tail)

joined_has : {A : Type 0} (f : A → List Item) {i : Item} {a : A} {all : List A} → Memᴰ a all → Memᴰ i (f a) → Memᴰ i (flat_map f all)
joined_has f {i} (Memᴰ.head {xs = others} e) h = Memᴰ.append_left (flat_map f others) (rw e at h)
joined_has f (Memᴰ.tail {x = b} t) h = Memᴰ.append_right (f b) (joined_has f t h)

pub items_have : (carriers places : ℕ) (i : Item) → i.place < places → 1 ≤ i.carrier → i.carrier ≤ carriers → Memᴰ i (items carriers places)
items_have carriers places i inside low high =
    joined_has (items_with carriers places) (demands_have i.demand)
    (joined_has (items_of places i.demand) (counted i.carrier 1 carriers low (omega arith))
    (Memᴰ.map (λ p. record { carrier = i.carrier; place = p; demand = i.demand }) (counted i.place 0 places (omega arith) (omega arith))))
