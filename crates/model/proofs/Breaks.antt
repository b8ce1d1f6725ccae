-- Where an execution is out of contact, every plan meets a listed item there.
use Rattle.std.proofs.Common.{◌≡◌, ℕ, suc, ◌<◌, ◌≤◌, true, false, List, ◌∷◌, length, get_or, sym, ◌∙◌, ⊎_elim, arith}
use mathlib.Core.List.Memᴰ
use mathlib.Core.List.{Memᴰ}
use Rattle.std.proofs.lemmas.Bool.{both_ways}
use Rattle.model.specs.declared.item.Condition.{Condition}
use Rattle.model.specs.declared.item.Item.{Item}
use Rattle.model.specs.Contact.{is_connected}
use Rattle.model.specs.Item.{Meets, at_time}
use Rattle.model.specs.Execution.{latest, at_moment}
use Rattle.model.specs.Path.{TimedPath}
use Rattle.model.specs.Rule.{MeetsItem, RuleLaws, InRange}
use Rattle.model.specs.Rules.{items}
use Rattle.model.specs.Site.{Lawful}
use Rattle.model.specs.State.{Problem}
use Rattle.model.proofs.Contact.{connected_is_contact}
use Rattle.model.proofs.Execution.{carriers, stands, Executes, chosen_in, latest_in_time, at_moment_length, at_moment_is}
use Rattle.model.proofs.Rules.{items_have}
use Rattle.model.proofs.Waiting.{Timely, waiting, place, Kept, waiting_everyone, waiting_open, waiting_connected}

-- The plan, at moment m, meets one of these items that is listed for configuration c.
pub record MeetsOne (p : Problem) (q : Timely p) (c : List ℕ) (m : ℕ) (its : List Item) : Type 0 where
  pub it : Item
  pub among : Memᴰ it its
  pub listed : p.rule p.site c it ≡ true
  pub meets : MeetsItem (waiting q m) it

module _ (p : Problem) (lawful : Lawful p.site) (laws : RuleLaws p.rule) where
  pub every_plan_meets_one : (cs : List Condition) (x : List TimedPath) → Executes p cs x → (m : ℕ) → m ≤ latest x → is_connected p.site (at_moment x m) ≡ false
      → (q : Timely p) → MeetsOne p q (at_moment x m) m (items (carriers p) p.site.places)
  every_plan_meets_one cs x ex m in_time lack q = record {
    it = met.0;
    among = items_have (carriers p) p.site.places met.0 fits.place fits.from_one (omega (arith, fits.carrier, at_moment_length ex m));
    listed = met.1;
    meets = met.2;
  }
    where
      same_length : length (at_moment x m) ≡ carriers p
      same_length = at_moment_length ex m

      at_places : (k : ℕ) → k < length (at_moment x m) → get_or (at_moment x m) k 0 < p.site.places
      at_places k h =
          let open_there = (chosen_in p lawful cs x ex k (omega (arith, same_length))).is_path.through_open m (omega (arith, latest_in_time p lawful cs x ex)) in
          rw (at_moment_is x m k) (lawful.open_is_place (stands x k m) open_there)

      met : (i : Item) × (p.rule p.site (at_moment x m) i ≡ true) × MeetsItem (waiting q m) i
      met = laws.cover p.site (at_moment x m) (waiting q m) lawful (λ there. both_ways _ lack ((connected_is_contact p.site (at_moment x m)).1 there)) at_places
          (waiting_everyone p lawful q m ∙ sym same_length)
          (λ k h. waiting_open p lawful q m k (omega (arith, waiting_everyone p lawful q m)))
          (waiting_connected p lawful q m)

      fits : InRange p.site (at_moment x m) met.0
      fits = laws.in_range p.site (at_moment x m) met.0 lawful met.1

-- A plan that keeps conditions and meets an item keeps those of the item's child.
pub child_kept : (p : Problem) (q : Timely p) (cs : List Condition) (m : ℕ) (it : Item) → Kept q cs → MeetsItem (waiting q m) it → Kept q (at_time m it ∷ cs)
child_kept p q cs m it kept meets c among i inside name = ⊎_elim new old (Memᴰ.cases_cons among)
  where
    itself : it.carrier ≡ suc i → Meets it.demand it.place (place q i m)
    itself names = rw names at meets

    new : c ≡ at_time m it → Meets c.item.demand c.item.place (place q i c.moment)
    new e = rw e (itself (rw e at name))

    old : Memᴰ c cs → Meets c.item.demand c.item.place (place q i c.moment)
    old h = kept c h i inside name
