-- A node that is out of contact is split: its children cover the plans that it covered, or the table is full.
use Rattle.std.proofs.Common.{◌≡◌, ℕ, ◌<◌, true, if◌then◌else◌, ltb, ◌⊎◌, List, [], ◌∷◌, length, Some, None, Option, sym, refl, ap, ◌∙◌, subst, inl, inr, ⊎_elim, arith}
use mathlib.Core.List.Memᴰ
use mathlib.Core.List.{Memᴰ}
use Rattle.std.proofs.lemmas.Bool.{cond_both, ltb-true, ltb-false, both_ways}
use Rattle.model.specs.declared.item.Condition.{Condition}
use Rattle.model.specs.declared.item.Item.{Item}
use Rattle.model.specs.declared.node.Node.{Node}
use Rattle.model.specs.declared.outcome.Outcome.TheVariants.{Running, Full}
use Rattle.model.specs.Execution.{execution, latest}
use Rattle.model.specs.Guarantee.{EachNodeWasPut}
use Rattle.model.specs.Limits.{most_nodes}
use Rattle.model.specs.Item.{at_time}
use Rattle.model.specs.Nodes.{child, conditions_of}
use Rattle.model.specs.Plan.{NoPlanBelow}
use Rattle.model.specs.Path.{TimedPath}
use Rattle.model.specs.Site.{Lawful}
use Rattle.model.specs.State.{Problem, State, is_full, with_outcome, with_node}
use Rattle.model.specs.Turn.{add_child, split}
use Rattle.model.proofs.Breaks.{MeetsOne, child_kept}
use Rattle.model.proofs.Covering.{Ready, fewer_left, NewNode, node_added}
use Rattle.model.proofs.Execution.{Executes, executes, cost_never_falls}
use Rattle.model.proofs.Good.{Good, ready_below, still_running}
use Rattle.model.proofs.Nodes.{one_longer, conditions_of_child, conditions_stay}
use Rattle.model.proofs.Waiting.{Timely, Kept, kept_has_execution}

-- Node i, with the conditions cs, is out of contact at moment m in the configuration c.
module _ (p : Problem) (i : ℕ) (cs : List Condition) (m : ℕ) (c : List ℕ) where
  -- The rule says yes to the item.
  abbrev listed : Item → Type 0
  listed it = p.rule p.site c it ≡ true

  -- the conditions of an item's child
  abbrev under : Item → List Condition
  under it = at_time m it ∷ cs

  -- an item's child, whose paths are y
  abbrev child_of : Item → List TimedPath → Node
  child_of it y = child i (at_time m it) (latest y)

  -- The plans still to be covered keep the node's conditions and meet an item that is left.
  abbrev pub Waits : List Item → Timely p → Type 0
  Waits its q = Kept q cs × MeetsOne p q c m its

  -- Such a plan meets the first item, and so keeps its child's conditions, or it meets one of the others.
  meets_first : (it : Item) (its : List Item) (q : Timely p) → Waits (it ∷ its) q → (Kept q (under it) × listed it) ⊎ Waits its q
  meets_first it its q (kept, one) = ⊎_elim first other (Memᴰ.cases_cons one.among)
    where
      first : one.it ≡ it → (Kept q (under it) × listed it) ⊎ Waits its q
      first e = inl (rw e at (child_kept p q cs m one.it kept one.meets), rw e at one.listed)

      other : Memᴰ one.it its → (Kept q (under it) × listed it) ⊎ Waits its q
      other t = inr (kept, record { it = one.it; among = t; listed = one.listed; meets = one.meets })

  -- When the table is full, the turn ends.
  split_full : (its : List Item) (st : State) → split p i cs m c its (with_outcome Full st) ≡ with_outcome Full st
  split_full [] st = refl
  split_full (it ∷ its) st = refl

  full_good : (its : List Item) (st : State) → NoPlanBelow p.site p.task st.floor → EachNodeWasPut st Full → length st.nodes ≡ most_nodes → Good p (split p i cs m c its (with_outcome Full st))
  full_good its st below put full = rw (split_full its st) (record { floor_holds = below; standing = full; each_put = put })

  -- Its execution is x, of the floor's cost.
  module _ (lawful : Lawful p.site) (x : List TimedPath) (ex : Executes p cs x) where
    -- what holds while the items are gone through
    pub record Splitting (its : List Item) (st : State) : Type 0 where
      pub ready : Ready p (Waits its) st
      pub still : st.outcome ≡ Running
      pub inside : i < length st.nodes
      pub conditions : conditions_of st.nodes i ≡ cs
      pub at_floor : latest x ≡ st.floor

    -- An item makes no child if no plan needs it,
    passed : (it : Item) (its : List Item) (st : State) → ((q : Timely p) → Kept q (under it) → listed it → ⊥) → Splitting (it ∷ its) st → Splitting its st
    passed it its st idle s = record {
      ready = fewer_left s.ready (λ q w. ⊎_elim (λ h. absurd (idle q h.0 h.1)) (λ rest. rest) (meets_first it its q w));
      still = s.still;
      inside = s.inside;
      conditions = s.conditions;
      at_floor = s.at_floor;
    }

    -- or a child is made, and put.
    made : (it : Item) (its : List Item) (st : State) (y : List TimedPath) → execution p.site p.task (under it) ≡ Some y → length st.nodes < most_nodes
        → Splitting (it ∷ its) st → Splitting its (with_node (child_of it y) st)
    made it its st y runs room s = record {
      ready = node_added p lawful st (child_of it y) s.ready new (λ q w. ⊎_elim (λ h. inl h.0) (λ rest. inr rest) (meets_first it its q w));
      still = s.still;
      inside = omega (arith, s.inside, one_longer st.nodes (child_of it y));
      conditions = conditions_stay st.nodes (child_of it y) s.ready.family i s.inside ∙ s.conditions;
      at_floor = s.at_floor;
    }
      where
        new : NewNode p st (child_of it y) (under it) y
        new = record {
          room = room;
          hangs = s.inside;
          conditions = conditions_of_child st.nodes i (at_time m it) (latest y) s.ready.family s.inside ∙ ap (λ l. at_time m it ∷ l) s.conditions;
          runs = runs;
          cost = refl;
          above = omega (arith, s.at_floor, cost_never_falls p lawful (at_time m it) cs x y ex (executes p (under it) y runs));
        }

    pub split_good : (its : List Item) (st : State) → Splitting its st → Good p (split p i cs m c its st)
    split_good [] st s = still_running s.still (fewer_left s.ready (λ q w. Memᴰ.not-nil w.1.among))
    split_good (it ∷ its) st s =
        subst (λ o. Good p (if is_full o then st else split p i cs m c its (if p.rule p.site c it then add_child i (at_time m it) (execution p.site p.task (under it)) st else st))) (sym s.still)
        (cond_both (p.rule p.site c it) (add_child i (at_time m it) (execution p.site p.task (under it)) st) st (λ u. Good p (split p i cs m c its u))
        (λ yes_listed. added (execution p.site p.task (under it)) refl (λ u. split_good its u))
        (λ unlisted. split_good its st (passed it its st (λ q kept yes_listed. both_ways (p.rule p.site c it) unlisted yes_listed) s)))
      where
        added : (r : Option (List TimedPath)) → execution p.site p.task (under it) ≡ r → ((u : State) → Splitting its u → Good p (split p i cs m c its u))
            → Good p (split p i cs m c its (add_child i (at_time m it) r st))
        added None e rest = rest st (passed it its st (λ q kept _. let (x, has) = kept_has_execution p lawful q (under it) kept in cc (e, has)) s)
        added (Some y) e rest =
            cond_both (ltb (length st.nodes) most_nodes) (with_node (child_of it y) st) (with_outcome Full st) (λ u. Good p (split p i cs m c its u))
            (λ room. rest (with_node (child_of it y) st) (made it its st y e (ltb-true (length st.nodes) most_nodes room) s))
            (λ no_room. full_good its st (ready_below s.ready) s.ready.counted (omega (arith, s.ready.few, ltb-false (length st.nodes) most_nodes no_room)))
