-- A turn keeps a search good, counts, and never lowers the floor.
use Rattle.std.proofs.Common.{◌≡◌, ℕ, suc, ◌≤◌, if◌then◌else◌, List, [], ◌∷◌, Some, None, Option, refl, ◌∙◌, ⊎_elim, arith}
use mathlib.Core.List.Memᴰ
use mathlib.Core.List.{Memᴰ}
use Rattle.std.proofs.lemmas.Bool.{cond_both}
use Rattle.model.specs.declared.item.Condition.{Condition}
use Rattle.model.specs.declared.item.Item.{Item}
use Rattle.model.specs.declared.node.Node.{Node}
use Rattle.model.specs.declared.outcome.Outcome.{Outcome}
use Rattle.model.specs.declared.outcome.Outcome.TheVariants.{Running, Found, Full}
use Rattle.model.specs.Execution.{execution, latest, at_moment, first_break}
use Rattle.model.specs.Item.{at_time}
use Rattle.model.specs.Nodes.{child, conditions_of}
use Rattle.model.specs.OpenList.{Pair, first, rest}
use Rattle.model.specs.Path.{TimedPath}
use Rattle.model.specs.Rule.{RuleLaws}
use Rattle.model.specs.Rules.{items}
use Rattle.model.specs.Site.{Lawful}
use Rattle.model.specs.State.{Problem, State, is_full, with_outcome, with_node}
use Rattle.model.specs.Turn.{add_child, split, expand, visit, exhausted, taken, turn_on, turn}
use Rattle.model.proofs.Breaks.{every_plan_meets_one}
use Rattle.model.proofs.Covering.{Opened, Covered, Ready, fewer_left, NoneLeft, opened_before, pair_taken}
use Rattle.model.proofs.Execution.{carriers, Executes, executes, unbroken, broken}
use Rattle.model.proofs.Good.{Good, below_all, ready_below, while_running}
use Rattle.model.proofs.Split.{split_good}
use Rattle.model.proofs.Waiting.{Timely, Kept}

-- An empty open list leaves no plan within the horizon.
exhausted_good : (p : Problem) (st : State) → st.pairs ≡ [] → Ready p NoneLeft st → Good p (exhausted p st)
exhausted_good p st empty r = record { floor_holds = below_all p (suc p.task.horizon) (omega arith) (λ q. absurd (nobody q)); standing = refl; each_put = omega (arith, r.counted) }
  where
    nobody : Timely p → ⊥
    nobody q = ⊎_elim (λ (c : Covered p st q). Memᴰ.not-nil (rw empty at c.among)) (λ left. left) (r.covers q)

-- A pair is taken: the search is found, or the pair's node is split.
module _ (p : Problem) (lawful : Lawful p.site) (laws : RuleLaws p.rule)
    (st : State) (run : st.outcome ≡ Running) (r : Ready p NoneLeft st) (a : Pair) (ps : List Pair) (is_first : st.pairs ≡ a ∷ ps) where
  here : Opened p st a
  here = opened_before p lawful st a ps is_first r a (Memᴰ.head refl)

  -- the conditions of the node that is taken
  abbrev cs : List Condition
  cs = conditions_of st.nodes a.1

  -- the moments up to the cost
  abbrev moments : ℕ
  moments = suc (latest here.paths)

  ex : Executes p cs here.paths
  ex = executes p cs here.paths here.runs

  after_take : Ready p (λ q. Kept q cs) (taken a ps st)
  after_take = pair_taken p lawful st a ps is_first r

  expand_good : (b : Option ℕ) → first_break p.site here.paths 0 moments ≡ b → Good p (expand p a.1 cs here.paths b (taken a ps st))
  expand_good None e = record {
    floor_holds = ready_below after_take;
    standing = record {
      crew = r.crew;
      paths = here.paths;
      runs = here.runs;
      arrive = refl;
      cost = here.cost;
      in_contact = λ m h. unbroken p.site here.paths 0 moments e m (omega arith) (omega arith);
    };
    each_put = after_take.counted;
  }
  expand_good (Some m) e =
      let lack = broken p.site here.paths 0 moments m e in
      let c : List ℕ = at_moment here.paths m in
      split_good p a.1 cs m c lawful here.paths ex (items (carriers p) p.site.places) (taken a ps st) (record {
        ready = fewer_left after_take (λ q kept. (kept, every_plan_meets_one p lawful laws cs here.paths ex m (omega arith) lack.1 q));
        still = run;
        inside = here.inside;
        conditions = refl;
        at_floor = here.cost;
      })

  taken_good : Good p (turn_on p (Some a) ps st)
  taken_good = rw here.runs (expand_good (first_break p.site here.paths 0 moments) refl)

pub turn_good : (p : Problem) → Lawful p.site → RuleLaws p.rule → (st : State) → st.outcome ≡ Running → Good p st → Good p (turn p st)
turn_good p lawful laws st run g = go st.pairs refl
  where
    go : (ps : List Pair) → st.pairs ≡ ps → Good p (turn_on p (first ps) (rest ps) st)
    go [] e = exhausted_good p st e (while_running run g)
    go (a ∷ ps) e = taken_good p lawful laws st run (while_running run g) a ps e

-- What neither a new node nor an outcome alters is, after a turn, as it was when the pair was taken.
pub record Untouched (f : State → ℕ) : Type 0 where
  pub by_node : (n : Node) (st : State) → f (with_node n st) ≡ f st
  pub by_outcome : (o : Outcome) (st : State) → f (with_outcome o st) ≡ f st

module _ (f : State → ℕ) (same : Untouched f) (p : Problem) (i : ℕ) (cs : List Condition) where
  add_keeps : (c : Condition) (r : Option (List TimedPath)) (st : State) → f (add_child i c r st) ≡ f st
  add_keeps c None st = refl
  add_keeps c (Some x) st = grind (arith, same.by_node (child i c (latest x)) st, same.by_outcome Full st)

  split_keeps : (m : ℕ) (c : List ℕ) (its : List Item) (st : State) → f (split p i cs m c its st) ≡ f st
  split_keeps m c [] st = refl
  split_keeps m c (it ∷ its) st =
      let next : State = if p.rule p.site c it then add_child i (at_time m it) (execution p.site p.task (at_time m it ∷ cs)) st else st in
      let added : f next ≡ f st = cond_both (p.rule p.site c it) (add_child i (at_time m it) (execution p.site p.task (at_time m it ∷ cs)) st) st (λ u. f u ≡ f st)
      (λ _. add_keeps (at_time m it) (execution p.site p.task (at_time m it ∷ cs)) st) (λ _. refl) in
      cond_both (is_full st.outcome) st (split p i cs m c its next) (λ u. f u ≡ f st) (λ _. refl) (λ _. split_keeps m c its next ∙ added)

  expand_keeps : (x : List TimedPath) (b : Option ℕ) (st : State) → f (expand p i cs x b st) ≡ f st
  expand_keeps x None st = same.by_outcome (Found (latest x)) st
  expand_keeps x (Some m) st = split_keeps m (at_moment x m) (items (carriers p) p.site.places) st

  visit_keeps : (r : Option (List TimedPath)) (st : State) → f (visit p i cs r st) ≡ f st
  visit_keeps None st = refl
  visit_keeps (Some x) st = expand_keeps x (first_break p.site x 0 (suc (latest x))) st

turn_keeps : (f : State → ℕ) → Untouched f → (p : Problem) (a : Pair) (ps : List Pair) (st : State) → f (turn_on p (Some a) ps st) ≡ f (taken a ps st)
turn_keeps f same p a ps st =
    let cs : List Condition = conditions_of st.nodes a.1 in
    visit_keeps f same p a.1 cs (execution p.site p.task cs) (taken a ps st)

-- A turn counts however it ends.
pub turn_counts : (p : Problem) (st : State) → (turn p st).turns ≡ suc st.turns
turn_counts p st = go st.pairs
  where
    go : (ps : List Pair) → (turn_on p (first ps) (rest ps) st).turns ≡ suc st.turns
    go [] = refl
    go (a ∷ ps) = turn_keeps (λ u. u.turns) (record { by_node = λ n u. refl; by_outcome = λ o u. refl }) p a ps st

-- A turn never lowers the floor.
pub turn_raises : (p : Problem) (st : State) → Ready p NoneLeft st → st.floor ≤ (turn p st).floor
turn_raises p st r = go st.pairs refl
  where
    go : (ps : List Pair) → st.pairs ≡ ps → st.floor ≤ (turn_on p (first ps) (rest ps) st).floor
    go [] e = omega (arith, r.low)
    go (a ∷ ps) e =
        let same = turn_keeps (λ u. u.floor) (record { by_node = λ n u. refl; by_outcome = λ o u. refl }) p a ps st in
        omega (arith, (r.opened a (rw e (Memᴰ.head refl))).above)
