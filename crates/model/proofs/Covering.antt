-- What holds of a running search: its open nodes have executions of their cost, stand in order, are counted,
-- and cover every plan within the horizon.
use Rattle.std.proofs.Common.{◌≡◌, suc, ◌+◌, ◌<◌, ◌≤◌, ◌⊎◌, List, [], ◌∷◌, ◌++◌, length, Some, subst, sym, refl, ap, inl, inr, ⊎_elim, arith}
use mathlib.Core.List.Memᴰ
use mathlib.Core.List.{Memᴰ}
use Rattle.model.specs.declared.item.Condition.{Condition}
use Rattle.model.specs.declared.node.Node.{Node}
use Rattle.model.specs.Execution.{execution, latest}
use Rattle.model.specs.Limits.{most_nodes, most_steps}
use Rattle.model.specs.Nodes.{conditions_of}
use Rattle.model.specs.OpenList.{Pair, put, insert, InOrder}
use Rattle.model.specs.Path.{TimedPath}
use Rattle.model.specs.Site.{Lawful}
use Rattle.model.specs.State.{Problem, State, with_node}
use Rattle.model.specs.Turn.{taken}
use Rattle.model.proofs.Execution.{Executes, executes, latest_in_time}
use Rattle.model.proofs.Nodes.{Family, HangsBefore, one_longer, conditions_stay, family_grows}
use Rattle.model.proofs.OpenList.{before_costs, head_before, insert_length, insert_in_order, put_is_there, others_stay, put_or_there, put_inserts}
use Rattle.model.proofs.Waiting.{Timely, Kept, kept_cost}

-- An open pair names a node that has an execution of that cost, no lower than the floor.
pub record Opened (p : Problem) (st : State) (a : Pair) : Type 0 where
  pub inside : a.1 < length st.nodes
  pub paths : List TimedPath
  pub runs : execution p.site p.task (conditions_of st.nodes a.1) ≡ Some paths
  pub cost : latest paths ≡ a.0
  pub above : st.floor ≤ a.0

-- Its paths are the execution of the node.
executed : {p : Problem} {st : State} {a : Pair} (o : Opened p st a) → Executes p (conditions_of st.nodes a.1) o.paths
executed {p} {st} {a} o = executes p (conditions_of st.nodes a.1) o.paths o.runs

-- The plan keeps the conditions of an open node.
pub record Covered (p : Problem) (st : State) (q : Timely p) : Type 0 where
  pub pair : Pair
  pub among : Memᴰ pair st.pairs
  pub kept : Kept q (conditions_of st.nodes pair.1)

-- Every plan is covered but, within a turn, those that are left to the children not yet made.
pub record Ready (p : Problem) (Left : Timely p → Type 0) (st : State) : Type 0 where
  pub crew : length p.task.starts ≡ length p.task.goals
  pub family : Family st.nodes
  pub opened : (a : Pair) → Memᴰ a st.pairs → Opened p st a
  pub ordered : InOrder st.pairs
  pub counted : st.turns + length st.pairs ≡ length st.nodes
  pub few : length st.nodes ≤ most_nodes
  pub roomy : most_nodes ≤ st.room
  pub short : p.task.horizon ≤ most_steps
  pub low : st.floor ≤ p.task.horizon
  pub bounds : (q : Timely p) → st.floor ≤ q.steps
  pub covers : (q : Timely p) → Covered p st q ⊎ Left q

pub fewer_left : {p : Problem} {Left Fewer : Timely p → Type 0} {st : State} → Ready p Left st → ((q : Timely p) → Left q → Fewer q) → Ready p Fewer st
fewer_left {p} {Left} {Fewer} {st} r f =
    let covers : (q : Timely p) → Covered p st q ⊎ Fewer q = λ q. ⊎_elim inl (λ l. inr (f q l)) (r.covers q) in
    assumption

-- A new node that is put covers the plans that keep its conditions.
pub record NewNode (p : Problem) (st : State) (n : Node) (cs : List Condition) (x : List TimedPath) : Type 0 where
  pub room : length st.nodes < most_nodes
  pub hangs : HangsBefore (length st.nodes) n.branch
  pub conditions : conditions_of (st.nodes ++ (n ∷ [])) (length st.nodes) ≡ cs
  pub runs : execution p.site p.task cs ≡ Some x
  pub cost : latest x ≡ n.cost
  pub above : st.floor ≤ n.cost

-- No put is refused: a node costs no more than the horizon, and fewer pairs are open than there are nodes.
pub never_refused : (p : Problem) → Lawful p.site → (st : State) (n : Node) {Left : Timely p → Type 0} {cs : List Condition} {x : List TimedPath} → Ready p Left st → NewNode p st n cs x
    → put st.room (n.cost, length st.nodes) st.pairs ≡ insert (n.cost, length st.nodes) st.pairs
never_refused p lawful st n {cs = cs} {x = x} r new =
    let in_time = latest_in_time p lawful cs x (executes p cs x new.runs) in
    put_inserts st.room (n.cost, length st.nodes) st.pairs (omega (arith, r.short, new.cost)) (omega (arith, r.counted, r.roomy, new.room))

module _ (p : Problem) (st : State) (n : Node) where
  -- the pair of the new node
  abbrev here : Pair
  here = (n.cost, length st.nodes)

  longer : length (st.nodes ++ (n ∷ [])) ≡ suc (length st.nodes)
  longer = one_longer st.nodes n

  stays_open : Family st.nodes → (a : Pair) → Opened p st a → Opened p (with_node n st) a
  stays_open fam a o = record {
    inside = omega (arith, longer);
    paths = o.paths;
    runs = rw (conditions_stay st.nodes n fam a.1 o.inside) o.runs;
    cost = o.cost;
    above = o.above;
  }

  -- The pair of the new node is put.
  module _ (accepted : put st.room here st.pairs ≡ insert here st.pairs) where
    is_put : (a : Pair) → Memᴰ a (insert here st.pairs) → Memᴰ a (with_node n st).pairs
    is_put a h = subst (Memᴰ a) (sym accepted) h

    stays_covered : {q : Timely p} → Family st.nodes → ((a : Pair) → Memᴰ a st.pairs → Opened p st a) → Covered p st q → Covered p (with_node n st) q
    stays_covered {q} fam opened c = record {
      pair = c.pair;
      among = is_put c.pair (others_stay here c.pair st.pairs c.among);
      kept = rw (conditions_stay st.nodes n fam c.pair.1 (opened c.pair c.among).inside) c.kept;
    }

    pub put_covers : {Left Fewer : Timely p → Type 0} {cs : List Condition} {x : List TimedPath} → Ready p Left st → NewNode p st n cs x
        → ((q : Timely p) → Left q → Kept q cs ⊎ Fewer q) → Ready p Fewer (with_node n st)
    put_covers {Left} {Fewer} {cs} {x} r new f = record {
      crew = r.crew;
      family = family_grows st.nodes n r.family new.hangs;
      opened = λ a h. ⊎_elim (λ e. rw e here_opened) (λ t. stays_open r.family a (r.opened a t)) (put_or_there here a st.pairs (rw accepted at h));
      ordered = rw accepted (insert_in_order here st.pairs r.ordered);
      counted = omega (arith, longer, ap length accepted, insert_length here st.pairs);
      few = omega (arith, longer, new.room);
      roomy = r.roomy;
      short = r.short;
      low = r.low;
      bounds = r.bounds;
      covers = λ q. ⊎_elim (λ c. inl (stays_covered r.family r.opened c)) (λ l. ⊎_elim (λ k. inl (here_covers q k)) inr (f q l)) (r.covers q);
    }
      where
        here_opened : Opened p (with_node n st) here
        here_opened = record { inside = omega (arith, longer); paths = x; runs = rw new.conditions new.runs; cost = new.cost; above = new.above }

        here_covers : (q : Timely p) → Kept q cs → Covered p (with_node n st) q
        here_covers q k = record { pair = here; among = is_put here (put_is_there here st.pairs); kept = rw new.conditions k }

pub node_added : (p : Problem) → Lawful p.site → (st : State) (n : Node) {Left Fewer : Timely p → Type 0} {cs : List Condition} {x : List TimedPath} → Ready p Left st → NewNode p st n cs x
    → ((q : Timely p) → Left q → Kept q cs ⊎ Fewer q) → Ready p Fewer (with_node n st)
node_added p lawful st n r new f = put_covers p st n (never_refused p lawful st n r new) r new f

-- No plan is left over.
abbrev pub NoneLeft : {p : Problem} → Timely p → Type 0
NoneLeft q = ⊥

-- The first open pair is taken.
module _ (p : Problem) (lawful : Lawful p.site) (st : State) (a : Pair) (ps : List Pair) (first : st.pairs ≡ a ∷ ps) (r : Ready p NoneLeft st) where
  in_order : InOrder (a ∷ ps)
  in_order = rw first at r.ordered

  pub opened_before : (b : Pair) → Memᴰ b (a ∷ ps) → Opened p st b
  opened_before b h = r.opened b (rw first h)

  -- It costs no more than any plan within the horizon has steps.
  least : (q : Timely p) → a.0 ≤ q.steps
  least q = ⊎_elim covered absurd (r.covers q)
    where
      covered : Covered p st q → a.0 ≤ q.steps
      covered c =
          let o = r.opened c.pair c.among in
          let cheap = kept_cost p lawful q (conditions_of st.nodes c.pair.1) c.kept o.paths (executed o) in
          let behind = before_costs a c.pair (head_before a c.pair ps in_order (rw first at c.among)) in
          omega (arith, o.cost)

  -- The plans that only it covered are left.
  pub pair_taken : Ready p (λ q. Kept q (conditions_of st.nodes a.1)) (taken a ps st)
  pair_taken = record {
    crew = r.crew;
    family = r.family;
    opened = λ b h. let o = opened_before b (Memᴰ.tail h) in record { inside = o.inside; paths = o.paths; runs = o.runs; cost = o.cost; above = before_costs a b (in_order.0 b h) };
    ordered = in_order.1;
    counted = omega (arith, r.counted, ap length first);
    few = r.few;
    roomy = r.roomy;
    short = r.short;
    low = omega (arith, taken_one.cost, latest_in_time p lawful (conditions_of st.nodes a.1) taken_one.paths (executed taken_one));
    bounds = least;
    covers = λ q. ⊎_elim (covered q) absurd (r.covers q);
  }
    where
      taken_one : Opened p st a
      taken_one = opened_before a (Memᴰ.head refl)

      covered : (q : Timely p) → Covered p st q → Covered p (taken a ps st) q ⊎ Kept q (conditions_of st.nodes a.1)
      covered q c = ⊎_elim
          (λ e. inr (rw e at c.kept))
          (λ t. inl (record { pair = c.pair; among = t; kept = c.kept }))
          (Memᴰ.cases_cons (rw first at c.among))
