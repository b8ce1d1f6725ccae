-- Worked examples on six places, as one table of questions and replies.
use Rattle.std.specs.Prelude.{◌≡◌, ℕ, if◌then◌else◌, List, [], ◌∷◌, map, replicate, ℤ, pos, Some, None, Option, Ok, Err, Result, ◌==◌, unwrap_or}
use Rattle.model.specs.declared.call.Answer.{Answer}
use Rattle.model.specs.declared.call.Answer.TheVariants.{Turns, Looked, Place}
use Rattle.model.specs.declared.call.Call.{Call}
use Rattle.model.specs.declared.call.Call.TheVariants.{Advance, Look as LookAt, Show}
use Rattle.model.specs.declared.call.Look.{Look}
use Rattle.model.specs.declared.item.Condition.{Condition}
use Rattle.model.specs.declared.item.Demand.TheVariants.{MustBe, MustNotBe}
use Rattle.model.specs.declared.item.Item.{Item}
use Rattle.model.specs.declared.node.Node.{Node}
use Rattle.model.specs.declared.outcome.Outcome.{Outcome}
use Rattle.model.specs.declared.outcome.Outcome.TheVariants.{Running, Found, NoPlan, Full, Unfit}
use Rattle.model.specs.declared.refusal.Refusal.{Refusal}
use Rattle.model.specs.declared.refusal.Refusal.TheVariants.{TurnsOutOfRange, NoSuchCarrierOrMoment, CostTooHigh, HasStopped, NotFound, ListFull}
use Rattle.model.specs.Begin.{begin}
use Rattle.model.specs.Calls.{look_of, steps_in, number_in, carrier_in}
use Rattle.model.specs.Chosen.{chosen}
use Rattle.model.specs.Item.{at_time}
use Rattle.model.specs.Nodes.{root, child, conditions_of}
use Rattle.model.specs.OpenList.{Pair, put_refusal, put}
use Rattle.model.specs.PairSite.{Network, listed, pair_site}
use Rattle.model.specs.Path.{Errand, TimedPath}
use Rattle.model.specs.Plan.{Task}
use Rattle.model.specs.Rule.{Rule}
use Rattle.model.specs.Rules.{yields, three_way, listed_items}
use Rattle.model.specs.Run.{answers_to}
use Rattle.model.specs.Site.{Site}
use Rattle.model.specs.State.{Problem, State}
use Rattle.model.specs.Turn.{turn, turns_of}
use Rattle.model.specs.Window.{window}

-- What is asked: how it looks after 4,097 turns with a rule, over an empty open list with room for 4,096; how it looks when it
-- has just begun over another open list; what is answered to calls in a row; which items a rule lists for a configuration;
-- the chosen path; whether an open list of that size and room refuses a cost; in which order pairs stand that were put; which
-- conditions a node of a table has; and how it looks after one turn from so many nodes, all without condition, of which node 0 is
-- open at that cost, whatever the checks say of the task.
pub data Question : Type 0 where
  planned_by : Rule → Site → Task → Question
  begun_over : List Pair → ℕ → Task → Question
  called : Task → List Call → Question
  items_at : Rule → Site → List ℕ → Question
  path_for : Site → Errand → Question
  put_on : ℕ → ℕ → ℕ → Question
  all_put : List Pair → Question
  conditions_at : List Node → ℕ → Question
  one_turn : ℕ → ℕ → Task → Question

-- What is replied: how it looks, and its outcome in numbers, or, where it is unfit, the carrier that is named, if one is, the outcome in
-- numbers, turns, nodes and floor; the answers; the items; the path, if there is one; the refusal, if there is one; the pairs; the
-- conditions.
pub data Reply : Type 0 where
  looks : Look → ℕ × ℕ × ℕ → Reply
  fails : Option ℕ → ℕ × ℕ × ℕ → ℕ → ℕ → ℕ → Reply
  answers : List (Result Answer Refusal) → Reply
  lists : List Item → Reply
  walks : Option TimedPath → Reply
  refuses : Option Refusal → Reply
  in_order : List Pair → Reply
  keeps : List Condition → Reply

-- Six places: the base apart, and two galleries of places 1 to 3 and 4 to 5, with these contacts.
abbrev pub network_with : List (ℕ × ℕ) → Network
network_with contacts = record { places = 6; base = 0; moves = listed ((4, 5) ∷ (2, 3) ∷ (1, 2) ∷ []); contacts = listed contacts }

-- All their contacts, and all but that of 2 and 4.
abbrev pub all_contacts : List (ℕ × ℕ)
all_contacts = (3, 5) ∷ (2, 4) ∷ (1, 4) ∷ (0, 5) ∷ (0, 4) ∷ []

abbrev pub without_2_4 : List (ℕ × ℕ)
without_2_4 = (3, 5) ∷ (1, 4) ∷ (0, 5) ∷ (0, 4) ∷ []

-- The six places.
abbrev pub six_places : Network
six_places = network_with all_contacts

-- Six places under a window, with these contacts and that reading at place 2. The base has no reading, other places 12.0 degrees.
abbrev pub site_with : List (ℕ × ℕ) → ℤ → Site
site_with contacts reading = window (λ p. if p == 0 then None else Some (if p == 2 then reading else pos 120)) (pair_site (network_with contacts))

-- The six places with 12.0 degrees at all but the base.
abbrev pub galleries : Site
galleries = site_with all_contacts (pos 120)

-- From these starts to these goals by that horizon.
abbrev pub task : List ℕ → List ℕ → ℕ → Task
task starts goals horizon = record { starts = starts; goals = goals; horizon = horizon }

-- From (1, 4) to (3, 5) by that horizon.
abbrev pub across : ℕ → Task
across horizon = task (1 ∷ 4 ∷ []) (3 ∷ 5 ∷ []) horizon

-- These pairs, put one after another, the first of them last.
abbrev pub put_all : List Pair → List Pair
put_all [] = []
put_all (a ∷ ps) = put 4096 a (put_all ps)

-- So many nodes, all without condition, of which node 0 is open at that cost.
abbrev pub nodes_made : ℕ → ℕ → State
nodes_made n cost = record { nodes = replicate n (root cost); pairs = (cost, 0) ∷ []; room = 4096; outcome = Running; turns = 0; floor = 0; last = 0 }

-- An outcome in numbers: the steps, the number of the refusal, and the carrier.
abbrev pub in_numbers : Outcome → ℕ × ℕ × ℕ
in_numbers o = (steps_in o, number_in o, carrier_in o)

-- How it looks, and its outcome in numbers: what is unfit is seen in numbers alone.
abbrev pub seen_as : Outcome → Look → Reply
seen_as Running l = looks l (in_numbers Running)
seen_as (Found n) l = looks l (in_numbers (Found n))
seen_as NoPlan l = looks l (in_numbers NoPlan)
seen_as Full l = looks l (in_numbers Full)
seen_as (Unfit u) l = fails u.carrier (in_numbers (Unfit u)) l.turns l.nodes l.floor

abbrev pub seen : Look → Reply
seen l = seen_as l.outcome l

-- The definitions' reply.
abbrev pub reply_to : Question → Reply
reply_to (planned_by rule s t) =
    let p : Problem = record { site = s; rule = rule; task = t } in
    seen (look_of (turns_of p 4097 (begin p [] 4096)))
reply_to (begun_over pairs room t) =
    let p : Problem = record { site = galleries; rule = three_way; task = t } in
    seen (look_of (begin p pairs room))
reply_to (called t calls) =
    let p : Problem = record { site = galleries; rule = three_way; task = t } in
    answers (answers_to p (begin p [] 4096) calls)
reply_to (items_at rule s c) = lists (listed_items rule s c)
reply_to (path_for s e) = walks (chosen s e)
reply_to (put_on cost size room) = refuses (put_refusal cost size room)
reply_to (all_put ps) = in_order (put_all ps)
reply_to (conditions_at ns i) = keeps (conditions_of ns i)
reply_to (one_turn n cost t) =
    let p : Problem = record { site = galleries; rule = three_way; task = t } in
    seen (look_of (turn p (nodes_made n cost)))

-- A look: outcome, turns, nodes, floor.
abbrev pub look_at : Outcome → ℕ → ℕ → ℕ → Look
look_at o turns nodes floor = record { outcome = o; turns = turns; nodes = nodes; floor = floor }

-- It is fit: outcome, steps in numbers, turns, nodes, floor. The number of a refusal and the carrier are 0.
abbrev pub stands : Outcome → ℕ → ℕ → ℕ → ℕ → Reply
stands o steps turns nodes floor = looks (look_at o turns nodes floor) (steps, 0, 0)

-- It is unfit: the number of the refusal, and the carrier that it names, or nobody, which in numbers is 0. Nothing has been done.
abbrev pub unfit : ℕ → Option ℕ → Reply
unfit number carrier = fails carrier (0, number, unwrap_or carrier 0) 0 0 0

-- A carrier must be at a place, or must not be there.
abbrev pub at : ℕ → ℕ → Item
at a p = record { carrier = a; place = p; demand = MustBe }

abbrev pub not_at : ℕ → ℕ → Item
not_at a p = record { carrier = a; place = p; demand = MustNotBe }

-- Carrier 1 from 1 to 3 by horizon 4.
abbrev pub errand_under : List Condition → Errand
errand_under cs = record { carrier = 1; start = 1; goal = 3; horizon = 4; conditions = cs }

-- A condition of a carrier, a place and a moment: it must be there then, or must not.
abbrev pub then_at : ℕ → ℕ → ℕ → Condition
then_at a p m = at_time m (at a p)

abbrev pub then_not_at : ℕ → ℕ → ℕ → Condition
then_not_at a p m = at_time m (not_at a p)

-- These places, and the arrival.
abbrev pub walk : List ℕ → ℕ → Reply
walk places arrival = walks (Some (record { places = places; arrival = arrival }))

-- The table.
abbrev pub examples : List (Question × Reply)
examples =
    -- both rules find two steps; Three-way makes one node more
    (planned_by yields galleries (across 4), stands (Found 2) 2 2 3 2) ∷
    (planned_by three_way galleries (across 4), stands (Found 2) 2 2 4 2) ∷
    -- (2, 5) is out of contact; (1, 4) is not
    (items_at three_way galleries (2 ∷ 5 ∷ []), lists (at 1 0 ∷ at 1 3 ∷ at 1 4 ∷ at 1 5 ∷ at 2 2 ∷ at 2 4 ∷ not_at 1 2 ∷ not_at 2 5 ∷ [])) ∷
    (items_at yields galleries (2 ∷ 5 ∷ []), lists (not_at 1 2 ∷ not_at 2 5 ∷ [])) ∷
    (items_at three_way galleries (1 ∷ 4 ∷ []), lists []) ∷
    (items_at yields galleries (2 ∷ 6 ∷ []), lists []) ∷
    -- a node's own condition, its parent's, and so on to the root
    (
      conditions_at (root 2 ∷ child 0 (then_at 1 2 1) 2 ∷ child 1 (then_not_at 2 5 2) 3 ∷ child 0 (then_at 2 4 1) 2 ∷ []) 2,
      keeps (then_not_at 2 5 2 ∷ then_at 1 2 1 ∷ []),
    ) ∷
    -- three children: all of them where the table has room, and else as many as it has room for
    (one_turn 4093 2 (across 4), stands Running 0 1 4096 2) ∷
    (one_turn 4094 2 (across 4), stands Full 0 1 4096 2) ∷
    (one_turn 4096 2 (across 4), stands Full 0 1 4096 2) ∷
    -- out of contact in the last moment only: not found
    (one_turn 1 1 (task (1 ∷ 4 ∷ []) (2 ∷ 5 ∷ []) 1), stands Running 0 1 1 1) ∷
    -- without the contact of 2 and 4, by horizons 2 and 3
    (planned_by yields (site_with without_2_4 (pos 120)) (across 2), stands NoPlan 0 3 2 3) ∷
    (planned_by three_way (site_with without_2_4 (pos 120)) (across 2), stands NoPlan 0 3 2 3) ∷
    (planned_by yields (site_with without_2_4 (pos 120)) (across 3), stands NoPlan 0 8 7 4) ∷
    (planned_by three_way (site_with without_2_4 (pos 120)) (across 3), stands NoPlan 0 12 11 4) ∷
    -- goals equal to starts
    (planned_by yields galleries (task (1 ∷ 4 ∷ []) (1 ∷ 4 ∷ []) 0), stands (Found 0) 0 1 1 0) ∷
    (planned_by three_way galleries (task (1 ∷ 4 ∷ []) (1 ∷ 4 ∷ []) 0), stands (Found 0) 0 1 1 0) ∷
    -- readings at place 2 at the ends of what is mild
    (planned_by yields (site_with all_contacts (pos 49)) (across 4), stands NoPlan 0 1 0 5) ∷
    (planned_by three_way (site_with all_contacts (pos 49)) (across 4), stands NoPlan 0 1 0 5) ∷
    (planned_by yields (site_with all_contacts (pos 301)) (across 4), stands NoPlan 0 1 0 5) ∷
    (planned_by three_way (site_with all_contacts (pos 301)) (across 4), stands NoPlan 0 1 0 5) ∷
    (planned_by yields (site_with all_contacts (pos 50)) (across 4), stands (Found 2) 2 2 3 2) ∷
    (planned_by three_way (site_with all_contacts (pos 50)) (across 4), stands (Found 2) 2 2 4 2) ∷
    (planned_by yields (site_with all_contacts (pos 300)) (across 4), stands (Found 2) 2 2 3 2) ∷
    (planned_by three_way (site_with all_contacts (pos 300)) (across 4), stands (Found 2) 2 2 4 2) ∷
    -- goals and starts out of contact
    (planned_by yields galleries (task (1 ∷ 4 ∷ []) (2 ∷ 5 ∷ []) 4), unfit 12 (Some 1)) ∷
    (planned_by three_way galleries (task (1 ∷ 4 ∷ []) (2 ∷ 5 ∷ []) 4), unfit 12 (Some 1)) ∷
    (planned_by three_way galleries (task (4 ∷ 2 ∷ 5 ∷ 3 ∷ []) (4 ∷ 2 ∷ 5 ∷ 3 ∷ []) 4), stands (Found 0) 0 1 1 0) ∷
    (planned_by three_way galleries (task (5 ∷ 2 ∷ 1 ∷ []) (4 ∷ 2 ∷ 1 ∷ []) 4), unfit 11 (Some 2)) ∷
    -- a start or a goal that is closed: the lowest carrier is named
    (planned_by three_way galleries (task (4 ∷ 0 ∷ 0 ∷ []) (4 ∷ 4 ∷ 4 ∷ []) 4), unfit 10 (Some 2)) ∷
    (planned_by three_way galleries (task (4 ∷ 4 ∷ 0 ∷ []) (4 ∷ 6 ∷ 4 ∷ []) 4), unfit 10 (Some 2)) ∷
    -- carriers and horizons at their limits; the earlier check is answered
    (planned_by three_way galleries (task [] [] 4), unfit 8 None) ∷
    (planned_by three_way galleries (task (4 ∷ 4 ∷ []) (4 ∷ []) 4), unfit 8 None) ∷
    (planned_by three_way galleries (task (replicate 8 4) (replicate 8 4) 64), stands (Found 0) 0 1 1 0) ∷
    (planned_by three_way galleries (task (replicate 9 4) (replicate 9 4) 64), unfit 8 None) ∷
    (planned_by three_way galleries (task [] [] 65), unfit 8 None) ∷
    (planned_by three_way galleries (task (0 ∷ []) (0 ∷ []) 65), unfit 9 None) ∷
    (planned_by three_way galleries (task (2 ∷ 5 ∷ []) (0 ∷ 5 ∷ []) 4), unfit 10 (Some 1)) ∷
    (planned_by three_way galleries (task (5 ∷ 2 ∷ []) (2 ∷ 5 ∷ []) 4), unfit 11 (Some 2)) ∷
    -- open lists that are not empty, or too small
    (begun_over [] 4096 (across 4), stands Running 0 0 1 0) ∷
    (begun_over [] 4095 (task [] [] 65), unfit 21 None) ∷
    (begun_over ((0, 0) ∷ []) 4096 (across 4), unfit 21 None) ∷
    -- calls in a row, with those that are refused
    (
      called (across 4) (Advance 0 ∷ Advance 10001 ∷ Show 3 9 ∷ Advance 1 ∷ LookAt ∷ Advance 10000 ∷ LookAt ∷ Advance 1 ∷ Advance 0 ∷ []),
      answers (
          Err TurnsOutOfRange ∷ Err TurnsOutOfRange ∷ Err NotFound ∷ Ok (Turns 1) ∷ Ok (Looked (look_at Running 1 4 2)) ∷
          Ok (Turns 1) ∷ Ok (Looked (look_at (Found 2) 2 4 2)) ∷ Err HasStopped ∷ Err TurnsOutOfRange ∷ []),
    ) ∷ (
      called (across 4) (Advance 2 ∷ Show 1 0 ∷ Show 2 0 ∷ Show 1 1 ∷ Show 2 1 ∷ Show 1 2 ∷ Show 2 2 ∷ Show 0 0 ∷ Show 3 0 ∷ Show 1 3 ∷ []),
      answers (
          Ok (Turns 2) ∷ Ok (Place 1) ∷ Ok (Place 4) ∷ Ok (Place 2) ∷ Ok (Place 4) ∷ Ok (Place 3) ∷ Ok (Place 5) ∷
          Err NoSuchCarrierOrMoment ∷ Err NoSuchCarrierOrMoment ∷ Err NoSuchCarrierOrMoment ∷ []),
    ) ∷
    -- the chosen path; under conditions; those later than the arrival and those at the goal count, those of another carrier do not
    (path_for galleries (errand_under []), walk (1 ∷ 2 ∷ 3 ∷ 3 ∷ 3 ∷ []) 2) ∷
    (path_for galleries (errand_under (then_not_at 1 2 1 ∷ then_not_at 1 3 3 ∷ then_not_at 2 3 4 ∷ [])), walk (1 ∷ 1 ∷ 1 ∷ 2 ∷ 3 ∷ []) 4) ∷
    (path_for galleries (errand_under (then_at 1 2 2 ∷ [])), walk (1 ∷ 1 ∷ 2 ∷ 3 ∷ 3 ∷ []) 3) ∷
    (path_for galleries (errand_under (then_at 1 2 3 ∷ [])), walk (1 ∷ 1 ∷ 1 ∷ 2 ∷ 3 ∷ []) 4) ∷
    (path_for galleries (errand_under (then_not_at 1 3 4 ∷ [])), walks None) ∷
    (path_for galleries (errand_under (then_at 1 1 3 ∷ [])), walks None) ∷
    -- the open list: by cost and then number, equal pairs allowed; the cost is looked at before the room
    (all_put ((2, 1) ∷ (1, 3) ∷ (2, 0) ∷ (0, 4) ∷ (1, 3) ∷ []), in_order ((0, 4) ∷ (1, 3) ∷ (1, 3) ∷ (2, 0) ∷ (2, 1) ∷ [])) ∷
    (put_on 64 4095 4096, refuses None) ∷
    (put_on 64 4096 4096, refuses (Some ListFull)) ∷
    (put_on 65 4096 4096, refuses (Some CostTooHigh)) ∷ []

-- Each question has its reply.
abbrev pub ExamplesHold : Type 0
ExamplesHold = map (λ e. reply_to e.0) examples ≡ map (λ e. e.1) examples
