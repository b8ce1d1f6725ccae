-- The guarantee, and that no put is refused.
use Rattle.std.proofs.Common.{◌≡◌, ℕ, suc, ◌≤◌, ◌↔◌, List, ◌∷◌, ◌++◌, length, Some, Err, Result, sym, refl, ap, ◌∙◌, subst, arith}
use Rattle.std.specs.Prelude.{slice_get}
use Rattle.model.specs.declared.call.Answer.{Answer}
use Rattle.model.specs.declared.call.Call.{Call}
use Rattle.model.specs.declared.item.Condition.{Condition}
use Rattle.model.specs.declared.outcome.Outcome.{Outcome}
use Rattle.model.specs.declared.outcome.Outcome.TheVariants.{Running, Found, NoPlan, Full, Unfit}
use Rattle.model.specs.declared.outcome.Unfitness.{Unfitness}
use Rattle.model.specs.declared.refusal.Refusal.{Refusal}
use Rattle.model.specs.Begin.{begin}
use Rattle.model.specs.Calls.{answer, last_paths, paths_or_none, plan_of, shown, refusal}
use Rattle.model.specs.Execution.{latest, at_moment}
use Rattle.model.specs.Guarantee.{Guarantee, Guaranteed, NoPutIsRefused}
use Rattle.model.specs.Limits.{most_nodes}
use Rattle.model.specs.Nodes.{conditions_of}
use Rattle.model.specs.Plan.{IsPlan, NoPlanExists}
use Rattle.model.specs.Rule.{RuleLaws}
use Rattle.model.specs.Run.{Run, after_all, answers_to, turns_asked}
use Rattle.model.specs.Site.{Lawful}
use Rattle.model.specs.State.{Problem, State}
use Rattle.model.proofs.Begin.{begin_good, begin_new}
use Rattle.model.proofs.Calls.{refused_iff, accepted_answers, refused_leaves, shown_is}
use Rattle.model.proofs.Covering.{Ready, NoneLeft}
use Rattle.model.proofs.Execution.{Executes, executes, latest_in_time, unbroken_is_plan}
use Rattle.model.proofs.Good.{Shown, Standing, Good, while_running}
use Rattle.model.proofs.Plan.{plan_alike}
use Rattle.model.proofs.Run.{after_two, run_ends, run_answers, answers_length, answer_in_turn, calls_are_turns}
use Rattle.model.proofs.Turns.{Course, turns_course}

-- What is shown once found is a plan, of as many steps as its floor.
module _ (p : Problem) (lawful : Lawful p.site) (st : State) (good : Good p st) (steps : ℕ) (is : st.outcome ≡ Found steps) where
  find : Shown p st steps
  find = subst (Standing p st) is good.standing

  paths_are : last_paths p st ≡ find.paths
  paths_are = ap paths_or_none find.runs

  steps_are_floor : steps ≡ st.floor
  steps_are_floor = find.arrive ∙ find.cost

  -- the conditions of the node last taken, whose paths are shown
  abbrev cs : List Condition
  cs = conditions_of st.nodes st.last

  ex : Executes p cs find.paths
  ex = executes p cs find.paths find.runs

  steps_in_time : steps ≤ p.task.horizon
  steps_in_time = omega (arith, find.arrive, latest_in_time p lawful cs find.paths ex)

  its_plan : IsPlan p.site p.task steps (plan_of p st)
  its_plan =
      rw find.arrive (subst (λ x. IsPlan p.site p.task (latest find.paths) (at_moment x)) (sym paths_are) (unbroken_is_plan p lawful cs find.paths find.crew ex find.in_contact))

  shown_is_plan : IsPlan p.site p.task steps (shown p st)
  shown_is_plan = plan_alike (λ m h. sym (shown_is p st steps is m h (its_plan.everyone m h))) its_plan

module _ (p : Problem) (lawful : Lawful p.site) (laws : RuleLaws p.rule) (start : State) (start_good : Good p start) where
  -- the state after the calls, and the turns that they ask for
  abbrev at_end : List Call → State
  at_end calls = after_all p start calls

  abbrev asked : State → List Call → ℕ
  asked st calls = turns_asked calls (answers_to p st calls)

  course_of : (st : State) → Good p st → (calls : List Call) → Course p (asked st calls) st (after_all p st calls)
  course_of st good calls = rw (calls_are_turns p st calls) (turns_course p lawful laws (asked st calls) st good)

  pub good_after : (calls : List Call) → Good p (at_end calls)
  good_after calls = (course_of start start_good calls).good

  none_said : (calls : List Call) → (o : Outcome) → (at_end calls).outcome ≡ o → ((at_end calls).outcome ≡ Running → ⊥) → ((u : Unfitness) → (at_end calls).outcome ≡ Unfit u → ⊥) → ((at_end calls).outcome ≡ Full → ⊥)
      → NoPlanExists p.site p.task → (at_end calls).outcome ≡ NoPlan
  none_said calls Running e not_running not_unfit not_full no_plan = absurd (not_running e)
  none_said calls (Found n) e not_running not_unfit not_full no_plan =
      absurd (no_plan n (shown p (at_end calls)) (steps_in_time p lawful (at_end calls) (good_after calls) n e) (shown_is_plan p lawful (at_end calls) (good_after calls) n e))
  none_said calls NoPlan e not_running not_unfit not_full no_plan = e
  none_said calls Full e not_running not_unfit not_full no_plan = absurd (not_full e)
  none_said calls (Unfit u) e not_running not_unfit not_full no_plan = absurd (not_unfit u e)

  none_true : (calls : List Call) → (at_end calls).outcome ≡ NoPlan → NoPlanExists p.site p.task
  none_true calls is steps plan in_time h =
      let floor : (at_end calls).floor ≡ suc p.task.horizon = rw is at (good_after calls).standing in
      let low = (good_after calls).floor_holds steps plan h in
      omega arith

  never_falls : (sooner later : List Call) → (at_end sooner).floor ≤ (at_end (sooner ++ later)).floor
  never_falls sooner later = rw (after_two p start sooner later) (course_of (at_end sooner) (good_after sooner) later).rises

  stops_in_time : start.turns ≡ 0 → (calls : List Call) → suc most_nodes ≤ asked start calls → (at_end calls).outcome ≡ Running → ⊥
  stops_in_time new calls many still =
      let ready : Ready p NoneLeft (at_end calls) = while_running still (good_after calls) in
      omega (arith, (course_of start start_good calls).counts still, ready.counted, ready.few)

  -- What is answered to a call among others.
  in_its_turn : (calls sooner : List Call) (call : Call) (later : List Call) → sooner ++ (call ∷ later) ≡ calls
      → slice_get (answers_to p start calls) (length sooner) ≡ Some (answer p (at_end sooner) call)
  in_its_turn calls sooner call later e =
      rw (← e) (answer_in_turn p start sooner call later)

  refused_exactly : (calls sooner : List Call) (call : Call) (later : List Call) (r : Refusal) → sooner ++ (call ∷ later) ≡ calls
      → (slice_get (answers_to p start calls) (length sooner) ≡ Some (Err r)) ↔ (refusal p (at_end sooner) call ≡ Some r)
  refused_exactly calls sooner call later r e =
      let same = in_its_turn calls sooner call later e in
      let iff = refused_iff p (at_end sooner) call r in
      ((λ h. iff.0 (cc (same, h))), (λ h. same ∙ ap Some (iff.1 h)))

  guarantee_of : start.turns ≡ 0 → (calls : List Call) → Guarantee p start calls (answers_to p start calls) (at_end calls)
  guarantee_of new calls = record {
    found_is_a_plan = shown_is_plan p lawful (at_end calls) (good_after calls);
    found_is_in_time = steps_in_time p lawful (at_end calls) (good_after calls);
    found_is_least = λ n is steps plan h. let low = (good_after calls).floor_holds steps plan h in omega (arith, steps_are_floor p lawful (at_end calls) (good_after calls) n is);
    none_is_true = none_true calls;
    none_is_said = none_said calls (at_end calls).outcome refl;
    full_is_full = λ is. rw is at (good_after calls).standing;
    floor_holds = (good_after calls).floor_holds;
    floor_never_falls = λ sooner later first then e run.
        rw (← e, run_ends p run) (never_falls sooner later);
    stops = stops_in_time new calls;
    turns_are_those_asked_for = calls_are_turns p start calls;
    every_call_is_answered = answers_length p start calls;
    refused_where_due = λ sooner call later first then r e run.
        rw (run_ends p run) (refused_exactly calls sooner call later r e);
    refused_alters_nothing = λ sooner call later first then r e run h. refused_leaves p then call r h;
    answered_as_defined = λ sooner call later first then e run h.
        in_its_turn calls sooner call later e ∙ ap (λ st. Some (answer p st call)) (sym (run_ends p run)) ∙ ap Some (accepted_answers p then call h);
  }

  pub guarantee : start.turns ≡ 0 → (calls : List Call) (answers : List (Result Answer Refusal)) (now : State) → Run p start calls answers now → Guarantee p start calls answers now
  guarantee new calls answers now run =
      rw (run_answers p run, run_ends p run) (guarantee_of new calls)

pub guaranteed : Guaranteed
guaranteed p pairs room calls answers now lawful laws run =
    guarantee p lawful laws (begin p pairs room) (begin_good p lawful pairs room) (begin_new p pairs room) calls answers now run

pub no_put_is_refused : NoPutIsRefused
no_put_is_refused p pairs room calls answers now lawful laws run =
    rw (run_ends p run) (good_after p lawful laws (begin p pairs room) (begin_good p lawful pairs room) calls).each_put
