-- Every list of calls has one run; runs join; and the turns that are made are those asked for.
use Rattle.std.proofs.Common.{◌≡◌, ℕ, suc, List, [], ◌∷◌, ◌++◌, length, Some, Result, sym, refl, ap, ◌∙◌}
use Rattle.std.specs.Prelude.{slice_get}
use Rattle.std.proofs.lemmas.List.{append-nil, append_assoc}
use Rattle.model.specs.declared.call.Answer.{Answer}
use Rattle.model.specs.declared.call.Call.{Call}
use Rattle.model.specs.declared.refusal.Refusal.{Refusal}
use Rattle.model.specs.Calls.{answer, after}
use Rattle.model.specs.Run.{Run, after_all, answers_to, turns_granted, turns_asked, RunsAreDetermined}
use Rattle.model.specs.Run.Run.{no_calls, and_then}
use Rattle.model.specs.State.{Problem, State}
use Rattle.model.specs.Turn.{turns_of}
use Rattle.model.proofs.Calls.{after_is_turns}
use Rattle.model.proofs.Turns.{turns_add}

module _ (p : Problem) where
  -- Calls in two parts.

  pub after_two : (st : State) (xs ys : List Call) → after_all p st (xs ++ ys) ≡ after_all p (after_all p st xs) ys
  after_two st [] ys = refl
  after_two st (x ∷ xs) ys = after_two (after p st x) xs ys

  answers_two : (st : State) (xs ys : List Call) → answers_to p st (xs ++ ys) ≡ answers_to p st xs ++ answers_to p (after_all p st xs) ys
  answers_two st [] ys = refl
  answers_two st (x ∷ xs) ys = ap (λ l. answer p st x ∷ l) (answers_two (after p st x) xs ys)

  -- A run leads to that state and has those answers,

  pub run_ends : {start st : State} {calls : List Call} {answers : List (Result Answer Refusal)} → Run p start calls answers st → st ≡ after_all p start calls
  run_ends no_calls = refl
  run_ends {start} (and_then {calls = calls} r c) = ap (λ s. after p s c) (run_ends r) ∙ sym (after_two start calls (c ∷ []))

  pub run_answers : {start st : State} {calls : List Call} {answers : List (Result Answer Refusal)} → Run p start calls answers st → answers ≡ answers_to p start calls
  run_answers no_calls = refl
  run_answers {start} (and_then {calls = calls} {answers = answers} {st = st} r c) =
      rw (answers_two start calls (c ∷ []), run_answers r, run_ends r) refl

  -- and goes on with every list of calls.
  run_on : (more : List Call) (start st : State) (calls : List Call) (answers : List (Result Answer Refusal)) → Run p start calls answers st
      → Run p start (calls ++ more) (answers ++ answers_to p st more) (after_all p st more)
  run_on [] start st calls answers r =
      rw (append-nil calls, append-nil answers) r
  run_on (c ∷ more) start st calls answers r =
      let longer = run_on more start (after p st c) (calls ++ (c ∷ [])) (answers ++ (answer p st c ∷ [])) (and_then r c) in
      rw (append_assoc calls (c ∷ []) more, append_assoc answers (answer p st c ∷ []) (answers_to p (after p st c) more)) at longer

  pub run_of : (start : State) (calls : List Call) → Run p start calls (answers_to p start calls) (after_all p start calls)
  run_of start calls = run_on calls start start [] [] no_calls

  -- Answers, one by one.

  pub answers_length : (st : State) (cs : List Call) → length (answers_to p st cs) ≡ length cs
  answers_length st [] = refl
  answers_length st (c ∷ cs) = ap suc (answers_length (after p st c) cs)

  pub answer_in_turn : (st : State) (sooner : List Call) (c : Call) (later : List Call)
      → slice_get (answers_to p st (sooner ++ (c ∷ later))) (length sooner) ≡ Some (answer p (after_all p st sooner) c)
  answer_in_turn st [] c later = refl
  answer_in_turn st (b ∷ sooner) c later = answer_in_turn (after p st b) sooner c later

  -- The turns made are those asked for.
  pub calls_are_turns : (st : State) (cs : List Call) → after_all p st cs ≡ turns_of p (turns_asked cs (answers_to p st cs)) st
  calls_are_turns st [] = refl
  calls_are_turns st (c ∷ cs) =
      let later : ℕ = turns_asked cs (answers_to p (after p st c) cs) in
      calls_are_turns (after p st c) cs ∙ ap (turns_of p later) (after_is_turns p st c) ∙ sym (turns_add p (turns_granted c (answer p st c)) later st)

pub runs_are_determined : RunsAreDetermined
runs_are_determined = record {
  every_list_runs = run_of;
  only_one_run = λ p start calls answers st r. (run_answers p r, run_ends p r);
  runs_join = λ p start middle st calls later answers more r q.
      rw (run_answers p q, run_ends p q) (run_on p later start middle calls answers r);
}
