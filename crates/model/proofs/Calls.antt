-- One call: it is refused where that is due and then alters nothing, and else it makes the turns asked for.
use Rattle.std.proofs.Common.{◌≡◌, ℕ, suc, ◌<◌, ◌≤◌, ◌↔◌, length, get_or, Some, None, Option, Ok, Err, Result, sym, refl, ap, ◌∙◌, arith}
use Rattle.std.proofs.lemmas.List.FromFn.{length-map-range_with_len, get_or-map-range_with_len}
use Rattle.std.proofs.lemmas.List.{ext_get_or}
use Rattle.std.proofs.lemmas.Bool.Decides.{nat_tests}
use Rattle.model.specs.declared.call.Answer.{Answer}
use Rattle.model.specs.declared.call.Call.{Call}
use Rattle.model.specs.declared.call.Call.TheVariants.{Advance, Look as LookAt, Show}
use Rattle.model.specs.declared.outcome.Outcome.TheVariants.{Found}
use Rattle.model.specs.declared.refusal.Refusal.{Refusal}
use Rattle.model.specs.Calls.{plan_of, place_in, shown, refusal, accepted_state, accepted_answer, after, answer}
use Rattle.model.specs.Refusals.{unless_refused}
use Rattle.model.specs.Run.{turns_granted}
use Rattle.model.specs.State.{Problem, State}
use Rattle.model.specs.Turn.{turns_of}

module _ (p : Problem) where
  -- A call leaves what the turns leave that it is granted.
  pub after_is_turns : (st : State) (c : Call) → after p st c ≡ turns_of p (turns_granted c (answer p st c)) st
  after_is_turns st c = go (refusal p st c) c
    where
      go : (r : Option Refusal) (c : Call)
          → unless_refused r (accepted_state p st c) (λ _. st) ≡ turns_of p (turns_granted c (unless_refused r (Ok (accepted_answer p st c)) Err)) st
      go None (Advance n) = refl
      go None LookAt = refl
      go None (Show a m) = refl
      go (Some r) (Advance n) = refl
      go (Some r) LookAt = refl
      go (Some r) (Show a m) = refl

  -- what is answered to a call, by the refusal that is due, if one is
  abbrev answer_by : State → Call → Option Refusal → Result Answer Refusal
  answer_by st c o = unless_refused o (Ok (accepted_answer p st c)) Err

  pub refused_iff : (st : State) (c : Call) (r : Refusal) → (answer p st c ≡ Err r) ↔ (refusal p st c ≡ Some r)
  refused_iff st c r = (there (refusal p st c), λ h. ap (answer_by st c) h)
    where
      there : (o : Option Refusal) → answer_by st c o ≡ Err r → o ≡ Some r
      there None e = cc
      there (Some q) e = cc

  pub accepted_answers : (st : State) (c : Call) → refusal p st c ≡ None → answer p st c ≡ Ok (accepted_answer p st c)
  accepted_answers st c h = ap (answer_by st c) h

  pub refused_leaves : (st : State) (c : Call) (r : Refusal) → refusal p st c ≡ Some r → after p st c ≡ st
  refused_leaves st c r h = ap (λ o. unless_refused o (accepted_state p st c) (λ _. st)) h

  -- What `show` answers of a found plan is that plan.
  show_accepted : (st : State) (steps a m : ℕ) → st.outcome ≡ Found steps → 0 < a → a ≤ length p.task.starts → m ≤ steps → refusal p st (Show a m) ≡ None
  show_accepted st steps a m found low high in_time = rw found (grind (arith, nat_tests))

  pub shown_is : (st : State) (steps : ℕ) → st.outcome ≡ Found steps → (m : ℕ) → m ≤ steps → length (plan_of p st m) ≡ length p.task.starts → shown p st m ≡ plan_of p st m
  shown_is st steps found m in_time everyone = ext_get_or 0 (shown p st m) (plan_of p st m) (so_many ∙ sym everyone) (λ i h. at i (omega (arith, so_many)))
    where
      so_many : length (shown p st m) ≡ length p.task.starts
      so_many = length-map-range_with_len (λ a. place_in (answer p st (Show a m))) 1 (length p.task.starts)

      at : (i : ℕ) → i < length p.task.starts → get_or (shown p st m) i 0 ≡ get_or (plan_of p st m) i 0
      at i h =
          get_or-map-range_with_len (λ a. place_in (answer p st (Show a m))) 1 (length p.task.starts) i (suc i) 0 h (omega arith)
          ∙ ap place_in (accepted_answers st (Show (suc i) m) (show_accepted st steps (suc i) m found (omega arith) h in_time))
