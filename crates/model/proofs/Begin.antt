-- A new search is good.
use Rattle.std.proofs.Common.{◌≡◌, ℕ, List, [], length, Some, None, Option, refl, inl, inr, arith}
use mathlib.Core.List.Memᴰ
use Rattle.std.proofs.lemmas.List.{nil_from_length}
use Rattle.model.specs.declared.outcome.Outcome.TheVariants.{Running}
use Rattle.model.specs.declared.outcome.Unfitness.{Unfitness}
use Rattle.model.specs.Begin.{fresh, with_root, begun, begin}
use Rattle.model.specs.Execution.{execution, latest}
use Rattle.model.specs.Fitness.{unfitness, Fit}
use Rattle.model.specs.Nodes.{root}
use Rattle.model.specs.OpenList.{Pair}
use Rattle.model.specs.Path.{TimedPath}
use Rattle.model.specs.Site.{Lawful}
use Rattle.model.specs.State.{Problem, State}
use Rattle.model.proofs.Covering.{Ready, fewer_left, NewNode, node_added}
use Rattle.model.proofs.Fitness.{fit_exactly}
use Rattle.model.proofs.Good.{Good, still_running}
use Rattle.model.proofs.Waiting.{Timely, Kept, kept_has_execution}

module _ (p : Problem) (lawful : Lawful p.site) (pairs : List Pair) (room : ℕ) where
  -- a new search that is fit, before node 0
  abbrev new_state : State
  new_state = fresh pairs room Running

  -- Before node 0 is made every plan is left.
  nothing_yet : Fit p.site p.task (length pairs) room → Ready p (λ q. Unit {0}) new_state
  nothing_yet fits = record {
    crew = fits.goal_for_each;
    family = λ j h. absurd (omega arith);
    opened = λ a h. absurd (Memᴰ.not-nil (rw none_open at h));
    ordered = rw none_open tt;
    counted = omega (arith, fits.list_is_empty);
    few = omega arith;
    roomy = fits.list_has_room;
    short = fits.near_horizon;
    low = omega arith;
    bounds = λ q. omega arith;
    covers = λ q. inr tt;
  }
    where
      none_open : pairs ≡ []
      none_open = nil_from_length pairs fits.list_is_empty

  keeps_nothing : (q : Timely p) → Kept q []
  keeps_nothing q c h = absurd (Memᴰ.not-nil h)

  rooted : Fit p.site p.task (length pairs) room → (r : Option (List TimedPath)) → execution p.site p.task [] ≡ r → Good p (with_root r new_state)
  rooted fits None e = still_running refl (fewer_left (nothing_yet fits) (λ q _. let (x, has) = kept_has_execution p lawful q [] (keeps_nothing q) in cc))
  rooted fits (Some x) e = still_running refl (node_added p lawful new_state (root (latest x)) (nothing_yet fits) new (λ q _. inl (keeps_nothing q)))
    where
      new : NewNode p new_state (root (latest x)) [] x
      new = record { room = omega arith; hangs = tt; conditions = refl; runs = e; cost = refl; above = omega arith }

  pub begin_good : Good p (begin p pairs room)
  begin_good = go (unfitness p.site p.task (length pairs) room) refl
    where
      go : (u : Option Unfitness) → unfitness p.site p.task (length pairs) room ≡ u → Good p (begun p pairs room u)
      go None e = rooted ((fit_exactly p.site p.task (length pairs) room).0 e) (execution p.site p.task []) refl
      go (Some u) e = record { floor_holds = λ steps plan is. omega arith; standing = tt; each_put = tt }

-- It has made no turn.
pub begin_new : (p : Problem) (pairs : List Pair) (room : ℕ) → (begin p pairs room).turns ≡ 0
begin_new p pairs room = grind arith
