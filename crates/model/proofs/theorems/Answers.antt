use Rattle.std.proofs.Common.{refl}
use Rattle.model.proofs.PairSites.{pair_sites_are_sites}
use Rattle.model.proofs.Halls.{halls_are_sites}
use Rattle.model.proofs.Contact.{contact_is_computed}
use Rattle.model.proofs.Chains.{chains_reach}
use Rattle.model.proofs.Chosen.{paths_are_computed}
use Rattle.model.proofs.Rules.{rules_keep_the_laws}
use Rattle.model.proofs.Execution.{executions_are_chosen}
use Rattle.model.proofs.OpenList.{open_lists_keep_order}
use Rattle.model.proofs.Fitness.{fitness_is_checked}
use Rattle.model.proofs.Run.{runs_are_determined}
use Rattle.model.proofs.Guarantee.{guaranteed, no_put_is_refused}
use Rattle.model.proofs.theorems.Goals as goal

pub returns-clause-pair_sites_are_sites : goal.returns-clause-pair_sites_are_sites
returns-clause-pair_sites_are_sites c = pair_sites_are_sites

pub returns-clause-halls_are_sites : goal.returns-clause-halls_are_sites
returns-clause-halls_are_sites c = halls_are_sites

pub returns-clause-contact_is_computed : goal.returns-clause-contact_is_computed
returns-clause-contact_is_computed c = contact_is_computed

pub returns-clause-chains_reach : goal.returns-clause-chains_reach
returns-clause-chains_reach c = chains_reach

pub returns-clause-paths_are_computed : goal.returns-clause-paths_are_computed
returns-clause-paths_are_computed c = paths_are_computed

pub returns-clause-rules_keep_the_laws : goal.returns-clause-rules_keep_the_laws
returns-clause-rules_keep_the_laws c = rules_keep_the_laws

pub returns-clause-executions_are_chosen : goal.returns-clause-executions_are_chosen
returns-clause-executions_are_chosen c = executions_are_chosen

pub returns-clause-open_lists_keep_order : goal.returns-clause-open_lists_keep_order
returns-clause-open_lists_keep_order c = open_lists_keep_order

pub returns-clause-fitness_is_checked : goal.returns-clause-fitness_is_checked
returns-clause-fitness_is_checked c = fitness_is_checked

pub returns-clause-runs_are_determined : goal.returns-clause-runs_are_determined
returns-clause-runs_are_determined c = runs_are_determined

pub returns-clause-runs_keep_the_guarantee : goal.returns-clause-runs_keep_the_guarantee
returns-clause-runs_keep_the_guarantee c = guaranteed

pub returns-clause-no_put_is_refused : goal.returns-clause-no_put_is_refused
returns-clause-no_put_is_refused c = no_put_is_refused

pub returns-clause-examples_hold : goal.returns-clause-examples_hold
returns-clause-examples_hold c = refl
