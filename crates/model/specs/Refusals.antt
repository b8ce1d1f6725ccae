-- The numbers by which refusals are known, and what a refusal makes of a call.
use Rattle.std.specs.Prelude.{ℕ, Some, None, Option}
use Rattle.model.specs.declared.refusal.Refusal.{Refusal}
use Rattle.model.specs.declared.refusal.Refusal.TheVariants.{NumberOutOfRange, GivenTwice, CrewUnfit, HorizonTooFar, StartOrGoalClosed, StartsOutOfContact, GoalsOutOfContact, TurnsOutOfRange, NoSuchCarrierOrMoment, NoSuchPlaceOrReading, CostTooHigh, ListUnfit, HasStopped, NotFound, ListFull}

-- The number of each refusal: up to 17 they are caused by input, from 21 on by the state that a call finds.
abbrev pub number_of : Refusal → ℕ
number_of NumberOutOfRange = 5
number_of GivenTwice = 6
number_of CrewUnfit = 8
number_of HorizonTooFar = 9
number_of StartOrGoalClosed = 10
number_of StartsOutOfContact = 11
number_of GoalsOutOfContact = 12
number_of TurnsOutOfRange = 13
number_of NoSuchCarrierOrMoment = 14
number_of NoSuchPlaceOrReading = 16
number_of CostTooHigh = 17
number_of ListUnfit = 21
number_of HasStopped = 22
number_of NotFound = 23
number_of ListFull = 24

-- One thing where nothing is refused, and another where something is.
abbrev pub unless_refused : {A : Type 0} → Option Refusal → A → (Refusal → A) → A
unless_refused None accepted refused = accepted
unless_refused (Some r) accepted refused = refused r
