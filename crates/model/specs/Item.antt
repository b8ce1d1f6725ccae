-- Items and conditions: what is asked of the place where a carrier stands.
use Rattle.std.specs.Prelude.{◌≡◌, ℕ, Bool, true, false, ◌≢◌}
use Rattle.model.specs.declared.item.Condition.{Condition}
use Rattle.model.specs.declared.item.Demand.{Demand}
use Rattle.model.specs.declared.item.Demand.TheVariants.{MustBe, MustNotBe}
use Rattle.model.specs.declared.item.Item.{Item}

-- Standing at p meets that the carrier must be at q, or that it must not be there.
abbrev pub Meets : Demand → ℕ → ℕ → Type 0
Meets MustBe q p = p ≡ q
Meets MustNotBe q p = p ≢ q

-- The carrier must be there.
abbrev pub must_be : Demand → Bool
must_be MustBe = true
must_be MustNotBe = false

-- The condition that an item makes at a moment.
abbrev pub at_time : ℕ → Item → Condition
at_time m i = record { item = i; moment = m }
