use Rattle.std.proofs.Common.{◌≡◌}
use Rattle.site.specs.Windows.{below_of}
use Rattle.inspect.proofs.examples.warmed.Given as goal

abbrev pub invariant-loop-place : goal.invariant-loop-place
invariant-loop-place g l = below_of l.window ≡ l.fn.site
