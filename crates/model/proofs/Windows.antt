-- A window over a lawful site is lawful.
use Rattle.std.proofs.Common.{arith}
use Rattle.model.specs.Window.{WindowsAreSites}

pub windows_are_sites : WindowsAreSites
windows_are_sites readings s lawful = grind arith
