use Rattle.std.proofs.Common.{◌≡◌, arith}
use Rattle.inspect.proofs.examples.six_places.Goals as goal

pub returns : goal.returns
returns c =
    let all : c.loop-p.p-index ≡ 5 = omega arith in
    rw all at c.loop-p.invariant
