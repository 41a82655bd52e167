-- A period that a network has, and one that it lacks, as the step asks.
use Rattle.std.proofs.Common.{ℕ, ◌≡◌, ◌<◌, true, false, arith}
use Rattle.std.proofs.lemmas.Bool.Decides.{nat_tests}
use Rattle.std.specs.Int.{IsInRange}
use Rattle.nrm_model.specs.Network.{NetworkValue}
use Rattle.nrm_session.specs.Step.{lacks_period}

pub had : (net : NetworkValue) (k : ℕ) → lacks_period net k ≡ false → IsInRange 1 net.periods k
had net k is = grind (arith, nat_tests)

pub has-not : (net : NetworkValue) (k : ℕ) → IsInRange 1 net.periods k → lacks_period net k ≡ false
has-not net k within = grind (arith, nat_tests)

pub beyond : (net : NetworkValue) (k : ℕ) → net.periods < k → lacks_period net k ≡ true
beyond net k later = grind (arith, nat_tests)
