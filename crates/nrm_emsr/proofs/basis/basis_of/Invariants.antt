-- The sums over the buckets so far.
use Rattle.nrm_emsr.specs.Inner.Sums.{AreSumsTo}
use Rattle.nrm_emsr.proofs.basis.basis_of.Given as goal

abbrev pub invariant-loop-bucket : goal.invariant-loop-bucket
invariant-loop-bucket l = AreSumsTo l.net l.period l.nest.items l.bucket l.sums
