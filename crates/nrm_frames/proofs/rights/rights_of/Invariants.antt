use Rattle.std.proofs.Common.{◌≡◌, ◌==◌, length}
use Rattle.std.specs.List.{slice_split}
use Rattle.nrm_frames.specs.Headers.{rights_in, with_rights}
use Rattle.nrm_frames.proofs.rights.rights_of.Given as goal

abbrev pub invariant-loop-first : goal.invariant-loop-first
invariant-loop-first l = rights_in l.word ≡ with_rights l.rights (slice_split (λ c. c == 44) l.rest)

abbrev pub decreases-loop-first : goal.decreases-loop-first
decreases-loop-first l = length l.rest
