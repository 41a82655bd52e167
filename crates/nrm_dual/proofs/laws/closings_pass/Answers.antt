use Rattle.std.proofs.Common.{refl}
use Rattle.std.proofs.lemmas.Bool.{ltb-true}
use Rattle.nrm_fraction.specs.Large.{size_limit}
use Rattle.nrm_lp.specs.Closing.{certificate}
use Rattle.nrm_lp.proofs.Certify.{certifies}
use Rattle.nrm_dual.proofs.PassesCertify.{certified_passes}
use Rattle.nrm_dual.proofs.laws.closings_pass.Goals as goal

pub returns : goal.returns
returns c = λ a ok n t closes. certified_passes size_limit a (certificate a t) (certifies size_limit (ltb-true 1 size_limit refl) a ok n t closes)
