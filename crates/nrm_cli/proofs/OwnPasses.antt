-- The text of the closing of a network's linear program is found optimal, and so is each optimal certificate.
use Rattle.std.proofs.Common.{ap, refl}
use Rattle.std.proofs.lemmas.Bool.{ltb-true}
use Rattle.nrm_fraction.specs.Large.{size_limit}
use Rattle.nrm_lp.specs.Limits.{IsLimited}
use Rattle.nrm_lp.specs.Closing.{certificate}
use Rattle.nrm_lp.proofs.Certify.{certifies}
use Rattle.nrm_dlp.specs.Programs.{opening_program}
use Rattle.nrm_dlp.proofs.Limited.{opening-limited}
use Rattle.nrm_dual.proofs.ClosingLowest.{closings_read}
use Rattle.nrm_dual.proofs.PassesCertify.{certified_passes, optimal_passes}
use Rattle.nrm_dual.proofs.WrittenRead.{written_read}
use Rattle.nrm_findings.specs.Certificates.{certificate_in}
use Rattle.nrm_cli.specs.Own.{OptimalCertificatesPass, OwnCertificatesPass}
use Rattle.nrm_findings.proofs.ProgramOfNetwork.{legs-of, products-of, shape-of-program}

pub own-passes : OwnCertificatesPass
own-passes net is n t closes =
    let a = opening_program net in
    let limits : IsLimited a = opening-limited net is in (
      ap certificate_in (closings_read written_read net is a limits.products (products-of net) (legs-of net) n t closes),
      certified_passes size_limit a (certificate a t) (certifies size_limit (ltb-true 1 size_limit refl) a limits.products n t closes),
    )

pub optimal-pass : OptimalCertificatesPass
optimal-pass net is n t closes given shape best_allocation best_prices value =
    let a = opening_program net in
    let limits : IsLimited a = opening-limited net is in
    optimal_passes size_limit a limits.products n t closes given (shape-of-program net given shape) best_allocation best_prices value
