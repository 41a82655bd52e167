-- Why there is no certificate, by the fault of the files.
use Rattle.nrm_edge.specs.declared.files.FileFault.{FileFault}
use Rattle.nrm_edge.specs.declared.files.FileFault.TheVariants as files
use Rattle.nrm_dual.specs.declared.fault.CertFault.TheVariants as fault
use Rattle.nrm_cli.specs.declared.certificate.NoCertificate.{NoCertificate}
use Rattle.nrm_cli.specs.declared.certificate.NoCertificate.TheVariants as lacking

abbrev pub lack_of_files : FileFault → NoCertificate
lack_of_files files.Failed = lacking.Fault
lack_of_files files.NoMemory = lacking.Unread fault.NoMemory
