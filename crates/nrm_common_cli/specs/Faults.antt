-- Why there is no network, by the fault of the files or of the file.
use Rattle.nrm_edge.specs.declared.files.FileFault.{FileFault}
use Rattle.nrm_edge.specs.declared.files.FileFault.TheVariants as files
use Rattle.nrm_network.specs.declared.fault.NetFault.{NetFault}
use Rattle.nrm_network.specs.declared.fault.NetFault.TheVariants as file
use Rattle.nrm_common_cli.specs.declared.network_file.NoNetwork.{NoNetwork}
use Rattle.nrm_common_cli.specs.declared.network_file.NoNetwork.TheVariants as none

abbrev pub reason_of_files : FileFault → NoNetwork
reason_of_files files.Failed = none.Fault
reason_of_files files.NoMemory = none.NoMemory

abbrev pub reason_of_network : NetFault → NoNetwork
reason_of_network (file.Refused row why) = none.Refused row why
reason_of_network file.NoMemory = none.NoMemory
