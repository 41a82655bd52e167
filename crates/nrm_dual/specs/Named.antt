-- What a verdict or a fault names is there: a product or a leg of the program, or of the network.
use Rattle.std.specs.Prelude.{◌<◌, length, ⊤}
use Rattle.nrm_model.specs.Network.{NetworkValue}
use Rattle.nrm_lp.specs.Program.{ProgramValue}
use Rattle.nrm_dual.specs.declared.fault.CertFault.{CertFault}
use Rattle.nrm_dual.specs.declared.fault.CertFault.TheVariants as fault
use Rattle.nrm_dual.specs.declared.verdict.Verdict.{Verdict}
use Rattle.nrm_dual.specs.declared.verdict.Verdict.TheVariants as verdict

abbrev pub IsOfProgram : ProgramValue → Verdict → Type 0
IsOfProgram a verdict.Optimal = ⊤
IsOfProgram a verdict.WrongShape = ⊤
IsOfProgram a (verdict.WrongProduct product) = product < length a.bounds
IsOfProgram a (verdict.WrongLeg leg) = leg < length a.caps
IsOfProgram a verdict.WrongValue = ⊤

abbrev pub IsOfNetwork : NetworkValue → CertFault → Type 0
IsOfNetwork net fault.Long = ⊤
IsOfNetwork net (fault.Line number) = ⊤
IsOfNetwork net (fault.Large number) = ⊤
IsOfNetwork net fault.NoValue = ⊤
IsOfNetwork net (fault.NoProduct product) = product < length net.products
IsOfNetwork net (fault.NoLeg leg) = leg < length net.legs
IsOfNetwork net fault.TooFine = ⊤
IsOfNetwork net fault.NoMemory = ⊤
