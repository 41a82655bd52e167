-- Why there is no network, and the line that says so.
use Rattle.std.specs.Prelude.{ℕ, List, [], ◌∷◌, decimal, codes, Option, Some, None, Result, Ok, Err}
use Rattle.nrm_text.specs.Words.{text_line}
use Rattle.nrm_model.specs.Network.{NetworkValue}
use Rattle.nrm_network.specs.Causes.{why_text}
use Rattle.nrm_network.specs.File.{file_of}
use Rattle.nrm_network.specs.declared.fault.Why.{Why}

-- no file of the name, or a row that is refused and why
pub data Refusal : Type 0 where
  no_file : Refusal
  at_row : ℕ → Why → Refusal

-- the network of what stands under a name, or its refusal
abbrev pub network_in : Result NetworkValue (ℕ × Why) → Result NetworkValue Refusal
network_in (Ok net) = Ok net
network_in (Err (row, cause)) = Err (at_row row cause)

abbrev pub network_under : Option (List ℕ) → Result NetworkValue Refusal
network_under None = Err no_file
network_under (Some bytes) = network_in (file_of bytes)

-- the line of a refusal, and that of a fault of the files
abbrev pub refusal_line : Refusal → List ℕ
refusal_line no_file = codes "refused no file\n"
refusal_line (at_row row cause) = text_line (codes "refused" ∷ codes "row" ∷ decimal row ∷ codes "why" ∷ why_text cause ∷ [])

abbrev pub file_fault_line : List ℕ
file_fault_line = codes "file fault\n"
