-- What is told of a leg, and with which status; and that it is determined: a network, the name of a leg and a number of groups have
-- one text, with one status.
use Rattle.std.specs.Prelude.{ℕ, ◌≡◌, List, codes}
use Rattle.nrm_model.specs.Network.{NetworkValue}
use Rattle.nrm_findings.specs.LegThresholds.{IsCut, IsUnused}
use Rattle.nrm_findings.specs.LegValues.{HasNoClasses, IsValued, class_count, no_classes_line}
use Rattle.nrm_cli.specs.declared.status.Status.{Status}
use Rattle.nrm_cli.specs.declared.status.Status.TheVariants as status

abbrev pub no_leg_line : List ℕ
no_leg_line = codes "no leg\n"

-- of its thresholds
pub data CutsTold (net : NetworkValue) (leg : List ℕ) (groups : ℕ) : Status → List ℕ → Type 0 where
  cut : (text : List ℕ) → IsCut net leg groups text → CutsTold net leg groups status.Done text
  unused : IsUnused net leg → CutsTold net leg groups status.NoLeg no_leg_line

-- and of its values
pub data ValuesTold (net : NetworkValue) (leg : List ℕ) : Status → List ℕ → Type 0 where
  valued : (text : List ℕ) → IsValued net leg text → ValuesTold net leg status.Done text
  no_classes : HasNoClasses net leg → ValuesTold net leg status.NoClass (no_classes_line (class_count net leg))

pub record LegTextsAreDetermined : Type 0 where
  pub cuts : (net : NetworkValue) (leg : List ℕ) (groups : ℕ) (s s' : Status) (text text' : List ℕ) → CutsTold net leg groups s text
      → CutsTold net leg groups s' text' → (s' ≡ s) × (text' ≡ text)
  pub values : (net : NetworkValue) (leg : List ℕ) (s s' : Status) (text text' : List ℕ) → ValuesTold net leg s text
      → ValuesTold net leg s' text' → (s' ≡ s) × (text' ≡ text)
