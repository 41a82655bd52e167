-- What is told of a leg, and with which status, is determined.
use Rattle.std.proofs.Common.{ℕ, ◌≡◌, List, refl}
use Rattle.nrm_model.specs.Network.{NetworkValue}
use Rattle.nrm_findings.proofs.OneLegText.{neither-both, not-both, one-cut-text, one-value-text}
use Rattle.nrm_cli.specs.LegTexts.{CutsTold, LegTextsAreDetermined, ValuesTold, cut, no_classes, unused, valued}
use Rattle.nrm_cli.specs.declared.status.Status.{Status}

one-cuts : (net : NetworkValue) (leg : List ℕ) (groups : ℕ) (s s' : Status) (text text' : List ℕ) → CutsTold net leg groups s text
    → CutsTold net leg groups s' text' → (s' ≡ s) × (text' ≡ text)
one-cuts net leg groups s s' text text' (cut t is) (cut t' other) = (refl, one-cut-text net leg groups t t' is other)
one-cuts net leg groups s s' text text' (cut t is) (unused none) = absurd (not-both net leg groups t is none)
one-cuts net leg groups s s' text text' (unused none) (cut t is) = absurd (not-both net leg groups t is none)
one-cuts net leg groups s s' text text' (unused none) (unused again) = (refl, refl)

one-values : (net : NetworkValue) (leg : List ℕ) (s s' : Status) (text text' : List ℕ) → ValuesTold net leg s text → ValuesTold net leg s' text'
    → (s' ≡ s) × (text' ≡ text)
one-values net leg s s' text text' (valued t is) (valued t' other) = (refl, one-value-text net leg t t' is other)
one-values net leg s s' text text' (valued t is) (no_classes none) = absurd (neither-both net leg t is none)
one-values net leg s s' text text' (no_classes none) (valued t is) = absurd (neither-both net leg t is none)
one-values net leg s s' text text' (no_classes none) (no_classes again) = (refl, refl)

pub leg-texts-determined : LegTextsAreDetermined
leg-texts-determined = record { cuts = one-cuts; values = one-values }
