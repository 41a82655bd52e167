-- The reader's field at a place is that of the row.
use Rattle.std.proofs.Common.{ℕ, zero, suc, ◌≡◌, ◌∙◌, List, [], ◌∷◌, refl, ap, Option, Some, None}
use Rattle.std.specs.Prelude.{slice_get, unwrap_or}
use Rattle.csv.specs.Records.{fields_of, field_at}
use Rattle.nrm_network.specs.Rows.{field}
use Rattle.nrm_network.proofs.row.field_of.Goals as goal

at-place : (fields : List (List ℕ)) (i : ℕ) → field_at fields i ≡ slice_get fields i
unfolding field_at
at-place [] i = refl
at-place (f ∷ fields) zero = refl
at-place (f ∷ fields) (suc i) = at-place fields i

found : (fields : List (List ℕ)) (i : ℕ) (o : Option (List ℕ)) → o ≡ field_at fields i → unwrap_or o [] ≡ field fields i
found fields i o is = ap (λ (x : Option (List ℕ)). unwrap_or x []) (is ∙ at-place fields i)

pub returns-in-Some : goal.returns-in-Some
returns-in-Some c = found (fields_of c.args.read.now) c.args.i (Some c.in-Some.field.now) c.in-Some.ensures.value

pub returns-in-None : goal.returns-in-None
returns-in-None c = found (fields_of c.args.read.now) c.args.i None c.in-None.ensures.value
