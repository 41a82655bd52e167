-- A row of four fields has one behind the third.
use Rattle.std.proofs.Common.{ℕ, ◌≡◌, ◌∙◌, ◌&&◌, Bool, true, false, List, [], ◌∷◌, length, ap, sym, arith, rules, subst, Err, refl}
use Rattle.std.specs.List.{list_all}
use Rattle.std.proofs.lemmas.List.{drop_all}
use Rattle.std.proofs.lemmas.Bool.{eq-eqb}
use Rattle.nrm_network.specs.Inner.RowFields.{fields_in}
use Rattle.nrm_text.specs.Numbers.{is_whole}
use Rattle.nrm_network.specs.Rows.{Row, field, further, version_in}
use Rattle.nrm_network.specs.Checks.{is_within}
use Rattle.nrm_network.specs.Inner.Fields.{are_whole, bounded}
use Rattle.nrm_network.proofs.RowFields.{next_field}
use Rattle.nrm_network.proofs.row.version_of.Goals as goal

last-field : (row : Row) → length row ≡ 4 → further row ≡ field row 3 ∷ []
last-field row four = next_field row 3 (omega arith) ∙ ap (λ (more : Row). field row 3 ∷ more) (drop_all 4 row (omega arith))

second : (row : Row) → length row ≡ 4 → version_in (row ∷ []) ≡ 2
second row four = let e = eq-eqb (length row) 4 four in rw e refl

last-whole : (row : Row) (b : Bool) → length row ≡ 4 → is_whole (field row 3) ≡ b → are_whole (bounded 2 2 (further row)) ≡ b && true
last-whole row b four is = rw (last-field row four) (ap (λ (c : Bool). c && true) is)

last-within : (row : Row) (b : Bool) → length row ≡ 4 → is_within (field row 3, 2, 2) ≡ b
    → list_all is_within (bounded 2 2 (further row)) ≡ b && true
last-within row b four is = rw (last-field row four) (ap (λ (c : Bool). c && true) is)

pub returns-in_err-number_in : goal.returns-in_err-number_in
returns-in_err-number_in c =
    let row : Row = fields_in c.args.row.now in
    let four : length row ≡ 4 = omega (arith, c.len.ensures, c.if-len-eq3.false) in
    let gives : c.from_residual.result ≡ Err c.in_err-number_in.field-0.0 = search rules in
    let off = c.in_err-number_in.ensures in
    rw gives (last-whole row false four (subst (λ (t : List ℕ). is_whole t ≡ false) c.field.ensures off.0), off.1)

pub returns-in-Some : goal.returns-in-Some
returns-in-Some c =
    let row : Row = fields_in c.args.row.now in
    let four : length row ≡ 4 = omega (arith, c.len.ensures, c.if-len-eq3.false) in
    let number = rw c.in-Some.is at c.in_ok-number_in.ensures in (
      last-whole row true four (subst (λ (t : List ℕ). is_whole t ≡ true) c.field.ensures number.0),
      last-within row true four (subst (λ (t : List ℕ). is_within (t, 2, 2) ≡ true) c.field.ensures number.1),
      sym (second row four),
    )

pub returns-in-None : goal.returns-in-None
returns-in-None c =
    let row : Row = fields_in c.args.row.now in
    let four : length row ≡ 4 = omega (arith, c.len.ensures, c.if-len-eq3.false) in
    let number = rw c.in-None.is at c.in_ok-number_in.ensures in (
      last-whole row true four (subst (λ (t : List ℕ). is_whole t ≡ true) c.field.ensures number.0),
      last-within row false four (subst (λ (t : List ℕ). is_within (t, 2, 2) ≡ false) c.field.ensures number.1),
    )
