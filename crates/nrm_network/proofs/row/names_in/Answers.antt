-- The names that were read so far are the fields so far.
use Rattle.std.proofs.Common.{ℕ, ◌≡◌, ◌∙◌, ◌<◌, List, true, false, length, arith, rules, refl, subst, Err}
use Rattle.nrm_network.specs.Inner.RowFields.{fields_in}
use Rattle.nrm_text.specs.Names.{is_name}
use Rattle.nrm_network.specs.Rows.{field, further}
use Rattle.nrm_network.specs.declared.fault.RowRefusal.TheVariants as fault
use Rattle.nrm_network.proofs.RowFields.{all_next, push_name}
use Rattle.nrm_network.proofs.row.names_in.Goals as goal

pub returns-in_err-name_in : goal.returns-in_err-name_in
returns-in_err-name_in c =
    let fields : List (List ℕ) = fields_in c.args.row.now in
    let short : c.loop-i.i < length fields = omega (arith, c.len-i-end.ensures) in
    let gives : c.from_residual.result ≡ Err (fault.Refused c.in_err-name_in.field-0.0) = search rules in
    let none = c.in_err-name_in.ensures in
    let other : is_name (field fields c.loop-i.i) ≡ false = subst (λ (t : List ℕ). is_name t ≡ false) c.field.ensures none.0 in
    rw gives (c.loop-i.invariant.names ∙ all_next is_name fields c.loop-i.i short ∙ rw other refl, none.1)

pub loop-i-preserved : goal.loop-i-preserved
loop-i-preserved c =
    let fields : List (List ℕ) = fields_in c.args.row.now in
    let short : c.loop-i.i < length fields = omega (arith, c.len-i-end.ensures) in
    let name = c.in_ok-name_in.ensures in
    let other : is_name (field fields c.loop-i.i) ≡ true = subst (λ (t : List ℕ). is_name t ≡ true) c.field.ensures name.0 in
    record {
      names = c.loop-i.invariant.names ∙ all_next is_name fields c.loop-i.i short ∙ rw other refl;
      read = rw c.in_ok-push.ensures.items
          (push_name fields c.loop-i.i c.in_ok-name_in.field-0 c.loop-i.names.items (further fields) short (name.1
          ∙ c.field.ensures) c.loop-i.invariant.read);
    }
