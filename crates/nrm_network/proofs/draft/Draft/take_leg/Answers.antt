-- A leg is refused by the first of two checks, or the draft grows by it.
use Rattle.std.proofs.Common.{ℕ, ◌≡◌, ◌∙◌, true, false, bytes_eq, sym, ap, subst, Option}
use Rattle.std.specs.Prelude.{is_some}
use Rattle.nrm_model.specs.Limits.{falls}
use Rattle.nrm_model.specs.declared.leg.Leg.{Leg}
use Rattle.nrm_network.specs.Rows.{field, leg_rows, threshold_numbers, version_in}
use Rattle.nrm_network.specs.Inner.Draft.{AddsLeg}
use Rattle.nrm_network.proofs.ChecksAfterShape.{leg-twice, leg-unordered, leg-free}
use Rattle.nrm_network.proofs.DraftGrowth.{leg-grows, named-by, place-any}
use Rattle.nrm_network.proofs.draft.Draft.take_leg.Goals as goal

pub returns-then-is_some : goal.returns-then-is_some
returns-then-is_some c = λ taken row is read.
    let named = named-by c.number_of.result c.is_some.result c.args.self.now.leg_names (leg_rows taken) c.args.leg.name
    (field row 1) c.number_of.ensures c.is_some.ensures is.leg_names (ap (λ (l : Leg). l.name) read.says) in
    leg-twice taken row read.shape (sym named ∙ c.if-is_some.true)

pub returns-then-not-falls : goal.returns-then-not-falls
returns-then-not-falls c = λ taken row is read.
    let named = named-by c.number_of.result c.is_some.result c.args.self.now.leg_names (leg_rows taken) c.args.leg.name
    (field row 1) c.number_of.ensures c.is_some.ensures is.leg_names (ap (λ (l : Leg). l.name) read.says) in
    let fails : falls (threshold_numbers (version_in taken) row) ≡ false = ap (λ (l : Leg). falls l.cuts) (sym read.says) ∙ ap falls (sym c.as_slice.ensures)
    ∙ sym c.falls.ensures ∙ c.if-not-falls.true in
    leg-unordered taken row read.shape (sym named ∙ c.if-is_some.false) fails

pub add_leg-requires : goal.add_leg-requires
add_leg-requires c =
    let some : is_some c.number_of.result ≡ false = sym c.is_some.ensures ∙ c.if-is_some.false in
    sym (place-any (λ other. bytes_eq other c.args.leg.name) 0 c.args.self.now.leg_names)
    ∙ sym (ap (λ (p : Option ℕ). is_some p) c.number_of.ensures) ∙ some

pub returns : goal.returns
returns c = λ taken row is read.
    let named = named-by c.number_of.result c.is_some.result c.args.self.now.leg_names (leg_rows taken) c.args.leg.name
    (field row 1) c.number_of.ensures c.is_some.ensures is.leg_names (ap (λ (l : Leg). l.name) read.says) in
    let goes : falls (threshold_numbers (version_in taken) row) ≡ true = ap (λ (l : Leg). falls l.cuts) (sym read.says) ∙ ap falls (sym c.as_slice.ensures)
    ∙ sym c.falls.ensures ∙ c.if-not-falls.false in
    let free = leg-free taken row read.shape (sym named ∙ c.if-is_some.false) goes in (
      free,
      leg-grows c.args.self.now c.add_leg.new.self taken row is read.shape free
          (subst (λ (l : Leg). AddsLeg c.args.self.now c.add_leg.new.self l) read.says c.in_ok-add_leg.ensures),
    )
