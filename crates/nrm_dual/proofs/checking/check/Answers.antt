-- Where no condition fails, the certificate shows what it should.
use Rattle.std.proofs.Common.{◌≡◌, ◌∙◌, sym, subst, ap, true, cond, nat_abs}
use Rattle.std.proofs.lemmas.Bool.{false≢true}
use Rattle.nrm_fraction.specs.Large.{size_limit}
use Rattle.nrm_lp.specs.Certified.{sizes}
use Rattle.nrm_dual.specs.declared.verdict.Verdict.TheVariants.{WrongShape}
use Rattle.nrm_dual.specs.Conditions.{has_shape, first_wrong}
use Rattle.nrm_dual.specs.Named.{IsOfProgram}
use Rattle.nrm_dual.proofs.NamedIsThere.{first_named}
use Rattle.nrm_dual.proofs.PassesCertify.{passing_certifies, shape_in, shape_out, wrong_elsewhere}
use Rattle.nrm_dual.proofs.checking.check.Goals as goal

pub first_wrong-requires : goal.first_wrong-requires
first_wrong-requires c = shape_out size_limit c.args.program.now c.args.certificate.now (sym c.has_shape.ensures.shape ∙ c.if-has_shape.true)

pub returns-then-has_shape-clause-shape : goal.returns-then-has_shape-clause-shape
returns-then-has_shape-clause-shape c =
    let k = c.args.certificate.now in
    λ shape e. wrong_elsewhere c.args.program.now (nat_abs k.q) (sizes k.x) (nat_abs k.den) (sizes k.p) (nat_abs k.value) (sym c.first_wrong.ensures ∙ e)

pub returns-else-has_shape-clause-shape : goal.returns-else-has_shape-clause-shape
returns-else-has_shape-clause-shape c = λ shape e. false≢true (sym c.if-has_shape.false ∙ c.has_shape.ensures.shape ∙ shape_in size_limit c.args.program.now c.args.certificate.now shape)

pub returns-then-has_shape-clause-optimal : goal.returns-then-has_shape-clause-optimal
returns-then-has_shape-clause-optimal c =
    let a = c.args.program.now in
    let k = c.args.certificate.now in
    let later = first_wrong a (nat_abs k.q) (sizes k.x) (nat_abs k.den) (sizes k.p) (nat_abs k.value) in
    let shape : has_shape size_limit a k ≡ true = sym c.has_shape.ensures.shape ∙ c.if-has_shape.true in
    λ e. passing_certifies size_limit a c.has_shape.ensures.limits.products k (ap (λ b. cond b later WrongShape) shape ∙ sym c.first_wrong.ensures ∙ e)

pub returns-then-has_shape-clause-named : goal.returns-then-has_shape-clause-named
returns-then-has_shape-clause-named c =
    let a = c.args.program.now in
    let k = c.args.certificate.now in
    subst (IsOfProgram a) (sym c.first_wrong.ensures) (first_named a (nat_abs k.q) (sizes k.x) (nat_abs k.den) (sizes k.p) (nat_abs k.value))
