use Rattle.std.proofs.Common.{ℕ, ◌≡◌, ◌∙◌, ◌+◌, ◌-◌, ◌++◌, List, [], Some, None, get_or, refl, sym, ap, arith}
use Rattle.std.proofs.lemmas.List.{append-nil}
use Rattle.std.proofs.lemmas.Result.{IfOk-equal}
use Rattle.nrm_account.specs.Nests.{basis_text, protected_text}
use Rattle.nrm_account.proofs.Bases.{few-levels, last-within, level-at, level-last, levels-count, protected-none, protected-some}
use Rattle.nrm_account.proofs.protected.push_protected.Goals as goal

pub bounds-levels-last : goal.bounds-levels-last
bounds-levels-last c =
    last-within c.args.net.now c.args.cert.now c.args.leg c.args.period c.as_slice-levels.result.now (c.as_slice-levels.ensures.value ∙ c.in_ok-found.ensures) c.args.last c.if-last-eq0.false c.requires.last

pub returns-then-seats-eq0 : goal.returns-then-seats-eq0
returns-then-seats-eq0 c =
    let levels : List ℕ = c.as_slice-levels.result.now in
    let seats = level-last c.args.net.now c.args.cert.now c.args.leg c.args.period levels (c.as_slice-levels.ensures.value ∙ c.in_ok-found.ensures) c.args.last c.if-last-eq0.false c.requires.last in
    sym (append-nil c.args.text.now.items)
    ∙ ap (λ ys. c.args.text.now.items ++ ys) (protected-none c.args.net.now c.args.cert.now c.args.leg c.args.period c.args.last (get_or levels (c.args.last - 1) 0) seats c.if-seats-eq0.true)

pub overflow_cast-buckets : goal.overflow_cast-buckets
overflow_cast-buckets c =
    let few = few-levels c.args.net.now c.args.cert.now c.args.leg c.args.period c.as_slice-levels.result.now (c.as_slice-levels.ensures.value ∙ c.in_ok-found.ensures)
    c.leg_at.result.now c.leg_at.ensures.leg c.leg_at.ensures.limits.cut_count in
    omega (arith, few, c.in-Some.ensures.within)

pub overflow_add-buckets : goal.overflow_add-buckets
overflow_add-buckets c =
    let few = few-levels c.args.net.now c.args.cert.now c.args.leg c.args.period c.as_slice-levels.result.now (c.as_slice-levels.ensures.value ∙ c.in_ok-found.ensures)
    c.leg_at.result.now c.leg_at.ensures.leg c.leg_at.ensures.limits.cut_count in
    omega (arith, few, c.in-Some.ensures.within)

pub basis_of-requires-clause-last : goal.basis_of-requires-clause-last
basis_of-requires-clause-last c =
    let count = levels-count c.args.net.now c.args.cert.now c.args.leg c.args.period c.as_slice-levels.result.now (c.as_slice-levels.ensures.value ∙ c.in_ok-found.ensures) in
    (omega arith, omega (arith, count, c.in-Some.ensures.within))

pub push_basis-requires-clause-seats : goal.push_basis-requires-clause-seats
push_basis-requires-clause-seats c =
    level-at c.args.net.now c.args.cert.now c.args.leg c.args.period c.as_slice-levels.result.now (c.as_slice-levels.ensures.value ∙ c.in_ok-found.ensures)
    c.in-Some.place (c.in-Some.place + 1) c.in-Some.ensures.within refl

pub returns-in-Some : goal.returns-in-Some
returns-in-Some c =
    let net = c.args.net.now in
    let cert = c.args.cert.now in
    let i : ℕ = c.args.leg in
    let k : ℕ = c.args.period in
    let levels : List ℕ = c.as_slice-levels.result.now in
    let seats = level-last net cert i k levels (c.as_slice-levels.ensures.value ∙ c.in_ok-found.ensures) c.args.last c.if-last-eq0.false c.requires.last in
    let told : basis_text net cert i k (c.in-Some.place + 1) ≡ protected_text net cert i k c.args.last =
    protected-some net cert i k c.args.last (get_or levels (c.args.last - 1) 0) levels (Some c.in-Some.place) seats c.if-seats-eq0.false
    (c.as_slice-levels.ensures.value ∙ c.in_ok-found.ensures) c.in-Some.ensures.place in
    let text : List ℕ = c.args.text.now.items in
    IfOk-equal c.push_basis.result c.push_basis.new.text.items (text ++ basis_text net cert i k (c.in-Some.place + 1)) (text ++ protected_text net cert i k c.args.last)
    c.push_basis.ensures (ap (λ ys. text ++ ys) told)

pub returns : goal.returns
returns c =
    let net = c.args.net.now in
    let cert = c.args.cert.now in
    let i : ℕ = c.args.leg in
    let k : ℕ = c.args.period in
    let levels : List ℕ = c.as_slice-levels.result.now in
    let seats = level-last net cert i k levels (c.as_slice-levels.ensures.value ∙ c.in_ok-found.ensures) c.args.last c.if-last-eq0.false c.requires.last in
    let told : [] ≡ protected_text net cert i k c.args.last =
    protected-some net cert i k c.args.last (get_or levels (c.args.last - 1) 0) levels None seats c.if-seats-eq0.false
    (c.as_slice-levels.ensures.value ∙ c.in_ok-found.ensures) c.in-None.ensures.place in
    sym (append-nil c.args.text.now.items) ∙ ap (λ ys. c.args.text.now.items ++ ys) told
