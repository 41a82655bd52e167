use Rattle.std.proofs.Common.{◌≡◌, ◌≢◌, ◌∙◌, ◌==◌, ℕ, List, [], true, false, ap, arith, length, subst, sym}
use Rattle.std.specs.Vec.{vec_len}
use Rattle.nrm_cluster.specs.Divisions.{AreCuts}
use Rattle.nrm_cluster.specs.Points.{PointsValue, points}
use Rattle.nrm_findings.proofs.LegClasses.{few-centres, few-cuts, used-leg}
use Rattle.nrm_findings.proofs.cuts.cuts_of.Goals as goal

pub text_of_cuts-requires-clause-cuts : goal.text_of_cuts-requires-clause-cuts
text_of_cuts-requires-clause-cuts c = omega (arith, c.requires.1, few-cuts _ c.args.groups c.in_ok-found.found c.in_ok-found.ensures.cuts)

pub text_of_cuts-requires-clause-centres : goal.text_of_cuts-requires-clause-centres
text_of_cuts-requires-clause-centres c = omega (arith, c.requires.1, few-centres _ c.args.groups c.in_ok-found.found c.in_ok-found.ensures.cuts)

pub returns : goal.returns
returns c =
    let net = c.args.net.now in
    let leg = c.in-Some.leg in
    let given = c.in_ok-points.points in
    let same : points c.deref.result.now c.deref-2.result.now ≡ given = (λ n. points (c.deref.ensures.value n) (c.deref-2.ensures.value n)) ∙ c.points.view_is in
    let some : given.values ≢ [] = λ none.
    let no_item : vec_len c.points.inside.values ≡ 0 = omega (arith, c.deref.ensures.len, ap length c.deref.ensures.value, ap (λ (p : PointsValue). length p.values) c.points.view_is, ap (λ (xs : List ℕ). length xs) none) in
    let no : true ≡ false = sym (ap (λ (n : ℕ). n == 0) no_item) ∙ sym c.is_empty.ensures ∙ c.if-is_empty.false in
    cc in
    record {
      number = leg;
      points = given;
      found = c.in_ok-found.found;
      named = sym c.in-Some.ensures.number;
      used = used-leg net leg given c.in_ok-points.ensures.points some;
      points_of_leg = c.in_ok-points.ensures.points;
      cuts = subst (λ (p : PointsValue). AreCuts p c.args.groups c.in_ok-found.found) same c.in_ok-found.ensures.cuts;
      told = c.text_of_cuts.ensures;
    }
