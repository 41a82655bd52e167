-- The fraction that `dp` writes is the best mean over all seasons.
use Rattle.std.proofs.Common.{ℕ, ◌≡◌, ◌∙◌, ◌≤◌, ◌^◌, length, arith, sym}
use Rattle.std.specs.Prelude.{pos}
use Rattle.nrm_fraction.specs.Fraction.{◌over◌}
use Rattle.nrm_legdp.specs.Policies.{by_protections, value}
use Rattle.nrm_legdp.specs.Seasons.{seasons}
use Rattle.nrm_legdp.proofs.Seasons.{earned-over-seasons}
use Rattle.nrm_legdp.proofs.Values.{no-policy-earns-more, protections-earn-all}
use Rattle.nrm_findings.specs.LegMeans.{ValuesAreMeans, over_seasons}

pub values-are-means : ValuesAreMeans
values-are-means c seats ok =
    let m : ℕ = length c.fares in
    let same : m ≤ m = omega arith in
    let here : seats ≤ seats = omega arith in
    let own = earned-over-seasons c (by_protections c seats) m seats ok same in
    let all = protections-earn-all.all c seats m seats here in
    let worth : value c m seats ≡ over_seasons c (by_protections c seats) seats = sym all ∙ own.1 in
    let count : c.histories ^ m ≡ length (seasons c m) = sym own.0 in
    record {
      mean = λ n. pos (worth n) over count n;
      best = λ sells is. omega (arith, (earned-over-seasons c sells m seats ok same).1, no-policy-earns-more c sells is m seats, worth);
    }
