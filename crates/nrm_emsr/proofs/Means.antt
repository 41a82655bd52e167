-- Mean fares: their bounds, that of one bucket more, and those of the definitions.
use Rattle.std.proofs.Common.{ℕ, ◌≡◌, ◌∙◌, ◌+◌, ◌^◌, ◌<◌, ◌≤◌, List, length, map, sym, ap, arith, pos, ◌+ℤ◌, ◌*ℤ◌, unsigned_abs}
use Rattle.std.specs.List.{range_with_len}
use Rattle.nrm_model.specs.Network.{NetworkValue}
use Rattle.nrm_model.specs.Demand.{total_to_come}
use Rattle.nrm_lp.specs.declared.certificate.Certificate.{Certificate}
use Rattle.nrm_emsr.specs.declared.nest.Nested.{Nested}
use Rattle.nrm_emsr.specs.declared.sums.Mean.{Mean}
use Rattle.nrm_emsr.specs.Fares.{weight_of, weighted_fares}
use Rattle.nrm_emsr.specs.Protections.{demand_above}
use Rattle.nrm_emsr.specs.Inner.Nest.{nest_on}
use Rattle.nrm_emsr.specs.Inner.Sums.{IsMeanOf, nest_demand, nest_fares, nest_weight}
use Rattle.nrm_emsr.proofs.Nests.{count-bucket-more, demand-is, fares-bucket-more, fares-is, few-in, sum-bucket-more, weight-is}

module _ (net : NetworkValue) (k : ℕ) (nest : List Nested) (few : length nest ≤ 256) where
  pub weight-small : (first last : ℕ) (mean : Mean) → IsMeanOf net k nest first last mean → mean.seats < 2 ^ 23
  weight-small first last mean is = omega (arith, is.seats_size, few-in nest first last, few)

  pub fares-small : (first last : ℕ) (mean : Mean) → IsMeanOf net k nest first last mean → unsigned_abs mean.fares < 2 ^ 98
  fares-small first last mean is = omega (arith, is.fares_size, few-in nest first last, few)

pub mean-more : (net : NetworkValue) (k : ℕ) (nest : List Nested) (b : ℕ) (mean own both : Mean) → IsMeanOf net k nest 1 b mean → IsMeanOf net k nest (b + 1) (b + 1) own
    → both.seats ≡ mean.seats + own.seats → both.fares ≡ mean.fares +ℤ own.fares → unsigned_abs both.fares ≤ unsigned_abs mean.fares + unsigned_abs own.fares
    → IsMeanOf net k nest 1 (b + 1) both
mean-more net k nest b mean own both is own-is seats fares size = record {
  seats = omega (arith, seats, is.seats, own-is.seats, sum-bucket-more (λ (nested : Nested). total_to_come net nested.product k) nest b);
  fares = fares ∙ (λ n. is.fares n +ℤ own-is.fares n) ∙ sym (fares-bucket-more (λ (nested : Nested). nested.fare *ℤ pos (total_to_come net nested.product k)) nest b);
  seats_size = omega (arith, seats, is.seats_size, own-is.seats_size, count-bucket-more nest b);
  fares_size = omega (arith, size, is.fares_size, own-is.fares_size, count-bucket-more nest b);
}

-- ---- over all products of a leg they are those of the definitions, and so are the demands of buckets 1 to b
module _ (net : NetworkValue) (cert : Certificate) (i k : ℕ) (nest : List Nested) (all : nest ≡ nest_on net cert i) where
  pub seats-on : (first last : ℕ) (mean : Mean) → IsMeanOf net k nest first last mean → mean.seats ≡ weight_of net cert i k first last
  seats-on first last mean is = is.seats ∙ ap (λ (ns : List Nested). nest_weight net k ns first last) all ∙ weight-is net cert i k first last

  pub fares-on : (first last : ℕ) (mean : Mean) → IsMeanOf net k nest first last mean → mean.fares ≡ weighted_fares net cert i k first last
  fares-on first last mean is = is.fares ∙ ap (λ (ns : List Nested). nest_fares net k ns first last) all ∙ fares-is net cert i k first last

  pub demands-on : (b : ℕ) → map (nest_demand net k nest 1 b) (range_with_len 0 net.histories) ≡ map (demand_above net cert i k b) (range_with_len 0 net.histories)
  demands-on b =
      (λ n. map (λ h. nest_demand net k (all n) 1 b h) (range_with_len 0 net.histories))
      ∙ (λ n. map (λ h. demand-is net cert i k b h n) (range_with_len 0 net.histories))
