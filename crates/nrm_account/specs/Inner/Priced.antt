-- The bid prices of legs as a certificate has them, and their sum beside a fare.
use Rattle.std.specs.Prelude.{ℕ, ◌-◌, ◌*◌, List, ◌++◌, codes, flat_map, nat_abs, nat_lt, pos, slice_index, if◌then◌else◌}
use Rattle.nrm_fraction.specs.Fraction.{◌over◌}
use Rattle.nrm_text.specs.Fractions.{fraction_text}
use Rattle.nrm_text.specs.Words.{spaced}
use Rattle.nrm_model.specs.Network.{NetworkValue, leg_of, product_of}
use Rattle.nrm_lp.specs.declared.certificate.Certificate.{Certificate}
use Rattle.nrm_lp.specs.Certified.{sizes}
use Rattle.nrm_lp.specs.Program.{price_sum}
use Rattle.nrm_account.specs.Lines.{counted, ended}

abbrev pub priced_line : NetworkValue → Certificate → ℕ → List ℕ
priced_line net cert leg =
    ended (codes "price" ++ spaced (leg_of net leg).name
    ++ spaced (fraction_text (pos (slice_index (sizes cert.p) leg) over nat_abs cert.den)))

abbrev pub priced_sum : ℕ → ℕ → ℕ → List ℕ
priced_sum fare sum den =
    ended (codes "sum" ++ spaced (fraction_text (pos sum over den)) ++ counted (codes "fare") fare
    ++ (if nat_lt (den * fare) sum then spaced (codes "below") ++ spaced (fraction_text (pos (sum - den * fare) over den))
    else spaced (codes "reaches")))

abbrev pub priced_text : NetworkValue → Certificate → ℕ → List ℕ
priced_text net cert product =
    flat_map (priced_line net cert) (product_of net product).legs
    ++ priced_sum (product_of net product).fare (price_sum (sizes cert.p) (product_of net product).legs) (nat_abs cert.den)
