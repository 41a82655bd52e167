-- What a certificate says of one demand history, on the mean, and of one seat. Its program counts seats and money over
-- all the histories together; a bid price is the same in each of them.
use Rattle.std.specs.Prelude.{ℕ, ◌*◌, pos, nat_abs, get_or}
use Rattle.nrm_fraction.specs.Fraction.{Fraction, ◌over◌}
use Rattle.nrm_lp.specs.declared.certificate.Certificate.{Certificate}

-- the value of a history, in currency units
abbrev pub mean_value : ℕ → Certificate → Fraction
mean_value histories c = c.value over (nat_abs c.den * histories)

-- the seats that a product is allotted in a history
abbrev pub mean_allocation : ℕ → Certificate → ℕ → Fraction
mean_allocation histories c product = get_or c.x product (pos 0) over (nat_abs c.q * histories)

-- the bid price of a seat on a leg, in currency units
abbrev pub bid_price : Certificate → ℕ → Fraction
bid_price c leg = get_or c.p leg (pos 0) over nat_abs c.den
