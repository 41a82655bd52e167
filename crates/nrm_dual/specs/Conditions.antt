-- The conditions on a certificate, in order, and the verdict that names the first that fails. They ask for no solution of the
-- program: they read and compare.
use Rattle.std.specs.Prelude.{ℕ, zero, suc, ◌*◌, ℤ, pos, negsuc, nat_abs, Bool, true, false, ◌&&◌, List, [], ◌∷◌, length, get_or, Option}
use Rattle.std.specs.Prelude.{Some, None, if◌then◌else◌, ◌==◌, nat_lt, slice_index}
use Rattle.nrm_fraction.specs.Large.{size_limit}
use Rattle.nrm_lp.specs.declared.certificate.Certificate.{Certificate}
use Rattle.nrm_lp.specs.Program.{ProgramValue, load, price_sum, cost}
use Rattle.nrm_lp.specs.Certified.{sizes}
use Rattle.nrm_dual.specs.declared.verdict.Verdict.{Verdict}
use Rattle.nrm_dual.specs.declared.verdict.Verdict.TheVariants as verdict

-- a number isn't negative, and is below the limit
abbrev pub is_small : ℕ → ℤ → Bool
is_small limit (pos n) = nat_lt n limit
is_small limit (negsuc n) = false

abbrev pub are_small : ℕ → List ℤ → Bool
are_small limit [] = true
are_small limit (n ∷ ns) = is_small limit n && are_small limit ns

-- the lists have the program's lengths, q and den are at least 1, and all numbers are small
abbrev pub has_shape : ℕ → ProgramValue → Certificate → Bool
has_shape limit a c =
    (length c.x == length a.bounds) && ((length c.p == length a.caps)
    && (nat_lt 0 (nat_abs c.q) && (nat_lt 0 (nat_abs c.den)
    && (is_small limit c.q && (are_small limit c.x && (is_small limit c.den && (are_small limit c.p && is_small limit c.value)))))))

-- the least of the n numbers from k on at which a test holds
abbrev pub least : (ℕ → Bool) → ℕ → ℕ → Option ℕ
least test k zero = None
least test k (suc n) = if test k then Some k else least test (suc k) n

-- the product, or the leg, at which a condition fails, or what the later conditions say
abbrev pub or_product : Option ℕ → Verdict → Verdict
or_product (Some product) later = verdict.WrongProduct product
or_product None later = later

abbrev pub or_leg : Option ℕ → Verdict → Verdict
or_leg (Some leg) later = verdict.WrongLeg leg
or_leg None later = later

-- ---- how a condition fails at a product or a leg
-- more seats than its demand
abbrev pub is_above_demand : ProgramValue → ℕ → List ℕ → ℕ → Bool
is_above_demand a q x product = nat_lt (q * slice_index a.bounds product) (slice_index x product)

-- more seats on the leg than its capacity
abbrev pub is_above_capacity : ProgramValue → ℕ → List ℕ → ℕ → Bool
is_above_capacity a q x leg = nat_lt (q * slice_index a.caps leg) (load leg a.legs x)

-- a bid price above 0 on a leg with seats left
abbrev pub is_priced_with_seats_left : ProgramValue → ℕ → List ℕ → List ℕ → ℕ → Bool
is_priced_with_seats_left a q x p leg = nat_lt 0 (slice_index p leg) && nat_lt (load leg a.legs x) (q * slice_index a.caps leg)

-- demand is turned away, and the fare is above the bid prices of the legs
abbrev pub is_rejected_above_bid_price : ProgramValue → ℕ → List ℕ → ℕ → List ℕ → ℕ → Bool
is_rejected_above_bid_price a q x d p product =
    nat_lt (slice_index x product) (q * slice_index a.bounds product)
    && nat_lt (price_sum p (get_or a.legs product [])) (d * slice_index a.fares product)

-- seats are allotted, and the fare is below the bid prices of the legs
abbrev pub is_accepted_below_bid_price : ProgramValue → List ℕ → ℕ → List ℕ → ℕ → Bool
is_accepted_below_bid_price a x d p product =
    nat_lt 0 (slice_index x product) && nat_lt (d * slice_index a.fares product) (price_sum p (get_or a.legs product []))

-- the conditions after the shape, on whole numbers that aren't negative
abbrev pub first_wrong : ProgramValue → ℕ → List ℕ → ℕ → List ℕ → ℕ → Verdict
first_wrong a q x d p value =
    or_product (least (is_above_demand a q x) 0 (length a.bounds))
    (or_leg (least (is_above_capacity a q x) 0 (length a.caps))
    (or_leg (least (is_priced_with_seats_left a q x p) 0 (length a.caps))
    (or_product (least (is_rejected_above_bid_price a q x d p) 0 (length a.bounds))
    (or_product (least (is_accepted_below_bid_price a x d p) 0 (length a.bounds))
    (if value == cost a d p then verdict.Optimal else verdict.WrongValue)))))

-- the first condition that fails, with numbers below this limit
abbrev pub first_failing : ℕ → ProgramValue → Certificate → Verdict
first_failing limit a c =
    if has_shape limit a c then first_wrong a (nat_abs c.q) (sizes c.x) (nat_abs c.den) (sizes c.p) (nat_abs c.value)
    else verdict.WrongShape

-- the same with the limit of the code's numbers
abbrev pub verdict_on : ProgramValue → Certificate → Verdict
verdict_on a c = first_failing size_limit a c
