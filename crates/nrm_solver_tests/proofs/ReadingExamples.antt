-- Certificate files of a small network, worked: what is written, what is read, and each refusal.
use Rattle.std.proofs.Common.{◌≡◌, pos, refl, [], ◌∷◌, codes, replicate, Some, None, Ok, Err}
use Rattle.std.specs.Fmt.{digits}
use Rattle.nrm_number.specs.Gcd.{gcd, lcm, in_lowest_terms}
use Rattle.nrm_fraction.specs.Fraction.{◌over◌}
use Rattle.nrm_samples.specs.Networks.{two_legs_five_products}
use Rattle.nrm_lp.specs.declared.certificate.Certificate.{Certificate}
use Rattle.nrm_dual.specs.Reading.{certificate_of}
use Rattle.nrm_dual.specs.Texts.{certificate_text}
use Rattle.nrm_dual.specs.Refusals.{refusal_of}
use Rattle.nrm_dual.specs.Refusals as refusal
use Rattle.nrm_dual.specs.declared.fault.CertFault.TheVariants as fault

-- the closing certificate of its program over four histories
abbrev pub closing_of_two_legs : Certificate
closing_of_two_legs = record { q = pos 1; x = pos 12 ∷ pos 12 ∷ pos 16 ∷ pos 24 ∷ pos 0 ∷ []; den = pos 1; p = pos 150 ∷ pos 80 ∷ []; value = pos 16520 }

written : certificate_text two_legs_five_products closing_of_two_legs ≡ codes "value 4130/1\nproduct ABH 3/1\nproduct ABL 3/1\nproduct ACH 4/1\nproduct BCL 6/1\nproduct ACL 0/1\nleg AB 150/1\nleg BC 80/1\n"
unfolding digits ◌over◌ gcd in_lowest_terms
written = refl

read_again : certificate_of two_legs_five_products (codes "value 4130/1\nproduct ABH 3/1\nproduct ABL 3/1\nproduct ACH 4/1\nproduct BCL 6/1\nproduct ACL 0/1\nleg AB 150/1\nleg BC 80/1\n") ≡ Ok closing_of_two_legs
unfolding ◌over◌ gcd lcm in_lowest_terms
read_again = refl

-- the lines in another order, with carriage returns and without the last end of a line
in_another_order : certificate_of two_legs_five_products (codes "leg BC 80/1\r\nleg AB 150/1\r\nproduct ACL 0/1\r\nproduct BCL 6/1\r\nproduct ACH 4/1\r\nproduct ABL 3/1\r\nproduct ABH 3/1\r\nvalue 4130/1\r") ≡ Ok closing_of_two_legs
unfolding ◌over◌ gcd lcm in_lowest_terms
in_another_order = refl

-- fractions need not be in lowest terms
in_other_terms : certificate_of two_legs_five_products (codes "value 4130/1\nproduct ABH 6/2\nproduct ABL 3/1\nproduct ACH 4/1\nproduct BCL 6/1\nproduct ACL 0/1\nleg AB 300/2\nleg BC 80/1\n") ≡ Ok closing_of_two_legs
unfolding ◌over◌ gcd lcm in_lowest_terms
in_other_terms = refl

-- a mean allocation that isn't whole over the histories
halves : certificate_of two_legs_five_products (codes "value 4130/1\nproduct ABH 1/8\nproduct ABL 3/1\nproduct ACH 4/1\nproduct BCL 6/1\nproduct ACL 0/1\nleg AB 150/1\nleg BC 80/1\n") ≡ Ok (record { q = pos 2; x = pos 1 ∷ pos 24 ∷ pos 32 ∷ pos 48 ∷ pos 0 ∷ []; den = pos 1; p = pos 150 ∷ pos 80 ∷ []; value = pos 16520 })
unfolding ◌over◌ gcd lcm in_lowest_terms
halves = refl

-- what is refused
no_fraction : certificate_of two_legs_five_products (codes "value 4130\nproduct ABH 3/1\nproduct ABL 3/1\nproduct ACH 4/1\nproduct BCL 6/1\nproduct ACL 0/1\nleg AB 150/1\nleg BC 80/1\n") ≡ Err (refusal.bad_line 1)
unfolding ◌over◌ gcd lcm in_lowest_terms
no_fraction = refl

ninth_line : certificate_of two_legs_five_products (codes "value 4130/1\nproduct ABH 3/1\nproduct ABL 3/1\nproduct ACH 4/1\nproduct BCL 6/1\nproduct ACL 0/1\nleg AB 150/1\nleg BC 80/1\nleg AB 150/1\n") ≡ Err (refusal.bad_line 9)
unfolding ◌over◌ gcd lcm in_lowest_terms
ninth_line = refl

unknown_name : certificate_of two_legs_five_products (codes "value 4130/1\nproduct ABH 3/1\nproduct ABL 3/1\nproduct XX 1/1\nproduct ACH 4/1\nproduct BCL 6/1\nproduct ACL 0/1\nleg AB 150/1\nleg BC 80/1\n") ≡ Err (refusal.bad_line 4)
unfolding ◌over◌ gcd lcm in_lowest_terms
unknown_name = refl

denominator_nought : certificate_of two_legs_five_products (codes "value 9223372036854775808/0\nproduct ABH 3/1\nproduct ABL 3/1\nproduct ACH 4/1\nproduct BCL 6/1\nproduct ACL 0/1\nleg AB 150/1\nleg BC 80/1\n") ≡ Err (refusal.bad_line 1)
unfolding ◌over◌ gcd lcm in_lowest_terms
denominator_nought = refl

negative : certificate_of two_legs_five_products (codes "value 4130/1\nproduct ABH 3/1\nproduct ABL 3/1\nproduct ACH 4/1\nproduct BCL 6/1\nproduct ACL 0/1\nleg AB -150/1\nleg BC 80/1\n") ≡ Err (refusal.bad_line 7)
unfolding ◌over◌ gcd lcm in_lowest_terms
negative = refl

large_number : certificate_of two_legs_five_products (codes "value 9223372036854775808/1\nproduct ABH 3/1\nproduct ABL 3/1\nproduct ACH 4/1\nproduct BCL 6/1\nproduct ACL 0/1\nleg AB 150/1\nleg BC 80/1\n") ≡ Err (refusal.large_line 1)
unfolding ◌over◌ gcd lcm in_lowest_terms
large_number = refl

earlier_line_first : certificate_of two_legs_five_products (codes "value 1/9223372036854775808\nleg XX 1/1\n") ≡ Err (refusal.large_line 1)
unfolding ◌over◌ gcd lcm in_lowest_terms
earlier_line_first = refl

no_value : certificate_of two_legs_five_products (codes "product ABH 3/1\nproduct ABL 3/1\nproduct ACH 4/1\nproduct BCL 6/1\nproduct ACL 0/1\nleg AB 150/1\nleg BC 80/1\n") ≡ Err refusal.no_value
unfolding ◌over◌ gcd lcm in_lowest_terms
no_value = refl

no_product : certificate_of two_legs_five_products (codes "value 4130/1\nproduct ABH 3/1\nproduct ABL 3/1\nproduct ACH 4/1\nproduct BCL 6/1\nleg AB 150/1\nleg BC 80/1\n") ≡ Err (refusal.no_product 4)
unfolding ◌over◌ gcd lcm in_lowest_terms
no_product = refl

no_leg : certificate_of two_legs_five_products (codes "value 4130/1\nproduct ABH 3/1\nproduct ABL 3/1\nproduct ACH 4/1\nproduct BCL 6/1\nproduct ACL 0/1\nleg AB 150/1\n") ≡ Err (refusal.no_leg 1)
unfolding ◌over◌ gcd lcm in_lowest_terms
no_leg = refl

too_fine : certificate_of two_legs_five_products (codes "value 4130/1\nproduct ABH 3/1\nproduct ABL 3/1\nproduct ACH 4/1\nproduct BCL 6/1\nproduct ACL 0/1\nleg AB 150/1\nleg BC 1/281474976710656\n") ≡ Err refusal.too_fine
unfolding ◌over◌ gcd lcm in_lowest_terms
too_fine = refl

empty_line : certificate_of two_legs_five_products (codes "value 4130/1\nproduct ABH 3/1\nproduct ABL 3/1\nproduct ACH 4/1\nproduct BCL 6/1\nproduct ACL 0/1\nleg AB 150/1\nleg BC 80/1\n\n") ≡ Err (refusal.bad_line 9)
unfolding ◌over◌ gcd lcm in_lowest_terms
empty_line = refl

-- ---- where two causes are there, the first in order is told
-- too long, and no line of a form: the bytes are asked first
longest : certificate_of two_legs_five_products (replicate 65536 10) ≡ Err (refusal.bad_line 1)
longest = refl

long_then_line : certificate_of two_legs_five_products (replicate 65537 10) ≡ Err refusal.too_long
long_then_line = refl

-- a repeated line with a number that is too large
repeated_then_large : certificate_of two_legs_five_products (codes "value 1/1\nvalue 9223372036854775808/1\n") ≡ Err (refusal.bad_line 2)
repeated_then_large = refl

-- the greatest number that may be written, of a fraction that is read in other terms
greatest_number : certificate_of two_legs_five_products (codes "value 9223372036854775807/9223372036854775807\nvalue 1/1\n") ≡ Err (refusal.bad_line 2)
greatest_number = refl

-- a line that fails behind all that is missing
line_then_value : certificate_of two_legs_five_products (codes "leg XX 1/1\n") ≡ Err (refusal.bad_line 1)
line_then_value = refl

-- nothing is given
value_then_product : certificate_of two_legs_five_products [] ≡ Err refusal.no_value
value_then_product = refl

-- no product and no leg is given
product_then_leg : certificate_of two_legs_five_products (codes "value 4130/1\n") ≡ Err (refusal.no_product 0)
product_then_leg = refl

first_product_missing : certificate_of two_legs_five_products (codes "value 4130/1\nproduct ABH 3/1\nproduct BCL 6/1\nleg AB 150/1\nleg BC 80/1\n") ≡ Err (refusal.no_product 1)
first_product_missing = refl

-- leg AB isn't given, and the bid price of BC is too fine
leg_then_too_fine : certificate_of two_legs_five_products (codes "value 4130/1\nproduct ABH 3/1\nproduct ABL 3/1\nproduct ACH 4/1\nproduct BCL 6/1\nproduct ACL 0/1\nleg BC 1/281474976710656\n") ≡ Err (refusal.no_leg 0)
unfolding ◌over◌ gcd lcm in_lowest_terms
leg_then_too_fine = refl

-- an allocation that is too fine
too_fine_allocation : certificate_of two_legs_five_products (codes "value 4130/1\nproduct ABH 1/281474976710655\nproduct ABL 1/2\nproduct ACH 4/1\nproduct BCL 6/1\nproduct ACL 0/1\nleg AB 150/1\nleg BC 80/1\n") ≡ Err refusal.too_fine
unfolding ◌over◌ gcd lcm in_lowest_terms
too_fine_allocation = refl

-- the greatest denominator
finest : certificate_of two_legs_five_products (codes "value 1/4\nproduct ABH 3/1\nproduct ABL 3/1\nproduct ACH 4/1\nproduct BCL 6/1\nproduct ACL 0/1\nleg AB 1/3\nleg BC 1/281474976710655\n") ≡ Ok (record { q = pos 1; x = pos 12 ∷ pos 12 ∷ pos 16 ∷ pos 24 ∷ pos 0 ∷ []; den = pos 281474976710655; p = pos 93824992236885 ∷ pos 1 ∷ []; value = pos 281474976710655 })
unfolding ◌over◌ gcd lcm in_lowest_terms
finest = refl

-- ---- which refusal each fault tells
told : (refusal_of fault.Long ≡ Some refusal.too_long) × (refusal_of (fault.Line 2) ≡ Some (refusal.bad_line 2)) × (refusal_of (fault.Large 2) ≡ Some (refusal.large_line 2)) × (refusal_of fault.NoValue ≡ Some refusal.no_value)
told = (refl, refl, refl, refl)

told_missing : (refusal_of (fault.NoProduct 2) ≡ Some (refusal.no_product 2)) × (refusal_of (fault.NoLeg 1) ≡ Some (refusal.no_leg 1)) × (refusal_of fault.TooFine ≡ Some refusal.too_fine) × (refusal_of fault.NoMemory ≡ None)
told_missing = (refl, refl, refl, refl)
