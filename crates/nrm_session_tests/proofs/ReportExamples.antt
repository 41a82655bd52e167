-- The texts of a plan and its nests that a reader can check by hand: two legs of ten seats and five products, at bid prices of 150 and 80.
use Rattle.std.specs.Prelude.{◌≡◌, codes, pos, [], ◌∷◌, refl, Some, None}
use Rattle.std.specs.Fmt.{digits}
use Rattle.nrm_number.specs.Gcd.{gcd, in_lowest_terms}
use Rattle.nrm_fraction.specs.Fraction.{◌over◌, ◌*ᶠ◌, less, whole}
use Rattle.nrm_model.specs.declared.mode.Mode.TheVariants as mode
use Rattle.nrm_lp.specs.declared.certificate.Certificate.{Certificate}
use Rattle.nrm_samples.specs.Networks.{two_legs_authorised, two_legs_five_products}
use Rattle.nrm_book.specs.declared.booking.Booking.{Booking}
use Rattle.nrm_report.specs.Texts.{leg_text, nest_line, nests_text, protect_line, text_of_plan}

abbrev at_150_and_80 : Certificate
at_150_and_80 = record { q = pos 1; x = pos 12 ∷ pos 12 ∷ pos 16 ∷ pos 24 ∷ pos 0 ∷ []; den = pos 1; p = pos 150 ∷ pos 80 ∷ []; value = pos 16520 }

-- in halves, an adjusted fare below 0
abbrev dear_second : Certificate
dear_second = record at_150_and_80 { den = pos 2; p = pos 1 ∷ pos 459 ∷ [] }

-- the adjusted fare first, then the bucket
nested_at_149 : nest_line two_legs_five_products at_150_and_80 0 4 ≡ codes "nest AB ACL 149/1 2\n"
unfolding digits ◌over◌ gcd in_lowest_terms
nested_at_149 = refl

nested_below_nothing : nest_line two_legs_five_products dear_second 0 4 ≡ codes "nest AB ACL -1/2 3\n"
unfolding digits ◌over◌ gcd in_lowest_terms
nested_below_nothing = refl

protected_on_first : protect_line two_legs_five_products at_150_and_80 1 0 ≡ codes "protect AB 7 10\n"
unfolding digits ◌over◌ ◌*ᶠ◌ less whole gcd in_lowest_terms
protected_on_first = refl

-- all nests come before all protections, leg by leg, and only products on the leg
all_nests : nests_text two_legs_five_products 1 at_150_and_80
    ≡ codes "nest AB ABH 400/1 1\nnest AB ABL 150/1 2\nnest AB ACH 420/1 1\nnest AB ACL 149/1 2\nnest BC ACH 350/1 1\nnest BC BCL 80/1 3\nnest BC ACL 79/1 3\nprotect AB 7 10\nprotect BC 4 6\n"
unfolding digits ◌over◌ ◌*ᶠ◌ less whole gcd in_lowest_terms
all_nests = refl

-- by bid prices there are no nests, and first come, first served tells one word
no_nests : text_of_plan two_legs_five_products mode.Bid 1 (Some at_150_and_80)
    ≡ codes "value 4130/1\nproduct ABH 3/1\nproduct ABL 3/1\nproduct ACH 4/1\nproduct BCL 6/1\nproduct ACL 0/1\nleg AB 150/1\nleg BC 80/1\n"
unfolding digits ◌over◌ gcd in_lowest_terms
no_nests = refl

one_word : text_of_plan two_legs_five_products mode.FirstCome 1 None ≡ codes "first\n"
one_word = refl

-- a leg, and the products on it with a seat sold, in file order
abbrev seats_sold : Booking
seats_sold = record { number = 1; product = 2; party = 3 }

sold_in_file_order : leg_text two_legs_five_products (record { number = 1; product = 4; party = 1 } ∷ seats_sold ∷ []) 1 ≡ codes "leg BC seats 10 authorised 10 sold 4 left 6\non BC ACH 3\non BC ACL 1\n"
unfolding digits
sold_in_file_order = refl

-- the physical seats are told, and what is left is of the authorised ones: one more than the first leg has, and one less than the second
abbrev local_sold : Booking
local_sold = record { number = 1; product = 1; party = 3 }

one_seat_more : leg_text two_legs_authorised (local_sold ∷ []) 0 ≡ codes "leg AB seats 3 authorised 4 sold 3 left 1\non AB LOC 3\n"
unfolding digits
one_seat_more = refl

one_seat_less : leg_text two_legs_authorised (local_sold ∷ []) 1 ≡ codes "leg BC seats 2 authorised 1 sold 0 left 1\n"
unfolding digits
one_seat_less = refl
