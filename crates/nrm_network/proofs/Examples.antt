-- Files that are refused, and files that give a network.
use Rattle.std.specs.Prelude.{◌≡◌, ℕ, List, [], ◌∷◌, ◌++◌, Ok, Err, codes, refl}
use Rattle.std.specs.Fmt.{digits}
use Rattle.csv.proofs.OnLiterals.{csv_on_literals}
use Rattle.nrm_model.specs.Network.{NetworkValue}
use Rattle.nrm_model.proofs.Fits.{IsNetwork-from_test}
use Rattle.nrm_network.specs.File.{file_of}
use Rattle.nrm_network.specs.Canonical.{canonical_file}
use Rattle.nrm_network.specs.declared.fault.Why.TheVariants as why
use Rattle.nrm_network.proofs.CanonicalRead.{printed as the_law}

of_no_kind : file_of (codes "periods,1,1\nfare,AB\n") ≡ Err (2, why.Kind)
unfolding csv_on_literals
of_no_kind = refl

no_first_row : file_of (codes "leg,AB,10\n") ≡ Err (1, why.Order)
unfolding csv_on_literals
no_first_row = refl

second_first_row : file_of (codes "periods,1,1\nleg,AB,9\nperiods,1,1\n") ≡ Err (3, why.Order)
unfolding csv_on_literals
second_first_row = refl

two_fields : file_of (codes "periods,1\n") ≡ Err (1, why.Fields)
unfolding csv_on_literals
two_fields = refl

lower_case : file_of (codes "periods,1,1\nleg,ab,010\n") ≡ Err (2, why.Name)
unfolding csv_on_literals
lower_case = refl

leading_zero : file_of (codes "periods,1,1\nleg,AB,010\n") ≡ Err (2, why.Number)
unfolding csv_on_literals
leading_zero = refl

too_many_seats : file_of (codes "periods,1,1\nleg,AB,1000\n") ≡ Err (2, why.Range)
unfolding csv_on_literals
too_many_seats = refl

leg_twice : file_of (codes "periods,1,1\nleg,AB,9\nleg,AB,9\n") ≡ Err (3, why.Twice)
unfolding csv_on_literals
leg_twice = refl

leg_twice_in_product : file_of (codes "periods,1,1\nleg,AB,9\nproduct,P,5,AB,AB\n") ≡ Err (3, why.Twice)
unfolding csv_on_literals
leg_twice_in_product = refl

no_such_leg : file_of (codes "periods,1,1\nleg,AB,9\nproduct,P,5,BC\n") ≡ Err (3, why.Missing)
unfolding csv_on_literals
no_such_leg = refl

equal_thresholds : file_of (codes "periods,1,1\nleg,AB,9,100,100\n") ≡ Err (2, why.Thresholds)
unfolding csv_on_literals
equal_thresholds = refl

thousand : file_of (codes "periods,1,2\nleg,AB,9\nproduct,P,5,AB\ndemand,P,1,500,500\n") ≡ Err (4, why.Sum)
unfolding csv_on_literals
thousand = refl

first_row_alone : file_of (codes "periods,1,1\n") ≡ Err (2, why.Empty)
unfolding csv_on_literals
first_row_alone = refl

nothing : file_of [] ≡ Err (1, why.Empty)
unfolding csv_on_literals
nothing = refl

-- two legs, a through product and a local one
abbrev pub two_legs : NetworkValue
two_legs = record {
  histories = 1;
  periods = 1;
  legs = record { name = codes "AB"; seats = 3; authorised = 3; cuts = [] } ∷ record { name = codes "BC"; seats = 2; authorised = 2; cuts = [] } ∷ [];
  products = record { name = codes "THRU"; fare = 500; refund = 100; legs = 0 ∷ 1 ∷ [] } ∷ record { name = codes "LOC"; fare = 200; refund = 100; legs = 0 ∷ [] } ∷ [];
  demand = 0 ∷ 0 ∷ [];
}

read : file_of (codes "periods,1,1\nleg,AB,3\nleg,BC,2\nproduct,THRU,500,AB,BC\nproduct,LOC,200,AB\n") ≡ Ok two_legs
unfolding csv_on_literals
read = refl

-- rows that end with a carriage return, a name in quotes, and demand out of order
abbrev pub two_histories : NetworkValue
two_histories = record {
  histories = 2;
  periods = 2;
  legs = record { name = codes "AB"; seats = 9; authorised = 9; cuts = [] } ∷ [];
  products = record { name = codes "P"; fare = 100; refund = 100; legs = 0 ∷ [] } ∷ [];
  demand = 0 ∷ 0 ∷ 1 ∷ 0 ∷ [];
}

quoted : file_of (codes "periods,2,2\r\nleg,\"AB\",9\r\nproduct,P,100,AB\r\ndemand,P,2,1,0\r\ndemand,P,1,0,0\r\n") ≡ Ok two_histories
unfolding csv_on_literals
quoted = refl

printed : canonical_file two_histories ≡ codes "periods,2,2,2\nleg,AB,9,9\nproduct,P,100,AB\ndemand,P,2,1,0\n"
unfolding digits
printed = refl

-- two legs with two thresholds each, five products and four histories
abbrev pub two_legs_five_products : NetworkValue
two_legs_five_products = record {
  histories = 4;
  periods = 1;
  legs = record { name = codes "AB"; seats = 10; authorised = 10; cuts = 300 ∷ 100 ∷ [] } ∷ record { name = codes "BC"; seats = 10; authorised = 10; cuts = 300 ∷ 100 ∷ [] }
      ∷ [];
  products = record { name = codes "ABH"; fare = 400; refund = 100; legs = 0 ∷ [] } ∷ record { name = codes "ABL"; fare = 150; refund = 100; legs = 0 ∷ [] }
      ∷ record { name = codes "ACH"; fare = 500; refund = 100; legs = 0 ∷ 1 ∷ [] } ∷ record { name = codes "BCL"; fare = 80; refund = 100; legs = 1 ∷ [] }
      ∷ record { name = codes "ACL"; fare = 229; refund = 100; legs = 0 ∷ 1 ∷ [] } ∷ [];
  demand = 2 ∷ 4 ∷ 3 ∷ 3 ∷ 6 ∷ 8 ∷ 5 ∷ 9 ∷ 4 ∷ 2 ∷ 6 ∷ 4 ∷ 7 ∷ 9 ∷ 8 ∷ 8 ∷ 0 ∷ 0 ∷ 0 ∷ 0 ∷ [];
}

abbrev pub two_legs_rest : List ℕ
two_legs_rest =
    codes "product,ACH,500,AB,BC\nproduct,BCL,80,BC\nproduct,ACL,229,AB,BC\ndemand,ABH,1,2\ndemand,ABH,2,4\n"
    ++ codes "demand,ABH,3,3\ndemand,ABH,4,3\ndemand,ABL,1,6\ndemand,ABL,2,8\ndemand,ABL,3,5\ndemand,ABL,4,9\n"
    ++ codes "demand,ACH,1,4\ndemand,ACH,2,2\ndemand,ACH,3,6\ndemand,ACH,4,4\ndemand,BCL,1,7\ndemand,BCL,2,9\n"
    ++ codes "demand,BCL,3,8\ndemand,BCL,4,8\n"

-- in version 1, and migrated
abbrev pub two_legs_file : List ℕ
two_legs_file =
    codes "periods,4,1\nleg,AB,10,300,100\nleg,BC,10,300,100\nproduct,ABH,400,AB\nproduct,ABL,150,AB\n" ++ two_legs_rest

abbrev pub two_legs_migrated : List ℕ
two_legs_migrated =
    codes "periods,4,1,2\nleg,AB,10,10,300,100\nleg,BC,10,10,300,100\nproduct,ABH,400,AB\nproduct,ABL,150,AB\n" ++ two_legs_rest

whole_file : file_of two_legs_file ≡ Ok two_legs_five_products
unfolding csv_on_literals
whole_file = refl

printed_whole : canonical_file two_legs_five_products ≡ two_legs_migrated
unfolding digits
printed_whole = refl

-- the law at this network, which is within the limits
read_again : file_of (canonical_file two_legs_five_products) ≡ Ok two_legs_five_products
read_again = the_law two_legs_five_products (IsNetwork-from_test two_legs_five_products refl)

-- ---- version 2: a leg above its seats and one below them, the second with a threshold, and a product of which a third at most is given back
abbrev pub overbooked : NetworkValue
overbooked = record {
  histories = 1;
  periods = 1;
  legs = record { name = codes "AB"; seats = 3; authorised = 4; cuts = [] } ∷ record { name = codes "BC"; seats = 2; authorised = 0; cuts = 5 ∷ [] } ∷ [];
  products = record { name = codes "THRU"; fare = 500; refund = 100; legs = 0 ∷ 1 ∷ [] } ∷ record { name = codes "LOC"; fare = 199; refund = 33; legs = 0 ∷ [] } ∷ [];
  demand = 0 ∷ 2 ∷ [];
}

abbrev pub overbooked_file : List ℕ
overbooked_file = codes "periods,1,1,2\nleg,AB,3,4\nleg,BC,2,0,5\nproduct,THRU,500,AB,BC\nproduct,LOC,199,AB\nrefund,LOC,33\ndemand,LOC,1,2\n"

version_2_read : file_of overbooked_file ≡ Ok overbooked
unfolding csv_on_literals
version_2_read = refl

version_2_printed : canonical_file overbooked ≡ overbooked_file
unfolding digits
version_2_printed = refl

-- a refund of 100 may stand in a file, and refunds may stand anywhere behind their products
given_in_full : file_of (codes "periods,1,1,2\nleg,AB,3,4\nproduct,P,9,AB\nrefund,P,100\nleg,BC,2,0,5\n")
    ≡ Ok (record {
      histories = 1;
      periods = 1;
      legs = overbooked.legs;
      products = record { name = codes "P"; fare = 9; refund = 100; legs = 0 ∷ [] } ∷ [];
      demand = 0 ∷ [];
    })
unfolding csv_on_literals
given_in_full = refl

-- the version is the first row's number of fields, whatever the fourth says, and that must be 2
third_version : file_of (codes "periods,1,1,3\n") ≡ Err (1, why.Range)
unfolding csv_on_literals
third_version = refl

first_version_told : file_of (codes "periods,1,1,1\n") ≡ Err (1, why.Range)
unfolding csv_on_literals
first_version_told = refl

version_with_a_zero : file_of (codes "periods,1,1,02\n") ≡ Err (1, why.Number)
unfolding csv_on_literals
version_with_a_zero = refl

number_before_range : file_of (codes "periods,0,1,02\n") ≡ Err (1, why.Number)
unfolding csv_on_literals
number_before_range = refl

five_fields : file_of (codes "periods,1,1,2,2\n") ≡ Err (1, why.Fields)
unfolding csv_on_literals
five_fields = refl

-- a leg is as long as its version asks for
leg_too_short : file_of (codes "periods,1,1,2\nleg,AB,9\n") ≡ Err (2, why.Fields)
unfolding csv_on_literals
leg_too_short = refl

too_many_authorised : file_of (codes "periods,1,1,2\nleg,AB,9,1000\n") ≡ Err (2, why.Range)
unfolding csv_on_literals
too_many_authorised = refl

fourteen_fields : file_of (codes "periods,1,1,2\nleg,AB,9,9,90,80,70,60,50,40,30,20,10,5\n") ≡ Err (2, why.Fields)
unfolding csv_on_literals
fourteen_fields = refl

-- the fourth field is no threshold there
falling_from_the_fifth : file_of (codes "periods,1,1,2\nleg,AB,9,5,5\nleg,AC,9,5,5,5\n") ≡ Err (3, why.Thresholds)
unfolding csv_on_literals
falling_from_the_fifth = refl

-- refunds
refund_in_version_1 : file_of (codes "periods,1,1\nleg,AB,3\nproduct,P,9,AB\nrefund,P,33\n") ≡ Err (4, why.Kind)
unfolding csv_on_literals
refund_in_version_1 = refl

refund_first : file_of (codes "refund,P,33\n") ≡ Err (1, why.Kind)
unfolding csv_on_literals
refund_first = refl

refund_too_high : file_of (codes "periods,1,1,2\nleg,AB,3,3\nproduct,P,9,AB\nrefund,P,101\n") ≡ Err (4, why.Range)
unfolding csv_on_literals
refund_too_high = refl

refund_twice : file_of (codes "periods,1,1,2\nleg,AB,3,3\nproduct,P,9,AB\nrefund,P,100\nrefund,P,100\n") ≡ Err (5, why.Twice)
unfolding csv_on_literals
refund_twice = refl

refund_of_none : file_of (codes "periods,1,1,2\nleg,AB,3,3\nrefund,P,5\nproduct,P,9,AB\n") ≡ Err (3, why.Missing)
unfolding csv_on_literals
refund_of_none = refl

refund_too_long : file_of (codes "periods,1,1,2\nleg,AB,3,3\nproduct,P,9,AB\nrefund,P,5,5\n") ≡ Err (4, why.Fields)
unfolding csv_on_literals
refund_too_long = refl
