-- How a certificate is read: the lines of a file, in any order, give the value, an allocation for each product and a bid price for
-- each leg, each of them once.
use Rattle.std.specs.Prelude.{ℕ, suc, ◌*◌, ℤ, pos, Bool, ◌&&◌, ◌||◌, ◌==◌, List, [], ◌∷◌, length, map, set, get_or, replicate}
use Rattle.std.specs.Prelude.{codes, bytes_eq, nat_lt, nat_le, Option, Some, None, Result, Ok, Err, if◌then◌else◌}
use Rattle.std.specs.Option.{option_map}
use Rattle.std.specs.List.{slice_split}
use Rattle.std.specs.Str.Lines.{strip_carriage_return}
use Rattle.nrm_fraction.specs.Fraction.{Fraction, ◌over◌}
use Rattle.nrm_fraction.specs.Large.{common, numerators, large_number, size_limit}
use Rattle.nrm_text.specs.Numbers.{is_whole, value_of}
use Rattle.nrm_model.specs.Network.{NetworkValue, leg_named, product_named}
use Rattle.nrm_model.specs.declared.limits.TheConstants.{MOST_CERTIFICATE_BYTES}
use Rattle.nrm_stream.specs.Lines.{lines_of}
use Rattle.nrm_dual.specs.declared.written.TheConstants.{GREATEST_NUMBER}
use Rattle.nrm_lp.specs.declared.certificate.Certificate.{Certificate}
use Rattle.nrm_dual.specs.Refusals.{CertRefusal, too_long, bad_line, large_line, no_value, no_product, no_leg, too_fine}

-- a fraction as it is written: two whole numbers of any size
pub record Written : Type 0 where
  pub num : ℕ
  pub den : ℕ

-- `n/d`, two whole numbers of which the second is at least 1
abbrev pub written_by : List (List ℕ) → Option Written
written_by [] = None
written_by (num ∷ []) = None
written_by (num ∷ den ∷ []) =
    if is_whole num && is_whole den && nat_le 1 (value_of den) then Some (record { num = value_of num; den = value_of den }) else None
written_by (num ∷ den ∷ further ∷ more) = None

abbrev pub written_in : List ℕ → Option Written
written_in word = written_by (slice_split (λ c. c == 47) word)

-- what a fraction may be given for: the value, a product, a leg
pub data Place : Type 0 where
  the_value : Place
  of_product : ℕ → Place
  of_leg : ℕ → Place

-- a line that gives a fraction for a place
pub record Entry : Type 0 where
  pub place : Place
  pub fraction : Written

abbrev pub entry_at : Option Place → Option Written → Option Entry
entry_at (Some place) (Some fraction) = Some (record { place = place; fraction = fraction })
entry_at (Some place) None = None
entry_at None fraction = None

-- `value n/d`, `product NAME n/d` and `leg NAME n/d`, where the name is known
abbrev pub named_place : NetworkValue → List ℕ → List ℕ → Option Place
named_place net kind name =
    if bytes_eq kind (codes "product") then option_map of_product (product_named net name)
    else if bytes_eq kind (codes "leg") then option_map of_leg (leg_named net name)
    else None

abbrev pub entry_of_words : NetworkValue → List (List ℕ) → Option Entry
entry_of_words net [] = None
entry_of_words net (kind ∷ []) = None
entry_of_words net (kind ∷ fraction ∷ []) = if bytes_eq kind (codes "value") then entry_at (Some the_value) (written_in fraction) else None
entry_of_words net (kind ∷ name ∷ fraction ∷ []) = entry_at (named_place net kind name) (written_in fraction)
entry_of_words net (kind ∷ name ∷ fraction ∷ further ∷ more) = None

-- one carriage return at the end of a line is dropped, and one space stands between each two words
abbrev pub entry_of : NetworkValue → List ℕ → Option Entry
entry_of net line = entry_of_words net (slice_split (λ c. c == 32) (strip_carriage_return line))

-- the fractions that were given so far: for the value, for each product and for each leg
pub record Sheet : Type 0 where
  pub value : Option Written
  pub products : List (Option Written)
  pub legs : List (Option Written)

abbrev pub blank : NetworkValue → Sheet
blank net = record { value = None; products = replicate (length net.products) None; legs = replicate (length net.legs) None }

-- what was given for a place
abbrev pub given : Sheet → Place → Option Written
given sheet the_value = sheet.value
given sheet (of_product product) = get_or sheet.products product None
given sheet (of_leg leg) = get_or sheet.legs leg None

-- the sheet with a fraction for a place
abbrev pub with_given : Sheet → Place → Written → Sheet
with_given sheet the_value fraction = record sheet { value = Some fraction }
with_given sheet (of_product product) fraction = record sheet { products = set sheet.products product (Some fraction) }
with_given sheet (of_leg leg) fraction = record sheet { legs = set sheet.legs leg (Some fraction) }

-- whether a number exceeds the greatest that may be written
abbrev pub is_over : Written → Bool
is_over fraction = nat_lt GREATEST_NUMBER fraction.num || nat_lt GREATEST_NUMBER fraction.den

-- the sheet after a line of this number: the line is of one of the forms, what it gives is new, and its numbers aren't too large
abbrev pub after_entry : Sheet → ℕ → Entry → Option Written → Result Sheet CertRefusal
after_entry sheet number entry (Some before) = Err (bad_line number)
after_entry sheet number entry None =
    if is_over entry.fraction then Err (large_line number) else Ok (with_given sheet entry.place entry.fraction)

abbrev pub after_line : Sheet → ℕ → Option Entry → Result Sheet CertRefusal
after_line sheet number None = Err (bad_line number)
after_line sheet number (Some entry) = after_entry sheet number entry (given sheet entry.place)

-- what follows a sheet, unless there is a refusal
abbrev pub or_refusal : {A : Type 0} → Result Sheet CertRefusal → (Sheet → Result A CertRefusal) → Result A CertRefusal
or_refusal (Ok sheet) next = next sheet
or_refusal (Err cause) next = Err cause

-- the sheet after these lines, of which the first has this number, or the refusal at the first that fails
abbrev pub after_lines : NetworkValue → Sheet → ℕ → List (List ℕ) → Result Sheet CertRefusal
after_lines net sheet number [] = Ok sheet
after_lines net sheet number (line ∷ more) =
    or_refusal (after_line sheet number (entry_of net line)) (λ next. after_lines net next (suc number) more)

-- the first of these that wasn't given, counted from k on
abbrev pub first_missing : ℕ → List (Option Written) → Option ℕ
first_missing k [] = None
first_missing k (None ∷ more) = Some k
first_missing k (Some fraction ∷ more) = first_missing (suc k) more

-- n times a fraction, in lowest terms, and 0 where none was given
abbrev pub times : ℕ → Option Written → Fraction
times n (Some fraction) = pos (n * fraction.num) over fraction.den
times n None = pos 0 over 1

-- the allocation over all histories, and the value over all histories with the bid prices
abbrev pub allocation_in : NetworkValue → Sheet → List Fraction
allocation_in net sheet = map (times net.histories) sheet.products

abbrev pub value_in : NetworkValue → Sheet → Fraction
value_in net sheet = times net.histories sheet.value

abbrev pub prices_in : Sheet → List Fraction
prices_in sheet = map (times 1) sheet.legs

-- the certificate of the sheet: the allocation over its least common denominator, the value and the bid prices over theirs
abbrev pub certificate_over : List Fraction → Fraction → List Fraction → Certificate
certificate_over shares value prices = record {
  q = pos (common shares);
  x = numerators (common shares) shares;
  den = pos (common (value ∷ prices));
  p = numerators (common (value ∷ prices)) prices;
  value = get_or (numerators (common (value ∷ prices)) (value ∷ prices)) 0 (pos 0);
}

-- the certificate, unless a number of it reaches the limit: with no Large number in the allocation, nor in value and prices
abbrev pub small_or_refusal : Option ℤ → Option ℤ → Certificate → Result Certificate CertRefusal
small_or_refusal None None certificate = Ok certificate
small_or_refusal None (Some number) certificate = Err too_fine
small_or_refusal (Some number) found certificate = Err too_fine

abbrev pub certificate_or_refusal : List Fraction → Fraction → List Fraction → Result Certificate CertRefusal
certificate_or_refusal shares value prices =
    small_or_refusal (large_number size_limit shares) (large_number size_limit (value ∷ prices)) (certificate_over shares value prices)

-- the certificate of a sheet, or what is missing on it: the value, the first product, the first leg
abbrev pub whole_or_refusal : Option Written → Option ℕ → Option ℕ → Result Certificate CertRefusal → Result Certificate CertRefusal
whole_or_refusal None product leg certificate = Err no_value
whole_or_refusal (Some value) (Some product) leg certificate = Err (no_product product)
whole_or_refusal (Some value) None (Some leg) certificate = Err (no_leg leg)
whole_or_refusal (Some value) None None certificate = certificate

abbrev pub certificate_on : NetworkValue → Sheet → Result Certificate CertRefusal
certificate_on net sheet =
    whole_or_refusal sheet.value (first_missing 0 sheet.products) (first_missing 0 sheet.legs)
    (certificate_or_refusal (allocation_in net sheet) (value_in net sheet) (prices_in sheet))

-- the certificate that the bytes of a file give, or why they give none
abbrev pub certificate_of : NetworkValue → List ℕ → Result Certificate CertRefusal
certificate_of net bytes =
    if nat_lt MOST_CERTIFICATE_BYTES (length bytes) then Err too_long
    else or_refusal (after_lines net (blank net) 1 (lines_of bytes)) (certificate_on net)
