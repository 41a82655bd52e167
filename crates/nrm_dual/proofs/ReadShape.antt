-- What is read has the network's shape: a sheet keeps its lengths, and numbers that aren't Large are below the limit.
use Rattle.std.proofs.Common.{◌≡◌, ℕ, zero, suc, ◌*◌, ◌/◌, ◌<◌, ℤ, pos, ◌*ℤ◌, nat_abs, refl, ap, ◌∙◌, subst, List, [], ◌∷◌, map, length}
use Rattle.std.proofs.Common.{All, Bool, true, false, Option, Some, None, Ok, Err, nat_lt}
use Rattle.std.specs.Prelude.{Result, if◌then◌else◌}
use Rattle.std.proofs.lemmas.List.{length-map, length-set, length-replicate}
use Rattle.std.proofs.lemmas.List.Elements.{All-nil, All-cons}
use Rattle.nrm_number.specs.Gcd.{gcd}
use Rattle.nrm_fraction.specs.Fraction.{Fraction, ◌over◌}
use Rattle.nrm_fraction.specs.Large.{common, numerators, first_reaching, large_number, size_limit}
use Rattle.nrm_fraction.proofs.Lowest.{common_pos}
use Rattle.nrm_model.specs.Network.{NetworkValue}
use Rattle.nrm_stream.specs.Lines.{lines_of}
use Rattle.nrm_lp.specs.declared.certificate.Certificate.{Certificate}
use Rattle.nrm_lp.specs.Shape.{HasShape, IsNumber}
use Rattle.nrm_lp.proofs.Small.{reach_first}
use Rattle.nrm_dual.specs.Inner.Sheets.{IsSheetOf}
use Rattle.nrm_dual.specs.Refusals.{CertRefusal, too_long, bad_line, large_line, no_value, no_product, no_leg, too_fine}
use Rattle.nrm_dual.specs.Reading.{Written, Place, the_value, of_product, of_leg, Entry, entry_of, Sheet, blank, given, with_given, is_over}
use Rattle.nrm_dual.specs.Reading.{after_entry, after_line, after_lines, or_refusal, first_missing, times, certificate_over}
use Rattle.nrm_dual.specs.Reading.{certificate_or_refusal, small_or_refusal, whole_or_refusal, certificate_on, certificate_of}
use Rattle.nrm_dual.specs.Reading.{allocation_in, value_in, prices_in}

fault_ok : {A : Type 0} (cause : CertRefusal) (x : A) → Err cause ≡ Ok x → ⊥
fault_ok cause x e = cc

same_ok : {A : Type 0} (x y : A) → ◌≡◌ {A = Result A CertRefusal} (Ok x) (Ok y) → x ≡ y
same_ok x y e = cc

pub blank_places : (net : NetworkValue) → IsSheetOf net (blank net)
blank_places net = record { products = length-replicate (length net.products) None; legs = length-replicate (length net.legs) None }

with_places : (net : NetworkValue) (sheet : Sheet) (place : Place) (fraction : Written) → IsSheetOf net sheet
    → IsSheetOf net (with_given sheet place fraction)
with_places net sheet the_value fraction h = record { products = h.products; legs = h.legs }
with_places net sheet (of_product j) fraction h = record { products = length-set sheet.products j (Some fraction) ∙ h.products; legs = h.legs }
with_places net sheet (of_leg i) fraction h = record { products = h.products; legs = length-set sheet.legs i (Some fraction) ∙ h.legs }

pub line_places : (net : NetworkValue) (sheet : Sheet) (number : ℕ) (entry : Option Entry) → IsSheetOf net sheet → (next : Sheet)
    → after_line sheet number entry ≡ Ok next → IsSheetOf net next
line_places net sheet number None h next e = absurd (fault_ok (bad_line number) next e)
line_places net sheet number (Some entry) h next e = go (given sheet entry.place) e
  where
    by : (large : Bool) → (if large then Err (large_line number) else Ok (with_given sheet entry.place entry.fraction)) ≡ Ok next → IsSheetOf net next
    by true e = absurd (fault_ok (large_line number) next e)
    by false e = subst (IsSheetOf net) (same_ok (with_given sheet entry.place entry.fraction) next e) (with_places net sheet entry.place entry.fraction h)

    go : (before : Option Written) → after_entry sheet number entry before ≡ Ok next → IsSheetOf net next
    go (Some before) e = absurd (fault_ok (bad_line number) next e)
    go None e = by (is_over entry.fraction) e

lines_places : (net : NetworkValue) (sheet : Sheet) (number : ℕ) (lines : List (List ℕ)) → IsSheetOf net sheet → (last : Sheet)
    → after_lines net sheet number lines ≡ Ok last → IsSheetOf net last
lines_places net sheet number [] h last e = subst (IsSheetOf net) (same_ok sheet last e) h
lines_places net sheet number (line ∷ more) h last e = go (after_line sheet number (entry_of net line)) refl (λ next places rest. lines_places net next (suc number) more places last rest) e
  where
    go : (r : Result Sheet CertRefusal) → after_line sheet number (entry_of net line) ≡ r → ((next : Sheet) → IsSheetOf net next → after_lines net next (suc number) more ≡ Ok last → IsSheetOf net last)
        → or_refusal r (λ next. after_lines net next (suc number) more) ≡ Ok last → IsSheetOf net last
    go (Ok next) s later e = later next (line_places net sheet number (entry_of net line) h next s) e
    go (Err cause) s later e = absurd (fault_ok cause last e)

-- ---- what was given isn't negative
over_sign : (n d : ℕ) → (k : ℕ) × ((pos n over d).num ≡ pos k)
unfolding ◌over◌
over_sign n zero = (0, refl)
over_sign n (suc d) = (n / gcd n (suc d), refl)

times_sign : (n : ℕ) (fraction : Option Written) → (k : ℕ) × ((times n fraction).num ≡ pos k)
times_sign n None = over_sign 0 1
times_sign n (Some fraction) = over_sign (n * fraction.num) fraction.den

numerator : (limit d : ℕ) (x : Fraction) → (k : ℕ) × (x.num ≡ pos k) → nat_abs (x.num *ℤ pos (d / x.den)) < limit
    → IsNumber limit (x.num *ℤ pos (d / x.den))
numerator limit d x w l =
    let same : x.num *ℤ pos (d / x.den) ≡ pos (w.0 * (d / x.den)) = ap (λ z. z *ℤ pos (d / x.den)) w.1 in
    (w.0 * (d / x.den), same, subst (λ z. nat_abs z < limit) same l)

numerators_small : (limit d n : ℕ) (given : List (Option Written)) → first_reaching limit (numerators d (map (times n) given)) ≡ None
    → All (IsNumber limit) (numerators d (map (times n) given))
numerators_small limit d n [] e = All-nil (IsNumber limit)
numerators_small limit d n (fraction ∷ more) e =
    let w = reach_first limit ((times n fraction).num *ℤ pos (d / (times n fraction).den)) (numerators d (map (times n) more)) e in
    All-cons (IsNumber limit) ((times n fraction).num *ℤ pos (d / (times n fraction).den)) (numerators d (map (times n) more))
    (numerator limit d (times n fraction) (times_sign n fraction) w.0)
    (numerators_small limit d n more w.1)

length-numerators : (d n : ℕ) (given : List (Option Written)) → length (numerators d (map (times n) given)) ≡ length given
length-numerators d n given = length-map (map (times n) given) (λ x. x.num *ℤ pos (d / x.den)) ∙ length-map given (times n)

-- ---- the certificate of a sheet
whole_out : (value : Option Written) (product leg : Option ℕ) (made : Result Certificate CertRefusal) (c : Certificate)
    → whole_or_refusal value product leg made ≡ Ok c → made ≡ Ok c
whole_out None product leg made c e = absurd (fault_ok no_value c e)
whole_out (Some value) (Some j) leg made c e = absurd (fault_ok (no_product j) c e)
whole_out (Some value) None (Some i) made c e = absurd (fault_ok (no_leg i) c e)
whole_out (Some value) None None made c e = e

small_out : (shares prices : Option ℤ) (made c : Certificate) → small_or_refusal shares prices made ≡ Ok c
    → (shares ≡ None) × (prices ≡ None) × (made ≡ c)
small_out None None made c e = (refl, refl, same_ok made c e)
small_out None (Some number) made c e = absurd (fault_ok too_fine c e)
small_out (Some number) found made c e = absurd (fault_ok too_fine c e)

module _ (net : NetworkValue) (sheet : Sheet) (h : IsSheetOf net sheet) where
  shaped_over : large_number size_limit (allocation_in net sheet) ≡ None
      → large_number size_limit (value_in net sheet ∷ prices_in sheet) ≡ None
      → HasShape size_limit (length net.products) (length net.legs) (certificate_over (allocation_in net sheet) (value_in net sheet) (prices_in sheet))
  shaped_over few_shares few_prices =
      let shares : List Fraction = allocation_in net sheet in
      let value : Fraction = value_in net sheet in
      let prices : List Fraction = prices_in sheet in
      let q : ℕ = common shares in
      let den : ℕ = common (value ∷ prices) in
      let a = reach_first size_limit (pos q) (numerators q shares) few_shares in
      let b = reach_first size_limit (pos den) (numerators den (value ∷ prices)) few_prices in
      let v = reach_first size_limit (value.num *ℤ pos (den / value.den)) (numerators den prices) b.1 in
      record {
        allocation = length-numerators q net.histories sheet.products ∙ h.products;
        prices = length-numerators den 1 sheet.legs ∙ h.legs;
        q_size = (q, refl, a.0);
        x_sizes = numerators_small size_limit q net.histories sheet.products a.1;
        den_size = (den, refl, b.0);
        p_sizes = numerators_small size_limit den 1 sheet.legs v.1;
        value_size = numerator size_limit den value (times_sign net.histories sheet.value) v.0;
        some_q = common_pos shares;
        some_den = common_pos (value ∷ prices);
      }

  sheet_shaped : (c : Certificate) → certificate_on net sheet ≡ Ok c → HasShape size_limit (length net.products) (length net.legs) c
  sheet_shaped c e =
      let made = whole_out sheet.value (first_missing 0 sheet.products) (first_missing 0 sheet.legs) (certificate_or_refusal (allocation_in net sheet) (value_in net sheet) (prices_in sheet)) c e in
      let w = small_out (large_number size_limit (allocation_in net sheet)) (large_number size_limit (value_in net sheet ∷ prices_in sheet)) (certificate_over (allocation_in net sheet) (value_in net sheet) (prices_in sheet)) c made in
      subst (HasShape size_limit (length net.products) (length net.legs)) w.2 (shaped_over w.0 w.1)

pub read_shaped : (net : NetworkValue) (bytes : List ℕ) (c : Certificate) → certificate_of net bytes ≡ Ok c
    → HasShape size_limit (length net.products) (length net.legs) c
read_shaped net bytes c e = go (nat_lt 65536 (length bytes)) e
  where
    on : (r : Result Sheet CertRefusal) → after_lines net (blank net) 1 (lines_of bytes) ≡ r → or_refusal r (certificate_on net) ≡ Ok c → HasShape size_limit (length net.products) (length net.legs) c
    on (Ok sheet) s e = sheet_shaped net sheet (lines_places net (blank net) 1 (lines_of bytes) (blank_places net) sheet s) c e
    on (Err cause) s e = absurd (fault_ok cause c e)

    go : (long : Bool) → (if long then Err too_long else or_refusal (after_lines net (blank net) 1 (lines_of bytes)) (certificate_on net)) ≡ Ok c → HasShape size_limit (length net.products) (length net.legs) c
    go true e = absurd (fault_ok too_long c e)
    go false e = on (after_lines net (blank net) 1 (lines_of bytes)) refl e
