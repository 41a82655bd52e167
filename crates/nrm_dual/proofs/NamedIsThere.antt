-- A product or a leg that is named is one of the program's, or of the network's.
use Rattle.std.proofs.Common.{◌≡◌, ℕ, zero, suc, ◌+◌, ◌<◌, ℤ, arith, refl, ap, ◌∙◌, subst, List, [], ◌∷◌, length, Bool, true, false, cond}
use Rattle.std.proofs.Common.{eqb, nat_lt, Option, Some, None, Result, Ok, Err}
use Rattle.std.specs.Prelude.{IfErr, ⊤, if◌then◌else◌}
use Rattle.std.proofs.lemmas.Option.{none-some, same_Some}
use Rattle.nrm_model.specs.Network.{NetworkValue}
use Rattle.nrm_stream.specs.Lines.{lines_of}
use Rattle.nrm_fraction.specs.Large.{large_number, size_limit}
use Rattle.nrm_lp.specs.declared.certificate.Certificate.{Certificate}
use Rattle.nrm_lp.specs.Program.{ProgramValue, cost}
use Rattle.nrm_dual.specs.Conditions.{first_wrong, is_above_demand, is_above_capacity, is_priced_with_seats_left}
use Rattle.nrm_dual.specs.Conditions.{is_rejected_above_bid_price, is_accepted_below_bid_price, least, or_leg, or_product}
use Rattle.nrm_dual.specs.Named.{IsOfNetwork, IsOfProgram}
use Rattle.nrm_dual.specs.Reading.{Entry, Sheet, Written, after_entry, after_line, after_lines, allocation_in, blank, certificate_of}
use Rattle.nrm_dual.specs.Reading.{certificate_on, certificate_over, entry_of, first_missing, given, is_over, or_refusal, prices_in}
use Rattle.nrm_dual.specs.Reading.{small_or_refusal, value_in, whole_or_refusal, with_given}
use Rattle.nrm_dual.specs.Refusals.{AnswersCertificate, CertRefusal, too_long, bad_line, large_line, no_value, no_product, no_leg, too_fine}
use Rattle.nrm_dual.specs.declared.fault.CertFault.{CertFault}
use Rattle.nrm_dual.specs.declared.fault.CertFault.TheVariants as fault
use Rattle.nrm_dual.specs.declared.verdict.Verdict.{Verdict}
use Rattle.nrm_dual.specs.declared.verdict.Verdict.TheVariants as verdict
use Rattle.nrm_dual.specs.Inner.Sheets.{IsSheetOf}
use Rattle.nrm_dual.proofs.ReadShape.{blank_places, line_places}

err_same : {A : Type 0} (x y : CertRefusal) → ◌≡◌ {A = Result A CertRefusal} (Err x) (Err y) → x ≡ y
err_same x y e = cc

ok_err : {A : Type 0} (x : A) (y : CertRefusal) → Ok x ≡ Err y → ⊥
ok_err x y e = cc

-- ---- verdicts
least_within : (test : ℕ → Bool) (k n i : ℕ) → least test k n ≡ Some i → i < k + n
least_within test k zero i e = absurd (none-some i e)
least_within test k (suc n) i e = go (test k) (least_within test (suc k) n i) e
  where
    go : (b : Bool) → (least test (suc k) n ≡ Some i → i < suc k + n) → cond b (Some k) (least test (suc k) n) ≡ Some i → i < k + suc n
    go true later e = omega (arith, same_Some k i e)
    go false later e = omega (arith, later e)

product_named : (a : ProgramValue) (test : ℕ → Bool) (later : Verdict) → IsOfProgram a later
    → IsOfProgram a (or_product (least test 0 (length a.bounds)) later)
product_named a test later h = go (least test 0 (length a.bounds)) (λ j e. omega (arith, least_within test 0 (length a.bounds) j e))
  where
    go : (o : Option ℕ) → ((j : ℕ) → o ≡ Some j → j < length a.bounds) → IsOfProgram a (or_product o later)
    go None within = h
    go (Some j) within = within j refl

leg_named : (a : ProgramValue) (test : ℕ → Bool) (later : Verdict) → IsOfProgram a later
    → IsOfProgram a (or_leg (least test 0 (length a.caps)) later)
leg_named a test later h = go (least test 0 (length a.caps)) (λ i e. omega (arith, least_within test 0 (length a.caps) i e))
  where
    go : (o : Option ℕ) → ((i : ℕ) → o ≡ Some i → i < length a.caps) → IsOfProgram a (or_leg o later)
    go None within = h
    go (Some i) within = within i refl

pub first_named : (a : ProgramValue) (q : ℕ) (x : List ℕ) (d : ℕ) (p : List ℕ) (value : ℕ) → IsOfProgram a (first_wrong a q x d p value)
first_named a q x d p value =
    product_named a (is_above_demand a q x) _ (leg_named a (is_above_capacity a q x) _ (leg_named a (is_priced_with_seats_left a q x p) _
    (product_named a (is_rejected_above_bid_price a q x d p) _ (product_named a (is_accepted_below_bid_price a x d p) _ (last (eqb value (cost a d p)))))))
  where
    last : (b : Bool) → IsOfProgram a (cond b verdict.Optimal verdict.WrongValue)
    last true = tt
    last false = tt

-- ---- refusals
-- a product or a leg that a file is refused for
abbrev IsNamed : NetworkValue → CertRefusal → Type 0
IsNamed net too_long = ⊤
IsNamed net (bad_line number) = ⊤
IsNamed net (large_line number) = ⊤
IsNamed net no_value = ⊤
IsNamed net (no_product j) = j < length net.products
IsNamed net (no_leg i) = i < length net.legs
IsNamed net too_fine = ⊤

missing_within : (k : ℕ) (list : List (Option Written)) (i : ℕ) → first_missing k list ≡ Some i → i < k + length list
missing_within k [] i e = absurd (none-some i e)
missing_within k (None ∷ more) i e = omega (arith, same_Some k i e)
missing_within k (Some fraction ∷ more) i e = omega (arith, missing_within (suc k) more i e)

line_named : (net : NetworkValue) (sheet : Sheet) (number : ℕ) (entry : Option Entry) (f : CertRefusal)
    → after_line sheet number entry ≡ Err f → IsNamed net f
line_named net sheet number None f e = subst (IsNamed net) (err_same {A = Sheet} (bad_line number) f e) tt
line_named net sheet number (Some entry) f e = go (given sheet entry.place) e
  where
    by : (large : Bool) → (if large then Err (large_line number) else Ok (with_given sheet entry.place entry.fraction)) ≡ Err f → IsNamed net f
    by true e = subst (IsNamed net) (err_same {A = Sheet} (large_line number) f e) tt
    by false e = absurd (ok_err (with_given sheet entry.place entry.fraction) f e)

    go : (before : Option Written) → after_entry sheet number entry before ≡ Err f → IsNamed net f
    go (Some before) e = subst (IsNamed net) (err_same {A = Sheet} (bad_line number) f e) tt
    go None e = by (is_over entry.fraction) e

sheet_named : (net : NetworkValue) (sheet : Sheet) → IsSheetOf net sheet → (f : CertRefusal) → certificate_on net sheet ≡ Err f
    → IsNamed net f
sheet_named net sheet h f e =
    on sheet.value (first_missing 0 sheet.products) (first_missing 0 sheet.legs)
    (λ j e. omega (arith, missing_within 0 sheet.products j e, h.products)) (λ i e. omega (arith, missing_within 0 sheet.legs i e, h.legs)) e
  where
    made : Certificate
    made = certificate_over (allocation_in net sheet) (value_in net sheet) (prices_in sheet)

    small : (shares prices : Option ℤ) → small_or_refusal shares prices made ≡ Err f → IsNamed net f
    small None None e = absurd (ok_err made f e)
    small None (Some number) e = subst (IsNamed net) (err_same {A = Certificate} too_fine f e) tt
    small (Some number) found e = subst (IsNamed net) (err_same {A = Certificate} too_fine f e) tt

    on : (value : Option Written) (product leg : Option ℕ) → ((j : ℕ) → product ≡ Some j → j < length net.products) → ((i : ℕ) → leg ≡ Some i → i < length net.legs)
        → whole_or_refusal value product leg (small_or_refusal (large_number size_limit (allocation_in net sheet)) (large_number size_limit (value_in net sheet ∷ prices_in sheet)) made) ≡ Err f → IsNamed net f
    on None product leg j_within i_within e = subst (IsNamed net) (err_same {A = Certificate} no_value f e) tt
    on (Some value) (Some j) leg j_within i_within e = subst (IsNamed net) (err_same {A = Certificate} (no_product j) f e) (j_within j refl)
    on (Some value) None (Some i) j_within i_within e = subst (IsNamed net) (err_same {A = Certificate} (no_leg i) f e) (i_within i refl)
    on (Some value) None None j_within i_within e = small (large_number size_limit (allocation_in net sheet)) (large_number size_limit (value_in net sheet ∷ prices_in sheet)) e

lines_named : (net : NetworkValue) (sheet : Sheet) (number : ℕ) (lines : List (List ℕ)) → IsSheetOf net sheet → (f : CertRefusal)
    → or_refusal (after_lines net sheet number lines) (certificate_on net) ≡ Err f → IsNamed net f
lines_named net sheet number [] h f e = sheet_named net sheet h f e
lines_named net sheet number (line ∷ more) h f e = go (after_line sheet number (entry_of net line)) refl (λ next places rest. lines_named net next (suc number) more places f rest) e
  where
    go : (r : Result Sheet CertRefusal) → after_line sheet number (entry_of net line) ≡ r → ((next : Sheet) → IsSheetOf net next → or_refusal (after_lines net next (suc number) more) (certificate_on net) ≡ Err f → IsNamed net f)
        → or_refusal (or_refusal r (λ next. after_lines net next (suc number) more)) (certificate_on net) ≡ Err f → IsNamed net f
    go (Ok next) s later e = later next (line_places net sheet number (entry_of net line) h next s) e
    go (Err cause) s later e = line_named net sheet number (entry_of net line) f (s ∙ ap Err (err_same {A = Certificate} cause f e))

file_named : (net : NetworkValue) (bytes : List ℕ) (f : CertRefusal) → certificate_of net bytes ≡ Err f → IsNamed net f
file_named net bytes f e = go (nat_lt 65536 (length bytes)) e
  where
    go : (long : Bool) → (if long then Err too_long else or_refusal (after_lines net (blank net) 1 (lines_of bytes)) (certificate_on net)) ≡ Err f → IsNamed net f
    go true e = subst (IsNamed net) (err_same {A = Certificate} too_long f e) tt
    go false e = lines_named net (blank net) 1 (lines_of bytes) (blank_places net) f e

pub answer_named : (net : NetworkValue) (bytes : List ℕ) (result : Result Certificate CertFault)
    → AnswersCertificate result (certificate_of net bytes) → IfErr result (IsOfNetwork net)
answer_named net bytes (Ok certificate) read = tt
answer_named net bytes (Err fault.NoMemory) read = tt
answer_named net bytes (Err fault.Long) read = tt
answer_named net bytes (Err (fault.Line number)) read = tt
answer_named net bytes (Err (fault.Large number)) read = tt
answer_named net bytes (Err fault.NoValue) read = tt
answer_named net bytes (Err (fault.NoProduct j)) read = file_named net bytes (no_product j) read
answer_named net bytes (Err (fault.NoLeg i)) read = file_named net bytes (no_leg i) read
answer_named net bytes (Err fault.TooFine) read = tt
