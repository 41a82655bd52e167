-- A number of the certificate is Large exactly where one is found on the way to it.
use Rattle.std.proofs.Common.{◌≡◌, ℕ, ◌<◌, ◌^◌, ℤ, pos, arith, refl, sym, ap, ◌∙◌, subst, List, [], ◌∷◌, drop, get_or, Option, Some, None}
use Rattle.std.proofs.Common.{Result, Ok, Err, to_z, of_z, w64}
use Prim.Native.Nat.{◌∣◌}
use Rattle.std.proofs.lemmas.Bool.{lt-leb}
use Rattle.std.proofs.lemmas.Nat.Gcd.{dvd_trans, dvd_refl, le_of_dvd}
use native.Mathlib.Nat.{one-dvd}
use Rattle.nrm_number.specs.Gcd.{lcm}
use Rattle.nrm_number.proofs.GcdLaws.{dvd-lcm_left, dvd-lcm_right, lcm-dvd, lcm_pos}
use Rattle.nrm_fraction.specs.Fraction.{Fraction}
use Rattle.nrm_fraction.specs.Large.{common, running, numerators, first_reaching, large_number, first_too_large, size_limit}
use Rattle.nrm_fraction.proofs.Values.{den_pos}
use Rattle.nrm_fraction.proofs.Lowest.{common_pos}
use Rattle.nrm_fraction.specs.Fault.{IsFault}
use Rattle.nrm_fraction.specs.declared.fault.RowFault.{RowFault}
use Rattle.nrm_fraction.specs.declared.fault.RowFault.TheVariants.{Large, NoMemory}
use Rattle.nrm_fraction.proofs.Numerators.{found_behind}
use Rattle.nrm_lp.proofs.Small.{reach_first, reach_parts, common_below}
use Rattle.nrm_lp.specs.declared.certificate.Certificate.{Certificate}
use Rattle.nrm_dual.specs.Reading.{certificate_or_refusal, certificate_over, small_or_refusal}
use Rattle.nrm_dual.specs.Refusals.{cause_of, AnswersCertificate, CertRefusal, too_fine}
use Rattle.nrm_dual.specs.declared.fault.CertFault.{CertFault}
use Rattle.std.specs.Result.{IsErrAnd}
use Rattle.std.proofs.lemmas.Option.{none-some}
use Rattle.nrm_fraction.proofs.Reaching.{reaching_no}
use Rattle.nrm_fraction.proofs.Sizes.{small_same}

-- each running denominator divides what all denominators divide
running_small : (m d : ℕ) (xs : List Fraction) → 0 < m → m < 2 ^ 48 → 0 < d → d ∣ m → common xs ∣ m
    → first_reaching size_limit (running d xs) ≡ None
running_small m d [] some small h in_m all = refl
running_small m d (x ∷ xs) some small h in_m all =
    let here : x.den ∣ m = dvd_trans x.den (dvd-lcm_left x.den (common xs)) all in
    let rest : common xs ∣ m = dvd_trans (common xs) (dvd-lcm_right x.den (common xs)) all in
    let next : lcm x.den d ∣ m = lcm-dvd x.den d m h here in_m in
    let below : lcm x.den d < 2 ^ 48 = omega (arith, le_of_dvd some next) in
    reaching_no (pos (lcm x.den d)) (running (lcm x.den d) xs) (lt-leb size_limit (lcm x.den d) below)
    ∙ running_small m (lcm x.den d) xs some small (lcm_pos x.den d (den_pos x) h) next rest

-- none is found on the way where none is Large, and the other way round
none_on_the_way : (xs : List Fraction) → large_number size_limit xs ≡ None → first_too_large size_limit xs ≡ None
none_on_the_way xs e =
    let w : (common xs < 2 ^ 48) × (first_reaching size_limit (numerators (common xs) xs) ≡ None) = reach_first size_limit (pos (common xs)) (numerators (common xs) xs) e in
    found_behind (running 1 xs) (numerators (common xs) xs) (running_small (common xs) 1 xs (common_pos xs) w.0 (omega arith) (one-dvd (common xs)) (dvd_refl (common xs))) ∙ w.1

none_large : (xs : List Fraction) → first_too_large size_limit xs ≡ None → large_number size_limit xs ≡ None
none_large xs e =
    let w : (first_reaching size_limit (running 1 xs) ≡ None) × (first_reaching size_limit (numerators (common xs) xs) ≡ None) = reach_parts size_limit (running 1 xs) (numerators (common xs) xs) e in
    reaching_no (pos (common xs)) (numerators (common xs) xs) (lt-leb size_limit (common xs) (common_below size_limit xs (omega arith) w.0)) ∙ w.1

found_large : (xs : List Fraction) (n : ℤ) → first_too_large size_limit xs ≡ Some n → (m : ℤ) × (large_number size_limit xs ≡ Some m)
found_large xs n e = go (large_number size_limit xs) refl
  where
    go : (o : Option ℤ) → large_number size_limit xs ≡ o → (m : ℤ) × (large_number size_limit xs ≡ Some m)
    go (Some m) is = (m, is)
    go None is = absurd (none-some n (sym (none_on_the_way xs is) ∙ e))

-- an answer that fails by this fault answers as it does
pub err_answer : (result : Result Certificate CertFault) (cause : CertFault) (file : Result Certificate CertRefusal)
    → IsErrAnd result (λ e. e ≡ cause)
    → AnswersCertificate (Err cause) file → AnswersCertificate result file
err_answer (Err e) cause file is h = subst (λ e. AnswersCertificate (Err e) file) (sym is) h
err_answer (Ok certificate) cause file is h = absurd is

-- a least common denominator keeps its value in 64 bits
short_same : (xs : List Fraction) (d : ℤ) → d ≡ pos (common xs) → first_too_large size_limit xs ≡ None
    → to_z w64 (of_z w64 d) ≡ pos (common xs)
short_same xs d is none =
    let w : (first_reaching size_limit (running 1 xs) ≡ None) × (first_reaching size_limit (numerators (common xs) xs) ≡ None) = reach_parts size_limit (running 1 xs) (numerators (common xs) xs) none in
    ap (λ z. to_z w64 (of_z w64 z)) is ∙ small_same (pos (common xs)) (common_below size_limit xs (omega arith) w.0)

-- ---- what the two lists of fractions give
module _ (shares : List Fraction) (value : Fraction) (prices : List Fraction) where
  large_shares : (m : ℤ) → large_number size_limit shares ≡ Some m → certificate_or_refusal shares value prices ≡ Err too_fine
  large_shares m is = ap (λ o. small_or_refusal o (large_number size_limit (value ∷ prices)) (certificate_over shares value prices)) is

  large_money : (m : ℤ) → large_number size_limit shares ≡ None → large_number size_limit (value ∷ prices) ≡ Some m
      → certificate_or_refusal shares value prices ≡ Err too_fine
  large_money m none is =
      ap (λ o. small_or_refusal o (large_number size_limit (value ∷ prices)) (certificate_over shares value prices)) none
      ∙ ap (λ o. small_or_refusal None o (certificate_over shares value prices)) is

  pub fault_of_shares : (f : RowFault) → IsFault f (first_too_large size_limit shares)
      → AnswersCertificate (Err (cause_of f)) (certificate_or_refusal shares value prices)
  fault_of_shares (Large n) e = let w = found_large shares n e in large_shares w.0 w.1
  fault_of_shares NoMemory e = tt

  pub fault_of_money : (f : RowFault) → first_too_large size_limit shares ≡ None → IsFault f (first_too_large size_limit (value ∷ prices))
      → AnswersCertificate (Err (cause_of f)) (certificate_or_refusal shares value prices)
  fault_of_money (Large n) none e = let w = found_large (value ∷ prices) n e in large_money w.0 (none_large shares none) w.1
  fault_of_money NoMemory none e = tt

  pub made_of_both : first_too_large size_limit shares ≡ None → first_too_large size_limit (value ∷ prices) ≡ None
      → certificate_or_refusal shares value prices ≡ Ok (certificate_over shares value prices)
  made_of_both none none_of_money =
      ap (λ o. small_or_refusal o (large_number size_limit (value ∷ prices)) (certificate_over shares value prices)) (none_large shares none)
      ∙ ap (λ o. small_or_refusal None o (certificate_over shares value prices)) (none_large (value ∷ prices) none_of_money)

  -- the two numbers and the two lists that are made, as a certificate
  pub made_whole : (q : ℤ) (x : List ℤ) (den : ℤ) (money : List ℤ) (certificate : Certificate)
      → (q ≡ pos (common shares)) × (x ≡ numerators (common shares) shares) × (first_too_large size_limit shares ≡ None)
      → (den ≡ pos (common (value ∷ prices))) × (money ≡ numerators (common (value ∷ prices)) (value ∷ prices)) × (first_too_large size_limit (value ∷ prices) ≡ None)
      → certificate ≡ record { q = to_z w64 (of_z w64 q); x = x; den = to_z w64 (of_z w64 den); p = drop 1 money; value = get_or money 0 (pos 0) }
      → certificate_or_refusal shares value prices ≡ Ok certificate
  made_whole q x den money certificate h k is = made_of_both h.2 k.2 ∙ ap Ok (sym (is ∙ same))
    where
      q_is : to_z w64 (of_z w64 q) ≡ pos (common shares)
      q_is = short_same shares q h.0 h.2

      den_is : to_z w64 (of_z w64 den) ≡ pos (common (value ∷ prices))
      den_is = short_same (value ∷ prices) den k.0 k.2

      same : record { q = to_z w64 (of_z w64 q); x = x; den = to_z w64 (of_z w64 den); p = drop 1 money; value = get_or money 0 (pos 0) } ≡ certificate_over shares value prices
      same = λ i. record { q = q_is i; x = h.1 i; den = den_is i; p = drop 1 (k.1 i); value = get_or (k.1 i) 0 (pos 0) }
