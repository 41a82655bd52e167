-- What is written of certificates, of legs and of made runs, worked by hand.
use Rattle.std.specs.Prelude.{◌≡◌, pos, [], ◌∷◌, map, codes, refl, Some, None}
use Rattle.std.specs.Fmt.{digits}
use Rattle.nrm_fraction.specs.Fraction as fraction
use Rattle.nrm_fraction.specs.Fraction.{whole}
use Rattle.nrm_text.specs.Words.{text_line}
use Rattle.nrm_model.specs.Network.{NetworkValue}
use Rattle.nrm_dual.specs.Refusals.{too_long, bad_line, large_line, no_value, no_product, no_leg, too_fine}
use Rattle.nrm_dual.specs.declared.verdict.Verdict.TheVariants as verdict
use Rattle.nrm_findings.specs.Certificates.{lacking_line, no_certificate, refused_for, verdict_line}
use Rattle.nrm_findings.specs.LegThresholds.{cuts_text}
use Rattle.nrm_findings.specs.LegValues.{class_count, no_classes_line, values_text}
use Rattle.nrm_findings.specs.Summary.{hindsight_word, summary_words}

abbrev pub two_legs : NetworkValue
two_legs = record {
  histories = 1;
  periods = 1;
  legs = record { name = codes "AB"; seats = 3; authorised = 3; cuts = [] } ∷ record { name = codes "BC"; seats = 2; authorised = 2; cuts = [] } ∷ [];
  products = record { name = codes "THRU"; fare = 500; refund = 100; legs = 0 ∷ 1 ∷ [] } ∷ record { name = codes "LOC"; fare = 200; refund = 100; legs = 0 ∷ [] } ∷ [];
  demand = 0 ∷ 0 ∷ [];
}

-- each verdict by its line
verdicts : map (verdict_line two_legs) (verdict.Optimal ∷ verdict.WrongShape ∷ verdict.WrongProduct 1 ∷ verdict.WrongLeg 1 ∷ verdict.WrongValue ∷ [])
    ≡ codes "optimal\n" ∷ codes "wrong shape\n" ∷ codes "wrong product LOC\n" ∷ codes "wrong leg BC\n" ∷ codes "wrong value\n" ∷ []
verdicts = refl

-- each refusal of a certificate by its line
lackings : map (lacking_line two_legs) (no_certificate ∷ refused_for too_long ∷ refused_for (bad_line 9) ∷ refused_for (large_line 1) ∷ refused_for no_value ∷ refused_for (no_product 0) ∷ refused_for (no_leg 1) ∷ refused_for too_fine ∷ [])
    ≡ codes "refused certificate no file\n" ∷ codes "refused certificate long\n" ∷ codes "refused certificate line 9\n" ∷ codes "refused certificate line 1 large\n"
    ∷ codes "refused certificate no value\n" ∷ codes "refused certificate no product THRU\n" ∷ codes "refused certificate no leg BC\n" ∷ codes "refused certificate too fine\n" ∷ []
unfolding digits
lackings = refl

-- ---- what is told of a leg
lines_of_cuts : cuts_text (codes "AB") (record { cost = 1200; cuts = 400 ∷ []; centres = 500 ∷ 150 ∷ [] })
    ≡ codes "cuts AB 400\ncentres AB 500 150\ncost AB 1200\n"
unfolding digits
lines_of_cuts = refl

lines_of_one_group : cuts_text (codes "AB") (record { cost = 8600; cuts = []; centres = 400 ∷ [] })
    ≡ codes "cuts AB\ncentres AB 400\ncost AB 8600\n"
unfolding digits
lines_of_one_group = refl

-- LOC is the one class of AB; nothing is to come of it
lines_of_values : values_text two_legs (codes "AB") 3 (1 ∷ []) (record { histories = 1; fares = 200 ∷ []; demands = 0 ∷ [] })
    ≡ codes "class LOC 200\nvalue AB 0/1\nprotect AB\n"
unfolding digits fraction.◌over◌
lines_of_values = refl

-- two classes of two histories, on three seats: 2200 over four combinations is 550, and two seats are protected for the dearer one
abbrev high_and_low : NetworkValue
high_and_low = record two_legs {
  histories = 2;
  products = record { name = codes "LO"; fare = 100; refund = 100; legs = 0 ∷ [] } ∷ record { name = codes "HI"; fare = 300; refund = 100; legs = 0 ∷ [] } ∷ [];
  demand = 2 ∷ 3 ∷ 1 ∷ 2 ∷ [];
}

lines_of_two_classes : values_text high_and_low (codes "AB") 3 (1 ∷ 0 ∷ []) (record { histories = 2; fares = 300 ∷ 100 ∷ []; demands = 1 ∷ 2 ∷ 2 ∷ 3 ∷ [] })
    ≡ codes "class HI 300\nclass LO 100\nvalue AB 550/1\nprotect AB 2\n"
unfolding digits fraction.◌over◌
lines_of_two_classes = refl

-- THRU uses both legs, so BC has no class, and nor has a leg that isn't there
counts_of_classes : map (class_count two_legs) (codes "AB" ∷ codes "BC" ∷ codes "CD" ∷ []) ≡ 1 ∷ 0 ∷ 0 ∷ []
counts_of_classes = refl

line_of_no_classes : no_classes_line 11 ≡ codes "classes 11\n"
unfolding digits
line_of_no_classes = refl

-- ---- what a made run is summed up by: each count has its own word
told_apart : text_line (summary_words (record { sold = 1; no_leg = 2; no_fare = 3; cancelled = 4; unknown = 5; legs = 6; optimised = 7; overflow = 8 }) 9 (codes "10/1"))
    ≡ codes "made lines 10000 ok 1 no 2 fare 3 cancelled 4 unknown 5 legs 6 optimised 7 overflow 8 revenue 9 hindsight 10/1\n"
unfolding digits
told_apart = refl

value_of_hindsight : hindsight_word (Some (whole (pos 1200))) ≡ codes "1200/1"
unfolding digits whole fraction.◌over◌
value_of_hindsight = refl

no_value_of_hindsight : hindsight_word None ≡ codes "overflow"
no_value_of_hindsight = refl
