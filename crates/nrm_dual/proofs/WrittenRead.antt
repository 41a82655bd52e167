-- The text of a certificate in lowest terms is read as that certificate.
use Rattle.std.proofs.Common.{◌≡◌, ℕ, zero, suc, ◌*◌, ◌<◌, ◌≤◌, ◌^◌, ℤ, pos, nat_abs, arith, refl, sym, ap, ◌∙◌, subst, List, [], ◌∷◌, ◌++◌}
use Rattle.std.proofs.Common.{map, length, get_or, codes, All, IsTrue, Some, Ok, Err}
use Rattle.std.specs.Prelude.{if◌then◌else◌}
use Rattle.std.specs.List.{join_with_byte, range_with_len}
use Rattle.std.proofs.Math.Nat.{mul-le-mul_left, mul-pos, mul-one}
use Rattle.std.proofs.lemmas.Bool.{le-ltb}
use Rattle.std.proofs.lemmas.List.Elements.{All-nil, All-cons, All-head, All-tail}
use Rattle.std.proofs.lemmas.Option.{unwrap_or-slice_get}
use Rattle.nrm_fraction.specs.Large.{size_limit}
use Rattle.nrm_fraction.specs.Fraction.{◌over◌}
use Rattle.nrm_text.specs.Names.{is_name}
use Rattle.nrm_text.specs.Fractions.{fraction_text}
use Rattle.nrm_text.specs.ReadBack.{HasNone, IsOneWord}
use Rattle.nrm_text.proofs.ReadBack.{texts-words}
use Rattle.nrm_text.proofs.Fractions.{over_small, short_fraction}
use Rattle.nrm_model.specs.declared.leg.Leg.{Leg}
use Rattle.nrm_model.specs.declared.product.Product.{Product}
use Rattle.nrm_model.specs.Network.{NetworkValue, leg_of, product_of, leg_named, product_named}
use Rattle.nrm_model.specs.Limits.{IsNetwork}
use Rattle.nrm_stream.specs.Lines.{lines_of}
use Rattle.nrm_lp.specs.declared.certificate.Certificate.{Certificate}
use Rattle.nrm_lp.specs.Means.{bid_price, mean_allocation, mean_value}
use Rattle.nrm_lp.specs.Shape.{HasShape, IsNumber}
use Rattle.nrm_dual.specs.Refusals.{too_long}
use Rattle.nrm_dual.specs.Reading.{Written, blank, after_lines, or_refusal, certificate_on, certificate_of}
use Rattle.nrm_dual.specs.Texts.{value_line, product_line, leg_line, certificate_text}
use Rattle.nrm_dual.specs.ReadBack.{IsLowest, WrittenIsRead}
use Rattle.nrm_lp.proofs.Sizes.{below_limit}
use Rattle.nrm_dual.proofs.SheetBack.{IsWritten, full_sheet, sheet_back}
use Rattle.nrm_dual.proofs.WrittenFractions.{GivesBack, fraction_back, joined_none, line_back, value_entry, product_entry, leg_entry}
use Rattle.nrm_dual.proofs.FilledSheet.{sheet_filled}
use Rattle.nrm_dual.proofs.WrittenLines.{text_cut, text_short, length-two_words, length-three_words, name_short, word_value, word_product}
use Rattle.nrm_dual.proofs.WrittenLines.{word_leg, found_by_name}

-- a number of the list, or 0 past its end
number_at : (ns : List ℤ) → All (IsNumber size_limit) ns → (j : ℕ) → IsNumber size_limit (get_or ns j (pos 0))
number_at [] h j = (0, refl, omega arith)
number_at (n ∷ ns) h zero = All-head (IsNumber size_limit) n ns h
number_at (n ∷ ns) h (suc j) = number_at ns (All-tail (IsNumber size_limit) n ns h) j

-- a denominator, times the histories
record IsDenominator (d : ℕ) : Type 0 where
  some : 0 < d
  small : d < 2 ^ 63

over_histories : (d h : ℕ) → 0 < d → d < 2 ^ 48 → 1 ≤ h → h ≤ 32 → IsDenominator (d * h)
over_histories d h some few least most =
    let up : d * h ≤ d * 32 = mul-le-mul_left d most in
    record { some = mul-pos some (omega arith); small = omega (arith, up) }

-- ---- the text of a number over a denominator
module _ (n : ℤ) (d : ℕ) (number : IsNumber size_limit n) (den : IsDenominator d) where
  text_word : IsOneWord (fraction_text (n over d))
  text_word =
      let size : nat_abs n < 2 ^ 48 = below_limit n number in
      let small : d < 2 ^ 63 = den.small in
      let less : (nat_abs (n over d).num ≤ nat_abs n) × ((n over d).den ≤ d) = over_small n d den.some in
      texts-words.2 (n over d) (omega (arith, less.0)) (omega (arith, less.1))

  text_length : length (fraction_text (n over d)) ≤ 78
  text_length =
      let size : nat_abs n < 2 ^ 48 = below_limit n number in
      let small : d < 2 ^ 63 = den.small in
      short_fraction n d (omega arith) (omega arith)

-- ---- words in a line
two_words : (a b : List ℕ) → IsOneWord a → IsOneWord b → All IsOneWord (a ∷ b ∷ [])
two_words a b p q = All-cons IsOneWord a (b ∷ []) p (All-cons IsOneWord b [] q (All-nil IsOneWord))

three_words : (a b c : List ℕ) → IsOneWord a → IsOneWord b → IsOneWord c → All IsOneWord (a ∷ b ∷ c ∷ [])
three_words a b c p q r = All-cons IsOneWord a (b ∷ c ∷ []) p (two_words b c q r)

no_feed : (words : List (List ℕ)) → All IsOneWord words → HasNone 10 (join_with_byte 32 words)
no_feed words h = joined_none 10 words (λ e. cc) (λ k d short. (h k d short).feeds)

-- ---- legs and products by their numbers
no_leg : Leg
no_leg = record { name = []; seats = 0; authorised = 0; cuts = [] }

no_product : Product
no_product = record { name = []; fare = 0; refund = 0; legs = [] }

module _ (net : NetworkValue) (is : IsNetwork net) where
  leg_at : (i : ℕ) → leg_of net i ≡ get_or net.legs i no_leg
  unfolding no_leg
  leg_at i = unwrap_or-slice_get net.legs i no_leg

  product_at : (j : ℕ) → product_of net j ≡ get_or net.products j no_product
  unfolding no_product
  product_at j = unwrap_or-slice_get net.products j no_product

  leg_name : (i : ℕ) → i < length net.legs → IsTrue (is_name (leg_of net i).name)
  leg_name i l = subst (λ (leg : Leg). IsTrue (is_name leg.name)) (sym (leg_at i)) (is.legs i no_leg l).name

  product_name : (j : ℕ) → j < length net.products → IsTrue (is_name (product_of net j).name)
  product_name j l = subst (λ (product : Product). IsTrue (is_name product.name)) (sym (product_at j)) (is.products j no_product l).name

  leg_found : (i : ℕ) → i < length net.legs → leg_named net (leg_of net i).name ≡ Some i
  leg_found i l =
      ap (λ (leg : Leg). leg_named net leg.name) (leg_at i)
      ∙ found_by_name (λ (leg : Leg). leg.name) net.legs no_leg i 0 l is.leg_names
      ∙ ap Some (omega arith)

  product_found : (j : ℕ) → j < length net.products → product_named net (product_of net j).name ≡ Some j
  product_found j l =
      ap (λ (product : Product). product_named net product.name) (product_at j)
      ∙ found_by_name (λ (product : Product). product.name) net.products no_product j 0 l is.product_names
      ∙ ap Some (omega arith)

module _ (net : NetworkValue) (is : IsNetwork net) (c : Certificate) (shaped : HasShape size_limit (length net.products) (length net.legs) c) where
  value_den : IsDenominator (nat_abs c.den * net.histories)
  value_den = over_histories (nat_abs c.den) net.histories shaped.some_den (below_limit c.den shaped.den_size) is.histories.0 is.histories.1

  share_den : IsDenominator (nat_abs c.q * net.histories)
  share_den = over_histories (nat_abs c.q) net.histories shaped.some_q (below_limit c.q shaped.q_size) is.histories.0 is.histories.1

  price_den : IsDenominator (nat_abs c.den)
  price_den =
      let few : nat_abs c.den < 2 ^ 48 = below_limit c.den shaped.den_size in
      record { some = shaped.some_den; small = omega (arith, few) }

  abbrev value_text : List ℕ
  value_text = fraction_text (mean_value net.histories c)

  abbrev share_text : ℕ → List ℕ
  share_text j = fraction_text (mean_allocation net.histories c j)

  abbrev price_text : ℕ → List ℕ
  price_text i = fraction_text (bid_price c i)

  value_words : All IsOneWord (codes "value" ∷ value_text ∷ [])
  value_words = two_words (codes "value") value_text word_value (text_word c.value (nat_abs c.den * net.histories) shaped.value_size value_den)

  product_words : (j : ℕ) → j < length net.products → All IsOneWord (codes "product" ∷ (product_of net j).name ∷ share_text j ∷ [])
  product_words j l =
      three_words (codes "product") (product_of net j).name (share_text j) word_product (texts-words.1 (product_of net j).name (product_name net is j l))
      (text_word (get_or c.x j (pos 0)) (nat_abs c.q * net.histories) (number_at c.x shaped.x_sizes j) share_den)

  leg_words : (i : ℕ) → i < length net.legs → All IsOneWord (codes "leg" ∷ (leg_of net i).name ∷ price_text i ∷ [])
  leg_words i l =
      three_words (codes "leg") (leg_of net i).name (price_text i) word_leg (texts-words.1 (leg_of net i).name (leg_name net is i l))
      (text_word (get_or c.p i (pos 0)) (nat_abs c.den) (number_at c.p shaped.p_sizes i) price_den)

  abbrev value_row : List ℕ
  value_row = join_with_byte 32 (codes "value" ∷ value_text ∷ [])

  abbrev product_row : ℕ → List ℕ
  product_row j = join_with_byte 32 (codes "product" ∷ (product_of net j).name ∷ share_text j ∷ [])

  abbrev leg_row : ℕ → List ℕ
  leg_row i = join_with_byte 32 (codes "leg" ∷ (leg_of net i).name ∷ price_text i ∷ [])

  lines_are : lines_of (certificate_text net c) ≡ value_row ∷ (map product_row (range_with_len 0 (length net.products)) ++ (map leg_row (range_with_len 0 (length net.legs)) ++ []))
  lines_are =
      text_cut value_row product_row leg_row (length net.products) (length net.legs)
      (no_feed (codes "value" ∷ value_text ∷ []) value_words)
      (λ j l. no_feed (codes "product" ∷ (product_of net j).name ∷ share_text j ∷ []) (product_words j l))
      (λ i l. no_feed (codes "leg" ∷ (leg_of net i).name ∷ price_text i ∷ []) (leg_words i l))

  is_short : length (certificate_text net c) ≤ 65536
  is_short =
      text_short (value_line net c) (product_line net c) (leg_line net c) (length net.products) (length net.legs) value_short is.product_count.1 is.leg_count.1 product_short leg_short
    where
      value_short : length (value_line net c) ≤ 100
      value_short =
          let text : length value_text ≤ 78 = text_length c.value (nat_abs c.den * net.histories) shaped.value_size value_den in
          omega (arith, length-two_words (codes "value") value_text, text)

      product_short : (j : ℕ) → j < length net.products → length (product_line net c j) ≤ 100
      product_short j l =
          let text : length (share_text j) ≤ 78 = text_length (get_or c.x j (pos 0)) (nat_abs c.q * net.histories) (number_at c.x shaped.x_sizes j) share_den in
          let name : length (product_of net j).name ≤ 12 = name_short (product_of net j).name (product_name net is j l) in
          omega (arith, length-three_words (codes "product") (product_of net j).name (share_text j), text, name)

      leg_short : (i : ℕ) → i < length net.legs → length (leg_line net c i) ≤ 100
      leg_short i l =
          let text : length (price_text i) ≤ 78 = text_length (get_or c.p i (pos 0)) (nat_abs c.den) (number_at c.p shaped.p_sizes i) price_den in
          let name : length (leg_of net i).name ≤ 12 = name_short (leg_of net i).name (leg_name net is i l) in
          omega (arith, length-three_words (codes "leg") (leg_of net i).name (price_text i), text, name)

  value_back : (w : Written) × GivesBack c.value (nat_abs c.den * net.histories) w
  value_back = fraction_back c.value (nat_abs c.den * net.histories) shaped.value_size value_den.some value_den.small

  share_back : (j : ℕ) → (w : Written) × GivesBack (get_or c.x j (pos 0)) (nat_abs c.q * net.histories) w
  share_back j = fraction_back (get_or c.x j (pos 0)) (nat_abs c.q * net.histories) (number_at c.x shaped.x_sizes j) share_den.some share_den.small

  price_back : (i : ℕ) → (w : Written) × GivesBack (get_or c.p i (pos 0)) (nat_abs c.den) w
  price_back i = fraction_back (get_or c.p i (pos 0)) (nat_abs c.den) (number_at c.p shaped.p_sizes i) price_den.some price_den.small

  filled : after_lines net (blank net) 1 (lines_of (certificate_text net c)) ≡ Ok (full_sheet net value_back.0 (λ j. (share_back j).0) (λ i. (price_back i).0))
  filled =
      ap (after_lines net (blank net) 1) lines_are
      ∙ sheet_filled net value_back.0 (λ j. (share_back j).0) (λ i. (price_back i).0) value_row product_row leg_row
      (line_back net (codes "value") (value_text ∷ []) value_words ∙ value_entry net value_back.0 value_text value_back.1.read)
      (λ j l.
      line_back net (codes "product") ((product_of net j).name ∷ share_text j ∷ []) (product_words j l)
      ∙ product_entry net (share_back j).0 (share_text j) (share_back j).1.read (product_of net j).name j (product_found net is j l))
      (λ i l.
      line_back net (codes "leg") ((leg_of net i).name ∷ price_text i ∷ []) (leg_words i l)
      ∙ leg_entry net (price_back i).0 (price_text i) (price_back i).1.read (leg_of net i).name i (leg_found net is i l))
      value_back.1.fits (λ j. (share_back j).1.fits) (λ i. (price_back i).1.fits)

  read_again : IsLowest c → certificate_of net (certificate_text net c) ≡ Ok c
  read_again lowest =
      ap (λ long. if long then Err too_long else or_refusal (after_lines net (blank net) 1 (lines_of (certificate_text net c))) (certificate_on net)) (le-ltb 65536 (length (certificate_text net c)) is_short)
      ∙ ap (λ r. or_refusal r (certificate_on net)) filled
      ∙ sheet_back net c shaped lowest value_back.0 (λ j. (share_back j).0) (λ i. (price_back i).0) value_back.1.is (λ j. (share_back j).1.is)
      (λ i. subst (λ d. IsWritten (get_or c.p i (pos 0)) d (price_back i).0) (sym (mul-one (nat_abs c.den))) (price_back i).1.is)

pub written_read : WrittenIsRead
written_read net is c shaped lowest = read_again net is c shaped lowest
