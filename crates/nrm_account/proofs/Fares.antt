-- The fare of a request against the bid prices of its legs.
use Rattle.std.proofs.Common.{ℕ, ◌≡◌, ◌≢◌, ◌∙◌, ◌++◌, Bool, true, false, List, [], ◌∷◌, find, flat_map, map, nat_abs, slice_index, pos, Option, Some, None, codes, refl, ap, ap₂, if◌then◌else◌}
use Rattle.std.specs.Prelude.{option_map}
use Rattle.std.specs.Option.{option_map_or}
use Rattle.nrm_fraction.specs.Fraction.{◌over◌}
use Rattle.nrm_text.specs.Fractions.{fraction_text}
use Rattle.nrm_text.specs.Words.{spaced}
use Rattle.nrm_model.specs.Network.{NetworkValue, leg_of, product_of}
use Rattle.nrm_model.specs.declared.mode.Mode.TheVariants as mode
use Rattle.nrm_book.specs.declared.booking.Booking.{Booking}
use Rattle.nrm_lp.specs.declared.certificate.Certificate.{Certificate}
use Rattle.nrm_lp.specs.Certified.{sizes}
use Rattle.nrm_plan.specs.Plans.{PlanValue, fare_refuses}
use Rattle.nrm_control.specs.Verdict.{leg_refuses, verdict_of}
use Rattle.nrm_control.specs.declared.answer.Answer.{Answer}
use Rattle.nrm_control.specs.declared.answer.Answer.TheVariants as answer
use Rattle.nrm_account.specs.Account.{LegAccount, deciding_den, deciding_price, is_short, leg_account, request_account}
use Rattle.nrm_account.specs.Inner.Priced.{priced_line, priced_sum, priced_text}
use Rattle.nrm_account.specs.Lines.{ended}
use Rattle.nrm_account.specs.Texts.{fare_text, fare_text_of, price_line, sum_line}
use Rattle.nrm_account.proofs.Accounts.{prices-summed}

-- the first leg that is short is that of the first leg that refuses
found-short : (f : ℕ → LegAccount) (refuses : ℕ → Bool) → ((i : ℕ) → is_short (f i) ≡ refuses i) → (legs : List ℕ)
    → find is_short (map f legs) ≡ option_map f (find refuses legs)
found-short f refuses same [] = refl
found-short f refuses same (i ∷ legs) = by (refuses i) refl (found-short f refuses same legs)
  where
    by : (b : Bool) → refuses i ≡ b → find is_short (map f legs) ≡ option_map f (find refuses legs)
        → find is_short (map f (i ∷ legs)) ≡ option_map f (find refuses (i ∷ legs))
    by true e more = rw (same i ∙ e) (rw e refl)
    by false e more = rw (same i ∙ e) (rw e more)

-- the lines of the prices
lines-priced : (net : NetworkValue) (cert : Certificate) (f : ℕ → LegAccount) → ((i : ℕ) → (f i).name ≡ (leg_of net i).name)
    → ((i : ℕ) → (f i).price ≡ slice_index (sizes cert.p) i) → (legs : List ℕ)
    → flat_map (price_line (nat_abs cert.den)) (map f legs) ≡ flat_map (priced_line net cert) legs
lines-priced net cert f names prices [] = refl
lines-priced net cert f names prices (i ∷ legs) =
    let line : price_line (nat_abs cert.den) (f i) ≡ priced_line net cert i =
    ap₂ (λ (name : List ℕ) (price : ℕ). ended (codes "price" ++ spaced name ++ spaced (fraction_text (pos price over nat_abs cert.den)))) (names i) (prices i) in
    ap₂ (λ (a b : List ℕ). a ++ b) line (lines-priced net cert f names prices legs)

module _ (net : NetworkValue) (plan : PlanValue) (bookings : List Booking) (number j party : ℕ) (cert : Certificate)
    (is : plan.mode ≡ mode.Bid) (has : plan.certificate ≡ Some cert) where
  abbrev f : ℕ → LegAccount
  f = leg_account net plan bookings j party

  abbrev legs : List ℕ
  legs = (product_of net j).legs

  abbrev fare : ℕ
  fare = (product_of net j).fare

  abbrev refusing : Option ℕ
  refusing = find (leg_refuses net plan bookings j party) legs

  den-is : deciding_den plan.mode plan.certificate ≡ Some (nat_abs cert.den)
  den-is = ap₂ deciding_den is has

  price-is : (i : ℕ) → (f i).price ≡ slice_index (sizes cert.p) i
  price-is i = ap₂ (λ m c. deciding_price m c i) is has

  found : (o : Option ℕ) → refusing ≡ o → find is_short (map f legs) ≡ option_map f o
  found o e = found-short f (leg_refuses net plan bookings j party) (λ i. refl) legs ∙ ap (option_map f) e

  short-text : (o : Option ℕ) → refusing ≡ o
      → fare_text_of (request_account net plan bookings number j party)
      ≡ option_map_or (λ leg. []) (option_map f o) (flat_map (price_line (nat_abs cert.den)) (map f legs) ++ sum_line fare (map f legs) (nat_abs cert.den))
  short-text o e =
      ap (fare_text fare (map f legs)) den-is
      ∙ ap (λ (first : Option LegAccount). option_map_or (λ leg. []) first (flat_map (price_line (nat_abs cert.den)) (map f legs) ++ sum_line fare (map f legs) (nat_abs cert.den))) (found o e)

  -- a leg refuses: nothing is told of the fare
  pub fare-untold : (i : ℕ) → answer.Leg i ≡ verdict_of net plan bookings number j party → fare_text_of (request_account net plan bookings number j party) ≡ []
  fare-untold i told = by refusing refl told
    where
      by : (o : Option ℕ) → refusing ≡ o → answer.Leg i ≡ option_map_or answer.Leg o (if fare_refuses net plan j then answer.Fare else answer.Sold number)
          → fare_text_of (request_account net plan bookings number j party) ≡ []
      by (Some k) e same = short-text (Some k) e
      by None e same = absurd (no (fare_refuses net plan j) same)
        where
          no : (b : Bool) → answer.Leg i ≡ (if b then answer.Fare else answer.Sold number) → ⊥
          no true same = cc
          no false same = cc

  -- none does: the bid prices and their sum
  pub fare-told : (a : Answer) → a ≡ verdict_of net plan bookings number j party → ((i : ℕ) → a ≢ answer.Leg i)
      → fare_text_of (request_account net plan bookings number j party) ≡ priced_text net cert j
  fare-told a told unlegged = by refusing refl told
    where
      by : (o : Option ℕ) → refusing ≡ o → a ≡ option_map_or answer.Leg o (if fare_refuses net plan j then answer.Fare else answer.Sold number)
          → fare_text_of (request_account net plan bookings number j party) ≡ priced_text net cert j
      by (Some k) e same = absurd (unlegged k same)
      by None e same =
          short-text None e
          ∙ ap₂ (λ (a b : List ℕ). a ++ b) (lines-priced net cert f (λ i. refl) price-is legs)
          (ap (λ sum. priced_sum fare sum (nat_abs cert.den)) (prices-summed f (sizes cert.p) price-is legs))
