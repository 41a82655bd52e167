-- Hindsight: its program is within the limits, and it has one value, or is Large in one place.
use Rattle.std.proofs.Common.{ℕ, ◌≡◌, ◌⊎◌, ◌∙◌, ◌<◌, ◌≤◌, ℤ, All, List, length, get_or, nat_abs, arith, inl, inr, refl, sym, ap}
use Rattle.std.proofs.lemmas.List.{get_or_default}
use Rattle.nrm_fraction.specs.Fraction.{Fraction, ◌over◌}
use Rattle.nrm_model.specs.Inventory.{inventory_of}
use Rattle.nrm_model.specs.Limits.{IsNetwork}
use Rattle.nrm_model.specs.Network.{NetworkValue, leg_of, least_authorised_of, product_of}
use Rattle.nrm_model.proofs.SeatLemmas.{least-whole, product-within, authorised-within}
use Rattle.nrm_lp.specs.declared.certificate.Certificate.{Certificate}
use Rattle.nrm_simplex.specs.Solving.{IsClosing}
use Rattle.nrm_dlp.specs.Hindsight.{AreTallies, HindsightOverflows, IsHindsight}
use Rattle.nrm_dlp.specs.Laws.{EachHasAHindsight, HindsightsAreDetermined, HindsightsAreLimited}
use Rattle.nrm_dlp.specs.Programs.{hindsight_program}
use Rattle.nrm_model.proofs.Inventories.{authorised-are, authorised-count}
use Rattle.nrm_simplex.proofs.Closings.{closes-or-not, closing-apart, closing-once, overflow-once}
use Rattle.nrm_dlp.proofs.Limited.{made-limited}

-- ---- within the limits
pub authorised-limited : (net : NetworkValue) → IsNetwork net → All (λ cap. cap ≤ 31968) (inventory_of net).authorised
authorised-limited net is = λ i none short.
    let read : get_or (inventory_of net).authorised i none ≡ get_or (inventory_of net).authorised i 0 = get_or_default (inventory_of net).authorised i none 0 short in
    omega (arith, authorised-are net i, authorised-within net is i, read)

pub least-within : (net : NetworkValue) → IsNetwork net → (j : ℕ) → j < length net.products → least_authorised_of net j ≤ 999
least-within net is j few =
    let some = (product-within net is j few).leg_count in
    (least-whole 65535 999 (λ i. (leg_of net i).authorised) (product_of net j).legs (omega arith) (authorised-within net is) (omega arith)).1

pub tallies-limited : (net : NetworkValue) (tallies : List ℕ) → IsNetwork net → AreTallies net tallies → All (λ bound. bound ≤ 31968) tallies
tallies-limited net tallies is are = λ j none short.
    let few : j < length net.products = omega (arith, short, are.products) in
    let read : get_or tallies j none ≡ get_or tallies j 0 = get_or_default tallies j none 0 short in
    omega (arith, are.seats j few, least-within net is j few, read)

pub hindsight-limited : HindsightsAreLimited
hindsight-limited net tallies is are = made-limited net (inventory_of net).authorised tallies is (authorised-count net) (authorised-limited net is) are.products (tallies-limited net tallies is are)

-- ---- one value
pub one-hindsight : HindsightsAreDetermined
one-hindsight net tallies = record {
  value = λ value other is is'.
      let same = closing-once (hindsight_program net tallies) is.certificate is'.certificate is.closing is'.closing in
      is'.value_is ∙ ap (λ (c : Certificate). c.value over nat_abs c.den) same ∙ sym is.value_is;
  overflow = overflow-once (hindsight_program net tallies);
  apart = λ value n number is large. closing-apart (hindsight_program net tallies) is.certificate n number is.closing large;
}

pub has-a-hindsight : EachHasAHindsight
has-a-hindsight net tallies = by (closes-or-not (hindsight_program net tallies))
  where
    by : ((c : Certificate) × IsClosing (hindsight_program net tallies) c) ⊎ ((n : ℕ) × (number : ℤ) × HindsightOverflows net tallies n number)
        → ((value : Fraction) × IsHindsight net tallies value) ⊎ ((n : ℕ) × (number : ℤ) × HindsightOverflows net tallies n number)
    by (inl (made, closing)) = inl (made.value over nat_abs made.den, record { certificate = made; closing = closing; value_is = refl })
    by (inr large) = inr large
