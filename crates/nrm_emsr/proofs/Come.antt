-- Demand to come, history by history: how large it gets, and a list of it when some more is added.
use Rattle.std.proofs.Common.{ℕ, ◌≡◌, ◌∙◌, ◌+◌, ◌-◌, ◌*◌, ◌<◌, ◌≤◌, List, All, length, get_or, map, sum, sum_by, replicate, sym, ap, arith}
use Rattle.std.specs.List.{range_with_len}
use Rattle.std.proofs.lemmas.List.{get_or-replicate, length-replicate, take_rest}
use Rattle.std.proofs.lemmas.List.Elements.{All-map, All-weaker}
use Rattle.std.proofs.lemmas.List.FromFn.{fill_by_all, get_or-map-range_with_len, length-map-range_with_len}
use Rattle.nrm_number.proofs.Ranges.{below-range}
use Rattle.nrm_model.specs.Demand.{demand_row, demand_to_come}
use Rattle.nrm_model.specs.Limits.{IsNetwork}
use Rattle.nrm_model.specs.Network.{NetworkValue}
use Rattle.nrm_model.proofs.DemandLemmas.{sum-end}
use Rattle.nrm_emsr.specs.declared.nest.Nested.{Nested}
use Rattle.nrm_emsr.specs.Inner.Nest.{IsKnown}
use Rattle.nrm_emsr.specs.Inner.Sums.{nest_demand}
use Rattle.nrm_emsr.proofs.Nests.{none-in, sum-below}

-- that of a product in a history
come-small : (net : NetworkValue) (j h k : ℕ) → IsNetwork net → j < length net.products → h < net.histories → demand_to_come net j h k ≤ 999
come-small net j h k ok product history =
    omega (arith, ok.demand j h product history, sum-end (demand_row net j h) (k - 1), ap sum (take_rest (demand_row net j h) (k - 1)))

-- and that of some buckets
pub nest-small : (net : NetworkValue) (k h : ℕ) (nest : List Nested) → IsNetwork net → h < net.histories → All (IsKnown (length net.products)) nest → (first last : ℕ) → nest_demand net k nest first last h ≤ 999 * length nest
nest-small net k h nest ok history known first last =
    sum-below (λ (nested : Nested). demand_to_come net nested.product h k) 999 nest
    (All-weaker (IsKnown (length net.products)) (λ (nested : Nested). demand_to_come net nested.product h k ≤ 999) (λ nested is. come-small net nested.product h k ok is.product history) nest known) first last

-- ---- a list of numbers, history by history
pub all-below : (f : ℕ → ℕ) (n most : ℕ) (items : List ℕ) → items ≡ map f (range_with_len 0 n) → ((h : ℕ) → h < n → f h < most) → All (λ seats. seats < most) items
all-below f n most items are small =
    rw are (All-map (λ seats. seats < most) f (range_with_len 0 n) (All-weaker (λ h. h < n) (λ h. f h < most) small (range_with_len 0 n) (below-range n)))

pub added : (f g more : ℕ → ℕ) (n : ℕ) (before after : List ℕ) → before ≡ map f (range_with_len 0 n) → after ≡ map (λ h. get_or before h 0 + more h) (range_with_len 0 n)
    → ((h : ℕ) → g h ≡ f h + more h) → after ≡ map g (range_with_len 0 n)
added f g more n before after were are is =
    let sum : ℕ → ℕ = λ h. get_or before h 0 + more h in
    fill_by_all g after n 0 (ap length are ∙ length-map-range_with_len sum 0 n)
    (λ h short.
    let old = ap (λ (xs : List ℕ). get_or xs h 0) were ∙ get_or-map-range_with_len f 0 n h h 0 short (omega arith) in
    let new = ap (λ (xs : List ℕ). get_or xs h 0) are ∙ get_or-map-range_with_len sum 0 n h h 0 short (omega arith) in
    omega (arith, old, new, is h))

-- no demand of no bucket
pub none-come : (net : NetworkValue) (k : ℕ) (nest : List Nested) (items : List ℕ) (n : ℕ) → items ≡ replicate n 0 → items ≡ map (nest_demand net k nest 1 0) (range_with_len 0 n)
none-come net k nest items n are =
    let nought : ℕ = 0 in
    fill_by_all (nest_demand net k nest 1 0) items n 0 (ap length are ∙ length-replicate n nought)
    (λ h short. ap (λ (xs : List ℕ). get_or xs h 0) are ∙ get_or-replicate n h nought nought short
    ∙ sym (ap (sum_by (λ (nested : Nested). demand_to_come net nested.product h k)) (none-in nest)))
