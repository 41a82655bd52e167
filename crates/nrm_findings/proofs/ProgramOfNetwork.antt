-- The linear program of a network has its products and its legs.
use Rattle.std.proofs.Common.{◌≡◌, ◌*◌, ℕ, length, sym, subst, ◌∙◌}
use Rattle.std.proofs.lemmas.List.{length-map}
use Rattle.std.proofs.lemmas.List.FromFn.{length-map-range_with_len}
use Rattle.nrm_fraction.specs.Large.{size_limit}
use Rattle.nrm_lp.specs.declared.certificate.Certificate.{Certificate}
use Rattle.nrm_lp.specs.Shape.{HasShape}
use Rattle.nrm_model.specs.Demand.{total_to_come}
use Rattle.nrm_model.specs.Inventory.{inventory_of}
use Rattle.nrm_model.specs.Network.{NetworkValue}
use Rattle.nrm_model.specs.declared.leg.Leg.{Leg}
use Rattle.nrm_dlp.specs.Programs.{opening_program}

pub products-of : (net : NetworkValue) → length (opening_program net).bounds ≡ length net.products
products-of net = length-map-range_with_len (λ j. total_to_come net j 1) 0 (length net.products)

pub legs-of : (net : NetworkValue) → length (opening_program net).caps ≡ length net.legs
legs-of net = length-map (inventory_of net).authorised (λ seats. net.histories * seats) ∙ length-map net.legs (λ (leg : Leg). leg.authorised)

-- so a certificate of the network's shape has the linear program's
pub shape-of-program : (net : NetworkValue) (given : Certificate) → HasShape size_limit (length net.products) (length net.legs) given
    → HasShape size_limit (length (opening_program net).bounds) (length (opening_program net).caps) given
shape-of-program net given shape =
    subst (λ (n : ℕ). HasShape size_limit (length (opening_program net).bounds) n given) (sym (legs-of net))
    (subst (λ (n : ℕ). HasShape size_limit n (length net.legs) given) (sym (products-of net)) shape)
