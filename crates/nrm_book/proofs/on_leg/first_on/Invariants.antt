use Rattle.std.proofs.Common.{◌≡◌, map}
use Rattle.nrm_book.specs.OnLeg.{products_from}
use Rattle.nrm_book.proofs.on_leg.first_on.Given as goal

-- none of the products so far uses the leg
abbrev pub invariant-loop-product : goal.invariant-loop-product
invariant-loop-product l = products_from (map (λ v. v.items) l.legs) l.leg l.first ≡ products_from (map (λ v. v.items) l.legs) l.leg l.product
