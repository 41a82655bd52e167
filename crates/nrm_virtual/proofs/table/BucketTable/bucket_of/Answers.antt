-- What stands in the list at the place of a leg and a product is the bucket of the table.
use Rattle.std.proofs.Common.{◌∙◌, Some, arith, sym, ap, subst}
use Rattle.std.proofs.lemmas.List.{get_or_read}
use Rattle.nrm_virtual.specs.Table.{HasPair, TableValue, bucket_in}
use Rattle.nrm_virtual.proofs.Tables.{bucket-is, pair-stored}
use Rattle.nrm_virtual.proofs.table.BucketTable.bucket_of.Goals as goal

pub overflow_mul-leg : goal.overflow_mul-leg
overflow_mul-leg c =
    let (within, found) = pair-stored c.self.inside.products c.self.inside.buckets.items c.args.leg c.args.product (subst (λ (t : TableValue). HasPair t c.args.leg c.args.product) (sym c.self.view_is) c.requires) in
    omega (arith, within, c.self.inside.buckets.small)

pub overflow_add-leg : goal.overflow_add-leg
overflow_add-leg c =
    let (within, found) = pair-stored c.self.inside.products c.self.inside.buckets.items c.args.leg c.args.product (subst (λ (t : TableValue). HasPair t c.args.leg c.args.product) (sym c.self.view_is) c.requires) in
    omega (arith, within, c.self.inside.buckets.small)

pub index-requires : goal.index-requires
index-requires c =
    let (within, found) = pair-stored c.self.inside.products c.self.inside.buckets.items c.args.leg c.args.product (subst (λ (t : TableValue). HasPair t c.args.leg c.args.product) (sym c.self.view_is) c.requires) in
    omega (arith, within)

pub returns-clause-found : goal.returns-clause-found
returns-clause-found c =
    let (within, found) = pair-stored c.self.inside.products c.self.inside.buckets.items c.args.leg c.args.product (subst (λ (t : TableValue). HasPair t c.args.leg c.args.product) (sym c.self.view_is) c.requires) in
    ap Some (get_or_read c.self.inside.buckets.items _ c.index.result.now within c.index.ensures 0) ∙ sym found ∙ ap (λ (t : TableValue). bucket_in t c.args.leg c.args.product) c.self.view_is

pub returns-clause-bucket : goal.returns-clause-bucket
returns-clause-bucket c net cert of = bucket-is net cert c.args.self.now c.args.leg c.args.product c.index.result.now of (returns-clause-found c)
