-- The draft's parts and its tables of names are those of the rows' network.
use Rattle.std.proofs.Common.{ℕ, ◌≡◌, ◌∙◌, ◌+◌, List, [], length, map, sym, ap, subst, Option, Some, None, Ok, Err}
use Rattle.std.specs.Option.{option_map_or}
use Rattle.nrm_model.specs.declared.leg.Leg.{Leg}
use Rattle.nrm_model.specs.declared.product.Product.{Product}
use Rattle.nrm_model.specs.Network.{NetworkValue}
use Rattle.nrm_model.specs.Limits.{IsNetwork}
use Rattle.nrm_network.specs.Rows.{Row, leg_rows, product_rows, refund_rows, version_in}
use Rattle.nrm_network.specs.Checks.{why_refused}
use Rattle.nrm_network.specs.Inner.Draft.{Stands}
use Rattle.nrm_network.specs.File.{Refusal, network_of, network_or_refusal, refusal_after}
use Rattle.nrm_network.specs.declared.draft.Draft.{Draft}
use Rattle.nrm_network.specs.declared.fault.Why.TheVariants as why
use Rattle.nrm_network.proofs.RefusalPlace.{refusal_after-end, refusal_after-none}
use Rattle.nrm_network.proofs.ReadNetwork.{leg-names, product-names, rows-network}
use Rattle.nrm_network.proofs.draft.Draft.finish.Goals as goal

answers : (taken : List Row) (o : Option Refusal) → refusal_after why_refused why.Empty [] taken ≡ o
    → network_or_refusal why_refused why.Empty taken ≡ option_map_or (λ (refusal : Refusal). Err refusal) o (Ok (network_of taken))
answers taken o is = ap (λ (r : Option Refusal). option_map_or (λ (refusal : Refusal). Err refusal) r (Ok (network_of taken))) is

-- the network of a draft
network-is : (draft : Draft) (taken : List Row) → Stands draft taken
    → (let net : NetworkValue = record {
      histories = draft.histories;
      periods = draft.periods;
      legs = draft.legs.items;
      products =
          draft.products.items;
      demand = draft.demand.items;
    } in net) ≡ network_of taken
network-is draft taken is = λ i.
    record { histories = is.histories i; periods = is.periods i; legs = is.legs i; products = is.products i; demand = is.demand i }

pub returns-then-lacks_a_kind : goal.returns-then-lacks_a_kind
returns-then-lacks_a_kind c = λ taken is rows.
    let lacks = sym (c.lacks_a_kind.ensures taken is) ∙ c.if-lacks_a_kind.true in
    answers taken (Some (length taken + 1, why.Empty)) (refusal_after-end why_refused why.Empty [] taken is.accepted lacks)
    ∙ ap (λ (n : ℕ). Err (n + 1, why.Empty)) (sym rows)

pub with_tables-requires : goal.with_tables-requires
with_tables-requires c =
    let (taken, is) = c.requires.stands in
    let lacks = sym (c.lacks_a_kind.ensures taken is) ∙ c.if-lacks_a_kind.false in
    record {
      network = subst IsNetwork (sym (network-is c.args.self taken is)) (rows-network taken is.accepted lacks);
      legs = is.leg_names ∙ sym (leg-names (version_in taken) (leg_rows taken)) ∙ ap (λ (legs : List Leg). map (λ (leg : Leg). leg.name) legs) (sym is.legs);
      products = is.product_names ∙ sym (product-names (leg_rows taken) (refund_rows taken) (product_rows taken))
          ∙ ap (λ (products : List Product). map (λ (product : Product). product.name) products) (sym is.products);
    }

pub returns : goal.returns
returns c = λ taken is rows.
    let lacks = sym (c.lacks_a_kind.ensures taken is) ∙ c.if-lacks_a_kind.false in
    answers taken None (refusal_after-none why_refused why.Empty [] taken is.accepted lacks)
    ∙ ap (λ (n : NetworkValue). Ok n) (sym (c.in_ok-net.ensures ∙ network-is c.args.self taken is))
