-- The draft of a network, and the rows that it stands for.
use Rattle.std.specs.Prelude.{ℕ, ◌≡◌, ◌+◌, ◌*◌, ⊤, Bool, true, false, Option, Some, None, Result, Ok, Err}
use Rattle.std.specs.Prelude.{List, [], ◌∷◌, ◌++◌, All, length, map, find, replicate, flat_map, take, drop, slice_get, slice_set}
use Rattle.std.specs.List.{list_any, range_with_len}
use Rattle.std.specs.Option.{option_map_or}
use Rattle.nrm_network.specs.Rows.{Row, field, leg_rows, product_rows, demand_rows, refund_rows, version_in, histories_in, periods_in, is_named}
use Rattle.nrm_network.specs.Rows.{further_numbers, gives_demand}
use Rattle.nrm_network.specs.Checks.{why_refused}
use Rattle.nrm_network.specs.Inner.Entries.{IsRead}
use Rattle.nrm_network.specs.Inner.Faults.{Refuses}
use Rattle.nrm_network.specs.Inner.Lines.{line_fields, line_of}
use Rattle.nrm_network.specs.File.{leg_in, product_in}
use Rattle.nrm_network.specs.declared.fault.Why.{Why}
use Rattle.nrm_network.specs.declared.fault.RowRefusal.{RowRefusal}
use Rattle.nrm_model.specs.declared.leg.Leg.{Leg}
use Rattle.nrm_model.specs.declared.product.Product.{Product}
use Rattle.nrm_network.specs.declared.draft.Draft.{Draft}
use Rattle.nrm_network.specs.declared.entry.Entry.{Entry}

-- a cause refuses none of these rows, each against those before it
abbrev pub Accepts : (List Row → Row → Option Why) → List Row → List Row → Type 0
Accepts cause before [] = ⊤
Accepts cause before (row ∷ rest) = (cause before row ≡ None) × Accepts cause (before ++ row ∷ []) rest

-- the second fields of rows
abbrev pub names_of : List Row → List (List ℕ)
names_of rows = map (λ row. field row 1) rows

-- the demand of products in each history and period by these demand rows, 0 where none gives it, and whether one gives it
abbrev pub demand_by : ℕ → ℕ → List Row → List Row → List ℕ
demand_by histories periods demands products =
    flat_map (λ product. flat_map (λ history.
    option_map_or further_numbers (find (gives_demand (field product 1) history) demands) (replicate periods 0))
    (range_with_len 1 histories)) products

abbrev pub given_by : ℕ → List Row → List Row → List Bool
given_by histories demands products =
    flat_map (λ product. flat_map (λ history.
    list_any (gives_demand (field product 1) history) demands ∷ [])
    (range_with_len 1 histories)) products

-- whether a refund row gives the percentage of each product
abbrev pub refunded_by : List Row → List Row → List Bool
refunded_by refunds products = map (λ product. is_named refunds (field product 1)) products

-- each of these rows is of one of the products
abbrev pub NameProducts : List Row → List Row → Type 0
NameProducts products rows = All (λ row. is_named products (field row 1) ≡ true) rows

-- a draft stands for rows that were all taken
pub record Stands (draft : Draft) (taken : List Row) : Type 0 where
  pub accepted : Accepts why_refused [] taken
  pub version : draft.version ≡ version_in taken
  pub histories : draft.histories ≡ histories_in taken
  pub periods : draft.periods ≡ periods_in taken
  pub legs : draft.legs.items ≡ map (leg_in (version_in taken)) (leg_rows taken)
  pub leg_names : draft.leg_names ≡ names_of (leg_rows taken)
  pub products : draft.products.items ≡ map (product_in (leg_rows taken) (refund_rows taken)) (product_rows taken)
  pub product_names : draft.product_names ≡ names_of (product_rows taken)
  pub named : NameProducts (product_rows taken) (demand_rows taken)
  pub demand : draft.demand.items ≡ demand_by (histories_in taken) (periods_in taken) (demand_rows taken) (product_rows taken)
  pub given : draft.given.items ≡ given_by (histories_in taken) (demand_rows taken) (product_rows taken)
  pub refunds_named : NameProducts (product_rows taken) (refund_rows taken)
  pub refunded : draft.refunded.items ≡ refunded_by (refund_rows taken) (product_rows taken)

-- what a row does to a draft: it is refused as the checks say, or the draft then stands for it too
abbrev pub TakesRow : Draft → List Row → Row → Result Unit RowRefusal → Type 0
TakesRow after taken row (Ok done) = (why_refused taken row ≡ None) × Stands after (taken ++ row ∷ [])
TakesRow after taken row (Err fault) = Refuses taken row fault

-- whatever rows the draft stands for, the row is taken or refused so
abbrev pub Takes : Draft → Draft → Row → Result Unit RowRefusal → Type 0
Takes before after row result = (taken : List Row) → Stands before taken → TakesRow after taken row result

-- the row that is the first line of the bytes is taken or refused so, and the length of the line is given
abbrev pub TakesLine : Draft → Draft → List ℕ → Result ℕ RowRefusal → Type 0
TakesLine before after bytes (Ok size) = Takes before after (line_fields (line_of bytes)) (Ok tt) × (size ≡ length (line_of bytes))
TakesLine before after bytes (Err fault) = Takes before after (line_fields (line_of bytes)) (Err fault)

-- or nothing changes
abbrev pub TakesRecent : Draft → Draft → List ℕ → Result (Option ℕ) RowRefusal → Type 0
TakesRecent before after bytes (Ok None) = after ≡ before
TakesRecent before after bytes (Ok (Some size)) = TakesLine before after bytes (Ok size)
TakesRecent before after bytes (Err fault) = TakesLine before after bytes (Err fault)

-- the draft stands for some rows, after which a row may say this
abbrev pub Awaits : Draft → Entry → Type 0
Awaits before entry = (taken : List Row) × (row : Row) × Stands before taken × IsRead taken row entry

-- whatever rows the draft stands for, and whatever row after them says this, the row is taken or refused as the checks say
abbrev pub TakesSaid : Entry → Draft → Draft → Result Unit RowRefusal → Type 0
TakesSaid entry before after result =
    (taken : List Row) (row : Row) → Stands before taken → IsRead taken row entry → TakesRow after taken row result

-- one leg more, after the others, and all else as it was
abbrev pub AddsLeg : Draft → Draft → Leg → Type 0
AddsLeg before after leg =
    (after.legs.items ≡ before.legs.items ++ leg ∷ []) × (after.leg_names ≡ before.leg_names ++ leg.name ∷ [])
    × (after ≡ record before { legs = after.legs; leg_names = after.leg_names })

-- one product more, with no demand, and all else as it was
abbrev pub AddsProduct : Draft → Draft → Product → Type 0
AddsProduct before after product =
    (after.products.items ≡ before.products.items ++ product ∷ []) × (after.product_names ≡ before.product_names ++ product.name ∷ [])
    × (after.demand.items ≡ before.demand.items ++ replicate (before.histories * before.periods) 0)
    × (after.given.items ≡ before.given.items ++ replicate before.histories false)
    × (after.refunded.items ≡ before.refunded.items ++ false ∷ [])
    × (after ≡ record before {
      products = after.products;
      product_names = after.product_names;
      demand = after.demand;
      given = after.given;
      refunded = after.refunded;
    })

-- the percentage of one product, and all else as it was
abbrev pub SetsRefund : Draft → Draft → ℕ → ℕ → Type 0
SetsRefund before after number percentage =
    ((product : Product) → slice_get before.products.items number ≡ Some product
    → after.products.items ≡ slice_set before.products.items number (record product { refund = percentage }))
    × (after.refunded.items ≡ slice_set before.refunded.items number true)
    × (after ≡ record before { products = after.products; refunded = after.refunded })

-- the demand of one cell, a product in a history, and all else as it was
abbrev pub SetsDemand : Draft → Draft → ℕ → List ℕ → Type 0
SetsDemand before after cell seats =
    (after.demand.items
    ≡ take (cell * before.periods) before.demand.items ++ (seats ++ drop (cell * before.periods + length seats) before.demand.items))
    × (after.given.items ≡ slice_set before.given.items cell true)
    × (after ≡ record before { demand = after.demand; given = after.given; recent = after.recent })
