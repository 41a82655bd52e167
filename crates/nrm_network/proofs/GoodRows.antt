-- Rows that were all taken are good rows: what holds of them grows row by row.
use Rattle.std.proofs.Common.{ℕ, ◌≡◌, ◌∙◌, ◌<◌, ◌≤◌, Bool, true, false, not, ◌||◌, List, [], ◌∷◌, ◌++◌, length, sum, bytes_eq, codes, refl}
use Rattle.std.proofs.Common.{sym, ap, subst, arith, inl, inr, None, filter, All, length-append, append_assoc}
use Rattle.std.specs.List.{list_any, list_all}
use Rattle.std.proofs.lemmas.Bool.{and_parts, and_from, or_parts, or_from, or_left, not-true, not_from_false}
use Rattle.std.proofs.lemmas.List.{append-nil, map-append}
use Rattle.std.proofs.lemmas.List.Elements.{All-nil, All-push, All-weaker, filter-append}
use Rattle.std.proofs.lemmas.List.Folds.{list_any-append}
use Rattle.nrm_model.specs.Limits.{differ}
use Rattle.nrm_model.proofs.Fits.{leg_fits}
use Rattle.nrm_network.specs.Rows.{Row, field, begins, leg_rows, product_rows, demand_rows, refund_rows, version_in, periods_in, is_named}
use Rattle.nrm_network.specs.Rows.{further, further_numbers}
use Rattle.nrm_text.specs.Numbers.{value_of}
use Rattle.nrm_network.specs.Checks.{why_refused}
use Rattle.nrm_network.specs.File.{leg_in}
use Rattle.nrm_network.specs.Inner.Draft.{Accepts, names_of}
use Rattle.nrm_network.proofs.CheckedRows.{FirstChecked, ProductFits, begins-as, first-checked, leg-checked, product-checked, demand-checked, refund-checked}
use Rattle.nrm_network.proofs.CheckedRows.{later-kinds}

-- a product row whose legs are all there
abbrev pub LegsThere : List Row → List (List ℕ) → Type 0
LegsThere legs row = list_all (is_named legs) (further row) ≡ true

-- a demand row of so many periods, within 999
abbrev pub DemandFits : ℕ → List (List ℕ) → Type 0
DemandFits periods row = (length (further row) ≡ periods) × (sum (further_numbers row) ≤ 999)

-- a refund row of 100 per cent at most
abbrev pub RefundFits : List (List ℕ) → Type 0
RefundFits row = value_of (field row 2) ≤ 100

pub record GoodRows (version periods : ℕ) (rows : List Row) : Type 0 where
  pub few_legs : length (leg_rows rows) ≤ 64
  pub few_products : length (product_rows rows) ≤ 256
  pub legs : All (λ row. leg_fits (leg_in version row) ≡ true) (leg_rows rows)
  pub leg_names : differ bytes_eq (names_of (leg_rows rows)) ≡ true
  pub products : All ProductFits (product_rows rows)
  pub there : All (LegsThere (leg_rows rows)) (product_rows rows)
  pub product_names : differ bytes_eq (names_of (product_rows rows)) ≡ true
  pub demands : All (DemandFits periods) (demand_rows rows)
  pub refunds : All RefundFits (refund_rows rows)

-- one more row that passes a test, or doesn't
pub push-yes : (p : Row → Bool) (rows : List Row) (row : Row) → p row ≡ true → filter p (rows ++ row ∷ []) ≡ filter p rows ++ row ∷ []
push-yes p rows row e = let one : filter p (row ∷ []) ≡ row ∷ [] = rw e refl in filter-append p rows (row ∷ [])
    ∙ ap (λ (r : List Row). filter p rows ++ r) one

pub push-no : (p : Row → Bool) (rows : List Row) (row : Row) → p row ≡ false → filter p (rows ++ row ∷ []) ≡ filter p rows
push-no p rows row e = let one : filter p (row ∷ []) ≡ [] = rw e refl in filter-append p rows (row ∷ [])
    ∙ ap (λ (r : List Row). filter p rows ++ r) one ∙ append-nil (filter p rows)

-- a name that is new
pub any-second : (rows : List Row) (name : List ℕ) → list_any (λ n. bytes_eq n name) (names_of rows) ≡ is_named rows name
any-second [] name = refl
any-second (row ∷ rows) name = ap (λ (b : Bool). bytes_eq (field row 1) name || b) (any-second rows name)

differ-push : (names : List (List ℕ)) (name : List ℕ) → differ bytes_eq names ≡ true → list_any (λ n. bytes_eq n name) names ≡ false
    → differ bytes_eq (names ++ name ∷ []) ≡ true
differ-push [] name apart new = refl
differ-push (n ∷ names) name apart new =
    let (first, rest) = and_parts (not (list_any (bytes_eq n) names)) (differ bytes_eq names) apart in
    let (other, others) = or_parts (bytes_eq n name) (list_any (λ m. bytes_eq m name) names) new in
    let none : list_any (bytes_eq n) (names ++ name ∷ []) ≡ false =
    list_any-append (bytes_eq n) names (name ∷ [])
    ∙ or_from (list_any (bytes_eq n) names) (bytes_eq n name || false) (not-true (list_any (bytes_eq n) names) first)
    (or_from (bytes_eq n name) false other refl) in
    and_from (not (list_any (bytes_eq n) (names ++ name ∷ []))) (differ bytes_eq (names ++ name ∷ []))
    (not_from_false (list_any (bytes_eq n) (names ++ name ∷ [])) none) (differ-push names name rest others)

names-push : (rows : List Row) (row : Row) → differ bytes_eq (names_of rows) ≡ true → is_named rows (field row 1) ≡ false
    → differ bytes_eq (names_of (rows ++ row ∷ [])) ≡ true
names-push rows row apart new =
    ap (λ (n : List (List ℕ)). differ bytes_eq n) (map-append (λ (r : Row). field r 1) rows (row ∷ []))
    ∙ differ-push (names_of rows) (field row 1) apart (any-second rows (field row 1) ∙ new)

-- legs that are there stay there
stay : (legs : List Row) (row : Row) (names : List (List ℕ)) → list_all (is_named legs) names ≡ true
    → list_all (is_named (legs ++ row ∷ [])) names ≡ true
stay legs row [] all = refl
stay legs row (name ∷ names) all =
    let (first, rest) = and_parts (is_named legs name) (list_all (is_named legs) names) all in
    and_from (is_named (legs ++ row ∷ []) name) (list_all (is_named (legs ++ row ∷ [])) names)
    (list_any-append (λ r. bytes_eq (field r 1) name) legs (row ∷ [])
    ∙ or_left (is_named legs name) (bytes_eq (field row 1) name || false) first) (stay legs row names rest)

-- good rows by their parts
from-parts : (version periods : ℕ) (rows legs products demands refunds : List Row) → leg_rows rows ≡ legs → product_rows rows ≡ products
    → demand_rows rows ≡ demands → refund_rows rows ≡ refunds
    → length legs ≤ 64 → length products ≤ 256 → All (λ row. leg_fits (leg_in version row) ≡ true) legs → differ bytes_eq (names_of legs) ≡ true
    → All ProductFits products → All (LegsThere legs) products → differ bytes_eq (names_of products) ≡ true
    → All (DemandFits periods) demands → All RefundFits refunds → GoodRows version periods rows
from-parts version periods rows legs products demands refunds are_legs are_products are_demands are_refunds few_legs few_products fit apart
    products_fit there products_apart demands_fit refunds_fit = record {
      few_legs = subst (λ (l : List Row). length l ≤ 64) (sym are_legs) few_legs;
      few_products = subst (λ (l : List Row). length l ≤ 256) (sym are_products) few_products;
      legs = subst (λ (l : List Row). All (λ row. leg_fits (leg_in version row) ≡ true) l) (sym are_legs) fit;
      leg_names = subst (λ (l : List Row). differ bytes_eq (names_of l) ≡ true) (sym are_legs) apart;
      products = subst (λ (l : List Row). All ProductFits l) (sym are_products) products_fit;
      there = subst (λ (l : List Row). All (LegsThere l) (product_rows rows)) (sym are_legs)
          (subst (λ (l : List Row). All (LegsThere legs) l) (sym are_products) there);
      product_names = subst (λ (l : List Row). differ bytes_eq (names_of l) ≡ true) (sym are_products) products_apart;
      demands = subst (λ (l : List Row). All (DemandFits periods) l) (sym are_demands) demands_fit;
      refunds = subst (λ (l : List Row). All RefundFits l) (sym are_refunds) refunds_fit;
    }

leg-step : (version periods : ℕ) (rows : List Row) (row : Row) → GoodRows version periods rows → field row 0 ≡ codes "leg" → length (leg_rows rows) < 64
    → leg_fits (leg_in version row) ≡ true → is_named (leg_rows rows) (field row 1) ≡ false → GoodRows version periods (rows ++ row ∷ [])
leg-step version periods rows row good first few fits new =
    let legs : leg_rows (rows ++ row ∷ []) ≡ leg_rows rows ++ row ∷ [] =
    push-yes (begins (codes "leg")) rows row (begins-as (codes "leg") (codes "leg") row first) in
    let products : product_rows (rows ++ row ∷ []) ≡ product_rows rows =
    push-no (begins (codes "product")) rows row (begins-as (codes "leg") (codes "product") row first) in
    let demands : demand_rows (rows ++ row ∷ []) ≡ demand_rows rows =
    push-no (begins (codes "demand")) rows row (begins-as (codes "leg") (codes "demand") row first) in
    let refunds : refund_rows (rows ++ row ∷ []) ≡ refund_rows rows =
    push-no (begins (codes "refund")) rows row (begins-as (codes "leg") (codes "refund") row first) in
    from-parts version periods (rows ++ row ∷ []) (leg_rows rows ++ row ∷ []) (product_rows rows) (demand_rows rows) (refund_rows rows) legs products
    demands refunds
    (omega (arith, length-append (leg_rows rows) (row ∷ []))) good.few_products
    (All-push (λ r. leg_fits (leg_in version r) ≡ true) (leg_rows rows) row good.legs fits) (names-push (leg_rows rows) row good.leg_names new)
    good.products (All-weaker (LegsThere (leg_rows rows)) (LegsThere (leg_rows rows ++ row ∷ []))
    (λ r all. stay (leg_rows rows) row (further r) all) (product_rows rows) good.there) good.product_names good.demands good.refunds

product-step : (version periods : ℕ) (rows : List Row) (row : Row) → GoodRows version periods rows → field row 0 ≡ codes "product"
    → length (product_rows rows) < 256 → ProductFits row → LegsThere (leg_rows rows) row
    → is_named (product_rows rows) (field row 1) ≡ false
    → GoodRows version periods (rows ++ row ∷ [])
product-step version periods rows row good first few fits there new =
    let legs : leg_rows (rows ++ row ∷ []) ≡ leg_rows rows =
    push-no (begins (codes "leg")) rows row (begins-as (codes "product") (codes "leg") row first) in
    let products : product_rows (rows ++ row ∷ []) ≡ product_rows rows ++ row ∷ [] =
    push-yes (begins (codes "product")) rows row (begins-as (codes "product") (codes "product") row first) in
    let demands : demand_rows (rows ++ row ∷ []) ≡ demand_rows rows =
    push-no (begins (codes "demand")) rows row (begins-as (codes "product") (codes "demand") row first) in
    let refunds : refund_rows (rows ++ row ∷ []) ≡ refund_rows rows =
    push-no (begins (codes "refund")) rows row (begins-as (codes "product") (codes "refund") row first) in
    from-parts version periods (rows ++ row ∷ []) (leg_rows rows) (product_rows rows ++ row ∷ []) (demand_rows rows) (refund_rows rows) legs products
    demands refunds
    good.few_legs (omega (arith, length-append (product_rows rows) (row ∷ []))) good.legs good.leg_names
    (All-push ProductFits (product_rows rows) row good.products fits)
    (All-push (LegsThere (leg_rows rows)) (product_rows rows) row good.there there)
    (names-push (product_rows rows) row good.product_names new) good.demands good.refunds

demand-step : (version periods : ℕ) (rows : List Row) (row : Row) → GoodRows version periods rows → field row 0 ≡ codes "demand" → DemandFits periods row
    → GoodRows version periods (rows ++ row ∷ [])
demand-step version periods rows row good first fits =
    let legs : leg_rows (rows ++ row ∷ []) ≡ leg_rows rows =
    push-no (begins (codes "leg")) rows row (begins-as (codes "demand") (codes "leg") row first) in
    let products : product_rows (rows ++ row ∷ []) ≡ product_rows rows =
    push-no (begins (codes "product")) rows row (begins-as (codes "demand") (codes "product") row first) in
    let demands : demand_rows (rows ++ row ∷ []) ≡ demand_rows rows ++ row ∷ [] =
    push-yes (begins (codes "demand")) rows row (begins-as (codes "demand") (codes "demand") row first) in
    let refunds : refund_rows (rows ++ row ∷ []) ≡ refund_rows rows =
    push-no (begins (codes "refund")) rows row (begins-as (codes "demand") (codes "refund") row first) in
    from-parts version periods (rows ++ row ∷ []) (leg_rows rows) (product_rows rows) (demand_rows rows ++ row ∷ []) (refund_rows rows) legs products
    demands refunds
    good.few_legs good.few_products good.legs good.leg_names good.products good.there good.product_names
    (All-push (DemandFits periods) (demand_rows rows) row good.demands fits) good.refunds

refund-step : (version periods : ℕ) (rows : List Row) (row : Row) → GoodRows version periods rows → field row 0 ≡ codes "refund"
    → RefundFits row → GoodRows version periods (rows ++ row ∷ [])
refund-step version periods rows row good first fits =
    let legs : leg_rows (rows ++ row ∷ []) ≡ leg_rows rows =
    push-no (begins (codes "leg")) rows row (begins-as (codes "refund") (codes "leg") row first) in
    let products : product_rows (rows ++ row ∷ []) ≡ product_rows rows =
    push-no (begins (codes "product")) rows row (begins-as (codes "refund") (codes "product") row first) in
    let demands : demand_rows (rows ++ row ∷ []) ≡ demand_rows rows =
    push-no (begins (codes "demand")) rows row (begins-as (codes "refund") (codes "demand") row first) in
    let refunds : refund_rows (rows ++ row ∷ []) ≡ refund_rows rows ++ row ∷ [] =
    push-yes (begins (codes "refund")) rows row (begins-as (codes "refund") (codes "refund") row first) in
    from-parts version periods (rows ++ row ∷ []) (leg_rows rows) (product_rows rows) (demand_rows rows) (refund_rows rows ++ row ∷ []) legs
    products demands refunds good.few_legs good.few_products good.legs good.leg_names good.products good.there good.product_names good.demands
    (All-push RefundFits (refund_rows rows) row good.refunds fits)

-- one row more that no check refuses
good-step : (first row : Row) (more : List Row) → GoodRows (version_in (first ∷ more)) (periods_in (first ∷ more)) (first ∷ more)
    → why_refused (first ∷ more) row ≡ None → GoodRows (version_in (first ∷ more)) (periods_in (first ∷ more)) ((first ∷ more) ++ row ∷ [])
good-step first row more good taken =
    let version : ℕ = version_in (first ∷ more) in
    let periods : ℕ = periods_in (first ∷ more) in
    elim (later-kinds first row more taken) [
      | inl leg ↦ let is = leg-checked (first ∷ more) row leg taken in leg-step version periods (first ∷ more) row good leg is.few is.fits is.fresh
      | inr (inl product) ↦ let is = product-checked (first ∷ more) row product taken in
          product-step version periods (first ∷ more) row good product is.few is.fits is.there is.fresh
      | inr (inr (inl demand)) ↦ demand-step version periods (first ∷ more) row good demand (demand-checked (first ∷ more) row demand taken)
      | inr (inr (inr refund)) ↦
          refund-step version periods (first ∷ more) row good refund (refund-checked (first ∷ more) row refund taken).small
    ]

pub good-more : (first : Row) (more rest : List Row) → GoodRows (version_in (first ∷ more)) (periods_in (first ∷ more)) (first ∷ more)
    → Accepts why_refused (first ∷ more) rest → GoodRows (version_in (first ∷ more)) (periods_in (first ∷ more)) (first ∷ (more ++ rest))
good-more first more [] good taken =
    subst (λ (rows : List Row). GoodRows (version_in (first ∷ more)) (periods_in (first ∷ more)) (first ∷ rows)) (sym (append-nil more)) good
good-more first more (row ∷ rest) good taken =
    subst (λ (rows : List Row). GoodRows (version_in (first ∷ more)) (periods_in (first ∷ more)) (first ∷ rows)) (append_assoc more (row ∷ []) rest)
    (good-more first (more ++ row ∷ []) rest (good-step first row more good taken.0) taken.1)

-- the first row alone
pub good-first : (first : Row) → FirstChecked first → GoodRows (version_in (first ∷ [])) (periods_in (first ∷ [])) (first ∷ [])
good-first first is =
    let legs : leg_rows (first ∷ []) ≡ [] =
    push-no (begins (codes "leg")) [] first (begins-as (codes "periods") (codes "leg") first is.word) in
    let products : product_rows (first ∷ []) ≡ [] =
    push-no (begins (codes "product")) [] first (begins-as (codes "periods") (codes "product") first is.word) in
    let demands : demand_rows (first ∷ []) ≡ [] =
    push-no (begins (codes "demand")) [] first (begins-as (codes "periods") (codes "demand") first is.word) in
    let refunds : refund_rows (first ∷ []) ≡ [] =
    push-no (begins (codes "refund")) [] first (begins-as (codes "periods") (codes "refund") first is.word) in
    from-parts (version_in (first ∷ [])) (periods_in (first ∷ [])) (first ∷ []) [] [] [] [] legs products demands refunds (omega arith)
    (omega arith) (All-nil (λ row. leg_fits (leg_in (version_in (first ∷ [])) row) ≡ true)) refl (All-nil ProductFits)
    (All-nil (LegsThere [])) refl (All-nil (DemandFits (periods_in (first ∷ [])))) (All-nil RefundFits)

-- there are few periods
pub few-periods : (taken : List Row) → Accepts why_refused [] taken → periods_in taken ≤ 16
few-periods [] accepted = omega arith
few-periods (first ∷ more) accepted = (first-checked first accepted.0).periods.1
