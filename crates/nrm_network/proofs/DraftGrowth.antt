-- A draft grows by the first row, by a leg or by a product that was taken, and what a look-up by name gives in it.
use Rattle.std.proofs.Common.{ℕ, zero, suc, ◌≡◌, ◌∙◌, ◌+◌, ◌*◌, ◌<◌, ◌≤◌, Bool, true, false, not, ◌||◌, ◌==◌, List, [], ◌∷◌, ◌++◌, length}
use Rattle.std.proofs.Common.{map, filter, flat_map, replicate, bytes_eq, codes, refl, sym, ap, subst, arith, inl, inr, Option, Some, None, All}
use Rattle.std.proofs.Common.{get_or}
use Rattle.std.specs.Prelude.{find, unwrap_or, is_some, MatchOption}
use Rattle.std.specs.Option.{option_map_or}
use Rattle.std.specs.List.{list_any, list_all, position_from, range_with_len}
use Rattle.std.proofs.lemmas.Bool.{cases_Bool, and_parts, and_left, or_left, true≢false}
use Rattle.std.proofs.lemmas.List.{append-nil, map-append, replicate-append-replicate}
use Rattle.std.proofs.lemmas.Slice.Eq.{bytes_eq-Decides}
use Rattle.std.proofs.lemmas.List.Concat.{flat_map-append}
use Rattle.std.proofs.lemmas.List.Elements.{All-head, All-tail, All-weaker}
use Rattle.std.proofs.lemmas.List.Folds.{list_any-append, list_any_none}
use Rattle.nrm_text.specs.Numbers.{value_of}
use Rattle.nrm_model.specs.declared.leg.Leg.{Leg}
use Rattle.nrm_model.specs.declared.product.Product.{Product}
use Rattle.nrm_network.specs.Rows.{Row, Kind, periods_kind, leg_kind, product_kind, field, begins, leg_rows, product_rows, demand_rows, refund_rows}
use Rattle.nrm_network.specs.Rows.{version_in, histories_in, periods_in, is_named, further, further_numbers, gives_demand}
use Rattle.nrm_network.specs.Checks.{why_refused, out_of_order, is_periods}
use Rattle.nrm_network.specs.File.{leg_in, product_in, number_of_leg, refund_given}
use Rattle.nrm_network.specs.Inner.Draft.{Accepts, AddsLeg, AddsProduct, Stands, NameProducts, names_of, demand_by, given_by, refunded_by}
use Rattle.nrm_network.specs.Inner.Entries.{HasShape}
use Rattle.nrm_network.specs.declared.draft.Draft.{Draft}
use Rattle.nrm_network.proofs.RefusalPlace.{Accepts-append}
use Rattle.nrm_network.proofs.CheckedRows.{begins-as, first-checked, product-checked}
use Rattle.nrm_network.proofs.DemandRows.{find-none}
use Rattle.nrm_network.proofs.GoodRows.{GoodRows, LegsThere, any-second, good-first, good-more, push-yes, push-no}
use Rattle.nrm_network.proofs.ChecksAfterShape.{word-of}
use Rattle.nrm_model.proofs.NameLemmas.{position_from-map}

-- a draft stands for rows by their parts
pub record Parts (draft : Draft) (rows legs products demands refunds : List Row) (version histories periods : ℕ) : Type 0 where
  pub version_is : draft.version ≡ version
  pub histories_is : draft.histories ≡ histories
  pub periods_is : draft.periods ≡ periods
  pub legs_are : draft.legs.items ≡ map (leg_in version) legs
  pub leg_names : draft.leg_names ≡ names_of legs
  pub products_are : draft.products.items ≡ map (product_in legs refunds) products
  pub product_names : draft.product_names ≡ names_of products
  pub named : NameProducts products demands
  pub demand : draft.demand.items ≡ demand_by histories periods demands products
  pub given : draft.given.items ≡ given_by histories demands products
  pub refunds_named : NameProducts products refunds
  pub refunded : draft.refunded.items ≡ refunded_by refunds products

-- and the rows of each kind are these
pub record Kinds (rows legs products demands refunds : List Row) (version histories periods : ℕ) : Type 0 where
  pub accepted : Accepts why_refused [] rows
  pub version_is : version_in rows ≡ version
  pub histories_is : histories_in rows ≡ histories
  pub periods_is : periods_in rows ≡ periods
  pub legs_are : leg_rows rows ≡ legs
  pub products_are : product_rows rows ≡ products
  pub demands_are : demand_rows rows ≡ demands
  pub refunds_are : refund_rows rows ≡ refunds

pub stands-by : (draft : Draft) (rows legs products demands refunds : List Row) (version histories periods : ℕ)
    → Kinds rows legs products demands refunds version histories periods
    → Parts draft rows legs products demands refunds version histories periods → Stands draft rows
stands-by draft rows legs products demands refunds version histories periods of p =
    let v = sym of.version_is in
    let h = sym of.histories_is in
    let t = sym of.periods_is in
    let l = sym of.legs_are in
    let q = sym of.products_are in
    let d = sym of.demands_are in
    let r = sym of.refunds_are in
    record {
      accepted = of.accepted;
      version = p.version_is ∙ v;
      histories = p.histories_is ∙ h;
      periods = p.periods_is ∙ t;
      legs = p.legs_are ∙ λ i. map (leg_in (v i)) (l i);
      leg_names = p.leg_names ∙ λ i. names_of (l i);
      products = p.products_are ∙ λ i. map (product_in (l i) (r i)) (q i);
      product_names = p.product_names ∙ λ i. names_of (q i);
      named = subst (λ (xs : List Row). NameProducts xs (demand_rows rows)) q
          (subst (λ (xs : List Row). NameProducts products xs) d p.named);
      demand = p.demand ∙ λ i. demand_by (h i) (t i) (d i) (q i);
      given = p.given ∙ λ i. given_by (h i) (d i) (q i);
      refunds_named = subst (λ (xs : List Row). NameProducts xs (refund_rows rows)) q
          (subst (λ (xs : List Row). NameProducts products xs) r p.refunds_named);
      refunded = p.refunded ∙ λ i. refunded_by (r i) (q i);
    }

-- rows that were taken are good
pub good-taken : (first : Row) (more : List Row) → Accepts why_refused [] (first ∷ more)
    → GoodRows (version_in (first ∷ more)) (periods_in (first ∷ more)) (first ∷ more)
good-taken first more taken = good-more first [] more (good-first first (first-checked first taken.0)) taken.1

pub accepts-more : (taken : List Row) (row : Row) → Accepts why_refused [] taken → why_refused taken row ≡ None
    → Accepts why_refused [] (taken ++ row ∷ [])
accepts-more taken row accepted free = Accepts-append why_refused [] taken (row ∷ []) accepted (free, tt)

-- the names of one row more
names-more : (rows : List Row) (row : Row) → names_of (rows ++ row ∷ []) ≡ names_of rows ++ field row 1 ∷ []
names-more rows row = map-append (λ (r : Row). field r 1) rows (row ∷ [])

-- a name that is there keeps its number
place-stays : (p : Row → Bool) (k : ℕ) (rows more : List Row) → list_any p rows ≡ true
    → position_from p k (rows ++ more) ≡ position_from p k rows
place-stays p k [] more found = cc
place-stays p k (r ∷ rows) more found = elim (cases_Bool (p r)) [
  | inl e ↦ rw e refl
  | inr e ↦ rw e (place-stays p (k + 1) rows more (rw e at found))
]

number-stays : (legs : List Row) (row : Row) (name : List ℕ) → is_named legs name ≡ true
    → number_of_leg (legs ++ row ∷ []) name ≡ number_of_leg legs name
number-stays legs row name named =
    ap (λ (o : Option ℕ). unwrap_or o 0) (place-stays (λ r. bytes_eq (field r 1) name) 0 legs (row ∷ []) named)

numbers-stay : (legs : List Row) (row : Row) (names : List (List ℕ)) → list_all (is_named legs) names ≡ true
    → map (number_of_leg (legs ++ row ∷ [])) names ≡ map (number_of_leg legs) names
numbers-stay legs row [] there = refl
numbers-stay legs row (name ∷ names) there =
    let (first, rest) = and_parts (is_named legs name) (list_all (is_named legs) names) there in
    rw (number-stays legs row name first, numbers-stay legs row names rest) refl

product-stays : (legs refunds : List Row) (row product : Row) → LegsThere legs product
    → product_in (legs ++ row ∷ []) refunds product ≡ product_in legs refunds product
product-stays legs refunds row product there = λ i. record {
  name = field product 1;
  fare = value_of (field product 2);
  refund = refund_given refunds (field product 1);
  legs = numbers-stay legs row (further product) there i;
}

products-stay : (legs refunds : List Row) (row : Row) (products : List Row) → All (LegsThere legs) products
    → map (product_in (legs ++ row ∷ []) refunds) products ≡ map (product_in legs refunds) products
products-stay legs refunds row [] there = refl
products-stay legs refunds row (product ∷ products) there =
    let first = product-stays legs refunds row product (All-head (LegsThere legs) product products there) in
    let rest = products-stay legs refunds row products (All-tail (LegsThere legs) product products there) in
    λ i. first i ∷ rest i

-- no row of another kind is added
pub apart : (word other : List ℕ) (taken : List Row) (row : Row) → field row 0 ≡ word → bytes_eq word other ≡ false
    → filter (begins other) (taken ++ row ∷ []) ≡ filter (begins other) taken
apart word other taken row first differ = push-no (begins other) taken row (begins-as word other row first ∙ differ)

-- the first row
pub periods-grow : (draft after : Draft) (taken : List Row) (row : Row) (version histories periods : ℕ) → Stands draft taken
    → HasShape taken row periods_kind → why_refused taken row ≡ None → version ≡ version_in (row ∷ []) → histories ≡ value_of (field row 1)
    → periods ≡ value_of (field row 2)
    → after ≡ record draft { version = version; histories = histories; periods = periods } → Stands after (taken ++ row ∷ [])
periods-grow draft after (first ∷ more) row version histories periods is shape free is_version is_histories is_periods others =
    let no : true ≡ false = shape.order in cc
periods-grow draft after [] row version histories periods is shape free is_version is_histories is_periods others =
    let word = word-of [] row periods_kind shape in
    stands-by after (row ∷ []) [] [] [] [] (version_in (row ∷ [])) (value_of (field row 1)) (value_of (field row 2)) (record {
      accepted = (free, tt);
      version_is = refl;
      histories_is = refl;
      periods_is = refl;
      legs_are = apart (codes "periods") (codes "leg") [] row word refl;
      products_are = apart (codes "periods") (codes "product") [] row word refl;
      demands_are = apart (codes "periods") (codes "demand") [] row word refl;
      refunds_are = apart (codes "periods") (codes "refund") [] row word refl;
    }) (record {
      version_is = (λ i. (others i).version) ∙ is_version;
      histories_is = (λ i. (others i).histories) ∙ is_histories;
      periods_is = (λ i. (others i).periods) ∙ is_periods;
      legs_are = (λ i. (others i).legs.items) ∙ is.legs;
      leg_names = (λ i. (others i).leg_names) ∙ is.leg_names;
      products_are = (λ i. (others i).products.items) ∙ is.products;
      product_names = (λ i. (others i).product_names) ∙ is.product_names;
      named = is.named;
      demand = (λ i. (others i).demand.items) ∙ is.demand;
      given = (λ i. (others i).given.items) ∙ is.given;
      refunds_named = is.refunds_named;
      refunded = (λ i. (others i).refunded.items) ∙ is.refunded;
    })

-- one leg more
pub leg-grows : (draft after : Draft) (taken : List Row) (row : Row) → Stands draft taken → HasShape taken row leg_kind
    → why_refused taken row ≡ None → AddsLeg draft after (leg_in (version_in taken) row) → Stands after (taken ++ row ∷ [])
leg-grows draft after [] row is shape free (legs, leg_names, others) = let no : true ≡ false = shape.order in cc
leg-grows draft after (first ∷ more) row is shape free (legs, leg_names, others) =
    let taken : List Row = first ∷ more in
    let version : ℕ = version_in taken in
    let word = word-of taken row leg_kind shape in
    let good = good-taken first more is.accepted in
    stands-by after (taken ++ row ∷ []) (leg_rows taken ++ row ∷ []) (product_rows taken) (demand_rows taken) (refund_rows taken) version
    (histories_in taken) (periods_in taken) (record {
      accepted = accepts-more taken row is.accepted free;
      version_is = refl;
      histories_is = refl;
      periods_is = refl;
      legs_are = push-yes (begins (codes "leg")) taken row (begins-as (codes "leg") (codes "leg") row word);
      products_are = apart (codes "leg") (codes "product") taken row word refl;
      demands_are = apart (codes "leg") (codes "demand") taken row word refl;
      refunds_are = apart (codes "leg") (codes "refund") taken row word refl;
    }) (record {
      version_is = (λ i. (others i).version) ∙ is.version;
      histories_is = (λ i. (others i).histories) ∙ is.histories;
      periods_is = (λ i. (others i).periods) ∙ is.periods;
      legs_are = legs ∙ ap (λ (l : List Leg). l ++ leg_in version row ∷ []) is.legs
          ∙ sym (map-append (leg_in version) (leg_rows taken) (row ∷ []));
      leg_names = leg_names ∙ ap (λ (n : List (List ℕ)). n ++ field row 1 ∷ []) is.leg_names ∙ sym (names-more (leg_rows taken) row);
      products_are = (λ i. (others i).products.items) ∙ is.products
          ∙ sym (products-stay (leg_rows taken) (refund_rows taken) row (product_rows taken) good.there);
      product_names = (λ i. (others i).product_names) ∙ is.product_names;
      named = is.named;
      demand = (λ i. (others i).demand.items) ∙ is.demand;
      given = (λ i. (others i).given.items) ∙ is.given;
      refunds_named = is.refunds_named;
      refunded = (λ i. (others i).refunded.items) ∙ is.refunded;
    })

-- a look-up by name: whether there is such a row, and which
pub place-any : {X : Type 0} (p : X → Bool) (k : ℕ) (xs : List X) → is_some (position_from p k xs) ≡ list_any p xs
place-any p k [] = refl
place-any p k (x ∷ xs) = elim (cases_Bool (p x)) [ inl e ↦ rw e refl | inr e ↦ rw e (place-any p (k + 1) xs) ]

pub named-by : (o : Option ℕ) (b : Bool) (names : List (List ℕ)) (rows : List Row) (name text : List ℕ)
    → o ≡ position_from (λ other. bytes_eq other name) 0 names → b ≡ is_some o → names ≡ names_of rows → name ≡ text
    → b ≡ is_named rows text
named-by o b names rows name text found some are same =
    some ∙ ap (λ (p : Option ℕ). is_some p) found ∙ place-any (λ other. bytes_eq other name) 0 names
    ∙ ap (λ (n : List (List ℕ)). list_any (λ other. bytes_eq other name) n) are ∙ any-second rows name
    ∙ ap (λ (n : List ℕ). is_named rows n) same

-- what a look-up by name gives
pub look-up : (o : Option ℕ) (names : List (List ℕ)) (rows : List Row) (name text : List ℕ)
    → o ≡ position_from (λ other. bytes_eq other name) 0 names → names ≡ names_of rows → name ≡ text
    → MatchOption o (is_named rows text ≡ false) (λ n. (is_named rows text ≡ true) × (n ≡ number_of_leg rows text))
look-up None names rows name text found are same = sym (named-by None false names rows name text found refl are same)
look-up (Some n) names rows name text found are same =
    let place : Some n ≡ position_from (λ row. bytes_eq (field row 1) text) 0 rows =
    found ∙ ap (λ (ns : List (List ℕ)). position_from (λ other. bytes_eq other name) 0 ns) are
    ∙ ap (λ (t : List ℕ). position_from (λ other. bytes_eq other t) 0 (names_of rows)) same
    ∙ position_from-map (λ (row : Row). field row 1) (λ other. bytes_eq other text) 0 rows in
    (sym (named-by (Some n) true names rows name text found refl are same), ap (λ (p : Option ℕ). unwrap_or p 0) place)

-- a place is below the length
pub place-below : {X : Type 0} (p : X → Bool) (k n : ℕ) (xs : List X) → Some n ≡ position_from p k xs → n < k + length xs
place-below p k n [] found = cc
place-below p k n (x ∷ xs) found = elim (cases_Bool (p x)) [
  | inl e ↦ let same : Some n ≡ Some k = rw e at found in let here : n ≡ k = cc in omega arith
  | inr e ↦ let below = place-below p (k + 1) n xs (rw e at found) in omega arith
]

none-of : (n : ℕ) → 0 * n ≡ 0
none-of n = omega arith

one-of : (m n : ℕ) → suc m * n ≡ n + m * n
one-of m n = omega arith

-- a name that no product has is in no demand row
pub fresh-of : (products demands : List Row) (name : List ℕ) → is_named products name ≡ false → NameProducts products demands
    → All (λ row. bytes_eq (field row 1) name ≡ false) demands
fresh-of products demands name none named = λ k d short. elim (cases_Bool (bytes_eq (field (get_or demands k d) 1) name)) [
  | inl e ↦
      let same = (bytes_eq-Decides (field (get_or demands k d) 1) name).0 e in
      let there : is_named products name ≡ true = subst (λ (n : List ℕ). is_named products n ≡ true) same (named k d short) in
      let clash : true ≡ false = sym there ∙ none in
      absurd (true≢false clash)
  | inr e ↦ e
]

pub gives-none : (demands : List Row) (name : List ℕ) (history : ℕ) → All (λ row. bytes_eq (field row 1) name ≡ false) demands
    → list_any (gives_demand name history) demands ≡ false
gives-none demands name history other =
    list_any_none (gives_demand name history) demands
    (λ k d short. and_left (bytes_eq (field (get_or demands k d) 1) name) (value_of (field (get_or demands k d) 2) == history)
    (other k d short))

-- a product with no demand row has no demand
no-demand : (demands : List Row) (name : List ℕ) (periods a n : ℕ) → All (λ row. bytes_eq (field row 1) name ≡ false) demands
    → flat_map (λ history. option_map_or further_numbers (find (gives_demand name history) demands) (replicate periods 0))
    (range_with_len a n) ≡ replicate (n * periods) 0
no-demand demands name periods a zero other = ap (λ (m : ℕ). replicate m 0) (sym (none-of periods))
no-demand demands name periods a (suc n) other =
    let none : find (gives_demand name a) demands ≡ None = find-none (gives_demand name a) demands (gives-none demands name a other) in
    let here : option_map_or further_numbers (find (gives_demand name a) demands) (replicate periods 0) ≡ replicate periods 0 =
    ap (λ (o : Option Row). option_map_or further_numbers o (replicate periods 0)) none in
    let rest = no-demand demands name periods (a + 1) n other in
    let later : List ℕ = flat_map (λ history.
    option_map_or further_numbers (find (gives_demand name history) demands) (replicate periods 0)) (range_with_len (a + 1) n) in
    ap (λ (xs : List ℕ). xs ++ later) here ∙ ap (λ (xs : List ℕ). replicate periods 0 ++ xs) rest
    ∙ replicate-append-replicate periods (n * periods) 0 ∙ ap (λ (m : ℕ). replicate m 0) (sym (one-of n periods))

not-given : (demands : List Row) (name : List ℕ) (a n : ℕ) → All (λ row. bytes_eq (field row 1) name ≡ false) demands
    → flat_map (λ history. list_any (gives_demand name history) demands ∷ []) (range_with_len a n) ≡ replicate n false
not-given demands name a zero other = refl
not-given demands name a (suc n) other =
    let later : List Bool = flat_map (λ history. list_any (gives_demand name history) demands ∷ []) (range_with_len (a + 1) n) in
    ap (λ (b : Bool). b ∷ later) (gives-none demands name a other)
    ∙ ap (λ (bs : List Bool). false ∷ bs) (not-given demands name (a + 1) n other)

-- the names of the products before are there among one product more
named-more : (products rows : List Row) (row : Row) → NameProducts products rows → NameProducts (products ++ row ∷ []) rows
named-more products rows row named =
    All-weaker (λ r. is_named products (field r 1) ≡ true) (λ r. is_named (products ++ row ∷ []) (field r 1) ≡ true)
    (λ r there. list_any-append (λ p. bytes_eq (field p 1) (field r 1)) products (row ∷ [])
    ∙ or_left (is_named products (field r 1)) (bytes_eq (field row 1) (field r 1) || false) there)
    rows named

-- a product that no refund row names has all of its fare given back
pub all-given-back : (products refunds : List Row) (name : List ℕ) → is_named products name ≡ false → NameProducts products refunds
    → (refund_given refunds name ≡ 100) × (is_named refunds name ≡ false)
all-given-back products refunds name none named =
    let other = list_any_none (λ r. bytes_eq (field r 1) name) refunds (fresh-of products refunds name none named) in (
      ap (λ (o : Option Row). option_map_or (λ r. value_of (field r 2)) o 100) (find-none (λ r. bytes_eq (field r 1) name) refunds other),
      other,
    )

-- one product more
pub product-grows : (draft after : Draft) (taken : List Row) (row : Row) → Stands draft taken → HasShape taken row product_kind
    → why_refused taken row ≡ None → AddsProduct draft after (product_in (leg_rows taken) (refund_rows taken) row)
    → Stands after (taken ++ row ∷ [])
product-grows draft after [] row is shape free (products, product_names, demand, given, refunded, others) =
    let no : true ≡ false = shape.order in cc
product-grows draft after (first ∷ more) row is shape free (products, product_names, demand, given, refunded, others) =
    let taken : List Row = first ∷ more in
    let histories : ℕ = histories_in taken in
    let periods : ℕ = periods_in taken in
    let word = word-of taken row product_kind shape in
    let checked = product-checked taken row word free in
    let other = fresh-of (product_rows taken) (demand_rows taken) (field row 1) checked.fresh is.named in
    let (all, none) = all-given-back (product_rows taken) (refund_rows taken) (field row 1) checked.fresh is.refunds_named in
    let its = product_in (leg_rows taken) (refund_rows taken) in
    stands-by after (taken ++ row ∷ []) (leg_rows taken) (product_rows taken ++ row ∷ []) (demand_rows taken) (refund_rows taken)
    (version_in taken) histories periods (record {
      accepted = accepts-more taken row is.accepted free;
      version_is = refl;
      histories_is = refl;
      periods_is = refl;
      legs_are = apart (codes "product") (codes "leg") taken row word refl;
      products_are = push-yes (begins (codes "product")) taken row (begins-as (codes "product") (codes "product") row word);
      demands_are = apart (codes "product") (codes "demand") taken row word refl;
      refunds_are = apart (codes "product") (codes "refund") taken row word refl;
    }) (record {
      version_is = (λ i. (others i).version) ∙ is.version;
      histories_is = (λ i. (others i).histories) ∙ is.histories;
      periods_is = (λ i. (others i).periods) ∙ is.periods;
      legs_are = (λ i. (others i).legs.items) ∙ is.legs;
      leg_names = (λ i. (others i).leg_names) ∙ is.leg_names;
      products_are = products ∙ ap (λ (p : List Product). p ++ its row ∷ []) is.products
          ∙ sym (map-append its (product_rows taken) (row ∷ []));
      product_names = product_names ∙ ap (λ (n : List (List ℕ)). n ++ field row 1 ∷ []) is.product_names
          ∙ sym (names-more (product_rows taken) row);
      named = named-more (product_rows taken) (demand_rows taken) row is.named;
      demand = demand ∙ ap (λ (d : List ℕ). d ++ replicate (draft.histories * draft.periods) 0) is.demand
          ∙ ap (λ (n : ℕ). demand_by histories periods (demand_rows taken) (product_rows taken) ++ replicate (n * draft.periods) 0)
          is.histories
          ∙ ap (λ (n : ℕ). demand_by histories periods (demand_rows taken) (product_rows taken) ++ replicate (histories * n) 0) is.periods
          ∙ sym (flat_map-append (λ product.
          flat_map (λ history. option_map_or further_numbers (find (gives_demand (field product 1) history) (demand_rows taken))
          (replicate periods 0)) (range_with_len 1 histories)) (product_rows taken) (row ∷ [])
          ∙ ap (λ (xs : List ℕ). demand_by histories periods (demand_rows taken) (product_rows taken) ++ xs) (append-nil _
          ∙ no-demand (demand_rows taken) (field row 1) periods 1 histories other));
      given = given ∙ ap (λ (d : List Bool). d ++ replicate draft.histories false) is.given
          ∙ ap (λ (n : ℕ). given_by histories (demand_rows taken) (product_rows taken) ++ replicate n false) is.histories
          ∙ sym (flat_map-append (λ product.
          flat_map (λ history. list_any (gives_demand (field product 1) history) (demand_rows taken) ∷ []) (range_with_len 1 histories))
          (product_rows taken) (row ∷ [])
          ∙ ap (λ (xs : List Bool). given_by histories (demand_rows taken) (product_rows taken) ++ xs) (append-nil _
          ∙ not-given (demand_rows taken) (field row 1) 1 histories other));
      refunds_named = named-more (product_rows taken) (refund_rows taken) row is.refunds_named;
      refunded = refunded ∙ ap (λ (bs : List Bool). bs ++ false ∷ []) is.refunded
          ∙ ap (λ (b : Bool). refunded_by (refund_rows taken) (product_rows taken) ++ b ∷ []) (sym none)
          ∙ sym (map-append (λ product. is_named (refund_rows taken) (field product 1)) (product_rows taken) (row ∷ []));
    })

-- a product of these parts is the row's
pub product-same : (legs refunds : List Row) (row : Row) (name numbers : List ℕ) (fare refund : ℕ) → name ≡ field row 1
    → fare ≡ value_of (field row 2) → refund ≡ refund_given refunds (field row 1) → numbers ≡ map (number_of_leg legs) (further row)
    → (let product : Product = record { name = name; fare = fare; refund = refund; legs = numbers } in product) ≡ product_in legs refunds row
product-same legs refunds row name numbers fare refund n f r l = λ i. record { name = n i; fare = f i; refund = r i; legs = l i }

-- the legs and the products are few
pub few-legs : (taken : List Row) (row : Row) (kind : Kind) → out_of_order taken kind ≡ false → is_periods kind ≡ false
    → Accepts why_refused [] taken → length (leg_rows taken) ≤ 64
few-legs [] row kind order other accepted = absurd (true≢false (sym (ap not other) ∙ order))
few-legs (first ∷ more) row kind order other accepted = (good-taken first more accepted).few_legs
