-- The canonical file of a network is read as that network.
use Rattle.std.proofs.Common.{ℕ, zero, suc, ◌≡◌, ◌∙◌, ◌+◌, ◌*◌, ◌<◌, ◌≤◌, Bool, true, false, ◌==◌, List, [], ◌∷◌, ◌++◌, length, get_or, map}
use Rattle.std.proofs.Common.{flat_map, take, drop, bytes_eq, refl, sym, ap, subst, arith, length-append, All, None, Ok, filter, nat_lt}
use Rattle.std.specs.Prelude.{decimal, codes, find, replicate}
use Rattle.std.specs.Option.{option_map_or}
use Rattle.std.specs.List.{list_any, range_with_len}
use Rattle.std.proofs.lemmas.Bool.{or_from, or_left, or_right, ne_eqb, le-ltb}
use Rattle.std.proofs.lemmas.List.{append-nil, length-map, take_all}
use Rattle.std.proofs.lemmas.List.Elements.{All-append, All-cons, All-head, All-map, All-tail, filter-append}
use Rattle.std.proofs.lemmas.List.Folds.{flat_map-map}
use Rattle.csv.specs.Reading.{strip_bom, records, default_config}
use Rattle.nrm_text.specs.Numbers.{value_of}
use Rattle.nrm_text.proofs.Decimals.{value_of-decimal}
use Rattle.nrm_model.specs.declared.leg.Leg.{Leg}
use Rattle.nrm_model.specs.declared.product.Product.{Product}
use Rattle.nrm_model.specs.Network.{NetworkValue, leg_of}
use Rattle.nrm_model.specs.Demand.{demand_row}
use Rattle.nrm_model.specs.Limits.{IsNetwork, IsLeg, IsProduct}
use Rattle.nrm_network.specs.Rows.{Row, begins, rows_of, leg_rows, product_rows, demand_rows, refund_rows, histories_in, periods_in, gives_demand}
use Rattle.nrm_network.specs.Rows.{further_numbers, field, is_named}
use Rattle.nrm_network.specs.Checks.{why_refused}
use Rattle.nrm_network.specs.File.{file_of, network_of, refusal_after, lacks_a_kind, leg_in, product_in, number_of_leg, refund_given, demand_given}
use Rattle.nrm_network.specs.Canonical.{PrintedIsRead, periods_fields, leg_fields, product_fields, canonical_rows, canonical_file}
use Rattle.nrm_network.specs.declared.fault.Why.TheVariants as why
use Rattle.nrm_network.proofs.PlainRows.{records-plain, texts-short, IsPlainRow}
use Rattle.nrm_network.proofs.CanonicalRows.{demands-plain, leg-plain, periods-plain, product-plain}
use Rattle.nrm_network.proofs.NumberFields.{values-of, bytes-same}
use Rattle.nrm_network.proofs.CanonicalChecks.{periods-accepted}
use Rattle.nrm_network.proofs.LegNames.{leg-place}
use Rattle.nrm_network.proofs.DemandRows.{demands, demands-leg_rows, demands-product_rows, demands-demand_rows, demands-refund_rows}
use Rattle.nrm_network.proofs.RefundRows.{refund-back, refunds, refunds-demand_rows, refunds-leg_rows, refunds-plain, refunds-product_rows}
use Rattle.nrm_network.proofs.RefundRows.{refunds-refund_rows, refunds-taken}
use Rattle.nrm_network.proofs.DemandBack.{given-back, products-flat}
use Rattle.nrm_network.specs.Inner.Draft.{Accepts}
use Rattle.nrm_network.proofs.RefusalPlace.{Accepts-append, refusal_after-none}
use Rattle.nrm_network.proofs.CanonicalTaken.{legs-taken, products-taken, demands-taken}

-- the rows of each kind among the legs' and the products' rows
legs-leg_rows : (legs : List Leg) → leg_rows (map leg_fields legs) ≡ map leg_fields legs
legs-leg_rows [] = refl
legs-leg_rows (leg ∷ legs) = ap (λ (rows : List Row). leg_fields leg ∷ rows) (legs-leg_rows legs)

legs-product_rows : (legs : List Leg) → product_rows (map leg_fields legs) ≡ []
legs-product_rows [] = refl
legs-product_rows (leg ∷ legs) = legs-product_rows legs

legs-demand_rows : (legs : List Leg) → demand_rows (map leg_fields legs) ≡ []
legs-demand_rows [] = refl
legs-demand_rows (leg ∷ legs) = legs-demand_rows legs

legs-refund_rows : (legs : List Leg) → refund_rows (map leg_fields legs) ≡ []
legs-refund_rows [] = refl
legs-refund_rows (leg ∷ legs) = legs-refund_rows legs

products-leg_rows : (net : NetworkValue) (products : List Product) → leg_rows (map (product_fields net) products) ≡ []
products-leg_rows net [] = refl
products-leg_rows net (product ∷ products) = products-leg_rows net products

products-product_rows : (net : NetworkValue) (products : List Product)
    → product_rows (map (product_fields net) products) ≡ map (product_fields net) products
products-product_rows net [] = refl
products-product_rows net (product ∷ products) =
    ap (λ (rows : List Row). product_fields net product ∷ rows) (products-product_rows net products)

products-demand_rows : (net : NetworkValue) (products : List Product) → demand_rows (map (product_fields net) products) ≡ []
products-demand_rows net [] = refl
products-demand_rows net (product ∷ products) = products-demand_rows net products

products-refund_rows : (net : NetworkValue) (products : List Product) → refund_rows (map (product_fields net) products) ≡ []
products-refund_rows net [] = refl
products-refund_rows net (product ∷ products) = products-refund_rows net products

two-parts : (p : Row → Bool) (xs ys a b : List Row) → filter p xs ≡ a → filter p ys ≡ b → filter p (xs ++ ys) ≡ a ++ b
two-parts p xs ys a b ea eb = filter-append p xs ys ∙ ap (λ (r : List Row). r ++ filter p ys) ea ∙ ap (λ (r : List Row). a ++ r) eb

-- the parts of the file, in their order
abbrev legs_part : NetworkValue → List Row
legs_part net = map leg_fields net.legs

abbrev products_part : NetworkValue → List Row
products_part net = map (product_fields net) net.products

abbrev refunds_part : NetworkValue → List Row
refunds_part net = refunds net.products

abbrev demand_part : NetworkValue → List Row
demand_part net = demands net 0 net.products

-- among all rows, those that pass a test, by the parts
parts : (p : Row → Bool) (net : NetworkValue) (a b c d : List Row) → filter p (legs_part net) ≡ a → filter p (products_part net) ≡ b
    → filter p (refunds_part net) ≡ c → filter p (demand_part net) ≡ d
    → filter p (legs_part net ++ products_part net ++ refunds_part net ++ demand_part net) ≡ a ++ b ++ c ++ d
parts p net a b c d ea eb ec ed =
    two-parts p (legs_part net ++ products_part net ++ refunds_part net) (demand_part net) (a ++ b ++ c) d
    (two-parts p (legs_part net ++ products_part net) (refunds_part net) (a ++ b) c
    (two-parts p (legs_part net) (products_part net) a b ea eb) ec) ed

-- the rows of each kind before the refunds, and before the demand
front-product_rows : (net : NetworkValue) → product_rows (legs_part net ++ products_part net) ≡ products_part net
front-product_rows net = two-parts (begins (codes "product")) (legs_part net) (products_part net) [] (products_part net)
    (legs-product_rows net.legs) (products-product_rows net net.products)

front-refund_rows : (net : NetworkValue) → refund_rows (legs_part net ++ products_part net) ≡ []
front-refund_rows net = two-parts (begins (codes "refund")) (legs_part net) (products_part net) [] [] (legs-refund_rows net.legs)
    (products-refund_rows net net.products)

later-product_rows : (net : NetworkValue) → product_rows (legs_part net ++ products_part net ++ refunds_part net) ≡ products_part net
later-product_rows net =
    two-parts (begins (codes "product")) (legs_part net ++ products_part net) (refunds_part net) (products_part net) []
    (front-product_rows net) (refunds-product_rows net.products) ∙ append-nil (products_part net)

later-demand_rows : (net : NetworkValue) → demand_rows (legs_part net ++ products_part net ++ refunds_part net) ≡ []
later-demand_rows net =
    two-parts (begins (codes "demand")) (legs_part net ++ products_part net) (refunds_part net) [] []
    (two-parts (begins (codes "demand")) (legs_part net) (products_part net) [] [] (legs-demand_rows net.legs)
    (products-demand_rows net net.products)) (refunds-demand_rows net.products)

-- and of the whole file
all-leg_rows : (net : NetworkValue) → leg_rows (canonical_rows net) ≡ legs_part net
all-leg_rows net =
    parts (begins (codes "leg")) net (legs_part net) [] [] [] (legs-leg_rows net.legs) (products-leg_rows net net.products)
    (refunds-leg_rows net.products) (demands-leg_rows net 0 net.products)
    ∙ append-nil (legs_part net ++ [] ++ []) ∙ append-nil (legs_part net ++ []) ∙ append-nil (legs_part net)

all-product_rows : (net : NetworkValue) → product_rows (canonical_rows net) ≡ products_part net
all-product_rows net =
    parts (begins (codes "product")) net [] (products_part net) [] [] (legs-product_rows net.legs) (products-product_rows net net.products)
    (refunds-product_rows net.products) (demands-product_rows net 0 net.products)
    ∙ append-nil (products_part net ++ []) ∙ append-nil (products_part net)

all-refund_rows : (net : NetworkValue) → refund_rows (canonical_rows net) ≡ refunds_part net
all-refund_rows net =
    parts (begins (codes "refund")) net [] [] (refunds_part net) [] (legs-refund_rows net.legs) (products-refund_rows net net.products)
    (refunds-refund_rows net.products) (demands-refund_rows net 0 net.products) ∙ append-nil (refunds_part net)

all-demand_rows : (net : NetworkValue) → demand_rows (canonical_rows net) ≡ demand_part net
all-demand_rows net =
    parts (begins (codes "demand")) net [] [] [] (demand_part net) (legs-demand_rows net.legs) (products-demand_rows net net.products)
    (refunds-demand_rows net.products) (demands-demand_rows net 0 net.products)

-- the rows are plain, and few
canonical-plain : (net : NetworkValue) → IsNetwork net → All IsPlainRow (canonical_rows net)
canonical-plain net is =
    let legs = All-map IsPlainRow leg_fields net.legs (λ k d short. leg-plain (get_or net.legs k d) (is.legs k d short)) in
    let products = All-map IsPlainRow (product_fields net) net.products
    (λ k d short. product-plain net is (get_or net.products k d) (is.products k d short)) in
    let given = (refunds-plain (length net.legs) net.products is.products).0 in
    let demands = (demands-plain net is 0 net.products is.products (omega arith)).0 in
    All-cons IsPlainRow (periods_fields net) (legs_part net ++ products_part net ++ refunds_part net ++ demand_part net)
    (periods-plain net is)
    (All-append IsPlainRow (legs_part net ++ products_part net ++ refunds_part net) (demand_part net)
    (All-append IsPlainRow (legs_part net ++ products_part net) (refunds_part net)
    (All-append IsPlainRow (legs_part net) (products_part net) legs products) given) demands)

-- 1 + 64 + 256 + 256 + 256 * 32
canonical-few : (net : NetworkValue) → IsNetwork net → length (canonical_rows net) ≤ 8769
canonical-few net is =
    let (l0, l1) = is.leg_count in
    let (p0, p1) = is.product_count in
    let given = (refunds-plain (length net.legs) net.products is.products).1 in
    let demands = (demands-plain net is 0 net.products is.products (omega arith)).1 in
    omega (
      arith,
      given,
      demands,
      length-append (legs_part net ++ products_part net ++ refunds_part net) (demand_part net),
      length-append (legs_part net ++ products_part net) (refunds_part net),
      length-append (legs_part net) (products_part net),
      length-map net.legs leg_fields,
      length-map net.products (product_fields net),
    )

-- each product's name is among the product rows
named-at : (net : NetworkValue) (products : List Product) (k : ℕ) (d : Product) → k < length products
    → is_named (map (product_fields net) products) (get_or products k d).name ≡ true
named-at net [] k d few = absurd (omega arith)
named-at net (product ∷ more) zero d few =
    or_left (bytes_eq product.name product.name) (is_named (map (product_fields net) more) product.name) (bytes-same product.name)
named-at net (product ∷ more) (suc k) d few =
    or_right (bytes_eq product.name (get_or more k d).name) (is_named (map (product_fields net) more) (get_or more k d).name)
    (named-at net more k d (omega arith))

-- no row is refused
legs-accepted : (net : NetworkValue) → IsNetwork net → Accepts why_refused (periods_fields net ∷ []) (legs_part net)
legs-accepted net is = let (low, high) = is.leg_count in
    legs-taken net is [] net.legs is.legs (omega arith) (λ k d short. refl) is.leg_names

products-accepted : (net : NetworkValue) → IsNetwork net → Accepts why_refused (periods_fields net ∷ legs_part net) (products_part net)
products-accepted net is =
    let (low, high) = is.product_count in
    let none = legs-product_rows net.legs in
    products-taken net is (legs_part net) net.products is.products (legs-leg_rows net.legs) (rw none (omega arith))
    (λ k d short. rw none refl) is.product_names

refunds-accepted : (net : NetworkValue) → IsNetwork net
    → Accepts why_refused (periods_fields net ∷ (legs_part net ++ products_part net)) (refunds_part net)
refunds-accepted net is =
    let named = front-product_rows net in
    let none = front-refund_rows net in
    refunds-taken net (legs_part net ++ products_part net) net.products is.products
    (λ k d short. subst (λ (rows : List Row). is_named rows (get_or net.products k d).name ≡ true) (sym named)
    (named-at net net.products k d short))
    (λ k d short. subst (λ (rows : List Row). is_named rows (get_or net.products k d).name ≡ false) (sym none) refl)
    is.product_names

demands-accepted : (net : NetworkValue) → IsNetwork net
    → Accepts why_refused (periods_fields net ∷ (legs_part net ++ products_part net ++ refunds_part net)) (demand_part net)
demands-accepted net is =
    let named = later-product_rows net in
    let none = later-demand_rows net in
    demands-taken net is (legs_part net ++ products_part net ++ refunds_part net) 0 net.products is.products (omega arith)
    (λ k d short. subst (λ (rows : List Row). is_named rows (get_or net.products k d).name ≡ true) (sym named)
    (named-at net net.products k d short))
    (λ k d short t. subst (λ (rows : List Row). list_any (gives_demand (get_or net.products k d).name t) rows ≡ false) (sym none) refl)
    is.product_names

has-both : (net : NetworkValue) → IsNetwork net → lacks_a_kind (canonical_rows net) ≡ false
has-both net is =
    let (l0, l1) = is.leg_count in
    let (p0, p1) = is.product_count in
    let legs = ap (λ (rows : List Row). length rows) (all-leg_rows net) ∙ length-map net.legs leg_fields in
    let products = ap (λ (rows : List Row). length rows) (all-product_rows net) ∙ length-map net.products (product_fields net) in
    or_from (length (leg_rows (canonical_rows net)) == 0) (length (product_rows (canonical_rows net)) == 0)
    (ne_eqb (length (leg_rows (canonical_rows net))) 0 (λ e. let none : length net.legs ≡ 0 = sym legs ∙ e in omega (arith, none, l0)))
    (ne_eqb (length (product_rows (canonical_rows net))) 0 (λ e. let none : length net.products ≡ 0 = sym products
    ∙ e in omega (arith, none, p0)))

all-taken : (net : NetworkValue) → IsNetwork net → refusal_after why_refused why.Empty [] (canonical_rows net) ≡ None
all-taken net is =
    refusal_after-none why_refused why.Empty [] (canonical_rows net) (
      periods-accepted net is,
      Accepts-append why_refused (periods_fields net ∷ []) (legs_part net ++ products_part net ++ refunds_part net) (demand_part net)
          (Accepts-append why_refused (periods_fields net ∷ []) (legs_part net ++ products_part net) (refunds_part net)
          (Accepts-append why_refused (periods_fields net ∷ []) (legs_part net) (products_part net) (legs-accepted net is)
          (products-accepted net is)) (refunds-accepted net is)) (demands-accepted net is),
    ) (has-both net is)

leg-back : (leg : Leg) → IsLeg leg → leg_in 2 (leg_fields leg) ≡ leg
leg-back leg good =
    let seats_in = good.seats in
    let authorised_in = good.authorised in
    let authorised_are : value_of (decimal leg.authorised) ≡ leg.authorised = value_of-decimal leg.authorised (omega arith) in
    let seats_are : value_of (decimal leg.seats) ≡ leg.seats = value_of-decimal leg.seats (omega arith) in
    let cuts_are : map value_of (map decimal leg.cuts) ≡ leg.cuts =
    values-of leg.cuts (λ k d short. let (low, high) = good.cuts k d short in omega arith) in
    λ i. record { name = leg.name; seats = seats_are i; authorised = authorised_are i; cuts = cuts_are i }

legs-back : (legs : List Leg) → All IsLeg legs → map (leg_in 2) (map leg_fields legs) ≡ legs
legs-back [] good = refl
legs-back (leg ∷ more) good =
    let one = leg-back leg (All-head IsLeg leg more good) in
    let rest = legs-back more (All-tail IsLeg leg more good) in
    λ i. one i ∷ rest i

-- the legs of a product, by their names
numbers-back : (net : NetworkValue) → IsNetwork net → (legs : List ℕ) → All (λ k. k < length net.legs) legs
    → map (number_of_leg (legs_part net)) (map (λ k. (leg_of net k).name) legs) ≡ legs
numbers-back net is [] within = refl
numbers-back net is (k ∷ more) within =
    let one : number_of_leg (legs_part net) (leg_of net k).name ≡ k =
    rw (leg-place net is k (All-head (λ m. m < length net.legs) k more within)) refl in
    let rest = numbers-back net is more (All-tail (λ m. m < length net.legs) k more within) in
    λ i. one i ∷ rest i

product-back : (net : NetworkValue) → IsNetwork net → (given : List Row) (product : Product) → IsProduct (length net.legs) product
    → refund_given given product.name ≡ product.refund
    → product_in (legs_part net) given (product_fields net product) ≡ product
product-back net is given product good refund_is =
    let (f0, f1) = good.fare in
    let fare_is : value_of (decimal product.fare) ≡ product.fare = value_of-decimal product.fare (omega arith) in
    let legs_are = numbers-back net is product.legs good.legs in
    λ i. record { name = product.name; fare = fare_is i; refund = refund_is i; legs = legs_are i }

products-back : (net : NetworkValue) → IsNetwork net → (given : List Row) (products : List Product)
    → All (IsProduct (length net.legs)) products → All (λ product. refund_given given product.name ≡ product.refund) products
    → map (product_in (legs_part net) given) (map (product_fields net) products) ≡ products
products-back net is given [] good refunds_are = refl
products-back net is given (product ∷ more) good refunds_are =
    let one = product-back net is given product (All-head (IsProduct (length net.legs)) product more good)
    (All-head (λ p. refund_given given p.name ≡ p.refund) product more refunds_are) in
    let rest = products-back net is given more (All-tail (IsProduct (length net.legs)) product more good)
    (All-tail (λ p. refund_given given p.name ≡ p.refund) product more refunds_are) in
    λ i. one i ∷ rest i

-- the demand that the rows give, where the rows of each kind are these
demand-is : (net : NetworkValue) → IsNetwork net → (rows : List Row) → histories_in rows ≡ net.histories → periods_in rows ≡ net.periods
    → product_rows rows ≡ products_part net → demand_rows rows ≡ demand_part net
    → flat_map (λ row. flat_map (demand_given rows (field row 1)) (range_with_len 1 (histories_in rows))) (product_rows rows) ≡ net.demand
demand-is net is rows histories_are periods_are products_are demand_are =
    let given = λ (name : List ℕ) (t : ℕ).
    ap (λ (d : List Row). option_map_or further_numbers (find (gives_demand name t) d) (replicate (periods_in rows) 0)) demand_are
    ∙ ap (λ (n : ℕ). option_map_or further_numbers (find (gives_demand name t) (demand_part net)) (replicate n 0)) periods_are in
    let count = is.demand_count in
    let start : 0 * net.histories * net.periods ≡ 0 = omega arith in
    let whole : take (length net.products * net.histories * net.periods) net.demand ≡ net.demand =
    take_all (length net.products * net.histories * net.periods) net.demand (omega (arith, count)) in
    ap (λ (products : List Row). flat_map
    (λ row. flat_map (demand_given rows (field row 1)) (range_with_len 1 (histories_in rows))) products) products_are
    ∙ ap (λ (n : ℕ). flat_map (λ row. flat_map (demand_given rows (field row 1)) (range_with_len 1 n)) (products_part net)) histories_are
    ∙ flat_map-map (λ row. flat_map (demand_given rows (field row 1)) (range_with_len 1 net.histories)) (product_fields net) net.products
    ∙ products-flat net (demand_given rows) 0 net.products (λ i h d short few.
    let number : i ≡ 0 + i = omega arith in
    given (get_or net.products i d).name (h + 1) ∙ given-back net is i h d short few ∙ ap (λ (k : ℕ). demand_row net k h) number)
    ∙ ap (λ (k : ℕ). take (length net.products * net.histories * net.periods) (drop k net.demand)) start ∙ whole

network-back : (net : NetworkValue) → IsNetwork net → network_of (canonical_rows net) ≡ net
network-back net is =
    let (h0, h1) = is.histories in
    let (p0, p1) = is.periods in
    let rows : List Row = canonical_rows net in
    let histories_are : value_of (decimal net.histories) ≡ net.histories = value_of-decimal net.histories (omega arith) in
    let periods_are : value_of (decimal net.periods) ≡ net.periods = value_of-decimal net.periods (omega arith) in
    let legs_are = ap (λ (r : List Row). map (leg_in 2) r) (all-leg_rows net) ∙ legs-back net.legs is.legs in
    let legs = all-leg_rows net in
    let given = all-refund_rows net in
    let products = all-product_rows net in
    let products_are = (λ i. map (product_in (legs i) (given i)) (products i))
    ∙ products-back net is (refunds_part net) net.products is.products (refund-back (length net.legs) net.products is.products is.product_names) in
    let demand_are = demand-is net is rows histories_are periods_are (all-product_rows net) (all-demand_rows net) in
    λ i. record {
      histories = histories_are i;
      periods = periods_are i;
      legs = legs_are i;
      products = products_are i;
      demand =
          demand_are i;
    }

-- no byte order mark stands at the start
no-mark : (net : NetworkValue) → strip_bom (canonical_file net) ≡ canonical_file net
unfolding strip_bom
no-mark net = refl

file-from : (bytes : List ℕ) (rows : List Row) (net : NetworkValue) → nat_lt 4194304 (length bytes) ≡ false → rows_of bytes ≡ rows
    → refusal_after why_refused why.Empty [] rows ≡ None → network_of rows ≡ net → file_of bytes ≡ Ok net
file-from bytes rows net short read taken same = rw (short, read, taken, same) refl

pub printed : PrintedIsRead
printed net is =
    let bytes = canonical_file net in
    let plain = canonical-plain net is in
    let size : length bytes ≤ 248 * length (canonical_rows net) = texts-short (canonical_rows net) plain in
    let few = canonical-few net is in
    let read = ap (λ (b : List ℕ). records default_config b) (no-mark net) ∙ records-plain (canonical_rows net) plain in
    file-from bytes (canonical_rows net) net (le-ltb 4194304 (length bytes) (omega (arith, size, few))) read (all-taken net is)
    (network-back net is)
