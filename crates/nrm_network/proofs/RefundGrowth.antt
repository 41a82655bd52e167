-- A draft grows by a refund row that was taken.
use Rattle.std.proofs.Common.{ℕ, zero, suc, ◌≡◌, ◌≢◌, ◌∙◌, ◌<◌, Bool, true, false, List, [], ◌∷◌, ◌++◌, length, map, get_or, set, bytes_eq, codes}
use Rattle.std.proofs.Common.{refl, sym, ap, subst, arith, Option, Some, None}
use Rattle.std.specs.Prelude.{option_map, slice_get}
use Rattle.std.specs.Option.{option_map_or}
use Rattle.std.specs.List.{position_from}
use Rattle.std.proofs.lemmas.List.{length-map, get_or-map}
use Rattle.std.proofs.lemmas.List.Elements.{All-push}
use Rattle.std.proofs.lemmas.Option.{slice_get-get_or, slice_get-map}
use Rattle.nrm_text.specs.Numbers.{value_of}
use Rattle.nrm_model.specs.declared.product.Product.{Product}
use Rattle.nrm_network.specs.Rows.{Row, refund_kind, field, begins, leg_rows, product_rows, demand_rows, refund_rows, version_in, histories_in}
use Rattle.nrm_network.specs.Rows.{periods_in, is_named, further}
use Rattle.nrm_network.specs.Checks.{why_refused}
use Rattle.nrm_network.specs.File.{number_of_leg, product_in, refund_given}
use Rattle.nrm_network.specs.Inner.Draft.{SetsRefund, Stands, names_of, refunded_by}
use Rattle.nrm_network.specs.Inner.Entries.{HasShape}
use Rattle.nrm_network.specs.declared.draft.Draft.{Draft}
use Rattle.nrm_network.proofs.NumberFields.{bytes-same}
use Rattle.nrm_network.proofs.CheckedRows.{begins-as}
use Rattle.nrm_network.proofs.GoodRows.{push-yes}
use Rattle.nrm_network.proofs.ReadNetwork.{names-apart}
use Rattle.nrm_network.proofs.ChecksAfterShape.{word-of}
use Rattle.nrm_network.proofs.DraftGrowth.{accepts-more, apart, good-taken, stands-by}
use Rattle.nrm_network.proofs.DemandGrowth.{Found, any-no, any-yes, find-no, find-yes, found-product}
use Rattle.nrm_model.proofs.NameLemmas.{bytes_eq-apart}

-- what functions give of the elements of a list, where they differ at one element alone
map-one : {X Y : Type 0} (f g : X → Y) (xs : List X) (j : ℕ) (d : X) → j < length xs
    → ((k : ℕ) → k < length xs → k ≢ j → g (get_or xs k d) ≡ f (get_or xs k d)) → map g xs ≡ set (map f xs) j (g (get_or xs j d))
map-one f g [] j d short same = absurd (omega arith)
map-one f g (x ∷ xs) zero d short same = ap (λ ys. g x ∷ ys) (all f g xs d (λ k few. same (suc k) (omega arith) (omega arith)))
  where
    all : {X Y : Type 0} (f g : X → Y) (xs : List X) (d : X) → ((k : ℕ) → k < length xs → g (get_or xs k d) ≡ f (get_or xs k d))
        → map g xs ≡ map f xs
    all f g [] d same = refl
    all f g (x ∷ xs) d same =
        let first = same 0 (omega arith) in
        let rest = all f g xs d (λ k few. same (suc k) (omega arith)) in
        λ i. first i ∷ rest i
map-one f g (x ∷ xs) (suc j) d short same =
    let first = same 0 (omega arith) (omega arith) in
    let rest = map-one f g xs j d (omega arith) (λ k few other. same (suc k) (omega arith) (λ e. other (omega arith))) in
    λ i. first i ∷ rest i

-- a row that is of another product than the one of this name
names-not : (products : List Row) (row : Row) (j k : ℕ) → Found products j (field row 1) → k < length products → k ≢ j
    → bytes_eq (field row 1) (field (get_or products k []) 1) ≡ false
names-not products row j k found few other =
    bytes_eq-apart (field row 1) (field (get_or products k []) 1) (λ e. found.others k few other (sym e))

names-here : (products : List Row) (row : Row) (j : ℕ) → Found products j (field row 1)
    → bytes_eq (field row 1) (field (get_or products j []) 1) ≡ true
names-here products row j found =
    subst (λ (n : List ℕ). bytes_eq (field row 1) n ≡ true) (sym found.here) (bytes-same (field row 1))

-- the percentage of another product stays, and that of the row's product is the row's
refund-stays : (products refunds : List Row) (row : Row) (j k : ℕ) → Found products j (field row 1) → k < length products → k ≢ j
    → refund_given (refunds ++ row ∷ []) (field (get_or products k []) 1) ≡ refund_given refunds (field (get_or products k []) 1)
refund-stays products refunds row j k found few other =
    ap (λ (o : Option Row). option_map_or (λ r. value_of (field r 2)) o 100)
    (find-no (λ r. bytes_eq (field r 1) (field (get_or products k []) 1)) refunds row (names-not products row j k found few other))

refund-here : (products refunds : List Row) (row : Row) (j : ℕ) → Found products j (field row 1) → is_named refunds (field row 1) ≡ false
    → refund_given (refunds ++ row ∷ []) (field (get_or products j []) 1) ≡ value_of (field row 2)
refund-here products refunds row j found none =
    let free : is_named refunds (field (get_or products j []) 1) ≡ false =
    subst (λ (n : List ℕ). is_named refunds n ≡ false) (sym found.here) none in
    ap (λ (o : Option Row). option_map_or (λ r. value_of (field r 2)) o 100)
    (find-yes (λ r. bytes_eq (field r 1) (field (get_or products j []) 1)) refunds row free (names-here products row j found))

product-of-row : (legs refunds refunds' : List Row) (row : Row) (n : ℕ) → refund_given refunds' (field row 1) ≡ n
    → product_in legs refunds' row ≡ record (product_in legs refunds row) { refund = n }
product-of-row legs refunds refunds' row n e = λ i. record {
  name = field row 1;
  fare = value_of (field row 2);
  refund = e i;
  legs = map (number_of_leg legs) (further row);
}

products-set : (legs products refunds : List Row) (row : Row) (j : ℕ) → Found products j (field row 1)
    → is_named refunds (field row 1) ≡ false
    → map (product_in legs (refunds ++ row ∷ [])) products
    ≡ set (map (product_in legs refunds) products) j
    (record (product_in legs refunds (get_or products j [])) { refund = value_of (field row 2) })
products-set legs products refunds row j found none =
    map-one (product_in legs refunds) (product_in legs (refunds ++ row ∷ [])) products j [] found.few
    (λ k few other. product-of-row legs refunds (refunds ++ row ∷ []) (get_or products k [])
    (refund_given refunds (field (get_or products k []) 1)) (refund-stays products refunds row j k found few other))
    ∙ ap (λ (p : Product). set (map (product_in legs refunds) products) j p)
    (product-of-row legs refunds (refunds ++ row ∷ []) (get_or products j []) (value_of (field row 2))
    (refund-here products refunds row j found none))

flags-set : (products refunds : List Row) (row : Row) (j : ℕ) → Found products j (field row 1)
    → refunded_by (refunds ++ row ∷ []) products ≡ set (refunded_by refunds products) j true
flags-set products refunds row j found =
    map-one (λ product. is_named refunds (field product 1)) (λ product. is_named (refunds ++ row ∷ []) (field product 1)) products j []
    found.few
    (λ k few other. any-no (λ r. bytes_eq (field r 1) (field (get_or products k []) 1)) refunds row
    (names-not products row j k found few other))
    ∙ ap (λ (b : Bool). set (refunded_by refunds products) j b)
    (any-yes (λ r. bytes_eq (field r 1) (field (get_or products j []) 1)) refunds row (names-here products row j found))

-- the place of a refund row's product
pub record Refunded (draft : Draft) (taken : List Row) (row : Row) (j : ℕ) : Type 0 where
  pub found : Found (product_rows taken) j (field row 1)
  pub few : j < length draft.products.items
  pub flagged : j < length draft.refunded.items
  pub flag : (d : Bool) → get_or draft.refunded.items j d ≡ is_named (refund_rows taken) (field row 1)

pub refund-placed : (draft : Draft) (taken : List Row) (row : Row) (j : ℕ) (name : List ℕ) → Stands draft taken
    → HasShape taken row refund_kind → Some j ≡ position_from (λ other. bytes_eq other name) 0 draft.product_names → name ≡ field row 1
    → Refunded draft taken row j
refund-placed draft [] row j name is shape look same = let no : true ≡ false = shape.order in cc
refund-placed draft (first ∷ more) row j name is shape look same =
    let taken : List Row = first ∷ more in
    let good = good-taken first more is.accepted in
    let found = found-product (product_rows taken) j name (field row 1) draft.product_names look is.product_names same
    (names-apart (names_of (product_rows taken)) good.product_names) in
    let few = found.few in
    let its : Row → Bool = λ product. is_named (refund_rows taken) (field product 1) in
    record {
      found = found;
      few = omega (arith, few, ap length is.products, length-map (product_rows taken) (product_in (leg_rows taken) (refund_rows taken)));
      flagged = omega (arith, few, ap length is.refunded, length-map (product_rows taken) its);
      flag = λ d. ap (λ (bs : List Bool). get_or bs j d) is.refunded ∙ get_or-map its (product_rows taken) j [] d few
          ∙ ap (λ (n : List ℕ). is_named (refund_rows taken) n) found.here;
    }

-- one refund more
pub refund-grows : (draft after : Draft) (taken : List Row) (row : Row) (j : ℕ) → Stands draft taken → HasShape taken row refund_kind
    → why_refused taken row ≡ None → Refunded draft taken row j → is_named (refund_rows taken) (field row 1) ≡ false
    → is_named (product_rows taken) (field row 1) ≡ true → SetsRefund draft after j (value_of (field row 2))
    → Stands after (taken ++ row ∷ [])
refund-grows draft after [] row j is shape free place none there (products, refunded, others) = let no : true ≡ false = shape.order in cc
refund-grows draft after (first ∷ more) row j is shape free place none there (products, refunded, others) =
    let taken : List Row = first ∷ more in
    let rows : List Row = product_rows taken in
    let refunds : List Row = refund_rows taken in
    let word = word-of taken row refund_kind shape in
    let its : Row → Product = product_in (leg_rows taken) refunds in
    let here : slice_get draft.products.items j ≡ Some (its (get_or rows j [])) =
    ap (λ (ps : List Product). slice_get ps j) is.products ∙ slice_get-map its rows j
    ∙ ap (option_map its) (slice_get-get_or rows j [] place.found.few) in
    stands-by after (taken ++ row ∷ []) (leg_rows taken) rows (demand_rows taken) (refunds ++ row ∷ []) (version_in taken)
    (histories_in taken) (periods_in taken) (record {
      accepted = accepts-more taken row is.accepted free;
      version_is = refl;
      histories_is = refl;
      periods_is = refl;
      legs_are = apart (codes "refund") (codes "leg") taken row word refl;
      products_are = apart (codes "refund") (codes "product") taken row word refl;
      demands_are = apart (codes "refund") (codes "demand") taken row word refl;
      refunds_are = push-yes (begins (codes "refund")) taken row (begins-as (codes "refund") (codes "refund") row word);
    }) (record {
      version_is = (λ i. (others i).version) ∙ is.version;
      histories_is = (λ i. (others i).histories) ∙ is.histories;
      periods_is = (λ i. (others i).periods) ∙ is.periods;
      legs_are = (λ i. (others i).legs.items) ∙ is.legs;
      leg_names = (λ i. (others i).leg_names) ∙ is.leg_names;
      products_are = products (its (get_or rows j [])) here
          ∙ ap (λ (ps : List Product). set ps j (record (its (get_or rows j [])) { refund = value_of (field row 2) })) is.products
          ∙ sym (products-set (leg_rows taken) rows refunds row j place.found none);
      product_names = (λ i. (others i).product_names) ∙ is.product_names;
      named = is.named;
      demand = (λ i. (others i).demand.items) ∙ is.demand;
      given = (λ i. (others i).given.items) ∙ is.given;
      refunds_named = All-push (λ r. is_named rows (field r 1) ≡ true) refunds row is.refunds_named there;
      refunded = refunded ∙ ap (λ (bs : List Bool). set bs j true) is.refunded ∙ sym (flags-set rows refunds row j place.found);
    })
