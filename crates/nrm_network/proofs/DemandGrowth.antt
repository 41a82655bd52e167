-- A draft grows by a demand row that was taken.
use Rattle.std.proofs.Common.{ℕ, suc, ◌≡◌, ◌≢◌, ◌∙◌, ◌+◌, ◌-◌, ◌*◌, ◌<◌, ◌≤◌, Bool, true, false, ◌||◌, ◌==◌, List, [], ◌∷◌, ◌++◌, length}
use Rattle.std.proofs.Common.{flat_map, replicate, take, drop, get_or, set, bytes_eq, codes, refl, sym, ap, subst, arith, inl, inr, Option}
use Rattle.std.proofs.Common.{Some, None, All, AllPairs}
use Rattle.std.proofs.Math.Nat.{mul-le-mul_right}
use Rattle.std.proofs.lemmas.List.FromFn.{length-range_with_len}
use Rattle.std.specs.Prelude.{find}
use Rattle.std.specs.Option.{option_map_or}
use Rattle.std.specs.List.{list_any, position_from, range_with_len}
use Rattle.std.proofs.lemmas.Bool.{cases_Bool, cases_lt, and_left, and_right, and_from, or_right, or_left, ne_eqb, eq-eqb}
use Rattle.std.proofs.lemmas.List.{length-map, get_or-map}
use Rattle.std.proofs.lemmas.List.Elements.{All-push}
use Rattle.std.proofs.lemmas.List.Folds.{list_any-append, list_any_at, find-append}
use Rattle.std.proofs.lemmas.Slice.Eq.{bytes_eq-Decides}
use Rattle.nrm_text.specs.Numbers.{value_of}
use Rattle.nrm_network.specs.Rows.{Row, demand_kind, field, begins, leg_rows, product_rows, demand_rows, refund_rows, version_in}
use Rattle.nrm_network.specs.Rows.{histories_in, periods_in, is_named, further, further_numbers, gives_demand}
use Rattle.nrm_network.specs.Checks.{why_refused}
use Rattle.nrm_network.specs.Inner.Draft.{Accepts, SetsDemand, Stands, names_of, demand_by, given_by}
use Rattle.nrm_network.specs.Inner.Entries.{HasShape}
use Rattle.nrm_network.specs.declared.draft.Draft.{Draft}
use Rattle.nrm_network.proofs.NumberFields.{bytes-same}
use Rattle.nrm_network.proofs.CheckedRows.{begins-as, first-checked}
use Rattle.nrm_network.proofs.DemandRows.{find-none}
use Rattle.nrm_network.proofs.GoodRows.{DemandFits, push-yes}
use Rattle.nrm_network.proofs.ReadNetwork.{found-fits, names-apart}
use Rattle.nrm_network.proofs.ChecksAfterShape.{word-of, demand-shape}
use Rattle.nrm_network.proofs.DraftGrowth.{apart, stands-by, good-taken, accepts-more}
use Rattle.nrm_network.proofs.PieceChange.{Differ, long-pieces, one-cell, written, written-one, read-one}
use Rattle.nrm_model.proofs.NameLemmas.{bytes_eq-apart}
use Rattle.std.proofs.lemmas.Option.{none-some}

-- the product that a look-up found, and no other has its name
pub record Found (products : List Row) (j : ℕ) (name : List ℕ) : Type 0 where
  pub few : j < length products
  pub here : field (get_or products j []) 1 ≡ name
  pub others : (k : ℕ) → k < length products → k ≢ j → field (get_or products k []) 1 ≢ name

found-at : (p : List ℕ → Bool) (k n : ℕ) (xs : List (List ℕ)) → Some n ≡ position_from p k xs
    → (i : ℕ) × (n ≡ k + i) × (i < length xs) × (p (get_or xs i []) ≡ true)
found-at p k n [] found = absurd (none-some n (sym found))
found-at p k n (x ∷ xs) found = elim (cases_Bool (p x)) [
  | inl e ↦ let same : Some n ≡ Some k = rw e at found in let here : n ≡ k = cc in (0, omega arith, omega arith, e)
  | inr e ↦ let (i, place, short, holds) = found-at p (k + 1) n xs (rw e at found) in (suc i, omega arith, omega arith, holds)
]

pub found-product : (products : List Row) (j : ℕ) (name text : List ℕ) (names : List (List ℕ))
    → Some j ≡ position_from (λ other. bytes_eq other name) 0 names → names ≡ names_of products → name ≡ text
    → AllPairs (λ a b. a ≢ b) (names_of products) → Found products j text
found-product products j name text names found are same apart =
    let (i, place, short, holds) = found-at (λ other. bytes_eq other name) 0 j (names_of products) (found
    ∙ ap (λ (n : List (List ℕ)). position_from (λ other. bytes_eq other name) 0 n) are) in
    let is : j ≡ i = omega arith in
    let short_j : j < length (names_of products) = omega arith in
    let few : j < length products = omega (arith, short_j, length-map products (λ (r : Row). field r 1)) in
    let at = λ (k : ℕ). get_or-map (λ (r : Row). field r 1) products k [] [] in
    let here : get_or (names_of products) j [] ≡ name = ap (λ (n : ℕ). get_or (names_of products) n []) is
    ∙ (bytes_eq-Decides (get_or (names_of products) i []) name).0 holds in
    record {
      few = few;
      here = sym (at j few) ∙ here ∙ same;
      others = λ k short_k other equal.
          let short_n : k < length (names_of products) = omega (arith, short_k, length-map products (λ (r : Row). field r 1)) in
          let equal_names : get_or (names_of products) k [] ≡ get_or (names_of products) j [] = at k short_k ∙ equal ∙ sym (here ∙ same) in
          elim (cases_lt k j) [
            | inl below ↦ apart k j [] below short_j equal_names
            | inr above ↦ apart j k [] (omega arith) short_n
                (sym equal_names)
          ];
    }

-- one row more that a test passes, or doesn't
pub find-no : (p : Row → Bool) (rows : List Row) (row : Row) → p row ≡ false → find p (rows ++ row ∷ []) ≡ find p rows
find-no p [] row none = rw none refl
find-no p (r ∷ rows) row none = elim (cases_Bool (p r)) [ inl e ↦ rw e refl | inr e ↦ rw e (find-no p rows row none) ]

pub find-yes : (p : Row → Bool) (rows : List Row) (row : Row) → list_any p rows ≡ false → p row ≡ true → find p (rows ++ row ∷ []) ≡ Some row
find-yes p rows row none here = find-append p rows (row ∷ []) ∙ rw (find-none p rows none, here) refl

pub any-no : (p : Row → Bool) (rows : List Row) (row : Row) → p row ≡ false → list_any p (rows ++ row ∷ []) ≡ list_any p rows
any-no p [] row none = rw none refl
any-no p (r ∷ rows) row none = ap (λ (b : Bool). p r || b) (any-no p rows row none)

pub any-yes : (p : Row → Bool) (rows : List Row) (row : Row) → p row ≡ true → list_any p (rows ++ row ∷ []) ≡ true
any-yes p rows row here = list_any-append p rows (row ∷ []) ∙ or_right (list_any p rows) (p row || false) (or_left (p row) false here)

-- what the rows give for a product in a history, and whether they do
abbrev seats_by : ℕ → List Row → Row → ℕ → List ℕ
seats_by periods demands product history =
    option_map_or further_numbers (find (gives_demand (field product 1) history) demands) (replicate periods 0)

abbrev flag_by : List Row → Row → ℕ → List Bool
flag_by demands product history = list_any (gives_demand (field product 1) history) demands ∷ []

gives-not : (products : List Row) (row : Row) (j k t : ℕ) → Found products j (field row 1) → k < length products → k ≢ j
    → gives_demand (field (get_or products k []) 1) t row ≡ false
gives-not products row j k t found few other =
    and_left (bytes_eq (field row 1) (field (get_or products k []) 1)) (value_of (field row 2) == t)
    (bytes_eq-apart (field row 1) (field (get_or products k []) 1) (λ e. found.others k few other (sym e)))

gives-later : (products : List Row) (row : Row) (j t : ℕ) → value_of (field row 2) ≢ t
    → gives_demand (field (get_or products j []) 1) t row ≡ false
gives-later products row j t other =
    and_right (bytes_eq (field row 1) (field (get_or products j []) 1)) (value_of (field row 2) == t)
    (ne_eqb (value_of (field row 2)) t other)

one-each : (n : ℕ) → n * 1 ≡ n
one-each n = omega arith

gives-here : (products : List Row) (row : Row) (j : ℕ) → Found products j (field row 1)
    → gives_demand (field (get_or products j []) 1) (value_of (field row 2)) row ≡ true
gives-here products row j found =
    and_from (bytes_eq (field row 1) (field (get_or products j []) 1)) (value_of (field row 2) == value_of (field row 2))
    (subst (λ (n : List ℕ). bytes_eq (field row 1) n ≡ true) (sym found.here) (bytes-same (field row 1)))
    (eq-eqb (value_of (field row 2)) (value_of (field row 2)) refl)

-- histories count from 1 in a row
history-is : (n : ℕ) → 1 ≤ n → 1 + (n - 1) ≡ n
history-is n above = omega arith

flags-differ : (products demands : List Row) (row : Row) (histories j : ℕ) → Found products j (field row 1) → 1 ≤ value_of (field row 2)
    → value_of (field row 2) ≤ histories
    → Differ 1 (j * histories + (value_of (field row 2) - 1)) (given_by histories demands products)
    (given_by histories (demands ++ row ∷ []) products) (list_any (gives_demand (field row 1) (value_of (field row 2))) demands ∷ [])
    (true ∷ [])
flags-differ products demands row histories j found above below =
    let t : ℕ = value_of (field row 2) in
    let p : Row = get_or products j [] in
    let d = one-cell (flag_by demands) (flag_by (demands ++ row ∷ [])) products histories 1 j (t - 1) found.few (omega arith) (λ q n. refl)
    (λ k few other n. ap (λ (b : Bool). b ∷ [])
    (any-no (gives_demand (field (get_or products k []) 1) n) demands row (gives-not products row j k n found few other)))
    (λ n other. ap (λ (b : Bool). b ∷ [])
    (any-no (gives_demand (field p 1) n) demands row (gives-later products row j n (λ e. other (sym e ∙ sym (history-is t above)))))) in
    let was : flag_by demands p (1 + (t - 1)) ≡ list_any (gives_demand (field row 1) t) demands ∷ [] =
    ap (λ (n : ℕ). flag_by demands p n) (history-is t above)
    ∙ ap (λ (n : List ℕ). list_any (gives_demand n t) demands ∷ []) found.here in
    let is : flag_by (demands ++ row ∷ []) p (1 + (t - 1)) ≡ true ∷ [] =
    ap (λ (n : ℕ). flag_by (demands ++ row ∷ []) p n) (history-is t above)
    ∙ ap (λ (b : Bool). b ∷ []) (any-yes (gives_demand (field p 1) t) demands row (gives-here products row j found)) in
    subst (λ (w : List Bool). Differ 1 (j * histories + (t - 1)) (given_by histories demands products)
    (given_by histories (demands ++ row ∷ []) products) w (true ∷ [])) was
    (subst (λ (i : List Bool). Differ 1 (j * histories + (t - 1)) (given_by histories demands products)
    (given_by histories (demands ++ row ∷ []) products) (flag_by demands p (1 + (t - 1))) i) is d)

seats-differ : (products demands : List Row) (row : Row) (histories periods j : ℕ) → Found products j (field row 1)
    → 1 ≤ value_of (field row 2) → value_of (field row 2) ≤ histories → All (DemandFits periods) demands
    → list_any (gives_demand (field row 1) (value_of (field row 2))) demands ≡ false
    → Differ periods (j * histories + (value_of (field row 2) - 1)) (demand_by histories periods demands products)
    (demand_by histories periods (demands ++ row ∷ []) products)
    (seats_by periods demands (get_or products j []) (1 + (value_of (field row 2) - 1))) (further_numbers row)
seats-differ products demands row histories periods j found above below fits none =
    let t : ℕ = value_of (field row 2) in
    let p : Row = get_or products j [] in
    let d = one-cell (seats_by periods demands) (seats_by periods (demands ++ row ∷ [])) products histories periods j (t - 1) found.few
    (omega arith) (λ q n. (found-fits periods (gives_demand (field q 1) n) demands fits).0)
    (λ k few other n. ap (λ (o : Option Row). option_map_or further_numbers o (replicate periods 0))
    (find-no (gives_demand (field (get_or products k []) 1) n) demands row (gives-not products row j k n found few other)))
    (λ n other. ap (λ (o : Option Row). option_map_or further_numbers o (replicate periods 0))
    (find-no (gives_demand (field p 1) n) demands row (gives-later products row j n (λ e. other (sym e ∙ sym (history-is t above))))))
    in
    let none_here : list_any (gives_demand (field p 1) t) demands ≡ false =
    subst (λ (n : List ℕ). list_any (gives_demand n t) demands ≡ false) (sym found.here) none in
    let is : seats_by periods (demands ++ row ∷ []) p (1 + (t - 1)) ≡ further_numbers row =
    ap (λ (n : ℕ). seats_by periods (demands ++ row ∷ []) p n) (history-is t above)
    ∙ ap (λ (o : Option Row). option_map_or further_numbers o (replicate periods 0))
    (find-yes (gives_demand (field p 1) t) demands row none_here (gives-here products row j found)) in
    subst (λ (i : List ℕ). Differ periods (j * histories + (t - 1)) (demand_by histories periods demands products)
    (demand_by histories periods (demands ++ row ∷ []) products) (seats_by periods demands p (1 + (t - 1))) i) is d

-- how long the lists are
long-given : (products demands : List Row) (histories : ℕ) → length (given_by histories demands products) ≡ length products * histories
long-given products demands histories =
    long-pieces (λ p. flat_map (flag_by demands p) (range_with_len 1 histories)) products histories
    (λ p. long-pieces (flag_by demands p) (range_with_len 1 histories) 1 (λ t. refl) ∙ one-each (length (range_with_len 1 histories))
    ∙ length-range_with_len 1 histories)

long-demand : (products demands : List Row) (histories periods : ℕ) → All (DemandFits periods) demands
    → length (demand_by histories periods demands products) ≡ length products * (histories * periods)
long-demand products demands histories periods fits =
    long-pieces (λ p. flat_map (seats_by periods demands p) (range_with_len 1 histories)) products (histories * periods)
    (λ p. long-pieces (seats_by periods demands p) (range_with_len 1 histories) periods
    (λ t. (found-fits periods (gives_demand (field p 1) t) demands fits).0)
    ∙ ap (λ (n : ℕ). n * periods) (length-range_with_len 1 histories))

within-cells : (j products histories h : ℕ) → j < products → h < histories → j * histories + h < products * histories
within-cells j products histories h few short = let rows : (j + 1) * histories ≤ products * histories =
    mul-le-mul_right histories (omega arith) in omega (arith, rows)

room-for : (cell products histories periods : ℕ) → cell < products * histories → cell * periods + periods ≤ products * (histories * periods)
room-for cell products histories periods short = let all : (cell + 1) * periods ≤ (products * histories) * periods =
    mul-le-mul_right periods (omega arith) in omega (arith, all)

-- the place of a demand row's cell
pub record Placed (draft : Draft) (taken : List Row) (row : Row) (j : ℕ) : Type 0 where
  pub found : Found (product_rows taken) j (field row 1)
  pub few : j < 256
  pub above : 1 ≤ value_of (field row 2)
  pub below : value_of (field row 2) ≤ draft.histories
  pub given : j * draft.histories + (value_of (field row 2) - 1) < length draft.given.items
  pub room : (j * draft.histories + (value_of (field row 2) - 1)) * draft.periods + length (further_numbers row) ≤ length draft.demand.items
  pub flag : (d : Bool) → get_or draft.given.items (j * draft.histories + (value_of (field row 2) - 1)) d
      ≡ list_any (gives_demand (field row 1) (value_of (field row 2))) (demand_rows taken)

pub placed : (draft : Draft) (taken : List Row) (row : Row) (j : ℕ) (name : List ℕ) → Stands draft taken → HasShape taken row demand_kind
    → Some j ≡ position_from (λ other. bytes_eq other name) 0 draft.product_names → name ≡ field row 1 → Placed draft taken row j
placed draft [] row j name is shape look same = let no : true ≡ false = shape.order in cc
placed draft (first ∷ more) row j name is shape look same =
    let taken : List Row = first ∷ more in
    let good = good-taken first more is.accepted in
    let fits = demand-shape taken row shape in
    let found = found-product (product_rows taken) j name (field row 1) draft.product_names look is.product_names same
    (names-apart (names_of (product_rows taken)) good.product_names) in
    let few = found.few in
    let few_products = good.few_products in
    let above = fits.history.above in
    let below = fits.history.below in
    let cell : ℕ = j * histories_in taken + (value_of (field row 2) - 1) in
    let within = within-cells j (length (product_rows taken)) (histories_in taken) (value_of (field row 2) - 1) few (omega arith) in
    let long = ap length is.given ∙ long-given (product_rows taken) (demand_rows taken) (histories_in taken) in
    let long_demand = ap length is.demand
    ∙ long-demand (product_rows taken) (demand_rows taken) (histories_in taken) (periods_in taken) good.demands in
    let room = room-for cell (length (product_rows taken)) (histories_in taken) (periods_in taken) within in
    let count : length (further_numbers row) ≡ periods_in taken = length-map (further row) value_of ∙ fits.count in
    let fits_room : cell * periods_in taken + length (further_numbers row) ≤ length draft.demand.items =
    omega (arith, room, count, long_demand) in
    let flags = flags-differ (product_rows taken) (demand_rows taken) row (histories_in taken) j found above below in
    record {
      found = found;
      few = omega arith;
      above = above;
      below = subst (λ (n : ℕ). value_of (field row 2) ≤ n) (sym is.histories) below;
      given = subst (λ (n : ℕ). j * n + (value_of (field row 2) - 1) < length draft.given.items) (sym is.histories)
          (omega (arith, within, long));
      room = subst (λ (n : ℕ). (j * n + (value_of (field row 2) - 1)) * draft.periods + length
          (further_numbers row) ≤ length draft.demand.items) (sym is.histories)
          (subst (λ (n : ℕ). cell * n + length (further_numbers row) ≤ length draft.demand.items) (sym is.periods) fits_room);
      flag = λ d. ap (λ (n : ℕ). get_or draft.given.items (j * n + (value_of (field row 2) - 1)) d) is.histories
          ∙ ap (λ (xs : List Bool). get_or xs cell d) is.given
          ∙ read-one cell (given_by (histories_in taken) (demand_rows taken) (product_rows taken))
          (given_by (histories_in taken) (demand_rows taken ++ row ∷ []) (product_rows taken))
          (list_any (gives_demand (field row 1) (value_of (field row 2))) (demand_rows taken)) true d flags;
    }

-- one demand more
pub demand-grows : (draft after : Draft) (taken : List Row) (row : Row) (j : ℕ) → Stands draft taken → HasShape taken row demand_kind
    → why_refused taken row ≡ None → Placed draft taken row j
    → list_any (gives_demand (field row 1) (value_of (field row 2))) (demand_rows taken) ≡ false
    → is_named (product_rows taken) (field row 1) ≡ true
    → SetsDemand draft after (j * draft.histories + (value_of (field row 2) - 1)) (further_numbers row) → Stands after (taken ++ row ∷ [])
demand-grows draft after [] row j is shape free place none there (demand, given, others) = let no : true ≡ false = shape.order in cc
demand-grows draft after (first ∷ more) row j is shape free place none there (demand, given, others) =
    let taken : List Row = first ∷ more in
    let histories : ℕ = histories_in taken in
    let periods : ℕ = periods_in taken in
    let products : List Row = product_rows taken in
    let demands : List Row = demand_rows taken in
    let good = good-taken first more is.accepted in
    let fits = demand-shape taken row shape in
    let word = word-of taken row demand_kind shape in
    let cell : ℕ = j * histories + (value_of (field row 2) - 1) in
    let count : length (further_numbers row) ≡ periods = length-map (further row) value_of ∙ fits.count in
    let seats = seats-differ products demands row histories periods j place.found fits.history.above fits.history.below good.demands none in
    let flags = flags-differ products demands row histories j place.found fits.history.above fits.history.below in
    let was : List ℕ = seats_by periods demands (get_or products j []) (1 + (value_of (field row 2) - 1)) in
    stands-by after (taken ++ row ∷ []) (leg_rows taken) products (demands ++ row ∷ []) (refund_rows taken) (version_in taken) histories
    periods (record {
      accepted = accepts-more taken row is.accepted free;
      version_is = refl;
      histories_is = refl;
      periods_is = refl;
      legs_are = apart (codes "demand") (codes "leg") taken row word refl;
      products_are = apart (codes "demand") (codes "product") taken row word refl;
      demands_are = push-yes (begins (codes "demand")) taken row (begins-as (codes "demand") (codes "demand") row word);
      refunds_are = apart (codes "demand") (codes "refund") taken row word refl;
    }) (record {
      version_is = (λ i. (others i).version) ∙ is.version;
      histories_is = (λ i. (others i).histories) ∙ is.histories;
      periods_is = (λ i. (others i).periods) ∙ is.periods;
      legs_are = (λ i. (others i).legs.items) ∙ is.legs;
      leg_names = (λ i. (others i).leg_names) ∙ is.leg_names;
      products_are = (λ i. (others i).products.items) ∙ is.products;
      product_names = (λ i. (others i).product_names) ∙ is.product_names;
      named = All-push (λ r. is_named products (field r 1) ≡ true) demands row is.named there;
      demand = demand ∙ ap (λ (n : ℕ). take ((j * n + (value_of (field row 2) - 1)) * draft.periods) draft.demand.items ++
          (further_numbers row ++ drop ((j * n + (value_of (field row 2) - 1)) * draft.periods + length (further_numbers row))
          draft.demand.items)) is.histories
          ∙ ap (λ (n : ℕ). take (cell * n) draft.demand.items ++
          (further_numbers row ++ drop (cell * n + length (further_numbers row)) draft.demand.items)) is.periods
          ∙ ap (λ (xs : List ℕ). take (cell * periods) xs ++
          (further_numbers row ++ drop (cell * periods + length (further_numbers row)) xs)) is.demand
          ∙ written periods cell (demand_by histories periods demands products) (demand_by histories periods (demands ++ row ∷ []) products)
          was (further_numbers row) seats ((found-fits periods
          (gives_demand (field (get_or products j []) 1) (1 + (value_of (field row 2) - 1))) demands good.demands).0) count;
      given = given ∙ ap (λ (n : ℕ). set draft.given.items (j * n + (value_of (field row 2) - 1)) true) is.histories
          ∙ ap (λ (xs : List Bool). set xs cell true) is.given
          ∙ written-one cell (given_by histories demands products) (given_by histories (demands ++ row ∷ []) products)
          (list_any (gives_demand (field row 1) (value_of (field row 2))) demands) true flags;
      refunds_named = is.refunds_named;
      refunded = (λ i. (others i).refunded.items) ∙ is.refunded;
    })

-- a row has few demands
pub few-seats : (taken : List Row) (row : Row) → Accepts why_refused [] taken → HasShape taken row demand_kind
    → length (further_numbers row) ≤ 16
few-seats [] row accepted shape = let no : true ≡ false = shape.order in cc
few-seats (first ∷ more) row accepted shape =
    let periods = (first-checked first accepted.0).periods.1 in
    let fits = demand-shape (first ∷ more) row shape in
    let count : length (further_numbers row) ≡ periods_in (first ∷ more) = length-map (further row) value_of ∙ fits.count in
    omega (arith, count, periods)

-- a place by the value that was read, and the flag there
pub cell-is : (cell j histories value history : ℕ) → cell ≡ j * histories + (value - 1) → value ≡ history
    → cell ≡ j * histories + (history - 1)
cell-is cell j histories value history is same = is ∙ ap (λ (n : ℕ). j * histories + (n - 1)) same

pub flag-read : (draft : Draft) (taken : List Row) (row : Row) (j cell : ℕ) (b : Bool) → Placed draft taken row j
    → cell ≡ j * draft.histories + (value_of (field row 2) - 1) → b ≡ get_or draft.given.items cell b
    → b ≡ list_any (gives_demand (field row 1) (value_of (field row 2))) (demand_rows taken)
flag-read draft taken row j cell b place is read = read ∙ ap (λ (n : ℕ). get_or draft.given.items n b) is ∙ place.flag b

pub is-there : (products : List Row) (j : ℕ) (name : List ℕ) → Found products j name → is_named products name ≡ true
is-there products j name found =
    list_any_at (λ r. bytes_eq (field r 1) name) products j [] found.few
    (subst (λ (n : List ℕ). bytes_eq (field (get_or products j []) 1) n ≡ true) found.here (bytes-same (field (get_or products j []) 1)))
