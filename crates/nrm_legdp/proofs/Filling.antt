-- One row of the table more.
use Rattle.std.proofs.Common.{◌≡◌, ℕ, suc, ◌+◌, ◌*◌, ◌-◌, ◌^◌, ◌<◌, ◌≤◌, arith, sym, ap, ap₂, ◌∙◌, List, [], ◌∷◌, ◌++◌, length, get_or, map, take, drop, slice_index, All, Vec, replicate}
use native.Mathlib.Nat.{mul-le-mul, pow-le-pow_left, pow-le-pow_right, pow-suc, pow-zero}
use Rattle.std.specs.declared.alloc.Global.{Global}
use Rattle.std.specs.Int.{IsInRange}
use Rattle.std.specs.List.{range_with_len}
use Rattle.std.proofs.lemmas.List.{same_lists, length-map, get_or-map, map_push, get_or-replicate, length-replicate}
use Rattle.std.proofs.lemmas.List.FromFn.{length-map-range_with_len, get_or-map-range_with_len, map-range_with_len_more}
use Rattle.std.proofs.lemmas.List.Elements.{All-weaker}
use Rattle.nrm_model.specs.declared.limits.TheConstants.{MOST_FARE, MOST_SEATS}
use Rattle.nrm_legdp.specs.Policies.{DemandValue, pay_after, demands_after, value, last_passing, worth_more, protection}
use Rattle.nrm_legdp.specs.Inner.Filling.{worth_above}
use Rattle.nrm_legdp.specs.Table.{row_of, AreClasses, LegTableValue, values_of}
use Rattle.nrm_legdp.proofs.Values.{values-bounded, above-threshold-is-value, same-threshold}
use Rattle.nrm_legdp.proofs.OneClass.{last-passes}

-- so many histories to the power of so many classes
pub power-below : (n j : ℕ) → n ≤ 32 → j ≤ 10 → n ^ j ≤ 32 ^ 10
power-below n j few low = omega (arith, pow-le-pow_left few j, pow-le-pow_right {n = 32} (omega arith) low)

pub pay-below : (c : DemandValue) (j : ℕ) → AreClasses c → j < length c.fares → pay_after c j < 2 ^ 80
pay-below c j ok few = omega (arith, mul-le-mul (power-below c.histories j ok.histories.1 (omega (arith, ok.count.1))) (ok.fares j 0 few).1)

value-below : (c : DemandValue) (j x : ℕ) → AreClasses c → j ≤ length c.fares → x ≤ MOST_SEATS → value c j x < 2 ^ 87
value-below c j x ok few low =
    omega (
      arith,
      values-bounded c MOST_FARE j x (All-weaker (IsInRange 1 MOST_FARE) (λ f. f ≤ MOST_FARE) (λ f r. r.1) c.fares ok.fares),
      mul-le-mul (power-below c.histories j ok.histories.1 (omega (arith, ok.count.1))) (mul-le-mul (same MOST_FARE) low),
    )
  where
    same : (f : ℕ) → f ≤ f
    same f = omega arith

-- the numbers of a row fit
pub row-below : (c : DemandValue) (seats j : ℕ) (row : List ℕ) → AreClasses c → j ≤ length c.fares → seats ≤ MOST_SEATS → row ≡ row_of c seats j → All (λ w. w < 2 ^ 87) row
row-below c seats j row ok few low is k d short =
    let within : k < seats + 1 = omega (arith, ap length is, length-map-range_with_len (value c j) 0 (seats + 1)) in
    omega (arith, ap (λ r. get_or r k d) is, get_or-map-range_with_len (value c j) 0 (seats + 1) k k d within (omega arith), value-below c j k ok few (omega arith))

-- and so do those of all rows
pub rows-below : (c : DemandValue) (seats j : ℕ) (rows : List (List ℕ)) → AreClasses c → j ≤ length c.fares → seats ≤ MOST_SEATS → rows ≡ map (row_of c seats) (range_with_len 0 (j + 1)) → All (All (λ w. w < 2 ^ 87)) rows
rows-below c seats j rows ok few low is k d short =
    let within : k < j + 1 = omega (arith, ap length is, length-map-range_with_len (row_of c seats) 0 (j + 1)) in
    row-below c seats k (get_or rows k d) ok (omega arith) low (ap (λ r. get_or r k d) is ∙ get_or-map-range_with_len (row_of c seats) 0 (j + 1) k k d within (omega arith))

row-length : (c : DemandValue) (seats j : ℕ) (row : List ℕ) → row ≡ row_of c seats j → length row ≡ seats + 1
row-length c seats j row is = ap length is ∙ length-map-range_with_len (value c j) 0 (seats + 1)

row-at : (c : DemandValue) (seats j : ℕ) (row : List ℕ) → row ≡ row_of c seats j → (x : ℕ) → x ≤ seats → slice_index row x ≡ value c j x
row-at c seats j row is x low = ap (λ r. slice_index r x) is ∙ get_or-map-range_with_len (value c j) 0 (seats + 1) x x 0 (omega arith) (omega arith)

pub threshold-protects : (c : DemandValue) (seats j : ℕ) (row : List ℕ) → row ≡ row_of c seats j → last_passing (worth_more (pay_after c j) (slice_index row)) (length row - 1) ≡ protection c seats j
threshold-protects c seats j row is =
    ap (last_passing (worth_more (pay_after c j) (slice_index row))) width
    ∙ same-threshold (pay_after c j) (slice_index row) (value c j) seats (row-at c seats j row is)
  where
    width : length row - 1 ≡ seats
    width = omega (arith, row-length c seats j row is)

pub row-above-is : (c : DemandValue) (seats j : ℕ) (row : List ℕ) → row ≡ row_of c seats j
    → map (worth_above (pay_after c j) (slice_index row) (protection c seats j) (demands_after c j)) (range_with_len 0 (length row)) ≡ row_of c seats (suc j)
row-above-is c seats j row is =
    ap (λ n. map f (range_with_len 0 n)) (row-length c seats j row is)
    ∙ same_lists (map f (range_with_len 0 (seats + 1))) (row_of c seats (suc j))
    (length-map-range_with_len f 0 (seats + 1) ∙ sym (length-map-range_with_len (value c (suc j)) 0 (seats + 1)))
    (λ k d short.
    let within : k < seats + 1 = omega (arith, length-map-range_with_len f 0 (seats + 1)) in
    get_or-map-range_with_len f 0 (seats + 1) k k d within (omega arith)
    ∙ above-threshold-is-value c seats j k (slice_index row) (omega arith) (row-at c seats j row is)
    ∙ sym (get_or-map-range_with_len (value c (suc j)) 0 (seats + 1) k k d within (omega arith)))
  where
    f : ℕ → ℕ
    f = worth_above (pay_after c j) (slice_index row) (protection c seats j) (demands_after c j)

-- the table so far: j classes
pub record IsFilled (c : DemandValue) (seats j : ℕ) (rows : List (List ℕ)) (protections : List ℕ) (scale : ℕ) : Type 0 where
  pub rows_are : rows ≡ map (row_of c seats) (range_with_len 0 (j + 1))
  pub protections_are : protections ≡ map (protection c seats) (range_with_len 0 j)
  pub scale_is : scale ≡ c.histories ^ j

pub row-there : (c : DemandValue) (seats j : ℕ) (rows : List (List ℕ)) (protections : List ℕ) (scale : ℕ) → IsFilled c seats j rows protections scale → get_or rows j [] ≡ row_of c seats j
row-there c seats j rows protections scale is = ap (λ r. get_or r j []) is.rows_are ∙ get_or-map-range_with_len (row_of c seats) 0 (j + 1) j j [] (omega arith) (omega arith)

pub one-class-more : (c : DemandValue) (seats j : ℕ) (rows : List (List ℕ)) (protections next : List ℕ) (scale y : ℕ) → IsFilled c seats j rows protections scale → y ≡ protection c seats j → next ≡ row_of c seats (suc j)
    → IsFilled c seats (j + 1) (rows ++ next ∷ []) (protections ++ y ∷ []) (scale * c.histories)
one-class-more c seats j rows protections next scale y is y-is next-is = record {
  rows_are = ap₂ (λ r n. r ++ n ∷ []) is.rows_are (next-is ∙ ap (row_of c seats) one) ∙ sym (map-range_with_len_more (row_of c seats) 0 (j + 1) (j + 1) (omega arith));
  protections_are = ap₂ (λ r n. r ++ n ∷ []) is.protections_are y-is ∙ sym (map-range_with_len_more (protection c seats) 0 j j (omega arith));
  scale_is = ap (λ s. s * c.histories) is.scale_is ∙ sym (pow-suc c.histories j) ∙ ap (λ k. c.histories ^ k) one;
}
  where
    one : suc j ≡ j + 1
    one = omega arith

-- ---- the same over the vectors of the code
abbrev pub items_of : List (Vec ℕ Global) → List (List ℕ)
items_of rows = map (λ (row : Vec ℕ Global). row.items) rows

pub rows-length : (c : DemandValue) (seats j : ℕ) (rows : List (Vec ℕ Global)) (protections : List ℕ) (scale : ℕ) → IsFilled c seats j (items_of rows) protections scale → length rows ≡ j + 1
rows-length c seats j rows protections scale is =
    sym (length-map rows (λ (row : Vec ℕ Global). row.items)) ∙ ap length is.rows_are ∙ length-map-range_with_len (row_of c seats) 0 (j + 1)

-- what rows[j] holds
pub row-read : (c : DemandValue) (seats j : ℕ) (rows : List (Vec ℕ Global)) (protections : List ℕ) (scale : ℕ) (v : Vec ℕ Global) (row : List ℕ) → IsFilled c seats j (items_of rows) protections scale → v ≡ get_or rows j v → row ≡ v.items → row ≡ row_of c seats j
row-read c seats j rows protections scale v row is read same =
    same
    ∙ ap (λ (w : Vec ℕ Global). w.items) read
    ∙ sym (get_or-map (λ (w : Vec ℕ Global). w.items) rows j v [] (omega (arith, rows-length c seats j rows protections scale is)))
    ∙ row-there c seats j (items_of rows) protections scale is

-- what is paid for a seat
pub pay-is : (c : DemandValue) (seats j : ℕ) (rows : List (List ℕ)) (protections : List ℕ) (scale fare : ℕ) → IsFilled c seats j rows protections scale → fare ≡ get_or c.fares j 0 → scale * fare ≡ pay_after c j
pay-is c seats j rows protections scale fare is e = ap₂ (λ s f. s * f) is.scale_is e

pub pay-fits : (c : DemandValue) (seats j : ℕ) (rows : List (List ℕ)) (protections : List ℕ) (scale fare : ℕ) → AreClasses c → j < length c.fares → IsFilled c seats j rows protections scale → fare ≡ get_or c.fares j 0 → scale * fare < 2 ^ 80
pay-fits c seats j rows protections scale fare ok few is e = omega (arith, pay-is c seats j rows protections scale fare is e, pay-below c j ok few)

pub scale-fits : (c : DemandValue) (seats j : ℕ) (rows : List (List ℕ)) (protections : List ℕ) (scale n : ℕ) → AreClasses c → j < length c.fares → IsFilled c seats j rows protections scale → n ≡ c.histories → scale * n < 2 ^ 80
scale-fits c seats j rows protections scale n ok few is e = omega (arith, ap₂ (λ s m. s * m) is.scale_is e, mul-le-mul (power-below c.histories j ok.histories.1 (omega (arith, ok.count.1))) ok.histories.1)

pub some-row : (c : DemandValue) (seats j : ℕ) (row : List ℕ) → row ≡ row_of c seats j → 0 < length row
some-row c seats j row is = omega (arith, row-length c seats j row is)

pub threshold-read : (c : DemandValue) (seats j pay y : ℕ) (row : List ℕ) → row ≡ row_of c seats j → pay ≡ pay_after c j → y ≡ last_passing (worth_more pay (slice_index row)) (length row - 1) → y ≡ protection c seats j
threshold-read c seats j pay y row is e h = h ∙ ap (λ p. last_passing (worth_more p (slice_index row)) (length row - 1)) e ∙ threshold-protects c seats j row is

pub protection-below : (c : DemandValue) (seats j : ℕ) → protection c seats j ≤ seats
protection-below c seats j = (last-passes (worth_more (pay_after c j) (value c j)) seats).within

pub next-read : (c : DemandValue) (seats j pay y : ℕ) (row next demands : List ℕ) → row ≡ row_of c seats j → pay ≡ pay_after c j → y ≡ protection c seats j → demands ≡ demands_after c j
    → next ≡ map (worth_above pay (slice_index row) y demands) (range_with_len 0 (length row)) → next ≡ row_of c seats (suc j)
next-read c seats j pay y row next demands is e g d h =
    h
    ∙ ap (λ p. map (worth_above p (slice_index row) y demands) (range_with_len 0 (length row))) e
    ∙ ap₂ (λ z ds. map (worth_above (pay_after c j) (slice_index row) z ds) (range_with_len 0 (length row))) g d
    ∙ row-above-is c seats j row is

pub coming-is : (c : DemandValue) (j h : ℕ) → h ≡ c.histories → take ((j + 1) * h - j * h) (drop (j * h) c.demands) ≡ demands_after c j
coming-is c j h e = ap₂ (λ m k. take m (drop k c.demands)) (width ∙ e) (ap (λ m. j * m) e)
  where
    width : (j + 1) * h - j * h ≡ h
    width = omega arith

-- the first row
pub none-yet : (c : DemandValue) (seats : ℕ) (first : Vec ℕ Global) (rows : List (Vec ℕ Global)) (protections : List ℕ) → first.items ≡ replicate (seats + 1) 0 → rows ≡ first ∷ [] → protections ≡ [] → IsFilled c seats 0 (items_of rows) protections 1
none-yet c seats first rows protections zeros one none = record {
  rows_are = ap items_of one ∙ ap (λ r. r ∷ []) (zeros ∙ same_lists (replicate (seats + 1) 0) (row_of c seats 0) (length-replicate {A = ℕ} (seats + 1) 0 ∙ sym (length-map-range_with_len (value c 0) 0 (seats + 1)))
      (λ k d short. let within : k < seats + 1 = omega (arith, length-replicate {A = ℕ} (seats + 1) 0) in get_or-replicate {A = ℕ} (seats + 1) k 0 d within ∙ sym (get_or-map-range_with_len (value c 0) 0 (seats + 1) k k d within (omega arith))));
  protections_are = none;
  scale_is = sym (pow-zero c.histories);
}

pub pushed : (c : DemandValue) (seats j : ℕ) (rows more : List (Vec ℕ Global)) (protections others : List ℕ) (next : Vec ℕ Global) (scale y n : ℕ) → IsFilled c seats j (items_of rows) protections scale → y ≡ protection c seats j → next.items ≡ row_of c seats (suc j)
    → more ≡ rows ++ next ∷ [] → others ≡ protections ++ y ∷ [] → n ≡ c.histories → IsFilled c seats (j + 1) (items_of more) others (scale * n)
pushed c seats j rows more protections others next scale y n is y-is next-is e g h =
    let one = one-class-more c seats j (items_of rows) protections next.items scale y is y-is next-is in
    record {
      rows_are = ap items_of e ∙ map_push (λ (row : Vec ℕ Global). row.items) rows next ∙ one.rows_are;
      protections_are = g ∙ one.protections_are;
      scale_is = ap (λ m. scale * m) h ∙ one.scale_is;
    }

-- ---- how long the lists of a table are, for its callers
pub table-protections : (c : DemandValue) (seats : ℕ) (t : LegTableValue) → t ≡ values_of c seats → length t.protections ≡ length c.fares
table-protections c seats t is = ap (λ (u : LegTableValue). length u.protections) is ∙ length-map-range_with_len (protection c seats) 0 (length c.fares)

pub table-rows : (c : DemandValue) (seats : ℕ) (t : LegTableValue) → t ≡ values_of c seats → length t.rows ≡ length c.fares + 1
table-rows c seats t is = ap (λ (u : LegTableValue). length u.rows) is ∙ length-map-range_with_len (row_of c seats) 0 (length c.fares + 1)

pub table-width : (c : DemandValue) (seats j : ℕ) (t : LegTableValue) → t ≡ values_of c seats → j ≤ length c.fares → length (get_or t.rows j []) ≡ seats + 1
table-width c seats j t is few =
    row-length c seats j (get_or t.rows j [])
    (ap (λ (u : LegTableValue). get_or u.rows j []) is ∙ get_or-map-range_with_len (row_of c seats) 0 (length c.fares + 1) j j [] (omega arith) (omega arith))
