-- The pivot on the column that enters and the row that leaves: what is known before it, which number of it is too large, and the
-- table and the sets after it. The tableau is told as it is kept, s, and as contracts see it, v.
use Rattle.std.proofs.Common.{◌≡◌, ◌≢◌, ℕ, suc, ◌<◌, ◌≤◌, ◌⊎◌, inl, inr, ℤ, pos, arith, sym, ap, ap₂, ◌∙◌, subst, List, [], ◌∷◌, ◌++◌, map, set, take, drop, length, get_or, get_or-set_same, All, Some, None}
use Rattle.std.specs.Option.{option_map}
use Rattle.std.proofs.lemmas.Option.{same_Some}
use Rattle.std.proofs.lemmas.List.{length-map, length-set}
use Rattle.nrm_fraction.specs.Fraction.{Fraction, ◌<ᶠ◌, ◌/ᶠ◌, whole}
use Rattle.nrm_fraction.specs.Large.{first_large, large_number, size_limit}
use Rattle.nrm_fraction.specs.Rows.{at, combine, number_at, unit_row}
use Rattle.nrm_fraction.specs.declared.fault.RowFault.{RowFault}
use Rattle.nrm_fraction.specs.Fault.{IsFault}
use Rattle.nrm_lp.specs.Program.{ProgramValue}
use Rattle.nrm_lp.specs.Tableau.{Tableau, entering, leaving, pivot, right_side, row_count}
use Rattle.nrm_lp.specs.Path.{after, next_at, next_of, row_number}
use Rattle.nrm_lp.specs.Overflow.{large_at, made_large, pivot_large, rows_but}
use Rattle.nrm_lp.proofs.Rule.{IsLeaving, leaving_exists}
use Rattle.nrm_lp.proofs.Tables.{row_same}
use Rattle.nrm_tableau.specs.RowSets.{Covers, IsNoughtBut, IsTableau, row_bit}
use Rattle.nrm_tableau.specs.Value.{TableauValue, IsOnPath}
use Rattle.nrm_tableau.proofs.Changing.{set_again, written_whole}
use Rattle.nrm_tableau.proofs.Faults.{but-map, but-set, fault_back, fault_front, fault_row, small_both, small_row}
use Rattle.nrm_tableau.proofs.Paths.{entering_before, kept, number-some, widths}
use Rattle.nrm_tableau.proofs.Sets.{IsSpreadTo, covers_next}

-- tableaux of equal parts are equal
abbrev pub tableau_of : ProgramValue → List (List Fraction) → List Fraction → List ℕ → TableauValue
tableau_of a rows worth basis = record { program = a; table = record { rows = rows; value = worth; basis = basis } }

pub same_parts : (a : ProgramValue) (rows rows' : List (List Fraction)) (worth worth' : List Fraction) (basis basis' : List ℕ) → rows ≡ rows' → worth ≡ worth' → basis ≡ basis' → tableau_of a rows worth basis ≡ tableau_of a rows' worth' basis'
same_parts a rows rows' worth worth' basis basis' e f g = λ i. tableau_of a (e i) (f i) (g i)

module _ {s v : TableauValue} (is : s ≡ v) (h : IsOnPath s) (col row : ℕ) (entered : entering v.table ≡ Some col) (chosen : option_map (λ (found : ℕ × List Fraction). found.0) (leaving v.program v.table col) ≡ Some row) where
  abbrev own : List Fraction
  own = get_or s.table.rows row []

  abbrev unit : List Fraction
  unit = unit_row col own

  abbrev others : List (List Fraction)
  others = map (combine col unit) (rows_but row s.table.rows)

  abbrev value : List Fraction
  value = combine col unit s.table.value

  enters : entering s.table ≡ Some col
  enters = subst (λ (x : TableauValue). entering x.table ≡ Some col) (sym is) entered

  left : option_map (λ (found : ℕ × List Fraction). found.0) (leaving s.program s.table col) ≡ Some row
  left = subst (λ (x : TableauValue). option_map (λ (found : ℕ × List Fraction). found.0) (leaving x.program x.table col) ≡ Some row) (sym is) chosen

  pub before_end : col < right_side s.program
  before_end = entering_before s h col enters

  leaving_is : (r : ℕ) × IsLeaving s.program s.table col r
  leaving_is = leaving_exists s.program s.table col (kept s h) before_end

  number : row_number (leaving s.program s.table col) ≡ row
  number = number-some s.program s.table col row left

  found_is : leaving_is.0 ≡ row
  found_is = sym (ap row_number (leaving_is.1).answer) ∙ number

  within_count : row < row_count s.program
  within_count = omega (arith, found_is, (leaving_is.1).row_below)

  pub within : row < length s.table.rows
  within = omega (arith, within_count, (kept s h).shape)

  pub row_limit : length s.table.rows ≤ 320
  row_limit = let caps = h.limits.cap_count in let bounds = h.limits.bound_count in omega (arith, (kept s h).shape)

  positive : whole (pos 0) <ᶠ at own col
  positive = subst (λ r. whole (pos 0) <ᶠ at (get_or s.table.rows r []) col) found_is (leaving_is.1).entry

  own_width : length own ≡ suc (right_side s.program)
  own_width = widths s h row [] within

  width_unit : length unit ≡ suc (right_side s.program)
  width_unit = length-map own (λ x. x /ᶠ at own col) ∙ own_width

  pub value_before : col < length s.table.value
  value_before = omega (arith, before_end, (kept s h).value_width)

  pub basis_within : row < length s.table.basis
  basis_within = omega (arith, within, (kept s h).shape, (kept s h).basis_shape)

  -- ---- told of the rows as they are read
  module _ (xs : List (List Fraction)) (read : xs ≡ s.table.rows) where
    pub read_within : row < length xs
    read_within = omega (arith, within, ap length read)

    pub read_before : col < length (get_or xs row [])
    read_before = omega (arith, before_end, ap (λ ys. length (get_or ys row [])) read, own_width)

    pub read_positive : whole (pos 0) <ᶠ at (get_or xs row []) col
    read_positive = subst (λ (ys : List (List Fraction)). whole (pos 0) <ᶠ at (get_or ys row []) col) (sym read) positive

    pub read_unit : (us : List Fraction) → us ≡ unit_row col (get_or xs row []) → us ≡ unit
    read_unit us made = made ∙ ap (λ (ys : List (List Fraction)). unit_row col (get_or ys row [])) read

    pub read_unit_small : large_number size_limit (unit_row col (get_or xs row [])) ≡ None → large_number size_limit unit ≡ None
    read_unit_small small = subst (λ (ys : List (List Fraction)). large_number size_limit (unit_row col (get_or ys row [])) ≡ None) read small

    pub read_noughts : (old : List (List ℕ)) (touched : List ℕ) → touched ≡ get_or old col [] → Covers (right_side s.program) old s.table.rows → IsNoughtBut touched (length xs) (λ r. at (get_or xs r []) col)
    read_noughts old touched t covers =
        subst (λ (ys : List (List Fraction)). IsNoughtBut touched (length ys) (λ r. at (get_or ys r []) col)) (sym read)
        (subst (λ ws. IsNoughtBut ws (length s.table.rows) (λ r. at (get_or s.table.rows r []) col)) (sym t) (covers.noughts col before_end))

    module _ (us : List Fraction) (unit_is : us ≡ unit) where
      pub read_widths : All (λ (other : List Fraction). length other ≡ length us) xs
      read_widths = λ k d l. ap (λ (ys : List (List Fraction)). length (get_or ys k d)) read ∙ widths s h k d (omega (arith, l, ap length read)) ∙ sym (ap length unit_is ∙ width_unit)

      pub read_others_small : first_large size_limit (map (combine col us) (rows_but row xs)) ≡ None → first_large size_limit others ≡ None
      read_others_small small = (λ i. first_large size_limit (map (combine col (sym unit_is i)) (rows_but row (sym read i)))) ∙ small

      pub read_others_fault : (f : RowFault) → IsFault f (first_large size_limit (map (combine col us) (rows_but row xs))) → IsFault f (first_large size_limit others)
      read_others_fault f e = subst (IsFault f) (λ i. first_large size_limit (map (combine col (unit_is i)) (rows_but row (read i)))) e

      -- the rows that are made of them, the pivot row last of all
      pub rows_made : (new : List (List Fraction)) (put : List Fraction) (len place : ℕ) → len ≡ length s.table.rows → place ≡ row → new ≡ set (map (combine col us) xs) row (get_or xs row []) → put ≡ us → set (take len (new ++ drop (length new) s.table.rows)) place put ≡ (pivot s.table row col).rows
      rows_made new put len place l p made e =
          let F = combine col us in
          let new_is : new ≡ set (map (combine col us) s.table.rows) row own = made ∙ ap (λ (ys : List (List Fraction)). set (map F ys) row (get_or ys row [])) read in
          let count : length new ≡ length s.table.rows = ap length new_is ∙ length-set (map F s.table.rows) row own ∙ length-map s.table.rows F in
          ap₂ (λ ys u. set ys place u) (written_whole new s.table.rows len count l ∙ new_is) e
          ∙ ap (λ k. set (set (map F s.table.rows) row own) k us) p
          ∙ set_again (map F s.table.rows) row own us
          ∙ ap (λ (w : List Fraction). set (map (combine col w) s.table.rows) row w) unit_is

  -- ---- told of the unit row
  module _ (us : List Fraction) (unit_is : us ≡ unit) where
    pub unit_before : col < length us
    unit_before = omega (arith, before_end, ap length unit_is, width_unit)

    pub unit_width : length us ≡ length s.table.value
    unit_width = ap length unit_is ∙ width_unit ∙ sym (kept s h).value_width

    pub read_value_fault : (f : RowFault) → IsFault f (large_number size_limit (combine col us s.table.value)) → IsFault f (large_number size_limit value)
    read_value_fault f e = subst (λ (w : List Fraction). IsFault f (large_number size_limit (combine col w s.table.value))) unit_is e

    pub read_value_small : large_number size_limit (combine col us s.table.value) ≡ None → large_number size_limit value ≡ None
    read_value_small small = subst (λ (w : List Fraction). large_number size_limit (combine col w s.table.value) ≡ None) unit_is small

    pub value_made : (new : List Fraction) → new ≡ combine col us s.table.value → new ≡ (pivot s.table row col).value
    value_made new made = made ∙ ap (λ w. combine col w s.table.value) unit_is

  -- ---- which number is too large
  large_is : pivot_large size_limit v.program v.table ≡ first_large size_limit (unit ∷ (others ++ value ∷ []))
  large_is =
      ap (λ (x : TableauValue). pivot_large size_limit x.program x.table) (sym is)
      ∙ ap (large_at size_limit s.program s.table) enters
      ∙ ap (λ r. made_large size_limit r (pivot s.table r col)) number
      ∙ ap (λ xs. first_large size_limit (xs ∷ (rows_but row (set (map (combine col unit) s.table.rows) row unit) ++ value ∷ []))) (row_same s.table unit row col within)
      ∙ ap (λ xs. first_large size_limit (unit ∷ (xs ++ value ∷ []))) (but-set unit row (map (combine col unit) s.table.rows) ∙ but-map (combine col unit) row s.table.rows)

  pub fault_others : (f : RowFault) → large_number size_limit unit ≡ None → IsFault f (first_large size_limit others) → IsFault f (pivot_large size_limit v.program v.table)
  fault_others f small k = subst (IsFault f) (sym large_is) (fault_back size_limit f (unit ∷ []) (others ++ value ∷ []) (small_row size_limit unit small) (fault_front size_limit f others (value ∷ []) k))

  pub fault_value : (f : RowFault) → large_number size_limit unit ≡ None → first_large size_limit others ≡ None → IsFault f (large_number size_limit value) → IsFault f (pivot_large size_limit v.program v.table)
  fault_value f small rest k = subst (IsFault f) (sym large_is) (fault_back size_limit f (unit ∷ []) (others ++ value ∷ []) (small_row size_limit unit small) (fault_back size_limit f others (value ∷ []) rest (fault_row size_limit f value [] k)))

  pub small_all : large_number size_limit unit ≡ None → first_large size_limit others ≡ None → large_number size_limit value ≡ None → pivot_large size_limit v.program v.table ≡ None
  small_all small rest last = large_is ∙ small_both size_limit (unit ∷ []) (others ++ value ∷ []) (small_row size_limit unit small) (small_both size_limit others (value ∷ []) rest (small_row size_limit value last))

  -- ---- the table after it is on the path too
  next_after : after s.program (suc h.pivots) ≡ Some (pivot s.table row col)
  next_after = ap (next_of s.program) h.reached.path ∙ ap (next_at s.program s.table) enters ∙ ap (λ r. Some (pivot s.table r col)) number

  module _ (none : pivot_large size_limit v.program v.table ≡ None) where
    small : pivot_large size_limit s.program s.table ≡ None
    small = ap (λ (x : TableauValue). pivot_large size_limit x.program x.table) is ∙ none

    next_on_path : IsOnPath (record s { table = pivot s.table row col })
    next_on_path = record { limits = h.limits; pivots = suc h.pivots; reached = record { path = next_after; small = λ m u l e. before_or_here m u e (earlier m l) } }
      where
        earlier : (m : ℕ) → m < suc h.pivots → (m < h.pivots) ⊎ (m ≡ h.pivots)
        earlier m l = grind arith

        before_or_here : (m : ℕ) (u : Tableau) → after s.program m ≡ Some u → (m < h.pivots) ⊎ (m ≡ h.pivots) → pivot_large size_limit s.program u ≡ None
        before_or_here m u e (inl k) = h.reached.small m u k e
        before_or_here m u e (inr k) = subst (λ t. pivot_large size_limit s.program t ≡ None) (same_Some s.table u (sym h.reached.path ∙ ap (after s.program) (sym k) ∙ e)) small

    -- each other row has a 0 in the column that entered
    cleared : (i : ℕ) → i < length s.table.rows → i ≢ row → at (get_or (pivot s.table row col).rows i []) col ≡ whole (pos 0)
    cleared i l d =
        ap (at (get_or (pivot s.table row col).rows i [])) (sym (get_or-set_same s.table.basis row col 0 basis_within))
        ∙ (kept (record s { table = pivot s.table row col }) next_on_path).facts.zeros i row (omega (arith, l, (kept s h).shape)) within_count d

    -- the sets after it: those of the columns of the unit row have the rows that changed, that of the column that entered is made anew
    pub sets_made : (old given new : List (List ℕ)) (xs : List (List Fraction)) (changed own_set : List ℕ) (es : List (ℕ × ℤ)) (us : List Fraction) (len place : ℕ) → Covers (right_side s.program) old s.table.rows → given ≡ old → xs ≡ s.table.rows → IsSpreadTo given new changed es → ((r : ℕ) → r < length xs → r ≢ row → row_bit changed r ≡ 0 → at (get_or xs r []) col ≡ whole (pos 0)) → row_bit own_set row ≡ 1 → us ≡ unit → ((c : ℕ) → number_at es c ≡ pos 0 → at us c ≡ whole (pos 0)) → len ≡ length old → place ≡ col → Covers (right_side s.program) (set (take len (new ++ drop (length new) old)) place own_set) (pivot s.table row col).rows
    sets_made old given new xs changed own_set es us len place covers g read spread unchanged there e listed l p =
        let spread_old : IsSpreadTo old new changed es = subst (λ ys. IsSpreadTo ys new changed es) g spread in
        let unchanged_old : (r : ℕ) → r < length s.table.rows → r ≢ row → row_bit changed r ≡ 0 → at (get_or s.table.rows r []) col ≡ whole (pos 0) = subst (λ (ys : List (List Fraction)). (r : ℕ) → r < length ys → r ≢ row → row_bit changed r ≡ 0 → at (get_or ys r []) col ≡ whole (pos 0)) read unchanged in
        subst (λ sets. Covers (right_side s.program) sets (pivot s.table row col).rows) (sym (ap₂ (λ sets k. set sets k own_set) (written_whole new old len spread_old.long l) p))
        (covers_next s.table row col (right_side s.program) old new changed own_set es within before_end covers spread_old unchanged_old there (λ c z. ap (λ ys. at ys c) (sym e) ∙ listed c z) cleared)

    -- what is kept of the parts that were made
    pub next_kept : (rows : List (List Fraction)) (worth : List Fraction) (basis : List ℕ) (sets : List (List ℕ)) → rows ≡ (pivot s.table row col).rows → worth ≡ (pivot s.table row col).value → basis ≡ (pivot s.table row col).basis → Covers (right_side s.program) sets (pivot s.table row col).rows → IsTableau (tableau_of s.program rows worth basis) sets
    next_kept rows worth basis sets e f g covers = record {
      path = subst IsOnPath (sym (same_parts s.program rows (pivot s.table row col).rows worth (pivot s.table row col).value basis (pivot s.table row col).basis e f g)) next_on_path;
      covers = subst (λ (ys : List (List Fraction)). Covers (right_side s.program) sets ys) (sym e) covers;
    }

  -- and contracts see the pivot of them
  pub next_seen : (rows : List (List Fraction)) (worth : List Fraction) (basis : List ℕ) → rows ≡ (pivot s.table row col).rows → worth ≡ (pivot s.table row col).value → basis ≡ (pivot s.table row col).basis → tableau_of s.program rows worth basis ≡ record v { table = pivot v.table row col }
  next_seen rows worth basis e f g =
      same_parts s.program rows (pivot s.table row col).rows worth (pivot s.table row col).value basis (pivot s.table row col).basis e f g
      ∙ ap (λ (x : TableauValue). record x { table = pivot x.table row col }) is
