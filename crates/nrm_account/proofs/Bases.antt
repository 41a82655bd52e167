-- What seats that are enough are worked out from, as it is told.
use Rattle.std.proofs.Common.{ℕ, ◌≡◌, ◌∙◌, ◌+◌, ◌-◌, ◌*◌, ◌<◌, ◌≤◌, ◌==◌, ◌≢◌, Bool, false, cond, List, [], ◌++◌, eq-eqb, flat_map, get_or, length, map, nat_abs, nat_le, nat_lt, ne_eqb, Option, Some, position, slice_get, refl, sym, ap, if◌then◌else◌, arith, ℤ}
use Rattle.std.specs.Prelude.{codes, decimal}
use Rattle.std.specs.List.{count_by, range_with_len}
use Rattle.std.specs.Option.{option_map_or}
use Rattle.std.proofs.lemmas.List.Folds.{flat_map-map, fold-map}
use Rattle.std.proofs.lemmas.List.FromFn.{get_or-map-range_with_len, length-map-range_with_len}
use Rattle.nrm_fraction.specs.Fraction.{Fraction, ◌over◌}
use Rattle.nrm_text.specs.Fractions.{fraction_text}
use Rattle.nrm_text.specs.Words.{spaced}
use Rattle.nrm_model.specs.declared.leg.Leg.{Leg}
use Rattle.nrm_model.specs.declared.limits.TheConstants.{MOST_THRESHOLDS}
use Rattle.nrm_model.specs.Network.{NetworkValue, leg_of}
use Rattle.nrm_model.proofs.Inventories.{leg_of-found}
use Rattle.nrm_lp.specs.declared.certificate.Certificate.{Certificate}
use Rattle.nrm_virtual.specs.Buckets.{bucket_count}
use Rattle.nrm_emsr.specs.Fares.{bucket_fare, mean_fare, weight_of, weighted_fares}
use Rattle.nrm_emsr.specs.Protections.{demand_above, histories_over, protection_of, protections_of}
use Rattle.nrm_emsr.specs.declared.basis.Basis.{Basis}
use Rattle.nrm_account.specs.Inner.Bases.{IsBasisOf}
use Rattle.nrm_account.specs.Lines.{counted, ended}
use Rattle.nrm_account.specs.Nests.{basis_text, demand_line, enough_line, protected_text}

-- a product of two numbers of at least 1
pub some-times : (m n : ℕ) → 1 ≤ m → 1 ≤ n → 1 ≤ m * n
some-times m n some others = grind arith

-- a count over numbers that were made from others
count_by-map : (f : ℕ → ℕ) (test : ℕ → Bool) (xs : List ℕ) → count_by test (map f xs) ≡ count_by (λ x. test (f x)) xs
count_by-map f test xs = fold-map (λ n x. n + cond (test x) 1 0) f 0 xs

-- ---- the two lines, from their parts
abbrev enough_of : List ℕ → ℕ → ℕ → Fraction → Fraction → ℕ → ℕ → List ℕ
enough_of name seats buckets mean next histories passed =
    ended (codes "enough" ++ spaced name ++ counted (codes "seats") seats ++ counted (codes "buckets") buckets
    ++ spaced (codes "mean") ++ spaced (fraction_text mean) ++ spaced (codes "next") ++ spaced (fraction_text next)
    ++ counted (codes "histories") histories ++ counted (codes "over") passed)

abbrev demand_of : List ℕ → List ℕ → List ℕ
demand_of name demands = ended (codes "demand" ++ spaced name ++ flat_map (λ seats. spaced (decimal seats)) demands)

module _ (net : NetworkValue) (cert : Certificate) (i k : ℕ) where
  module _ (b : ℕ) (basis : Basis) (is : IsBasisOf net cert i k b basis) where
    -- as many demands as histories
    pub demands-count : length basis.demands.items ≡ net.histories
    demands-count = ap length is.demands ∙ length-map-range_with_len (demand_above net cert i k b) 0 net.histories

    pub passed-is : (seats : ℕ) (demands : List ℕ) → seats ≡ protection_of net cert i k b → demands ≡ basis.demands.items
        → count_by (λ demand. nat_lt seats demand) demands ≡ histories_over net cert i k b (protection_of net cert i k b)
    passed-is seats demands seats-are demands-are =
        ap (λ y. count_by (λ demand. nat_lt y demand) demands) seats-are
        ∙ ap (λ xs. count_by (λ demand. nat_lt (protection_of net cert i k b) demand) xs) (demands-are ∙ is.demands)
        ∙ count_by-map (demand_above net cert i k b) (λ demand. nat_lt (protection_of net cert i k b) demand) (range_with_len 0 net.histories)

    pub enough-is : (leg : Leg) (seats passed histories : ℕ) (demands : List ℕ) (mean next : ℤ) (mean_den next_den : ℕ) → Some leg ≡ slice_get net.legs i
        → seats ≡ protection_of net cert i k b → demands ≡ basis.demands.items → passed ≡ count_by (λ demand. nat_lt seats demand) demands → histories ≡ net.histories
        → mean ≡ basis.above.fares → mean_den ≡ basis.above.seats * nat_abs cert.den → next ≡ basis.next.fares → next_den ≡ basis.next.seats * nat_abs cert.den
        → enough_of leg.name seats b (mean over mean_den) (next over next_den) histories passed ≡ enough_line net cert i k b
    enough-is leg seats passed histories demands mean next mean_den next_den found seats-are demands-are passed-are histories-are mean-is mean_den-is next-is next_den-is =
        let mean-same : (mean over mean_den) ≡ mean_fare net cert i k 1 b =
        ap (λ n. n over mean_den) (mean-is ∙ is.fares)
        ∙ ap (λ d. weighted_fares net cert i k 1 b over d) (mean_den-is ∙ ap (λ s. s * nat_abs cert.den) is.seats) in
        let next-same : (next over next_den) ≡ bucket_fare net cert i k (b + 1) =
        ap (λ n. n over next_den) next-is ∙ ap (λ d. basis.next.fares over d) next_den-is ∙ is.next in
        let name-same : leg.name ≡ (leg_of net i).name = ap (λ (l : Leg). l.name) (sym (leg_of-found net i leg found)) in
        ap (λ n. enough_of n seats b (mean over mean_den) (next over next_den) histories passed) name-same
        ∙ ap (λ s. enough_of (leg_of net i).name s b (mean over mean_den) (next over next_den) histories passed) seats-are
        ∙ ap (λ x. enough_of (leg_of net i).name (protection_of net cert i k b) b x (next over next_den) histories passed) mean-same
        ∙ ap (λ x. enough_of (leg_of net i).name (protection_of net cert i k b) b (mean_fare net cert i k 1 b) x histories passed) next-same
        ∙ ap (λ h. enough_of (leg_of net i).name (protection_of net cert i k b) b (mean_fare net cert i k 1 b) (bucket_fare net cert i k (b + 1)) h passed) histories-are
        ∙ ap (λ p. enough_of (leg_of net i).name (protection_of net cert i k b) b (mean_fare net cert i k 1 b) (bucket_fare net cert i k (b + 1)) net.histories p)
        (passed-are ∙ passed-is seats demands seats-are demands-are)

    pub demand-is : (leg : Leg) (demands : List ℕ) → Some leg ≡ slice_get net.legs i → demands ≡ basis.demands.items → demand_of leg.name demands ≡ demand_line net cert i k b
    demand-is leg demands found demands-are =
        let name-same : leg.name ≡ (leg_of net i).name = ap (λ (l : Leg). l.name) (sym (leg_of-found net i leg found)) in
        ap (λ n. demand_of n demands) name-same
        ∙ ap (λ ds. ended (codes "demand" ++ spaced (leg_of net i).name ++ ds))
        (ap (λ xs. flat_map (λ seats. spaced (decimal seats)) xs) (demands-are ∙ is.demands)
        ∙ flat_map-map (λ seats. spaced (decimal seats)) (demand_above net cert i k b) (range_with_len 0 net.histories))

    -- both
    pub basis-is : basis.above.seats ≢ 0 → enough_line net cert i k b ++ demand_line net cert i k b ≡ basis_text net cert i k b
    basis-is some =
        let tested : (weight_of net cert i k 1 b == 0) ≡ false = ap (λ n. n == 0) (sym is.seats) ∙ ne_eqb basis.above.seats 0 some in
        sym (ap (λ (t : Bool). if t then [] else (enough_line net cert i k b ++ demand_line net cert i k b)) tested)

  -- ---- the protections of a leg
  pub levels-count : (levels : List ℕ) → levels ≡ protections_of net cert i k → length levels ≡ length (leg_of net i).cuts
  levels-count levels are = ap length are ∙ length-map-range_with_len (protection_of net cert i k) 1 (bucket_count net i - 1) ∙ omega arith

  pub few-levels : (levels : List ℕ) → levels ≡ protections_of net cert i k → (leg : Leg) → Some leg ≡ slice_get net.legs i → length leg.cuts ≤ MOST_THRESHOLDS → length levels ≤ MOST_THRESHOLDS
  few-levels levels are leg found few = omega (arith, few, levels-count levels are, ap (λ (l : Leg). length l.cuts) (leg_of-found net i leg found))

  pub level-at : (levels : List ℕ) → levels ≡ protections_of net cert i k → (n m : ℕ) → n < length levels → n + 1 ≡ m → get_or levels n 0 ≡ protection_of net cert i k m
  level-at levels are n m short next =
      let within : n < bucket_count net i - 1 = omega (arith, short, levels-count levels are) in
      ap (λ xs. get_or xs n 0) are ∙ get_or-map-range_with_len (protection_of net cert i k) 1 (bucket_count net i - 1) n m 0 within (omega arith)

  -- that of the buckets above the last one, which are some
  pub last-within : (levels : List ℕ) → levels ≡ protections_of net cert i k → (last : ℕ) → last ≢ 0 → last < bucket_count net i → last - 1 < length levels
  last-within levels are last some within = omega (arith, some, within, levels-count levels are)

  pub level-last : (levels : List ℕ) → levels ≡ protections_of net cert i k → (last : ℕ) → last ≢ 0 → last < bucket_count net i → get_or levels (last - 1) 0 ≡ protection_of net cert i k last
  level-last levels are last some within = level-at levels are (last - 1) last (last-within levels are last some within) (omega (arith, some))

  abbrev protected_in : ℕ → Option ℕ → List ℕ
  protected_in seats found = if seats == 0 then [] else option_map_or (λ place. basis_text net cert i k (place + 1)) found []

  protected-is : (last seats : ℕ) (levels : List ℕ) (found : Option ℕ) → seats ≡ protection_of net cert i k last → levels ≡ protections_of net cert i k
      → found ≡ position (λ level. nat_le seats level) levels → protected_in seats found ≡ protected_text net cert i k last
  protected-is last seats levels found seats-are levels-are found-is =
      let same : found ≡ position (λ level. nat_le (protection_of net cert i k last) level) (protections_of net cert i k) =
      found-is ∙ ap (λ xs. position (λ level. nat_le seats level) xs) levels-are
      ∙ ap (λ s. position (λ level. nat_le s level) (protections_of net cert i k)) seats-are in
      ap (λ s. protected_in s found) seats-are ∙ ap (λ o. protected_in (protection_of net cert i k last) o) same

  -- none are protected
  pub protected-none : (last seats : ℕ) → seats ≡ protection_of net cert i k last → seats ≡ 0 → [] ≡ protected_text net cert i k last
  protected-none last seats seats-are zero =
      let found : Option ℕ = position (λ level. nat_le seats level) (protections_of net cert i k) in
      sym (ap (λ (t : Bool). if t then [] else option_map_or (λ place. basis_text net cert i k (place + 1)) found []) (eq-eqb seats 0 zero))
      ∙ protected-is last seats (protections_of net cert i k) found seats-are refl refl

  -- some are
  pub protected-some : (last seats : ℕ) (levels : List ℕ) (found : Option ℕ) → seats ≡ protection_of net cert i k last → seats ≢ 0 → levels ≡ protections_of net cert i k
      → found ≡ position (λ level. nat_le seats level) levels → option_map_or (λ place. basis_text net cert i k (place + 1)) found [] ≡ protected_text net cert i k last
  protected-some last seats levels found seats-are some levels-are found-is =
      sym (ap (λ (t : Bool). if t then [] else option_map_or (λ place. basis_text net cert i k (place + 1)) found []) (ne_eqb seats 0 some))
      ∙ protected-is last seats levels found seats-are levels-are found-is
