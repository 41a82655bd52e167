-- The numbers of the legs so far, and that each was there.
use Rattle.std.proofs.Common.{ℕ, ◌≡◌, ◌∙◌, ◌<◌, ◌+◌, ◌++◌, ◌∷◌, ◌^◌, [], List, Bool, true, false, map, drop, bytes_eq, sym, ap, refl, subst}
use Rattle.std.proofs.Common.{arith, rules, length, append_assoc, None, Some}
use Rattle.std.specs.List.{list_all}
use Rattle.nrm_network.specs.Rows.{Row, field, is_named}
use Rattle.nrm_network.specs.File.{number_of_leg}
use Rattle.nrm_network.proofs.DraftGrowth.{look-up, place-below}
use Rattle.nrm_network.proofs.RowFields.{next_field, all_next, field-is}
use Rattle.nrm_network.proofs.draft.Draft.leg_numbers.Goals as goal

one-missing : (legs : List Row) (names : List (List ℕ)) (i : ℕ) → i < length names → is_named legs (field names i) ≡ false
    → list_all (is_named legs) (drop i names) ≡ false
one-missing legs names i short none = all_next (is_named legs) names i short ∙ rw none refl

one-more : (legs : List Row) (names : List (List ℕ)) (i n : ℕ) (read all : List ℕ) (b : Bool) → i < length names
    → is_named legs (field names i) ≡ true → n ≡ number_of_leg legs (field names i)
    → b ≡ list_all (is_named legs) (drop i names) → read ++ map (number_of_leg legs) (drop i names) ≡ all
    → (b ≡ list_all (is_named legs) (drop (i + 1) names)) × ((read ++ n ∷ []) ++ map (number_of_leg legs) (drop (i + 1) names) ≡ all)
one-more legs names i n read all b short named number there numbers =
    let whole : map (number_of_leg legs) (drop i names)
    ≡ number_of_leg legs (field names i) ∷ map (number_of_leg legs) (drop (i + 1) names) =
    ap (λ (fs : List (List ℕ)). map (number_of_leg legs) fs) (next_field names i short) in (
      there ∙ all_next (is_named legs) names i short ∙ rw named refl,
      append_assoc read (n ∷ []) (map (number_of_leg legs) (drop (i + 1) names))
          ∙ ap (λ (m : ℕ). read ++ m ∷ map (number_of_leg legs) (drop (i + 1) names)) number ∙ ap (λ (ns : List ℕ). read ++ ns) (sym whole)
          ∙ numbers,
    )

pub overflow_cast-number : goal.overflow_cast-number
overflow_cast-number c =
    let below = place-below (λ (other : List ℕ).
    bytes_eq other c.name-item.result) 0 c.in-Some.number c.args.self.now.leg_names c.in-Some.ensures in
    let short : c.in-Some.number < 2 ^ 8 = omega (arith, below, c.requires) in
    search rules

pub returns-in-None : goal.returns-in-None
returns-in-None c = λ legs are.
    let name = field-is c.args.names.now c.loop-name.name-index c.name-item.result c.loop-name-test.true c.name-item.is in
    let none : is_named legs c.name-item.result ≡ false =
    look-up None c.args.self.now.leg_names legs c.name-item.result c.name-item.result c.in-None.ensures are refl in
    (c.loop-name.invariant legs are).0
    ∙ one-missing legs c.args.names.now c.loop-name.name-index c.loop-name-test.true
    (subst (λ (t : List ℕ). is_named legs t ≡ false) name none)

pub loop-name-preserved : goal.loop-name-preserved
loop-name-preserved c = λ legs are.
    let name = field-is c.args.names.now c.loop-name.name-index c.name-item.result c.loop-name-test.true c.name-item.is in
    let here : (is_named legs c.name-item.result ≡ true) × (c.in-Some.number ≡ number_of_leg legs c.name-item.result) =
    look-up (Some c.in-Some.number) c.args.self.now.leg_names legs c.name-item.result c.name-item.result c.in-Some.ensures are refl in
    let before = c.loop-name.invariant legs are in
    let after = one-more legs c.args.names.now c.loop-name.name-index c.in-Some.number c.loop-name.numbers.items
    (map (number_of_leg legs) c.args.names.now) (list_all (is_named legs) c.args.names.now) c.loop-name-test.true
    (subst (λ (t : List ℕ). is_named legs t ≡ true) name here.0) (here.1 ∙ ap (number_of_leg legs) name) before.0 before.1 in
    (after.0, rw c.in_ok-push-in-Some.ensures.items after.1)
