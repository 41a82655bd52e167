-- The fields of a row one after another.
use Rattle.std.proofs.Common.{ℕ, zero, suc, ◌≡◌, ◌∙◌, ◌+◌, ◌<◌, Bool, true, false, not, ◌&&◌, List, [], ◌∷◌, ◌++◌, length, drop, map}
use Rattle.std.proofs.Common.{get_or, bytes_eq, refl, sym, ap, subst, arith, add-one, append_assoc, Some, None, Ok}
use Rattle.std.specs.List.{list_any, list_all}
use Rattle.std.proofs.lemmas.Bool.{true≢false}
use Rattle.std.proofs.lemmas.List.Folds.{list_all-map}
use Rattle.nrm_text.specs.Numbers.{is_whole, value_of}
use Rattle.nrm_model.specs.Limits.{differ}
use Rattle.nrm_network.specs.Rows.{field}
use Rattle.nrm_network.specs.Checks.{NumberField, is_within}
use Rattle.nrm_network.specs.Inner.Fields.{NumberIn, are_whole, bounded}
use Rattle.std.specs.Cmp.Lexicographic.{nat_list_eq_equiv}
use Rattle.nrm_model.proofs.NameLemmas.{list_any-same}
use Rattle.std.proofs.lemmas.List.{get_or_read}
use Rattle.std.proofs.lemmas.Option.{unwrap_or-slice_get}

and-false : (b : Bool) → b && false ≡ false
and-false true = refl
and-false false = refl

-- the fields from a place on are the one there and those after it
next : (fields : List (List ℕ)) (i : ℕ) → i < length fields → drop i fields ≡ field fields i ∷ drop (suc i) fields
next [] i short = absurd (omega arith)
next (f ∷ fields) zero short = refl
next (f ∷ fields) (suc i) short = next fields i (omega arith)

pub next_field : (fields : List (List ℕ)) (i : ℕ) → i < length fields → drop i fields ≡ field fields i ∷ drop (i + 1) fields
next_field fields i short = subst (λ (n : ℕ). drop i fields ≡ field fields i ∷ drop n fields) (sym (add-one i)) (next fields i short)

pub all_next : (p : List ℕ → Bool) (fields : List (List ℕ)) (i : ℕ) → i < length fields
    → list_all p (drop i fields) ≡ p (field fields i) && list_all p (drop (i + 1) fields)
all_next p fields i short = ap (λ (fs : List (List ℕ)). list_all p fs) (next_field fields i short)

differ_next : (fields : List (List ℕ)) (i : ℕ) → i < length fields
    → differ bytes_eq (drop i fields)
    ≡ not (list_any (bytes_eq (field fields i)) (drop (i + 1) fields)) && differ bytes_eq (drop (i + 1) fields)
differ_next fields i short = ap (λ (fs : List (List ℕ)). differ bytes_eq fs) (next_field fields i short)

-- the numbers from a place on
push_next : (fields : List (List ℕ)) (i n : ℕ) (read all : List ℕ) → i < length fields → n ≡ value_of (field fields i)
    → read ++ map value_of (drop i fields) ≡ all → (read ++ n ∷ []) ++ map value_of (drop (i + 1) fields) ≡ all
push_next fields i n read all short value is =
    let whole : map value_of (drop i fields) ≡ value_of (field fields i) ∷ map value_of (drop (i + 1) fields) =
    ap (λ (fs : List (List ℕ)). map value_of fs) (next_field fields i short) in
    append_assoc read (n ∷ []) (map value_of (drop (i + 1) fields)) ∙ ap (λ (m : ℕ). read ++ m ∷ map value_of (drop (i + 1) fields)) value
    ∙ ap (λ (ns : List ℕ). read ++ ns) (sym whole) ∙ is

-- the names from a place on
pub push_name : (fields : List (List ℕ)) (i : ℕ) (name : List ℕ) (read all : List (List ℕ)) → i < length fields → name ≡ field fields i
    → read ++ drop i fields ≡ all → (read ++ name ∷ []) ++ drop (i + 1) fields ≡ all
push_name fields i name read all short same is =
    append_assoc read (name ∷ []) (drop (i + 1) fields) ∙ ap (λ (n : List ℕ). read ++ n ∷ drop (i + 1) fields) same
    ∙ ap (λ (fs : List (List ℕ)). read ++ fs) (sym (next_field fields i short)) ∙ is

-- what is known of the fields from a place on where those up to another were read: these numbers, and whether each was within the bounds
pub record ReadTo (from least greatest : ℕ) (fields : List (List ℕ)) (i : ℕ) (numbers : List ℕ) (inside : Bool) : Type 0 where
  pub whole : are_whole (bounded least greatest (drop from fields)) ≡ are_whole (bounded least greatest (drop i fields))
  pub within : list_all is_within (bounded least greatest (drop from fields))
      ≡ (inside && list_all is_within (bounded least greatest (drop i fields)))
  pub read : inside ≡ true → numbers ++ map value_of (drop i fields) ≡ map value_of (drop from fields)

module _ (from least greatest : ℕ) (fields : List (List ℕ)) (i : ℕ) (short : i < length fields) where
  whole-step : are_whole (bounded least greatest (drop i fields))
      ≡ is_whole (field fields i) && are_whole (bounded least greatest (drop (i + 1) fields))
  whole-step = ap (λ (fs : List (List ℕ)). are_whole (bounded least greatest fs)) (next_field fields i short)

  within-step : list_all is_within (bounded least greatest (drop i fields))
      ≡ is_within (field fields i, least, greatest) && list_all is_within (bounded least greatest (drop (i + 1) fields))
  within-step = ap (λ (fs : List (List ℕ)). list_all is_within (bounded least greatest fs)) (next_field fields i short)

  -- one number more, one outside its bounds, and a field that is no number
  pub read-within : (text : List ℕ) (n : ℕ) (numbers : List ℕ) (inside : Bool) → text ≡ field fields i
      → NumberIn (text, least, greatest) (Ok (Some n)) → ReadTo from least greatest fields i numbers inside
      → ReadTo from least greatest fields (i + 1) (numbers ++ n ∷ []) inside
  read-within text n numbers inside is number so_far =
      let (whole, within, value) = subst (λ (t : List ℕ). NumberIn (t, least, greatest) (Ok (Some n))) is number in
      record {
        whole = so_far.whole ∙ whole-step ∙ rw whole refl;
        within = so_far.within ∙ ap (λ (b : Bool). inside && b) (within-step ∙ rw within refl);
        read = λ all. push_next fields i n numbers (map value_of (drop from fields)) short value (so_far.read all);
      }

  pub read-outside : (text numbers : List ℕ) (inside : Bool) → text ≡ field fields i → NumberIn (text, least, greatest) (Ok None)
      → ReadTo from least greatest fields i numbers inside → ReadTo from least greatest fields (i + 1) numbers false
  read-outside text numbers inside is number so_far =
      let (whole, outside) = subst (λ (t : List ℕ). NumberIn (t, least, greatest) (Ok None)) is number in
      record {
        whole = so_far.whole ∙ whole-step ∙ rw whole refl;
        within = so_far.within ∙ ap (λ (b : Bool). inside && b) (within-step ∙ rw outside refl) ∙ and-false inside;
        read = λ all. absurd (true≢false (sym all));
      }

  pub read-off : (text numbers : List ℕ) (inside : Bool) → text ≡ field fields i → is_whole text ≡ false
      → ReadTo from least greatest fields i numbers inside → are_whole (bounded least greatest (drop from fields)) ≡ false
  read-off text numbers inside is off so_far =
      let other : is_whole (field fields i) ≡ false = subst (λ (t : List ℕ). is_whole t ≡ false) is off in
      so_far.whole ∙ whole-step ∙ rw other refl

-- once a number was outside its bounds, what was read is free
pub read-freely : (from least greatest : ℕ) (fields : List (List ℕ)) (i : ℕ) (numbers others : List ℕ)
    → ReadTo from least greatest fields i numbers false → ReadTo from least greatest fields i others false
read-freely from least greatest fields i numbers others so_far =
    record { whole = so_far.whole; within = so_far.within; read = λ all. absurd (true≢false (sym all)) }

-- number fields are whole where their texts are
pub whole_fields : (least greatest : ℕ) (fields : List (List ℕ))
    → list_all (λ (number : NumberField). is_whole number.0) (map (λ text. (text, least, greatest)) fields) ≡ list_all is_whole fields
whole_fields least greatest fields = list_all-map (λ (number : NumberField). is_whole number.0) (λ text. (text, least, greatest)) fields

-- an item read from a list is its field there
pub field-is : (fields : List (List ℕ)) (i : ℕ) (item : List ℕ) → i < length fields → item ≡ get_or fields i item → item ≡ field fields i
field-is fields i item short is = get_or_read fields i item short is [] ∙ sym (unwrap_or-slice_get fields i [])

-- a name that stands again among those after it, and one that doesn't
pub differ-step : (names : List (List ℕ)) (i : ℕ) (x : List ℕ) (b : Bool) → i < length names → x ≡ field names i
    → b ≡ list_any (λ y. bytes_eq y x) (drop (i + 1) names)
    → differ bytes_eq (drop i names) ≡ not b && differ bytes_eq (drop (i + 1) names)
differ-step names i x b short is found =
    differ_next names i short
    ∙ ap (λ (c : Bool). not c && differ bytes_eq (drop (i + 1) names))
    (ap (λ (y : List ℕ). list_any (bytes_eq y) (drop (i + 1) names)) (sym is)
    ∙ list_any-same (bytes_eq x) (λ y. bytes_eq y x) (λ y. nat_list_eq_equiv.symm x y) (drop (i + 1) names) ∙ sym found)
