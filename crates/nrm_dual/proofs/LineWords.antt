-- Words of a line and of a fraction: too many of them, and words that are no name.
use Rattle.std.proofs.Common.{ℕ, suc, ◌≡◌, ◌∙◌, ◌+◌, ◌<◌, ◌≤◌, List, [], ◌∷◌, length, get_or, Some, None, refl, sym, ap, arith, Bool, true}
use Rattle.std.proofs.Common.{false, IsTrue, bytes_eq, inl, inr}
use Rattle.std.specs.Prelude.{◌==◌, codes, if◌then◌else◌}
use Rattle.std.specs.Option.{option_map}
use Rattle.std.specs.List.{position_from, slice_split}
use Rattle.std.specs.Str.Lines.{strip_carriage_return}
use Rattle.std.proofs.lemmas.Bool.{cases_Bool, false≢true}
use Rattle.std.proofs.lemmas.Slice.Eq.{bytes_eq-Decides}
use Rattle.std.proofs.lemmas.Option.{none-some}
use Rattle.nrm_text.specs.Names.{is_name, name_in}
use Rattle.nrm_model.specs.Network.{NetworkValue, leg_named, product_named}
use Rattle.nrm_model.specs.Limits.{IsNetwork}
use Rattle.nrm_stream.proofs.Cuts.{some-parts}
use Rattle.nrm_dual.specs.Reading.{written_by, written_in, entry_of_words, entry_of, entry_at, named_place, the_value, of_product, of_leg}

-- more than two parts are no fraction, and more than three words no entry
pub too-many-parts : (num den : List ℕ) (more : List (List ℕ)) → 1 ≤ length more → written_by (num ∷ den ∷ more) ≡ None
too-many-parts num den [] some = absurd (omega arith)
too-many-parts num den (further ∷ more) some = refl

pub too-many-words : (net : NetworkValue) (kind name fraction : List ℕ) (more : List (List ℕ)) → 1 ≤ length more
    → entry_of_words net (kind ∷ name ∷ fraction ∷ more) ≡ None
too-many-words net kind name fraction [] some = absurd (omega arith)
too-many-words net kind name fraction (further ∷ more) some = refl

-- a word that is no name is none of these names
pub none-named : {X : Type 0} (name : X → List ℕ) (word : List ℕ) (i : ℕ) (xs : List X) → is_name word ≡ false
    → ((k : ℕ) (d : X) → k < length xs → IsTrue (is_name (name (get_or xs k d)))) → position_from (λ x. bytes_eq (name x) word) i xs ≡ None
none-named name word i [] off names = refl
none-named name word i (x ∷ xs) off names =
    elim (cases_Bool (bytes_eq (name x) word)) [
      | inl same ↦ absurd (false≢true (sym off ∙ ap is_name (sym ((bytes_eq-Decides (name x) word).0 same)) ∙ names 0 x (omega arith)))
      | inr other ↦ rw other (none-named name word (i + 1) xs off (λ k d l. names (suc k) d (omega arith)))
    ]

pub no-product : (net : NetworkValue) (word : List ℕ) → IsNetwork net → is_name word ≡ false → product_named net word ≡ None
no-product net word limits off = none-named (λ product. product.name) word 0 net.products off (λ k d l. (limits.products k d l).name)

pub no-leg : (net : NetworkValue) (word : List ℕ) → IsNetwork net → is_name word ≡ false → leg_named net word ≡ None
no-leg net word limits off = none-named (λ leg. leg.name) word 0 net.legs off (λ k d l. (limits.legs k d l).name)

off-name : (word : List ℕ) → name_in word ≡ None → is_name word ≡ false
off-name word none = go (is_name word) refl none
  where
    go : (b : Bool) → is_name word ≡ b → (if b then Some word else None) ≡ None → is_name word ≡ false
    go true is e = absurd (none-some word (sym e))
    go false is e = is

pub no-place : (net : NetworkValue) (kind word : List ℕ) → IsNetwork net → name_in word ≡ None → named_place net kind word ≡ None
no-place net kind word limits none =
    rw (no-product net word limits (off-name word none)) (rw (no-leg net word limits (off-name word none)) (go (bytes_eq kind (codes "product")) (bytes_eq kind (codes "leg"))))
  where
    go : (a b : Bool) → (if a then option_map of_product None else if b then option_map of_leg None else None) ≡ None
    go true b = refl
    go false true = refl
    go false false = refl

-- ---- a line is cut into its words
module _ (net : NetworkValue) (line kept kind rest : List ℕ) (are : kept ≡ strip_carriage_return line) (first : slice_split (λ c. c == 32) kept ≡ kind ∷ slice_split (λ c. c == 32) rest) where
  words : slice_split (λ c. c == 32) (strip_carriage_return line) ≡ kind ∷ slice_split (λ c. c == 32) rest
  words = ap (slice_split (λ c. c == 32)) (sym are) ∙ first

  pub value-entry : slice_split (λ c. c == 32) rest ≡ rest ∷ [] → bytes_eq kind (codes "value") ≡ true
      → entry_of net line ≡ entry_at (Some the_value) (written_in rest)
  value-entry second is =
      ap (entry_of_words net) (words ∙ ap (λ more. kind ∷ more) second) ∙ rw is refl

  pub named-entry : (name fraction : List ℕ) → slice_split (λ c. c == 32) rest ≡ name ∷ slice_split (λ c. c == 32) fraction
      → slice_split (λ c. c == 32) fraction ≡ fraction ∷ []
      → entry_of net line ≡ entry_at (named_place net kind name) (written_in fraction)
  named-entry name fraction second third = ap (entry_of_words net) (words ∙ ap (λ more. kind ∷ more) (second ∙ ap (λ more. name ∷ more) third))

  pub many-entry : (name fraction further more : List ℕ) → slice_split (λ c. c == 32) rest ≡ name ∷ slice_split (λ c. c == 32) fraction
      → slice_split (λ c. c == 32) fraction ≡ further ∷ slice_split (λ c. c == 32) more → entry_of net line ≡ None
  many-entry name fraction further more second third =
      ap (entry_of_words net) (words ∙ ap (λ more. kind ∷ more) (second ∙ ap (λ more. name ∷ more) third))
      ∙ too-many-words net kind name further (slice_split (λ c. c == 32) more) (some-parts (λ c. c == 32) more)
