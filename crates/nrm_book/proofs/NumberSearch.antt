-- The place of a number in a row of slots whose numbers rise, as a binary search finds it.
use Rattle.std.proofs.Common.{ℕ, ◌≡◌, ◌<◌, ◌≤◌, ◌==◌, Bool, true, false, List, length, get_or, Option, Some, None, Result, Ok, Err, refl, sym, ap, subst, nat_lt, arith}
use Rattle.std.specs.List.{position, position_or_len}
use Rattle.std.specs.List.Sorted.{IsBinarySearchResult, IsSearchInRange}
use Rattle.std.specs.Ordering.{MatchOrdering, nat_cmp, ordering_index}
use Rattle.std.specs.Cmp.{ranks}
use Rattle.std.specs.declared.cmp.Ordering.{Ordering}
use Rattle.std.specs.declared.cmp.Ordering.TheVariants.{Less, Equal, Greater}
use Rattle.std.specs.Result.{result_ok}
use Rattle.std.proofs.lemmas.Bool.{eqb-true}
use Rattle.std.proofs.lemmas.Bool.Decides.{nat_tests}
use Rattle.std.proofs.lemmas.List.Quantifiers.{position-Some}
use Rattle.std.proofs.lemmas.List.Sums.{fails_before_first}
use borrow.Author.Tests.{tests}
use Rattle.nrm_book.specs.declared.slot.Slot.{Slot}
use Rattle.nrm_book.specs.Standing.{SlotsRise}
use Rattle.nrm_book.proofs.Rows.{no_slot}
use Rattle.nrm_book.proofs.Kept.{none-past}

module _ (slots : List Slot) (number : ℕ) where
  abbrev has : Slot → Bool
  has slot = slot.number == number

  -- the only slot with the number
  pub placed_at : (i : ℕ) → SlotsRise slots → i < length slots → (get_or slots i no_slot).number ≡ number → position has slots ≡ Some i
  placed_at i rise l same = go (position has slots) refl
    where
      own : has (get_or slots i no_slot) ≡ true
      own = grind (arith, nat_tests)

      go : (found : Option ℕ) → position has slots ≡ found → found ≡ Some i
      go None e =
          let past = none-past (nat_lt (position_or_len has slots) (length slots)) (position_or_len has slots) e in
          let end : length slots ≤ position_or_len has slots = grind (arith, nat_tests) in
          let other : has (get_or slots i no_slot) ≡ false = fails_before_first has slots i no_slot (omega arith) in
          absurd (cc (own, other))
      go (Some k) e =
          let (short, test, before) = position-Some has slots k no_slot e in
          let there : (get_or slots k no_slot).number ≡ number = eqb-true _ number test in
          let low : (k < i) → (get_or slots k no_slot).number < (get_or slots i no_slot).number = λ h. rise k i no_slot h l in
          let high : (i < k) → (get_or slots i no_slot).number < (get_or slots k no_slot).number = λ h. rise i k no_slot h short in
          let same_place : k ≡ i = grind arith in
          ap Some same_place

  -- no slot with the number
  pub placed_nowhere : ((k : ℕ) → k < length slots → (get_or slots k no_slot).number ≡ number → ⊥) → position has slots ≡ None
  placed_nowhere none = go (position has slots) refl
    where
      go : (found : Option ℕ) → position has slots ≡ found → found ≡ None
      go None e = refl
      go (Some k) e =
          let (short, test, before) = position-Some has slots k no_slot e in
          absurd (none k short (eqb-true _ number test))

  -- what a comparison tells of a slot's number
  told : (b : Slot) (o : Ordering) → nat_cmp b.number number ≡ o → MatchOrdering o (b.number < number) (b.number ≡ number) (number < b.number)
  told b o is = subst (λ o. MatchOrdering o (b.number < number) (b.number ≡ number) (number < b.number)) is (ranks b.number number)

  higher : (a b : ℕ) → a ≤ b → ordering_index (nat_cmp a number) ≤ ordering_index (nat_cmp b number)
  higher a b le = grind (arith, tests)

  rising : SlotsRise slots → (a b : ℕ) (d : Slot) → a ≤ b → b < length slots → (get_or slots a d).number ≤ (get_or slots b d).number
  rising rise a b d le lt =
      let below : a < b → (get_or slots a d).number < (get_or slots b d).number = λ h. rise a b d h lt in
      let equal : a ≡ b → (get_or slots a d).number ≡ (get_or slots b d).number = λ e. ap (λ (n : ℕ). (get_or slots n d).number) e in
      grind arith

  -- what a binary search finds is the place
  pub searched : (r : Result ℕ ℕ) → SlotsRise slots → IsSearchInRange r (length slots) → IsBinarySearchResult (λ (slot : Slot). nat_cmp slot.number number) slots r → result_ok r ≡ position has slots
  searched (Ok i) rise bound found = sym (placed_at i rise bound (told (get_or slots i no_slot) Equal (found no_slot)))
  searched (Err i) rise bound found = sym (placed_nowhere none)
    where
      none : (k : ℕ) → k < length slots → (get_or slots k no_slot).number ≡ number → ⊥
      none k short same =
          let slot = get_or slots k no_slot in
          let parted = found (λ a b d le lt. higher (get_or slots a d).number (get_or slots b d).number (rising rise a b d le lt)) in
          let before : k < i → slot.number < number = λ h. told slot Less (parted.0 k no_slot (omega arith) h) in
          let behind : i ≤ k → number < slot.number = λ h. told slot Greater (parted.1 k no_slot h short) in
          absurd (grind arith)
