-- A row of slots, and the bookings that stand in it.
use Rattle.std.proofs.Common.{ℕ, zero, suc, ◌≡◌, ◌∙◌, ◌+◌, ◌<◌, ◌≤◌, ◌==◌, All, AllPairs, Bool, true, false, not, List, [], ◌∷◌, ◌++◌, length, get_or, set, filter, Option, Some, None, IfNone, nat_lt, refl, sym, ap, subst, arith}
use Rattle.std.specs.List.{find, position, position_or_len}
use Rattle.std.proofs.lemmas.Bool.Decides.{nat_tests}
use Rattle.std.proofs.lemmas.Bool.{eqb-true}
use Rattle.std.proofs.lemmas.List.{get_or_read, length-set}
use Rattle.std.proofs.lemmas.List.Elements.{All-cons, All-filter, All-head, All-push, All-tail, filter_map-append}
use Rattle.std.proofs.lemmas.List.Kept.{AllPairs-filter}
use Rattle.std.proofs.lemmas.List.Quantifiers.{all_pairs_push, position-Some}
use Rattle.std.proofs.lemmas.List.Sums.{fails_before_first}
use Rattle.nrm_book.specs.declared.booking.Booking.{Booking}
use Rattle.nrm_book.specs.declared.slot.Sale.{Sale}
use Rattle.nrm_book.specs.declared.slot.Slot.{Slot}
use Rattle.nrm_book.specs.Bookings.{booking_numbered, without}
use Rattle.nrm_book.proofs.Kept.{none-past}
use Rattle.nrm_book.specs.Standing.{IsRow, SlotsRise, booking_of, emptied, is_taken, standing, standing_in}

-- what stands past the end of a row
abbrev pub no_slot : Slot
no_slot = record { number = 0; sale = None }

-- ---- the bookings that stand have the numbers of their slots
one-above : (n number : ℕ) (sale : Option Sale) (slots : List Slot) → n < number → All (λ (b : Booking). n < b.number) (standing slots)
    → All (λ (b : Booking). n < b.number) (standing (record { number = number; sale = sale } ∷ slots))
one-above n number None slots above rest = rest
one-above n number (Some sale) slots above rest = All-cons (λ (b : Booking). n < b.number) (record { number = number; product = sale.product; party = sale.party }) (standing slots) above rest

all-above : (n : ℕ) (slots : List Slot) → All (λ (slot : Slot). n < slot.number) slots → All (λ (b : Booking). n < b.number) (standing slots)
all-above n [] above = λ k d short. absurd (omega arith)
all-above n (s ∷ ss) above =
    one-above n s.number s.sale ss (All-head (λ (slot : Slot). n < slot.number) s ss above) (all-above n ss (All-tail (λ (slot : Slot). n < slot.number) s ss above))

-- among bookings of higher numbers none has the number
higher-stay : (n : ℕ) (bs : List Booking) → All (λ (b : Booking). n < b.number) bs → (without bs n ≡ bs) × (booking_numbered bs n ≡ None)
higher-stay n [] above = (refl, refl)
higher-stay n (b ∷ bs) above =
    let more : n < b.number = All-head (λ (b : Booking). n < b.number) b bs above in
    let other : (b.number == n) ≡ false = grind (arith, nat_tests) in
    let rest = higher-stay n bs (All-tail (λ (b : Booking). n < b.number) b bs above) in
    (rw other (ap (λ (ys : List Booking). b ∷ ys) rest.0), rw other rest.1)

-- ---- a slot that is emptied
module _ (n : ℕ) (slots : List Slot) where
  -- the slot of the number, before slots of higher ones
  own-slot : (sale : Option Sale) → All (λ (b : Booking). n < b.number) (standing slots)
      → (standing slots ≡ without (standing (record { number = n; sale = sale } ∷ slots)) n) × (booking_of n sale ≡ booking_numbered (standing (record { number = n; sale = sale } ∷ slots)) n)
  own-slot None above = let stay = higher-stay n (standing slots) above in (sym stay.0, sym stay.1)
  own-slot (Some sale) above =
      let same : (n == n) ≡ true = grind (arith, nat_tests) in
      let stay = higher-stay n (standing slots) above in
      (rw same (sym stay.0), rw same refl)

  -- a slot of a lower number
  lower-slot : (number : ℕ) (sale : Option Sale) (left : List Slot) (found : Option Booking) → number < n → (standing left ≡ without (standing slots) n) × (found ≡ booking_numbered (standing slots) n)
      → (standing (record { number = number; sale = sale } ∷ left) ≡ without (standing (record { number = number; sale = sale } ∷ slots)) n) × (found ≡ booking_numbered (standing (record { number = number; sale = sale } ∷ slots)) n)
  lower-slot number None left found lower rest = rest
  lower-slot number (Some sale) left found lower rest =
      let other : (number == n) ≡ false = grind (arith, nat_tests) in
      (rw other (ap (λ (ys : List Booking). record { number = number; product = sale.product; party = sale.party } ∷ ys) rest.0), rw other rest.1)

-- the bookings that stand once the slot of a number is emptied are the others, and the booking that stood there was that of the number
pub slot-emptied : (slots : List Slot) (k n : ℕ) → SlotsRise slots → k < length slots → n ≡ (get_or slots k no_slot).number
    → (standing (set slots k (emptied (get_or slots k no_slot))) ≡ without (standing slots) n) × (standing_in (get_or slots k no_slot) ≡ booking_numbered (standing slots) n)
slot-emptied [] k n rise short is = absurd (omega arith)
slot-emptied (s ∷ ss) zero n rise short is =
    let above : All (λ (slot : Slot). s.number < slot.number) ss = λ k d at. rise 0 (suc k) d (omega arith) (omega arith) in
    let own = own-slot s.number ss s.sale (all-above s.number ss above) in
    rw is own
slot-emptied (s ∷ ss) (suc k) n rise short is =
    let rest = slot-emptied ss k n (λ i j d low high. rise (suc i) (suc j) d (omega arith) (omega arith)) (omega arith) is in
    let more : s.number < (get_or ss k no_slot).number = rise 0 (suc k) no_slot (omega arith) short in
    lower-slot n ss s.number s.sale (set ss k (emptied (get_or ss k no_slot))) (standing_in (get_or ss k no_slot)) (omega arith) rest

-- ---- no slot has the number
one-other : (n number : ℕ) (sale : Option Sale) (slots : List Slot) → (number == n) ≡ false → booking_numbered (standing slots) n ≡ None
    → booking_numbered (standing (record { number = number; sale = sale } ∷ slots)) n ≡ None
one-other n number None slots other rest = rest
one-other n number (Some sale) slots other rest = rw other rest

pub none-numbered : (n : ℕ) (slots : List Slot) → All (λ (slot : Slot). (slot.number == n) ≡ false) slots → booking_numbered (standing slots) n ≡ None
none-numbered n [] others = refl
none-numbered n (s ∷ ss) others =
    one-other n s.number s.sale ss (All-head (λ (slot : Slot). (slot.number == n) ≡ false) s ss others) (none-numbered n ss (All-tail (λ (slot : Slot). (slot.number == n) ≡ false) s ss others))

-- where no booking has the number, all others are all
stays : (n : ℕ) (b : Booking) (bs : List Booking) (test : Bool) → (b.number == n) ≡ test → booking_numbered (b ∷ bs) n ≡ None → (booking_numbered bs n ≡ None → without bs n ≡ bs) → without (b ∷ bs) n ≡ b ∷ bs
stays n b bs true is none rest =
    let found : Some b ≡ booking_numbered (b ∷ bs) n = rw is refl in
    absurd (cc (found, none))
stays n b bs false is none rest =
    let there : booking_numbered bs n ≡ None = rw is at none in
    rw is (ap (λ (ys : List Booking). b ∷ ys) (rest there))

pub dead-stay : (n : ℕ) (bs : List Booking) → booking_numbered bs n ≡ None → without bs n ≡ bs
dead-stay n [] none = refl
dead-stay n (b ∷ bs) none = stays n b bs (b.number == n) refl none (dead-stay n bs)

-- ---- one slot more, and the slots that are taken alone
pub one-stands : (slots : List Slot) (slot : Slot) (b : Booking) → standing_in slot ≡ Some b → standing (slots ++ slot ∷ []) ≡ standing slots ++ b ∷ []
one-stands slots slot b is = filter_map-append standing_in slots (slot ∷ []) ∙ ap (λ (bs : List Booking). standing slots ++ bs) (rw is refl)

one-taken : (number : ℕ) (sale : Option Sale) (slots : List Slot) → (standing (filter is_taken slots) ≡ standing slots) × (length (filter is_taken slots) ≡ length (standing slots))
    → (standing (filter is_taken (record { number = number; sale = sale } ∷ slots)) ≡ standing (record { number = number; sale = sale } ∷ slots))
    × (length (filter is_taken (record { number = number; sale = sale } ∷ slots)) ≡ length (standing (record { number = number; sale = sale } ∷ slots)))
one-taken number None slots rest = rest
one-taken number (Some sale) slots rest =
    (ap (λ (bs : List Booking). record { number = number; product = sale.product; party = sale.party } ∷ bs) rest.0, omega (arith, rest.1))

pub taken-alone : (slots : List Slot) → (standing (filter is_taken slots) ≡ standing slots) × (length (filter is_taken slots) ≡ length (standing slots))
taken-alone [] = (refl, refl)
taken-alone (s ∷ ss) = one-taken s.number s.sale ss (taken-alone ss)

pub IsRow-taken : (slots : List Slot) (next : ℕ) → IsRow slots next → IsRow (filter is_taken slots) next
IsRow-taken slots next is = record {
  rising = AllPairs-filter (λ (earlier later : Slot). earlier.number < later.number) is_taken slots is.rising;
  below = All-filter is_taken (λ (slot : Slot). slot.number < next) slots is.below;
}

pub IsRow-more : (slots : List Slot) (next : ℕ) (slot : Slot) (number : ℕ) → IsRow slots next → slot.number ≡ number → next ≤ number → IsRow (slots ++ slot ∷ []) (number + 1)
IsRow-more slots next slot number is same high = record {
  rising = all_pairs_push (λ (earlier later : Slot). earlier.number < later.number) slots slot is.rising (λ k d at. omega (arith, is.below k d at, same, high));
  below = All-push (λ (slot : Slot). slot.number < number + 1) slots slot (λ k d at. omega (arith, is.below k d at, high)) (omega arith);
}

-- ---- what a search finds, in a row that has another name, of the bookings that are seen
module _ (slots row : List Slot) (items : List Booking) (n : ℕ) (named : row ≡ slots) (seen : standing slots ≡ items) where
  pub row-absent : None ≡ position (λ (slot : Slot). slot.number == n) row → None ≡ booking_numbered items n
  row-absent none =
      let at : position (λ (slot : Slot). slot.number == n) slots ≡ None = sym (none ∙ ap (position (λ (slot : Slot). slot.number == n)) named) in
      let past = none-past (nat_lt (position_or_len (λ (slot : Slot). slot.number == n) slots) (length slots)) (position_or_len (λ (slot : Slot). slot.number == n) slots) at in
      let end : length slots ≤ position_or_len (λ (slot : Slot). slot.number == n) slots = grind (arith, nat_tests) in
      let others : All (λ (slot : Slot). (slot.number == n) ≡ false) slots = λ k d short. fails_before_first (λ (slot : Slot). slot.number == n) slots k d (omega arith) in
      sym (none-numbered n slots others) ∙ ap (λ (bs : List Booking). booking_numbered bs n) seen

  module _ (k : ℕ) (slot : Slot) (some : Some k ≡ position (λ (slot : Slot). slot.number == n) row) (read : slot ≡ get_or slots k slot) where
    pub row-short : k < length slots
    row-short = (position-Some (λ (slot : Slot). slot.number == n) slots k no_slot (sym (some ∙ ap (position (λ (slot : Slot). slot.number == n)) named))).0

    own-number : n ≡ (get_or slots k no_slot).number
    own-number = sym (eqb-true _ n (position-Some (λ (slot : Slot). slot.number == n) slots k no_slot (sym (some ∙ ap (position (λ (slot : Slot). slot.number == n)) named))).1)

    here : slot ≡ get_or slots k no_slot
    here = get_or_read slots k slot row-short read no_slot

    pub row-found : SlotsRise slots → standing_in slot ≡ booking_numbered items n
    row-found rise = ap standing_in here ∙ (slot-emptied slots k n rise row-short own-number).1 ∙ ap (λ (bs : List Booking). booking_numbered bs n) seen

    pub row-emptied : SlotsRise slots → standing (set slots k (emptied slot)) ≡ without items n
    row-emptied rise = ap (λ (s : Slot). standing (set slots k (emptied s))) here ∙ (slot-emptied slots k n rise row-short own-number).0 ∙ ap (λ (bs : List Booking). without bs n) seen

-- ---- an emptied slot keeps its number
number-stays : (slots : List Slot) (new : Slot) (k i : ℕ) (d : Slot) → k < length slots → new.number ≡ (get_or slots k no_slot).number → (get_or (set slots k new) i d).number ≡ (get_or slots i d).number
number-stays [] new k i d short is = absurd (omega arith)
number-stays (s ∷ ss) new zero zero d short is = is
number-stays (s ∷ ss) new zero (suc i) d short is = refl
number-stays (s ∷ ss) new (suc k) zero d short is = refl
number-stays (s ∷ ss) new (suc k) (suc i) d short is = number-stays ss new k i d (omega arith) is

pub IsRow-emptied : (slots : List Slot) (next k : ℕ) (slot : Slot) → IsRow slots next → k < length slots → slot ≡ get_or slots k slot → IsRow (set slots k (emptied slot)) next
IsRow-emptied slots next k slot is short read =
    let same : (i : ℕ) (d : Slot) → (get_or (set slots k (emptied slot)) i d).number ≡ (get_or slots i d).number = λ i d. number-stays slots (emptied slot) k i d short (ap (λ (s : Slot). s.number) (get_or_read slots k slot short read no_slot)) in
    let long = length-set slots k (emptied slot) in
    record {
      rising = λ i j d low high. omega (arith, is.rising i j d low (omega arith), same i d, same j d);
      below = λ i d at. omega (arith, is.below i d (omega arith), same i d);
    }
