-- Values and protections of four legs, policies and seasons, and the classes of two legs more.
use Rattle.std.specs.Prelude.{ℕ, ◌≡◌, ◌+◌, ◌*◌, ◌≤◌, Bool, true, false, if◌then◌else◌, min, nat_lt, [], ◌∷◌, map, replicate, codes, refl, Some, None}
use Rattle.std.proofs.Common.{arith, inl, inr}
use Rattle.nrm_model.specs.Network.{NetworkValue}
use Rattle.nrm_legdp.specs.Classes.{ComesBefore, demands_of, only_on, refused_count}
use Rattle.nrm_legdp.specs.Policies.{DemandValue, IsPolicy, value, protection, earned, by_protections}
use Rattle.nrm_legdp.specs.Seasons.{IsRemembering, Remembering, earned_after, earned_in, seasons}

-- two classes, two histories, three seats: 2200 over 4 is 550
abbrev pub high_and_low : DemandValue
high_and_low = record { histories = 2; fares = 300 ∷ 100 ∷ []; demands = 1 ∷ 2 ∷ 2 ∷ 3 ∷ [] }

high_and_low_value : value high_and_low 2 3 ≡ 2200
high_and_low_value = refl

high_and_low_protects : protection high_and_low 3 1 ≡ 2
high_and_low_protects = refl

high_and_low_earns : earned high_and_low (by_protections high_and_low 3) 2 3 ≡ 2200
high_and_low_earns = refl

-- to sell all that is asked for is a policy, and earns less; so is to sell one seat at most. To sell more than is left is none
sell_all : IsPolicy (λ j x d. min d x)
sell_all j x d = omega arith

sell_all_earns : earned high_and_low (λ j x d. min d x) 2 3 ≡ 1600
sell_all_earns = refl

sell_one : IsPolicy (λ j x d. min 1 (min d x))
sell_one j x d = omega arith

sell_what_is_not_there : IsPolicy (λ j x d. d) → ⊥
sell_what_is_not_there is = let one : 1 ≤ min 1 0 = is 1 0 1 in omega (arith, one)

-- the four seasons, and what the protections earn in each: a seat of the low class, and the high class all that it asks for
four_seasons : seasons high_and_low 2 ≡ (2 ∷ 1 ∷ []) ∷ (2 ∷ 2 ∷ []) ∷ (3 ∷ 1 ∷ []) ∷ (3 ∷ 2 ∷ []) ∷ []
four_seasons = refl

four_seasons_earn : map (earned_in high_and_low (by_protections high_and_low 3) 2 3) (seasons high_and_low 2) ≡ 400 ∷ 700 ∷ 400 ∷ 700 ∷ []
four_seasons_earn = refl

-- to sell one seat to the low class, and none to the high one if the low one asked for 3: 100 in four seasons, 300 in one and 600 in one
abbrev afraid : Remembering
afraid [] x d = min 1 (min d x)
afraid (last ∷ past) x d = if nat_lt 2 last then 0 else min d x

afraid_remembers : IsRemembering afraid
afraid_remembers [] x d = omega arith
afraid_remembers (last ∷ past) x d = go (nat_lt 2 last)
  where
    go : (b : Bool) → (if b then 0 else min d x) ≤ min d x
    go true = omega arith
    go false = omega arith

afraid_earns : earned_after high_and_low afraid 2 3 [] ≡ 4 * 100 + 300 + 600
afraid_earns = refl

sell_without_looking : IsRemembering (λ past x d. d) → ⊥
sell_without_looking is = let one : 1 ≤ min 1 0 = is [] 0 1 in omega (arith, one)

-- two classes, four histories, ten seats: over 16 it is 4175 over 2
abbrev pub local_fares : DemandValue
local_fares = record { histories = 4; fares = 400 ∷ 150 ∷ []; demands = 2 ∷ 4 ∷ 3 ∷ 3 ∷ 6 ∷ 8 ∷ 5 ∷ 9 ∷ [] }

local_value : value local_fares 2 10 * 2 ≡ 4175 * 16
local_value = refl

local_protects : protection local_fares 10 1 ≡ 3
local_protects = refl

-- three classes of four histories and three seats, worked in the page on nests: the second seat is worth just what the second class pays, and
-- isn't protected for the first
abbrev pub three_classes : DemandValue
three_classes = record { histories = 4; fares = 600 ∷ 300 ∷ 200 ∷ []; demands = 1 ∷ 1 ∷ 2 ∷ 2 ∷ 0 ∷ 2 ∷ 0 ∷ 2 ∷ 0 ∷ 1 ∷ 1 ∷ 0 ∷ [] }

equal_worth_is_not_protected : map (protection three_classes 3) (1 ∷ 2 ∷ []) ≡ 1 ∷ 2 ∷ []
equal_worth_is_not_protected = refl

three_classes_value : value three_classes 3 3 ≡ 1075 * (4 * 4 * 4)
three_classes_value = refl

-- one class and no seat
abbrev pub no_seat : DemandValue
no_seat = record { histories = 1; fares = 100 ∷ []; demands = 5 ∷ [] }

no_seat_value : value no_seat 1 0 ≡ 0
no_seat_value = refl

-- ---- classes: the products that use a leg and no other, in file order; and the demand of one in each history, over all periods
abbrev classes_and_one_through : NetworkValue
classes_and_one_through = record {
  histories = 2;
  periods = 2;
  legs = record { name = codes "AB"; seats = 3; authorised = 4; cuts = [] } ∷ record { name = codes "BC"; seats = 2; authorised = 2; cuts = [] } ∷ [];
  products = record { name = codes "LOW"; fare = 200; refund = 100; legs = 0 ∷ [] } ∷ record { name = codes "BOTH"; fare = 300; refund = 100; legs = 0 ∷ 1 ∷ [] }
      ∷ record { name = codes "HIGH"; fare = 400; refund = 100; legs = 0 ∷ [] } ∷ [];
  demand = 1 ∷ 2 ∷ 3 ∷ 4 ∷ 5 ∷ 0 ∷ 0 ∷ 6 ∷ 0 ∷ 0 ∷ 7 ∷ 0 ∷ [];
}

only_on_the_first : only_on classes_and_one_through 0 ≡ 0 ∷ 2 ∷ []
only_on_the_first = refl

demands : map (demands_of classes_and_one_through) (0 ∷ 2 ∷ []) ≡ (3 ∷ 7 ∷ []) ∷ (0 ∷ 7 ∷ []) ∷ []
demands = refl

-- a leg that all products share with another has none, and eleven are too many
abbrev many_classes : ℕ → NetworkValue
many_classes count = record {
  histories = 1;
  periods = 1;
  legs = record { name = codes "AB"; seats = 3; authorised = 3; cuts = [] } ∷ [];
  products = replicate count (record { name = codes "P"; fare = 200; refund = 100; legs = 0 ∷ [] });
  demand = replicate count 0;
}

none_or_some : map (refused_count classes_and_one_through) (0 ∷ 1 ∷ []) ≡ None ∷ Some 0 ∷ []
none_or_some = refl

ten_or_eleven : map (λ (count : ℕ). refused_count (many_classes count) 0) (10 ∷ 11 ∷ []) ≡ None ∷ Some 11 ∷ []
ten_or_eleven = refl

-- of two products of one fare the one comes first that the file has first; and else the dearer one
in_file_order : ComesBefore (many_classes 2) 0 1
in_file_order = inr (refl, omega arith)

not_in_file_order : ComesBefore (many_classes 2) 1 0 → ⊥
not_in_file_order (inl less) = omega (arith, less)
not_in_file_order (inr (same, before)) = omega (arith, before)

dearer_first : ComesBefore classes_and_one_through 2 0
dearer_first = inl (omega arith)

cheaper_first : ComesBefore classes_and_one_through 0 2 → ⊥
cheaper_first (inl less) = omega (arith, less)
cheaper_first (inr (same, before)) = omega (arith, same)
