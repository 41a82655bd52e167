-- Sessions that keep their bookings are sessions without the lines that weren't carried out.
use Rattle.std.proofs.Common.{ℕ, ◌≡◌, ◌+◌, ◌<◌, ◌≤◌, All, List, [], ◌∷◌, ◌++◌, length, Option, Some, None, Ok, Err, Bool, true, false, refl, subst, arith}
use Rattle.std.proofs.lemmas.List.{length-map}
use Rattle.std.proofs.lemmas.List.Elements.{All-nil, All-push}
use Rattle.nrm_model.specs.declared.product.Product.{Product}
use Rattle.nrm_model.specs.Inventory.{authorised_of, inventory_of, legs_of}
use Rattle.nrm_model.specs.Network.{NetworkValue, product_named}
use Rattle.nrm_model.proofs.Inventories.{legs-are}
use Rattle.nrm_book.specs.declared.booking.Booking.{Booking}
use Rattle.nrm_book.specs.Bookings.{left_on, sold_on}
use Rattle.nrm_book.proofs.Kept.{seats-added}
use Rattle.nrm_book.proofs.Sold.{AreProducts}
use Rattle.nrm_hindsight.specs.Requests.{requests_of}
use Rattle.nrm_hindsight.proofs.Choices.{all-chosen}
use Rattle.nrm_plan.specs.Plans.{PlanValue}
use Rattle.nrm_control.specs.State.{SeatState}
use Rattle.nrm_stream.specs.declared.command.Command.{Command}
use Rattle.nrm_session.specs.Laws.{IsSound}
use Rattle.nrm_session.specs.Replies.{Reply, bad, unknown, sold, no_leg, no_fare, cancelled, optimised, optimised_none, overflow, memory, hindsight_told, leg_told, plan_told}
use Rattle.nrm_session.specs.Run.{Run}
use Rattle.nrm_session.specs.Step.{Step}
use Rattle.std.proofs.lemmas.List.Quantifiers.{all_pairs_push}
use Rattle.nrm_session.specs.Money.{AreNumbered}
use Rattle.nrm_session.proofs.FirstParts.{parts-first}
use Rattle.nrm_session.proofs.Hindsights.{bounded}
use Rattle.nrm_session.proofs.Money.{goes-on}
use Rattle.nrm_session.proofs.PrintedPlans.{printed-from}
use Rattle.nrm_session.proofs.OtherLines.{other-lines}
use Rattle.nrm_session.proofs.Seats.{kept, product-below}
use Rattle.nrm_keeper.specs.declared.row.KeptRow.{KeptRow}
use Rattle.nrm_kept_cli.specs.Laws.{FaultsLeaveNothing, KeptHindsightBounds, KeptMoneyAddsUp, KeptPlansAreOptimal, KeptRunsHaveFirstParts, KeptRunsOversellNoLeg, carried_out, replies_to_those}
use Rattle.nrm_kept_cli.specs.Rows.{Loaded, booking_of, load, load_behind, loaded_more, loaded_state, nothing_loaded, row_fits}
use Rattle.nrm_kept_cli.specs.Step.{KeptReply, KeptStep, as_ever, lacks_memory, not_stored, told}
use Rattle.nrm_kept_cli.proofs.Loads.{fits-of}

-- ---- lines that weren't carried out
-- a step as ever, and what follows it
after-told : (net : NetworkValue) (s mid s' : SeatState) (c : Command) (commands : List Command) (reply : Reply) (replies : List KeptReply)
    → Step net s c reply mid → Run net mid (carried_out commands replies) (replies_to_those replies) s'
    → Run net s (carried_out (c ∷ commands) (told reply ∷ replies)) (replies_to_those (told reply ∷ replies)) s'
after-told net s mid s' c commands bad replies step run = (mid, step, run)
after-told net s mid s' c commands unknown replies step run = (mid, step, run)
after-told net s mid s' c commands (sold number) replies step run = (mid, step, run)
after-told net s mid s' c commands (no_leg name) replies step run = (mid, step, run)
after-told net s mid s' c commands no_fare replies step run = (mid, step, run)
after-told net s mid s' c commands (cancelled number amount) replies step run = (mid, step, run)
after-told net s mid s' c commands (optimised value) replies step run = (mid, step, run)
after-told net s mid s' c commands optimised_none replies step run = (mid, step, run)
after-told net s mid s' c commands overflow replies step run = (mid, step, run)
after-told net s mid s' c commands memory replies step run =
    subst (λ (m : SeatState). Run net m (carried_out commands replies) (replies_to_those replies) s') (other-lines net s mid c step).1 run
after-told net s mid s' c commands (hindsight_told value revenue withheld) replies step run = (mid, step, run)
after-told net s mid s' c commands (leg_told text) replies step run = (mid, step, run)
after-told net s mid s' c commands (plan_told text) replies step run = (mid, step, run)

after-one : (net : NetworkValue) (s mid s' : SeatState) (c : Command) (commands : List Command) (reply : KeptReply) (replies : List KeptReply)
    → KeptStep net s c reply mid → Run net mid (carried_out commands replies) (replies_to_those replies) s'
    → Run net s (carried_out (c ∷ commands) (reply ∷ replies)) (replies_to_those (reply ∷ replies)) s'
after-one net s mid s' c commands reply replies (as_ever given after step) run = after-told net s after s' c commands given replies step run
after-one net s mid s' c commands reply replies (not_stored changes) run = run
after-one net s mid s' c commands reply replies (lacks_memory changes) run = run

pub faults-leave-nothing : FaultsLeaveNothing
faults-leave-nothing net s s' [] [] run = run
faults-leave-nothing net s s' [] (reply ∷ replies) run = absurd run
faults-leave-nothing net s s' (c ∷ commands) [] run = absurd run
faults-leave-nothing net s s' (c ∷ commands) (reply ∷ replies) (mid, step, run) =
    after-one net s mid s' c commands reply replies step (faults-leave-nothing net mid s' commands replies run)

-- ---- seats
-- what has loaded oversells no leg
record Within (net : NetworkValue) (bookings : List Booking) : Type 0 where
  products : AreProducts (inventory_of net) bookings
  seats : (i : ℕ) → i < length net.legs → sold_on (inventory_of net) bookings i ≤ authorised_of (inventory_of net) i

within-more : (net : NetworkValue) (l : Loaded) (row : KeptRow) (b : Booking) → Within net l.bookings → booking_of net l row ≡ Some b → Within net (l.bookings ++ b ∷ [])
within-more net l row b within gives = by (product_named net row.product) refl
  where
    by : (o : Option ℕ) → product_named net row.product ≡ o → Within net (l.bookings ++ b ∷ [])
    by None e = absurd (let none : None ≡ Some b = rw e at gives in cc)
    by (Some j) e = fits (row_fits net l row j) refl
      where
        fits : (test : Bool) → row_fits net l row j ≡ test → Within net (l.bookings ++ b ∷ [])
        fits false f = absurd (let none : None ≡ Some b = rw (e, f) at gives in cc)
        fits true f =
            let is : Some (record { number = row.number; product = j; party = row.party }) ≡ Some b = rw (e, f) at gives in
            let same : record { number = row.number; product = j; party = row.party } ≡ b = cc in
            let does = fits-of net l row j f in
            let short : j < length (inventory_of net).legs = omega (arith, product-below net row.product j e, length-map net.products (λ (p : Product). p.legs)) in
            let own : All (λ i. row.party ≤ left_on (inventory_of net) l.bookings i) (legs_of (inventory_of net) j) = rw (legs-are net j) does.seats in
            subst (λ (b : Booking). Within net (l.bookings ++ b ∷ [])) same (record {
              products = All-push (λ (b : Booking). b.product < length (inventory_of net).legs) l.bookings (record { number = row.number; product = j; party = row.party }) within.products short;
              seats = λ i at. seats-added (inventory_of net) l.bookings (record { number = row.number; product = j; party = row.party }) i within.products short own (within.seats i at);
            })

within-loaded : (net : NetworkValue) (l m : Loaded) (rows : List KeptRow) → Within net l.bookings → load_behind net l rows ≡ Ok m → Within net m.bookings
within-loaded net l m [] within loads = let same : Ok l ≡ Ok m = loads in let is : l ≡ m = cc in subst (λ (l : Loaded). Within net l.bookings) is within
within-loaded net l m (row ∷ rows) within loads = by (booking_of net l row) refl (λ b. within-loaded net (loaded_more l b) m rows)
  where
    by : (o : Option Booking) → booking_of net l row ≡ o → ((b : Booking) → Within net (loaded_more l b).bookings → load_behind net (loaded_more l b) rows ≡ Ok m → Within net m.bookings) → Within net m.bookings
    by None e rest = absurd (let clash : Err row.number ≡ Ok m = rw e at loads in cc)
    by (Some b) e rest = rest b (within-more net l row b within e) (rw e at loads)

loaded-kept : (net : NetworkValue) (plan : PlanValue) (rows : List KeptRow) (l : Loaded) → load net rows ≡ Ok l → IsSound net (loaded_state plan l)
loaded-kept net plan rows l loads =
    let none : Within net [] = record { products = All-nil (λ (b : Booking). b.product < length (inventory_of net).legs); seats = (kept.0 net plan).seats } in
    let all = within-loaded net nothing_loaded l rows none loads in
    record { products = λ k d at. omega (arith, all.products k d at, length-map net.products (λ (p : Product). p.legs)); seats = all.seats }

pub seats-kept : KeptRunsOversellNoLeg
seats-kept net plan rows l loads = (
  loaded-kept net plan rows l loads,
  (λ s' commands replies run. kept.1 net (loaded_state plan l) s' (carried_out commands replies) (replies_to_those replies) (loaded-kept net plan rows l loads)
      (faults-leave-nothing net (loaded_state plan l) s' commands replies run)),
)

-- ---- hindsight
pub hindsight-bounds : KeptHindsightBounds
hindsight-bounds net plan rows l is loads mid after commands replies value revenue withheld run step =
    bounded net (loaded_state plan l) is (loaded-kept net plan rows l loads) (all-chosen (requests_of l.bookings)) (carried_out commands replies) (replies_to_those replies) mid after value revenue withheld
    (faults-leave-nothing net (loaded_state plan l) mid commands replies run) step

-- ---- money
more-numbered : (net : NetworkValue) (plan : PlanValue) (l : Loaded) (row : KeptRow) (b : Booking) → AreNumbered (loaded_state plan l)
    → booking_of net l row ≡ Some b → AreNumbered (loaded_state plan (loaded_more l b))
more-numbered net plan l row b are gives = by (product_named net row.product) refl
  where
    by : (o : Option ℕ) → product_named net row.product ≡ o → AreNumbered (loaded_state plan (loaded_more l b))
    by None e = absurd (let none : None ≡ Some b = rw e at gives in cc)
    by (Some j) e = fits (row_fits net l row j) refl
      where
        fits : (test : Bool) → row_fits net l row j ≡ test → AreNumbered (loaded_state plan (loaded_more l b))
        fits false f = absurd (let none : None ≡ Some b = rw (e, f) at gives in cc)
        fits true f =
            let is : Some (record { number = row.number; product = j; party = row.party }) ≡ Some b = rw (e, f) at gives in
            let same : record { number = row.number; product = j; party = row.party } ≡ b = cc in
            let high = (fits-of net l row j f).number in
            subst (λ (b : Booking). AreNumbered (loaded_state plan (loaded_more l b))) same (record {
              rising = all_pairs_push (λ (earlier later : Booking). earlier.number < later.number) l.bookings (record { number = row.number; product = j; party = row.party }) are.rising (λ k d at. omega (arith, are.below k d at, high));
              below = All-push (λ (b : Booking). b.number < row.number + 1) l.bookings (record { number = row.number; product = j; party = row.party }) (λ k d at. omega (arith, are.below k d at, high)) (omega arith);
            })

loaded-numbered : (net : NetworkValue) (plan : PlanValue) (l m : Loaded) (rows : List KeptRow) → AreNumbered (loaded_state plan l) → load_behind net l rows ≡ Ok m → AreNumbered (loaded_state plan m)
loaded-numbered net plan l m [] are loads = let same : Ok l ≡ Ok m = loads in let is : l ≡ m = cc in subst (λ (l : Loaded). AreNumbered (loaded_state plan l)) is are
loaded-numbered net plan l m (row ∷ rows) are loads = by (booking_of net l row) refl (λ b. loaded-numbered net plan (loaded_more l b) m rows)
  where
    by : (o : Option Booking) → booking_of net l row ≡ o → ((b : Booking) → AreNumbered (loaded_state plan (loaded_more l b)) → load_behind net (loaded_more l b) rows ≡ Ok m → AreNumbered (loaded_state plan m)) → AreNumbered (loaded_state plan m)
    by None e rest = absurd (let clash : Err row.number ≡ Ok m = rw e at loads in cc)
    by (Some b) e rest = rest b (more-numbered net plan l row b are e) (rw e at loads)

none-numbered : (plan : PlanValue) → AreNumbered (loaded_state plan nothing_loaded)
none-numbered plan = record { rising = λ i j d low high. absurd (omega (arith, high)); below = All-nil (λ (b : Booking). b.number < 1) }

pub money-adds-up : KeptMoneyAddsUp
money-adds-up net plan rows l is loads s' commands replies run =
    let all = goes-on net (loaded_state plan l) (carried_out commands replies) (replies_to_those replies) s' is
    (loaded-numbered net plan nothing_loaded l rows (none-numbered plan) loads)
    (faults-leave-nothing net (loaded_state plan l) s' commands replies run) in
    omega (arith, all)

-- ---- plans
pub plans-optimal : KeptPlansAreOptimal
plans-optimal net m plan l is solves opens mid after commands replies reply run step =
    printed-from net m (loaded_state plan l) (carried_out commands replies) (replies_to_those replies) mid after reply is solves opens
    (faults-leave-nothing net (loaded_state plan l) mid commands replies run) step

-- ---- first parts
pub parts-kept : KeptRunsHaveFirstParts
parts-kept net = parts-first (KeptStep net)
