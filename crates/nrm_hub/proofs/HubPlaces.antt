-- The clients of a hub at their places.
use Rattle.std.proofs.Common.{ℕ, ◌≡◌, ◌≢◌, ◌∙◌, ◌+◌, ◌<◌, ◌≤◌, Bool, true, false, List, [], ◌∷◌, ◌++◌, length, get_or, Option, Some, None, refl, sym, ap, subst}
use Rattle.std.proofs.Common.{append-nil, append_assoc, arith, inl, inr}
use Rattle.std.specs.Prelude.{is_some, map, option_map, replicate, slice_set}
use Rattle.std.proofs.lemmas.Bool.{cases_lt, false≢true}
use Rattle.std.proofs.lemmas.List.{get_or_default, get_or_past, replicate_more, set-get_or}
use Rattle.std.proofs.lemmas.List.Elements.{All-append, All-get_or, All-map, All-replicate, All-set, All-weaker}
use Rattle.nrm_frames.specs.declared.why.Why.{Why}
use Rattle.nrm_hub.specs.Clients.{ClientValue, closed_for}
use Rattle.nrm_hub.specs.Hub.{alone, unseated}
use Rattle.nrm_hub.specs.Inner.Seats.{CameAt, ClosesAt, HasPlaces, came, closes, passed_by, stays}
use Rattle.nrm_hub.specs.Inner.Taking.{Came, joined, refused}
use Rattle.nrm_hub.specs.Seats.{AreSeated, IsSeated, IsBelow}
use Rattle.nrm_hub.specs.World.{TakesNothing}
use Rattle.nrm_hub.proofs.Unseated.{unseated-desk}

-- ---- whether something is there
pub none-of : {A : Type 0} (o : Option A) → is_some o ≡ false → o ≡ None
none-of None e = refl
none-of (Some x) e = absurd (false≢true (sym e))

pub some-of : {A : Type 0} (o : Option A) → is_some o ≡ true → o ≢ None
some-of None e is = false≢true e
some-of (Some x) e is = cc

pub same-some : {A : Type 0} (o : Option A) (x y : A) → o ≡ Some x → o ≡ Some y → x ≡ y
same-some o x y one other = cc

-- who is at a place is at one that the hub has
pub place-within : (clients : List (Option ClientValue)) (place : ℕ) (c : ClientValue) → get_or clients place None ≡ Some c
    → place < length clients
place-within clients place c there = elim (cases_lt place (length clients)) [
  | inl less ↦ less
  | inr past ↦ let nobody : get_or clients place None ≡ None = get_or_past clients place None past in absurd (cc)
]

-- what was read at a place
module _ (clients : List (Option ClientValue)) (place : ℕ) (x : Option ClientValue) (within : place < length clients)
    (read : x ≡ get_or clients place x) where
  pub at-place : get_or clients place None ≡ x
  at-place = get_or_default clients place None x within ∙ sym read

  pub unchanged : slice_set clients place x ≡ clients
  unchanged = ap (λ (y : Option ClientValue). slice_set clients place y) (sym at-place) ∙ set-get_or clients place None

-- ---- the desks of clients
-- there are more desks
is-seated-more : (desks more : ℕ) (c : Option ClientValue) → desks ≤ more → IsSeated desks c → IsSeated more c
is-seated-more desks more None grown seated = tt
is-seated-more desks more (Some c) grown seated = by c.desk seated
  where
    by : (desk : Option ℕ) → IsBelow desk desks → IsBelow desk more
    by None below = tt
    by (Some d) below = omega (arith, below, grown)

pub seated-more : (clients : List (Option ClientValue)) (desks more : ℕ) → desks ≤ more → AreSeated clients desks → AreSeated clients more
seated-more clients desks more grown seated =
    All-weaker (IsSeated desks) (IsSeated more) (λ c is. is-seated-more desks more c grown is) clients seated

-- the desk of the client at a place
pub seated-at : (clients : List (Option ClientValue)) (desks place : ℕ) (c : ClientValue) → get_or clients place None ≡ Some c
    → AreSeated clients desks → IsBelow c.desk desks
seated-at clients desks place c there seated =
    subst (IsSeated desks) there (All-get_or (IsSeated desks) clients place None (place-within clients place c there) seated)

pub seated-set : (clients : List (Option ClientValue)) (desks place : ℕ) (c c' : ClientValue) → get_or clients place None ≡ Some c
    → c'.desk ≡ c.desk → AreSeated clients desks → AreSeated (slice_set clients place (Some c')) desks
seated-set clients desks place c c' there same seated =
    All-set (IsSeated desks) clients place (Some c')
    (subst (λ (desk : Option ℕ). IsBelow desk desks) (sym same) (seated-at clients desks place c there seated)) seated

-- ---- a client is to be closed
pub closes-now : (clients : List (Option ClientValue)) (place : ℕ) (reason : Why) (x : Option ClientValue) (c c' : ClientValue) (why : Option Why)
    → place < length clients → x ≡ get_or clients place x → x ≡ Some c → why ≡ c.closing → is_some why ≡ false → c' ≡ closed_for c reason
    → ClosesAt clients place reason (slice_set clients place (Some c')) true
closes-now clients place reason x c c' why within read is closing whole new =
    subst (λ (y : ClientValue). ClosesAt clients place reason (slice_set clients place (Some y)) true) (sym new)
    (closes c (at-place clients place x within read ∙ is) (sym closing ∙ none-of why whole))

pub closes-not : (clients : List (Option ClientValue)) (place : ℕ) (reason : Why) (x : Option ClientValue) → place < length clients
    → x ≡ get_or clients place x → TakesNothing x → ClosesAt clients place reason (slice_set clients place x) false
closes-not clients place reason x within read nothing =
    subst (λ (cs : List (Option ClientValue)). ClosesAt clients place reason cs false) (sym (unchanged clients place x within read))
    (stays (subst TakesNothing (sym (at-place clients place x within read)) nothing))

pub takes-nothing : (c : ClientValue) (why : Option Why) → why ≡ c.closing → is_some why ≡ true → TakesNothing (Some c)
takes-nothing c why closing is none = some-of why is (closing ∙ none)

pub closes-past : (clients : List (Option ClientValue)) (place : ℕ) (reason : Why) → length clients ≤ place
    → ClosesAt clients place reason clients false
closes-past clients place reason past = stays (subst TakesNothing (sym (get_or_past clients place None past)) tt)

pub closes-seated : {closes_it : Bool} (clients clients' : List (Option ClientValue)) (desks place : ℕ) (reason : Why)
    → ClosesAt clients place reason clients' closes_it → AreSeated clients desks → AreSeated clients' desks
closes-seated clients clients' desks place reason (closes c there whole) seated =
    seated-set clients desks place c (closed_for c reason) there refl seated
closes-seated clients clients' desks place reason (stays nothing) seated = seated

-- ---- places that nobody was at
pub places-none : (clients : List (Option ClientValue)) → HasPlaces clients clients
places-none clients = (0, sym (append-nil clients))

pub places-more : (clients mid new : List (Option ClientValue)) → HasPlaces clients mid → new ≡ mid ++ None ∷ [] → HasPlaces clients new
places-more clients mid new (count, is) pushed = (
  count + 1,
  pushed ∙ ap (λ (cs : List (Option ClientValue)). cs ++ None ∷ []) is ∙ append_assoc clients (replicate count None) (None ∷ [])
      ∙ ap (λ (cs : List (Option ClientValue)). clients ++ cs) (replicate_more count None),
)

pub places-seated : (clients new : List (Option ClientValue)) (desks : ℕ) → HasPlaces clients new → AreSeated clients desks → AreSeated new desks
places-seated clients new desks (count, is) seated =
    subst (λ (cs : List (Option ClientValue)). AreSeated cs desks) (sym is)
    (All-append (IsSeated desks) clients (replicate count None) seated (All-replicate (IsSeated desks) count None tt))

-- a piece came from the client at a place, or from nobody
pub past-not : (clients : List (Option ClientValue)) (place : ℕ) (piece : List ℕ) (x : Option ClientValue) → place < length clients
    → x ≡ get_or clients place x → TakesNothing x → CameAt clients place piece (slice_set clients place x) false
past-not clients place piece x within read nothing =
    subst (λ (cs : List (Option ClientValue)). CameAt clients place piece cs false) (sym (unchanged clients place x within read))
    (passed_by (subst TakesNothing (sym (at-place clients place x within read)) nothing))

came-desk : (c c' : ClientValue) (piece : List ℕ) → Came c c' piece → c'.desk ≡ c.desk
came-desk c c' piece (joined _ fits) = refl
came-desk c c' piece (refused _ reason much) = refl

pub came-seated : {closes_it : Bool} (clients clients' : List (Option ClientValue)) (desks place : ℕ) (piece : List ℕ)
    → CameAt clients place piece clients' closes_it → AreSeated clients desks → AreSeated clients' desks
came-seated clients _ desks place piece (came c c' there whole is) seated =
    seated-set clients desks place c c' there (came-desk c c' piece is) seated
came-seated clients _ desks place piece (passed_by nothing) seated = seated

-- the desk of each client is as it was
pub alone-seated : (clients : List (Option ClientValue)) (desks place : ℕ) (c : ClientValue) (desk : Option ℕ) → get_or clients place None ≡ Some c
    → AreSeated clients desks → AreSeated (alone clients place c desk) desks
alone-seated clients desks place c None there seated = seated-set clients desks place c c there refl seated
alone-seated clients desks place c (Some desk) there seated =
    All-set (IsSeated desks) (map (option_map (unseated desk)) clients) place (Some c) (seated-at clients desks place c there seated)
    (All-map (IsSeated desks) (option_map (unseated desk)) clients
    (All-weaker (IsSeated desks) (λ (x : Option ClientValue). IsSeated desks (option_map (unseated desk) x)) by clients seated))
  where
    by : (x : Option ClientValue) → IsSeated desks x → IsSeated desks (option_map (unseated desk) x)
    by None is = tt
    by (Some b) is = subst (λ (o : Option ℕ). IsBelow o desks) (sym (unseated-desk desk b)) is
