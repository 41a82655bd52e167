-- The lines of one client: where the next one ends, what becomes of it, and that desks don't get fewer.
use Rattle.std.proofs.Common.{ℕ, ◌≡◌, ◌∙◌, ◌+◌, ◌<◌, ◌≤◌, Bool, true, false, List, [], ◌∷◌, length, take, drop, map, get_or, Option, Some, None}
use Rattle.std.proofs.Common.{refl, sym, ap, subst, arith, length-append, take_all}
use Rattle.std.specs.Prelude.{All, IfSome, position, slice_set, unwrap_or, ◌==◌}
use Rattle.std.proofs.lemmas.List.{get_or-take, length-set, length-take}
use Rattle.std.proofs.lemmas.List.Sums.{fails_before_first, passes_at_first}
use Rattle.nrm_text.proofs.Places.{found, missing, placed}
use Rattle.nrm_model.proofs.NameLemmas.{number-below, number-same}
use Rattle.nrm_frames.specs.declared.rights.Rights.{Rights}
use Rattle.nrm_frames.specs.declared.why.Why.TheVariants as why
use Rattle.nrm_hub.specs.Clients.{ClientValue, Hears, after_line, closed_for, cut, joined_as, whole}
use Rattle.nrm_hub.specs.Inner.Answered.{Hears as Joined, IsAnswered, IsJoinFault}
use Rattle.nrm_hub.specs.Inner.Taking.{Begins, Excuses, GoesWithout, IsLine, IsTook, Takes, TakesIts, answered_as, joined, line, nothing, settled, taken, too_long}
use Rattle.nrm_hub.specs.Seats.{IsBelow}
use Rattle.nrm_hub.specs.Asked.{asked_in}
use Rattle.nrm_hub.specs.Lines.{at_line, denied_line, is_beyond}
use Rattle.nrm_hub.specs.Lines.{Answers, How, asks, greets_late, is_carried, is_denied, lacks, looks, may_not_ask, otherwise, repeats, runs_out}
use Rattle.nrm_hub.specs.Register.{DeskValue, Joins, RegisterValue, added, desk_at, desk_named, new_desk, replaced, there}
use Rattle.nrm_hub.specs.Waiting.{HasNoLine}
use Rattle.nrm_hub.specs.Taking.{TakesLine, answers, greets, lacks_memory, may_greet, may_not_greet, name_by, refuses, too_many}
use Rattle.nrm_hub.specs.World.{IsNoGreeting}
use Rattle.nrm_hub.specs.declared.asked.Asked.{Asked}
use Rattle.nrm_hub.specs.declared.asked.Asked.TheVariants as asked
use Rattle.nrm_hub.specs.declared.limits.TheConstants.{LAST_SEQUENCE, MOST_LINE}
use Rattle.nrm_hub.specs.declared.register.JoinFault.{JoinFault}
use Rattle.nrm_hub.specs.declared.register.JoinFault.TheVariants as join
use Rattle.nrm_hub.specs.declared.client.Took.{Took}
use Rattle.nrm_hub.specs.declared.client.Took.TheVariants as took
use Rattle.nrm_hub.specs.declared.line.Taken.{Taken}
use Rattle.nrm_session.specs.Replies.{memory, text_of}
use Rattle.nrm_hub.specs.declared.line.Taken.TheVariants as become

-- the number of a desk that was found is below theirs
pub named-below : (r : RegisterValue) (name : List ℕ) (d : ℕ) → desk_named r name ≡ Some d → d < length r.desks
named-below r name d named =
    let names : List (List ℕ) = map (λ (desk : DeskValue). desk.name) r.desks in
    number-below (λ (desk : DeskValue). desk.name) name r.desks names d refl
    (sym (number-same (λ (desk : DeskValue). desk.name) name r.desks names refl ∙ named))

-- who joins is a desk, and none is lost
pub joins-below : {spare : Option ℕ} (old : RegisterValue) (name : List ℕ) (new : RegisterValue) (d : ℕ) → Joins spare old name new d
    → IfSome spare (λ desk. desk < length old.desks) → (length old.desks ≤ length new.desks) × (d < length new.desks)
joins-below old name new d (there e named) within = (omega arith, named-below old name e named)
joins-below old name new d (added none) within = let more : length new.desks ≡ length old.desks + 1 = length-append old.desks (new_desk name ∷ []) in (omega (arith, more), omega (arith, more))
joins-below old name new d (replaced e none full is) within =
    let same : length (slice_set old.desks e (new_desk name)) ≡ length old.desks = length-set old.desks e (new_desk name) in
    let below : e < length old.desks = subst (λ (o : Option ℕ). IfSome o (λ desk. desk < length old.desks)) is within in
    (omega (arith, same), omega (arith, same, below))

pub answers-desks : (r : RegisterValue) (rights : Rights) (d n : ℕ) (bytes : List ℕ) (r' : RegisterValue) (how : How) (text : List ℕ)
    → Answers r rights d n bytes r' how text → length r'.desks ≡ length r.desks
answers-desks r rights d n bytes r' how text (greets_late name number asked) = refl
answers-desks r rights d n bytes r' how text (asks name asked may) = refl
answers-desks r rights d n bytes r' how text (may_not_ask name asked may) = refl
answers-desks r rights d n bytes r' how text (is_denied c asked may) = refl
answers-desks r rights d n bytes r' how text (is_carried c mid reply asked may changes new few carries) =
    ap (λ (desks : List DeskValue). length desks) carries.desks ∙ length-set r.desks d _
answers-desks r rights d n bytes r' how text (runs_out c mid asked may changes above few passes) = ap (λ (r : RegisterValue). length r.desks) passes.rest
answers-desks r rights d n bytes r' how text (lacks c asked may changes above few) = refl
answers-desks r rights d n bytes r' how text (looks c mid reply asked may changes passes) = ap (λ (r : RegisterValue). length r.desks) passes.rest
answers-desks r rights d n bytes r' how text (repeats c row asked may changes used at same) = refl

pub hears-desk : (old : ClientValue) (text : List ℕ) (new : ClientValue) → Hears old text new → new.desk ≡ old.desk
hears-desk old text new whole = refl
hears-desk old text new (cut count few) = refl

-- a client is seated, and none of the desks is lost
abbrev pub IsSeatedOn : RegisterValue → RegisterValue → ClientValue → Type 0
IsSeatedOn r r' c = IsBelow c.desk (length r'.desks) × (length r.desks ≤ length r'.desks)

seated-as : (r r' : RegisterValue) (desk : Option ℕ) (c : ClientValue) → c.desk ≡ desk → IsBelow desk (length r'.desks) → length r.desks ≤ length r'.desks
    → IsSeatedOn r r' c
seated-as r r' desk c is below grown = (subst (λ (o : Option ℕ). IsBelow o (length r'.desks)) (sym is) below, grown)

pub takes-line-seated : {spare : Option ℕ} (r : RegisterValue) (c : ClientValue) (bytes rest : List ℕ) (r' : RegisterValue) (c' : ClientValue) (how : How) (text : List ℕ)
    → TakesLine spare r c bytes rest r' c' how text → IfSome spare (λ desk. desk < length r.desks) → IsBelow c.desk (length r.desks) → IsSeatedOn r r' c'
takes-line-seated r c bytes rest r' c' how text (greets name number mid d n after first asked_is may joins is hears) within below =
    let (grown, seat) = joins-below r name mid d joins within in
    seated-as r mid (Some d) after (hears-desk _ _ after hears) seat grown
takes-line-seated r c bytes rest r' c' how text (may_not_greet name number after first asked may hears) within below =
    seated-as r r c.desk after (hears-desk _ _ after hears) below (omega arith)
takes-line-seated r c bytes rest r' c' how text (lacks_memory after first new hears) within below = seated-as r r c.desk after (hears-desk _ _ after hears) below (omega arith)
takes-line-seated r c bytes rest r' c' how text (too_many first new many none) within below = (below, omega arith)
takes-line-seated r c bytes rest r' c' how text (answers d mid after done told is given hears) within below =
    let same : length mid.desks ≡ length r.desks = answers-desks r c.rights d c.number bytes mid done told given in
    let still : IsBelow c.desk (length mid.desks) = subst (λ (count : ℕ). IsBelow c.desk count) (sym same) below in
    seated-as r mid c.desk after (hears-desk _ _ after hears) still (omega (arith, same))
takes-line-seated r c bytes rest r' c' how text (refuses d reason is given) within below = (below, omega arith)

within-more : (spare : Option ℕ) (count more : ℕ) → count ≤ more → IfSome spare (λ desk. desk < count) → IfSome spare (λ desk. desk < more)
within-more None count more grown within = tt
within-more (Some desk) count more grown within = omega (arith, grown, within)

begins-seated : {spare : Option ℕ} (r r' : RegisterValue) (c c' : ClientValue) (end : ℕ) → Begins spare r r' c c' end
    → IfSome spare (λ desk. desk < length r.desks) → IsBelow c.desk (length r.desks) → IsSeatedOn r r' c'
begins-seated r r' c c' end (taken its) within below = takes-line-seated r c _ _ r' c' its.how its.text its.takes within below
begins-seated {spare} r r' c c' end (joined mid d first plain joins its) within below =
    let (grown, first_seat) = joins-below r c.name mid d joins within in
    let (seat, more) = takes-line-seated mid (joined_as c d (desk_at mid d).next) _ _ r' c' its.how its.text its.takes
    (within-more spare (length r.desks) (length mid.desks) grown within) first_seat in
    (seat, omega (arith, grown, more))

pub takes-seated : {spare : Option ℕ} (r : RegisterValue) (c : ClientValue) (r' : RegisterValue) (c' : ClientValue) → Takes spare r c r' c'
    → IfSome spare (λ desk. desk < length r.desks) → IsBelow c.desk (length r.desks) → IsSeatedOn r r' c'
takes-seated r c r' c' nothing within below = (below, omega arith)
takes-seated r c r' c' (line end mid after at short begins) within below = begins-seated r mid c after end begins within below
takes-seated r c r' c' (too_long long none) within below = (below, omega arith)

-- a place that was found in a front is the first
pub front-place : (p : ℕ → Bool) (xs : List ℕ) (n i : ℕ) → position p (take n xs) ≡ Some i → (position p xs ≡ Some i) × (i < n) × (i < length xs)
front-place p xs n i is =
    let front : List ℕ = take n xs in
    let (place, within) = found p front i is in
    let short : i < n = omega (arith, length-take n xs) in
    let inside : i < length xs = omega (arith, length-take n xs) in
    let fails : (k : ℕ) → k < i → p (get_or xs k 0) ≡ false = λ k before.
    let there : k < n = omega arith in
    let fails : p (get_or front k 0) ≡ false = fails_before_first p front k 0 (omega arith) in
    subst (λ (x : ℕ). p x ≡ false) (get_or-take n xs k 0 there) fails
    in
    let last : p (get_or front i 0) ≡ true = subst (λ (k : ℕ). p (get_or front k 0) ≡ true) place (passes_at_first p front 0 (omega arith)) in
    let passes : p (get_or xs i 0) ≡ true = subst (λ (x : ℕ). p x ≡ true) (get_or-take n xs i 0 short) last in
    (placed p xs i inside fails passes, short, inside)

-- where there is none, none passes
pub none-passes : (p : ℕ → Bool) (xs : List ℕ) → position p xs ≡ None → All (λ c. p c ≡ false) xs
none-passes p xs is = λ k d short. fails_before_first p xs k d (omega (arith, missing p xs is))

-- what became of a line of a client that is a desk
pub answered-line : {spare : Option ℕ} (r r' : RegisterValue) (c : ClientValue) (d end : ℕ) (told : List ℕ) (result : Taken) → c.desk ≡ Some d
    → IsAnswered r r' c.rights d c.number (take end c.coming) c.told told result
    → TakesIts spare r r' c (answered_as (record c { told = told }) (take end c.coming) (drop (end + 1) c.coming) result) end
answered-line {spare} r r' c d end told become.Told is given = record {
  how = given.how;
  text = given.text;
  takes = subst (λ (t : List ℕ). TakesLine spare r c (take end c.coming) (drop (end + 1) c.coming) r'
      (record (after_line c (take end c.coming) (drop (end + 1) c.coming)) { told = t; number = c.number + 1 }) given.how given.text)
      (sym given.hears) (answers d r' _ given.how given.text is given.answers whole);
}
answered-line {spare} r r' c d end told become.Cut is given = record {
  how = given.how;
  text = given.text;
  takes = subst (λ (t : List ℕ). TakesLine spare r c (take end c.coming) (drop (end + 1) c.coming) r'
      (closed_for (record (after_line c (take end c.coming) (drop (end + 1) c.coming)) { told = t; number = c.number + 1 }) why.Memory) given.how given.text)
      (sym given.hears.2) (answers d r' _ given.how given.text is given.answers (cut given.hears.0 given.hears.1));
}
answered-line {spare} r r' c d end told (become.Refused reason) is given = record {
  how = otherwise;
  text = [];
  takes = subst (λ (mid : RegisterValue). TakesLine spare r c (take end c.coming) (drop (end + 1) c.coming) mid
      (closed_for (record (after_line c (take end c.coming) (drop (end + 1) c.coming)) { told = told }) reason) otherwise []) (sym given.1)
      (subst (λ (t : List ℕ). TakesLine spare r c (take end c.coming) (drop (end + 1) c.coming) r
      (closed_for (record (after_line c (take end c.coming) (drop (end + 1) c.coming)) { told = t }) reason) otherwise []) (sym given.2)
      (refuses d reason is given.0));
}

-- what became of a text of the hub itself
pub heard : (c : ClientValue) (end : ℕ) (text told : List ℕ) (result : Taken) → Joined c.told told text result
    → Excuses c (settled (after_line (record c { told = told }) (take end c.coming) (drop (end + 1) c.coming)) result) end text
heard c end text told become.Told is = subst (λ (t : List ℕ). Excuses c (after_line (record c { told = t }) (take end c.coming) (drop (end + 1) c.coming)) end text)
    (sym is) whole
heard c end text told become.Cut is =
    subst (λ (t : List ℕ). Excuses c (closed_for (after_line (record c { told = t }) (take end c.coming) (drop (end + 1) c.coming)) why.Memory) end text)
    (sym is.2) (cut is.0 is.1)
heard c end text told (become.Refused reason) is = absurd is

-- by a line that is no greeting a client becomes a desk by its own name
pub own-name : (c : ClientValue) (what : Asked) → IsNoGreeting what → name_by c what ≡ Some c.name
own-name c (asked.Greeting name number) plain = absurd plain
own-name c (asked.Ask product) plain = refl
own-name c (asked.Says command) plain = refl

-- a client whose name has no desk
pub without : (spare : Option ℕ) (r r' : RegisterValue) (c c' : ClientValue) (end : ℕ) (name : List ℕ) (fault : JoinFault) → c.desk ≡ None
    → name_by c (asked_in (take end c.coming)) ≡ Some name → r' ≡ r → IsJoinFault name spare r fault → GoesWithout c c' end fault
    → TakesIts spare r r' c c' end
without spare r r' c c' end name fault first by_name same cause goes =
    subst (λ (mid : RegisterValue). TakesIts spare r mid c c' end) (sym same) (by fault cause goes)
  where
    by : (fault : JoinFault) → IsJoinFault name spare r fault → GoesWithout c c' end fault → TakesIts spare r r c c' end
    by join.NoMemory cause goes = record { how = otherwise; text = (text_of memory); takes = lacks_memory c' first (name, by_name, cause) goes }
    by join.TooMany cause goes = record {
      how = otherwise;
      text = [];
      takes = subst (λ (c' : ClientValue). TakesLine spare r c (take end c.coming) (drop (end + 1) c.coming) r c' otherwise []) (sym goes)
          (too_many first (name, by_name, cause.0) cause.1 cause.2);
    }

-- a greeting is answered by the number of the next line
pub greeted : {spare : Option ℕ} (r r' : RegisterValue) (c c' : ClientValue) (end : ℕ) (name : List ℕ) (number : Option ℕ) (d n : ℕ) → c.desk ≡ None
    → asked_in (take end c.coming) ≡ asked.Greeting name number → may_greet c name ≡ true → Joins spare r name r' d → n ≡ unwrap_or number (desk_at r' d).next
    → Excuses (joined_as c d n) c' end (at_line n) → TakesIts spare r r' c c' end
greeted r r' c c' end name number d n first asked_is may joins is hears =
    record { how = otherwise; text = at_line n; takes = greets name number r' d n c' first asked_is may joins is hears }

-- or it isn't allowed
pub not-greeted : {spare : Option ℕ} (r : RegisterValue) (c c' : ClientValue) (end : ℕ) (name : List ℕ) (number : Option ℕ) → c.desk ≡ None
    → asked_in (take end c.coming) ≡ asked.Greeting name number → may_greet c name ≡ false → Excuses c c' end denied_line → TakesIts spare r r c c' end
not-greeted r c c' end name number first asked_is may hears = record {
  how = otherwise;
  text = denied_line;
  takes = may_not_greet name number c' first asked_is may hears;
}

-- a client has used up its numbers
pub used-up : {spare : Option ℕ} (r : RegisterValue) (c c' : ClientValue) (d end : ℕ) → c.desk ≡ Some d → LAST_SEQUENCE < c.number
    → c' ≡ closed_for (after_line c (take end c.coming) (drop (end + 1) c.coming)) why.Sequence → TakesIts spare r r c c' end
used-up {spare} r c c' d end is beyond same = record {
  how = otherwise;
  text = [];
  takes = subst (λ (c' : ClientValue). TakesLine spare r c (take end c.coming) (drop (end + 1) c.coming) r c' otherwise []) (sym same)
      (refuses d why.Sequence is (is_beyond beyond));
}

-- what is said of a line that was taken
pub took-line : {spare : Option ℕ} (r r' : RegisterValue) (c c' : ClientValue) (end : ℕ) (result : Took) → position (λ byte. byte == 10) c.coming ≡ Some end
    → end < MOST_LINE → Begins spare r r' c c' end → IsLine result → IsTook spare r r' c c' result
took-line r r' c c' end took.Line ends short begins is = record { end = end; ends = ends; short = short; begins = begins }
took-line r r' c c' end took.LongLine ends short begins is = record { end = end; ends = ends; short = short; begins = begins }
took-line r r' c c' end took.Nothing ends short begins is = absurd is
took-line r r' c c' end took.TooLong ends short begins is = absurd is

-- what was looked at has no line feed, and it is all
pub no-line : (c : ClientValue) (start n : ℕ) (bytes read got : List ℕ) (at : Option ℕ) → got ≡ take n (drop start read) → read ≡ bytes
    → drop start bytes ≡ c.coming → n ≡ length c.coming → n < MOST_LINE → at ≡ position (λ byte. byte == 10) got → at ≡ None → HasNoLine c
no-line c start n bytes read got at part same is all short reads none =
    let whole_is : got ≡ c.coming =
    part ∙ ap (λ (b : List ℕ). take n (drop start b)) same ∙ ap (λ (b : List ℕ). take n b) is ∙ take_all n c.coming (omega (arith, all)) in
    let nothing : position (λ byte. byte == 10) c.coming ≡ None =
    ap (λ (b : List ℕ). position (λ byte. byte == 10) b) (sym whole_is) ∙ sym reads ∙ none in
    record { short = omega (arith, all, short); none = none-passes (λ byte. byte == 10) c.coming nothing }
