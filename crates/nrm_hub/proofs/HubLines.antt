-- A line of the client at a place.
use Rattle.std.proofs.Common.{ℕ, ◌≡◌, ◌∙◌, ◌+◌, ◌<◌, ◌==◌, Bool, false, eqb-true, List, [], ◌∷◌, ◌++◌, length, get_or, take, drop}
use Rattle.std.proofs.Common.{true, map, Option, Some, None, refl, sym, ap, subst, arith}
use Rattle.std.specs.Prelude.{All, option_map, position, slice_set}
use Rattle.std.specs.List.{position_or_len}
use Rattle.std.proofs.lemmas.List.{get_or-set_same, length-map, length-take, set-set}
use Rattle.std.proofs.lemmas.List.Sums.{passes_at_first, split_at_first}
use Rattle.nrm_text.proofs.Places.{found}
use Rattle.nrm_stream.proofs.Cuts.{fails-front}
use Rattle.nrm_hub.specs.Spare.{IsSpare}
use Rattle.nrm_hub.specs.Clients.{ClientValue, after_line, joined_as}
use Rattle.nrm_hub.specs.Goes.{Goes}
use Rattle.nrm_hub.specs.Hub.{HubValue, alone, client_at, seated_after, takes_lines, unseated}
use Rattle.nrm_hub.specs.Inner.Taking.{Begins, joined, taken}
use Rattle.nrm_hub.specs.Lines.{How}
use Rattle.nrm_hub.specs.Register.{RegisterValue, desk_at}
use Rattle.nrm_hub.specs.Taking.{TakesLine, answers, greets, lacks_memory, may_not_greet, refuses, too_many}
use Rattle.nrm_hub.specs.declared.limits.TheConstants.{MOST_LINE}
use Rattle.nrm_hub.specs.declared.phase.Phase.TheVariants as phase
use Rattle.nrm_hub.proofs.Going.{goes-desk, goes-line, goes-then}
use Rattle.nrm_hub.proofs.ClientLines.{hears-desk}
use Rattle.nrm_hub.proofs.HubPlaces.{place-within}

-- the line that ends at the first line feed
pub line-cut : (bytes : List ℕ) (end : ℕ) → position (λ byte. byte == 10) bytes ≡ Some end
    → (bytes ≡ take end bytes ++ 10 ∷ drop (end + 1) bytes) × All (λ byte. (byte == 10) ≡ false) (take end bytes)
line-cut bytes end is =
    let is_feed : ℕ → Bool = λ byte. byte == 10 in
    let at : ℕ = position_or_len is_feed bytes in
    let (place, within) = found is_feed bytes end is in
    let short : at < length bytes = omega arith in
    let feed : get_or bytes at 0 ≡ 10 = eqb-true (get_or bytes at 0) 10 (passes_at_first is_feed bytes 0 short) in
    let cut : bytes ≡ take at bytes ++ 10 ∷ drop (at + 1) bytes =
    split_at_first is_feed bytes 0 short ∙ ap (λ (x : ℕ). take at bytes ++ x ∷ drop (at + 1) bytes) feed in
    let none : All (λ byte. (byte == 10) ≡ false) (take at bytes) = fails-front is_feed bytes in (
      subst (λ (n : ℕ). bytes ≡ take n bytes ++ 10 ∷ drop (n + 1) bytes) place cut,
      subst (λ (n : ℕ). All (λ byte. (byte == 10) ≡ false) (take n bytes)) place none,
    )

line-short : (bytes : List ℕ) (end : ℕ) → end < MOST_LINE → length (take end bytes) < MOST_LINE
line-short bytes end short = omega (arith, length-take end bytes)

-- a line leaves the desk of a client that is one
pub desk-kept : {spare : Option ℕ} (r : RegisterValue) (c : ClientValue) (line rest : List ℕ) (r' : RegisterValue) (c' : ClientValue) (how : How)
    (text : List ℕ) → TakesLine spare r c line rest r' c' how text → (d : ℕ) → c.desk ≡ Some d → c'.desk ≡ Some d
desk-kept r c line rest r' c' how text (greets name number mid d n after first asked_is may joins is hears) e has = absurd (cc)
desk-kept r c line rest r' c' how text (may_not_greet name number after first asked_is may hears) e has = absurd (cc)
desk-kept r c line rest r' c' how text (lacks_memory after first new hears) e has = absurd (cc)
desk-kept r c line rest r' c' how text (too_many first new many none) e has = absurd (cc)
desk-kept r c line rest r' c' how text (answers d mid after done told is given hears) e has =
    hears-desk (record (after_line c line rest) { number = c.number + 1 }) told after hears ∙ has
desk-kept r c line rest r' c' how text (refuses d reason is given) e has = has

-- the hub after a line of the client at a place, that was this desk if it was one
abbrev pub after_taking : HubValue → ℕ → Option ℕ → ClientValue → RegisterValue → HubValue
after_taking h place desk c r = record h { clients = seated_after h.clients place desk c; register = r; phase = phase.Answering }

seat-alone : (clients : List (Option ClientValue)) (place d : ℕ) (seated c : ClientValue) (desk : Option ℕ) → c.desk ≡ Some d → desk ≡ None
    → slice_set (alone clients place seated (Some d)) place (Some c) ≡ seated_after clients place desk c
seat-alone clients place d seated c desk is none =
    set-set (map (option_map (unseated d)) clients) place (Some seated) (Some c)
    ∙ ap (λ (o : Option ℕ). alone clients place c o) (sym is) ∙ ap (λ (o : Option ℕ). seated_after clients place o c) (sym none)

-- a line of a client was taken, that perhaps became a desk before
module _ (h : HubValue) (place : ℕ) (c : ClientValue) (takes_still : takes_lines h.phase ≡ true) (there : client_at h place ≡ Some c)
    (whole : c.closing ≡ None) where
  pub goes-taken : (c' : ClientValue) (r' : RegisterValue) (end : ℕ) → position (λ byte. byte == 10) c.coming ≡ Some end → end < MOST_LINE
      → (spare : Option ℕ) → (c.desk ≡ None → IsSpare h.register h.clients spare) → Begins spare h.register r' c c' end
      → Goes h (after_taking h place c.desk c' r') [] []
  goes-taken c' r' end is short spare is_spare (taken one) =
      let (cut, none) = line-cut c.coming end is in
      goes-line h place c takes_still there whole c' (take end c.coming) (drop (end + 1) c.coming) r' one.how one.text cut none
      (line-short c.coming end short) spare is_spare one.takes
  goes-taken c' r' end is short spare is_spare (joined mid d no_desk plain joins one) =
      let (cut, none) = line-cut c.coming end is in
      let seated : ClientValue = joined_as c d (desk_at mid d).next in
      let between : HubValue = record h { clients = alone h.clients place seated (Some d); register = mid; phase = phase.Answering } in
      let within : place < length (map (option_map (unseated d)) h.clients) =
      subst (λ (n : ℕ). place < n) (sym (length-map h.clients (option_map (unseated d)))) (place-within h.clients place c there) in
      let there' : client_at between place ≡ Some seated = get_or-set_same (map (option_map (unseated d)) h.clients) place (Some seated) None within in
      let line : Goes between (after_taking between place (Some d) c' r') [] [] =
      goes-line between place seated refl there' whole c' (take end c.coming) (drop (end + 1) c.coming) r' one.how one.text cut none
      (line-short c.coming end short) spare (λ none. absurd (cc)) one.takes in
      let desk_is : c'.desk ≡ Some d = desk-kept mid seated _ _ r' c' one.how one.text one.takes d refl in
      subst (λ (clients : List (Option ClientValue)). Goes h (record h { register = r'; clients = clients; phase = phase.Answering }) [] [])
      (seat-alone h.clients place d seated c' c.desk desk_is no_desk)
      (goes-then h between (after_taking between place (Some d) c' r') [] [] [] []
      (goes-desk h place c takes_still there whole (take end c.coming) (drop (end + 1) c.coming) d mid no_desk cut none plain spare
      (is_spare no_desk) joins) line)
