-- What stands of the clients at their places.
use Rattle.std.proofs.Common.{ℕ, ◌≡◌, ◌≢◌, ◌∙◌, ◌+◌, ◌<◌, ◌≤◌, ◌==◌, ◌⊎◌, false, List, [], ◌∷◌, ◌++◌, length, get_or, replicate, refl}
use Rattle.std.proofs.Common.{sym, ap, subst, arith, inl, inr, append-nil, append_assoc, length-append, map, Option, Some, None}
use Rattle.std.specs.Prelude.{All, option_map, slice_set}
use Rattle.std.proofs.lemmas.Grind.{flat_map-append}
use Rattle.std.proofs.lemmas.List.Splits.{slice_split_at}
use Rattle.nrm_frames.specs.declared.rights.Rights.{Rights}
use Rattle.nrm_frames.specs.declared.why.Why.{Why}
use Rattle.nrm_frames.specs.declared.why.Why.TheVariants as why
use Rattle.nrm_stream.specs.Lines.{parts_of, unfinished_line, whole_lines}
use Rattle.nrm_stream.proofs.Cuts.{ended-lines}
use Rattle.nrm_stream.proofs.JoinedLines.{joined}
use Rattle.nrm_hub.specs.Clients.{ClientValue, after_telling, closed_for, joined_as, new_client, with_piece}
use Rattle.nrm_hub.specs.Desks.{IsFrontOf, bytes_in, lines_in, told_in}
use Rattle.nrm_hub.specs.Hub.{alone, seated_after, unseated}
use Rattle.nrm_hub.specs.World.{Exchange}
use Rattle.nrm_hub.proofs.ClientAnswers.{lines_in-joined, told_in-more}
use Rattle.nrm_hub.proofs.ClientPlaces.{at-changed, at-longer, within}
use Rattle.nrm_hub.proofs.ClientTells.{Tells}
use Rattle.nrm_hub.proofs.Unseated.{mapped-at, unseated-serial, unseated-so, was-at}

-- what came from a client, what was sent to it, how many of its bytes were said to be used, and its lines that were answered
pub record Has : Type 0 where
  pub came : List ℕ
  pub sent : List ℕ
  pub used : ℕ
  pub answered : List Exchange

abbrev pub has_nothing : Has
has_nothing = record { came = []; sent = []; used = 0; answered = [] }

-- What stands of a client at a place: what was sent and what waits is a front of the replies to its lines. While it isn't to be closed, it
-- is all of them, and what came and was not used has just the lines that were not answered.
pub record Stands (h : Has) (c : ClientValue) : Type 0 where
  pub told : IsFrontOf (h.sent ++ c.told) (told_in h.answered)
  pub lines : c.closing ≡ None → whole_lines h.came ≡ lines_in h.answered ++ whole_lines c.coming
  pub rest : c.closing ≡ None → unfinished_line c.coming ≡ unfinished_line h.came
  pub all : c.closing ≡ None → h.sent ++ c.told ≡ told_in h.answered
  pub bytes : c.closing ≡ None → h.came ≡ bytes_in h.answered ++ c.coming
  pub used : h.used + c.used ≡ length (bytes_in h.answered)

-- ---- what one client does
pub new-stands : (serial : ℕ) (name : List ℕ) (rights : Rights) → Stands has_nothing (new_client serial name rights)
new-stands serial name rights = record {
  told = ([], refl);
  lines = λ e. refl;
  rest = λ e. refl;
  all = λ e. refl;
  bytes = λ e. refl;
  used = refl;
}

pub piece-stands : (h : Has) (c : ClientValue) (piece : List ℕ) → Stands h c
    → Stands (record h { came = h.came ++ piece }) (with_piece c piece)
piece-stands h c piece s =
    let (lines, last, all) = joined h.came piece in
    let (lines', last', all') = joined c.coming piece in
    record {
      told = s.told;
      lines = λ e.
          lines ∙ ap (λ (l : List (List ℕ)). l ++ whole_lines (unfinished_line h.came ++ piece)) (s.lines e)
          ∙ append_assoc (lines_in h.answered) (whole_lines c.coming) (whole_lines (unfinished_line h.came ++ piece))
          ∙ ap (λ (u : List ℕ). lines_in h.answered ++ (whole_lines c.coming ++ whole_lines (u ++ piece))) (sym (s.rest e))
          ∙ ap (λ (l : List (List ℕ)). lines_in h.answered ++ l) (sym lines');
      rest = λ e. last' ∙ ap (λ (u : List ℕ). unfinished_line (u ++ piece)) (s.rest e) ∙ sym last;
      all = s.all;
      bytes = λ e. ap (λ (b : List ℕ). b ++ piece) (s.bytes e) ∙ append_assoc (bytes_in h.answered) c.coming piece;
      used = s.used;
    }

pub closed-stands : (h : Has) (c : ClientValue) (reason : Why) → Stands h c → Stands h (closed_for c reason)
closed-stands h c reason s = record {
  told = s.told;
  lines = λ e. absurd (cc);
  rest = λ e. absurd (cc);
  all = λ e. absurd (cc);
  bytes = λ e. absurd (cc);
  used = s.used;
}

pub joined-stands : (h : Has) (c : ClientValue) (desk number : ℕ) → Stands h c → Stands h (joined_as c desk number)
joined-stands h c desk number s = record { told = s.told; lines = s.lines; rest = s.rest; all = s.all; bytes = s.bytes; used = s.used }

pub told-stands : (h : Has) (c : ClientValue) → Stands h c → Stands (record h { sent = h.sent ++ c.told; used = h.used + c.used }) (after_telling c)
told-stands h c s =
    let none : (h.sent ++ c.told) ++ [] ≡ h.sent ++ c.told = append-nil (h.sent ++ c.told) in
    record {
      told = subst (λ (t : List ℕ). IsFrontOf t (told_in h.answered)) (sym none) s.told;
      lines = s.lines;
      rest = s.rest;
      all = λ e. none ∙ s.all e;
      bytes = s.bytes;
      used = let used = s.used in omega (arith, used);
    }

-- ---- a line was taken
-- it is the first of the whole lines
first-line : (bytes line rest : List ℕ) → bytes ≡ line ++ 10 ∷ rest → All (λ byte. (byte == 10) ≡ false) line
    → (whole_lines bytes ≡ line ∷ whole_lines rest) × (unfinished_line bytes ≡ unfinished_line rest)
first-line bytes line rest is unended =
    let parts : parts_of bytes ≡ line ∷ parts_of rest =
    ap (λ (b : List ℕ). parts_of b) is ∙ slice_split_at (λ c. c == 10) line 10 rest unended refl in
    ended-lines bytes line rest parts

module _ (h : Has) (c c' : ClientValue) (rest : List ℕ) (e : Exchange) (opens : c.closing ≡ None) (is : c.coming ≡ e.line ++ 10 ∷ rest)
    (unended : All (λ byte. (byte == 10) ≡ false) e.line) (t : Tells c.serial c.told rest e.text c') (used : c'.used ≡ c.used + (length e.line + 1)) (s : Stands h c) where
  pub line-lines : whole_lines h.came ≡ lines_in (h.answered ++ e ∷ []) ++ whole_lines rest
  line-lines =
      let (first, last) = first-line c.coming e.line rest is unended in
      s.lines opens ∙ ap (λ (l : List (List ℕ)). lines_in h.answered ++ l) first
      ∙ sym (append_assoc (lines_in h.answered) (e.line ∷ []) (whole_lines rest))
      ∙ ap (λ (l : List (List ℕ)). l ++ whole_lines rest) (sym (lines_in-joined h.answered (e ∷ [])))

  line-told : told_in (h.answered ++ e ∷ []) ≡ h.sent ++ (c.told ++ e.text)
  line-told = told_in-more h.answered e ∙ ap (λ (l : List ℕ). l ++ e.text) (sym (s.all opens)) ∙ append_assoc h.sent c.told e.text

  line-bytes : bytes_in (h.answered ++ e ∷ []) ≡ bytes_in h.answered ++ (e.line ++ 10 ∷ [])
  line-bytes = flat_map-append (λ (x : Exchange). x.line ++ 10 ∷ []) h.answered (e ∷ [])
      ∙ ap (λ (b : List ℕ). bytes_in h.answered ++ b) (append-nil (e.line ++ 10 ∷ []))

  pub line-stands : Stands (record h { answered = h.answered ++ e ∷ [] }) c'
  line-stands =
      let (more, front) = t.front in
      record {
        told = (more, line-told ∙ ap (λ (l : List ℕ). h.sent ++ l) front ∙ sym (append_assoc h.sent c'.told more));
        lines = λ still.
            line-lines ∙ ap (λ (l : List ℕ). lines_in (h.answered ++ e ∷ []) ++ whole_lines l) (sym (t.left still));
        rest = λ still.
            let (first, last) = first-line c.coming e.line rest is unended in
            ap (λ (l : List ℕ). unfinished_line l) (t.left still) ∙ sym last ∙ s.rest opens;
        all = λ still. ap (λ (l : List ℕ). h.sent ++ l) (t.heard still) ∙ sym line-told;
        bytes = λ still.
            s.bytes opens ∙ ap (λ (b : List ℕ). bytes_in h.answered ++ b) (is ∙ sym (append_assoc e.line (10 ∷ []) rest))
            ∙ sym (append_assoc (bytes_in h.answered) (e.line ++ 10 ∷ []) rest) ∙ ap (λ (b : List ℕ). b ++ rest) (sym line-bytes)
            ∙ ap (λ (b : List ℕ). bytes_in (h.answered ++ e ∷ []) ++ b) (sym (t.left still));
        used =
            let before = s.used in
            let more : length (bytes_in (h.answered ++ e ∷ [])) ≡ length (bytes_in h.answered) + (length e.line + 1) =
            ap (λ (b : List ℕ). length b) line-bytes ∙ length-append (bytes_in h.answered) (e.line ++ 10 ∷ [])
            ∙ ap (λ (n : ℕ). length (bytes_in h.answered) + n) (length-append e.line (10 ∷ [])) in
            omega (arith, before, more, used);
      }

-- ---- all clients
-- Clients have serial numbers that were given out, each its own; of a number that was not given out there is nothing; and of each client
-- at a place stands what stands of one.
pub record AreSeated (clients : List (Option ClientValue)) (opened : ℕ) (has : ℕ → Has) : Type 0 where
  pub below : (place : ℕ) (c : ClientValue) → get_or clients place None ≡ Some c → c.serial < opened
  pub apart : (p q : ℕ) (c d : ClientValue) → get_or clients p None ≡ Some c → get_or clients q None ≡ Some d → c.serial ≡ d.serial → p ≡ q
  pub fresh : (k : ℕ) → opened ≤ k → has k ≡ has_nothing
  pub each : (place : ℕ) (c : ClientValue) → get_or clients place None ≡ Some c → Stands (has c.serial) c

pub nobody-seated : AreSeated [] 0 (λ k. has_nothing)
nobody-seated = record {
  below = λ place c is. absurd (cc);
  apart = λ p q c d is is' same. absurd (cc);
  fresh = λ k none. refl;
  each = λ place c is. absurd (cc);
}

-- fewer clients
pub fewer-seated : (clients clients' : List (Option ClientValue)) (opened : ℕ) (has : ℕ → Has)
    → ((p : ℕ) (c : ClientValue) → get_or clients' p None ≡ Some c → get_or clients p None ≡ Some c)
    → AreSeated clients opened has → AreSeated clients' opened has
fewer-seated clients clients' opened has was s = record {
  below = λ p c is. s.below p c (was p c is);
  apart = λ p q c d is is' same. s.apart p q c d (was p c is) (was q d is') same;
  fresh = s.fresh;
  each = λ p c is. s.each p c (was p c is);
}

pub places-seated : (clients : List (Option ClientValue)) (opened : ℕ) (has : ℕ → Has) (count : ℕ) → AreSeated clients opened has
    → AreSeated (clients ++ replicate count None) opened has
places-seated clients opened has count s =
    fewer-seated clients (clients ++ replicate count None) opened has (λ p c is. at-longer clients count p c is) s

pub gone-seated : (clients : List (Option ClientValue)) (opened : ℕ) (has : ℕ → Has) (place : ℕ) (c : ClientValue)
    → get_or clients place None ≡ Some c → AreSeated clients opened has → AreSeated (slice_set clients place None) opened has
gone-seated clients opened has place c there s =
    fewer-seated clients (slice_set clients place None) opened has
    (λ p d is. elim (at-changed clients place p None d (within clients place c there) is) [
      | inl (e, none) ↦ absurd (cc)
      | inr (e, was) ↦ was
    ]) s

-- one client more
module _ (clients : List (Option ClientValue)) (opened : ℕ) (has : ℕ → Has) (place : ℕ) (name : List ℕ) (rights : Rights)
    (s : AreSeated clients opened has) (short : place < length clients) where
  abbrev one : ClientValue
  one = new_client opened name rights

  abbrev with_one : List (Option ClientValue)
  with_one = slice_set clients place (Some one)

  now-or-before : (p : ℕ) (c : ClientValue) → get_or with_one p None ≡ Some c
      → ((p ≡ place) × (one ≡ c)) ⊎ ((p ≢ place) × (get_or clients p None ≡ Some c))
  now-or-before p c is = elim (at-changed clients place p (Some one) c short is) [
    | inl (e, now) ↦ inl (e, cc)
    | inr was ↦ inr was
  ]

  number : (c : ClientValue) → one ≡ c → c.serial ≡ opened
  number c is = ap (λ (x : ClientValue). x.serial) (sym is)

  pub opened-seated : AreSeated with_one (opened + 1) has
  opened-seated = record {
    below = λ p c is. elim (now-or-before p c is) [
      | inl (e, now) ↦ omega (arith, number c now)
      | inr (e, was) ↦ omega (arith, s.below p c was)
    ];
    apart = λ p q c d is is' same. elim (now-or-before p c is) [
      | inl (e, now) ↦ elim (now-or-before q d is') [
        | inl (e', now') ↦ e ∙ sym e'
        | inr (e', was') ↦ absurd (omega (arith, number c now, same, s.below q d was'))
      ]
      | inr (e, was) ↦ elim (now-or-before q d is') [
        | inl (e', now') ↦ absurd (omega (arith, number d now', same, s.below p c was))
        | inr (e', was') ↦ s.apart p q c d was was' same
      ]
    ];
    fresh = λ k none. s.fresh k (omega (arith, none));
    each = λ p c is. elim (now-or-before p c is) [
      | inl (e, now) ↦ subst (λ (x : ClientValue). Stands (has x.serial) x) now
          (subst (λ (h : Has). Stands h one) (sym (s.fresh opened (omega arith))) (new-stands opened name rights))
      | inr (e, was) ↦ s.each p c was
    ];
  }

-- one client changed, and what there is of its number
module _ (clients : List (Option ClientValue)) (opened : ℕ) (has has' : ℕ → Has) (place : ℕ) (c c' : ClientValue)
    (s : AreSeated clients opened has) (there : get_or clients place None ≡ Some c) (serial : c'.serial ≡ c.serial)
    (others : (k : ℕ) → k ≢ c.serial → has' k ≡ has k) (now : Stands (has' c.serial) c') where
  abbrev with_changed : List (Option ClientValue)
  with_changed = slice_set clients place (Some c')

  changed-or-not : (p : ℕ) (d : ClientValue) → get_or with_changed p None ≡ Some d
      → ((p ≡ place) × (c' ≡ d)) ⊎ ((p ≢ place) × (get_or clients p None ≡ Some d))
  changed-or-not p d is = elim (at-changed clients place p (Some c') d (within clients place c there) is) [
    | inl (e, is') ↦ inl (e, cc)
    | inr was ↦ inr was
  ]

  -- somebody of the same number was there
  same-number : (p : ℕ) (d : ClientValue) → get_or with_changed p None ≡ Some d
      → (b : ClientValue) × (get_or clients p None ≡ Some b) × (d.serial ≡ b.serial)
  same-number p d is = elim (changed-or-not p d is) [
    | inl (e, is') ↦ (
      c,
      subst (λ (q : ℕ). get_or clients q None ≡ Some c) (sym e) there,
      ap (λ (x : ClientValue). x.serial) (sym is') ∙ serial,
    )
    | inr (e, was) ↦ (d, was, refl)
  ]

  pub changed-seated : AreSeated with_changed opened has'
  changed-seated = record {
    below = λ p d is. let (b, was, same) = same-number p d is in omega (arith, s.below p b was, same);
    apart = λ p q d e is is' equal.
        let (b, was, same) = same-number p d is in
        let (b', was', same') = same-number q e is' in
        s.apart p q b b' was was' (sym same ∙ equal ∙ same');
    fresh = λ k none.
        let below : c.serial < opened = s.below place c there in
        others k (λ e. omega (arith, below, none, e)) ∙ s.fresh k none;
    each = λ p d is. elim (changed-or-not p d is) [
      | inl (e, is') ↦ subst (λ (x : ClientValue). Stands (has' x.serial) x) is'
          (subst (λ (k : ℕ). Stands (has' k) c') (sym serial) now)
      | inr (e, was) ↦
          let differ : d.serial ≢ c.serial = λ same. e (s.apart p place d c was there same) in
          subst (λ (h : Has). Stands h d) (sym (others d.serial differ)) (s.each p d was)
    ];
  }

-- every client of a desk is perhaps to be closed
mapped-seated : (desk : ℕ) (clients : List (Option ClientValue)) (opened : ℕ) (has : ℕ → Has) → AreSeated clients opened has
    → AreSeated (map (option_map (unseated desk)) clients) opened has
mapped-seated desk clients opened has s = record {
  below = λ p c is.
      let (b, was, same) = was-at (unseated desk) clients p c is in
      subst (λ (k : ℕ). k < opened) (sym (unseated-serial desk b) ∙ ap (λ (x : ClientValue). x.serial) same) (s.below p b was);
  apart = λ p q c d is is' equal.
      let (b, was, same) = was-at (unseated desk) clients p c is in
      let (b', was', same') = was-at (unseated desk) clients q d is' in
      s.apart p q b b' was was' (sym (unseated-serial desk b) ∙ ap (λ (x : ClientValue). x.serial) same ∙ equal
      ∙ sym (ap (λ (x : ClientValue). x.serial) same') ∙ unseated-serial desk b');
  fresh = s.fresh;
  each = λ p c is.
      let (b, was, same) = was-at (unseated desk) clients p c is in
      subst (λ (x : ClientValue). Stands (has x.serial) x) same
      (subst (λ (k : ℕ). Stands (has k) (unseated desk b)) (sym (unseated-serial desk b))
      (unseated-so (λ (x : ClientValue). Stands (has b.serial) x) desk b (s.each p b was)
      (closed-stands (has b.serial) b why.Elsewhere (s.each p b was))));
}

-- one client changed, which perhaps became a desk
module _ (clients : List (Option ClientValue)) (opened : ℕ) (has has' : ℕ → Has) (place : ℕ) (c c' : ClientValue)
    (s : AreSeated clients opened has) (there : get_or clients place None ≡ Some c) (serial : c'.serial ≡ c.serial)
    (others : (k : ℕ) → k ≢ c.serial → has' k ≡ has k) (now : Stands (has' c.serial) c') where
  pub alone-seated : (desk : Option ℕ) → AreSeated (alone clients place c' desk) opened has'
  alone-seated None = changed-seated clients opened has has' place c c' s there serial others now
  alone-seated (Some desk) =
      let b : ClientValue = unseated desk c in
      let same : b.serial ≡ c.serial = unseated-serial desk c in
      changed-seated (map (option_map (unseated desk)) clients) opened has has' place b c' (mapped-seated desk clients opened has s)
      (mapped-at (unseated desk) clients place ∙ ap (λ (o : Option ClientValue). option_map (unseated desk) o) there) (serial ∙ sym same)
      (λ k differ. others k (λ e. differ (e ∙ sym same))) (subst (λ (k : ℕ). Stands (has' k) c') (sym same) now)

  pub after-seated : (was : Option ℕ) → AreSeated (seated_after clients place was c') opened has'
  after-seated None = alone-seated c'.desk
  after-seated (Some desk) = changed-seated clients opened has has' place c c' s there serial others now
