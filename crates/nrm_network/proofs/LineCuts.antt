-- A line is cut at its commas, byte by byte.
use Rattle.std.proofs.Common.{◌≡◌, ◌≢◌, ◌∙◌, ◌+◌, ◌-◌, ◌<◌, ◌≤◌, ℕ, zero, suc, true, false, ◌==◌, List, [], ◌∷◌, ◌++◌, length}
use Rattle.std.proofs.Common.{get_or, take, drop, refl, sym, ap, arith, inl, inr, append_assoc, length-append, length-take}
use Rattle.std.proofs.lemmas.Bool.{cases_Bool, cases_lt, eqb-true}
use Rattle.std.proofs.lemmas.List.{drop_more, get_or-drop, length-drop, take_more}
use Rattle.std.proofs.lemmas.List.Sums.{fold-append}
use Rattle.csv.proofs.ReadFacts.{part-of}
use Rattle.nrm_network.specs.Rows.{Row, field}
use Rattle.nrm_network.specs.Inner.Lines.{Cutting, Held, Marks, after_byte, cut_at_commas, ends_line, line_of}

-- the line goes on after a byte that doesn't end it, and stops before one that does
pub line-more : (bytes : List ℕ) (end : ℕ) → end < length bytes → ends_line (get_or bytes end 0) ≡ false
    → line_of bytes ≡ take end bytes ++ line_of (drop end bytes) → line_of bytes ≡ take (end + 1) bytes ++ line_of (drop (end + 1) bytes)
line-more bytes end short inside so_far =
    let next = drop_more bytes end 0 short in
    let goes : line_of (drop end bytes) ≡ get_or bytes end 0 ∷ line_of (drop (end + 1) bytes) = rw next (rw inside refl) in
    so_far ∙ ap (λ (line : List ℕ). take end bytes ++ line) goes
    ∙ sym (append_assoc (take end bytes) (get_or bytes end 0 ∷ []) (line_of (drop (end + 1) bytes)))
    ∙ ap (λ (front : List ℕ). front ++ line_of (drop (end + 1) bytes)) (sym (take_more bytes end 0 short))

-- the fields of a row and of one more
field-low : (fields more : Row) (k : ℕ) → k < length fields → field (fields ++ more) k ≡ field fields k
field-low [] more k short = absurd (omega arith)
field-low (f ∷ fields) more zero short = refl
field-low (f ∷ fields) more (suc k) short = field-low fields more k (omega arith)

field-last : (fields : Row) (f : List ℕ) (k : ℕ) → k ≡ length fields → field (fields ++ f ∷ []) k ≡ f
field-last [] f k is = rw is refl
field-last (g ∷ fields) f zero is = absurd (omega arith)
field-last (g ∷ fields) f (suc k) is = field-last fields f k (omega arith)

-- the bytes from a start on, and one more
pub begun-more : (bytes : List ℕ) (start end : ℕ) → start ≤ end → end < length bytes
    → take (end - start) (drop start bytes) ++ get_or bytes end 0 ∷ [] ≡ take (end + 1 - start) (drop start bytes)
begun-more bytes start end low short =
    let size = length-drop start bytes in
    let more = take_more (drop start bytes) (end - start) 0 (omega (arith, size)) in
    let at : start + (end - start) ≡ end = omega arith in
    let next : end - start + 1 ≡ end + 1 - start = omega arith in
    ap (λ (b : ℕ). take (end - start) (drop start bytes) ++ b ∷ []) (ap (λ (n : ℕ). get_or bytes n 0) (sym at)
    ∙ sym (get_or-drop start bytes (end - start) 0))
    ∙ sym more ∙ ap (λ (n : ℕ). take n (drop start bytes)) next

-- what is known of a line where it was cut up to a place
pub record CutTo (bytes : List ℕ) (end : ℕ) (cutting : Cutting) (count : ℕ) (starts : List ℕ) : Type 0 where
  pub counted : count ≡ length cutting.0
  pub few : count ≤ end
  pub places : length starts ≡ 20
  pub start : ℕ
  pub low : start ≤ end
  pub begun : cutting.1 ≡ take (end - start) (drop start bytes)
  pub kept : count < 20 → get_or starts count 0 ≡ start
  pub held : Held bytes end cutting.0 starts

-- the field at hand ends there
pub held-more : (bytes : List ℕ) (end : ℕ) (cutting : Cutting) (count : ℕ) (starts after : List ℕ) → CutTo bytes end cutting count starts
    → Marks starts after (count + 1) (end + 1) → Held bytes (end + 1) (cutting.0 ++ cutting.1 ∷ []) after
held-more bytes end cutting count starts after to marks k short first =
    let size = length-append cutting.0 (cutting.1 ∷ []) in
    let counted = to.counted in
    let low = to.low in
    elim (cases_lt k count) [
      | inl below ↦
          let here = marks.others k (λ e. absurd (omega (arith, e))) in
          let next = marks.others (k + 1) (λ e. absurd (omega (arith, e))) in
          let stands = to.held k (omega arith) first in
          let before = stands.before in
          let within = stands.within in
          record {
            before = rw (here, next) before;
            within = rw next (omega arith);
            is = rw (here, next) (field-low cutting.0 (cutting.1 ∷ []) k (omega arith) ∙ stands.is);
          }
      | inr above ↦
          let same : k ≡ count = omega (arith, size) in
          let at : count < 20 = omega arith in
          let here : get_or after k 0 ≡ to.start = rw same (marks.others count (λ e. absurd (omega (arith, e))) ∙ to.kept at) in
          let next : get_or after (k + 1) 0 ≡ end + 1 = rw same (marks.same (omega arith)) in
          let size_is : end + 1 - 1 - to.start ≡ end - to.start = omega arith in
          record {
            before = rw (here, next) (omega arith);
            within = rw next (omega arith);
            is = rw (here, next) (field-last cutting.0 cutting.1 k (same ∙ counted) ∙ to.begun
                ∙ ap (λ (n : ℕ). take n (drop to.start bytes)) (sym size_is));
          }
    ]

-- a field that stood stands in a longer front too
held-on : (bytes : List ℕ) (most more : ℕ) (fields : Row) (starts : List ℕ) → most ≤ more → Held bytes most fields starts
    → Held bytes more fields starts
held-on bytes most more fields starts le held k short first =
    let stands = held k short first in
    let within = stands.within in
    record { before = stands.before; within = omega arith; is = stands.is }

pub cut-comma : (bytes : List ℕ) (end : ℕ) (cutting : Cutting) (count : ℕ) (starts after : List ℕ) (c : ℕ)
    → CutTo bytes end cutting count starts → Marks starts after (count + 1) (end + 1) → c ≡ 44
    → CutTo bytes (end + 1) (after_byte cutting c) (count + 1) after
cut-comma bytes end cutting count starts after c to marks comma =
    let counted = to.counted in
    let few = to.few in
    let held = held-more bytes end cutting count starts after to marks in
    let none : end + 1 - (end + 1) ≡ 0 = omega arith in
    let is : after_byte cutting c ≡ (cutting.0 ++ cutting.1 ∷ [], []) = rw comma refl in
    rw is (record {
      counted = omega (arith, length-append cutting.0 (cutting.1 ∷ []));
      few = omega arith;
      places = marks.places ∙ to.places;
      start = end + 1;
      low = omega arith;
      begun = rw none refl;
      kept = marks.same;
      held = held;
    })

not-equal : (a b : ℕ) → a ≢ b → (a == b) ≡ false
not-equal a b differ = elim (cases_Bool (a == b)) [ inl e ↦ absurd (differ (eqb-true a b e)) | inr e ↦ e ]

pub cut-other : (bytes : List ℕ) (end : ℕ) (cutting : Cutting) (count : ℕ) (starts : List ℕ) (c : ℕ)
    → CutTo bytes end cutting count starts → end < length bytes → c ≡ get_or bytes end 0 → c ≢ 44
    → CutTo bytes (end + 1) (after_byte cutting c) count starts
cut-other bytes end cutting count starts c to short byte other =
    let few = to.few in
    let low = to.low in
    let more = begun-more bytes to.start end to.low short in
    let is : after_byte cutting c ≡ (cutting.0, cutting.1 ++ c ∷ []) = rw (not-equal c 44 other) refl in
    rw is (record {
      counted = to.counted;
      few = omega arith;
      places = to.places;
      start = to.start;
      low = omega arith;
      begun = ap (λ (field : List ℕ). field ++ c ∷ []) to.begun ∙ ap (λ (b : ℕ). take (end - to.start) (drop to.start bytes) ++ b ∷ []) byte
          ∙ more;
      kept = to.kept;
      held = held-on bytes end (end + 1) cutting.0 starts (omega arith) to.held;
    })

-- one byte more is cut as it is cut after those before it
pub cut-next : (bytes : List ℕ) (end : ℕ) → end < length bytes
    → after_byte (cut_at_commas (take end bytes)) (get_or bytes end 0) ≡ cut_at_commas (take (end + 1) bytes)
cut-next bytes end short =
    sym (ap cut_at_commas (take_more bytes end 0 short) ∙ fold-append after_byte ([], []) (take end bytes) (get_or bytes end 0 ∷ []))

-- the line as a text of its own
pub held-alone : (bytes : List ℕ) (end : ℕ) (fields : Row) (starts : List ℕ) → end ≤ length bytes → Held bytes (end + 1) fields starts
    → Held (take end bytes) (length (take end bytes) + 1) fields starts
held-alone bytes end fields starts within held k short first =
    let stands = held k short first in
    let before = stands.before in
    let most = stands.within in
    let size = length-take end bytes in
    let from : ℕ = get_or starts k 0 in
    let to : ℕ = get_or starts (k + 1) 0 in
    record {
      before = before;
      within = omega (arith, size);
      is = stands.is ∙ sym (part-of from (to - 1 - from) end bytes (omega arith));
    }
