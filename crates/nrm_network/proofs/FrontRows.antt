-- Fields at the front of a line, read off one after another.
use Rattle.std.proofs.Common.{ℕ, ◌≡◌, ◌∙◌, ◌+◌, ◌-◌, ◌*◌, ◌<◌, ◌≤◌, Bool, true, false, not, ◌==◌, ◌&&◌, List, [], ◌∷◌, ◌++◌, length, take, drop}
use Rattle.std.proofs.Common.{refl, sym, ap, arith, inl, inr, subst, append_assoc, bytes_eq, nat_le}
use Rattle.std.specs.Prelude.{fold, codes}
use Rattle.std.specs.Int.{is_in_range}
use Rattle.std.specs.Char.{is_ascii_digit}
use Rattle.std.specs.List.{list_all}
use Rattle.std.proofs.lemmas.Bool.{cases_Bool, and_parts, and_from, eq-eqb, eqb-true, leb-true, le-leb}
use Rattle.std.proofs.lemmas.Slice.Eq.{bytes_eq-Decides}
use Rattle.std.proofs.lemmas.List.Sums.{fold-append}
use Rattle.std.proofs.lemmas.List.{append-nil, length-map, map-append, take-append-drop}
use Rattle.nrm_text.specs.Names.{is_name, is_name_byte}
use Rattle.nrm_text.specs.Numbers.{is_whole, value_of}
use Rattle.nrm_text.proofs.Decimals.{whole-digits}
use Rattle.nrm_network.specs.Rows.{Row, demand_kind, field, further_numbers, periods_in}
use Rattle.nrm_network.proofs.LineRows.{after_byte-comma, after_byte-other}
use Rattle.nrm_network.specs.Checks.{NumberField, is_within, out_of_order}
use Rattle.nrm_network.specs.Inner.Entries.{HasShape}
use Rattle.nrm_network.specs.Inner.Fields.{are_whole, bounded}
use Rattle.nrm_network.specs.Inner.Lines.{Cutting, after_byte, ends_line, line_fields, line_of}
use Rattle.nrm_network.specs.Inner.Front.{DemandAtFront, IsCount, NumberAtFront, SeatsAtFront, WritesSeats, is_over}
use Rattle.nrm_network.specs.declared.entry.Counts.{Counts}

-- a byte that ends neither a field nor a line
abbrev pub is_inside : ℕ → Bool
is_inside c = not (c == 44) && not (ends_line c)

not-true : (b : Bool) → not b ≡ true → b ≡ false
not-true false e = refl
not-true true e = absurd (cc e)

-- such bytes stay together
line-front : (text rest : List ℕ) → list_all is_inside text ≡ true → line_of (text ++ rest) ≡ text ++ line_of rest
line-front [] rest inside = refl
line-front (c ∷ text) rest inside =
    let (first, others) = and_parts (is_inside c) (list_all is_inside text) inside in
    let goes = not-true (ends_line c) (and_parts (not (c == 44)) (not (ends_line c)) first).1 in
    rw goes (ap (λ (line : List ℕ). c ∷ line) (line-front text rest others))

fold-text : (fields : Row) (begun text rest : List ℕ) → list_all is_inside text ≡ true
    → fold after_byte (fields, begun) (text ++ rest) ≡ fold after_byte (fields, begun ++ text) rest
fold-text fields begun [] rest inside = ap (λ (b : List ℕ). fold after_byte (fields, b) rest) (sym (append-nil begun))
fold-text fields begun (c ∷ text) rest inside =
    let (first, others) = and_parts (is_inside c) (list_all is_inside text) inside in
    let other = not-true (c == 44) (and_parts (not (c == 44)) (not (ends_line c)) first).0 in
    ap (λ (cutting : Cutting). fold after_byte cutting (text ++ rest)) (after_byte-other fields begun c other)
    ∙ fold-text fields (begun ++ c ∷ []) text rest others
    ∙ ap (λ (b : List ℕ). fold after_byte (fields, b) rest) (append_assoc begun (c ∷ []) text)

closed : Cutting → Row
closed cutting = cutting.0 ++ cutting.1 ∷ []

-- fields that were cut before stay before the others
fold-before : (front fields : Row) (begun text : List ℕ)
    → closed (fold after_byte (front ++ fields, begun) text) ≡ front ++ closed (fold after_byte (fields, begun) text)
unfolding closed
fold-before front fields begun [] = append_assoc front fields (begun ∷ [])
fold-before front fields begun (c ∷ text) =
    elim (cases_Bool (c == 44)) [
      | inl comma ↦
          ap (λ (cutting : Cutting). closed (fold after_byte cutting text)) (after_byte-comma (front ++ fields) begun c comma)
          ∙ ap (λ (all : Row). closed (fold after_byte (all, []) text)) (append_assoc front fields (begun ∷ []))
          ∙ fold-before front (fields ++ begun ∷ []) [] text
          ∙ ap (λ (cutting : Cutting). front ++ closed (fold after_byte cutting text)) (sym (after_byte-comma fields begun c comma))
      | inr other ↦
          ap (λ (cutting : Cutting). closed (fold after_byte cutting text)) (after_byte-other (front ++ fields) begun c other)
          ∙ fold-before front fields (begun ++ c ∷ []) text
          ∙ ap (λ (cutting : Cutting). front ++ closed (fold after_byte cutting text)) (sym (after_byte-other fields begun c other))
    ]

-- a field before a comma, and a field alone
pub fields-comma : (text line : List ℕ) → list_all is_inside text ≡ true → line_fields (text ++ 44 ∷ line) ≡ text ∷ line_fields line
unfolding closed
fields-comma text line inside = ap closed (fold-text [] [] text (44 ∷ line) inside) ∙ fold-before (text ∷ []) [] [] line

pub fields-alone : (text : List ℕ) → list_all is_inside text ≡ true → line_fields (text ++ []) ≡ text ∷ []
unfolding closed
fields-alone text inside = ap closed (fold-text [] [] text [] inside)

-- the fields of a line that begins with a field and a comma, and what is behind it
pub begins-comma : (bytes text behind : List ℕ) → list_all is_inside text ≡ true → bytes ≡ text ++ 44 ∷ behind
    → (line_fields (line_of bytes) ≡ text ∷ line_fields (line_of behind)) × (line_of bytes ≡ text ++ 44 ∷ line_of behind)
begins-comma bytes text behind inside is =
    let line : line_of bytes ≡ text ++ 44 ∷ line_of behind = ap line_of is ∙ line-front text (44 ∷ behind) inside in
    (ap line_fields line ∙ fields-comma text (line_of behind) inside, line)

line-over : (behind : List ℕ) → is_over behind ≡ true → line_of behind ≡ []
line-over [] over = refl
line-over (c ∷ rest) over = rw over refl

pub begins-alone : (bytes text behind : List ℕ) → list_all is_inside text ≡ true → is_over behind ≡ true → bytes ≡ text ++ behind
    → (line_fields (line_of bytes) ≡ text ∷ []) × (line_of bytes ≡ text)
begins-alone bytes text behind inside over is =
    let line : line_of bytes ≡ text ++ [] =
    ap line_of is ∙ line-front text behind inside ∙ ap (λ (rest : List ℕ). text ++ rest) (line-over behind over) in
    (ap line_fields line ∙ fields-alone text inside, line ∙ append-nil text)

-- digits, and the bytes of a name, are such bytes
digit-inside : (c : ℕ) → is_ascii_digit c ≡ true → is_inside c ≡ true
digit-inside c digit =
    let (low, high) = and_parts (nat_le 48 c) (nat_le c 57) digit in
    let comma : (c == 44) ≡ false = grind arith in
    let return : (c == 13) ≡ false = grind arith in
    let feed : (c == 10) ≡ false = grind arith in
    rw (comma, return, feed) refl

all-inside : (p : ℕ → Bool) → ((c : ℕ) → p c ≡ true → is_inside c ≡ true) → (text : List ℕ) → list_all p text ≡ true
    → list_all is_inside text ≡ true
all-inside p each [] all = refl
all-inside p each (c ∷ text) all =
    let (first, others) = and_parts (p c) (list_all p text) all in
    and_from (is_inside c) (list_all is_inside text) (each c first) (all-inside p each text others)

pub number-inside : (text : List ℕ) → is_whole text ≡ true → list_all is_inside text ≡ true
number-inside text whole = all-inside is_ascii_digit digit-inside text (whole-digits text whole)

named-inside : (c : ℕ) → is_name_byte c ≡ true → is_inside c ≡ true
named-inside c named =
    elim (cases_Bool (c == 44)) [
      | inl e ↦ let at : c ≡ 44 = eqb-true c 44 e in let no : is_name_byte 44 ≡ true = subst (λ (b : ℕ). is_name_byte b ≡ true) at named in
          absurd (cc no)
      | inr comma ↦ elim (cases_Bool (c == 13)) [
        | inl e ↦ let at : c ≡ 13 = eqb-true c 13 e in let no : is_name_byte 13 ≡ true = subst (λ (b : ℕ). is_name_byte b ≡ true) at named in
            absurd (cc no)
        | inr return ↦ elim (cases_Bool (c == 10)) [
          | inl e ↦ let at : c ≡ 10 = eqb-true c 10 e in let no : is_name_byte 10 ≡ true = subst (λ (b : ℕ). is_name_byte b ≡ true) at named in
              absurd (cc no)
          | inr feed ↦ rw (comma, return, feed) refl
        ]
      ]
    ]

pub name-inside : (text : List ℕ) → is_name text ≡ true → list_all is_inside text ≡ true
name-inside text named =
    all-inside is_name_byte named-inside text
    (and_parts (nat_le 1 (length text) && nat_le (length text) 12) (list_all is_name_byte text) named).1

all-more : {X : Type 0} (p : X → Bool) (xs : List X) (x : X) → list_all p xs ≡ true → p x ≡ true → list_all p (xs ++ x ∷ []) ≡ true
all-more p [] x all more = rw more refl
all-more p (y ∷ xs) x all more =
    let (first, others) = and_parts (p y) (list_all p xs) all in
    and_from (p y) (list_all p (xs ++ x ∷ [])) first (all-more p xs x others more)

-- one digit is a number, and so is one digit more behind a number that isn't 0
pub one-digit : (value : ℕ) → is_ascii_digit (value + 48) ≡ true → IsCount ((value + 48) ∷ []) value
one-digit value digit =
    let high = leb-true (value + 48) 57 (and_parts (nat_le 48 (value + 48)) (nat_le (value + 48) 57) digit).1 in
    record { whole = rw digit refl; value = omega arith; few = omega arith }

pub digit-more : (text : List ℕ) (number ones : ℕ) → IsCount text number → 0 < number → number < 100 → is_ascii_digit (ones + 48) ≡ true
    → IsCount (text ++ (ones + 48) ∷ []) (number * 10 + ones)
digit-more text number ones count some few digit =
    let high = leb-true (ones + 48) 57 (and_parts (nat_le 48 (ones + 48)) (nat_le (ones + 48) 57) digit).1 in
    let value = count.value in record {
      whole = whole-more text count.whole (omega (arith, value, some));
      value = fold-append (λ value c. value * 10 + (c - 48)) 0 text ((ones + 48) ∷ []) ∙ omega (arith, value);
      few = omega (arith, few, high);
    }
  where
    whole-more : (digits : List ℕ) → is_whole digits ≡ true → 0 < value_of digits → is_whole (digits ++ (ones + 48) ∷ []) ≡ true
    whole-more [] whole above = absurd (omega (arith, above))
    whole-more (c ∷ []) whole above =
        let is : is_ascii_digit c ≡ true = whole in
        let other : (c == 48) ≡ false = grind arith in
        rw (is, other, digit) refl
    whole-more (c ∷ d ∷ more) whole above =
        let (front, others) = and_parts (is_ascii_digit c && not (c == 48)) (list_all is_ascii_digit (d ∷ more)) whole in
        and_from (is_ascii_digit c && not (c == 48)) (list_all is_ascii_digit (d ∷ (more ++ (ones + 48) ∷ []))) front
        (all-more is_ascii_digit (d ∷ more) (ones + 48) others digit)

-- one more field that writes its number
count-within : (text : List ℕ) (n : ℕ) → IsCount text n → is_within (text, 0, 999) ≡ true
count-within text n number =
    let value = number.value in
    let few = number.few in
    rw value (and_from (nat_le 0 n) (nat_le n 999) (le-leb 0 n (omega arith)) (le-leb n 999 (omega (arith, few))))

pub writes-more : (fields : Row) (text seats : List ℕ) (n : ℕ) → WritesSeats fields seats → IsCount text n
    → WritesSeats (fields ++ text ∷ []) (seats ++ n ∷ [])
writes-more fields text seats n writes number =
    let more = map-append (λ (t : List ℕ). (t, 0, 999)) fields (text ∷ []) in
    let texts : List NumberField = bounded 0 999 fields in record {
      whole = subst (λ (all : List NumberField). are_whole all ≡ true) (sym more)
          (all-more (λ (one : NumberField). is_whole one.0) texts (text, 0, 999) writes.whole number.whole);
      within = subst (λ (all : List NumberField). list_all is_within all ≡ true) (sym more)
          (all-more is_within texts (text, 0, 999) writes.within (count-within text n number));
      are = map-append value_of fields (text ∷ []) ∙ ap (λ (front : List ℕ). front ++ value_of text ∷ []) writes.are
          ∙ ap (λ (last : ℕ). seats ++ last ∷ []) number.value;
    }

-- what is known of the first line of the bytes where its fields before these bytes were read
pub record SeatsBefore (bytes left seats : List ℕ) : Type 0 where
  pub fields : Row
  pub text : List ℕ
  pub writes : WritesSeats fields seats
  pub cut : line_fields (line_of bytes) ≡ fields ++ line_fields (line_of left)
  pub line : line_of bytes ≡ text ++ line_of left
  pub is : bytes ≡ text ++ left

pub seats-none : (bytes : List ℕ) → SeatsBefore bytes bytes []
seats-none bytes = record {
  fields = [];
  text = [];
  writes = record { whole = refl; within = refl; are = refl };
  cut = refl;
  line = refl;
  is = refl;
}

pub seats-more : (bytes left middle behind seats : List ℕ) (n : ℕ) → SeatsBefore bytes left seats → NumberAtFront left n middle
    → middle ≡ 44 ∷ behind → SeatsBefore bytes behind (seats ++ n ∷ [])
seats-more bytes left middle behind seats n before number comma =
    let is : left ≡ number.text ++ 44 ∷ behind = number.is ∙ ap (λ (rest : List ℕ). number.text ++ rest) comma in
    let next = begins-comma left number.text behind (number-inside number.text number.number.whole) is in record {
      fields = before.fields ++ number.text ∷ [];
      text = before.text ++ (number.text ++ 44 ∷ []);
      writes = writes-more before.fields number.text seats n before.writes number.number;
      cut = before.cut ∙ ap (λ (rest : Row). before.fields ++ rest) next.0
          ∙ sym (append_assoc before.fields (number.text ∷ []) (line_fields (line_of behind)));
      line = before.line ∙ ap (λ (rest : List ℕ). before.text ++ rest) next.1 ∙ together before.text number.text (line_of behind);
      is = before.is ∙ ap (λ (rest : List ℕ). before.text ++ rest) is ∙ together before.text number.text behind;
    }
  where
    together : (front text rest : List ℕ) → front ++ (text ++ 44 ∷ rest) ≡ (front ++ (text ++ 44 ∷ [])) ++ rest
    together front text rest =
        sym (append_assoc front (text ++ 44 ∷ []) rest ∙ ap (λ (more : List ℕ). front ++ more) (append_assoc text (44 ∷ []) rest))

pub seats-last : (bytes left behind seats : List ℕ) (n : ℕ) → SeatsBefore bytes left seats → NumberAtFront left n behind
    → is_over behind ≡ true → SeatsAtFront bytes (seats ++ n ∷ []) behind
seats-last bytes left behind seats n before number over =
    let last = begins-alone left number.text behind (number-inside number.text number.number.whole) over number.is in
    let all = writes-more before.fields number.text seats n before.writes number.number in
    let cut = before.cut ∙ ap (λ (rest : Row). before.fields ++ rest) last.0 in
    let line : line_of bytes ≡ before.text ++ number.text = before.line ∙ ap (λ (rest : List ℕ). before.text ++ rest) last.1 in record {
      writes = subst (λ (fields : Row). WritesSeats fields (seats ++ n ∷ [])) (sym cut) all;
      line = before.is ∙ ap (λ (rest : List ℕ). before.text ++ rest) number.is ∙ sym (append_assoc before.text number.text behind)
          ∙ ap (λ (front : List ℕ). front ++ behind) (sym line);
    }

-- a row of demand is what was read
not-first : (before : List Row) (histories history : ℕ) → (histories == 0) ≡ (length before == 0) → 0 < history → history ≤ histories
    → out_of_order before demand_kind ≡ false
not-first [] histories history first some within =
    let none : histories ≡ 0 = eqb-true histories 0 first in absurd (omega (arith, none, some, within))
not-first (row ∷ before) histories history first some within = refl

pub demand-read : (counts : Counts) (name bytes named numbers listed left behind seats : List ℕ) (history : ℕ) → is_name name ≡ true
    → bytes ≡ codes "demand" ++ 44 ∷ named → named ≡ name ++ 44 ∷ numbers → NumberAtFront numbers history listed → listed ≡ 44 ∷ left
    → SeatsAtFront left seats behind → 0 < history → history ≤ counts.histories → length seats ≡ counts.periods
    → DemandAtFront counts name bytes seats history behind
demand-read counts name bytes named numbers listed left behind seats history is_name_ begins second third comma rest some within size =
    let kind = begins-comma bytes (codes "demand") named refl begins in
    let product = begins-comma named name numbers (name-inside name is_name_) second in
    let is : numbers ≡ third.text ++ 44 ∷ left = third.is ∙ ap (λ (more : List ℕ). third.text ++ more) comma in
    let number = begins-comma numbers third.text left (number-inside third.text third.number.whole) is in
    let fields : Row = line_fields (line_of left) in
    let row : line_fields (line_of bytes) ≡ codes "demand" ∷ name ∷ third.text ∷ fields =
    kind.0 ∙ ap (λ (more : Row). codes "demand" ∷ more) (product.0 ∙ ap (λ (more : Row). name ∷ more) number.0) in
    let line : line_of bytes ≡ codes "demand" ++ 44 ∷ (name ++ 44 ∷ (third.text ++ 44 ∷ line_of left)) =
    kind.1 ∙ ap (λ (more : List ℕ). codes "demand" ++ 44 ∷ more) (product.1 ∙ ap (λ (more : List ℕ). name ++ 44 ∷ more) number.1) in
    let count : length fields ≡ length seats = sym (length-map fields value_of) ∙ ap length rest.writes.are in
    record {
      shape = λ before counted.
          let periods = counted.periods in
          let rows : length fields ≡ periods_in before = count ∙ size ∙ periods in
          let histories = counted.histories in
          let value = third.number.value in
          subst (λ (all : Row). HasShape before all demand_kind) (sym row) (record {
            is_kind = refl;
            known = refl;
            order = not-first before counts.histories history counted.first some within;
            count = ap not (eq-eqb (length (codes "demand" ∷ name ∷ third.text ∷ fields)) (3 + periods_in before) (omega (arith, rows)));
            few = refl;
            names = rw is_name_ refl;
            numbers = rw third.number.whole rest.writes.whole;
            range = rw (sym histories, value) (and_from (is_in_range 1 counts.histories history) (list_all is_within (bounded 0 999 fields))
                (and_from (nat_le 1 history) (nat_le history counts.histories) (le-leb 1 history some) (le-leb history counts.histories within))
                rest.writes.within);
          });
      product = ap (λ (all : Row). field all 1) (sym row);
      history = sym third.number.value ∙ ap (λ (all : Row). value_of (field all 2)) (sym row);
      seats = sym rest.writes.are ∙ ap further_numbers (sym row);
      line = begins ∙ ap (λ (more : List ℕ). codes "demand" ++ 44 ∷ more) (second ∙ ap (λ (more : List ℕ). name ++ 44 ∷ more)
          (is ∙ ap (λ (more : List ℕ). third.text ++ 44 ∷ more) rest.line)) ∙ shifted ∙ ap (λ (front : List ℕ). front ++ behind) (sym line);
    }
  where
    shifted : codes "demand" ++ 44 ∷ (name ++ 44 ∷ (third.text ++ 44 ∷ (line_of left ++ behind)))
        ≡ (codes "demand" ++ 44 ∷ (name ++ 44 ∷ (third.text ++ 44 ∷ line_of left))) ++ behind
    shifted =
        ap (λ (more : List ℕ). codes "demand" ++ 44 ∷ more) (ap (λ (more : List ℕ). name ++ 44 ∷ more)
        (sym (append_assoc third.text (44 ∷ line_of left) behind))
        ∙ sym (append_assoc name (44 ∷ (third.text ++ 44 ∷ line_of left)) behind))

-- bytes that begin with a field are the field and what is behind it
pub after-field : (bytes field behind : List ℕ) → bytes_eq (take (length field) bytes) field ≡ true → behind ≡ drop (length field) bytes
    → bytes ≡ field ++ behind
after-field bytes field behind begins is =
    sym (take-append-drop (length field) bytes) ∙ ap (λ (front : List ℕ). front ++ drop (length field) bytes)
    ((bytes_eq-Decides (take (length field) bytes) field).0 begins) ∙ ap (λ (rest : List ℕ). field ++ rest) (sym is)
