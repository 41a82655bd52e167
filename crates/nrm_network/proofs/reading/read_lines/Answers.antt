-- The rows before the place are the first of the text, and those behind it are the others.
use Rattle.std.proofs.Common.{◌≡◌, ◌∙◌, ◌+◌, ◌≤◌, ◌<◌, ℕ, List, [], ◌∷◌, ◌++◌, append_assoc, ap, arith, drop, false, get_or, length, length-append, refl, subst, sym, true}
use Rattle.std.proofs.lemmas.List.{append-nil, drop-drop, drop_all, drop_more, length-drop, take_rest}
use Rattle.csv.specs.Reading.{default_config, records}
use Rattle.nrm_network.specs.Answer.{AnswersFile}
use Rattle.nrm_network.specs.Checks.{why_refused}
use Rattle.nrm_network.specs.File.{network_or_refusal}
use Rattle.nrm_network.specs.Inner.Lines.{ends_line, has_quote, line_fields, line_of}
use Rattle.nrm_network.specs.Rows.{Row}
use Rattle.nrm_network.specs.declared.fault.Why.TheVariants as why
use Rattle.nrm_network.proofs.LineRows.{drop-plain, line-short, line-some, records-blank, records-line, records-none}
use Rattle.nrm_network.proofs.RefusalPlace.{refused-at}
use Rattle.nrm_network.proofs.reading.read_lines.Goals as goal

-- the rows from a place on
abbrev left : List ℕ → ℕ → List Row
left text at = records default_config (drop at text)

left-blank : (text : List ℕ) (at : ℕ) → at < length text → ends_line (get_or text at 0) ≡ true → left text at ≡ left text (at + 1)
left-blank text at short end = rw (drop_more text at 0 short) (records-blank (get_or text at 0) (drop (at + 1) text) end)

-- the line at a place, and how long it is
abbrev line_at : List ℕ → ℕ → List ℕ
line_at text at = line_of (drop at text)

left-line : (text : List ℕ) (at : ℕ) → at < length text → has_quote text ≡ false → ends_line (get_or text at 0) ≡ false
    → left text at ≡ line_fields (line_at text at) ∷ left text (at + length (line_at text at))
left-line text at short plain inside =
    let next = drop_more text at 0 short in
    let rest : has_quote (get_or text at 0 ∷ drop (at + 1) text) ≡ false =
    subst (λ (xs : List ℕ). has_quote xs ≡ false) next (drop-plain text at plain) in
    let line = subst (λ (xs : List ℕ). records default_config xs
    ≡ line_fields (line_of xs) ∷ records default_config (drop (length (line_of xs)) xs)) (sym next)
    (records-line (get_or text at 0) (drop (at + 1) text) rest inside) in
    line ∙ ap (λ (xs : List ℕ). line_fields (line_of (drop at text)) ∷ records default_config xs)
    (drop-drop (length (line_at text at)) at text)

line-at-some : (text : List ℕ) (at : ℕ) → at < length text → ends_line (get_or text at 0) ≡ false → 0 < length (line_at text at)
line-at-some text at short inside = rw (drop_more text at 0 short) (line-some (get_or text at 0) (drop (at + 1) text) inside)

-- the row that a line is comes next, and the others behind it
row-next : (text : List ℕ) (at length_of : ℕ) (rows : List Row) (row : Row) → at < length text → has_quote text ≡ false
    → ends_line (get_or text at 0) ≡ false → row ≡ line_fields (line_at text at) → length_of ≡ length (line_at text at)
    → records default_config text ≡ rows ++ left text at → records default_config text ≡ rows ++ row ∷ left text (at + length_of)
row-next text at length_of rows row short plain inside row_is length_is so_far =
    rw (row_is, length_is) (so_far ∙ ap (λ (rest : List Row). rows ++ rest) (left-line text at short plain inside))

-- behind the last byte there are none
all-taken : (text : List ℕ) (at : ℕ) (rows : List Row) → length text ≤ at → records default_config text ≡ rows ++ left text at
    → rows ≡ records default_config text
all-taken text at rows over so_far =
    sym (so_far ∙ ap (λ (xs : List ℕ). rows ++ records default_config xs) (drop_all at text over)
    ∙ ap (λ (rest : List Row). rows ++ rest) records-none ∙ append-nil rows)

pub loop-at-preserved-then-ends_line : goal.loop-at-preserved-then-ends_line
loop-at-preserved-then-ends_line c =
    let inv = c.loop-at.invariant in
    let text : List ℕ = c.args.text.now in
    let blank = left-blank text c.loop-at.at c.loop-at-test.true (sym c.ends_line.ensures ∙ c.if-ends_line.true) in
    (inv.0, inv.1, inv.2, omega (arith, inv.3), omega arith, inv.5 ∙ ap (λ (rest : List Row). inv.0 ++ rest) blank)

line-within : (text : List ℕ) (at length_of : ℕ) → at < length text → length_of ≡ length (line_at text at) → at + length_of ≤ length text
line-within text at length_of short is =
    let few = line-short (drop at text) in
    omega (arith, few, length-drop at text)

pub overflow_add-at-in-Ok : goal.overflow_add-at-in-Ok
overflow_add-at-in-Ok c =
    let small = c.requires.small in
    let size = rw (take_rest c.args.text.now c.loop-at.at) at c.in-Ok.ensures.1 in
    let within = line-within c.args.text.now c.loop-at.at c.in-Ok.length c.loop-at-test.true size in
    omega (arith, small, within)

pub loop-at-preserved : goal.loop-at-preserved
loop-at-preserved c =
    let inv = c.loop-at.invariant in
    let text : List ℕ = c.args.text.now in
    let at : ℕ = c.loop-at.at in
    let row : Row = line_fields (line_at text at) in
    let short = c.loop-at-test.true in
    let inside = sym c.ends_line.ensures ∙ c.if-ends_line.false in
    let taken = rw (take_rest text at) at (c.in-Ok.ensures.0 inv.0 inv.1).1 in
    let size = rw (take_rest text at) at c.in-Ok.ensures.1 in
    let some = line-at-some text at short inside in
    let next = row-next text at c.in-Ok.length inv.0 row short c.requires.plain inside refl size inv.5 in (
      inv.0 ++ row ∷ [],
      taken,
      omega (arith, inv.2, length-append inv.0 (row ∷ [])),
      omega (arith, inv.3, some, size),
      line-within text at c.in-Ok.length short size,
      next ∙ sym (append_assoc inv.0 (row ∷ []) (left text (at + c.in-Ok.length))),
    )

pub returns-in-Err : goal.returns-in-Err
returns-in-Err c =
    let inv = c.loop-at.invariant in
    let text : List ℕ = c.args.text.now in
    let at : ℕ = c.loop-at.at in
    let row : Row = line_fields (line_at text at) in
    let refused = rw (take_rest text at) at (c.in-Err.ensures inv.0 inv.1) in
    let next = row-next text at (length (line_at text at)) inv.0 row c.loop-at-test.true c.requires.plain
    (sym c.ends_line.ensures ∙ c.if-ends_line.false) refl refl inv.5 in
    rw c.at.ensures (refused-at c.take_line.new.self (records default_config text) inv.0 (left text (at + length (line_at text at))) row
    c.loop-at.taken c.in-Err.fault inv.1.accepted next inv.2 refused)

pub returns : goal.returns
returns c =
    let inv = c.loop-at.invariant in
    let text : List ℕ = c.args.text.now in
    subst (λ (rows : List Row). AnswersFile c.finish.result (network_or_refusal why_refused why.Empty rows))
    (all-taken text c.loop-at.at inv.0 c.loop-at-test.false inv.5) (c.finish.ensures inv.0 inv.1 inv.2)
