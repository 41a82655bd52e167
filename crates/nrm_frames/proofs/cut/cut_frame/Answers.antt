-- What is cut off, by the first line.
use Rattle.std.proofs.Common.{◌≡◌, ◌∙◌, false, length, nat_lt, true, sym, arith}
use Rattle.nrm_frames.specs.declared.limits.TheConstants.{MOST_HEADER}
use Rattle.nrm_frames.proofs.Lines.{all-behind, few-behind, long-line, no-header, no-line-few, no-line-many}
use Rattle.nrm_frames.proofs.cut.cut_frame.Goals as goal

pub returns-then-is_short : goal.returns-then-is_short
returns-then-is_short c = no-line-few c.args.bytes.now c.in_default.ensures (sym c.is_short.ensures ∙ c.if-is_short.true)

pub returns-else-is_short : goal.returns-else-is_short
returns-else-is_short c = no-line-many c.args.bytes.now c.in_default.ensures (sym c.is_short.ensures ∙ c.if-is_short.false)

pub returns-then-not-is_short : goal.returns-then-not-is_short
returns-then-not-is_short c =
    let long : nat_lt (length c.in-Some.line.now) MOST_HEADER ≡ false = cc in
    long-line c.args.bytes.now c.in-Some.line.now c.in-Some.behind.now c.in-Some.ensures.0 long

pub returns-in_default-header_of : goal.returns-in_default-header_of
returns-in_default-header_of c =
    let short : nat_lt (length c.in-Some.line.now) MOST_HEADER ≡ true = cc in
    no-header c.args.bytes.now c.in-Some.line.now c.in-Some.behind.now c.in-Some.ensures.0 short (sym c.in_default-header_of.ensures)

pub returns-then-behind-size : goal.returns-then-behind-size
returns-then-behind-size c =
    let short : nat_lt (length c.in-Some.line.now) MOST_HEADER ≡ true = cc in
    few-behind c.args.bytes.now c.in-Some.line.now c.in-Some.behind.now c.in-Some.ensures.0 short c.in-Some-header_of.header
    (sym c.in-Some-header_of.ensures) (omega (arith, c.size-size.ensures))

pub returns : goal.returns
returns c =
    let short : nat_lt (length c.in-Some.line.now) MOST_HEADER ≡ true = cc in
    rw c.size-size.ensures
    (all-behind c.args.bytes.now c.in-Some.line.now c.in-Some.behind.now c.in-Some.ensures.0 short c.in-Some-header_of.header
    (sym c.in-Some-header_of.ensures) (omega (arith, c.size-size.ensures)))
