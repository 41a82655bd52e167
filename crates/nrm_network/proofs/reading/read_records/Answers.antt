-- The rows that were read so far are the first of the file, and the draft stands for them.
use Rattle.std.proofs.Common.{Bor, List, ℕ, ◌≡◌, ◌∙◌, ◌++◌, ◌∷◌, [], ◌≤◌, sym, refl, subst, arith, inl, inr, Some, length}
use Rattle.std.proofs.Common.{append_assoc, length-append}
use Rattle.csv.specs.Reading.{Reached, default_config, strip_bom}
use Rattle.csv.specs.Records.{fields_of}
use Rattle.csv.specs.declared.parser.State.{State}
use Rattle.csv.specs.declared.parser.State.TheVariants as st
use Rattle.csv.proofs.ReadFacts.{rows-end, rows-more}
use Rattle.nrm_network.specs.Answer.{AnswersFile}
use Rattle.nrm_network.specs.Checks.{why_refused}
use Rattle.nrm_network.specs.File.{network_or_refusal}
use Rattle.nrm_network.specs.Rows.{Row, rows_of}
use Rattle.nrm_network.specs.declared.fault.Why.TheVariants as why
use Rattle.nrm_network.proofs.CsvRows.{records-front, records-read, strip-shortens}
use Rattle.nrm_network.proofs.RefusalPlace.{refused-at}
use Rattle.nrm_network.proofs.reading.read_records.Goals as goal
use Rattle.nrm_network.proofs.reading.read_records.Goals.{At-loop-row, In_ok-read_byte_record}

-- how many rows were read
few-rows : (bytes y : List ℕ) (taken : ℕ) (rows : List Row) (s : State) → length bytes ≤ 4194304
    → Reached default_config st.StartRecord (strip_bom bytes) rows s y → taken ≡ length rows → taken ≤ 4194304
few-rows bytes y taken rows s small reached is =
    let (rest, are, few) = records-front (strip_bom bytes) y s rows reached in
    omega (arith, few, strip-shortens bytes)

-- the rows are those that were read, the row that was read last, and others
rows-front : (bytes y : List ℕ) (rows : List Row) (row : Row) (s : State)
    → Reached default_config st.StartRecord (strip_bom bytes) (rows ++ row ∷ []) s y
    → (rest : List Row) × (rows_of bytes ≡ rows ++ row ∷ rest)
rows-front bytes y rows row s reached =
    let (rest, are, few) = records-front (strip_bom bytes) y s (rows ++ row ∷ []) reached in
    (rest, are ∙ append_assoc rows (row ∷ []) rest)

pub loop-row-init : goal.loop-row-init
unfolding Reached
loop-row-init c =
    let fr = c.from_reader-rdr.ensures in
    let set = c.flexible.ensures in
    let named = c.in_ok-set_byte_headers.ensures in
    let same = named.same in (
      rw same (rw set at fr.trim ∙ c.new.ensures.trim),
      inr (inl (rw same (rw set at fr.has_headers ∙ c.new.ensures.has_headers), named.set)),
      rw same (rw set at fr.config ∙ c.new.ensures.config),
      strip_bom c.args.bytes.now,
      [],
      rw same fr.source,
      (rw same (sym fr.state), refl),
      c.new-draft.ensures,
      refl,
    )

few-taken : (c : At-loop-row) → c.loop-row.taken ≤ 4194304
few-taken c =
    let inv = c.loop-row.invariant in
    few-rows c.args.bytes.now inv.3 c.loop-row.taken inv.4 c.loop-row.rdr.state c.requires inv.6 inv.8

pub overflow_add-taken : goal.overflow_add-taken
overflow_add-taken c = let few = few-taken (goal.at.overflow_add-taken c).At-loop-row in omega (arith, few)

pub loop-row-smaller : goal.loop-row-smaller
loop-row-smaller c = let few = few-taken (goal.at.loop-row-smaller c).At-loop-row in omega (arith, few)

pub finish-requires-clause-few : goal.finish-requires-clause-few
finish-requires-clause-few c = let few = few-taken (goal.at.finish-requires-clause-few c).At-loop-row in omega (arith, few)

pub returns-in-Err : goal.returns-in-Err
returns-in-Err c =
    let inv = c.loop-row.invariant in
    let row : Row = fields_of c.read_byte_record.new.row in
    let s = rw c.if-branch.true at (c.in_ok-read_byte_record.ensures.reads inv.0 inv.1) in
    let m = rows-more (λ (s : Bor (List ℕ)). Some s.now) c.loop-row.rdr c.read_byte_record.new.self row default_config st.StartRecord
    (strip_bom c.args.bytes.now) inv.3 inv.4 inv.2 inv.5 inv.6 s in
    let (rest, are) = rows-front c.args.bytes.now m.0 inv.4 row c.read_byte_record.new.self.state m.2 in
    rw c.at.ensures (refused-at c.take.new.self (rows_of c.args.bytes.now) inv.4 rest row c.loop-row.taken c.in-Err.fault inv.7.accepted are inv.8
    (c.in-Err.ensures inv.4 inv.7))

pub loop-row-preserved : goal.loop-row-preserved
loop-row-preserved c =
    let inv = c.loop-row.invariant in
    let row : Row = fields_of c.read_byte_record.new.row in
    let s = rw c.if-branch.true at (c.in_ok-read_byte_record.ensures.reads inv.0 inv.1) in
    let m = rows-more (λ (s : Bor (List ℕ)). Some s.now) c.loop-row.rdr c.read_byte_record.new.self row default_config st.StartRecord
    (strip_bom c.args.bytes.now) inv.3 inv.4 inv.2 inv.5 inv.6 s in (
      s.3 ∙ inv.0,
      inl (c.in_ok-read_byte_record.ensures.ready inv.0),
      s.2
          ∙ inv.2,
      m.0,
      inv.4 ++ row ∷ [],
      m.1,
      m.2,
      (c.in_default.ensures inv.4 inv.7).1,
      omega (arith, inv.8, length-append inv.4 (row ∷ [])),
    )

pub returns : goal.returns
returns c =
    let inv = c.loop-row.invariant in
    let s = rw c.if-branch.false at (c.in_ok-read_byte_record.ensures.reads inv.0 inv.1) in
    let are = records-read (strip_bom c.args.bytes.now) inv.4 (
      c.loop-row.rdr.state,
      inv.3,
      inv.6,
      rows-end (λ (s : Bor (List ℕ)). Some s.now) c.loop-row.rdr c.read_byte_record.new.self
          (fields_of c.read_byte_record.new.row) default_config inv.3 inv.2 inv.5 s,
    ) in
    subst (λ (rows : List Row). AnswersFile c.finish.result (network_or_refusal why_refused why.Empty rows)) are
    (c.finish.ensures inv.4 inv.7 inv.8)
