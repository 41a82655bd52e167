-- Where a file is refused, by the rows that were accepted before: nowhere, at the place after the last row, or at the next row.
use Rattle.std.proofs.Common.{ℕ, ◌≡◌, ◌∙◌, ◌+◌, true, false, Err, List, [], ◌∷◌, ◌++◌, length, sym, ap, subst, refl, Option, Some, None}
use Rattle.std.proofs.Common.{append_assoc}
use Rattle.std.proofs.lemmas.List.{append-nil}
use Rattle.std.specs.Prelude.{Ok}
use Rattle.std.specs.Option.{option_map_or}
use Rattle.nrm_network.specs.Answer.{AnswersFile}
use Rattle.nrm_network.specs.Checks.{why_refused}
use Rattle.nrm_network.specs.Rows.{Row}
use Rattle.nrm_network.specs.Inner.Draft.{Accepts, TakesRow}
use Rattle.nrm_network.specs.Inner.Faults.{fault_at}
use Rattle.nrm_network.specs.File.{Refusal, lacks_a_kind, network_of, network_or_refusal, refusal_after}
use Rattle.nrm_network.specs.declared.draft.Draft.{Draft}
use Rattle.nrm_network.specs.declared.fault.RowRefusal.{RowRefusal}
use Rattle.nrm_network.specs.declared.fault.RowRefusal.TheVariants as fault
use Rattle.nrm_network.specs.declared.fault.Why.{Why}
use Rattle.nrm_network.specs.declared.fault.Why.TheVariants as why

pub Accepts-append : (cause : List Row → Row → Option Why) (before xs ys : List Row) → Accepts cause before xs
    → Accepts cause (before ++ xs) ys → Accepts cause before (xs ++ ys)
Accepts-append cause before [] ys first rest = rw append-nil at rest
Accepts-append cause before (x ∷ xs) ys first rest = (
  first.0,
  Accepts-append cause (before ++ x ∷ []) xs ys first.1
      (subst (λ (b : List Row). Accepts cause b ys) (sym (append_assoc before (x ∷ []) xs)) rest),
)

pub refusal_after-none : (cause : List Row → Row → Option Why) (lacking : Why) (before rows : List Row) → Accepts cause before rows
    → lacks_a_kind (before ++ rows) ≡ false
    → refusal_after cause lacking before rows ≡ None
refusal_after-none cause lacking before [] all whole = let e : lacks_a_kind before ≡ false = rw append-nil at whole in rw e refl
refusal_after-none cause lacking before (row ∷ rest) all whole =
    let first = all.0 in
    rw first (refusal_after-none cause lacking (before ++ row ∷ []) rest all.1
    (subst (λ (b : List Row). lacks_a_kind b ≡ false) (sym (append_assoc before (row ∷ []) rest)) whole))

-- where a kind is lacking after them
pub refusal_after-end : (cause : List Row → Row → Option Why) (lacking : Why) (before rows : List Row) → Accepts cause before rows
    → lacks_a_kind (before ++ rows) ≡ true
    → refusal_after cause lacking before rows ≡ Some (length (before ++ rows) + 1, lacking)
refusal_after-end cause lacking before [] all whole =
    let e : lacks_a_kind before ≡ true = rw append-nil at whole in
    rw e (ap (λ (r : List Row). Some (length r + 1, lacking)) (sym (append-nil before)))
refusal_after-end cause lacking before (row ∷ rest) all whole =
    let first = all.0 in
    rw first (refusal_after-end cause lacking (before ++ row ∷ []) rest all.1
    (subst (λ (b : List Row). lacks_a_kind b ≡ true) (sym (append_assoc before (row ∷ []) rest)) whole)
    ∙ ap (λ (r : List Row). Some (length r + 1, lacking)) (append_assoc before (row ∷ []) rest))

-- and where the next row is refused
pub refusal_after-row : (cause : List Row → Row → Option Why) (lacking w : Why) (before rows : List Row) (row : Row) (rest : List Row)
    → Accepts cause before rows → cause (before ++ rows) row ≡ Some w
    → refusal_after cause lacking before (rows ++ row ∷ rest) ≡ Some (length (before ++ rows) + 1, w)
refusal_after-row cause lacking w before [] row rest all refused =
    let e : cause before row ≡ Some w = rw append-nil at refused in
    rw e (ap (λ (r : List Row). Some (length r + 1, w)) (sym (append-nil before)))
refusal_after-row cause lacking w before (r ∷ rows) row rest all refused =
    let first = all.0 in
    rw first (refusal_after-row cause lacking w (before ++ r ∷ []) rows row rest all.1
    (subst (λ (b : List Row). cause b row ≡ Some w) (sym (append_assoc before (r ∷ []) rows)) refused)
    ∙ ap (λ (x : List Row). Some (length x + 1, w)) (append_assoc before (r ∷ []) rows))

-- so a row that isn't taken decides the file
pub refused-at : (after : Draft) (all taken rest : List Row) (row : Row) (n : ℕ) (f : RowRefusal) → Accepts why_refused [] taken
    → all ≡ taken ++ row ∷ rest → n ≡ length taken → TakesRow after taken row (Err f)
    → AnswersFile (Err (fault_at (n + 1) f)) (network_or_refusal why_refused why.Empty all)
refused-at after all taken rest row n (fault.Refused w) accepted are count takes =
    ap (λ (rows : List Row). network_or_refusal why_refused why.Empty rows) are
    ∙ ap (λ (r : Option Refusal). option_map_or (λ (refusal : Refusal). Err refusal) r (Ok (network_of (taken ++ row ∷ rest))))
    (refusal_after-row why_refused why.Empty w [] taken row rest accepted takes)
    ∙ ap (λ (m : ℕ). Err (m + 1, w)) (sym count)
refused-at after all taken rest row n fault.NoMemory accepted are count takes = tt
