-- Where no quote is found there is none.
use Rattle.std.proofs.Common.{ℕ, ◌≡◌, ◌<◌, ◌==◌, suc, Bool, true, false, List, [], ◌∷◌, length, refl, arith, inl, inr, get_or, Option, Some, None}
use Rattle.std.specs.Option.{is_some}
use Rattle.std.proofs.lemmas.Bool.{cases_Bool}
use Rattle.std.specs.List.{list_any}
use Rattle.memchr.specs.Find.{IsFirstByte, is_byte}
use Rattle.nrm_network.specs.Inner.Lines.{has_quote}
use Rattle.nrm_network.proofs.reading.is_plain.Goals as goal

nowhere-none : (p : ℕ → Bool) (xs : List ℕ) → ((k : ℕ) → k < length xs → p (get_or xs k 0) ≡ true → ⊥) → list_any p xs ≡ false
nowhere-none p [] none = refl
nowhere-none p (c ∷ rest) none =
    elim (cases_Bool (p c)) [
      | inl hit ↦ absurd (none 0 (omega arith) hit)
      | inr other ↦
          let differs = other in
          rw differs (nowhere-none p rest (λ k short hit. none (suc k) (omega arith) hit))
    ]

plain : (text : List ℕ) (place : Option ℕ) → IsFirstByte (is_byte 34) text place → is_some place ≡ false → has_quote text ≡ false
plain text None none missing = nowhere-none (λ c. c == 34) text (λ k short hit. none k (omega arith) short hit)
plain text (Some k) first found = absurd (cc found)

pub returns : goal.returns
returns c = λ yes. plain c.args.bytes.now c.memchr.result c.memchr.ensures (rw yes at c.is_none.ensures)
