-- The words of a command are read as it.
use Rattle.std.proofs.Common.{ℕ, ◌≡◌, ◌≢◌, ◌∙◌, ◌+◌, ◌-◌, ◌<◌, ◌≤◌, ◌==◌, false, List, [], ◌∷◌, ◌++◌, All, length, codes, refl, sym, ap, arith}
use Rattle.std.specs.Prelude.{decimal, slice_index}
use Rattle.std.specs.List.{slice_split}
use Rattle.std.specs.Str.Lines.{strip_carriage_return}
use Rattle.std.proofs.lemmas.Bool.{ne_eqb}
use Rattle.std.proofs.lemmas.List.{get_or-append_right, length-append}
use Rattle.std.proofs.lemmas.List.Elements.{All-append, All-cons, All-weaker}
use Rattle.std.proofs.lemmas.List.Splits.{slice_split_at}
use Rattle.nrm_text.specs.ReadBack.{HasNone}
use Rattle.nrm_text.proofs.ReadBack.{names, numbers, texts-words}
use Rattle.nrm_stream.specs.Commands.{WrittenCommandsAreRead, command_of_words}
use Rattle.nrm_stream.specs.declared.command.Command.TheVariants as command
use Rattle.nrm_stream.proofs.FirstWords.{booking-words, cancellation-words, leg-words, reoptimisation-words}

-- a line that ends with a word without a carriage return stays as it is
stays : (front word : List ℕ) → HasNone 13 word → strip_carriage_return (front ++ 32 ∷ word) ≡ front ++ 32 ∷ word
stays front word none =
    let long = length-append front (32 ∷ word) in
    let last = get_or-append_right front (32 ∷ word) (length front) (length (front ++ 32 ∷ word) - 1) 0 refl (omega arith) in
    let own = All-cons (λ b. b ≢ 13) 32 word (λ e. cc) none (length (front ++ 32 ∷ word) - 1 - length front) 0 (omega arith) in
    let other : (slice_index (front ++ 32 ∷ word) (length (front ++ 32 ∷ word) - 1) == 13) ≡ false = ne_eqb _ 13 (λ e. own (sym last ∙ e)) in
    rw other refl

pub written-read : WrittenCommandsAreRead
written-read (command.Book product party) is named =
    let word = texts-words.1 product named in
    let line = stays (codes "book" ++ 32 ∷ product) (decimal party) (texts-words.0 party (omega arith)).returns in
    let apart = slice_split_at (λ c. c == 32) product 32 (decimal party) (All-weaker (λ b. b ≢ 32) (λ b. (b == 32) ≡ false) (λ b other. ne_eqb b 32 other) product word.spaces) refl in
    let number = (numbers party (omega arith)).between 1 999 (omega arith) (omega arith) in
    ap (λ (l : List ℕ). command_of_words (slice_split (λ c. c == 32) l)) line
    ∙ ap (λ (parts : List (List ℕ)). command_of_words (codes "book" ∷ parts)) apart ∙ booking-words product (decimal party)
    ∙ rw (names product named, number) refl
written-read (command.Cancel number) is named =
    let line = stays (codes "cancel") (decimal number) (texts-words.0 number (omega arith)).returns in
    let back = (numbers number (omega arith)).between 0 999999999999 (omega arith) (omega arith) in
    ap (λ (l : List ℕ). command_of_words (slice_split (λ c. c == 32) l)) line ∙ cancellation-words (decimal number) ∙ rw back refl
written-read (command.Reoptimise period) is named =
    let line = stays (codes "reoptimise") (decimal period) (texts-words.0 period (omega arith)).returns in
    let back = (numbers period (omega arith)).between 1 99 (omega arith) (omega arith) in
    ap (λ (l : List ℕ). command_of_words (slice_split (λ c. c == 32) l)) line ∙ reoptimisation-words (decimal period) ∙ rw back refl
written-read (command.Leg name) is named =
    let line = stays (codes "leg") name (texts-words.1 name named).returns in
    ap (λ (l : List ℕ). command_of_words (slice_split (λ c. c == 32) l)) line ∙ leg-words name ∙ rw (names name named) refl
written-read command.Hindsight is named = refl
written-read command.Plan is named = refl
written-read command.Bad is named = refl
