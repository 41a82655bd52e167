-- The new name joins behind the others, and then takes the place of the old one.
use Rattle.std.proofs.Common.{ℕ, List, Option, Some, None, [], ◌≡◌, ◌+◌, ◌<◌, ◌∷◌, ◌++◌, ◌∙◌, ap, arith, bytes_eq, get_or, length, length-append, subst, sym}
use Rattle.std.proofs.lemmas.Option.{slice_get-get_or}
use Rattle.std.specs.Prelude.{IfSome, slice_get, slice_set, swap_remove}
use Rattle.indexmap.specs.IndexSet.{insert_key}
use Rattle.nrm_model.proofs.NameLemmas.{in-its-place, insert_key-new}
use Rattle.nrm_model.proofs.names.NameTable.rename.Goals as goal

none-apart : {A : Type 0} {x : A} → None ≡ Some x → ⊥
none-apart same = absurd (cc)

-- a name that was there was taken out
taken-out : (keys new : List (List ℕ)) (i : ℕ) (taken : Option (List ℕ)) → i < length keys → taken ≡ slice_get keys i
    → IfSome taken (λ k. new ≡ swap_remove keys i k) → (k : List ℕ) × (new ≡ swap_remove keys i k)
taken-out keys new i (Some k) short is out = (k, out)
taken-out keys new i None short is out = absurd (none-apart (is ∙ slice_get-get_or keys i [] short))

pub returns-clause-renamed : goal.returns-clause-renamed
returns-clause-renamed c =
    let old : List (List ℕ) = c.args.self.now in
    let more : List (List ℕ) = old ++ c.args.name ∷ [] in
    let keys : c.insert.new.self.keys ≡ more =
    c.in_ok-insert.ensures.keys ∙ ap (λ (names : List (List ℕ)). insert_key bytes_eq names c.args.name) c.self.view_is
    ∙ insert_key-new old c.args.name c.requires.new in
    let long : length c.insert.new.self.keys ≡ length old + 1 = ap (λ (names : List (List ℕ)). length names) keys ∙ length-append old (c.args.name ∷ []) in
    let out = taken-out c.insert.new.self.keys c.swap_remove_index.new.self.keys c.args.number c.swap_remove_index.result
    (omega (arith, long, c.requires.there)) c.swap_remove_index.ensures.key c.swap_remove_index.ensures.keys in
    out.1 ∙ ap (λ (names : List (List ℕ)). swap_remove names c.args.number out.0) keys
    ∙ in-its-place old c.args.number c.args.name out.0 c.requires.there
