-- The legs read in place are those of the list that contracts see.
use Rattle.std.proofs.Common.{◌≡◌, ◌<◌, ◌∙◌, refl, sym, ap, arith, length, map, slice_get, Some, ℕ, List, get_or, Vec, Global}
use Rattle.std.specs.Option.{option_map}
use Rattle.std.proofs.lemmas.List.{length-map}
use Rattle.std.proofs.lemmas.Option.{slice_get-map, slice_get_read}
use Rattle.nrm_lp.proofs.Optimal.{lengths_are}
use Rattle.nrm_lp.proofs.program.Program.legs_of.Goals as goal

read_of_map : (xs : List (Vec ℕ Global)) (k : ℕ) (x : Vec ℕ Global) → k < length xs → x ≡ get_or xs k x → Some x.items ≡ slice_get (map (λ v. v.items) xs) k
read_of_map xs k x l e = sym (slice_get-map (λ v. v.items) xs k ∙ ap (option_map (λ v. v.items)) (slice_get_read xs (length xs) k x refl l e))

pub returns-clause-legs : goal.returns-clause-legs
returns-clause-legs c =
    let p = c.self.inside in
    let counts = lengths_are (length p.caps.items) p.bounds.items p.fares.items (map (λ v. v.items) p.legs.items) c.self.invariant.products in
    let counted : length (map (λ v. v.items) p.legs.items) ≡ length p.legs.items = length-map p.legs.items (λ v. v.items) in
    let bounded : length c.args.self.now.bounds ≡ length p.bounds.items = ap (λ a. length a.bounds) (sym c.self.view_is) in
    ap Some c.as_slice.ensures.value ∙ read_of_map p.legs.items c.args.j c.index.result.now (omega (arith, counts.1)) c.index.ensures ∙ ap (λ a. slice_get a.legs c.args.j) c.self.view_is
