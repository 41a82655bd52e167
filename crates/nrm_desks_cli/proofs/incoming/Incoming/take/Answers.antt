use Rattle.std.proofs.Common.{ℕ, ◌≡◌, ◌∙◌, ◌+◌, ◌-◌, ◌<◌, ◌≤◌, List, length, take, ap, sym, arith, refl}
use Rattle.std.proofs.lemmas.List.{length-take-le, with_items_is}
use borrow.Rule.Slice.PartMut.{mid_of, put_mid}
use Rattle.nrm_desks_cli.proofs.Buffers.{into-size, taken-behind, whole-size}
use Rattle.nrm_desks_cli.proofs.incoming.Incoming.take.Goals as goal

pub returns-clause-takes : goal.returns-clause-takes
returns-clause-takes g c =
    let xs : List ℕ = c.deref_mut.result.now in
    let into : List ℕ = c.take.new.into in
    let e : ℕ = c.self.inside.end - c.self.inside.start in
    let k : ℕ = length xs - e in
    let v = c.move_front.new.bytes in
    let count : ℕ = c.in_ok-count.count in
    let same : xs ≡ v.items = c.deref_mut.ensures.value in
    let front : take e xs ≡ c.args.self.now = ap (take e) same ∙ c.move_front.ensures.front ∙ c.self.view_is in
    let within : e ≤ length xs = let long = ap length same in omega arith in
    let size : length into ≡ length (mid_of e k xs) = c.take.auto.into in
    let length_is : length (put_mid e k xs into) ≡ v.len = whole-size c.args.self.now xs into e k count front within refl size ∙ ap length same ∙ sym v.ok.0 in
    let few : count ≤ length into = c.in_ok-count.ensures.room in
    let many = into-size c.args.self.now xs into e k count front within refl size in
    let long = ap length same ∙ c.move_front.ensures.len ∙ c.self.invariant.0 in
    let waits = sym (ap length front) ∙ length-take-le e xs within in
    let room : 0 < length into = let few = c.requires in omega arith in (
      take count into,
      ap (take (e + count)) (with_items_is v (put_mid e k xs into) length_is) ∙ taken-behind c.args.self.now xs into e k count front within refl size few,
      length-take-le count into few,
      c.in_ok-count.ensures.bytes.0,
      λ none. c.in_ok-count.ensures.bytes.1 none room,
    )
