-- The numbers that are put are those that were asked for.
use Rattle.std.proofs.Common.{arith, ◌≡◌, sym, ap, ◌∙◌, length, unsigned_abs, to_z-of_z}
use Rattle.nrm_fraction.specs.Large.{first_reaching, size_limit}
use Rattle.nrm_row.specs.Inner.Crossed.{crossed, shrunk}
use Rattle.nrm_row.proofs.Combining.{written_over}
use Rattle.nrm_row.proofs.crossed.crossed_numbers.Goals as goal

pub returns-in-None : goal.returns-in-None
returns-in-None c =
    let old : c.deref_mut.result.now ≡ c.args.xs.now = c.deref_mut.ensures.value ∙ c.in_ok-made.ensures.items in
    let items : length c.in_ok-made.made.items ≡ length c.args.xs.now = ap length c.in_ok-made.ensures.items in
    let longs : length c.deref_mut.result.now ≡ length c.args.xs.now = ap length old in (
      written_over c.put_crossed.new.xs c.in_ok-made.made.items c.in_ok-made.made.len (omega arith) (omega (arith, c.in_ok-made.ensures.len))
          ∙ c.in-None.ensures.numbers ∙ (λ i. shrunk (unsigned_abs (to_z-of_z c.ranges.g i)) (crossed (to_z-of_z c.ranges.a i) (to_z-of_z c.ranges.e i) c.args.us.now (old i))),
      sym (c.in-None.ensures.large ∙ (λ i. first_reaching size_limit (shrunk (unsigned_abs (to_z-of_z c.ranges.g i)) (crossed (to_z-of_z c.ranges.a i) (to_z-of_z c.ranges.e i) c.args.us.now (old i))))),
    )
