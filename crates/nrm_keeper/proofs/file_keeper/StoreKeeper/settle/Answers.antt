use Rattle.std.proofs.Common.{◌≡◌, Bool, false, Option, Some, None, Ok, Err, Result, OnOk, IfSome, IsTrue, refl}
use Rattle.nrm_keeper.proofs.FileLemmas.{settled_by}
use Rattle.nrm_keeper.proofs.file_keeper.StoreKeeper.settle.Goals as goal

on_ok : {T E P : Type 0} (r : Result T E) → P → OnOk r P
on_ok (Ok x) p = p
on_ok (Err e) p = tt

-- a file that was not lost leaves nothing in doubt
undoubted : {D : Type 0} (N : D → Type 0) (doubt : Option D) (lost : Bool) → IfSome doubt (λ d. N d × IsTrue lost) → lost ≡ false → doubt ≡ None
undoubted N None lost it found = refl
undoubted N (Some d) lost it found = absurd (let l = it.1 in cc)

pub returns-then-is_ok-clause-done : goal.returns-then-is_ok-clause-done
returns-then-is_ok-clause-done g c = on_ok c.undo-undone.result
    (settled_by g.O.Opener.first g.T.Store c.self.inside.lost c.self.inside.connection c.open_if_shut.new.connection c.undo-undone.new.connection c.self.inside.doubt _ c.self.inside.faults _ c.args.self.now c.self.view_is
    c.open_if_shut.ensures.stays c.open_if_shut.ensures.first c.in_ok-open_if_shut.ensures.there (λ found. c.undo-undone.ensures.nothing (undoubted _ c.self.inside.doubt c.self.inside.lost c.self.invariant.1 found)))
